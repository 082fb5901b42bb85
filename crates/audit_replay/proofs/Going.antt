-- What a replay gives to the parts of an event at a place.
use Rattle.std.proofs.Common.{◌≡◌, ◌∙◌, ap, refl, sym, subst, ℕ, zero, suc, ◌<◌, ◌≤◌, true, List, [], ◌∷◌, ◌++◌, take, length, arith}
use Rattle.std.specs.Prelude.{slice_get}
use Rattle.def_history.specs.Cores.{machine}
use Rattle.def_machine.specs.Standings.{is_ready, standing}
use Rattle.def_machine.specs.Updates.{Settings, Deps}
use Rattle.def_chase.specs.Mappings.{Rule}
use Rattle.def_chase.specs.Values.{Fact}
use Rattle.audit_updates.specs.Updates.{AreFrom, update_of}
use Rattle.audit_updates.specs.Settings.{settings_of}
use Rattle.audit_updates.specs.declared.updates.AuditedUpdate.{AuditedUpdate}
use Rattle.audit_replay.specs.Places.{AreBetween}
use Rattle.audit_replay.specs.Prepared.{IsPreparedFor}
use Rattle.audit_replay.specs.Replays.{IsLeftOf, IsReplay}
use Rattle.audit_replay.specs.Restarts.{AllHaveOneMore}
use Rattle.audit_replay.specs.Steps.{AtPlace, IsPlanSomewhere, IsReadyOf, IsReadySomewhere}
use Rattle.audit_replay.specs.declared.replays.Replay.{Replay}
use Rattle.audit_replay.specs.declared.stepping.Prepared.{Prepared}
use Rattle.audit_replay.proofs.Making.{all_one_more, step_left}
use Rattle.audit_replay.proofs.Restarting.{all_between}

-- The first of a list and more, so many.
pub front : {A : Type 0} (xs ys : List A) (n : ℕ) → length xs ≡ n → take n (xs ++ ys) ≡ xs
front [] [] zero h = refl
front [] (y ∷ ys) zero h = refl
front [] ys (suc n) h = absurd (omega (arith, h))
front (x ∷ xs) ys zero h = absurd (omega (arith, h))
front (x ∷ xs) ys (suc n) h = ap (λ zs. x ∷ zs) (front xs ys n (omega (arith, h)))

-- What is left of a replay where its audited updates are these, and all else but its levels is as before.
pub left_with : (r r' : Replay) (rs : List AuditedUpdate) → r'.updates.items ≡ rs → AreFrom 1 rs → r'.mappings ≡ r.mappings → r'.budget ≡ r.budget → r'.settings ≡ r.settings → r'.handed ≡ r.handed → IsLeftOf r r'
left_with r r' rs e numbers mappings budget settings handed = record { mappings = mappings; budget = budget; settings = settings; handed = handed; numbers = subst (λ (qs : List AuditedUpdate). AreFrom 1 qs) (sym e) numbers }

module _ (r : Replay) (k : IsReplay r) (rs : List AuditedUpdate) (slice : rs ≡ r.updates.items) where
  pub its_numbers : AreFrom 1 rs
  its_numbers = subst (λ (qs : List AuditedUpdate). AreFrom 1 qs) (sym slice) k.replays.numbers

  pub its_between : AreBetween rs
  its_between = all_between 1 rs its_numbers

  pub its_more : AllHaveOneMore rs
  its_more = subst AllHaveOneMore (sym slice) (all_one_more k.over k.history r k.replays)

  pub is_within : (i : ℕ) → i < length r.updates.items → i < length rs
  is_within i l = subst (λ (qs : List AuditedUpdate). i < length qs) (sym slice) l

  pub is_most : (i : ℕ) → i < length r.updates.items → i ≤ length rs
  is_most i l = let m = is_within i l in omega (arith, m)

  pub is_ready_there : (i c n : ℕ) → AtPlace i r.updates.items (IsReadyOf (settings_of r.settings) c n) → AtPlace i rs IsReadySomewhere
  is_ready_there i c n ready x spot = record {
    rules = [];
    budget = 0;
    settings = settings_of r.settings;
    committed = c;
    number = n;
    ready = ready x (sym (ap (λ (qs : List AuditedUpdate). slice_get qs i) slice) ∙ spot) [] 0;
  }

  pub is_left_there : (i c n : ℕ) → AtPlace i r.updates.items (IsReadyOf (settings_of r.settings) c n) → AtPlace i rs (λ x. x.program.attempt.steps < r.budget)
  is_left_there i c n ready x spot =
      let at = sym (ap (λ (qs : List AuditedUpdate). slice_get qs i) slice) ∙ spot in
      step_left k.over k.history r k.replays i c n x at
      (subst (λ (s : Settings). is_ready (standing (machine k.over) s c n (update_of k.over.rules k.over.budget x)) ≡ true) k.replays.settings (ready x at k.over.rules k.over.budget))

-- What is prepared at a place is a plan there.
pub planned_there : (ms : List Rule) (B : ℕ) (deps : Deps) (c i : ℕ) (D : List Fact) (rs qs up : List AuditedUpdate) (p : Prepared) → qs ≡ rs → AtPlace i rs (λ r. IsPreparedFor ms B deps c r D up p) → AtPlace i qs (IsPlanSomewhere p.plan)
planned_there ms B deps c i D rs qs up p e is x spot = record { rules = ms; budget = B; below = D; planned = (is x (sym (ap (λ (ys : List AuditedUpdate). slice_get ys i) e) ∙ spot)).planned }
