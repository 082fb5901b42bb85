-- What a standing says of the update.
use Rattle.std.proofs.Common.{◌≡◌, ℕ, suc, ap, refl, List, [], ◌∷◌, Bool, true, false, not, ◌&&◌, Some, None, sym}
use Rattle.std.specs.Prelude.{if◌then◌else◌, Option, is_some}
use Rattle.std.proofs.lemmas.Bool.{or_from, both_ways}
use Rattle.std.proofs.lemmas.Option.{none-some}
use Rattle.def_machine.specs.Machine.{Machine, Outcome}
use Rattle.def_machine.specs.Updates.{Update, Settings, is_over}
use Rattle.def_machine.specs.Standings.{Lack, Missing, Misfit, Held, Withdrawn, unless_ended, unless_paused, lack, is_nil, is_held, standing, is_ready, is_paused, is_pending, Standing}

-- an update that may go on
pub record IsOpen (M : Machine) (s : Settings) (c n : ℕ) (u : Update M) : Type 0 where
  pub present : u.withdrawn ≡ false
  pub going : M.outcome u.state ≡ None
  pub free : is_held M s c n u ≡ false

pub not_over : (M : Machine) (s : Settings) (c n : ℕ) (u : Update M) → IsOpen M s c n u → is_over M u ≡ false
not_over M s c n u o = or_from _ _ o.present (ap (λ x. is_some x) o.going)

abbrev stands : Bool → Option Outcome → Bool → Option Lack → ℕ → Standing
stands w o h l c = if w then Withdrawn else unless_ended o (if h then Held c else unless_paused l)

ready_is : (w : Bool) (o : Option Outcome) (h : Bool) (l : Option Lack) (c : ℕ) → is_ready (stands w o h l c) ≡ true → (w ≡ false) × (o ≡ None) × (h ≡ false) × (l ≡ None)
ready_is true o h l c e = absurd (both_ways false refl e)
ready_is false (Some x) h l c e = absurd (both_ways false refl e)
ready_is false None true l c e = absurd (both_ways false refl e)
ready_is false None false (Some x) c e = absurd (both_ways false refl e)
ready_is false None false None c e = (refl, refl, refl, refl)

paused_is : (w : Bool) (o : Option Outcome) (h : Bool) (l : Option Lack) (c : ℕ) → is_paused (stands w o h l c) ≡ true → (w ≡ false) × (o ≡ None) × (h ≡ false) × ((x : Lack) × (l ≡ Some x))
paused_is true o h l c e = absurd (both_ways false refl e)
paused_is false (Some x) h l c e = absurd (both_ways false refl e)
paused_is false None true l c e = absurd (both_ways false refl e)
paused_is false None false None c e = absurd (both_ways false refl e)
paused_is false None false (Some x) c e = (refl, refl, refl, (x, refl))

pending_is : (w : Bool) (o : Option Outcome) (h : Bool) (l : Option Lack) (c : ℕ) → is_pending (stands w o h l c) ≡ true → (w ≡ false) × (o ≡ None) × (h ≡ false) × (l ≡ Some Missing)
pending_is true o h l c e = absurd (both_ways false refl e)
pending_is false (Some x) h l c e = absurd (both_ways false refl e)
pending_is false None true l c e = absurd (both_ways false refl e)
pending_is false None false None c e = absurd (both_ways false refl e)
pending_is false None false (Some Misfit) c e = absurd (both_ways false refl e)
pending_is false None false (Some Missing) c e = (refl, refl, refl, refl)

module _ (M : Machine) (s : Settings) (c n : ℕ) (u : Update M) where
  pub ready_parts : is_ready (standing M s c n u) ≡ true → IsOpen M s c n u × (lack M u.answers u.state ≡ None)
  ready_parts h =
      let p = ready_is u.withdrawn (M.outcome u.state) (is_held M s c n u) (lack M u.answers u.state) (suc c) h in
      (record { present = p.0; going = p.1; free = p.2 }, p.3)

  pub paused_parts : is_paused (standing M s c n u) ≡ true → IsOpen M s c n u × ((x : Lack) × (lack M u.answers u.state ≡ Some x))
  paused_parts h =
      let p = paused_is u.withdrawn (M.outcome u.state) (is_held M s c n u) (lack M u.answers u.state) (suc c) h in
      (record { present = p.0; going = p.1; free = p.2 }, p.3)

  pub pending_parts : is_pending (standing M s c n u) ≡ true → IsOpen M s c n u × (lack M u.answers u.state ≡ Some Missing)
  pending_parts h =
      let p = pending_is u.withdrawn (M.outcome u.state) (is_held M s c n u) (lack M u.answers u.state) (suc c) h in
      (record { present = p.0; going = p.1; free = p.2 }, p.3)

-- an open update that is neither ready nor deliverable stops for want of an answer
pub stopped_is : (w : Bool) (o : Option Outcome) (h : Bool) (l : Option Lack) (c : ℕ) {A : Type 0} (inbox : List A) → w ≡ false → o ≡ None → h ≡ false
    → is_ready (stands w o h l c) ≡ false → (is_pending (stands w o h l c) && not (is_nil inbox)) ≡ false → (x : Lack) × (l ≡ Some x) × (x ≡ Missing → inbox ≡ [])
stopped_is true o h l c inbox w e f r d = absurd (both_ways true w refl)
stopped_is false (Some x) h l c inbox w e f r d = absurd (none-some x (λ i. sym e i))
stopped_is false None true l c inbox w e f r d = absurd (both_ways true f refl)
stopped_is false None false None c inbox w e f r d = absurd (both_ways true r refl)
stopped_is false None false (Some Misfit) c inbox w e f r d = (Misfit, refl, λ g. absurd (misfit_missing g))
  where
    misfit_missing : ◌≡◌ {A = Lack} Misfit Missing → ⊥
    misfit_missing g = cc
stopped_is false None false (Some Missing) c [] w e f r d = (Missing, refl, λ g. refl)
stopped_is false None false (Some Missing) c (x ∷ xs) w e f r d = absurd (both_ways true d refl)
