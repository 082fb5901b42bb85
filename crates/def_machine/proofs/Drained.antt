-- A drain goes on by allowed events until it is quiet, within the work that is left.
use Rattle.std.proofs.Common.{◌≡◌, ℕ, zero, suc, ◌≤◌, ◌+◌, ap, sym, refl, subst, ◌∙◌, List, [], ◌∷◌, ◌++◌, append_assoc, append-nil, length, Bool, true, false, ◌&&◌, arith, Some, None}
use Rattle.std.specs.Prelude.{if◌then◌else◌, Option, is_some, is_none, slice_get}
use Rattle.std.proofs.lemmas.Bool.{both_ways}
use Rattle.std.proofs.lemmas.Option.{same_Some, none-some}
use Rattle.def_machine.specs.Machine.{Machine, Laws}
use Rattle.def_machine.specs.Updates.{Update, Session, Settings, committed}
use Rattle.def_machine.specs.Standings.{standing, is_ready, is_deliverable, lowest_that, lowest_ready, lowest_deliverable, is_quiet}
use Rattle.def_machine.specs.Effects.{Event, Steps, Delivers, Entry, Effect, effect}
use Rattle.def_machine.specs.Histories.{event_of, IsLegal}
use Rattle.def_machine.specs.Work.{work}
use Rattle.def_machine.specs.Drains.{step_or_deliver, next_turn, AreTurns, IsDrain, DrainLaw}
use Rattle.def_machine.proofs.Allowed.{allowed_law}
use Rattle.def_machine.proofs.Legal.{effect_records}
use Rattle.def_machine.proofs.Prefixes.{legal_law}
use Rattle.def_machine.proofs.Working.{work_law}

-- The update of this number passes; the first of the list is update n.
record Passes (M : Machine) (p : ℕ → Update M → Bool) (n : ℕ) (us : List (Update M)) (i : ℕ) : Type 0 where
  place : ℕ
  update : Update M
  number : i ≡ n + place
  there : slice_get us place ≡ Some update
  passes : p i update ≡ true

lowest_passes : (M : Machine) (p : ℕ → Update M → Bool) (n : ℕ) (us : List (Update M)) (i : ℕ) → lowest_that p n us ≡ Some i → Passes M p n us i
lowest_passes M p n [] i h = absurd (none-some i h)
lowest_passes M p n (u ∷ us) i h = by (p n u) refl h (λ g. lowest_passes M p (suc n) us i g)
  where
    by : (b : Bool) → p n u ≡ b → (if b then Some n else lowest_that p (suc n) us) ≡ Some i → (lowest_that p (suc n) us ≡ Some i → Passes M p (suc n) us i) → Passes M p n (u ∷ us) i
    by true e g rec = let same : n ≡ i = same_Some n i g in record { place = 0; update = u; number = omega (arith, same); there = refl; passes = ap (λ j. p j u) (sym same) ∙ e }
    by false e g rec =
        let r : Passes M p (suc n) us i = rec g in
        record { place = suc r.place; update = r.update; number = omega (arith, r.number); there = r.there; passes = r.passes }

some_is : {A : Type 0} (o : Option A) → is_some o ≡ true → (x : A) × (o ≡ Some x)
some_is None e = absurd (both_ways false refl e)
some_is (Some x) e = (x, refl)

module _ (M : Machine) (L : Laws M) (s : Settings) (S : Session M) where
  step_allowed : (us : List (Update M)) (i : ℕ) → lowest_ready M s us ≡ Some i → (x : Effect M) × (effect M s S us (Steps i) ≡ Some x)
  step_allowed us i h =
      let r : Passes M (λ n u. is_ready (standing M s (committed M us) n u)) 1 us i = lowest_passes M (λ n u. is_ready (standing M s (committed M us) n u)) 1 us i h in
      let number : i ≡ suc r.place = omega (arith, r.number) in
      some_is (effect M s S us (Steps i))
      (ap (λ j. is_some (effect M s S us (Steps j))) number ∙ ((allowed_law M s S us r.place).0 r.update r.there).steps ∙ ap (λ j. is_ready (standing M s (committed M us) j r.update)) (sym number) ∙ r.passes)

  delivery_allowed : (us : List (Update M)) (i : ℕ) → lowest_deliverable M s us ≡ Some i → (x : Effect M) × (effect M s S us (Delivers i) ≡ Some x)
  delivery_allowed us i h =
      let r : Passes M (λ n u. is_deliverable M s (committed M us) n u) 1 us i = lowest_passes M (λ n u. is_deliverable M s (committed M us) n u) 1 us i h in
      let number : i ≡ suc r.place = omega (arith, r.number) in
      some_is (effect M s S us (Delivers i))
      (ap (λ j. is_some (effect M s S us (Delivers j))) number ∙ ((allowed_law M s S us r.place).0 r.update r.there).delivers ∙ ap (λ j. is_deliverable M s (committed M us) j r.update) (sym number) ∙ r.passes)

  -- a turn is allowed, and lowers the work
  record IsTurn (us : List (Update M)) (e : Event M) : Type 0 where
    made : Effect M
    is : effect M s S us e ≡ Some made
    less : suc (work M s made.updates) ≤ work M s us

  turn_is : (z : M.Sound S.base) (H : List (Entry M)) (us : List (Update M)) → IsLegal M s S H us → (e : Event M) → next_turn M s us ≡ Some e → IsTurn us e
  turn_is z H us h e g = by (lowest_ready M s us) refl (lowest_deliverable M s us) refl g
    where
      by : (r : Option ℕ) → lowest_ready M s us ≡ r → (d : Option ℕ) → lowest_deliverable M s us ≡ d → step_or_deliver M r d ≡ Some e → IsTurn us e
      by (Some i) f d k g =
          let x = step_allowed us i f in let w = work_law M L s S _ record { updates = us; entries = H } z h in
          subst (λ e. IsTurn us e) (same_Some (Steps i) e g) (record { made = x.0; is = x.1; less = w.steps i x.0 x.1 })
      by None f (Some i) k g =
          let x = delivery_allowed us i k in let w = work_law M L s S _ record { updates = us; entries = H } z h in
          subst (λ e. IsTurn us e) (same_Some (Delivers i) e g) (record { made = x.0; is = x.1; less = w.delivers i x.0 x.1 })
      by None f None k g = absurd (none-some e g)

  quiet_is : (us : List (Update M)) → is_none (next_turn M s us) ≡ is_quiet M s us
  quiet_is us = by (lowest_ready M s us) (lowest_deliverable M s us)
    where
      by : (r d : Option ℕ) → is_none (step_or_deliver M r d) ≡ (is_none r && is_none d)
      by (Some i) d = refl
      by None (Some i) = refl
      by None None = refl

  turns_legal : (H : List (Entry M)) (us : List (Update M)) → IsLegal M s S H us → (ds : List (Entry M)) (vs : List (Update M)) → AreTurns M s S us ds vs → IsLegal M s S (H ++ ds) vs
  turns_legal H us h [] vs t = subst (λ G. IsLegal M s S G vs) (sym (append-nil H)) (subst (λ ws. IsLegal M s S H ws) t h)
  turns_legal H us h (d ∷ ds) vs t =
      let longer : IsLegal M s S (H ++ d ∷ []) t.0.updates = subst (λ c. IsLegal M s S (H ++ c ∷ []) t.0.updates) t.3 ((legal_law M L s S).grows H us (event_of d) t.0 h t.2) in
      subst (λ G. IsLegal M s S G vs) (append_assoc H (d ∷ []) ds) (turns_legal (H ++ d ∷ []) t.0.updates longer ds vs t.4)

  -- a drain from these updates
  record Drained (us : List (Update M)) : Type 0 where
    entries : List (Entry M)
    last : List (Update M)
    is : IsDrain M s S us entries last
    few : length entries ≤ work M s us

  one_more : (H : List (Entry M)) (us : List (Update M)) (e : Event M) → next_turn M s us ≡ Some e → (t : IsTurn us e) → Drained t.made.updates → Drained us
  one_more H us e g t r =
      let same : event_of t.made.entry ≡ e = (effect_records M L s S us e t.made t.is).0 in
      record {
        entries = t.made.entry ∷ r.entries;
        last = r.last;
        is = record {
          turns = (t.made, g ∙ ap Some (sym same), ap (λ d. effect M s S us d) same ∙ t.is, refl, r.is.turns);
          rests = r.is.rests;
        };
        few = omega (arith, r.few, t.less);
      }

  -- the next turn and what follows, or the end
  goes_on : (z : M.Sound S.base) (H : List (Entry M)) (us : List (Update M)) → IsLegal M s S H us
      → ((e : Event M) (t : IsTurn us e) → Drained t.made.updates) → (o : Option (Event M)) → next_turn M s us ≡ o → Drained us
  goes_on z H us h rec None g = record { entries = []; last = us; is = record { turns = refl; rests = sym (quiet_is us) ∙ ap (λ o. is_none o) g }; few = omega arith }
  goes_on z H us h rec (Some e) g = let t : IsTurn us e = turn_is z H us h e g in one_more H us e g t (rec e t)

  drained : (z : M.Sound S.base) (n : ℕ) (H : List (Entry M)) (us : List (Update M)) → work M s us ≤ n → IsLegal M s S H us → Drained us
  drained z zero H us l h = goes_on z H us h (λ e t. absurd (let less : suc (work M s t.made.updates) ≤ work M s us = t.less in omega (arith, l))) (next_turn M s us) refl
  drained z (suc n) H us l h =
      goes_on z H us h
      (λ e t. drained z n (H ++ t.made.entry ∷ []) t.made.updates (let less : suc (work M s t.made.updates) ≤ work M s us = t.less in omega (arith, l)) ((legal_law M L s S).grows H us e t.made h t.is))
      (next_turn M s us) refl

pub drain_law : (M : Machine) → Laws M → DrainLaw M
drain_law M L s S H us z h =
    let r : Drained M L s S us = drained M L s S z (work M s us) H us (omega arith) h in
    record {
      quiet = quiet_is M L s S us;
      allowed = λ e g. let t : IsTurn M L s S us e = turn_is M L s S z H us h e g in (t.made, t.is);
      legal = λ ds vs t. turns_legal M L s S H us h ds vs t;
      ends = (r.entries, r.last, r.is, r.few);
    }
