-- What each call adds may follow.
use Rattle.std.proofs.Common.{◌≡◌, ℕ, suc, sym, refl, ap, subst, ◌∙◌, arith, List, [], ◌∷◌, ◌++◌, append-nil, Option, Some, None, Bool, true, false, not, ◌&&◌, ◌==◌, eq-eqb, is_some}
use Rattle.std.specs.Prelude.{if◌then◌else◌}
use Rattle.std.proofs.lemmas.Bool.{both_ways, and_parts, and_from}
use Rattle.std.proofs.lemmas.Option.{none-some, same_Some}
use Rattle.def_machine.specs.Machine.{Machine, Laws}
use Rattle.def_machine.specs.Updates.{committed}
use Rattle.def_machine.specs.Standings.{standing, is_ready, is_deliverable, lowest_deliverable}
use Rattle.def_machine.specs.Effects.{Event, Admits, Steps, Delivers, Answers, Withdraws, Entry, Admitted, Stepped, Delivered, Answered, Withdrew, Effect, effect}
use Rattle.def_machine.specs.Histories.{event_of}
use Rattle.def_machine.proofs.Basics.{if_true, if_false, length_more}
use Rattle.def_machine.proofs.Allowed.{allowed_law}
use Rattle.def_machine.proofs.Legal.{effect_records}
use Rattle.def_record.specs.Makers.{MadeBy}
use Rattle.def_record.specs.Items.{Record}
use Rattle.def_record.specs.Tickets.{Ticket, ticket_of, in_flight, with_step, using, tickets_after}
use Rattle.def_record.specs.Records.{Now, IsOpen, next_ticket, after_items, lowest_free, IsNextEntry, MayEnter, AllFollow}
use Rattle.def_record.specs.Stays.{IsOut}
use Rattle.def_record.specs.Answers.{Answer, Gives, Moves, Waits, Quiet, lowest_out, first_of_these, next_answer}
use Rattle.def_record.specs.Calls.{entry_by, delivery_items, items_of_answer, next_items, back_items, step_items, AreCalls, CallLaw}
use Rattle.def_record.proofs.Lowest.{Passes, lowest_passes}
use Rattle.def_record.proofs.Follows.{follow_join, open_after}

some_is : {A : Type 0} (o : Option A) → is_some o ≡ true → (x : A) × (o ≡ Some x)
some_is None e = absurd (both_ways false refl e)
some_is (Some x) e = (x, refl)

-- ---- entries by their events

IsDelivery : {M : Machine} → Event M → Type 0
IsDelivery Admits = ⊥
IsDelivery (Steps i) = ⊥
IsDelivery (Delivers i) = Unit {0}
IsDelivery (Answers i c) = ⊥
IsDelivery (Withdraws i) = ⊥

IsStepOf : {M : Machine} → ℕ → Event M → Type 0
IsStepOf u Admits = ⊥
IsStepOf u (Steps i) = i ≡ u
IsStepOf u (Delivers i) = ⊥
IsStepOf u (Answers i c) = ⊥
IsStepOf u (Withdraws i) = ⊥

used_here : (u : ℕ) (t : Ticket) (ts : List Ticket) → ticket_of u ts ≡ Some t → ticket_of u (using u t.maker ts) ≡ Some (with_step t)
used_here u t [] h = absurd (none-some t h)
used_here u t (x ∷ ts) h = by (x.update == u) refl ((x.update == u) && (x.maker == t.maker)) refl h (used_here u t ts)
  where
    by : (b : Bool) → (x.update == u) ≡ b → (d : Bool) → ((x.update == u) && (x.maker == t.maker)) ≡ d → (if b then Some x else ticket_of u ts) ≡ Some t → (ticket_of u ts ≡ Some t → ticket_of u (using u t.maker ts) ≡ Some (with_step t))
        → ticket_of u ((if d then with_step x else x) ∷ using u t.maker ts) ≡ Some (with_step t)
    by true e true f g k = if_true (x.update == u) (Some (with_step x)) (ticket_of u (using u t.maker ts)) e ∙ ap (λ (y : Ticket). Some (with_step y)) (same_Some x t g)
    by true e false f g k = absurd (both_ways _ f (and_from _ _ e (eq-eqb x.maker t.maker (ap (λ (y : Ticket). y.maker) (same_Some x t g)))))
    by false e true f g k = if_false (x.update == u) (Some (with_step x)) (ticket_of u (using u t.maker ts)) e ∙ k g
    by false e false f g k = if_false (x.update == u) (Some x) (ticket_of u (using u t.maker ts)) e ∙ k g

-- a ticket for an update that was not in flight
pub given_now : (u : ℕ) (t : Ticket) (ts : List Ticket) → t.update ≡ u → in_flight u ts ≡ false → ticket_of u (ts ++ t ∷ []) ≡ Some t
given_now u t [] e h = if_true (t.update == u) (Some t) None (eq-eqb t.update u e)
given_now u t (x ∷ ts) e h = by (x.update == u) h (given_now u t ts e)
  where
    by : (b : Bool) → is_some (if b then Some x else ticket_of u ts) ≡ false → (in_flight u ts ≡ false → ticket_of u (ts ++ t ∷ []) ≡ Some t) → (if b then Some x else ticket_of u (ts ++ t ∷ [])) ≡ Some t
    by true g k = absurd (both_ways true g refl)
    by false g k = k g

module _ {M : Machine} where
  may_deliver_by : (out : List Ticket) (j u : ℕ) (e : Entry M) → IsDelivery (event_of e) → MayEnter out j e
  unfolding IsDelivery
  may_deliver_by out j u (Admitted i) h = h
  may_deliver_by out j u (Stepped d) h = absurd h
  may_deliver_by out j u (Delivered i s) h = tt
  may_deliver_by out j u (Answered i c s) h = h
  may_deliver_by out j u (Withdrew i cs n) h = h

  may_step_by : (out : List Ticket) (t : Ticket) (e : Entry M) → IsStepOf t.update (event_of e) → ticket_of t.update out ≡ Some t → t.used ≡ false → MayEnter out t.maker e
  unfolding IsStepOf
  may_step_by out t (Admitted i) h is free = h
  may_step_by out t (Stepped d) h is free = (t, ap (λ u. ticket_of u out) h ∙ is, refl, free)
  may_step_by out t (Delivered i s) h is free = absurd h
  may_step_by out t (Answered i c s) h is free = h
  may_step_by out t (Withdrew i cs n) h is free = h

  used_after : (t : Ticket) (out : List Ticket) (e : Entry M) → IsStepOf t.update (event_of e) → ticket_of t.update out ≡ Some t → ticket_of t.update (tickets_after t.maker e out) ≡ Some (with_step t)
  unfolding IsStepOf
  used_after t out (Admitted i) h is = absurd h
  used_after t out (Stepped d) h is = ap (λ u. ticket_of t.update (using u t.maker out)) h ∙ used_here t.update t out is
  used_after t out (Delivered i s) h is = absurd h
  used_after t out (Answered i c s) h is = absurd h
  used_after t out (Withdrew i cs n) h is = absurd h

module _ (M : Machine) (L : Laws M) (n : Now M) (o : IsOpen n) where
  is_next : (e : Event M) (x : Effect M) → effect M n.settings n.session n.updates e ≡ Some x → IsNextEntry M n x.entry
  is_next e x f = record { made = x; allowed = ap (λ d. effect M n.settings n.session n.updates d) (effect_records M L n.settings n.session n.updates e x f).0 ∙ f; told = refl }

  records : (e : Event M) (x : Effect M) → effect M n.settings n.session n.updates e ≡ Some x → e ≡ event_of x.entry
  records e x f = sym (effect_records M L n.settings n.session n.updates e x f).0

  delivery : (u : ℕ) → lowest_deliverable M n.settings n.updates ≡ Some u → (x : Effect M) × (effect M n.settings n.session n.updates (Delivers u) ≡ Some x)
  delivery u h =
      let r : Passes M (λ i v. is_deliverable M n.settings (committed M n.updates) i v) 1 n.updates u = lowest_passes M (λ i v. is_deliverable M n.settings (committed M n.updates) i v) 1 n.updates u h in
      let number : u ≡ suc r.place = omega (arith, r.number) in
      some_is (effect M n.settings n.session n.updates (Delivers u))
      (ap (λ j. is_some (effect M n.settings n.session n.updates (Delivers j))) number ∙ ((allowed_law M n.settings n.session n.updates r.place).0 r.update r.there).delivers
      ∙ ap (λ j. is_deliverable M n.settings (committed M n.updates) j r.update) (sym number) ∙ r.passes)

  delivery_follows : (j u : ℕ) → lowest_deliverable M n.settings n.updates ≡ Some u → AllFollow n (delivery_items n j u)
  unfolding IsDelivery
  delivery_follows j u f =
      let x = delivery u f in
      subst (λ (q : Option (Effect M)). AllFollow n (entry_by j q)) (sym x.1) ((is_next (Delivers u) x.0 x.1, o, may_deliver_by n.out j u x.0.entry (subst (λ (q : Event M). IsDelivery q) (records (Delivers u) x.0 x.1) tt)), tt)

  next_follows : (j : ℕ) (a d w : Option ℕ) → lowest_free n ≡ a → lowest_deliverable M n.settings n.updates ≡ d → AllFollow n (items_of_answer n j (first_of_these a d w))
  next_follows j (Some u) d w e f = ((o, refl, e), tt)
  next_follows j None (Some u) w e f = delivery_follows j u f
  next_follows j None None (Some u) e f = tt
  next_follows j None None None e f = tt

  step_follows : (t : Ticket) → IsOut t n → t.used ≡ false → (x : Effect M) → effect M n.settings n.session n.updates (Steps t.update) ≡ Some x → AllFollow n (step_items n t)
  unfolding IsStepOf
  step_follows t is free x f =
      let kind : IsStepOf t.update (event_of x.entry) = subst (λ (q : Event M). IsStepOf t.update q) (records (Steps t.update) x f) refl in
      subst (λ (q : Option (Effect M)). AllFollow n (entry_by t.maker q ++ back_items t)) (sym f) (
        (is_next (Steps t.update) x f, o, may_step_by n.out t x.entry kind is free),
        (
          (omega (arith, o, length_more n.history x.entry), (with_step t, used_after t n.out x.entry kind is, refl, refl)),
          tt,
        ),
      )

  pub free_is : (u : ℕ) → lowest_free n ≡ Some u → in_flight u n.out ≡ false
  free_is u h =
      let r : Passes M (λ i v. is_ready (standing M n.settings (committed M n.updates) i v) && not (in_flight i n.out)) 1 n.updates u = lowest_passes M (λ i v. is_ready (standing M n.settings (committed M n.updates) i v) && not (in_flight i n.out)) 1 n.updates u h in
      not_true (in_flight u n.out) (and_parts _ _ r.passes).1
    where
      not_true : (b : Bool) → not b ≡ true → b ≡ false
      not_true true e = absurd (both_ways false refl e)
      not_true false e = refl

  is_gift : (u : ℕ) (a d w : Option ℕ) → first_of_these a d w ≡ Gives u → a ≡ Some u
  is_gift u (Some v) d w h = ap Some (cc h)
  is_gift u None (Some v) w h = absurd (cc h)
  is_gift u None None (Some v) h = absurd (cc h)
  is_gift u None None None h = absurd (cc h)

  gave_is : (j u : ℕ) → next_answer n ≡ Gives u → IsOut (next_ticket n (suc n.given) u j) (after_items n (next_items n j))
  gave_is j u h =
      let free = is_gift u (lowest_free n) (lowest_deliverable M n.settings n.updates) (lowest_out None n.out) h in
      subst (λ (a : Answer). IsOut (next_ticket n (suc n.given) u j) (after_items n (items_of_answer n j a))) (sym h)
      (given_now u (next_ticket n (suc n.given) u j) n.out refl (free_is u free))

  entry_made : (j : ℕ) (q : Option (Effect M)) (rest : Record M) → MadeBy j rest → MadeBy j (entry_by j q ++ rest)
  entry_made j None rest h = h
  entry_made j (Some x) rest h = (refl, h)

  answer_made : (j : ℕ) (a : Answer) → MadeBy j (items_of_answer n j a)
  answer_made j (Gives u) = (refl, tt)
  answer_made j (Moves u) = subst (λ (r : Record M). MadeBy j r) (append-nil (entry_by j (effect M n.settings n.session n.updates (Delivers u)))) (entry_made j (effect M n.settings n.session n.updates (Delivers u)) [] tt)
  answer_made j (Waits u) = tt
  answer_made j Quiet = tt

  pub are_calls : AreCalls M n
  are_calls = record {
    next = λ j. next_follows j (lowest_free n) (lowest_deliverable M n.settings n.updates) (lowest_out None n.out) refl refl;
    gave = gave_is;
    delivers = delivery_follows;
    step = step_follows;
    back = λ t is. ((o, (t, is, refl, refl)), tt);
    next_made = λ j. answer_made j (next_answer n);
    goes_on = λ is f. open_after n is o f;
    joined = λ is js f g. follow_join n is js f g;
    step_made = λ t. entry_made t.maker (effect M n.settings n.session n.updates (Steps t.update)) (back_items t) (refl, tt);
  }

pub call_law : (M : Machine) → Laws M → CallLaw M
call_law M L n o = are_calls M L n o
