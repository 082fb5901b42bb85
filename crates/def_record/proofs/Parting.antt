-- Each update has one ticket out at most, and each number is given once.
use Rattle.std.proofs.Common.{◌≡◌, ℕ, suc, ◌+◌, ◌<◌, ◌≤◌, sym, refl, ap, subst, ◌∙◌, arith, List, [], ◌∷◌, ◌++◌, append-nil, append_assoc, length, Option, Some, None, Bool, true, false, ◌&&◌, ◌==◌, eq-eqb, eqb-true, ne_eqb}
use Rattle.std.specs.Prelude.{if◌then◌else◌, option_map}
use Rattle.std.proofs.lemmas.Bool.{both_ways, and_from, eqb-false}
use Rattle.std.proofs.lemmas.Option.{none-some, same_Some}
use Rattle.def_machine.specs.Machine.{Machine, Laws}
use Rattle.def_machine.specs.Effects.{Entry, Admitted, Stepped, Delivered, Answered, Withdrew}
use Rattle.def_machine.proofs.Basics.{if_false, none_from}
use Rattle.def_record.specs.declared.item.Item.TheVariants.{Opened, Entered, Gave, Returned}
use Rattle.def_record.specs.Items.{ItemOf, Record}
use Rattle.def_record.specs.Tickets.{Ticket, ticket_of, without, with_step, using, tickets_after}
use Rattle.def_record.specs.Records.{Now, moved, after_items, opened_by, next_ticket, MayFollow, AllFollow}
use Rattle.def_record.specs.Apart.{AreApart, AreGiven, ApartLaw, number_in, numbers_in, up_to}
use Rattle.def_record.proofs.Calling.{free_is}

none_without : (v n j : ℕ) (ts : List Ticket) → ticket_of v ts ≡ None → ticket_of v (without n j ts) ≡ None
none_without v n j [] h = refl
none_without v n j (x ∷ ts) h = by (x.update == v) refl ((x.number == n) && (x.maker == j)) h (none_without v n j ts)
  where
    by : (b : Bool) → (x.update == v) ≡ b → (d : Bool) → (if b then Some x else ticket_of v ts) ≡ None → (ticket_of v ts ≡ None → ticket_of v (without n j ts) ≡ None) → ticket_of v (if d then without n j ts else x ∷ without n j ts) ≡ None
    by true e d g k = absurd (none-some x (sym g))
    by false e true g k = k g
    by false e false g k = if_false (x.update == v) (Some x) (ticket_of v (without n j ts)) e ∙ k g

none_using : (v u j : ℕ) (ts : List Ticket) → ticket_of v ts ≡ None → ticket_of v (using u j ts) ≡ None
none_using v u j [] h = refl
none_using v u j (x ∷ ts) h = by (x.update == v) refl ((x.update == u) && (x.maker == j)) h (none_using v u j ts)
  where
    by : (b : Bool) → (x.update == v) ≡ b → (d : Bool) → (if b then Some x else ticket_of v ts) ≡ None → (ticket_of v ts ≡ None → ticket_of v (using u j ts) ≡ None) → ticket_of v ((if d then with_step x else x) ∷ using u j ts) ≡ None
    by true e d g k = absurd (none-some x (sym g))
    by false e true g k = if_false (x.update == v) (Some (with_step x)) (ticket_of v (using u j ts)) e ∙ k g
    by false e false g k = if_false (x.update == v) (Some x) (ticket_of v (using u j ts)) e ∙ k g

-- the head and the others of a list without a ticket for the update
none_parts : (v : ℕ) (x : Ticket) (ts : List Ticket) → ticket_of v (x ∷ ts) ≡ None → ((x.update == v) ≡ false) × (ticket_of v ts ≡ None)
none_parts v x ts h = by (x.update == v) refl h
  where
    by : (b : Bool) → (x.update == v) ≡ b → (if b then Some x else ticket_of v ts) ≡ None → ((x.update == v) ≡ false) × (ticket_of v ts ≡ None)
    by true e g = absurd (none-some x (sym g))
    by false e g = (e, g)

none_append : (v : ℕ) (t : Ticket) (ts : List Ticket) → ticket_of v ts ≡ None → (t.update == v) ≡ false → ticket_of v (ts ++ t ∷ []) ≡ None
none_append v t [] h e = if_false (t.update == v) (Some t) None e
none_append v t (x ∷ ts) h e = let p = none_parts v x ts h in if_false (x.update == v) (Some x) (ticket_of v (ts ++ t ∷ [])) p.0 ∙ none_append v t ts p.1 e

apart_less : (m n : ℕ) (ts : List Ticket) → m ≤ n → AreApart n ts → AreApart m ts
apart_less m n [] l h = tt
apart_less m n (t ∷ ts) l h = let a = h.0 in (omega arith, h.1, h.2)

apart_without : (m n j : ℕ) (ts : List Ticket) → AreApart m ts → AreApart m (without n j ts)
apart_without m n j [] h = tt
apart_without m n j (x ∷ ts) h = by ((x.number == n) && (x.maker == j)) (apart_without x.number n j ts h.2)
  where
    by : (d : Bool) → AreApart x.number (without n j ts) → AreApart m (if d then without n j ts else x ∷ without n j ts)
    by true k = let a = h.0 in apart_less m x.number (without n j ts) (omega arith) k
    by false k = (h.0, none_without x.update n j ts h.1, k)

apart_using : (m u j : ℕ) (ts : List Ticket) → AreApart m ts → AreApart m (using u j ts)
apart_using m u j [] h = tt
apart_using m u j (x ∷ ts) h = by ((x.update == u) && (x.maker == j)) (apart_using x.number u j ts h.2)
  where
    by : (d : Bool) → AreApart x.number (using u j ts) → AreApart m ((if d then with_step x else x) ∷ using u j ts)
    by true k = (h.0, none_using x.update u j ts h.1, k)
    by false k = (h.0, none_using x.update u j ts h.1, k)

apart_append : (m given : ℕ) (t : Ticket) (ts : List Ticket) → m ≤ given → given < t.number → AreApart m ts → AreGiven given ts → ticket_of t.update ts ≡ None → AreApart m (ts ++ t ∷ [])
apart_append m given t [] l g h a e = (omega arith, refl, tt)
apart_append m given t (x ∷ ts) l g h a e =
    let p = none_parts t.update x ts e in
    (h.0, none_append x.update t ts h.1 (ne_eqb t.update x.update (λ q. eqb-false x.update t.update p.0 (sym q))), apart_append x.number given t ts a.0 g h.2 a.1 p.1)

given_without : (g n j : ℕ) (ts : List Ticket) → AreGiven g ts → AreGiven g (without n j ts)
given_without g n j [] h = tt
given_without g n j (x ∷ ts) h = by ((x.number == n) && (x.maker == j)) (given_without g n j ts h.1)
  where
    by : (d : Bool) → AreGiven g (without n j ts) → AreGiven g (if d then without n j ts else x ∷ without n j ts)
    by true k = k
    by false k = (h.0, k)

given_using : (g u j : ℕ) (ts : List Ticket) → AreGiven g ts → AreGiven g (using u j ts)
given_using g u j [] h = tt
given_using g u j (x ∷ ts) h = by ((x.update == u) && (x.maker == j)) (given_using g u j ts h.1)
  where
    by : (d : Bool) → AreGiven g (using u j ts) → AreGiven g ((if d then with_step x else x) ∷ using u j ts)
    by true k = (h.0, k)
    by false k = (h.0, k)

given_append : (g : ℕ) (t : Ticket) (ts : List Ticket) → t.number ≡ suc g → AreGiven g ts → AreGiven (suc g) (ts ++ t ∷ [])
given_append g t [] e h = (omega (arith, e), tt)
given_append g t (x ∷ ts) e h = let a = h.0 in (omega arith, given_append g t ts e h.1)

-- a ticket that is returned was the only one for its update
gone : (m : ℕ) (t : Ticket) (ts : List Ticket) → AreApart m ts → ticket_of t.update ts ≡ Some t → ticket_of t.update (without t.number t.maker ts) ≡ None
gone m t [] a h = refl
gone m t (x ∷ ts) a h = by (x.update == t.update) refl ((x.number == t.number) && (x.maker == t.maker)) refl h (gone x.number t ts a.2)
  where
    by : (b : Bool) → (x.update == t.update) ≡ b → (d : Bool) → ((x.number == t.number) && (x.maker == t.maker)) ≡ d → (if b then Some x else ticket_of t.update ts) ≡ Some t
        → (ticket_of t.update ts ≡ Some t → ticket_of t.update (without t.number t.maker ts) ≡ None)
        → ticket_of t.update (if d then without t.number t.maker ts else x ∷ without t.number t.maker ts) ≡ None
    by true e true f g k = none_without t.update t.number t.maker ts (subst (λ v. ticket_of v ts ≡ None) (eqb-true x.update t.update e) a.1)
    by true e false f g k =
        let same : x ≡ t = same_Some x t g in
        absurd (both_ways _ f (and_from _ _ (eq-eqb x.number t.number (ap (λ (y : Ticket). y.number) same)) (eq-eqb x.maker t.maker (ap (λ (y : Ticket). y.maker) same))))
    by false e true f g k = k g
    by false e false f g k = if_false (x.update == t.update) (Some x) (ticket_of t.update (without t.number t.maker ts)) e ∙ k g

-- the tickets of an entry's seat keep their numbers and updates
module _ {M : Machine} where
  entry_tickets : (m g j : ℕ) (e : Entry M) (ts : List Ticket) → AreApart m ts × AreGiven g ts → AreApart m (tickets_after j e ts) × AreGiven g (tickets_after j e ts)
  entry_tickets m g j (Admitted i) ts h = h
  entry_tickets m g j (Stepped d) ts h = (apart_using m d.update j ts h.0, given_using g d.update j ts h.1)
  entry_tickets m g j (Delivered i s) ts h = h
  entry_tickets m g j (Answered i c s) ts h = h
  entry_tickets m g j (Withdrew i cs n) ts h = h

  abbrev pub Tidy : Now M → Type 0
  Tidy n = AreApart 0 n.out × AreGiven n.given n.out

  pub tidy_item : Laws M → (n : Now M) (x : ItemOf M) (maker : Option ℕ) → MayFollow n x maker → Tidy n → Tidy (moved n x maker)
  tidy_item L n (Opened w k) maker f h = absurd f
  tidy_item L n (Entered e) None f h = h
  tidy_item L n (Entered e) (Some j) f h = entry_tickets 0 n.given j e n.out h
  tidy_item L n (Gave t u) None f h = absurd f
  tidy_item L n (Gave t u) (Some j) f h =
      let free : ticket_of u n.out ≡ None = none_from (ticket_of u n.out) (free_is M L n f.0 u f.2) in
      (apart_append 0 n.given (next_ticket n t u j) n.out (omega arith) (omega (arith, f.1)) h.0 h.1 free, given_append n.given (next_ticket n t u j) n.out f.1 h.1)
  tidy_item L n (Returned t) None f h = absurd f
  tidy_item L n (Returned t) (Some j) f h = (apart_without 0 t j n.out h.0, given_without n.given t j n.out h.1)

  tidy_items : Laws M → (n : Now M) (is : Record M) → AllFollow n is → Tidy n → Tidy (after_items n is)
  tidy_items L n [] f h = h
  tidy_items L n (i ∷ is) f h = tidy_items L (moved n i.entry i.maker) is f.1 (tidy_item L n i.entry i.maker f.0 h)

  given_item : (n : Now M) (x : ItemOf M) (maker : Option ℕ) → (moved n x maker).given ≤ suc n.given
  given_item n (Opened w k) maker = omega arith
  given_item n (Entered e) None = omega arith
  given_item n (Entered e) (Some j) = omega arith
  given_item n (Gave t u) None = omega arith
  given_item n (Gave t u) (Some j) = omega arith
  given_item n (Returned t) None = omega arith
  given_item n (Returned t) (Some j) = omega arith

  given_items : (n : Now M) (is : Record M) → (after_items n is).given ≤ n.given + length is
  given_items n [] = omega arith
  given_items n (i ∷ is) = omega (arith, given_item n i.entry i.maker, given_items (moved n i.entry i.maker) is)

  numbers_item : (n : Now M) (x : ItemOf M) (maker : Option ℕ) → MayFollow n x maker → up_to (moved n x maker).given ≡ up_to n.given ++ number_in x
  numbers_item n (Opened w k) maker f = absurd f
  numbers_item n (Entered e) None f = sym (append-nil (up_to n.given))
  numbers_item n (Entered e) (Some j) f = sym (append-nil (up_to n.given))
  numbers_item n (Gave t u) None f = absurd f
  numbers_item n (Gave t u) (Some j) f = ap (λ k. up_to n.given ++ k ∷ []) (sym f.1)
  numbers_item n (Returned t) None f = absurd f
  numbers_item n (Returned t) (Some j) f = sym (append-nil (up_to n.given))

  numbers_items : (n : Now M) (is : Record M) → AllFollow n is → up_to (after_items n is).given ≡ up_to n.given ++ numbers_in is
  numbers_items n [] f = sym (append-nil (up_to n.given))
  numbers_items n (i ∷ is) f =
      numbers_items (moved n i.entry i.maker) is f.1 ∙ ap (λ l. l ++ numbers_in is) (numbers_item n i.entry i.maker f.0) ∙ append_assoc (up_to n.given) (number_in i.entry) (numbers_in is)

  numbers_opened : (x : ItemOf M) (n : Now M) (is : Record M) → opened_by x ≡ Some n → number_in x ++ numbers_in is ≡ up_to n.given ++ numbers_in is
  numbers_opened (Opened w k) n is e = ap (λ (m : Now M). up_to m.given ++ numbers_in is) (same_Some _ _ e)
  numbers_opened (Entered d) n is e = absurd (none-some n e)
  numbers_opened (Gave t u) n is e = absurd (none-some n e)
  numbers_opened (Returned t) n is e = absurd (none-some n e)

  tidy_opened : (x : ItemOf M) (n : Now M) → opened_by x ≡ Some n → Tidy n × (n.given ≡ 0)
  tidy_opened (Opened w k) n e = subst (λ (m : Now M). Tidy m × (m.given ≡ 0)) (same_Some _ _ e) ((tt, tt), refl)
  tidy_opened (Entered d) n e = absurd (none-some n e)
  tidy_opened (Gave t u) n e = absurd (none-some n e)
  tidy_opened (Returned t) n e = absurd (none-some n e)

pub apart_law : (M : Machine) → Laws M → ApartLaw M
apart_law M L [] n r e = absurd r
apart_law M L (i ∷ is) n r e =
    let left : after_items r.0 is ≡ n = same_Some _ _ (ap (option_map (λ m. after_items m is)) (sym r.1) ∙ e) in
    let start = tidy_opened i.entry r.0 r.1 in
    let all = tidy_items L r.0 is r.3 start.0 in
    let few : n.given ≤ r.0.given + length is = subst (λ (m : Now M). m.given ≤ r.0.given + length is) left (given_items r.0 is) in
    let here = subst (λ (m : Now M). Tidy m) left all in
    let once : numbers_in (i ∷ is) ≡ up_to n.given = numbers_opened i.entry r.0 is r.1 ∙ sym (numbers_items r.0 is r.3) ∙ ap (λ (m : Now M). up_to m.given) left in
    record { apart = here.0; given = here.1; once = once; few = omega (arith, few, start.1); back = λ t h. gone 0 t n.out here.0 h }
