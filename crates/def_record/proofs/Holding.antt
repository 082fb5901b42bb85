-- A ticket that is still out, and by which no step was made.
use Rattle.std.proofs.Common.{◌≡◌, ◌⊎◌, inl, inr, ⊎_elim, ℕ, ◌<◌, ◌≤◌, sym, refl, ap, subst, ◌∙◌, arith, List, [], ◌∷◌, ◌++◌, Option, Some, None, Bool, true, false, ◌&&◌, ◌==◌, eq-eqb, eqb-true}
use Rattle.std.specs.Prelude.{if◌then◌else◌}
use Rattle.std.specs.List.{AllByRecursion}
use Rattle.std.proofs.lemmas.Bool.{both_ways, and_from, and_parts, eqb-false}
use Rattle.std.proofs.lemmas.Option.{none-some, same_Some}
use Rattle.def_machine.specs.Machine.{Machine, Laws}
use Rattle.def_machine.specs.Effects.{Entry, Admitted, Stepped, Delivered, Answered, Withdrew}
use Rattle.def_machine.proofs.Basics.{if_true, if_false}
use Rattle.def_record.specs.declared.item.Item.TheVariants.{Opened, Entered, Gave, Returned}
use Rattle.def_record.specs.Items.{ItemOf, Record, entry_in, entries_in}
use Rattle.def_record.specs.Tickets.{Ticket, ticket_of, without, with_step, using, tickets_after}
use Rattle.def_record.specs.Records.{Now, IsOpen, moved, after_items, next_ticket, MayFollow, AllFollow}
use Rattle.def_history.specs.Spares.{AllSpare}
use Rattle.def_record.specs.Stays.{IsOut}
use Rattle.def_record.specs.Apart.{AreApart, AreGiven}
use Rattle.def_record.specs.Held.{HeldLaw}
use Rattle.def_record.proofs.Follows.{record_split, record_first, open_moved}
use Rattle.def_record.proofs.Staying.{kept_append, spare_join}
use Rattle.def_record.proofs.Parting.{Tidy, tidy_item, apart_law}

module _ (t : Ticket) where
  -- no ticket of this number is out without a step
  abbrev Gone : List Ticket → Type 0
  Gone ts = AllByRecursion (λ (x : Ticket). x.number ≡ t.number → x.used ≡ true) ts

  above : (m : ℕ) (ts : List Ticket) → AreApart m ts → ticket_of t.update ts ≡ Some t → m < t.number
  above m [] a h = absurd (none-some t h)
  above m (x ∷ ts) a h = by (x.update == t.update) h (above x.number ts a.2)
    where
      by : (b : Bool) → (if b then Some x else ticket_of t.update ts) ≡ Some t → (ticket_of t.update ts ≡ Some t → x.number < t.number) → m < t.number
      by true g k = subst (λ (y : Ticket). m < y.number) (same_Some x t g) a.0
      by false g k = let l = k g in let z = a.0 in omega arith

  within_given : (g : ℕ) (ts : List Ticket) → AreGiven g ts → ticket_of t.update ts ≡ Some t → t.number ≤ g
  within_given g [] a h = absurd (none-some t h)
  within_given g (x ∷ ts) a h = by (x.update == t.update) h (within_given g ts a.1)
    where
      by : (b : Bool) → (if b then Some x else ticket_of t.update ts) ≡ Some t → (ticket_of t.update ts ≡ Some t → t.number ≤ g) → t.number ≤ g
      by true e k = subst (λ (y : Ticket). y.number ≤ g) (same_Some x t e) a.0
      by false e k = k e

  gone_above : (m : ℕ) (ts : List Ticket) → t.number ≤ m → AreApart m ts → Gone ts
  gone_above m [] l a = tt
  gone_above m (x ∷ ts) l a = let z = a.0 in ((λ e. absurd (omega (arith, e))), gone_above x.number ts (omega arith) a.2)

  gone_using : (v j : ℕ) (ts : List Ticket) → Gone ts → Gone (using v j ts)
  gone_using v j [] h = tt
  gone_using v j (x ∷ ts) h = by ((x.update == v) && (x.maker == j)) (gone_using v j ts h.1)
    where
      by : (d : Bool) → Gone (using v j ts) → Gone ((if d then with_step x else x) ∷ using v j ts)
      by true k = ((λ e. refl), k)
      by false k = (h.0, k)

  gone_without : (n j : ℕ) (ts : List Ticket) → Gone ts → Gone (without n j ts)
  gone_without n j [] h = tt
  gone_without n j (x ∷ ts) h = by ((x.number == n) && (x.maker == j)) (gone_without n j ts h.1)
    where
      by : (d : Bool) → Gone (without n j ts) → Gone (if d then without n j ts else x ∷ without n j ts)
      by true k = k
      by false k = (h.0, k)

  gone_append : (r : Ticket) (ts : List Ticket) → (r.number ≡ t.number → ⊥) → Gone ts → Gone (ts ++ r ∷ [])
  gone_append r [] e h = ((λ q. absurd (e q)), tt)
  gone_append r (x ∷ ts) e h = (h.0, gone_append r ts e h.1)

  not_gone : (ts : List Ticket) → Gone ts → ticket_of t.update ts ≡ Some t → t.used ≡ true
  not_gone [] g h = absurd (none-some t h)
  not_gone (x ∷ ts) g h = by (x.update == t.update) h (not_gone ts g.1)
    where
      by : (b : Bool) → (if b then Some x else ticket_of t.update ts) ≡ Some t → (ticket_of t.update ts ≡ Some t → t.used ≡ true) → t.used ≡ true
      by true e k = subst (λ (y : Ticket). y.number ≡ t.number → y.used ≡ true) (same_Some x t e) g.0 refl
      by false e k = k e

  used_gone : (m : ℕ) (ts : List Ticket) → AreApart m ts → ticket_of t.update ts ≡ Some t → Gone (using t.update t.maker ts)
  used_gone m [] a h = tt
  used_gone m (x ∷ ts) a h = by (x.update == t.update) refl ((x.update == t.update) && (x.maker == t.maker)) refl h (used_gone x.number ts a.2)
    where
      by : (b : Bool) → (x.update == t.update) ≡ b → (d : Bool) → ((x.update == t.update) && (x.maker == t.maker)) ≡ d → (if b then Some x else ticket_of t.update ts) ≡ Some t
          → (ticket_of t.update ts ≡ Some t → Gone (using t.update t.maker ts)) → Gone ((if d then with_step x else x) ∷ using t.update t.maker ts)
      by true e true f g k =
          let same : x.number ≡ t.number = ap (λ (y : Ticket). y.number) (same_Some x t g) in
          ((λ q. refl), gone_using t.update t.maker ts (gone_above x.number ts (omega (arith, same)) a.2))
      by true e false f g k = absurd (both_ways _ f (and_from _ _ e (eq-eqb x.maker t.maker (ap (λ (y : Ticket). y.maker) (same_Some x t g)))))
      by false e true f g k = ((λ q. refl), k g)
      by false e false f g k = let l = above x.number ts a.2 g in ((λ q. absurd (omega (arith, q))), k g)

  returned_gone : (m : ℕ) (ts : List Ticket) → AreApart m ts → ticket_of t.update ts ≡ Some t → Gone (without t.number t.maker ts)
  returned_gone m [] a h = tt
  returned_gone m (x ∷ ts) a h = by (x.update == t.update) refl ((x.number == t.number) && (x.maker == t.maker)) refl h (returned_gone x.number ts a.2)
    where
      by : (b : Bool) → (x.update == t.update) ≡ b → (d : Bool) → ((x.number == t.number) && (x.maker == t.maker)) ≡ d → (if b then Some x else ticket_of t.update ts) ≡ Some t
          → (ticket_of t.update ts ≡ Some t → Gone (without t.number t.maker ts)) → Gone (if d then without t.number t.maker ts else x ∷ without t.number t.maker ts)
      by true e true f g k =
          let same : x.number ≡ t.number = ap (λ (y : Ticket). y.number) (same_Some x t g) in
          gone_without t.number t.maker ts (gone_above x.number ts (omega (arith, same)) a.2)
      by true e false f g k =
          let same : x ≡ t = same_Some x t g in
          absurd (both_ways _ f (and_from _ _ (eq-eqb x.number t.number (ap (λ (y : Ticket). y.number) same)) (eq-eqb x.maker t.maker (ap (λ (y : Ticket). y.maker) same))))
      by false e true f g k = k g
      by false e false f g k = let l = above x.number ts a.2 g in ((λ q. absurd (omega (arith, q))), k g)

  keeps_using : (v j : ℕ) → (v ≡ t.update → ⊥) → (ts : List Ticket) → ticket_of t.update ts ≡ Some t → ticket_of t.update (using v j ts) ≡ Some t
  keeps_using v j other [] h = h
  keeps_using v j other (x ∷ ts) h = by (x.update == t.update) refl ((x.update == v) && (x.maker == j)) refl (keeps_using v j other ts) h
    where
      by : (b : Bool) → (x.update == t.update) ≡ b → (d : Bool) → ((x.update == v) && (x.maker == j)) ≡ d → (ticket_of t.update ts ≡ Some t → ticket_of t.update (using v j ts) ≡ Some t)
          → (if b then Some x else ticket_of t.update ts) ≡ Some t → ticket_of t.update ((if d then with_step x else x) ∷ using v j ts) ≡ Some t
      by true e true f k g = absurd (other (sym (eqb-true x.update v (and_parts _ _ f).0) ∙ eqb-true x.update t.update e))
      by true e false f k g = if_true (x.update == t.update) (Some x) (ticket_of t.update (using v j ts)) e ∙ g
      by false e true f k g = if_false (x.update == t.update) (Some (with_step x)) (ticket_of t.update (using v j ts)) e ∙ k g
      by false e false f k g = if_false (x.update == t.update) (Some x) (ticket_of t.update (using v j ts)) e ∙ k g

  keeps_without : (n j : ℕ) → ((t.number == n) && (t.maker == j)) ≡ false → (ts : List Ticket) → ticket_of t.update ts ≡ Some t → ticket_of t.update (without n j ts) ≡ Some t
  keeps_without n j other [] h = h
  keeps_without n j other (x ∷ ts) h = by (x.update == t.update) refl ((x.number == n) && (x.maker == j)) refl (keeps_without n j other ts) h
    where
      by : (b : Bool) → (x.update == t.update) ≡ b → (d : Bool) → ((x.number == n) && (x.maker == j)) ≡ d → (ticket_of t.update ts ≡ Some t → ticket_of t.update (without n j ts) ≡ Some t)
          → (if b then Some x else ticket_of t.update ts) ≡ Some t → ticket_of t.update (if d then without n j ts else x ∷ without n j ts) ≡ Some t
      by true e true f k g = absurd (both_ways _ other (subst (λ (y : Ticket). ((y.number == n) && (y.maker == j)) ≡ true) (same_Some x t g) f))
      by true e false f k g = if_true (x.update == t.update) (Some x) (ticket_of t.update (without n j ts)) e ∙ g
      by false e true f k g = k g
      by false e false f k g = if_false (x.update == t.update) (Some x) (ticket_of t.update (without n j ts)) e ∙ k g

  module _ {M : Machine} where
    -- after one item the ticket is out as it was and its update made no step, or it is gone
    abbrev Either : Now M → ItemOf M → Option ℕ → Type 0
    Either n x maker = (IsOut t (moved n x maker) × AllSpare t.update (entry_in x)) ⊎ Gone (moved n x maker).out

    one : (n : Now M) (x : ItemOf M) (maker : Option ℕ) → IsOpen n → MayFollow n x maker → AreApart 0 n.out → IsOut t n → Either n x maker
    one n (Opened w k) maker o f a h = absurd f
    one n (Entered e) None o f a h = absurd (omega (arith, o, f.1))
    one n (Entered (Admitted i)) (Some j) o f a h = absurd f.2
    one n (Entered (Stepped d)) (Some j) o f a h = by (d.update == t.update) refl
      where
        by : (b : Bool) → (d.update == t.update) ≡ b → Either n (Entered (Stepped d)) (Some j)
        by true e =
            let same : d.update ≡ t.update = eqb-true d.update t.update e in
            let is : f.2.0 ≡ t = same_Some _ _ (sym f.2.1 ∙ (ap (λ u. ticket_of u n.out) same ∙ h)) in
            let maker : t.maker ≡ j = ap (λ (y : Ticket). y.maker) (sym is) ∙ f.2.2 in
            inr (subst (λ (z : ℕ × ℕ). Gone (using z.0 z.1 n.out)) (λ i. (sym same i, maker i)) (used_gone 0 n.out a h))
        by false e =
            let other : d.update ≡ t.update → ⊥ = eqb-false d.update t.update e in
            inl (keeps_using d.update j other n.out h, (other, tt))
    one n (Entered (Delivered i s)) (Some j) o f a h = inl (h, (tt, tt))
    one n (Entered (Answered i c s)) (Some j) o f a h = absurd f.2
    one n (Entered (Withdrew i cs k)) (Some j) o f a h = absurd f.2
    one n (Gave number u) None o f a h = absurd f
    one n (Gave number u) (Some j) o f a h = inl (kept_append t.update t n.out (next_ticket n number u j ∷ []) h, tt)
    one n (Returned number) None o f a h = absurd f
    one n (Returned number) (Some j) o f a h = by ((t.number == number) && (t.maker == j)) refl
      where
        by : (b : Bool) → ((t.number == number) && (t.maker == j)) ≡ b → Either n (Returned number) (Some j)
        by true e =
            let p = and_parts _ _ e in
            let same : t.number ≡ number = eqb-true t.number number p.0 in
            let maker : t.maker ≡ j = eqb-true t.maker j p.1 in
            inr (subst (λ (z : ℕ × ℕ). Gone (without z.0 z.1 n.out)) (λ i. (same i, maker i)) (returned_gone 0 n.out a h))
        by false e = inl (keeps_without number j e n.out h, tt)

    gone_entry : (j : ℕ) (e : Entry M) (ts : List Ticket) → Gone ts → Gone (tickets_after j e ts)
    gone_entry j (Admitted i) ts h = h
    gone_entry j (Stepped d) ts h = gone_using d.update j ts h
    gone_entry j (Delivered i s) ts h = h
    gone_entry j (Answered i c s) ts h = h
    gone_entry j (Withdrew i cs n) ts h = h

    gone_item : (n : Now M) (x : ItemOf M) (maker : Option ℕ) → MayFollow n x maker → t.number ≤ n.given → Gone n.out → Gone (moved n x maker).out × (t.number ≤ (moved n x maker).given)
    gone_item n (Opened w k) maker f l h = absurd f
    gone_item n (Entered e) None f l h = (h, l)
    gone_item n (Entered e) (Some j) f l h = (gone_entry j e n.out h, l)
    gone_item n (Gave number u) None f l h = absurd f
    gone_item n (Gave number u) (Some j) f l h = (gone_append (next_ticket n number u j) n.out (λ e. absurd (omega (arith, l, e, f.1))) h, omega (arith, l))
    gone_item n (Returned number) None f l h = absurd f
    gone_item n (Returned number) (Some j) f l h = (gone_without number j n.out h, l)

    gone_items : (n : Now M) (rest : Record M) → AllFollow n rest → t.number ≤ n.given → Gone n.out → Gone (after_items n rest).out
    gone_items n [] f l h = h
    gone_items n (i ∷ rest) f l h = let g = gone_item n i.entry i.maker f.0 l h in gone_items (moved n i.entry i.maker) rest f.1 g.1 g.0

    held : Laws M → t.used ≡ false → (n : Now M) (rest : Record M) → IsOpen n → AllFollow n rest → Tidy n → IsOut t n → IsOut t (after_items n rest) → AllSpare t.update (entries_in rest)
    held L free n [] o f y h end = tt
    held L free n (i ∷ rest) o f y h end =
        let m : Now M = moved n i.entry i.maker in
        let z = tidy_item L n i.entry i.maker f.0 y in
        ⊎_elim
        (λ (a : IsOut t m × AllSpare t.update (entry_in i.entry)). spare_join t (entry_in i.entry) (entries_in rest) a.1 (held L free m rest (open_moved n i.entry i.maker o) f.1 z a.0 end))
        (λ (g : Gone m.out). absurd (both_ways _ free (not_gone (after_items m rest).out (gone_items m rest f.1 (more n i.entry i.maker (within_given n.given n.out y.1 h)) g) end)))
        (one n i.entry i.maker o f.0 y.0 h)
      where
        more : (n : Now M) (x : ItemOf M) (maker : Option ℕ) → t.number ≤ n.given → t.number ≤ (moved n x maker).given
        more n (Opened w k) maker l = l
        more n (Entered e) None l = l
        more n (Entered e) (Some j) l = l
        more n (Gave v u) None l = l
        more n (Gave v u) (Some j) l = omega (arith, l)
        more n (Returned v) None l = l
        more n (Returned v) (Some j) l = l

pub held_law : (M : Machine) → Laws M → HeldLaw M
held_law M L before rest n t rec left o h free end =
    let f = record_split before rest n rec left in
    let a = apart_law M L before n (record_first before rest n rec left) left in
    held t L free n rest o f.0 (a.apart, a.given) h end
