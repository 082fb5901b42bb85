-- A ticket stays out while others go on.
use Rattle.std.proofs.Common.{◌≡◌, ◌≢◌, ℕ, sym, refl, ap, ◌∙◌, arith, List, [], ◌∷◌, ◌++◌, Option, Some, None, Bool, true, false, ◌&&◌, ◌==◌, eqb-true}
use Rattle.std.specs.Prelude.{if◌then◌else◌}
use Rattle.std.proofs.lemmas.Bool.{and_parts}
use Rattle.std.proofs.lemmas.Option.{none-some, same_Some}
use Rattle.def_machine.specs.Machine.{Machine}
use Rattle.def_machine.specs.Effects.{Entry, Admitted, Stepped, Delivered, Answered, Withdrew}
use Rattle.def_machine.proofs.Basics.{if_true, if_false}
use Rattle.def_record.specs.Makers.{Unmade}
use Rattle.def_record.specs.declared.item.Item.TheVariants.{Opened, Entered, Gave, Returned}
use Rattle.def_record.specs.Items.{ItemOf, Record, entry_in, entries_in}
use Rattle.def_record.specs.Tickets.{Ticket, ticket_of, without, with_step, using}
use Rattle.def_record.specs.Records.{Now, IsOpen, moved, after_items, MayFollow, AllFollow, next_ticket}
use Rattle.def_history.specs.Spares.{AllSpare}
use Rattle.def_record.specs.Stays.{IsOut, StayLaw}
use Rattle.def_record.proofs.Follows.{record_split, open_moved, history_after}

module _ (u : ℕ) (t : Ticket) where
  pub kept_append : (ts rs : List Ticket) → ticket_of u ts ≡ Some t → ticket_of u (ts ++ rs) ≡ Some t
  kept_append [] rs h = absurd (none-some t h)
  kept_append (x ∷ ts) rs h = by (x.update == u) (kept_append ts rs) h
    where
      by : (b : Bool) → (ticket_of u ts ≡ Some t → ticket_of u (ts ++ rs) ≡ Some t) → (if b then Some x else ticket_of u ts) ≡ Some t → (if b then Some x else ticket_of u (ts ++ rs)) ≡ Some t
      by true k g = g
      by false k g = k g

  module _ (j : ℕ) (other : t.maker ≢ j) where
    kept_without : (n : ℕ) (ts : List Ticket) → ticket_of u ts ≡ Some t → ticket_of u (without n j ts) ≡ Some t
    kept_without n [] h = h
    kept_without n (x ∷ ts) h = by (x.update == u) refl ((x.number == n) && (x.maker == j)) refl (kept_without n ts) h
      where
        by : (b : Bool) → (x.update == u) ≡ b → (d : Bool) → ((x.number == n) && (x.maker == j)) ≡ d → (ticket_of u ts ≡ Some t → ticket_of u (without n j ts) ≡ Some t) → (if b then Some x else ticket_of u ts) ≡ Some t
            → ticket_of u (if d then without n j ts else x ∷ without n j ts) ≡ Some t
        by true e true f k g = absurd (other (ap (λ (y : Ticket). y.maker) (sym (same_Some x t g)) ∙ eqb-true x.maker j (and_parts _ _ f).1))
        by true e false f k g = if_true (x.update == u) (Some x) (ticket_of u (without n j ts)) e ∙ g
        by false e true f k g = k g
        by false e false f k g = if_false (x.update == u) (Some x) (ticket_of u (without n j ts)) e ∙ k g

    kept_using : (v : ℕ) (ts : List Ticket) → ticket_of u ts ≡ Some t → ticket_of u (using v j ts) ≡ Some t
    kept_using v [] h = h
    kept_using v (x ∷ ts) h = by (x.update == u) refl ((x.update == v) && (x.maker == j)) refl (kept_using v ts) h
      where
        by : (b : Bool) → (x.update == u) ≡ b → (d : Bool) → ((x.update == v) && (x.maker == j)) ≡ d → (ticket_of u ts ≡ Some t → ticket_of u (using v j ts) ≡ Some t) → (if b then Some x else ticket_of u ts) ≡ Some t
            → ticket_of u ((if d then with_step x else x) ∷ using v j ts) ≡ Some t
        by true e true f k g = absurd (other (ap (λ (y : Ticket). y.maker) (sym (same_Some x t g)) ∙ eqb-true x.maker j (and_parts _ _ f).1))
        by true e false f k g = if_true (x.update == u) (Some x) (ticket_of u (using v j ts)) e ∙ g
        by false e true f k g = if_false (x.update == u) (Some (with_step x)) (ticket_of u (using v j ts)) e ∙ k g
        by false e false f k g = if_false (x.update == u) (Some x) (ticket_of u (using v j ts)) e ∙ k g

module _ {M : Machine} (t : Ticket) where
  -- one item of another seat
  pub stays : (n : Now M) (x : ItemOf M) (maker : Option ℕ) → IsOpen n → MayFollow n x maker → maker ≢ Some t.maker → IsOut t n → IsOut t (moved n x maker) × AllSpare t.update (entry_in x)
  stays n (Opened w k) maker o f other h = absurd f
  stays n (Entered e) None o f other h = absurd (omega (arith, o, f.1))
  stays n (Entered (Admitted i)) (Some j) o f other h = absurd f.2
  stays n (Entered (Stepped d)) (Some j) o f other h = (
    kept_using t.update t j (λ e. other (ap Some (sym e))) d.update n.out h,
    ((λ e. other (ap Some (sym f.2.2 ∙ ap (λ (y : Ticket). y.maker) (same_Some _ _ (sym f.2.1 ∙ (ap (λ u. ticket_of u n.out) e ∙ h)))))), tt),
  )
  stays n (Entered (Delivered i s)) (Some j) o f other h = (h, (tt, tt))
  stays n (Entered (Answered i c s)) (Some j) o f other h = absurd f.2
  stays n (Entered (Withdrew i cs k)) (Some j) o f other h = absurd f.2
  stays n (Gave number u) None o f other h = absurd f
  stays n (Gave number u) (Some j) o f other h = (kept_append t.update t n.out (next_ticket n number u j ∷ []) h, tt)
  stays n (Returned number) None o f other h = absurd f
  stays n (Returned number) (Some j) o f other h = (kept_without t.update t j (λ e. other (ap Some (sym e))) number n.out h, tt)

  pub spare_join : (es ds : List (Entry M)) → AllSpare t.update es → AllSpare t.update ds → AllSpare t.update (es ++ ds)
  spare_join [] ds p q = q
  spare_join (e ∷ es) ds p q = (p.0, spare_join es ds p.1 q)

  all_stay : (n : Now M) (rest : Record M) → IsOpen n → AllFollow n rest → Unmade t.maker rest → IsOut t n → IsOut t (after_items n rest) × AllSpare t.update (entries_in rest)
  all_stay n [] o f un h = (h, tt)
  all_stay n (i ∷ rest) o f un h =
      let one = stays n i.entry i.maker o f.0 un.0 h in
      let more = all_stay (moved n i.entry i.maker) rest (open_moved n i.entry i.maker o) f.1 un.1 one.0 in
      (more.0, spare_join (entry_in i.entry) (entries_in rest) one.1 more.1)

pub stay_law : (M : Machine) → StayLaw M
stay_law M seen rest n t rec left o h un =
    let f = record_split seen rest n rec left in
    let s = all_stay t n rest o f.0 un h in
    (f.1, record { out = s.0; spared = s.1; history = history_after n rest })
