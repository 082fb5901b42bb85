-- The history in a record is legal.
use Rattle.std.proofs.Common.{◌≡◌, ℕ, sym, ap, subst, ◌∙◌, List, [], ◌∷◌, ◌++◌, Option, Some, None}
use Rattle.std.specs.Prelude.{option_map}
use Rattle.std.proofs.lemmas.Option.{none-some, same_Some}
use Rattle.def_machine.specs.Machine.{Machine, Laws}
use Rattle.def_machine.specs.Updates.{Update}
use Rattle.def_machine.specs.Effects.{Entry, effect}
use Rattle.def_machine.specs.Histories.{event_of, IsLegal}
use Rattle.def_machine.proofs.Prefixes.{legal_law}
use Rattle.def_record.specs.declared.item.Item.TheVariants.{Opened, Entered, Gave, Returned}
use Rattle.def_record.specs.Items.{ItemOf, Record}
use Rattle.def_record.specs.Records.{Now, updates_in, moved, after_items, opened_by, IsNextEntry, MayFollow, AllFollow, RecordLaw}

module _ (M : Machine) (L : Laws M) where
  abbrev pub Legal : Now M → Type 0
  Legal n = IsLegal M n.settings n.session n.history n.updates

  grows : (n : Now M) (e : Entry M) → Legal n → IsNextEntry M n e → IsLegal M n.settings n.session (n.history ++ e ∷ []) (updates_in n.updates (effect M n.settings n.session n.updates (event_of e)))
  grows n e h f =
      let step : IsLegal M n.settings n.session (n.history ++ f.made.entry ∷ []) f.made.updates = (legal_law M L n.settings n.session).grows n.history n.updates (event_of e) f.made h f.allowed in
      subst (λ (us : List (Update M)). IsLegal M n.settings n.session (n.history ++ e ∷ []) us) (sym (ap (updates_in n.updates) f.allowed))
      (subst (λ (d : Entry M). IsLegal M n.settings n.session (n.history ++ d ∷ []) f.made.updates) f.told step)

  pub legal_moved : (n : Now M) (x : ItemOf M) (maker : Option ℕ) → Legal n → MayFollow n x maker → Legal (moved n x maker)
  legal_moved n (Opened w k) maker h f = h
  legal_moved n (Entered e) None h f = grows n e h f.0
  legal_moved n (Entered e) (Some j) h f = grows n e h f.0
  legal_moved n (Gave t u) None h f = h
  legal_moved n (Gave t u) (Some j) h f = h
  legal_moved n (Returned t) None h f = h
  legal_moved n (Returned t) (Some j) h f = h

  legal_after : (n : Now M) (is : Record M) → Legal n → AllFollow n is → Legal (after_items n is)
  legal_after n [] h f = h
  legal_after n (i ∷ is) h f = legal_after (moved n i.entry i.maker) is (legal_moved n i.entry i.maker h f.0) f.1

  legal_opened : (x : ItemOf M) (n : Now M) → opened_by x ≡ Some n → Legal n
  legal_opened (Opened w k) n e = subst Legal (same_Some _ _ e) (legal_law M L w.0 w.1).empty
  legal_opened (Entered d) n e = absurd (none-some n e)
  legal_opened (Gave t u) n e = absurd (none-some n e)
  legal_opened (Returned t) n e = absurd (none-some n e)

  pub record_law : RecordLaw M
  record_law [] n r e = absurd r
  record_law (i ∷ is) n r e =
      subst Legal (same_Some _ _ (ap (option_map (λ m. after_items m is)) (sym r.1) ∙ e)) (legal_after r.0 is (legal_opened i.entry r.0 r.1) r.3)
