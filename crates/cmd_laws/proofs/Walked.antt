-- What holds of the entry of each allowed event holds of the entries of a history.
use Rattle.std.specs.Prelude.{◌≡◌, ℕ, true, List, [], ◌∷◌, ◌++◌, map, Some, option_and_then}
use Rattle.std.proofs.Common.{sym, ap, subst, ◌∙◌}
use Rattle.std.specs.List.{list_all, AllByRecursion}
use Rattle.std.proofs.lemmas.Bool.{and_parts}
use Rattle.std.proofs.lemmas.Option.{same_Some, option_and_then_some}
use Rattle.def_history.specs.PlainEntries.{PlainEntry, entry_kept, plain_entry}
use Rattle.def_history.proofs.Keeping.{entry_back}
use Rattle.def_machine.specs.Effects.{Effect, Entry, Event, effect}
use Rattle.def_machine.specs.Histories.{Log, after, empty_log, with_entry}
use Rattle.def_machine.specs.Machine.{Machine}
use Rattle.def_machine.specs.Recorded.{is_recorded}
use Rattle.def_machine.specs.Updates.{Session, Settings}
use Rattle.def_chase.specs.Mappings.{Rule}
use Rattle.def_chase.proofs.Searches.{all_join}
use Rattle.def_steps.specs.Chase.{caused_chase}

module _ (M : Machine) (s : Settings) (S : Session M) where
  -- one event more
  after_more : (o l : Log M) (done : List (Event M)) (e : Event M) (x : Effect M) → after M s S o done ≡ Some l → effect M s S l.updates e ≡ Some x
      → after M s S o (done ++ e ∷ []) ≡ Some (with_entry M l.entries x)
  after_more o l [] e x h f =
      subst (λ (y : Log M). after M s S y (e ∷ []) ≡ Some (with_entry M l.entries x)) (sym (same_Some o l h)) (ap (option_and_then (λ y. Some (with_entry M l.entries y))) f)
  after_more o l (d ∷ done) e x h f =
      option_and_then_some (λ y. after M s S (with_entry M o.entries y) done) (effect M s S o.updates d) l h
      (λ y g r. ap (option_and_then (λ z. after M s S (with_entry M o.entries z) (done ++ e ∷ []))) g ∙ after_more (with_entry M o.entries y) l done e x r f)

  module _ (Q : Entry M → Type 0) where
    -- It holds of the entry of each event that is no live answer and no withdrawal.
    abbrev pub Each : Type 0
    Each = (done : List (Event M)) (l : Log M) (e : Event M) (x : Effect M) → after M s S (empty_log M) done ≡ Some l → is_recorded e ≡ true → effect M s S l.updates e ≡ Some x → Q x.entry

    pub walked : Each → (done : List (Event M)) (l : Log M) → after M s S (empty_log M) done ≡ Some l → AllByRecursion Q l.entries
        → (es : List (Event M)) (m : Log M) → list_all is_recorded es ≡ true → after M s S l es ≡ Some m → AllByRecursion Q m.entries
    walked each done l h all [] m recorded g = subst (λ (x : Log M). AllByRecursion Q x.entries) (same_Some l m g) all
    walked each done l h all (e ∷ es) m recorded g =
        let parts = and_parts (is_recorded e) (list_all is_recorded es) recorded in
        option_and_then_some (λ x. after M s S (with_entry M l.entries x) es) (effect M s S l.updates e) m g
        (λ x f r. walked each (done ++ e ∷ []) (with_entry M l.entries x) (after_more (empty_log M) l done e x h f)
        (all_join Q l.entries (x.entry ∷ []) all (each done l e x h parts.0 f, tt)) es m parts.1 r)

-- ---- plain entries

pub plain_again : (ms : List Rule) (B : ℕ) (P : PlainEntry → Type 0) (H : List PlainEntry) → AllByRecursion (λ (x : Entry (caused_chase ms B)). P (plain_entry ms B x)) (map (entry_kept ms B) H) → AllByRecursion P H
plain_again ms B P [] all = tt
plain_again ms B P (e ∷ H) all = (subst P (entry_back ms B e) all.0, plain_again ms B P H all.1)
