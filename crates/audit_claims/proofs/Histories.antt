-- A history is that of its events, and grows entry by entry.
use Rattle.std.specs.Prelude.{◌≡◌, ◌+◌, List, [], ◌∷◌, ◌++◌, map, length, Some, option_and_then, option_map}
use Rattle.std.proofs.Common.{refl, sym, ap, subst, ◌∙◌, arith, append-nil, append_assoc}
use Rattle.std.proofs.lemmas.List.{length-map}
use Rattle.std.proofs.lemmas.Option.{same_Some, option_and_then_some}
use Rattle.audit_claims.specs.Claimed.{told_by}
use Rattle.def_history.specs.Cores.{Ground, machine, session_over, entries_over, updates_after, updates_in, effect_after, grown, IsLegalOver}
use Rattle.def_history.specs.PlainEntries.{EntriesArePlain, PlainEntry, WasAdmitted, WasStepped, WasDelivered, WasAnswered, WasWithdrawn, plain_entry, entry_kept}
use Rattle.def_machine.specs.Effects.{Effect, Entry, Event, effect}
use Rattle.def_machine.specs.Histories.{Log, after, empty_log, event_of, with_entry}
use Rattle.def_machine.specs.Machine.{Machine}
use Rattle.def_machine.specs.Updates.{Session, Settings}
use Rattle.def_machine.proofs.Basics.{length_more}
use Rattle.audit_claims.specs.Verdicts.{event_told}

-- ---- lists

map_join : {A B : Type 0} (f : A → B) (xs ys : List A) → map f (xs ++ ys) ≡ map f xs ++ map f ys
map_join f [] ys = refl
map_join f (x ∷ xs) ys = ap (λ zs. f x ∷ zs) (map_join f xs ys)

record SameParts {A : Type 0} (xs us : List A) (y v : A) : Type 0 where
  front : xs ≡ us
  item : y ≡ v

same_parts : {A : Type 0} (xs ys us vs : List A) (y v : A) → length xs ≡ length us → xs ++ y ∷ ys ≡ us ++ v ∷ vs → SameParts xs us y v
same_parts [] ys [] vs y v long e = record { front = refl; item = cc }
same_parts [] ys (u ∷ us) vs y v long e = absurd (omega (arith, long))
same_parts (x ∷ xs) ys [] vs y v long e = absurd (omega (arith, long))
same_parts {A} (x ∷ xs) ys (u ∷ us) vs y v long e =
    let head : x ≡ u = cc in
    let rest : xs ++ y ∷ ys ≡ us ++ v ∷ vs = cc in
    let others = same_parts xs ys us vs y v (omega (arith, long)) rest in
    record { front = λ i. head i ∷ others.front i; item = others.item }

-- ---- what comes before an event, and after it

module _ (M : Machine) (s : Settings) (S : Session M) where
  record Passes (l m : Log M) (es : List (Event M)) (e : Event M) (fs : List (Event M)) : Type 0 where
    middle : Log M
    made : Effect M
    first : after M s S l es ≡ Some middle
    allowed : effect M s S middle.updates e ≡ Some made
    second : after M s S (with_entry M middle.entries made) fs ≡ Some m

  passes : (l m : Log M) (es : List (Event M)) (e : Event M) (fs : List (Event M)) → after M s S l (es ++ e ∷ fs) ≡ Some m → Passes l m es e fs
  passes l m [] e fs h =
      option_and_then_some (λ x. after M s S (with_entry M l.entries x) fs) (effect M s S l.updates e) m h
      (λ x f g. record { middle = l; made = x; first = refl; allowed = f; second = g })
  passes l m (d ∷ es) e fs h =
      option_and_then_some (λ x. after M s S (with_entry M l.entries x) (es ++ e ∷ fs)) (effect M s S l.updates d) m h
      (λ x f g. let rest = passes (with_entry M l.entries x) m es e fs g in
      record {
        middle = rest.middle;
        made = rest.made;
        first = ap (option_and_then (λ y. after M s S (with_entry M l.entries y) es)) f ∙ rest.first;
        allowed = rest.allowed;
        second = rest.second;
      })

  -- entries are added at the end, one for each event
  added : (l m : Log M) (es : List (Event M)) → after M s S l es ≡ Some m → (J : List (Entry M)) × (m.entries ≡ l.entries ++ J) × (length m.entries ≡ length l.entries + length es)
  added l m [] h =
      let e : l ≡ m = same_Some _ _ h in
      ([], ap (λ (x : Log M). x.entries) (sym e) ∙ sym (append-nil l.entries), subst (λ (x : Log M). length x.entries ≡ length l.entries + 0) e (omega arith))
  added l m (e ∷ es) h =
      option_and_then_some (λ x. after M s S (with_entry M l.entries x) es) (effect M s S l.updates e) m h
      (λ x f g. let r = added (with_entry M l.entries x) m es g in
      (x.entry ∷ r.0, r.1 ∙ append_assoc l.entries (x.entry ∷ []) r.0, omega (arith, r.2, length_more l.entries x.entry)))

-- ---- the events of plain entries

module _ (g : Ground) (plain : EntriesArePlain) where
  abbrev kept : PlainEntry → Entry (machine g)
  kept x = entry_kept g.rules g.budget x

  abbrev events : List PlainEntry → List (Event (machine g))
  events H = map event_of (entries_over g H)

  event_is : (x : PlainEntry) → event_of (kept x) ≡ event_told g (told_by x)
  event_is (WasAdmitted u) = refl
  event_is (WasStepped e) = refl
  event_is (WasDelivered e) = refl
  event_is (WasAnswered e) = refl
  event_is (WasWithdrawn e) = refl

  events_are : (H : List PlainEntry) → events H ≡ map (event_told g) (map told_by H)
  events_are [] = refl
  events_are (x ∷ H) = λ i. event_is x i ∷ events_are H i

  plain_again : (H : List PlainEntry) → map (plain_entry g.rules g.budget) (entries_over g H) ≡ H
  plain_again [] = refl
  plain_again (x ∷ H) = λ i. plain.plain g.rules g.budget x i ∷ plain_again H i

  -- Two histories of the same events are one.
  pub one_history : (H K : List PlainEntry) → IsLegalOver g H → IsLegalOver g K → map told_by H ≡ map told_by K → H ≡ K
  one_history H K legal other told =
      let same : events H ≡ events K = events_are H ∙ ap (map (event_told g)) told ∙ sym (events_are K) in
      let logs = same_Some _ _ (sym legal ∙ ap (after (machine g) g.settings (session_over g) (empty_log (machine g))) same ∙ other) in
      sym (plain_again H) ∙ ap (λ (l : Log (machine g)). map (plain_entry g.rules g.budget) l.entries) logs ∙ plain_again K

  -- The entries before this one are a history, which grows by it.
  pub record Grows (H : List PlainEntry) (x : PlainEntry) : Type 0 where
    pub legal : IsLegalOver g H
    pub more : grown g H (event_told g (told_by x)) ≡ Some (H ++ x ∷ [])

  grows_at : (H : List PlainEntry) (x : PlainEntry) (J : List PlainEntry) (m : Log (machine g)) → m.entries ≡ entries_over g (H ++ x ∷ J)
      → Passes (machine g) g.settings (session_over g) (empty_log (machine g)) m (events H) (event_of (kept x)) (events J) → Grows H x
  grows_at H x J m all p =
      let before = added (machine g) g.settings (session_over g) (empty_log (machine g)) p.middle (events H) p.first in
      let later = added (machine g) g.settings (session_over g) (with_entry (machine g) p.middle.entries p.made) m (events J) p.second in
      let parts = same_parts p.middle.entries later.0 (entries_over g H) (entries_over g J) p.made.entry (kept x)
      (omega (arith, before.2, length-map (entries_over g H) event_of))
      (sym (append_assoc p.middle.entries (p.made.entry ∷ []) later.0) ∙ sym later.1 ∙ all ∙ map_join kept H (x ∷ J)) in
      let updates : updates_after g H ≡ p.middle.updates = ap (updates_in (machine g)) p.first in
      let entry : plain_entry g.rules g.budget p.made.entry ≡ x = ap (plain_entry g.rules g.budget) parts.item ∙ plain.plain g.rules g.budget x in
      let allowed : effect_after g H (event_told g (told_by x)) ≡ Some p.made = (λ i. effect (machine g) g.settings (session_over g) (updates i) (sym (event_is x) i)) ∙ p.allowed in
      record {
        legal = p.first ∙ (λ i. Some (record { updates = sym updates i; entries = parts.front i }));
        more = ap (option_map (λ y. H ++ plain_entry g.rules g.budget y.entry ∷ [])) allowed ∙ ap (λ y. Some (H ++ y ∷ [])) entry;
      }

  pub grows : (H : List PlainEntry) (x : PlainEntry) (J : List PlainEntry) → IsLegalOver g (H ++ x ∷ J) → Grows H x
  grows H x J legal =
      let parted : events (H ++ x ∷ J) ≡ events H ++ event_of (kept x) ∷ events J = ap (map event_of) (map_join kept H (x ∷ J)) ∙ map_join event_of (entries_over g H) (entries_over g (x ∷ J)) in
      grows_at H x J (record { updates = updates_after g (H ++ x ∷ J); entries = entries_over g (H ++ x ∷ J) }) refl
      (passes (machine g) g.settings (session_over g) (empty_log (machine g)) _ (events H) (event_of (kept x)) (events J)
      (ap (after (machine g) g.settings (session_over g) (empty_log (machine g))) (sym parted) ∙ legal))
