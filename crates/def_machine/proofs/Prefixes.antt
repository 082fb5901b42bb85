-- Legal histories grow by allowed events, and their prefixes are legal.
use Rattle.std.proofs.Common.{◌≡◌, suc, ◌+◌, ap, sym, refl, subst, ◌∙◌, List, [], ◌∷◌, ◌++◌, append_assoc, append-nil, map, length, arith, Some, None}
use Rattle.std.specs.Prelude.{Option, option_and_then}
use Rattle.std.proofs.lemmas.Option.{same_Some, option_and_then_some}
use Rattle.def_machine.specs.Machine.{Machine, Laws}
use Rattle.def_machine.specs.Updates.{Update, Session, Settings}
use Rattle.def_machine.specs.Effects.{Event, Entry, Effect, effect}
use Rattle.def_machine.specs.Histories.{Log, empty_log, with_entry, after, event_of, IsLegal}
use Rattle.def_machine.specs.LegalLaw.{LegalLaw}
use Rattle.def_machine.proofs.Basics.{length_more}
use Rattle.def_machine.proofs.Legal.{events_join, effect_records}

map_join : (M : Machine) (H J : List (Entry M)) → map event_of (H ++ J) ≡ map event_of H ++ map event_of J
map_join M [] J = refl
map_join M (d ∷ H) J = ap (λ es. event_of d ∷ es) (map_join M H J)

-- two ways to split a list at one place
same_front : {A : Type 0} (xs ys us vs : List A) → length xs ≡ length us → xs ++ ys ≡ us ++ vs → xs ≡ us
same_front [] ys [] vs l e = refl
same_front [] ys (u ∷ us) vs l e = absurd (omega (arith, l))
same_front (x ∷ xs) ys [] vs l e = absurd (omega (arith, l))
same_front {A} (x ∷ xs) ys (u ∷ us) vs l e =
    let head : x ≡ u = same_Some x u (ap first e) in
    let rest : xs ≡ us = same_front xs ys us vs (omega (arith, l)) (ap others e) in
    λ i. head i ∷ rest i
  where
    first : List A → Option A
    first [] = None
    first (z ∷ zs) = Some z

    others : List A → List A
    others [] = []
    others (z ∷ zs) = zs

length_map : (M : Machine) (H : List (Entry M)) → length (map event_of H) ≡ length H
length_map M [] = refl
length_map M (d ∷ H) = ap suc (length_map M H)

module _ (M : Machine) (L : Laws M) (s : Settings) (S : Session M) where
  -- what comes after the events es, and then fs
  pub record Halves (l : Log M) (es fs : List (Event M)) (m : Log M) : Type 0 where
    pub middle : Log M
    pub first : after M s S l es ≡ Some middle
    pub second : after M s S middle fs ≡ Some m

  pub halves : (l : Log M) (es fs : List (Event M)) (m : Log M) → after M s S l (es ++ fs) ≡ Some m → Halves l es fs m
  halves l [] fs m h = record { middle = l; first = refl; second = h }
  halves l (e ∷ es) fs m h =
      option_and_then_some (λ x. after M s S (with_entry M l.entries x) (es ++ fs)) (effect M s S l.updates e) m h
      (λ x f g. let r = halves (with_entry M l.entries x) es fs m g in
      record { middle = r.middle; first = ap (option_and_then (λ x. after M s S (with_entry M l.entries x) es)) f ∙ r.first; second = r.second })

  joined : (l m k : Log M) (es fs : List (Event M)) → after M s S l es ≡ Some m → after M s S m fs ≡ Some k → after M s S l (es ++ fs) ≡ Some k
  joined l m k [] fs h g = ap (λ (x : Log M). after M s S x fs) (same_Some _ _ h) ∙ g
  joined l m k (e ∷ es) fs h g =
      option_and_then_some (λ x. after M s S (with_entry M l.entries x) es) (effect M s S l.updates e) m h
      (λ x f q. ap (option_and_then (λ x. after M s S (with_entry M l.entries x) (es ++ fs))) f ∙ joined (with_entry M l.entries x) m k es fs q g)

  -- entries are added at the end, one for each event
  added : (l m : Log M) (es : List (Event M)) → after M s S l es ≡ Some m → (J : List (Entry M)) × (m.entries ≡ l.entries ++ J) × (length m.entries ≡ length l.entries + length es)
  added l m [] h =
      let e : l ≡ m = same_Some _ _ h in
      ([], ap (λ (x : Log M). x.entries) (sym e) ∙ sym (append-nil l.entries), subst (λ (x : Log M). length x.entries ≡ length l.entries + 0) e (omega arith))
  added l m (e ∷ es) h =
      option_and_then_some (λ x. after M s S (with_entry M l.entries x) es) (effect M s S l.updates e) m h
      (λ x f g. let r = added (with_entry M l.entries x) m es g in
      (x.entry ∷ r.0, r.1 ∙ append_assoc l.entries (x.entry ∷ []) r.0, omega (arith, r.2, length_more l.entries x.entry)))

  grown : (H : List (Entry M)) (us : List (Update M)) (e : Event M) (x : Effect M) → IsLegal M s S H us → effect M s S us e ≡ Some x → IsLegal M s S (H ++ x.entry ∷ []) x.updates
  grown H us e x h f =
      ap (λ es. after M s S (empty_log M) es) (events_join M H x.entry ∙ ap (λ d. map event_of H ++ d ∷ []) (effect_records M L s S us e x f).0)
      ∙ joined (empty_log M) record { updates = us; entries = H } record { updates = x.updates; entries = H ++ x.entry ∷ [] } (map event_of H) (e ∷ []) h
      (ap (option_and_then (λ y. after M s S (with_entry M H y) [])) f)

  prefix_from : (H J : List (Entry M)) (us : List (Update M)) → Halves (empty_log M) (map event_of H) (map event_of J) record { updates = us; entries = H ++ J } → (vs : List (Update M)) × IsLegal M s S H vs
  prefix_from H J us r =
      let a = added (empty_log M) r.middle (map event_of H) r.first in
      let b = added r.middle record { updates = us; entries = H ++ J } (map event_of J) r.second in
      let same : r.middle.entries ≡ H = same_front r.middle.entries b.0 H J (omega (arith, a.2, length_map M H)) (λ i. sym b.1 i) in
      (r.middle.updates, r.first ∙ (λ i. Some (record { updates = r.middle.updates; entries = same i })))

  legal_prefix : (H J : List (Entry M)) (us : List (Update M)) → IsLegal M s S (H ++ J) us → (vs : List (Update M)) × IsLegal M s S H vs
  legal_prefix H J us h =
      prefix_from H J us
      (halves (empty_log M) (map event_of H) (map event_of J) record { updates = us; entries = H ++ J } (ap (λ es. after M s S (empty_log M) es) (sym (map_join M H J)) ∙ h))

pub legal_law : (M : Machine) → Laws M → LegalLaw M
legal_law M L s S = record {
  empty = refl;
  grows = grown M L s S;
  prefix = legal_prefix M L s S;
  single = λ H us vs h g. ap (λ (l : Log M). l.updates) (same_Some _ _ (sym h ∙ g));
}
