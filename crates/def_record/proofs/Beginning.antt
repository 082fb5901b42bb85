-- The record of a desk that was just made.
use Rattle.std.proofs.Common.{◌≡◌, ℕ, ◌+◌, sym, refl, ap, ◌∙◌, arith, List, [], ◌∷◌, ◌++◌, append_assoc, append-nil, map, take, length, take_all, Option, Some, None}
use Rattle.std.proofs.lemmas.Option.{same_Some, option_and_then_some}
use Rattle.def_machine.specs.Machine.{Machine}
use Rattle.def_machine.specs.Updates.{Update, Session, Settings}
use Rattle.def_machine.specs.Effects.{Event, Entry, effect}
use Rattle.def_machine.specs.Histories.{Log, with_entry, after, event_of}
use Rattle.def_machine.proofs.Basics.{length_more}
use Rattle.def_record.specs.declared.item.Item.TheVariants.{Opened}
use Rattle.def_record.specs.Items.{made}
use Rattle.def_record.specs.Marks.{entered}
use Rattle.def_record.specs.Records.{Now, begun, updates_in, after_items, AllFollow}
use Rattle.def_record.specs.Openings.{OpeningLaw}

-- what stands after as many elements as the first list has
next_after : {A : Type 0} → List A → List A → Option A
next_after [] [] = None
next_after [] (y ∷ ys) = Some y
next_after (x ∷ xs) [] = None
next_after (x ∷ xs) (y ∷ ys) = next_after xs ys

next_after_is : {A : Type 0} (xs : List A) (y : A) (ys : List A) → next_after xs (xs ++ y ∷ ys) ≡ Some y
unfolding next_after
next_after_is [] y ys = refl
next_after_is (x ∷ xs) y ys = next_after_is xs y ys

same_next : {A : Type 0} (xs : List A) (y : A) (ys : List A) (z : A) (zs : List A) → xs ++ y ∷ ys ≡ xs ++ z ∷ zs → y ≡ z
same_next xs y ys z zs e = same_Some y z (sym (next_after_is xs y ys) ∙ (ap (next_after xs) e ∙ next_after_is xs z zs))

module _ (M : Machine) (s : Settings) (S : Session M) where
  -- entries are added at the end
  added : (l m : Log M) (es : List (Event M)) → after M s S l es ≡ Some m → (J : List (Entry M)) × (m.entries ≡ l.entries ++ J)
  added l m [] h = ([], ap (λ (x : Log M). x.entries) (sym (same_Some _ _ h)) ∙ sym (append-nil l.entries))
  added l m (e ∷ es) h =
      option_and_then_some (λ x. after M s S (with_entry M l.entries x) es) (effect M s S l.updates e) m h
      (λ x f g. let r = added (with_entry M l.entries x) m es g in (x.entry ∷ r.0, r.1 ∙ append_assoc l.entries (x.entry ∷ []) r.0))

  -- the core's part of what a record leaves, before any ticket
  abbrev at : ℕ → List (Update M) → List (Entry M) → Now M
  at k us H = record { settings = s; session = S; opening = k; updates = us; history = H; out = []; given = 0 }

  begins : (k : ℕ) (us : List (Update M)) (H J : List (Entry M)) (vs : List (Update M)) → k ≡ length H + length J
      → after M s S record { updates = us; entries = H } (map event_of J) ≡ Some record { updates = vs; entries = H ++ J }
      → AllFollow (at k us H) (entered None J) × (after_items (at k us H) (entered None J) ≡ at k vs (H ++ J))
  begins k us H [] vs e h = (tt, λ i. at k ((same_Some _ _ h i).updates) ((same_Some _ _ h i).entries))
  begins k us H (d ∷ J) vs e h =
      option_and_then_some (λ x. after M s S (with_entry M H x) (map event_of J)) (effect M s S us (event_of d)) record { updates = vs; entries = H ++ d ∷ J } h
      (λ x f g.
      let r = added (with_entry M H x) record { updates = vs; entries = H ++ d ∷ J } (map event_of J) g in
      let told : x.entry ≡ d = sym (same_next H d J x.entry r.0 (r.1 ∙ append_assoc H (x.entry ∷ []) r.0)) in
      let left : updates_in us (effect M s S us (event_of d)) ≡ x.updates = ap (updates_in us) f in
      let assoc : (H ++ d ∷ []) ++ J ≡ H ++ d ∷ J = append_assoc H (d ∷ []) J in
      let g' : after M s S record { updates = updates_in us (effect M s S us (event_of d)); entries = H ++ d ∷ [] } (map event_of J) ≡ Some record { updates = vs; entries = (H ++ d ∷ []) ++ J } =
      (λ i. after M s S record { updates = left i; entries = H ++ sym told i ∷ [] } (map event_of J)) ∙ (g ∙ (λ i. Some record { updates = vs; entries = sym assoc i })) in
      let more = begins k (updates_in us (effect M s S us (event_of d))) (H ++ d ∷ []) J vs (omega (arith, e, length_more H d)) g' in
      (((record { made = x; allowed = f; told = told }, omega (arith, e)), more.0), more.1 ∙ (λ i. at k vs (assoc i))))

pub opening_law : (M : Machine) → OpeningLaw M
opening_law M s S H us h =
    let b = begins M s S (length H) [] [] H us (omega arith) h in
    record {
      mark = append-nil (made (Opened (s, S) (length H)) None ∷ entered None (take (length H) H)) ∙ ap (λ es. made (Opened (s, S) (length H)) None ∷ entered None es) (take_all (length H) H (omega arith));
      is = (begun s S (length H), refl, refl, b.0);
      now = ap Some b.1;
    }
