-- The image determines the binding on the variables of its atoms.
use Rattle.std.proofs.Common.{◌≡◌, ℕ, ap, sym, ◌∙◌, List, [], ◌∷◌, map, true, inl, inr}
use Rattle.std.specs.List.{list_any}
use Rattle.std.proofs.lemmas.Bool.{eqb-true, or_cases}
use Rattle.def_chase.specs.Values.{Datum, Fact}
use Rattle.def_chase.specs.Mappings.{Slot, Var, Const, Binding, value_under, fact_under, image_under}
use Rattle.def_chase.specs.Laws.{stands_in_slot, stands_in, ImageDetermines}
use Rattle.def_chase.proofs.Bools.{differ}

slot_determines : (p : Slot) (b c : Binding) → value_under b p ≡ value_under c p → (v : ℕ) → stands_in_slot v p ≡ true → b v ≡ c v
slot_determines (Var w) b c e v h = let same : w ≡ v = eqb-true w v h in ap b (sym same) ∙ e ∙ ap c same
slot_determines (Const d) b c e v h = differ h

terms_determine : (ps : List Slot) (b c : Binding) → map (value_under b) ps ≡ map (value_under c) ps → (v : ℕ) → list_any (stands_in_slot v) ps ≡ true → b v ≡ c v
terms_determine [] b c e v h = differ h
terms_determine (p ∷ ps) b c e v h =
    elim (or_cases (stands_in_slot v p) (list_any (stands_in_slot v) ps) h) [
      | inl s ↦ slot_determines p b c (first (value_under b p) (value_under c p) (map (value_under b) ps) (map (value_under c) ps) e) v s
      | inr s ↦ terms_determine ps b c (others (value_under b p) (value_under c p) (map (value_under b) ps) (map (value_under c) ps) e) v s
    ]
  where
    first : (x y : Datum) (xs ys : List Datum) → x ∷ xs ≡ y ∷ ys → x ≡ y
    first x y xs ys e = cc

    others : (x y : Datum) (xs ys : List Datum) → x ∷ xs ≡ y ∷ ys → xs ≡ ys
    others x y xs ys e = cc

pub image_determines : ImageDetermines
image_determines [] b c e v h = differ h
image_determines (p ∷ ps) b c e v h =
    elim (or_cases (list_any (stands_in_slot v) p.terms) (stands_in v ps) h) [
      | inl s ↦ terms_determine p.terms b c (ap (λ (t : Fact). t.values) (first (fact_under b p) (fact_under c p) (image_under b ps) (image_under c ps) e)) v s
      | inr s ↦ image_determines ps b c (others (fact_under b p) (fact_under c p) (image_under b ps) (image_under c ps) e) v s
    ]
  where
    first : (x y : Fact) (xs ys : List Fact) → x ∷ xs ≡ y ∷ ys → x ≡ y
    first x y xs ys e = cc

    others : (x y : Fact) (xs ys : List Fact) → x ∷ xs ≡ y ∷ ys → xs ≡ ys
    others x y xs ys e = cc
