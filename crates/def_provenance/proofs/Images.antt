-- The images of repairs: under the values of a repair's variables the left side is the violation's image, and substitutions go through it.
use Rattle.std.specs.Prelude.{nat_lt, pos}
use Rattle.std.proofs.Common.{◌≡◌, ◌∙◌, ap, refl, sym, subst, ℕ, zero, suc, ◌+◌, ◌<◌, true, Option, Some, List, [], ◌∷◌, ◌++◌, map, arith}
use Rattle.std.specs.List.{list_all, range_with_len}
use Rattle.std.proofs.lemmas.Bool.{and_parts, ltb-true}
use Rattle.def_chase.specs.Values.{Datum, Number, Fact, under}
use Rattle.def_chase.specs.Mappings.{Slot, Var, Const, Pattern, Rule, Binding, value_under, image_under, listed}
use Rattle.def_chase.specs.Matching.{nothing_known, Known, learn_all}
use Rattle.def_chase.specs.Caused.{KeepsConstants}
use Rattle.def_chase.proofs.Atoms.{Leaves, image_moved}
use Rattle.def_chase.proofs.Learning.{Agrees, Means, all_means}
use Rattle.def_chase.proofs.Matches.{known_or_zero, agrees_itself}
use Rattle.def_steps.specs.Rewriting.{binding_at, binding_of}
use Rattle.def_provenance.specs.Truths.{is_below, IsNumbered}

-- Values that begin with those of g from i on give variable v what g gives i + v.
listed_range : (g : ℕ → Datum) (i n v : ℕ) (rest : List Datum) → v < n → listed (map g (range_with_len i n) ++ rest) v ≡ g (i + v)
listed_range g i zero v rest h = absurd (omega arith)
listed_range g i (suc n) zero rest h = let e : i ≡ i + 0 = omega arith in ap g e
listed_range g i (suc n) (suc v) rest h = let e : (i + 1) + v ≡ i + suc v = omega arith in listed_range g (i + 1) n v rest (omega arith) ∙ ap g e

terms_alike : (n : ℕ) (b c : Binding) → ((v : ℕ) → v < n → b v ≡ c v) → (ps : List Slot) → list_all (is_below n) ps ≡ true → map (value_under b) ps ≡ map (value_under c) ps
terms_alike n b c h [] e = refl
terms_alike n b c h (Var v ∷ ps) e =
    let x = and_parts (nat_lt v n) (list_all (is_below n) ps) e in
    λ i. h v (ltb-true v n x.0) i ∷ terms_alike n b c h ps x.1 i
terms_alike n b c h (Const d ∷ ps) e = ap (λ ds. d ∷ ds) (terms_alike n b c h ps e)

-- Bindings that agree on the variables of atoms give one image.
images_alike : (n : ℕ) (b c : Binding) → ((v : ℕ) → v < n → b v ≡ c v) → (as' : List Pattern) → list_all (λ a. list_all (is_below n) a.terms) as' ≡ true → image_under b as' ≡ image_under c as'
images_alike n b c h [] e = refl
images_alike n b c h (a ∷ as') e =
    let x = and_parts (list_all (is_below n) a.terms) (list_all (λ a. list_all (is_below n) a.terms) as') e in
    λ i. record { relation = a.relation; values = terms_alike n b c h a.terms x.0 i } ∷ images_alike n b c h as' x.1 i

learned_image : (m : Rule) (image : List Fact) (k : Known) (o : Option Known) → Means o (λ b. Agrees nothing_known b × (image_under b m.left ≡ image)) → o ≡ Some k
    → image_under (known_or_zero k) m.left ≡ image
learned_image m image k o means e =
    let there : Means (Some k) (λ b. Agrees nothing_known b × (image_under b m.left ≡ image)) = subst (λ x. Means x (λ b. Agrees nothing_known b × (image_under b m.left ≡ image))) e means in
    ((there (known_or_zero k)).0 (agrees_itself k)).1

-- Under the values that were learned from an image, and whatever follows them, the left side is that image.
pub begun_image : (m : Rule) (image : List Fact) (k : Known) (rest : List Datum) → IsNumbered m → learn_all m.left image nothing_known ≡ Some k
    → image_under (listed (binding_of m image ++ rest)) m.left ≡ image
begun_image m image k rest numbered e =
    ap (λ o. image_under (listed (binding_at m.universal o ++ rest)) m.left) e
    ∙ images_alike m.universal (listed (binding_at m.universal (Some k) ++ rest)) (known_or_zero k)
    (λ v h. let z : 0 + v ≡ v = omega arith in listed_range (known_or_zero k) 0 m.universal v rest h ∙ ap (known_or_zero k) z) m.left numbered
    ∙ learned_image m image k (learn_all m.left image nothing_known) (all_means m.left image nothing_known) e

-- ---- substitutions

listed_map : (f : Datum → Datum) → f (Number (pos 0)) ≡ Number (pos 0) → (ds : List Datum) (v : ℕ) → listed (map f ds) v ≡ f (listed ds v)
listed_map f z [] v = sym z
listed_map f z (d ∷ ds) zero = refl
listed_map f z (d ∷ ds) (suc v) = listed_map f z ds v

-- The image under substituted values is the substituted image.
pub image_substituted : (f : Datum → Datum) → KeepsConstants f → (ds : List Datum) (as' : List Pattern) → Leaves f as' → image_under (listed (map f ds)) as' ≡ map (under f) (image_under (listed ds) as')
image_substituted f c ds as' l = (λ i. image_under (λ v. listed_map f (c.0 (pos 0)) ds v i) as') ∙ image_moved f (listed ds) as' l
