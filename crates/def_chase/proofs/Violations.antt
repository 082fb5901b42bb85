-- `violates` decides `IsViolation`, and the first violation is the least one.
use Rattle.std.proofs.Common.{◌≡◌, ℕ, ap, refl, sym, ◌∙◌, subst, List, [], ◌∷◌, Bool, true, false, not, cond, length, Option, Some, None, inl, inr}
use Rattle.std.specs.Bool.{Decides}
use Rattle.std.specs.Cmp.{IsTotalOrder, tied_itself}
use Rattle.std.specs.List.{list_any, AllByRecursion}
use Rattle.std.specs.List.Sorted.{IsStrictlySortedBy}
use Rattle.std.specs.Ordering.{is_eq, is_gt}
use Rattle.std.specs.Prelude.{find, is_some}
use Rattle.std.specs.declared.cmp.Ordering.{Ordering}
use Rattle.std.specs.declared.cmp.Ordering.TheVariants.{Less}
use Rattle.std.proofs.lemmas.Bool.{false≢true, and_parts, or_cases, both_ways, not-true}
use Rattle.def_chase.specs.Values.{Fact}
use Rattle.def_chase.specs.Repository.{IsRepository, Change}
use Rattle.def_chase.specs.Mappings.{Rule, Binding, image_under, all_in, IsViolation, Holds}
use Rattle.def_chase.specs.Matching.{Known, nothing_known, learn_all, lists_of, extends}
use Rattle.def_chase.specs.Violations.{Every, violates, violated_at, first_violation, IsFirstViolation}
use Rattle.def_chase.proofs.Bools.{none_some, some_same, and-true}
use Rattle.def_chase.proofs.Searches.{found_any, found_passes}
use Rattle.def_chase.proofs.Lists.{images_cmp, lists_in_order}
use Rattle.def_chase.proofs.Among.{any_from_passing, all_present, same_image, same_image_exact, images_total}
use Rattle.def_chase.proofs.Learning.{Agrees, Means, all_means}
use Rattle.def_chase.proofs.Matches.{extends_decides, known_or_zero, agrees_itself, length-image}

-- ---- violations

agrees_nothing : (b : Binding) → Agrees nothing_known b
agrees_nothing b v d e = absurd (none_some d e)

unmet_of : (m : Rule) (D image : List Fact) (k : Known) → Means (Some k) (λ b. Agrees nothing_known b × (image_under b m.left ≡ image)) → extends k m.right D ≡ false
    → (b : Binding) → image_under b m.left ≡ image → (r : Bool) → all_in D (image_under b m.right) ≡ r → r ≡ false
unmet_of m D image k means e b h false q = refl
unmet_of m D image k means e b h true q =
    absurd (both_ways (extends k m.right D) e ((extends_decides k m.right D).1 (record { binding = b; agrees = (means b).1 (agrees_nothing b, h); present = q })))

pub violation_of : (m : Rule) (own : List Change) (D image : List Fact) → all_in D image ≡ true → (o : Option Known) → Means o (λ b. Agrees nothing_known b × (image_under b m.left ≡ image))
    → violated_at Every own m D image o ≡ true → IsViolation m D image
violation_of m own D image a None means e = absurd (false≢true e)
violation_of m own D image a (Some k) means e =
    let off : extends k m.right D ≡ false = not-true (extends k m.right D) (and_parts (not (extends k m.right D)) true e).0 in
    record {
      binding = known_or_zero k;
      is_image = ((means (known_or_zero k)).0 (agrees_itself k)).1;
      present = a;
      unmet = λ b h. unmet_of m D image k means off b h (all_in D (image_under b m.right)) refl;
    }

violated_of : (m : Rule) (own : List Change) (D image : List Fact) (x : IsViolation m D image) → (o : Option Known) → Means o (λ b. Agrees nothing_known b × (image_under b m.left ≡ image))
    → violated_at Every own m D image o ≡ true
violated_of m own D image x None means = absurd (means x.binding (agrees_nothing x.binding, x.is_image))
violated_of m own D image x (Some k) means = and-true (not (extends k m.right D)) ∙ ap not (by (extends k m.right D) refl)
  where
    by : (r : Bool) → extends k m.right D ≡ r → r ≡ false
    by false e = refl
    by true e = let y = (extends_decides k m.right D).0 e in absurd (both_ways (all_in D (image_under y.binding m.right)) (x.unmet y.binding ((means y.binding).0 y.agrees).1) y.present)

pub violates_decides : (m : Rule) (own : List Change) (D image : List Fact) → all_in D image ≡ true → Decides (violates Every own m D image) (IsViolation m D image)
violates_decides m own D image a = (
  λ e. violation_of m own D image a (learn_all m.left image nothing_known) (all_means m.left image nothing_known) e,
  λ x. violated_of m own D image x (learn_all m.left image nothing_known) (all_means m.left image nothing_known),
)

-- ---- the least

-- None that passes is below the one that is found.
least_found : {K : Type 0} (R : K → K → Ordering) (o : IsTotalOrder R) (p : K → Bool) (xs : List K) (x : K) → IsStrictlySortedBy R xs → find p xs ≡ Some x → AllByRecursion (λ y. p y ≡ true → is_gt (R x y) ≡ false) xs
unfolding IsStrictlySortedBy
least_found R o p [] x s e = tt
least_found {K} R o p (z ∷ zs) x s e = by (p z) refl e (λ f. least_found R o p zs x s.1 f)
  where
    above : (ys : List K) → AllByRecursion (λ y. R z y ≡ Less) ys → AllByRecursion (λ y. p y ≡ true → is_gt (R z y) ≡ false) ys
    above [] a = tt
    above (y ∷ ys) a = (λ _. ap is_gt a.0, above ys a.1)

    by : (b : Bool) → p z ≡ b → cond b (Some z) (find p zs) ≡ Some x → (find p zs ≡ Some x → AllByRecursion (λ y. p y ≡ true → is_gt (R x y) ≡ false) zs) → AllByRecursion (λ y. p y ≡ true → is_gt (R x y) ≡ false) (z ∷ zs)
    by true h f rest = subst (λ (w : K). AllByRecursion (λ y. p y ≡ true → is_gt (R w y) ≡ false) (z ∷ zs)) (some_same z x f) (λ _. ap is_gt (tied_itself o z), above zs s.0)
    by false h f rest = (λ g. absurd (both_ways (p z) h g), rest f)

at_any : {K : Type 0} (P : K → Type 0) (q : K → Bool) (xs : List K) → AllByRecursion P xs → list_any q xs ≡ true → (y : K) × (P y) × (q y ≡ true)
at_any P q [] a e = absurd (false≢true e)
at_any P q (x ∷ xs) a e = elim (or_cases (q x) (list_any q xs) e) [ inl h ↦ (x, a.0, h) | inr h ↦ at_any P q xs a.1 h ]

pub first_violation_is : (m : Rule) (own : List Change) (D image : List Fact) → IsRepository D → first_violation Every own m D ≡ Some image → IsFirstViolation m D image
first_violation_is m own D image d e =
    let present = all_present (length m.left) D (violates Every own m D) image e in
    record {
      is_violation = (violates_decides m own D image present).0 (found_passes (violates Every own m D) (lists_of (length m.left) D) image e);
      least = λ other x.
          let there : list_any (same_image other) (lists_of (length m.left) D) ≡ true =
          subst (λ (n : ℕ). list_any (same_image other) (lists_of n D) ≡ true) (ap length (sym x.is_image) ∙ length-image x.binding m.left)
          (any_from_passing (same_image other) D other x.present (ap is_eq (tied_itself images_total other))) in
          let at = at_any (λ y. violates Every own m D y ≡ true → is_gt (images_cmp image y) ≡ false) (same_image other) (lists_of (length m.left) D)
          (least_found images_cmp images_total (violates Every own m D) (lists_of (length m.left) D) image (lists_in_order (length m.left) D d) e) there in
          let same : other ≡ at.0 = same_image_exact other at.0 at.2 in
          ap (λ y. is_gt (images_cmp image y)) same
          ∙ at.1 (ap (violates Every own m D) (sym same) ∙ (violates_decides m own D other x.present).1 x);
    }

-- Where no first violation is found the mapping holds.
pub none_violates : (m : Rule) (own : List Change) (D : List Fact) → first_violation Every own m D ≡ None → Holds m D
none_violates m own D e ts x =
    let there : list_any (violates Every own m D) (lists_of (length m.left) D) ≡ true =
    subst (λ (n : ℕ). list_any (violates Every own m D) (lists_of n D) ≡ true) (ap length (sym x.is_image) ∙ length-image x.binding m.left)
    (any_from_passing (violates Every own m D) D ts x.present ((violates_decides m own D ts x.present).1 x)) in
    false≢true (ap is_some (sym e) ∙ found_any (violates Every own m D) (lists_of (length m.left) D) ∙ there)
