-- The violations that count, and the first of them.
use Rattle.std.proofs.Common.{◌≡◌, ℕ, ap, refl, sym, ◌∙◌, subst, List, [], ◌∷◌, Bool, true, false, not, cond, length, Option, Some, None, inl, inr}
use Rattle.std.specs.Bool.{Decides}
use Rattle.std.specs.Cmp.{IsTotalOrder, tied_itself}
use Rattle.std.specs.List.{list_any, AllByRecursion}
use Rattle.std.specs.List.Sorted.{IsStrictlySortedBy}
use Rattle.std.specs.Ordering.{is_eq, is_gt}
use Rattle.std.specs.Prelude.{find, is_some}
use Rattle.std.specs.declared.cmp.Ordering.{Ordering}
use Rattle.std.specs.declared.cmp.Ordering.TheVariants.{Less}
use Rattle.std.proofs.lemmas.Bool.{false≢true, and_parts, or_cases, both_ways}
use Rattle.def_chase.specs.Values.{Fact}
use Rattle.def_chase.specs.Repository.{IsRepository, Change}
use Rattle.def_chase.specs.Mappings.{Rule, image_under, all_in, IsViolation}
use Rattle.def_chase.specs.Matching.{Known, nothing_known, learn_all, lists_of, extends}
use Rattle.def_chase.specs.Violations.{Scope, Every, in_scope, violates, violated_at, first_violation}
use Rattle.def_chase.proofs.Bools.{some_same, and-true, both}
use Rattle.def_chase.proofs.Searches.{found_any, found_passes}
use Rattle.def_chase.proofs.Lists.{images_cmp, lists_in_order}
use Rattle.def_chase.proofs.Among.{any_from_passing, all_present, same_image, same_image_exact, images_total}
use Rattle.def_chase.proofs.Learning.{Agrees, Means, all_means}
use Rattle.def_chase.proofs.Matches.{length-image}
use Rattle.def_chase.proofs.Violations.{violates_decides}
use Rattle.def_steps.specs.Counted.{IsViolationIn, ScopesDecide, IsFirstIn, FirstInScope}
use Rattle.def_steps.proofs.Bound.{counted_decides}

-- ---- the test

module _ (scope : Scope) (own : List Change) (m : Rule) (D image : List Fact) where
  decides_at : (o : Option Known) → Means o (λ b. Agrees nothing_known b × (image_under b m.left ≡ image)) → Decides (violated_at Every own m D image o) (IsViolation m D image)
      → Decides (violated_at scope own m D image o) (IsViolationIn scope own m D image)
  decides_at None means every = (λ e. absurd (false≢true e), λ x. absurd (false≢true (every.1 x.violation)))
  decides_at (Some k) means every =
      let counted = counted_decides own m image k means scope in (
        λ e. let parts = and_parts (not (extends k m.right D)) (in_scope scope own m image k) e in
            record { violation = every.0 (and-true (not (extends k m.right D)) ∙ parts.0); counted = counted.0 parts.1 },
        λ x. both (not (extends k m.right D)) (in_scope scope own m image k) (sym (and-true (not (extends k m.right D))) ∙ every.1 x.violation) (counted.1 x.counted),
      )

pub scopes_decide : ScopesDecide
scopes_decide scope own m D image a = decides_at scope own m D image (learn_all m.left image nothing_known) (all_means m.left image nothing_known) (violates_decides m own D image a)

-- ---- the least

-- none that passes is below the one that is found
least_found : {K : Type 0} (R : K → K → Ordering) (o : IsTotalOrder R) (p : K → Bool) (xs : List K) (x : K) → IsStrictlySortedBy R xs → find p xs ≡ Some x → AllByRecursion (λ y. p y ≡ true → is_gt (R x y) ≡ false) xs
unfolding IsStrictlySortedBy
least_found R o p [] x s e = tt
least_found {K} R o p (z ∷ zs) x s e = by (p z) refl e (λ f. least_found R o p zs x s.1 f)
  where
    above : (ys : List K) → AllByRecursion (λ y. R z y ≡ Less) ys → AllByRecursion (λ y. p y ≡ true → is_gt (R z y) ≡ false) ys
    above [] a = tt
    above (y ∷ ys) a = (λ _. ap is_gt a.0, above ys a.1)

    by : (b : Bool) → p z ≡ b → cond b (Some z) (find p zs) ≡ Some x → (find p zs ≡ Some x → AllByRecursion (λ y. p y ≡ true → is_gt (R x y) ≡ false) zs) → AllByRecursion (λ y. p y ≡ true → is_gt (R x y) ≡ false) (z ∷ zs)
    by true h f rest = subst (λ (w : K). AllByRecursion (λ y. p y ≡ true → is_gt (R w y) ≡ false) (z ∷ zs)) (some_same z x f) (λ _. ap is_gt (tied_itself o z), above zs s.0)
    by false h f rest = (λ g. absurd (both_ways (p z) h g), rest f)

at_any : {K : Type 0} (P : K → Type 0) (q : K → Bool) (xs : List K) → AllByRecursion P xs → list_any q xs ≡ true → (y : K) × (P y) × (q y ≡ true)
at_any P q [] a e = absurd (false≢true e)
at_any P q (x ∷ xs) a e = elim (or_cases (q x) (list_any q xs) e) [ inl h ↦ (x, a.0, h) | inr h ↦ at_any P q xs a.1 h ]

-- a violation's image is among the lists that are gone through
among : (m : Rule) (D ts : List Fact) (x : IsViolation m D ts) (q : List Fact → Bool) → q ts ≡ true → list_any q (lists_of (length m.left) D) ≡ true
among m D ts x q h =
    subst (λ (n : ℕ). list_any q (lists_of n D) ≡ true) (ap length (sym x.is_image) ∙ length-image x.binding m.left) (any_from_passing q D ts x.present h)

found : (scope : Scope) (own : List Change) (m : Rule) (D image : List Fact) → IsRepository D → first_violation scope own m D ≡ Some image → IsFirstIn scope own m D image
found scope own m D image d e =
    let lists : List (List Fact) = lists_of (length m.left) D in
    let present = all_present (length m.left) D (violates scope own m D) image e in
    record {
      counts = (scopes_decide scope own m D image present).0 (found_passes (violates scope own m D) lists image e);
      least = λ other x.
          let there = among m D other x.violation (same_image other) (ap is_eq (tied_itself images_total other)) in
          let at = at_any (λ y. violates scope own m D y ≡ true → is_gt (images_cmp image y) ≡ false) (same_image other) lists
          (least_found images_cmp images_total (violates scope own m D) lists image (lists_in_order (length m.left) D d) e) there in
          let same : other ≡ at.0 = same_image_exact other at.0 at.2 in
          ap (λ y. is_gt (images_cmp image y)) same
          ∙ at.1 (ap (violates scope own m D) (sym same) ∙ (scopes_decide scope own m D other x.violation.present).1 x);
    }

none : (scope : Scope) (own : List Change) (m : Rule) (D : List Fact) → first_violation scope own m D ≡ None → (image : List Fact) → IsViolationIn scope own m D image → ⊥
none scope own m D e ts x =
    let there = among m D ts x.violation (violates scope own m D) ((scopes_decide scope own m D ts x.violation.present).1 x) in
    false≢true (ap is_some (sym e) ∙ found_any (violates scope own m D) (lists_of (length m.left) D) ∙ there)

pub first_in_scope : FirstInScope
first_in_scope = record { found = found; none = none }
