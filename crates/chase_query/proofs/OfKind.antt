-- The value of a query is of its kind.
use Rattle.std.proofs.Common.{◌≡◌, ap, refl, ◌∙◌, List, [], ◌∷◌, Bool, true, false, ◌&&◌, cond, Option, Some, None, length}
use Rattle.std.specs.List.{list_all, slice_get}
use Rattle.std.specs.Prelude.{filter}
use Rattle.def_chase.specs.Values.{Fact}
use Rattle.def_chase.specs.Repository.{Change, IsRepository, has, apply}
use Rattle.def_chase.specs.Mappings.{Rule}
use Rattle.def_chase.specs.Matching.{Known, nothing_known, learn_all, lists_of}
use Rattle.def_chase.specs.Violations.{Scope, violated_at, violates, first_violation}
use Rattle.def_chase.specs.Specific.{more_specific}
use Rattle.def_chase.specs.Queries.{Present, Violation, Specific, Occurs, Yes, No, holds_null, image_reply, violation_reply, scope_at}
use Rattle.def_chase.proofs.Bools.{differ}
use Rattle.def_chase.proofs.Learning.{Agrees, Means, all_means}
use Rattle.def_chase.proofs.Matches.{known_or_zero, agrees_itself}
use Rattle.def_chase.proofs.Searches.{found_passes}
use Rattle.def_chase.proofs.Sets.{filter_in_order, apply_in_order}
use Rattle.chase_query.specs.Kinds.{IsYesOrNo, IsLeftImage, IsImageOf, AreInOrder}
use Rattle.chase_query.specs.Laws.{ValuesAreOfTheirKind}

yes_or_no : (b : Bool) → IsYesOrNo (cond b Yes No)
yes_or_no true = tt
yes_or_no false = tt

all_pass : (p : Fact → Bool) (D : List Fact) → list_all p (filter p D) ≡ true
all_pass p [] = refl
all_pass p (t ∷ D) = by (p t) refl (all_pass p D)
  where
    by : (b : Bool) → p t ≡ b → list_all p (filter p D) ≡ true → list_all p (cond b (t ∷ filter p D) (filter p D)) ≡ true
    by true e h = ap (λ c. c && list_all p (filter p D)) e ∙ h
    by false e h = h

those_in_order : (p : Fact → Bool) (D : List Fact) → IsRepository D → AreInOrder p (filter p D)
those_in_order p D s = record { in_order = filter_in_order p D s; pass = all_pass p D }

-- What violates is the image of the left side under what was learned.
left_image : (scope : Scope) (own : List Change) (m : Rule) (E image : List Fact) → violates scope own m E image ≡ true → IsLeftImage m image
left_image scope own m E image e = by (learn_all m.left image nothing_known) (all_means m.left image nothing_known) e
  where
    by : (o : Option Known) → Means o (λ b. Agrees nothing_known b × (Rattle.def_chase.specs.Mappings.image_under b m.left ≡ image)) → violated_at scope own m E image o ≡ true → IsLeftImage m image
    by None h f = differ f
    by (Some k) h f = record { binding = known_or_zero k; is_image = ((h (known_or_zero k)).0 (agrees_itself k)).1 }

image_of_kind : (scope : Scope) (own : List Change) (m : Rule) (E : List Fact) → IsImageOf (Some m) (image_reply (first_violation scope own m E))
image_of_kind scope own m E = by (first_violation scope own m E) refl
  where
    by : (o : Option (List Fact)) → first_violation scope own m E ≡ o → IsImageOf (Some m) (image_reply o)
    by None e = tt
    by (Some image) e = left_image scope own m E image (found_passes (violates scope own m E) (lists_of (length m.left) E) image e)

violation_of_kind : (o : Option Rule) (scope : Scope) (own : List Change) (E : List Fact) → IsImageOf o (violation_reply o scope own E)
violation_of_kind None scope own E = tt
violation_of_kind (Some m) scope own E = image_of_kind scope own m E

pub values_are_of_kind : ValuesAreOfTheirKind
values_are_of_kind ms (Present t) D own scope s = yes_or_no (has (apply D own) t)
values_are_of_kind ms (Violation n) D own scope s = violation_of_kind (slice_get ms n) (scope_at scope own n) own (apply D own)
values_are_of_kind ms (Specific t) D own scope s = those_in_order (λ u. more_specific u t) (apply D own) (apply_in_order D own s)
values_are_of_kind ms (Occurs u k) D own scope s = those_in_order (holds_null u k) (apply D own) (apply_in_order D own s)
