-- The violations that count in a scope, and the first of them: the one with the least image.
use Rattle.std.specs.Prelude.{◌≡◌, Bool, true, false, not, ◌&&◌, List, length, Option, Some, None, is_some, find}
use Rattle.std.specs.List.{list_any}
use Rattle.std.specs.Ordering.{is_gt}
use Rattle.std.specs.Cmp.Lexicographic.{slice_cmp}
use Rattle.def_chase.specs.Values.{Fact, fact_cmp}
use Rattle.def_chase.specs.Repository.{Change, Insert, Delete, inserted_after}
use Rattle.def_chase.specs.Mappings.{Pattern, Rule, IsViolation}
use Rattle.def_chase.specs.Matching.{Known, nothing_known, learn_all, learn_atom, lists_of, extends}

-- Whether an update repairs by inserting the tuples that are missing on the right, or by deleting tuples of the left side.
pub data Direction : Type 0 where
  Forward : Direction
  Backward : Direction

-- The violations that count: all, or only those that the update's own writes have caused in its direction.
pub data Scope : Type 0 where
  Every : Scope
  Caused : Direction → Scope

-- The write deletes a tuple to which some extension of the known values makes the atom equal.
abbrev pub deletes_match : Known → Pattern → Change → Bool
deletes_match k a (Insert t) = false
deletes_match k a (Delete t) = is_some (learn_atom a t k)

-- A violation with this image and these known values counts. Forward: the last own write of some tuple of the image is an
-- insertion. Backward: some extension of the known values makes some right atom equal to a tuple that an own write deletes.
abbrev pub in_scope : Scope → List Change → Rule → List Fact → Known → Bool
in_scope Every own m image k = true
in_scope (Caused Forward) own m image k = list_any (inserted_after false own) image
in_scope (Caused Backward) own m image k = list_any (λ a. list_any (deletes_match k a) own) m.right

-- The left side has a match, which gives the known values; the right side cannot be met, and the violation counts.
abbrev pub violated_at : Scope → List Change → Rule → List Fact → List Fact → Option Known → Bool
violated_at scope own m E image None = false
violated_at scope own m E image (Some k) = not (extends k m.right E) && in_scope scope own m image k

-- A list of tuples of E is the image of a violation of the mapping in E, within the scope.
abbrev pub violates : Scope → List Change → Rule → List Fact → List Fact → Bool
violates scope own m E image = violated_at scope own m E image (learn_all m.left image nothing_known)

-- The least image of a violation of the mapping in E, within the scope.
abbrev pub first_violation : Scope → List Change → Rule → List Fact → Option (List Fact)
first_violation scope own m E = find (violates scope own m E) (lists_of (length m.left) E)

-- The tuples are the image of a violation of the mapping in E, and no violation has a lesser image, compared tuple by tuple.
pub record IsFirstViolation (m : Rule) (E : List Fact) (image : List Fact) : Type 0 where
  pub is_violation : IsViolation m E image
  pub least : (other : List Fact) → IsViolation m E other → is_gt (slice_cmp fact_cmp image other) ≡ false
