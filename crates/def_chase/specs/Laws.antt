-- The laws of the definitions, each stated once; public functions of this crate prove them.
use Rattle.std.specs.Prelude.{filter, ◌≡◌, ◌==◌, ◌≤◌, ℕ, Bool, true, false, ◌&&◌, List, map, Some, None}
use Rattle.std.specs.Bool.{Decides}
use Rattle.std.specs.List.{list_any, list_all, AllByRecursion}
use Rattle.std.specs.declared.cmp.Ordering.TheVariants.{Equal}
use Rattle.std.specs.Ordering.{is_gt}
use Rattle.std.specs.Cmp.{IsTotalOrder}
use Rattle.def_chase.specs.Values.{Datum, Number, Text, Unknown, Fact, null_cmp, datum_cmp, fact_cmp, same_datum, under, outer}
use Rattle.def_chase.specs.Repository.{Change, IsRepository, has, apply, inserted_after}
use Rattle.def_chase.specs.Mappings.{Slot, Var, Const, Pattern, Rule, Binding, image_under, all_in, IsViolation, Holds}
use Rattle.def_chase.specs.Specific.{IsMoreSpecific, is_constant, more_specific, image_of}
use Rattle.def_chase.specs.Unifier.{after, unifier}
use Rattle.def_chase.specs.Violations.{Scope, Every, violates, first_violation, IsFirstViolation}
use Rattle.def_chase.specs.Queries.{Query, value}
use Rattle.def_chase.specs.Mentions.{is_mentioned}
use Rattle.def_chase.specs.Shifts.{shift_fact, shift_change, shift_query, shift_reply}

-- ---- orders

-- The orders of nulls, values and tuples are total, and only equals tie.
pub record OrdersAreTotal : Type 0 where
  pub nulls : IsTotalOrder null_cmp
  pub values : IsTotalOrder datum_cmp
  pub tuples : IsTotalOrder fact_cmp
  pub same_nulls : (m n : _) → null_cmp m n ≡ Equal → m ≡ n
  pub same_values : (x y : Datum) → datum_cmp x y ≡ Equal → x ≡ y
  pub same_tuples : (s t : Fact) → fact_cmp s t ≡ Equal → s ≡ t

-- ---- repositories

-- After writes a tuple is there exactly if its last write is an insertion, or if it was there and none wrote it. Writes keep the
-- list in order.
pub record WritesApply : Type 0 where
  pub members : (D : List Fact) (ws : List Change) (t : Fact) → has (apply D ws) t ≡ inserted_after (has D t) ws t
  pub in_order : (D : List Fact) (ws : List Change) → IsRepository D → IsRepository (apply D ws)

-- A repository is determined by its members.
abbrev pub MembersDetermine : Type 0
MembersDetermine = (D E : List Fact) → IsRepository D → IsRepository E → ((t : Fact) → has D t ≡ has E t) → D ≡ E

-- ---- images and violations

-- The variable stands in the term.
abbrev pub stands_in_slot : ℕ → Slot → Bool
stands_in_slot v (Var w) = w == v
stands_in_slot v (Const d) = false

-- The variable stands in one of the atoms.
abbrev pub stands_in : ℕ → List Pattern → Bool
stands_in v ps = list_any (λ p. list_any (stands_in_slot v) p.terms) ps

-- The image determines the binding on the variables of its atoms.
abbrev pub ImageDetermines : Type 0
ImageDetermines = (ps : List Pattern) (b c : Binding) → image_under b ps ≡ image_under c ps → (v : ℕ) → stands_in v ps ≡ true → b v ≡ c v

-- For lists of tuples of D, the test `violates` decides whether they are images of violations.
abbrev pub ViolationDecides : Type 0
ViolationDecides = (m : Rule) (own : List Change) (D : List Fact) (image : List Fact) → all_in D image ≡ true → Decides (violates Every own m D image) (IsViolation m D image)

-- The first violation is a violation, and none has a lesser image; if none is found, the mapping holds.
pub record FirstViolation : Type 0 where
  pub found : (m : Rule) (own : List Change) (D : List Fact) (image : List Fact) → IsRepository D → first_violation Every own m D ≡ Some image → IsFirstViolation m D image
  pub none : (m : Rule) (own : List Change) (D : List Fact) → first_violation Every own m D ≡ None → Holds m D

-- ---- more specific, unifier

-- The test decides whether a tuple is more specific; this relation is reflexive and transitive.
pub record MoreSpecificLaws : Type 0 where
  pub decides : (s t : Fact) → Decides (more_specific s t) (IsMoreSpecific s t)
  pub reflexive : (t : Fact) → IsMoreSpecific t t
  pub transitive : (s t u : Fact) → IsMoreSpecific s t → IsMoreSpecific t u → IsMoreSpecific s u

-- The unifier of t and the more specific s makes the two equal, and leaves constants and every value that does not stand in t
-- unchanged.
pub record UnifierOf (s t : Fact) : Type 0 where
  pub unites : under (unifier t s) s ≡ under (unifier t s) t
  pub constants : (x : Datum) → is_constant x ≡ true → unifier t s x ≡ x
  pub others : (x : Datum) → list_any (same_datum x) t.values ≡ false → unifier t s x ≡ x

abbrev pub UnifierUnites : Type 0
UnifierUnites = (s t : Fact) → more_specific s t ≡ true → UnifierOf s t

-- ---- mentions

-- The coarse law: if two repositories agree on every relation that a query mentions, it has the same value over both, whatever
-- the own writes and the scope.
abbrev pub CoarseLaw : Type 0
CoarseLaw =
    (ms : List Rule) (q : Query) (D E : List Fact) (own : List Change) (scope : Scope) → IsRepository D → IsRepository E → filter (is_mentioned ms q) D ≡ filter (is_mentioned ms q) E
    → value ms q D own scope ≡ value ms q E own scope

-- ---- other attempt numbers

-- The term is no null.
abbrev pub is_no_null : Slot → Bool
is_no_null (Var v) = true
is_no_null (Const d) = is_constant d

-- The atom has no null among its constants.
abbrev pub has_no_null : Pattern → Bool
has_no_null a = list_all is_no_null a.terms

-- No constant of the mapping is a null. The grammar of sessions allows none.
abbrev pub HasNoNull : Rule → Type 0
HasNoNull m = (list_all has_no_null m.left && list_all has_no_null m.right) ≡ true

-- No constant of any mapping is a null.
abbrev pub HaveNoNulls : List Rule → Type 0
HaveNoNulls ms = AllByRecursion HasNoNull ms

-- A shift of attempt numbers commutes with every query; outer forms do not show it.
pub record ShiftsCommute : Type 0 where
  pub values : (n : ℕ → ℕ) (ms : List Rule) (q : Query) (D : List Fact) (own : List Change) (scope : Scope) → HaveNoNulls ms
      → value ms (shift_query n q) (map (shift_fact n) D) (map (shift_change n) own) scope ≡ shift_reply n (value ms q D own scope)
  pub outer_forms : (n : ℕ → ℕ) (t : Fact) → outer (shift_fact n t) ≡ outer t

-- ---- outer forms

-- If the value is a null, its attempt is the one that `attempts` gives for its update.
abbrev pub is_by : (ℕ → ℕ) → Datum → Bool
is_by attempts (Number i) = true
is_by attempts (Text w) = true
is_by attempts (Unknown m) = m.attempt == attempts m.update

-- The attempt of each null of the tuple is the one that `attempts` gives for its update.
abbrev pub are_by : (ℕ → ℕ) → Fact → Bool
are_by attempts t = list_all (is_by attempts) t.values

-- If each update has only one attempt among the nulls, outer forms keep the order of tuples, and different tuples have different
-- ones.
pub record OuterForms : Type 0 where
  pub in_order : (attempts : ℕ → ℕ) (s t : Fact) → are_by attempts s ≡ true → are_by attempts t ≡ true → fact_cmp (outer s) (outer t) ≡ fact_cmp s t
  pub one : (attempts : ℕ → ℕ) (s t : Fact) → are_by attempts s ≡ true → are_by attempts t ≡ true → outer s ≡ outer t → s ≡ t

-- ---- the end of a walk

-- y is the end of the walk from x along the images of t in s: the walk reaches it, comes back to it (in one step if it stands
-- still), and no value that follows it is less.
pub record IsWalkEnd (t s : Fact) (x y : Datum) : Type 0 where
  pub from_start : ℕ
  pub reached : y ≡ after from_start (image_of t s) x
  pub round : ℕ
  pub some : 1 ≤ round
  pub again : after round (image_of t s) y ≡ y
  pub least : (k : ℕ) → is_gt (datum_cmp y (after k (image_of t s) y)) ≡ false

-- The unifier takes each value to the end of its walk, and each walk has only one end.
pub record UnifierEnds : Type 0 where
  pub is_end : (t s : Fact) (x : Datum) → IsWalkEnd t s x (unifier t s x)
  pub one : (t s : Fact) (x y z : Datum) → IsWalkEnd t s x y → IsWalkEnd t s x z → y ≡ z
