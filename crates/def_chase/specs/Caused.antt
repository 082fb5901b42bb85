-- A property of an update's own writes: if they have it, and a mapping held before them, then every violation of the mapping is
-- one that they caused.
use Rattle.std.specs.Prelude.{◌≡◌, ℕ, ℤ, Bool, true, false, List, map, ◌++◌, Some}
use Rattle.std.specs.List.{list_all, slice_get}
use Rattle.def_chase.specs.Values.{Datum, Number, Text, Fact, under}
use Rattle.def_chase.specs.Repository.{Change, Insert, Delete, has, apply, inserted_after}
use Rattle.def_chase.specs.Mappings.{Rule, Holds, in_force, AllHold}
use Rattle.def_chase.specs.Violations.{Direction, Forward, Backward, Every, Caused, first_violation}
use Rattle.def_chase.specs.Queries.{Query, Violation, value}
use Rattle.def_chase.specs.Laws.{HasNoNull, HaveNoNulls}

-- The function is a substitution: it moves only nulls.
abbrev pub KeepsConstants : (Datum → Datum) → Type 0
KeepsConstants f = ((i : ℤ) → f (Number i) ≡ Number i) × ((w : List ℕ) → f (Text w) ≡ Text w)

-- A substitution carries the repository through the own writes: the image of each tuple of D is there after them, and each tuple
-- that is there and was not inserted is its own image.
pub record Carried (D : List Fact) (own : List Change) : Type 0 where
  pub by : Datum → Datum
  pub constants : KeepsConstants by
  pub carries : (t : Fact) → has D t ≡ true → has (apply D own) (under by t) ≡ true
  pub leaves : (t : Fact) → has (apply D own) t ≡ true → inserted_after false own t ≡ false → under by t ≡ t

-- The write is a deletion.
abbrev pub is_delete : Change → Bool
is_delete (Insert t) = false
is_delete (Delete t) = true

-- The own writes keep the repository: forward, a substitution carries it through them; backward, they only delete.
abbrev pub Kept : Direction → List Fact → List Change → Type 0
Kept Forward D own = Carried D own
Kept Backward D own = list_all is_delete own ≡ true

-- Further writes over E rewrite it: they delete some tuples and insert others, the images of the deleted ones among them. The
-- substitution leaves every other tuple of E unchanged.
pub record Rewriting (E : List Fact) (ws : List Change) : Type 0 where
  pub by : Datum → Datum
  pub constants : KeepsConstants by
  pub from : List Fact
  pub into : List Fact
  pub are : ws ≡ map Delete from ++ map Insert into
  pub images : (t : Fact) → has from t ≡ true → has into (under by t) ≡ true
  pub others : (t : Fact) → has E t ≡ true → has from t ≡ false → under by t ≡ t

-- Further writes after which `Kept` still holds: forward a rewriting, backward deletions.
abbrev pub Keeping : Direction → List Fact → List Change → Type 0
Keeping Forward E ws = Rewriting E ws
Keeping Backward E ws = list_all is_delete ws ≡ true

-- The caused scope counts all violations: if a mapping holds in D and the own writes keep D, the first violation that they caused
-- is the first of all.
abbrev pub CausedIsAll : Type 0
CausedIsAll =
    (d : Direction) (m : Rule) (D : List Fact) (own : List Change) → HasNoNull m → Holds m D → Kept d D own
    → first_violation Every own m (apply D own) ≡ first_violation (Caused d) own m (apply D own)

-- If the query looks at a mapping, the mapping is in force in E.
abbrev pub Looked : List Rule → Query → List Fact → Type 0
Looked ms q E = (i : ℕ) (m : Rule) → q ≡ Violation i → slice_get ms i ≡ Some m → in_force i m E ≡ true

-- So if the mappings in force in D hold there, each query that looks only at mappings in force has the same value in both scopes.
-- If the own writes put a mapping in force, all its violations count in either scope.
abbrev pub CausedValues : Type 0
CausedValues =
    (d : Direction) (ms : List Rule) (q : Query) (D : List Fact) (own : List Change) → HaveNoNulls ms → AllHold ms D → Kept d D own → Looked ms q (apply D own)
    → value ms q D own Every ≡ value ms q D own (Caused d)
