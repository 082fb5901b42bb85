-- A repository under other names for its nulls.
use Rattle.std.specs.Prelude.{◌≡◌, true, List, map}
use Rattle.def_chase.specs.Values.{NullName, Datum, Number, Text, Unknown, Fact, null_cmp, under}
use Rattle.def_steps.specs.Origins.{stands_in}

-- A value, by another name if it is a null.
abbrev pub renamed_value : (NullName → NullName) → Datum → Datum
renamed_value name (Number z) = Number z
renamed_value name (Text w) = Text w
renamed_value name (Unknown n) = Unknown (name n)

-- The tuples with their nulls under other names.
abbrev pub renamed : (NullName → NullName) → List Fact → List Fact
renamed name facts = map (under (renamed_value name)) facts

-- E is D under other names for its nulls. The names keep the order of the nulls that stand in D, and no two of these get the
-- same name.
pub record IsRenamed (D E : List Fact) : Type 0 where
  pub name : NullName → NullName
  pub same : E ≡ renamed name D
  pub in_order : (m n : NullName) → stands_in D (Unknown m) ≡ true → stands_in D (Unknown n) ≡ true
      → null_cmp (name m) (name n) ≡ null_cmp m n
  pub apart : (m n : NullName) → stands_in D (Unknown m) ≡ true → stands_in D (Unknown n) ≡ true → name m ≡ name n → m ≡ n
