-- Values and tuples as pure data, their orders, and their outer forms.
use Rattle.std.specs.Prelude.{ℕ, ℤ, Bool, List, map}
use Rattle.std.specs.declared.cmp.Ordering.{Ordering}
use Rattle.std.specs.declared.cmp.Ordering.TheVariants.{Less, Greater}
use Rattle.std.specs.Ordering.{nat_cmp, int_cmp, ordering_then, is_eq}
use Rattle.std.specs.Cmp.Lexicographic.{slice_cmp}

-- A labelled null: the update that drew it, by which attempt, and at which place among the nulls of that attempt. Nulls of the
-- base have update 0 and attempt 0.
pub record NullName : Type 0 where
  pub update : ℕ
  pub attempt : ℕ
  pub place : ℕ

-- A value is a number, a word (its bytes) or a labelled null.
pub data Datum : Type 0 where
  Number : ℤ → Datum
  Text : List ℕ → Datum
  Unknown : NullName → Datum

-- A tuple: the number of its relation and its values by column.
pub record Fact : Type 0 where
  pub relation : ℕ
  pub values : List Datum

-- The order of nulls: by update, then place, then attempt.
abbrev pub null_cmp : NullName → NullName → Ordering
null_cmp m n = ordering_then (nat_cmp m.update n.update) (ordering_then (nat_cmp m.place n.place) (nat_cmp m.attempt n.attempt))

-- The order of values: numbers come before words, and words, ordered by their bytes, before nulls.
abbrev pub datum_cmp : Datum → Datum → Ordering
datum_cmp (Number i) (Number j) = int_cmp i j
datum_cmp (Number i) (Text w) = Less
datum_cmp (Number i) (Unknown n) = Less
datum_cmp (Text v) (Number j) = Greater
datum_cmp (Text v) (Text w) = slice_cmp nat_cmp v w
datum_cmp (Text v) (Unknown n) = Less
datum_cmp (Unknown m) (Number j) = Greater
datum_cmp (Unknown m) (Text w) = Greater
datum_cmp (Unknown m) (Unknown n) = null_cmp m n

-- The order of tuples: by relation, then value by value.
abbrev pub fact_cmp : Fact → Fact → Ordering
fact_cmp s t = ordering_then (nat_cmp s.relation t.relation) (slice_cmp datum_cmp s.values t.values)

-- Two values are the same if neither comes before the other. Nulls are compared as values: different nulls differ.
abbrev pub same_datum : Datum → Datum → Bool
same_datum x y = is_eq (datum_cmp x y)

-- Two tuples are the same if neither comes before the other.
abbrev pub same_fact : Fact → Fact → Bool
same_fact s t = is_eq (fact_cmp s t)

-- The outer form of a value: the attempt of a null is 0.
abbrev pub outer_datum : Datum → Datum
outer_datum (Number i) = Number i
outer_datum (Text w) = Text w
outer_datum (Unknown n) = Unknown record { update = n.update; attempt = 0; place = n.place }

-- The outer form of a tuple: the attempt of each of its nulls is 0.
abbrev pub outer : Fact → Fact
outer t = record { relation = t.relation; values = map outer_datum t.values }

-- The tuple with each value replaced by its image under f.
abbrev pub under : (Datum → Datum) → Fact → Fact
under f t = record { relation = t.relation; values = map f t.values }
