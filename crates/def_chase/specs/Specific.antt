-- More specific tuples: a tuple is more specific than another if it has values in place of the other's nulls.
use Rattle.std.specs.Prelude.{◌≡◌, ◌==◌, Bool, true, false, not, ◌&&◌, ◌||◌, List, map, length, find, unwrap_or}
use Rattle.std.specs.Option.{option_map}
use Rattle.std.specs.List.{list_all, zip}
use Rattle.def_chase.specs.Values.{Datum, Number, Text, Unknown, Fact, same_datum}

-- s is more specific than t: both are of the same relation, and a function on values that leaves constants takes t to s, position
-- by position.
pub record IsMoreSpecific (s t : Fact) : Type 0 where
  pub one_relation : s.relation ≡ t.relation
  pub to : Datum → Datum
  pub numbers : (i : _) → to (Number i) ≡ Number i
  pub words : (w : _) → to (Text w) ≡ Text w
  pub moves : map to t.values ≡ s.values

-- The value is a constant: a number or a word.
abbrev pub is_constant : Datum → Bool
is_constant (Number i) = true
is_constant (Text w) = true
is_constant (Unknown n) = false

-- The pairs of a value of t and the value of s at its place.
abbrev pub graph : Fact → Fact → List (Datum × Datum)
graph t s = zip t.values s.values

-- The two pairs do not give the same value different images.
abbrev pub agree : Datum × Datum → Datum × Datum → Bool
agree p q = not (same_datum p.0 q.0) || same_datum p.1 q.1

-- The test: the same relation, equally many values, every constant is its own image, and no value has two images.
abbrev pub more_specific : Fact → Fact → Bool
more_specific s t =
    (s.relation == t.relation) && (length s.values == length t.values)
    && list_all (λ p. (not (is_constant p.0) || same_datum p.0 p.1) && list_all (agree p) (graph t s)) (graph t s)

-- The image of a value of t: the value of s at its place. A value that does not stand in t is its own image.
abbrev pub image_of : Fact → Fact → Datum → Datum
image_of t s x = unwrap_or (option_map (λ p. p.1) (find (λ p. same_datum p.0 x) (graph t s))) x
