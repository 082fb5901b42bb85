-- The functions that bindings and substitutions of the program mean.
use Rattle.std.specs.Prelude.{Bool, List, Option, Some, None, if◌then◌else◌, find}
use Rattle.std.specs.Option.{option_map}
use Rattle.std.specs.List.{slice_index_or}
use Rattle.std.specs.Ordering.{is_eq}
use Rattle.def_chase.specs.Values.{NullName, Datum, Number, Text, Unknown, null_cmp}
use Rattle.def_chase.specs.Matching.{Known}

-- The known value of each variable: the item at its number; None after the end of the list.
abbrev pub known_of : List (Option Datum) → Known
known_of ds v = slice_index_or ds v None

-- The two nulls are the same.
abbrev pub same_null : NullName → NullName → Bool
same_null m n = is_eq (null_cmp m n)

-- The pair is of this null.
abbrev pub is_pair_of : NullName → NullName × Datum → Bool
is_pair_of n p = same_null n p.0

-- The image of each null: the value of its first pair, if it has one.
abbrev pub images_of : List (NullName × Datum) → NullName → Option Datum
images_of pairs n = option_map (λ p. p.1) (find (is_pair_of n) pairs)

-- The function by which no null has an image.
abbrev pub no_image : NullName → Option Datum
no_image _ = None

-- Null n has the image d; the others keep theirs.
abbrev pub give_image : (NullName → Option Datum) → NullName → Datum → NullName → Option Datum
give_image f n d = λ m. if same_null m n then Some d else f m

-- The value after the substitution: a null that has an image becomes it; everything else stays.
abbrev pub moved_by : (NullName → Option Datum) → Datum → Datum
moved_by f (Number i) = Number i
moved_by f (Text w) = Text w
moved_by f (Unknown n) = moved (f n)
  where
    moved : Option Datum → Datum
    moved None = Unknown n
    moved (Some d) = d
