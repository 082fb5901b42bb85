-- Lists of nulls, made null by null.
use Rattle.std.specs.Prelude.{ℕ, ◌+◌, Bool, not, if◌then◌else◌, List, [], ◌∷◌, ◌++◌, filter, map}
use Rattle.std.specs.List.{list_any, range_with_len}
use Rattle.def_chase.specs.Values.{NullName, Datum, Number, Text, Unknown, Fact, same_datum}
use Rattle.def_chase.specs.Mappings.{Rule}
use Rattle.base_types.specs.Maps.{images_of, moved_by}
use Rattle.def_steps.specs.Rewriting.{binding_of, same_null}
use Rattle.chase_repair.specs.declared.fresh.Fresh.{Fresh}

-- The null is added at the end, unless it is there.
abbrev pub with_null : List NullName → NullName → List NullName
with_null ns n = if list_any (same_null n) ns then ns else ns ++ n ∷ []

-- The value is added at the end if it is a null that is not there.
abbrev pub with_null_of : List NullName → Datum → List NullName
with_null_of ns (Number i) = ns
with_null_of ns (Text w) = ns
with_null_of ns (Unknown n) = with_null ns n

-- The function moves the null.
abbrev pub moves : (Datum → Datum) → NullName → Bool
moves f n = not (same_datum (f (Unknown n)) (Unknown n))

-- The nulls among ns that a substitution by these images moves.
abbrev pub moved_among : List (NullName × Datum) → List NullName → List NullName
moved_among images ns = filter (moves (moved_by (images_of images))) ns

-- The next n nulls that are drawn.
abbrev pub drawn_from : Fresh → ℕ → List Datum
drawn_from f n = map (λ k. Unknown record { update = f.update; attempt = f.attempt; place = f.drawn + k }) (range_with_len 1 n)

-- The values of a mapping's variables in its repair by insertions: the variables on the left by the image, the existential ones
-- fresh nulls.
abbrev pub values_in : Fresh → Rule → List Fact → List Datum
values_in f m image = binding_of m image ++ drawn_from f m.existential
