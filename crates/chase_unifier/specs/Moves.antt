-- Functions on nulls, made null by null.
use Rattle.std.specs.Prelude.{List, Option, Some, None, if◌then◌else◌}
use Rattle.std.specs.List.{list_any}
use Rattle.def_chase.specs.Values.{NullName, Datum, Number, Text, Unknown, same_datum}
use Rattle.base_types.specs.Maps.{give_image}

-- The function f with the image d for the value, if that is a null.
abbrev pub give : (NullName → Option Datum) → Datum → Datum → NullName → Option Datum
give f (Number i) d = f
give f (Text w) d = f
give f (Unknown n) d = give_image f n d

-- Each null among the values is moved by g; the others have no image.
abbrev pub moving : (Datum → Datum) → List Datum → NullName → Option Datum
moving g ds = λ n. if list_any (same_datum (Unknown n)) ds then Some (g (Unknown n)) else None
