-- What a key means.
use Rattle.std.specs.Prelude.{ℕ}
use Rattle.base_types.specs.Meanings.{datum_of}
use Rattle.def_chase.specs.Values.{Datum}
use Rattle.core_conflict.specs.declared.impacts.Key.{Key}

-- The column and the value that a `Key` pairs.
abbrev pub key_of : Key → ℕ × Datum
key_of k = (k.column, datum_of k.value.now)
