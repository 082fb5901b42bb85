-- A column in which a tuple has a constant.
use Rattle.std.specs.Prelude.{◌≡◌, ℕ, true, ◌&&◌, Option, Some, None}
use Rattle.def_chase.specs.Values.{Datum, Fact}
use Rattle.def_chase.specs.Specific.{is_constant}
use Rattle.def_chase.specs.Cursors.{has_at}

-- The tuple has a constant in the column, if one is given.
abbrev pub IsConstantAt : Fact → Option (ℕ × Datum) → Type 0
IsConstantAt t None = Unit {0}
IsConstantAt t (Some p) = (is_constant p.1 && has_at p.0 p.1 t) ≡ true
