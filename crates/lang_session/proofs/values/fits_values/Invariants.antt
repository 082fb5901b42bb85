-- The answer for all values is that for those that are left.
use Rattle.std.proofs.Common.{◌≡◌, map, drop}
use Rattle.std.specs.List.{list_all}
use Rattle.base_types.specs.Meanings.{datum_of}
use Rattle.lang_session.specs.Admissible.{fits_datum}
use Rattle.lang_session.proofs.values.fits_values.Given as goal

abbrev pub invariant-loop-value : goal.invariant-loop-value
invariant-loop-value l = list_all (fits_datum l.before) (map datum_of (drop l.value-index l.values)) ≡ list_all (fits_datum l.before) (map datum_of l.values)
