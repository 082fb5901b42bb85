use Rattle.std.proofs.Common.{◌≡◌, map, unwrap_or, pos}
use Rattle.std.specs.List.{range_with_len}
use Rattle.def_chase.specs.Values.{Number}
use Rattle.base_types.specs.Meanings.{datum_of}
use Rattle.chase_match.specs.Partial.{known_at}
use Rattle.chase_repair.proofs.fresh.known_values.Given as goal

-- The values of the variables so far.
abbrev pub invariant-loop-variable : goal.invariant-loop-variable
invariant-loop-variable l = map datum_of l.values.items ≡ map (λ v. unwrap_or (known_at l.partial v) (Number (pos 0))) (range_with_len 0 l.variable)
