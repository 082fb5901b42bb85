use Rattle.std.proofs.Common.{◌≡◌, map, take}
use Rattle.def_language.specs.Names.{place_of}
use Rattle.run_ask.proofs.binding.places_of.Given as goal

-- The places so far are those of the names so far.
abbrev pub invariant-loop-name : goal.invariant-loop-name
invariant-loop-name l = l.places.items ≡ map (place_of l.variables.items) (map (λ n. n.items) (take l.name-index l.names))
