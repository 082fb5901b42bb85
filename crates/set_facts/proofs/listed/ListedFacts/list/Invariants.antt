use Rattle.std.proofs.Common.{◌≡◌, map, take}
use Rattle.base_types.specs.Meanings.{fact_of}
use Rattle.set_facts.proofs.listed.ListedFacts.list.Given as goal

-- What has been copied means the same as what has been gone over.
abbrev pub invariant-loop-tuple : goal.invariant-loop-tuple
invariant-loop-tuple l = map fact_of l.list.items ≡ map fact_of (take l.tuple-index l.tuple-items)
