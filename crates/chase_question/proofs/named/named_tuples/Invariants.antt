use Rattle.std.proofs.Common.{◌≡◌, map, take}
use Rattle.base_types.specs.Meanings.{fact_of}
use Rattle.def_steps.specs.Questions.{named}
use Rattle.chase_question.proofs.named.named_tuples.Given as goal

-- The list has those of the tuples so far that are named.
abbrev pub invariant-loop-tuple : goal.invariant-loop-tuple
invariant-loop-tuple l = map fact_of l.list.items ≡ named (map fact_of (take l.tuple-index l.tuple-items)) (map fact_of l.forms.items)
