use Rattle.std.proofs.Common.{◌≡◌, ◌++◌, map, drop}
use Rattle.base_types.specs.Meanings.{choice_of}
use Rattle.audit_updates.proofs.events.queued.Given as goal

abbrev pub invariant-loop-answer : goal.invariant-loop-answer
invariant-loop-answer l = map choice_of l.queue.items ++ map choice_of (drop l.answer-index l.answers.items) ≡ map choice_of l.answers.items
