use Rattle.std.proofs.Common.{◌∙◌, ap, ℕ, List, [], ◌∷◌, ◌++◌, map, take, arith}
use Rattle.base_types.specs.Meanings.{choice_of}
use Rattle.def_machine.specs.Effects.{with_answers}
use Rattle.def_chase.specs.Updates.{Choice}
use Rattle.def_steps.specs.Chase.{caused_chase}
use Rattle.core_queue.specs.Queues.{update_of}
use Rattle.core_queue.proofs.Answering.{set_last}
use Rattle.core_queue.proofs.updates.QueuedUpdate.answer.Goals as goal

pub returns-then-taken-len-clause-answered : goal.returns-then-taken-len-clause-answered
returns-then-taken-len-clause-answered c = λ ms B.
    let r = c.args.self.now in
    ap (λ (xs : List Choice). with_answers (caused_chase ms B) (update_of ms B r) xs (map choice_of r.inbox.items))
    (set_last choice_of r.answers.items _ _ c.taken-taken.result c.args.choice (let h = c.if-taken-len.true in let e = c.len.ensures.length in omega (arith, h, e)) c.keep.ensures.first c.put.ensures.items
    ∙ ap (λ (n : ℕ). take n (map choice_of r.answers.items) ++ choice_of c.args.choice ∷ []) c.taken-taken.ensures.taken)
