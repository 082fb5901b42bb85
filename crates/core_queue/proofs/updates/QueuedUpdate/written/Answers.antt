use Rattle.std.proofs.Common.{◌∙◌, ap, sym, refl, length}
use Rattle.std.proofs.lemmas.List.{length-map}
use Rattle.base_types.specs.Meanings.{change_of}
use Rattle.core_queue.proofs.Following.{written, unwritten}
use Rattle.core_queue.proofs.updates.QueuedUpdate.written.Goals as goal

pub returns-then-made-shown : goal.returns-then-made-shown
returns-then-made-shown c = record {
  written = λ ms B D p. written ms B D c.args.self.now c.args.plan.now c.shown-shown.result.now _ c.len-made.result p (c.shown-shown.ensures.shown ms B) (c.len-made.ensures.length ∙ (sym (length-map c.own.result.now.items change_of) ∙ ap length c.own.ensures.own)) refl;
}

pub returns-else-made-shown : goal.returns-else-made-shown
returns-else-made-shown c = record {
  written = λ ms B D p. unwritten ms B D c.args.self.now c.args.plan.now c.shown-shown.result.now c.len-made.result p (c.shown-shown.ensures.shown ms B) (c.len-made.ensures.length ∙ (sym (length-map c.own.result.now.items change_of) ∙ ap length c.own.ensures.own)) c.if-made-shown.false;
}
