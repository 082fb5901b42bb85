use Rattle.std.proofs.Common.{ap, ◌∙◌}
use Rattle.base_types.specs.Meanings.{fact_of}
use Rattle.def_chase.specs.Repository.{has}
use Rattle.set_versions.specs.Marked.{visible}
use Rattle.set_versions.proofs.Both.{left_seen, row_seen, seen_ordered}
use Rattle.set_versions.proofs.versions.Versions.contains.Goals as goal

pub returns-then-has_left : goal.returns-then-has_left
returns-then-has_left c = record {
  answer = left_seen c.args.number c.args.self.now (fact_of c.args.tuple.now) c.if-has_left.ensures.left;
  in_order = seen_ordered c.args.number c.args.self.now c.has_left.ensures.kept;
}

pub returns-clause-answer : goal.returns-clause-answer
returns-clause-answer c =
    c.contains.ensures.answer ∙ ap (λ es. has (visible c.args.number es) (fact_of c.args.tuple.now)) c.table.ensures.rows
    ∙ row_seen c.args.number c.args.self.now (fact_of c.args.tuple.now) c.if-has_left.ensures.left

pub returns-clause-in_order : goal.returns-clause-in_order
returns-clause-in_order c = seen_ordered c.args.number c.args.self.now c.has_left.ensures.kept
