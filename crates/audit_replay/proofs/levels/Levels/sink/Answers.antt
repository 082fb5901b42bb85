use Rattle.std.proofs.Common.{◌∙◌, ap, length}
use Rattle.set_facts.proofs.Groups.{held_err}
use Rattle.audit_replay.proofs.Descending.{one_fewer}
use Rattle.audit_replay.proofs.levels.Levels.sink.Goals as goal

pub returns-in_err-take_all_back-clause-err : goal.returns-in_err-take_all_back-clause-err
returns-in_err-take_all_back-clause-err c =
    held_err c.from_residual.result
    (one_fewer c.self.inside.facts c.take_all_back.new.facts c.self.inside.back.items c.pop.new.self.items c.in-Some.back c.in-Some.ensures.items ∙ ap length c.self.view_is)
