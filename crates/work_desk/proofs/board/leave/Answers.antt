use Rattle.std.proofs.Common.{rules, tests, not, ◌==◌}
use Rattle.std.proofs.lemmas.Fn.{filter_same}
use Rattle.work_desk.proofs.board.leave.Goals as goal

pub returns : goal.returns
returns c = record { left = filter_same _ (λ v. not (v == c.args.update)) _ (λ x b q h. search (rules, tests)) _ _ c.retain.ensures.filtered }
