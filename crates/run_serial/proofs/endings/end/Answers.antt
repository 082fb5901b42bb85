-- The own writes are those of the attempt. Before they are made none is, and where memory is wanting among them some are.
use Rattle.std.proofs.Common.{List, subst}
use Rattle.def_chase.specs.Repository.{Change}
use Rattle.run_serial.specs.Meanings.{HasMadeSome}
use Rattle.set_facts.proofs.Groups.{held_err}
use Rattle.run_serial.proofs.Making.{none_made}
use Rattle.run_serial.proofs.endings.end.Goals as goal

pub returns-in_err-own-clause-unkept : goal.returns-in_err-own-clause-unkept
returns-in_err-own-clause-unkept c = held_err c.from_residual.result (none_made c.args.facts.now c.args.program.attempt.own)

pub returns-in_err-reserve-clause-unkept : goal.returns-in_err-reserve-clause-unkept
returns-in_err-reserve-clause-unkept c = held_err c.from_residual-in_err-reserve.result (none_made c.args.facts.now c.args.program.attempt.own)

pub returns-in_err-keep-clause-unkept : goal.returns-in_err-keep-clause-unkept
returns-in_err-keep-clause-unkept c =
    held_err c.from_residual-in_err-keep.result
    (subst (λ (ws : List Change). HasMadeSome c.args.facts.now ws c.keep.new.facts) c.in_ok-own.ensures.own c.in_err-keep.ensures.err)

pub returns-clause-kept : goal.returns-clause-kept
returns-clause-kept c = λ ms B. c.in_ok-keep.ensures.kept ms B c.args.program.attempt c.in_ok-own.ensures.own c.finish-finish.ensures.outcome
