use Rattle.std.proofs.Common.{◌∙◌, ap, sym, subst, [], map}
use Rattle.std.specs.Prelude.{is_some}
use Rattle.std.proofs.lemmas.List.{append-nil, drop_all}
use Rattle.core_queue.specs.Renewals.{AreFresh}
use Rattle.core_queue.proofs.renewals.fresh_programs.Goals as goal

pub returns-clause-fresh : goal.returns-clause-fresh
returns-clause-fresh c = subst (AreFresh c.args.upper.now) (append-nil c.loop-i.fresh.items) (c.loop-i.invariant.fresh [] tt)

pub returns-clause-there : goal.returns-clause-there
returns-clause-there c = sym (ap (map is_some) (append-nil c.loop-i.fresh.items)) ∙ c.loop-i.invariant.there [] (sym (ap (map is_some) (drop_all c.loop-i.i c.args.causes.now c.loop-i-test.false)))
