use Rattle.std.proofs.Common.{sym, subst}
use Rattle.def_chase.specs.Repository.{IsRepository}
use Rattle.set_versions.proofs.Standings.{based_kept, based_stands}
use Rattle.set_versions.proofs.versions.Versions.of.Goals as goal

pub invariant_of-result : goal.invariant_of-result
invariant_of-result c = based_kept c.in-Ok.base.value c.none.result c.none-in-Ok.result (subst IsRepository (sym c.in-Ok.ensures.ok) c.is_in_order.ensures.in_order) c.none-in-Ok.ensures.none

pub returns-in-Ok : goal.returns-in-Ok
returns-in-Ok c = record {
  base = based_stands c.args.base c.in-Ok.base.value c.none.result c.none-in-Ok.result (subst IsRepository (sym c.in-Ok.ensures.ok) c.is_in_order.ensures.in_order) c.in-Ok.ensures.ok c.none.ensures.none c.none-in-Ok.ensures.none;
}
