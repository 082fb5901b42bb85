use Rattle.std.proofs.Common.{rules, tests}
use Rattle.std.proofs.lemmas.Iterator.Search.{any_from_yields_List}
use Rattle.base_types.specs.Meanings.{change_of}
use Rattle.base_types.proofs.Iterated.{mapped_from_slice}
use Rattle.def_steps.specs.Chase.{relation_of}
use Rattle.work_stale.specs.Stale.{mentioned_by}
use Rattle.work_stale.proofs.stale.any_read.Goals as goal

pub returns : goal.returns
returns c =
    any_from_yields_List (λ w. mentioned_by c.args.mappings.now c.args.reads.now (relation_of w)) c.any.new.self _ _ c.any.ensures.ran (mapped_from_slice change_of c.args.writes.now cc) (λ x b q k. search (rules, tests))
