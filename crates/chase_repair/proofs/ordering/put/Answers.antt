use Rattle.std.proofs.Common.{◌∙◌, ap, map}
use Rattle.def_chase.specs.Values.{fact_cmp}
use Rattle.base_types.specs.Meanings.{fact_of}
use Rattle.chase_repair.proofs.Sets.{insert_mapped}
use Rattle.chase_repair.proofs.ordering.put.Goals as goal

pub returns-in-Ok : goal.returns-in-Ok
returns-in-Ok c = record { ok = ap (map fact_of) c.in-Ok.ensures.keys ∙ insert_mapped fact_of fact_cmp c.args.tuple c.args.set.now.keys }
