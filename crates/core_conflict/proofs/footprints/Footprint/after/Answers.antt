use Rattle.std.proofs.Common.{◌∙◌, map}
use Rattle.base_types.specs.Meanings.{change_of}
use Rattle.def_chase.proofs.Bools.{or_left, or_right}
use Rattle.chase_query.specs.Meanings.{reads_in}
use Rattle.core_conflict.proofs.Within.{covers_after}
use Rattle.core_conflict.proofs.footprints.Footprint.after.Goals as goal

pub returns : goal.returns
returns c = record {
  covers =
      covers_after c.args.self c.asking-asked.result _ (map change_of c.args.writes.now) (reads_in c.args.reads.now) c.asking-asked.ensures.more c.asking-asked.ensures.has
      (record { asked = λ k e. e; found = λ e. e; exposed = λ e. c.either.ensures ∙ or_left c.asking-asked.result.exposed c.may_enact_any.result e })
      c.with_writes.ensures.more
      (λ e. c.either.ensures ∙ or_right c.asking-asked.result.exposed c.may_enact_any.result (c.may_enact_any.ensures ∙ e))
      c.with_writes.ensures.has;
}
