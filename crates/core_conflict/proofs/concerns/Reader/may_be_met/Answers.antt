use Rattle.std.proofs.Common.{◌∙◌, sym, map}
use Rattle.base_types.specs.Contents.{rules_in}
use Rattle.base_types.specs.Meanings.{change_of, heading_of}
use Rattle.chase_query.specs.Meanings.{reads_in}
use Rattle.core_conflict.specs.Trails.{trails_of}
use Rattle.core_conflict.proofs.Unmet.{all_unmet}
use Rattle.core_conflict.proofs.concerns.Reader.may_be_met.Goals as goal

pub returns : goal.returns
returns c = record {
  unmet = λ e. all_unmet (rules_in c.args.self.now.mappings.now) (heading_of c.args.self.now.direction) (map change_of c.args.self.now.own.now) c.args.self.now.sense (trails_of c.args.trails.now) (reads_in c.args.log.now)
      (sym c.counts_all.ensures ∙ c.if-counts_all.false) (sym c.is_broken.ensures ∙ c.if-is_broken.false) (sym c.meets_apart.ensures ∙ e);
}
