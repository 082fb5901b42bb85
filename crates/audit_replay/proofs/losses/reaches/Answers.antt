use Rattle.std.proofs.Common.{map, rules, tests}
use Rattle.std.proofs.lemmas.Iterator.Search.{any_from_yields_List}
use Rattle.base_types.proofs.Iterated.{mapped_from_slice}
use Rattle.base_types.specs.Meanings.{change_of, rule_of}
use Rattle.def_chase.specs.Mentions.{mentions}
use Rattle.chase_query.specs.Meanings.{query_of}
use Rattle.def_steps.specs.Chase.{relation_of}
use Rattle.audit_replay.proofs.losses.reaches.Goals as goal

pub returns : goal.returns
returns c = record {
  reached =
      any_from_yields_List (λ w. mentions (map rule_of c.args.mappings.now.items) (query_of c.args.read.now.query) (relation_of w)) c.any.new.self _ _ c.any.ensures.ran (mapped_from_slice change_of c.args.trail.now cc) (λ x b q k. search (rules, tests));
}
