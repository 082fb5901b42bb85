use Rattle.std.proofs.Common.{◌∙◌, ap, map, List}
use Rattle.base_types.specs.Meanings.{change_of, fact_of, heading_of, pattern_of, rule_of}
use Rattle.base_types.specs.declared.mappings.Atom.{Atom}
use Rattle.core_conflict.specs.Concerns.{joins_own}
use Rattle.core_conflict.proofs.joins.joins_left.Goals as goal

pub returns : goal.returns
returns c =
    c.joins_own.ensures
    ∙ ap (λ (as' : List Atom). joins_own (heading_of c.args.direction) (map pattern_of as') (rule_of c.args.mapping.now) (map change_of c.args.own.now) (fact_of c.args.tuple.now)) c.as_slice.ensures.items
