use Rattle.std.proofs.Common.{rules, tests}
use Rattle.std.specs.Prelude.{◌==◌}
use Rattle.std.proofs.lemmas.Iterator.Search.{any_from_yields_List}
use Rattle.def_chase.specs.Mappings.{Pattern}
use Rattle.base_types.specs.Meanings.{pattern_of}
use Rattle.base_types.proofs.Iterated.{mapped_from_slice}
use Rattle.chase_eval.proofs.settled.stands_in.Goals as goal

pub returns : goal.returns
returns c = record {
  answer = any_from_yields_List (λ (a : Pattern). a.relation == c.args.relation) c.any.new.self _ _ c.any.ensures.ran (mapped_from_slice pattern_of c.args.atoms.now cc) (λ x b q k. search (rules, tests));
}
