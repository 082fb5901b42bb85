use Rattle.std.proofs.Common.{rules, tests}
use Rattle.std.proofs.lemmas.Iterator.Search.{all_from_yields_List}
use Rattle.def_chase.specs.Specific.{is_constant}
use Rattle.base_types.specs.Meanings.{datum_of}
use Rattle.base_types.proofs.Iterated.{mapped_from_slice}
use Rattle.chase_unifier.proofs.finding.is_ground.Goals as goal

pub returns : goal.returns
returns c = record {
  ground = all_from_yields_List is_constant c.all.new.self _ _ c.all.ensures.ran (mapped_from_slice datum_of c.args.values.now cc) (λ x b q k. search (rules, tests));
}
