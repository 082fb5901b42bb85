use Rattle.std.proofs.Common.{rules, tests}
use Rattle.std.proofs.lemmas.Iterator.{YieldsList-from_zip}
use Rattle.std.proofs.lemmas.Iterator.Search.{all_from_yields_List}
use Rattle.base_types.specs.Meanings.{datum_of}
use Rattle.base_types.proofs.Iterated.{mapped_from_slice}
use Rattle.chase_unifier.specs.Graphs.{pairs, may_stand}
use Rattle.chase_unifier.proofs.specific.is_function.Goals as goal

pub returns : goal.returns
returns c = record {
  answer = all_from_yields_List (may_stand (pairs c.args.values.now c.args.images.now)) c.all.new.self _ _ c.all.ensures.ran
      (YieldsList-from_zip (mapped_from_slice datum_of c.args.values.now cc) (mapped_from_slice datum_of c.args.images.now cc)) (λ y b q k. search (rules, tests));
}
