use Rattle.std.proofs.Common.{rules, tests}
use Rattle.std.proofs.lemmas.Iterator.Search.{any_from_yields_List}
use Rattle.base_types.specs.Meanings.{null_of}
use Rattle.base_types.proofs.Iterated.{mapped_from_slice}
use Rattle.def_steps.specs.Rewriting.{same_null}
use Rattle.chase_repair.proofs.nulls.is_among.Goals as goal

pub returns : goal.returns
returns c = record {
  answer = any_from_yields_List (same_null (null_of c.args.null)) c.any.new.self _ _ c.any.ensures.ran (mapped_from_slice null_of c.args.nulls.now cc) (λ x b q k. search (rules, tests));
}
