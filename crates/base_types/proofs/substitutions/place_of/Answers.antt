use Rattle.std.proofs.Common.{rules, tests, ◌∙◌, map}
use Rattle.std.proofs.lemmas.Iterator.Search.{position_from_yields_List}
use Rattle.std.proofs.lemmas.Iterator.Adapters.{position_from-zero}
use Rattle.base_types.specs.Meanings.{null_of, assignment_of}
use Rattle.base_types.specs.Maps.{is_pair_of}
use Rattle.base_types.proofs.Iterated.{mapped_from_slice}
use Rattle.base_types.proofs.substitutions.place_of.Goals as goal

pub returns : goal.returns
returns c =
    let found = position_from_yields_List (is_pair_of (null_of c.args.null)) _ _ _ c.position.ensures.ran (mapped_from_slice assignment_of c.args.assignments.now cc) (λ x b q k. search (rules, tests)) in
    record { place = found ∙ position_from-zero (is_pair_of (null_of c.args.null)) (map assignment_of c.args.assignments.now); within = search rules }
