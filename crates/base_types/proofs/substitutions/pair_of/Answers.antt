use Rattle.std.proofs.Common.{rules, tests, ◌∙◌}
use Rattle.std.proofs.lemmas.Iterator.Search.{find_from_yields_List}
use Rattle.base_types.specs.Meanings.{null_of, assignment_of}
use Rattle.base_types.specs.Maps.{is_pair_of}
use Rattle.base_types.proofs.Iterated.{mapped_from_slice, read_found}
use Rattle.base_types.proofs.substitutions.pair_of.Goals as goal

pub returns : goal.returns
returns c =
    let found = find_from_yields_List (is_pair_of (null_of c.args.null)) _ _ _ c.find.ensures.ran (mapped_from_slice assignment_of c.args.assignments.now cc) (λ x b q k. search (rules, tests)) in
    record { pair = read_found assignment_of c.find.result ∙ found }
