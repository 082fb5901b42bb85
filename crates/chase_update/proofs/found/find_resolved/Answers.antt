use Rattle.std.proofs.Common.{rules, tests, ◌∙◌}
use Rattle.std.proofs.lemmas.Iterator.Search.{find_from_yields_List}
use Rattle.base_types.specs.Meanings.{null_of}
use Rattle.base_types.proofs.Iterated.{mapped_from_slice, read_found}
use Rattle.chase_update.specs.Found.{is_found}
use Rattle.chase_update.specs.RowMeanings.{resolved_of}
use Rattle.chase_update.proofs.found.find_resolved.Goals as goal

pub returns : goal.returns
returns c =
    let found = find_from_yields_List (is_found (null_of c.args.name)) _ _ _ c.find.ensures.ran (mapped_from_slice resolved_of c.args.found.now cc) (λ x b q k. search (rules, tests)) in
    record { pair = read_found resolved_of c.find.result ∙ found }
