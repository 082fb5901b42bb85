use Rattle.std.proofs.Common.{◌∙◌, ap, not, ◌&&◌, List, map, rules, tests}
use Rattle.std.proofs.lemmas.Iterator.Search.{find_from_yields_List}
use Rattle.base_types.proofs.Iterated.{mapped_from_slice, read_found}
use Rattle.def_workspace.specs.Places.{Place as PlaceMeant, among, same_cause, place_found}
use Rattle.ws_names.specs.Meanings.{cause_of, place_of}
use Rattle.ws_names.specs.declared.places.Place.{Place}
use Rattle.ws_names.proofs.places.found.Goals as goal

pub returns : goal.returns
returns c =
    let found = find_from_yields_List (λ (p : PlaceMeant). same_cause p.cause (cause_of c.args.cause.now) && not (among c.args.given.now.items p.number)) _ _ _ c.find.ensures.ran (mapped_from_slice place_of c.as_slice.result.now cc) (λ x b q k. search (rules, tests)) in
    record {
      found =
          read_found place_of c.find.result
          ∙ found
          ∙ ap (λ (ps : List Place). place_found (map place_of ps) c.args.given.now.items (cause_of c.args.cause.now)) c.as_slice.ensures.items;
    }
