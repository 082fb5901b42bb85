use Rattle.std.proofs.Common.{rules, tests, ap, ◌∙◌, sym, ◌&&◌}
use Rattle.std.specs.List.{list_all}
use Rattle.std.proofs.lemmas.Iterator.{YieldsList-from_zip}
use Rattle.std.proofs.lemmas.Iterator.Search.{all_from_yields_List}
use Rattle.def_chase.specs.Values.{Datum}
use Rattle.def_chase.specs.Specific.{agree}
use Rattle.base_types.specs.Meanings.{datum_of}
use Rattle.base_types.proofs.Iterated.{mapped_from_slice}
use Rattle.chase_unifier.specs.Graphs.{pairs}
use Rattle.chase_unifier.proofs.specific.may_stand.Goals as goal

pub returns : goal.returns
returns c =
    let p : Datum × Datum = (datum_of c.args.value.now, datum_of c.args.image.now) in
    let rest = all_from_yields_List (agree p) c.all.new.self _ _ c.all.ensures.ran
    (YieldsList-from_zip (mapped_from_slice datum_of c.args.values.now cc) (mapped_from_slice datum_of c.args.images.now cc)) (λ y b q k. search (rules, tests)) in
    record { answer = rest ∙ ap (λ b. b && list_all (agree p) (pairs c.args.values.now c.args.images.now)) (sym c.if-not-is_kept.false ∙ c.is_kept.ensures.answer) }
