use Rattle.std.proofs.Common.{rules, tests, ◌∙◌, sym}
use Rattle.std.proofs.lemmas.List.{length-map}
use Rattle.std.proofs.lemmas.Iterator.{YieldsList-from_zip, same_from_all}
use Rattle.def_chase.specs.Values.{outer_datum}
use Rattle.base_types.specs.Meanings.{datum_of}
use Rattle.base_types.proofs.Exact.{same_datum_decides}
use Rattle.base_types.proofs.Iterated.{mapped_from_slice}
use Rattle.chase_question.proofs.outer_forms.are_outer_forms.Goals as goal

pub returns : goal.returns
returns c =
    let same = same_from_all c.all.new.self _ _ _ _ c.all.ensures.ran
    (YieldsList-from_zip (mapped_from_slice (λ v. outer_datum (datum_of v)) c.args.values.now cc) (mapped_from_slice datum_of c.args.forms.now cc))
    (length-map c.args.values.now (λ v. outer_datum (datum_of v)) ∙ c.if-values-forms.false ∙ sym (length-map c.args.forms.now datum_of))
    (λ x q k. let d = same_datum_decides (outer_datum (datum_of x.0.now)) (datum_of x.1.now) in search (rules, tests))
    (λ x q k. let d = same_datum_decides (outer_datum (datum_of x.0.now)) (datum_of x.1.now) in search (rules, tests)) in
    search rules
