use Rattle.std.proofs.Common.{rules, ◌∙◌, ap, sym, List}
use Rattle.std.specs.List.{list_any}
use Rattle.def_chase.specs.Values.{Fact}
use Rattle.def_chase.specs.Cursors.{is_of}
use Rattle.set_facts.proofs.Reading.{none_before_first}
use Rattle.set_facts.proofs.plain.PlainFacts.begins_after.Goals as goal

pub returns-in-Some : goal.returns-in-Some
returns-in-Some c = record {
  none = λ h. ap (λ (D : List Fact). list_any (is_of c.args.relation) D) (sym c.self.view_is) ∙ none_before_first c.args.relation c.in-Some.first.now c.self.inside.tuples.keys (search (rules, h)) c.in-Some.ensures.all_from;
}
