use Rattle.std.proofs.Common.{rules, ◌∙◌, ap, sym, List}
use Rattle.def_chase.specs.Values.{Fact}
use Rattle.def_chase.specs.Cursors.{first_of}
use Rattle.set_facts.proofs.Reading.{none_past_end}
use Rattle.set_facts.proofs.plain.PlainFacts.ends_before.Goals as goal

pub returns-in-Some-clause-none : goal.returns-in-Some-clause-none
returns-in-Some-clause-none c h = ap (λ (D : List Fact). first_of D c.args.relation) (sym c.self.view_is) ∙ none_past_end c.args.relation c.in-Some.last.now c.self.inside.tuples.keys (search (rules, h)) c.in-Some.ensures.all_up_to
