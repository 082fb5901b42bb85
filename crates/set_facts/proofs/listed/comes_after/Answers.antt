use Rattle.std.proofs.Common.{◌∙◌, ◌-◌, ap, sym, length, slice_get}
use Rattle.base_types.specs.Meanings.{fact_of}
use Rattle.set_facts.proofs.After.{after_last}
use Rattle.set_facts.proofs.listed.comes_after.Goals as goal

pub returns-in-Less : goal.returns-in-Less
returns-in-Less c =
    let last = ap (λ l. slice_get l (length l - 1)) (sym c.deref.ensures.value) ∙ sym c.in-Some.ensures.value in
    record { after = λ _. after_last c.args.tuples.now.items c.in-Some.last.now (fact_of c.args.tuple.now) c.requires last (sym c.cmp.ensures ∙ c.in-Less.is) }
