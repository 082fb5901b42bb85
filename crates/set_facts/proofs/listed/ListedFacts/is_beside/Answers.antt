use Rattle.std.proofs.Common.{rules, ◌∙◌, ◌-◌, ap, sym, length, slice_get}
use Rattle.std.specs.List.{list_any}
use Rattle.def_chase.specs.Cursors.{is_of}
use Rattle.set_facts.proofs.Beside.{after_last, before_first}
use Rattle.set_facts.proofs.listed.ListedFacts.is_beside.Goals as goal

pub returns-then-relation-first : goal.returns-then-relation-first
returns-then-relation-first c =
    let first = ap (λ l. slice_get l 0) (sym c.deref.ensures.value) ∙ sym c.in-Some-Some.ensures.value in
    record { none = λ _. ap (list_any (is_of c.args.relation)) (sym c.self.view_is) ∙ before_first c.args.relation c.self.inside.tuples.items c.in-Some-Some.first.now c.self.invariant first c.if-relation-first.true }

pub returns-else-relation-first : goal.returns-else-relation-first
returns-else-relation-first c =
    let last = ap (λ l. slice_get l (length l - 1)) (sym c.deref-2.ensures.value) ∙ sym c.in-Some-Some.ensures'.value in
    record { none = λ h. ap (list_any (is_of c.args.relation)) (sym c.self.view_is) ∙ after_last c.args.relation c.self.inside.tuples.items c.in-Some-Some.last.now c.self.invariant last (search (rules, h)) }
