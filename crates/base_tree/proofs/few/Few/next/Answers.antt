use Rattle.std.proofs.Common.{ap, sym, subst, ◌∙◌, ◌≤◌, ◌<◌, ◌≡◌, get_or, length}
use Rattle.std.proofs.lemmas.Bool.{ltb-true, ltb-false}
use Rattle.base_tree.specs.Few.{Batch}
use Rattle.base_tree.proofs.Places.{next_given, all_given}
use Rattle.base_tree.proofs.few.Few.next.Goals as goal

pub returns-in_default-clause-end : goal.returns-in_default-clause-end
returns-in_default-clause-end g c =
    ap (λ (b : Batch g.row.T.Denot). b.left) (sym c.self.view_is)
    ∙ all_given c.self.inside.items.items c.self.inside.given (subst (λ l. length l ≤ c.self.inside.given) c.as_slice.ensures.value (ltb-false c.self.inside.given (length c.as_slice.result.now) (sym c.in_default.ensures.lookup.0)))

pub returns-clause-step : goal.returns-clause-step
returns-clause-step g c =
    ap (λ (b : Batch g.row.T.Denot). b.left) (sym c.self.view_is)
    ∙ next_given c.self.inside.items.items c.self.inside.given c.in-Some.item.now
    (subst (λ l. c.self.inside.given < length l) c.as_slice.ensures.value (ltb-true c.self.inside.given (length c.as_slice.result.now) (sym c.in-Some.ensures.lookup.0)))
    (subst (λ l. c.in-Some.item.now ≡ get_or l c.self.inside.given c.in-Some.item.now) c.as_slice.ensures.value c.in-Some.ensures.lookup.1)
