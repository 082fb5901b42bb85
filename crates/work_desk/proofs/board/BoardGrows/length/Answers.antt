use Rattle.std.proofs.Common.{◌≡◌, ◌∙◌, ◌+◌, ℕ, suc, sym, ap, length, arith}
use Rattle.std.proofs.lemmas.List.{length-map}
use Rattle.work_desk.specs.Shared.{Shared, items_of}
use Rattle.work_desk.specs.Marks.{made_of}
use Rattle.work_desk.proofs.Growing.{items_count}
use Rattle.work_desk.proofs.board.BoardGrows.length.Goals as goal

one_more : (a n m : ℕ) → n ≡ m → a + 1 + n ≡ suc a + m
one_more a n m e = omega (arith, e)

pub returns : goal.returns
returns g c =
    let i = c.self.inside in
    let mapped = length-map i.marks.items made_of in
    one_more i.opened c.len.result _ (omega (arith, c.len.ensures, mapped, i.marks.ok)) ∙ (sym (items_count _ c.self.invariant.0) ∙ ap (λ (z : Shared). length (items_of z)) c.self.view_is)
