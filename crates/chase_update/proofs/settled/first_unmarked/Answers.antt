use Rattle.std.proofs.Common.{◌∙◌, ◌+◌, [], arith, refl, sym}
use Rattle.chase_update.specs.Rows.{Violating, row_tree}
use Rattle.chase_update.proofs.Shorter.{passes_settled, shorter_on}
use Rattle.chase_update.proofs.settled.first_unmarked.Goals as goal

pub places-init : goal.places-init
places-init c = λ val P finds number. (c.end_of_passage-place.ensures.passed P.number 0 [] val P finds refl).shorter

pub places-preserved : goal.places-preserved
places-preserved c = λ val P finds number.
    let ms = c.args.mappings.now in
    let k = c.places.place in
    let next = c.in-Some.next in
    let end = c.end_of_passage-place-in-Some.result in
    shorter_on val (row_tree ms P (Violating c.args.from)) (row_tree ms P (Violating k)) (row_tree ms P (Violating end)) (c.places.invariant val P finds number)
    (shorter_on val (row_tree ms P (Violating k)) (row_tree ms P (Violating next)) (row_tree ms P (Violating end))
    (passes_settled val ms P k (k + 1) next (omega arith) (finds k (sym c.is_marked.ensures.mark ∙ c.places-test.true)) (c.in-Some.ensures.look P number))
    (c.end_of_passage-place-in-Some.ensures.passed P.number 0 [] val P finds refl).shorter)
