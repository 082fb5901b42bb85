use Rattle.std.proofs.Common.{◌∙◌, ap, sym, map, [], ◌∷◌}
use Rattle.std.specs.List.{position_from}
use Rattle.std.proofs.lemmas.List.{map-append, map-set}
use Rattle.base_types.specs.Meanings.{null_of, datum_of, assignment_of}
use Rattle.base_types.specs.Maps.{is_pair_of, images_of, give_image}
use Rattle.base_types.proofs.Images.{added, replaced_at}
use Rattle.base_types.proofs.substitutions.Sub.set.Goals as goal

pub returns-in-Some-clause-ok : goal.returns-in-Some-clause-ok
returns-in-Some-clause-ok c =
    let n = null_of c.args.null in
    let d = datum_of c.args.value in
    let items = c.self.inside.assignments.items in
    let place = ap (λ l. position_from (is_pair_of n) 0 (map assignment_of l)) (sym c.as_slice.ensures.items) ∙ sym c.place_of.ensures.place ∙ c.in-Some.is in
    ap (λ l. images_of (map assignment_of l)) c.put.ensures.items ∙ ap images_of (map-set assignment_of items c.in-Some.at record { null = c.args.null; value = c.args.value }) ∙ replaced_at (map assignment_of items) c.in-Some.at n d place
    ∙ ap (λ ps. give_image (images_of ps) n d) c.self.view_is

pub returns-in_ok-push-in-None-clause-ok : goal.returns-in_ok-push-in-None-clause-ok
returns-in_ok-push-in-None-clause-ok c =
    let n = null_of c.args.null in
    let d = datum_of c.args.value in
    let items = c.self.inside.assignments.items in
    let place = ap (λ l. position_from (is_pair_of n) 0 (map assignment_of l)) (sym c.as_slice.ensures.items) ∙ sym c.place_of.ensures.place ∙ c.in-None.is in
    ap (λ l. images_of (map assignment_of l)) c.in_ok-push-in-None.ensures.ok ∙ ap images_of (map-append assignment_of items (record { null = c.args.null; value = c.args.value } ∷ [])) ∙ added (map assignment_of items) 0 n d place
    ∙ ap (λ ps. give_image (images_of ps) n d) c.self.view_is
