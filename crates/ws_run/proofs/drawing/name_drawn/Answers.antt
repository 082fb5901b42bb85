use Rattle.std.proofs.Common.{◌∙◌, ◌≡◌, ◌-◌, ℕ, ap, refl, sym, List, Some, None, map}
use Rattle.std.specs.Option.{option_map}
use Rattle.std.specs.List.{slice_get}
use Rattle.base_types.specs.Meanings.{fact_of, rule_of}
use Rattle.base_types.specs.declared.tuples.Tuple.{Tuple}
use Rattle.chase_repair.specs.Bound.{bound_in}
use Rattle.chase_repair.specs.BoundMeanings.{bound_of}
use Rattle.def_chase.specs.Mappings.{Rule}
use Rattle.def_workspace.specs.Names.{fact_named}
use Rattle.ws_run.specs.DrawnMeanings.{draw_all}
use Rattle.ws_run.specs.Meanings.{thread_of}
use Rattle.ws_run.proofs.Generated.{on_ok, no_mapping, mapping_drawn}
use Rattle.ws_run.proofs.drawing.name_drawn.Goals as goal

pub returns-in_default-get-clause-drawn : goal.returns-in_default-get-clause-drawn
returns-in_default-get-clause-drawn c =
    let P = c.args.program.now.attempt in
    let rs = c.args.setting.now.in_force.now in
    let none : slice_get rs c.in-Some.bound.mapping ≡ None =
    sym (ap (λ (l : List Rule). slice_get l c.in-Some.bound.mapping) c.mappings.ensures.rules) ∙ sym c.in_default-get.ensures.item in
    λ gs. no_mapping c.args.setting.now P.number (P.nulls - c.args.before) c.args.before (bound_in P.phase) (thread_of c.args.names.now c.args.thread.now gs)
    (bound_of c.in-Some.bound) (sym c.bound.ensures.bound ∙ ap (option_map bound_of) c.in-Some.is) none

pub returns-clause-drawn : goal.returns-clause-drawn
returns-clause-drawn c =
    let P = c.args.program.now.attempt in
    let rs = c.args.setting.now.in_force.now in
    let there : slice_get rs c.in-Some.bound.mapping ≡ Some (rule_of c.in-Some-get.mapping.now) =
    sym (ap (λ (l : List Rule). slice_get l c.in-Some.bound.mapping) c.mappings.ensures.rules) ∙ sym c.in-Some-get.ensures.item in
    on_ok c.name_all.result
    (λ drawn gs. mapping_drawn c.args.setting.now P.number (P.nulls - c.args.before) c.args.before (bound_in P.phase) (thread_of c.args.names.now c.args.thread.now gs)
    (bound_of c.in-Some.bound) (sym c.bound.ensures.bound ∙ ap (option_map bound_of) c.in-Some.is)
    (rule_of c.in-Some-get.mapping.now) record { number = c.args.setting.now.number; op = c.number.result; source = c.source.result; variable = c.in-Some-get.mapping.now.universal; image = c.in_ok-image-2.image } _ there refl c.number.ensures.number c.source.ensures.source refl
    (c.in_ok-image-2.ensures.named ∙ ap (λ (ts : List Tuple). map (fact_named c.args.names.now) (map fact_of ts)) c.as_slice.ensures.items ∙ ap (map (fact_named c.args.names.now)) c.in_ok-image.ensures.image)
    (drawn gs ∙ ap (λ (m : ℕ). draw_all record { number = c.args.setting.now.number; op = c.number.result; source = c.source.result; variable = c.in-Some-get.mapping.now.universal; image = c.in_ok-image-2.image } (m - c.args.before) c.args.before (thread_of c.args.names.now c.args.thread.now gs)) c.nulls-2.ensures.nulls))
    c.name_all.ensures.drawn
