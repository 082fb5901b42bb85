use Rattle.std.proofs.Common.{Vec, Global, ℕ, List, ◌++◌, ◌∷◌, [], map, ap, refl, ◌∙◌}
use Rattle.ws_seal.proofs.SoFar.{before_head, head_within, log_told}
use Rattle.ws_seal.proofs.reading.log_of.Goals as goal

pub texts_after-requires : goal.texts_after-requires
texts_after-requires c = head_within c.args.bytes.now c.in-Some.payload.now _ c.in-Some.ensures.some

pub returns : goal.returns
returns c =
    log_told c.args.bytes.now c.in-Some.payload.now c.in-Some._after.now c.in-Some-unseal.head.now _ _ _ c.in-Some.ensures.short c.in-Some-unseal.ensures.payload
    (before_head c.args.bytes.now c.in-Some.payload.now c.in-Some._after.now c.in-Some-unseal.head.now _ c.in-Some.ensures.some c.in-Some-unseal.ensures.payload refl)
    c.in-Some-unseal.ensures.marked (c.in_ok-keep.ensures ∙ ap (λ (vs : List (Vec ℕ Global)). map (λ v. v.items) vs ++ c.in-Some-unseal.head.now ∷ []) c.new-texts.ensures.items) c.texts_after.result c.texts_after.ensures
