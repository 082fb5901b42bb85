-- Levels, as they are kept: the uppermost one, and what leads down from it.
use Rattle.std.proofs.Common.{◌≡◌, ◌∙◌, ap, refl, sym, suc, ◌+◌, List, [], ◌∷◌, ◌++◌, map, length, arith}
use Rattle.std.specs.Prelude.{reverse}
use Rattle.std.proofs.lemmas.List.{reverse-append, length-append, length-map, length-reverse}
use Rattle.base_types.specs.Contents.{changes_of}
use Rattle.base_types.specs.Listed.{Listed}
use Rattle.base_types.specs.declared.updates.Write.{Write}
use Rattle.def_chase.specs.Values.{Fact}
use Rattle.def_chase.specs.Repository.{Change, apply}
use Rattle.audit_replay.specs.Levels.{descended, top, raised}

-- The uppermost one is the set.
pub top_descended : (D : List Fact) (wss : List (List Change)) → top (descended D wss) ≡ D
top_descended D [] = refl
top_descended D (ws ∷ wss) = refl

-- There is one for each list of writes, and one more.
pub many_descended : (D : List Fact) (wss : List (List Change)) → length (descended D wss) ≡ suc (length wss)
many_descended D [] = refl
many_descended D (ws ∷ wss) = ap suc (many_descended (apply D (reverse ws)) wss)

-- A set E, from which these writes lead back to the uppermost one, is one level more.
pub one_level_more : (D E : List Fact) (made : List Change) (wss : List (List Change)) (ws : List Change)
    → E ≡ apply D made → apply E (reverse ws) ≡ D
    → descended E (reverse (wss ++ ws ∷ [])) ≡ raised (descended D (reverse wss)) made
one_level_more D E made wss ws e b =
    ap (descended E) (reverse-append wss (ws ∷ []))
    ∙ ((λ i. E ∷ descended (b i) (reverse wss))
    ∙ (λ i. (e ∙ ap (λ (F : List Fact). apply F made) (sym (top_descended D (reverse wss)))) i ∷ descended D (reverse wss)))

-- So many are kept.
pub many_kept : (D : List Fact) (wss : List (List Change)) → length (descended D (reverse wss)) ≡ suc (length wss)
many_kept D wss = many_descended D (reverse wss) ∙ ap suc (length-reverse wss)

-- Over another set there are as many.
pub as_many : (D E : List Fact) (wss : List (List Change)) → length (descended E (reverse wss)) ≡ length (descended D (reverse wss))
as_many D E wss = many_kept E wss ∙ sym (many_kept D wss)

-- Where the last list of writes is taken away, there is one fewer.
pub one_fewer : (D E : List Fact) (all less : List (Listed Write)) (last : Listed Write) → all ≡ less ++ last ∷ []
    → suc (length (descended E (reverse (map changes_of less)))) ≡ length (descended D (reverse (map changes_of all)))
one_fewer D E all less last e =
    let long : length all ≡ length less + 1 = ap length e ∙ length-append less (last ∷ []) in
    let after : length (descended E (reverse (map changes_of less))) ≡ suc (length less) = many_kept E (map changes_of less) ∙ ap suc (length-map less changes_of) in
    let before : length (descended D (reverse (map changes_of all))) ≡ suc (length all) = many_kept D (map changes_of all) ∙ ap suc (length-map all changes_of) in
    omega (arith, long, after, before)
