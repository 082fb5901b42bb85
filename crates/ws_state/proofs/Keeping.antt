-- The updates that wait are kept one after the other.
use Rattle.std.proofs.Common.{◌≡◌, ◌∙◌, ap, sym, ℕ, ◌+◌, ◌<◌, ◌≤◌, List, [], ◌∷◌, ◌++◌, map, length, drop, get_or, Option, Some, append_assoc}
use Rattle.std.specs.List.{slice_get}
use Rattle.std.specs.Option.{option_map}
use Rattle.std.proofs.lemmas.List.{append-nil, map-append, drop_more, drop_all}
use Rattle.ws_state.specs.declared.states.Held.{Held}
use Rattle.ws_state.specs.declared.worlds.Waiting.{Waiting}
use Rattle.ws_state.specs.declared.heads.HeadWaiting.{HeadWaiting}
use Rattle.ws_state.specs.Folds.{number_at}

abbrev numbers : List HeadWaiting → List (Option ℕ)
numbers heads = map (λ (k : HeadWaiting). Some k.update.number) heads

-- The next one is kept.
pub one_kept : (held : List Held) (ws : List Waiting) (i : ℕ) (w : Waiting) (h : Held) (heads longer : List HeadWaiting) (k : HeadWaiting)
    → i < length ws → w ≡ get_or ws i w → slice_get held w.held ≡ Some h → k.update.number ≡ h.update.number → longer ≡ heads ++ k ∷ []
    → map (λ (k : HeadWaiting). Some k.update.number) heads ++ map (number_at held) (drop i ws) ≡ map (number_at held) ws
    → map (λ (k : HeadWaiting). Some k.update.number) longer ++ map (number_at held) (drop (i + 1) ws) ≡ map (number_at held) ws
one_kept held ws i w h heads longer k within is there same grown so_far =
    let rest : List (Option ℕ) = map (number_at held) (drop (i + 1) ws) in
    let split : w ∷ drop (i + 1) ws ≡ drop i ws = sym (drop_more ws i w within ∙ ap (λ (q : Waiting). q ∷ drop (i + 1) ws) (sym is)) in
    let number : Some k.update.number ≡ number_at held w = ap Some same ∙ sym (ap (option_map (λ (h : Held). h.update.number)) there) in
    ap (λ (l : List HeadWaiting). numbers l ++ rest) grown
    ∙ ap (λ (l : List (Option ℕ)). l ++ rest) (map-append (λ (k : HeadWaiting). Some k.update.number) heads (k ∷ []))
    ∙ append_assoc (numbers heads) (Some k.update.number ∷ []) rest
    ∙ ap (λ (n : Option ℕ). numbers heads ++ n ∷ rest) number
    ∙ ap (λ (l : List Waiting). numbers heads ++ map (number_at held) l) split
    ∙ so_far

-- None is left.
pub all_kept : (held : List Held) (ws : List Waiting) (i : ℕ) (heads : List HeadWaiting) → length ws ≤ i
    → map (λ (k : HeadWaiting). Some k.update.number) heads ++ map (number_at held) (drop i ws) ≡ map (number_at held) ws
    → map (λ (k : HeadWaiting). Some k.update.number) heads ≡ map (number_at held) ws
all_kept held ws i heads none so_far =
    sym (append-nil (numbers heads))
    ∙ ap (λ (l : List Waiting). numbers heads ++ map (number_at held) l) (sym (drop_all i ws none))
    ∙ so_far
