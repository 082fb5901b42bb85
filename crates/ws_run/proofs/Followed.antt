-- What a value becomes by steps that are gone over in turn.
use Rattle.std.proofs.Common.{◌≡◌, ◌∙◌, ap, sym, ℕ, ◌+◌, ◌<◌, ◌≤◌, List, ◌∷◌, length, drop, get_or}
use Rattle.std.proofs.lemmas.List.{drop_more, drop_all}
use Rattle.def_chase.specs.Values.{Datum}
use Rattle.ws_run.specs.Moves.{moved_over, moved_way, step_way, ways_of}
use Rattle.ws_run.specs.declared.threads.Step.{Step}

-- One step more is gone over.
pub followed_on : (steps : List Step) (i : ℕ) (s : Step) (d e a : Datum) → i < length steps → s ≡ get_or steps i s → e ≡ moved_way (step_way s) d
    → moved_over (ways_of (drop i steps)) d ≡ a → moved_over (ways_of (drop (i + 1) steps)) e ≡ a
followed_on steps i s d e a h is by so_far =
    let split : drop i steps ≡ s ∷ drop (i + 1) steps = drop_more steps i s h ∙ ap (λ (t : Step). t ∷ drop (i + 1) steps) (sym is) in
    ap (moved_over (ways_of (drop (i + 1) steps))) by
    ∙ sym (ap (λ (ss : List Step). moved_over (ways_of ss) d) split)
    ∙ so_far

-- All are.
pub followed_all : (steps : List Step) (i : ℕ) (d a : Datum) → length steps ≤ i → moved_over (ways_of (drop i steps)) d ≡ a → d ≡ a
followed_all steps i d a h so_far = sym (ap (λ (ss : List Step). moved_over (ways_of ss) d) (drop_all i steps h)) ∙ so_far
