-- What own writes make of a set, one write more.
use Rattle.std.proofs.Common.{◌≡◌, ◌<◌, ◌+◌, ◌∙◌, ap, refl, sym, List, [], ◌∷◌, ◌++◌, map, take, drop, length, get_or, ℕ}
use Rattle.def_chase.specs.Values.{Fact}
use Rattle.def_chase.specs.Repository.{Change, apply, change}
use Rattle.base_types.specs.Meanings.{change_of}
use Rattle.base_types.specs.declared.updates.Write.{Write}
use Rattle.std.proofs.lemmas.List.{drop_more}
use Rattle.set_facts.proofs.Beginning.{map_more}
use Rattle.chase_eval.specs.Seen.{Seen, written}
use Rattle.chase_eval.specs.Watched.{Watched, watched_on}

pub apply_one_more : (D : List Fact) (ws : List Change) (w : Change) → apply D (ws ++ w ∷ []) ≡ change (apply D ws) w
apply_one_more D [] w = refl
apply_one_more D (v ∷ ws) w = apply_one_more (change D v) ws w

pub map_one_more : (ws : List Write) (w : Write) → map change_of (ws ++ w ∷ []) ≡ map change_of ws ++ change_of w ∷ []
map_one_more [] w = refl
map_one_more (v ∷ ws) w = ap (λ (vs : List Change). change_of v ∷ vs) (map_one_more ws w)

-- E is what the writes make of D, and F that with one write more, of which the last of the new list is a copy.
pub made_so : (D E F : List Fact) (ws vs : List Write) (w copy : Write) → E ≡ apply D (map change_of ws) → F ≡ change E (change_of w) → change_of copy ≡ change_of w → vs ≡ ws ++ copy ∷ [] → F ≡ apply D (map change_of vs)
made_so D E F ws vs w copy e f c v =
    f ∙ ap (λ (x : List Fact). change x (change_of w)) e ∙ ap (change (apply D (map change_of ws))) (sym c)
    ∙ sym (ap (λ (x : List Write). apply D (map change_of x)) v ∙ ap (apply D) (map_one_more ws copy) ∙ apply_one_more D (map change_of ws) (change_of copy))

append_one : (vs ws : List Change) (w : Change) → (vs ++ w ∷ []) ++ ws ≡ vs ++ w ∷ ws
append_one [] ws w = refl
append_one (v ∷ vs) ws w = ap (λ (x : List Change). v ∷ x) (append_one vs ws w)

-- ---- the first so many writes, and the next one

append_last : (xs ys : List Change) (w : Change) → (xs ++ ys) ++ w ∷ [] ≡ xs ++ (ys ++ w ∷ [])
append_last [] ys w = refl
append_last (x ∷ xs) ys w = ap (λ (zs : List Change). x ∷ zs) (append_last xs ys w)

one_more : (own : List Change) (ws : List Write) (i : ℕ) (w : Write) → i < length ws → w ≡ get_or ws i w → (own ++ map change_of (take i ws)) ++ change_of w ∷ [] ≡ own ++ map change_of (take (i + 1) ws)
one_more own ws i w h e = append_last own (map change_of (take i ws)) (change_of w) ∙ ap (λ (vs : List Change). own ++ vs) (sym (map_more ws i w h e))

left_after : (own : List Change) (ws : List Write) (i : ℕ) (w : Write) → i < length ws → w ≡ get_or ws i w → (own ++ change_of w ∷ []) ++ map change_of (drop (i + 1) ws) ≡ own ++ map change_of (drop i ws)
left_after own ws i w h e = append_one own (map change_of (drop (i + 1) ws)) (change_of w) ∙ sym (ap (λ (vs : List Write). own ++ map change_of vs) (drop_more ws i w h ∙ ap (λ (v : Write). v ∷ drop (i + 1) ws) (sym e)))

-- t is seen after the first so many writes, and u with the next one; with the writes that are left all of them are seen.
pub written_more : (s t u : Seen) (ws : List Write) (i : ℕ) (w : Write) → i < length ws → w ≡ get_or ws i w → t ≡ written s (map change_of (take i ws)) → u ≡ written t (change_of w ∷ []) → u ≡ written s (map change_of (take (i + 1) ws))
written_more s t u ws i w h e made next =
    next ∙ ap (λ x. written x (change_of w ∷ [])) made
    ∙ ap (λ (own : List Change). record { below = s.below; own = own }) (one_more s.own ws i w h e)

pub written_left : (s t u : Seen) (ws : List Write) (i : ℕ) (w : Write) → i < length ws → w ≡ get_or ws i w → written t (map change_of (drop i ws)) ≡ s → u ≡ written t (change_of w ∷ []) → written u (map change_of (drop (i + 1) ws)) ≡ s
written_left s t u ws i w h e left next =
    ap (λ x. written x (map change_of (drop (i + 1) ws))) next
    ∙ ap (λ (own : List Change). record { below = t.below; own = own }) (left_after t.own ws i w h e)
    ∙ left

pub watched_more : (s t u : Watched) (ws : List Write) (i : ℕ) (w : Write) → i < length ws → w ≡ get_or ws i w → t ≡ watched_on s (map change_of (take i ws)) → u ≡ watched_on t (change_of w ∷ []) → u ≡ watched_on s (map change_of (take (i + 1) ws))
watched_more s t u ws i w h e made next =
    next ∙ ap (λ x. watched_on x (change_of w ∷ [])) made
    ∙ ap (λ (own : List Change). record { rules = s.rules; heading = s.heading; below = s.below; own = own }) (one_more s.own ws i w h e)

pub watched_left : (s t u : Watched) (ws : List Write) (i : ℕ) (w : Write) → i < length ws → w ≡ get_or ws i w → watched_on t (map change_of (drop i ws)) ≡ s → u ≡ watched_on t (change_of w ∷ []) → watched_on u (map change_of (drop (i + 1) ws)) ≡ s
watched_left s t u ws i w h e left next =
    ap (λ x. watched_on x (map change_of (drop (i + 1) ws))) next
    ∙ ap (λ (own : List Change). record { rules = t.rules; heading = t.heading; below = t.below; own = own }) (left_after t.own ws i w h e)
    ∙ left
