-- What the first so many writes make of a set, and what those make of it that are left, one write further.
use Rattle.std.proofs.Common.{◌≡◌, ◌<◌, ◌+◌, ap, refl, sym, ◌∙◌, List, [], ◌∷◌, ◌++◌, map, take, drop, length, get_or, ℕ}
use Rattle.std.proofs.lemmas.List.{take_more, drop_more, map-append}
use Rattle.def_chase.specs.Values.{Fact}
use Rattle.def_chase.specs.Repository.{Change, apply, change}
use Rattle.base_types.specs.Meanings.{change_of}
use Rattle.base_types.specs.declared.updates.Write.{Write}

apply_one_more : (D : List Fact) (ws : List Change) (w : Change) → apply D (ws ++ w ∷ []) ≡ change (apply D ws) w
apply_one_more D [] w = refl
apply_one_more D (v ∷ ws) w = apply_one_more (change D v) ws w

pub map_more : (ws : List Write) (i : ℕ) (w : Write) → i < length ws → w ≡ get_or ws i w → map change_of (take (i + 1) ws) ≡ map change_of (take i ws) ++ change_of w ∷ []
map_more ws i w h e =
    ap (map change_of) (take_more ws i w h ∙ ap (λ (x : Write). take i ws ++ x ∷ []) (sym e))
    ∙ map-append change_of (take i ws) (w ∷ [])

-- E is what the first so many writes make of D, and F that with the next one.
pub made_more : (D E F : List Fact) (ws : List Write) (i : ℕ) (w : Write) → i < length ws → w ≡ get_or ws i w → E ≡ apply D (map change_of (take i ws)) → F ≡ change E (change_of w) → F ≡ apply D (map change_of (take (i + 1) ws))
made_more D E F ws i w h e made next =
    next ∙ ap (λ (G : List Fact). change G (change_of w)) made
    ∙ sym (ap (apply D) (map_more ws i w h e) ∙ apply_one_more D (map change_of (take i ws)) (change_of w))

-- What the writes that are left make of E is what the others make of it after the first of them.
pub left_more : (D E F : List Fact) (ws : List Write) (i : ℕ) (w : Write) → i < length ws → w ≡ get_or ws i w → apply E (map change_of (drop i ws)) ≡ D → F ≡ change E (change_of w) → apply F (map change_of (drop (i + 1) ws)) ≡ D
left_more D E F ws i w h e left next =
    ap (λ (G : List Fact). apply G (map change_of (drop (i + 1) ws))) next
    ∙ sym (ap (λ (vs : List Write). apply E (map change_of vs)) (drop_more ws i w h ∙ ap (λ (v : Write). v ∷ drop (i + 1) ws) (sym e)))
    ∙ left
