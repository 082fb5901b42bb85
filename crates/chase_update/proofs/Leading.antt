-- A list that has the first of the writes, and then all of them.
use Rattle.std.proofs.Common.{◌≡◌, ◌∙◌, ap, refl, sym, ℕ, ◌-◌, List, [], ◌∷◌, ◌++◌, map, length, take, drop, arith}
use Rattle.std.proofs.lemmas.List.{take_all, drop-map, length-drop}
use Rattle.base_types.specs.Meanings.{change_of}
use Rattle.base_types.specs.declared.updates.Write.{Write}
use Rattle.def_chase.specs.Repository.{Change}
use mathlib.Core.List.{IsPrefix}

dropped : (xs ys : List Change) → drop (length xs) (xs ++ ys) ≡ ys
dropped [] ys = refl
dropped (x ∷ xs) ys = dropped xs ys

-- With those that it lacks it has all.
pub caught_up : (n : ℕ) (first : List Change) (all : List Write) → n ≡ length first → IsPrefix first (map change_of all) → first ++ map change_of (take (length all - n) (drop n all)) ≡ map change_of all
caught_up n first all e h =
    ap (λ ws. first ++ map change_of ws) (take_all (length all - n) (drop n all) (let l = length-drop n all in omega (arith, l)))
    ∙ ap (λ cs. first ++ cs) (sym (drop-map change_of n all))
    ∙ ap (λ k. first ++ drop k (map change_of all)) e
    ∙ ap (λ cs. first ++ drop (length first) cs) (sym h.1)
    ∙ ap (λ cs. first ++ cs) (dropped first h.0)
    ∙ h.1
