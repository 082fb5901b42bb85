-- Mappings with few existential variables each, looked at one after the other.
use Rattle.std.proofs.Common.{◌≡◌, ◌∙◌, ap, sym, subst, ℕ, ◌+◌, ◌<◌, ◌≤◌, List, ◌∷◌, map, length, drop, get_or}
use Rattle.std.specs.List.{AllByRecursion}
use Rattle.std.proofs.lemmas.List.{drop_more, drop_all}
use Rattle.def_chase.specs.Mappings.{Rule}
use Rattle.base_types.specs.Meanings.{rule_of}
use Rattle.base_types.specs.declared.mappings.Mapping.{Mapping}

abbrev AreSmall : List Mapping → Type 0
AreSmall ms = AllByRecursion (λ (r : Rule). r.existential ≤ 64) (map rule_of ms)

-- The next one is small.
pub one_small : (ms : List Mapping) (i : ℕ) (m : Mapping) → i < length ms → m ≡ get_or ms i m → (rule_of m).existential ≤ 64
    → (AreSmall (drop i ms) → AreSmall ms) → AreSmall (drop (i + 1) ms) → AreSmall ms
one_small ms i m h e small so_far rest =
    let split : m ∷ drop (i + 1) ms ≡ drop i ms = sym (drop_more ms i m h ∙ ap (λ (q : Mapping). q ∷ drop (i + 1) ms) (sym e)) in
    so_far (subst AreSmall split (small, rest))

-- None is left.
pub all_small : (ms : List Mapping) (i : ℕ) → length ms ≤ i → (AreSmall (drop i ms) → AreSmall ms) → AreSmall ms
all_small ms i h so_far = so_far (subst AreSmall (sym (drop_all i ms h)) tt)
