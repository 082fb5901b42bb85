-- Which relations a query for a mapping's violation mentions.
use Rattle.std.proofs.Common.{◌≡◌, ℕ, ap, sym, ◌∙◌, List, map, Bool, true, false, ◌||◌, Option, Some, None}
use Rattle.std.specs.List.{list_any, slice_get}
use Rattle.std.specs.Option.{option_map}
use Rattle.std.specs.Prelude.{◌==◌}
use Rattle.def_chase.specs.Mappings.{Pattern}
use Rattle.def_chase.specs.Mentions.{rule_mentions, mentions}
use Rattle.def_chase.proofs.Maps.{get_map}
use Rattle.def_chase.proofs.Searches.{any_join}
use Rattle.base_types.specs.declared.mappings.Atom.{Atom}
use Rattle.base_types.specs.declared.mappings.Mapping.{Mapping}
use Rattle.base_types.specs.Meanings.{pattern_of, rule_of}
use Rattle.def_chase.specs.Queries.{Violation}

-- An atom of the relation stands among these.
abbrev pub some_of : ℕ → List Atom → Bool
some_of r as' = list_any (λ (a : Pattern). a.relation == r) (map pattern_of as')

module _ (ms : List Mapping) (n r : ℕ) where
  by_mapping : (o : Option Mapping) → o ≡ slice_get ms n → mentions (map rule_of ms) (Violation n) r ≡ rule_mentions (option_map rule_of o) r
  by_mapping o e = ap (λ o. rule_mentions o r) (get_map rule_of ms n ∙ ap (option_map rule_of) (sym e))

  by_sides : (m : Mapping) → Some m ≡ slice_get ms n → mentions (map rule_of ms) (Violation n) r ≡ (some_of r m.left.items || some_of r m.right.items)
  by_sides m e = by_mapping (Some m) e ∙ any_join (λ (a : Pattern). a.relation == r) (map pattern_of m.left.items) (map pattern_of m.right.items)

  pub left_mentions : (m : Mapping) (as' : List Atom) (b : Bool) → Some m ≡ slice_get ms n → as' ≡ m.left.items → b ≡ some_of r as' → b ≡ true → b ≡ mentions (map rule_of ms) (Violation n) r
  left_mentions m as' b e l s t = t ∙ ap (λ c. c || some_of r m.right.items) (sym t ∙ s ∙ ap (some_of r) l) ∙ sym (by_sides m e)

  pub right_mentions : (m : Mapping) (as' bs : List Atom) (a b : Bool) → Some m ≡ slice_get ms n → as' ≡ m.left.items → a ≡ some_of r as' → a ≡ false → bs ≡ m.right.items → b ≡ some_of r bs → b ≡ mentions (map rule_of ms) (Violation n) r
  right_mentions m as' bs a b e l s t k u = u ∙ ap (some_of r) k ∙ ap (λ c. c || some_of r m.right.items) (sym t ∙ s ∙ ap (some_of r) l) ∙ sym (by_sides m e)

  pub none_mentions : None ≡ slice_get ms n → false ≡ mentions (map rule_of ms) (Violation n) r
  none_mentions e = sym (by_mapping None e)
