-- The greatest place of a table.
use Rattle.std.proofs.Common.{◌≡◌, ◌∙◌, ap, sym, ℕ, ◌+◌, ◌<◌, ◌≤◌, List, ◌∷◌, map, length, drop, get_or, ltb-true, arith}
use Rattle.std.proofs.lemmas.List.{drop_more, drop_all}
use Rattle.def_workspace.specs.Places.{greater, greatest}
use Rattle.ws_names.specs.Meanings.{place_of}
use Rattle.ws_names.specs.declared.places.Place.{Place}

-- Of three numbers.
greater_of_three : (a b c : ℕ) → greater (greater a b) c ≡ greater a (greater b c)
greater_of_three a b c = grind (arith, ltb-true)

pub none_greater : (n : ℕ) → greater 0 n ≡ n
none_greater n = grind (arith, ltb-true)

-- One place more is looked at.
pub one_more : (places : List Place) (i most : ℕ) (p : Place) → i < length places → p ≡ get_or places i p
    → greater (greater most p.number) (greatest (map place_of (drop (i + 1) places))) ≡ greater most (greatest (map place_of (drop i places)))
one_more places i most p h e =
    let split : drop i places ≡ p ∷ drop (i + 1) places = drop_more places i p h ∙ ap (λ (q : Place). q ∷ drop (i + 1) places) (sym e) in
    greater_of_three most p.number (greatest (map place_of (drop (i + 1) places)))
    ∙ ap (λ (ps : List Place). greater most (greatest (map place_of ps))) (sym split)

-- All are looked at.
pub none_left : (places : List Place) (i most : ℕ) → length places ≤ i → greater most (greatest (map place_of (drop i places))) ≡ most
none_left places i most h = ap (λ (ps : List Place). greater most (greatest (map place_of ps))) (drop_all i places h) ∙ greater_none most
  where
    greater_none : (n : ℕ) → greater n 0 ≡ n
    greater_none n = grind (arith, ltb-true)
