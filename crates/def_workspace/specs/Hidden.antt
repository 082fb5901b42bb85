-- The hidden relations, which are empty between two updates, and the hidden mappings over them.
use Rattle.std.specs.Prelude.{ℕ, suc, ◌==◌, if◌then◌else◌, List, [], ◌∷◌, ◌++◌, map, length, filter, pos}
use Rattle.std.specs.List.{range_with_len}
use Rattle.def_chase.specs.Values.{Datum, Number, Fact}
use Rattle.def_chase.specs.Mappings.{Slot, Var, Const, Pattern, Rule}
use Rattle.def_chase.specs.Laws.{stands_in}

-- The hidden relation _want. Relations of a workspace have numbers below 100.
abbrev pub want_relation : ℕ
want_relation = 100

abbrev pub unknown_relation : ℕ
unknown_relation = 101

abbrev pub fix_relation : ℕ
fix_relation = 102

-- The tuple of _want that asks for the j-th new unknown of an update.
abbrev pub wanted : ℕ → Fact
wanted j = record { relation = want_relation; values = Number (pos j) ∷ [] }

-- The tuple of _unknown which says that the j-th new unknown is this value.
abbrev pub found_as : ℕ → Datum → Fact
found_as j d = record { relation = unknown_relation; values = Number (pos j) ∷ d ∷ [] }

-- The hidden mapping that draws new unknowns: _want(n) -> _unknown(n, u).
abbrev pub drawing_rule : Rule
drawing_rule =
    record {
      since = 0;
      universal = 1;
      existential = 1;
      left = record { relation = want_relation; terms = Var 0 ∷ [] } ∷ [];
      right = record { relation = unknown_relation; terms = Var 0 ∷ Var 1 ∷ [] } ∷ [];
    }

-- The variables of a mapping that stand on both of its sides, in the order of their first places.
abbrev pub shared_variables : Rule → List ℕ
shared_variables m = filter (λ v. stands_in v m.right) (range_with_len 0 m.universal)

-- The variables of the right side: those that stand on both sides, and then the existential ones.
abbrev pub right_variables : Rule → List ℕ
right_variables m = shared_variables m ++ range_with_len m.universal m.existential

-- The place of a variable in the list, from 0.
abbrev pub place_among : List ℕ → ℕ → ℕ
place_among [] v = 0
place_among (w ∷ ws) v = if w == v then 0 else suc (place_among ws v)

-- An atom with its variables numbered by their places among these.
abbrev pub slot_among : List ℕ → Slot → Slot
slot_among vs (Var v) = Var (place_among vs v)
slot_among vs (Const d) = Const d

abbrev pub atom_among : List ℕ → Pattern → Pattern
atom_among vs a = record { relation = a.relation; terms = map (slot_among vs) a.terms }

-- The columns of _fix_m: these items, or z if there are none.
abbrev pub or_zero : {A : Type 0} → A → List A → List A
or_zero z [] = z ∷ []
or_zero z (a ∷ as') = a ∷ as'

-- The tuple of _fix_m which says that the mapping must be repaired for these values.
abbrev pub to_fix : List Datum → Fact
to_fix ds = record { relation = fix_relation; values = or_zero (Number (pos 0)) ds }

-- The hidden mapping by which a mapping is repaired: _fix_m(x, ..) -> its right side.
abbrev pub fixing_rule : Rule → Rule
fixing_rule m =
    record {
      since = 0;
      universal = length (shared_variables m);
      existential = m.existential;
      left = record { relation = fix_relation; terms = or_zero (Const (Number (pos 0))) (map (slot_among (right_variables m)) (map Var (shared_variables m))) } ∷ [];
      right = map (atom_among (right_variables m)) m.right;
    }
