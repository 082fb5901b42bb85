-- Impacts: a summary of writes, which says what an attempt must have written or asked for so that one of them may meet a read.
use Rattle.std.specs.Prelude.{◌≡◌, ℕ, suc, ◌==◌, Bool, true, false, not, ◌&&◌, ◌||◌, List, [], ◌∷◌, find, Option, Some, None}
use Rattle.std.specs.Option.{option_map}
use Rattle.std.specs.List.{list_any, list_all}
use Rattle.def_chase.specs.Mappings.{Slot, Var, Const, Pattern, Rule}
use Rattle.def_chase.specs.Repository.{Change}
use Rattle.def_chase.specs.Values.{Datum, Fact}
use Rattle.core_conflict.specs.Concerns.{adds, columns, tuple_of}
use Rattle.core_conflict.specs.Signatures.{IsWithin, has_spot, has_tuple, home, spot}
use Rattle.core_conflict.specs.declared.concerns.Sense.{Sense}
use Rattle.core_conflict.specs.declared.impacts.Impact.{Impact}
use Rattle.core_conflict.specs.declared.impacts.Reach.{Reach}

-- The term is the variable.
abbrev pub is_var : ℕ → Slot → Bool
is_var v (Var w) = v == w
is_var v (Const c) = false

-- The value of the variable in these columns, if it is in one.
abbrev pub value_in : ℕ → List (Slot × Datum) → Option Datum
value_in v ps = option_map (λ p. p.1) (find (λ p. is_var v p.0) ps)

-- The value of the term in these columns, if it is a variable that is in one.
abbrev pub standing_in : Slot → List (Slot × Datum) → Option Datum
standing_in (Var v) ps = value_in v ps
standing_in (Const c) ps = None

-- The value with column k, if there is one; else the next key.
abbrev pub key_or : ℕ → Option Datum → Option (ℕ × Datum) → Option (ℕ × Datum)
key_or k (Some d) next = Some (k, d)
key_or k None next = next

-- The first of the terms, counted from k, that has a value in these columns, with that value.
abbrev pub key_from : ℕ → List Slot → List (Slot × Datum) → Option (ℕ × Datum)
key_from k [] ps = None
key_from k (q ∷ qs) ps = key_or k (standing_in q ps) (key_from (suc k) qs ps)

-- The reach has each own write of relation r with that key; without a key it has any own write.
abbrev pub has_key : Reach → ℕ → Option (ℕ × Datum) → Bool
has_key v r (Some key) = has_spot v.own (spot r key.0 key.1)
has_key v r None = v.every

-- The reach has each own write that stands at the seat, if the tuple stands at the atom.
abbrev pub has_seat : Reach → Fact → Pattern → Pattern → Bool
has_seat v t c a = has_key v a.relation (key_from 0 a.terms (columns c t))

-- If the atom is of the tuple's relation, the reach has the own writes at each of the seats.
abbrev pub has_seats : Reach → List Pattern → Fact → Pattern → Bool
has_seats v seats t c = not (c.relation == t.relation) || list_all (has_seat v t c) seats

-- The reach has the own writes at each of the seats, whichever of the atoms the tuple stands at.
abbrev pub has_joins : Reach → List Pattern → List Pattern → Fact → Bool
has_joins v seats cs t = list_all (has_seats v seats t) cs

-- If the tuple was there before and is of the relation of one of these atoms, the reach has any own write: backward such a tuple
-- meets whatever may be violated.
abbrev pub has_right : Reach → List Pattern → Bool → Fact → Bool
has_right v cs b t = (b || not (list_any (λ c. c.relation == t.relation) cs)) || v.every

-- The impact has the own writes with which the tuple joins by the mapping.
abbrev pub has_rule : Impact → Bool → Fact → Rule → Bool
has_rule v b t m = (has_joins v.forward m.left m.left t && has_joins v.forward m.left m.right t) && (has_joins v.backward m.right m.left t && has_right v.backward m.right b t)

-- The impact has the reads that ask for the tuple.
abbrev pub has_tuple_asked : Impact → Fact → Bool
has_tuple_asked v t = has_spot v.asked (home t.relation) && has_tuple v.asked t

-- The impact has what the write may meet: the reads that ask for its tuple, and the own writes that join with it.
abbrev pub has_change : Impact → List Rule → Sense → Change → Bool
has_change v ms g w = has_tuple_asked v (tuple_of w) && list_all (has_rule v (adds g w) (tuple_of w)) ms

-- The impact has what any write of the trails may meet.
abbrev pub has_trails : Impact → List Rule → Sense → List (List Change) → Bool
has_trails v ms g trails = list_all (list_all (has_change v ms g)) trails

-- The first reach is within the second.
pub record IsReachWithin (v w : Reach) : Type 0 where
  pub every : v.every ≡ true → w.every ≡ true
  pub own : IsWithin v.own w.own

-- The first impact is within the second.
pub record IsImpactWithin (v w : Impact) : Type 0 where
  pub forward : IsReachWithin v.forward w.forward
  pub backward : IsReachWithin v.backward w.backward
  pub asked : IsWithin v.asked w.asked
