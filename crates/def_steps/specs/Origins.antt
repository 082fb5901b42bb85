-- The origins of the values that an update writes: constants, values of the repository below it, and its own fresh nulls.
use Rattle.std.specs.Prelude.{◌≡◌, ℕ, ◌==◌, nat_lt, Bool, true, false, not, ◌&&◌, ◌||◌, List, []}
use Rattle.std.specs.List.{list_any, list_all}
use Rattle.def_machine.specs.Updates.{Read}
use Rattle.def_machine.specs.Runs.{Reached}
use Rattle.def_chase.specs.Values.{NullName, Datum, Number, Text, Unknown, Fact, same_datum}
use Rattle.def_chase.specs.Repository.{Change, Insert, Delete}
use Rattle.def_chase.specs.Mappings.{Rule}
use Rattle.def_chase.specs.Violations.{Scope}
use Rattle.def_chase.specs.Specific.{is_constant}
use Rattle.def_chase.specs.Updates.{Operation, Choice}
use Rattle.def_chase.specs.Laws.{HaveNoNulls}
use Rattle.def_steps.specs.Attempts.{Refused, Ended, Attempt}
use Rattle.def_steps.specs.Chase.{chase}

-- The value stands in some tuple of D.
abbrev pub stands_in : List Fact → Datum → Bool
stands_in D d = list_any (λ t. list_any (same_datum d) t.values) D

-- The value is one of the first k nulls that attempt a of update u draws: (u, a, 1), (u, a, 2) and so on.
abbrev pub is_drawn : ℕ → ℕ → ℕ → Datum → Bool
is_drawn u a k (Number i) = false
is_drawn u a k (Text w) = false
is_drawn u a k (Unknown n) = (n.update == u) && ((n.attempt == a) && (nat_lt 0 n.place && not (nat_lt k n.place)))

-- The value is a constant, or stands in D, or is one of the first k nulls of the attempt.
abbrev pub comes_from : List Fact → ℕ → ℕ → ℕ → Datum → Bool
comes_from D u a k d = is_constant d || (stands_in D d || is_drawn u a k d)

-- The tuple that is written.
abbrev pub written : Change → Fact
written (Insert t) = t
written (Delete t) = t

-- The values of all tuples that an attempt over D has written are constants, or come from D or from the nulls that it has drawn.
abbrev pub NullsComeFrom : Type 0
NullsComeFrom =
    (scope : Operation → Scope) (ms : List Rule) (B : ℕ) (D : List Fact) (answers : List Choice) (u a : ℕ) (op : Operation) (P : Attempt) (log : List (Read (chase scope ms B))) → HaveNoNulls ms
    → Reached (chase scope ms B) D answers u a op P log → list_all (λ w. list_all (comes_from D u a P.nulls) (written w).values) P.own ≡ true

-- An attempt that is refused has written nothing.
abbrev pub RefusedWritesNothing : Type 0
RefusedWritesNothing =
    (scope : Operation → Scope) (ms : List Rule) (B : ℕ) (D : List Fact) (answers : List Choice) (u a : ℕ) (op : Operation) (P : Attempt) (log : List (Read (chase scope ms B))) (n : NullName)
    → Reached (chase scope ms B) D answers u a op P log → P.phase ≡ Ended (Refused n) → P.own ≡ []
