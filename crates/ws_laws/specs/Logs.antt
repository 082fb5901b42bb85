-- Logs from an opening or a fold on, and what each line of a log may be.
use Rattle.std.specs.Prelude.{◌≡◌, ◌==◌, ℕ, Bool, true, false, is_some, List, [], ◌∷◌, length, slice_get}
use Rattle.std.specs.List.{list_any, list_all}
use Rattle.std.specs.Cmp.Lexicographic.{pointwise}
use Rattle.def_chase.specs.Violations.{Scope}
use Rattle.def_chase.specs.Updates.{Operation}
use Rattle.def_workspace.specs.Lines.{Deed, Inserts, Deletes, Fills, Swaps, Fixes, Forces, Drops, Declared, Line, Says, Answers, Goes, Undoes, Redoes, Forgets, Declares}
use Rattle.def_workspace.specs.Worlds.{World, Waiting}
use Rattle.def_workspace.specs.States.{Live, State, counts, taken, taken_all}

-- The state of a log that has no lines yet: the mappings that are declared, the greatest number of an update, and what stands.
abbrev pub opened : List Declared → ℕ → Live → State
opened ds n l = record { base = l.world; lines = []; undone = []; forgotten = []; cleared = []; declared = ds; last = n; live = l }

-- The state after a log from an opening on.
abbrev pub state_of : (Operation → Scope) → List Declared → ℕ → Live → List Line → State
state_of scope ds n l xs = taken_all scope (opened ds n l) xs

-- Each line of the log is so at the state to which it comes.
abbrev pub Throughout : (Operation → Scope) → (State → Line → Type 0) → State → List Line → Type 0
Throughout scope P S [] = Unit {0}
Throughout scope P S (x ∷ xs) = P S x × Throughout scope P (taken scope S x) xs

-- ---- the mappings of a log

-- The mapping of this number is declared.
abbrev pub is_declared : List Declared → ℕ → Bool
is_declared ds m = is_some (slice_get ds m)

-- The mapping that the deed names, if it names one, is declared.
abbrev pub is_known : List Declared → Deed → Bool
is_known ds (Inserts ts) = true
is_known ds (Deletes ts) = true
is_known ds (Fills u v) = true
is_known ds (Swaps t u) = true
is_known ds (Fixes m vs) = is_declared ds m
is_known ds (Forces m) = is_declared ds m
is_known ds (Drops m) = is_declared ds m

-- A mapping of this name is declared.
abbrev pub has_name : List Declared → List ℕ → Bool
has_name ds n = list_any (λ (e : Declared). pointwise (λ a b. a == b) e.name n) ds

-- An update names no mapping before its declaration, and no name is declared again.
abbrev pub IsSound : State → Line → Type 0
IsSound S (Says u) = is_known S.declared u.deed ≡ true
IsSound S (Answers n g) = Unit {0}
IsSound S (Goes n) = Unit {0}
IsSound S (Undoes ns) = Unit {0}
IsSound S (Redoes ns) = Unit {0}
IsSound S (Forgets ns) = Unit {0}
IsSound S (Declares d) = has_name S.declared d.name ≡ false

-- A line as a workspace takes it: it is sound, and it counts when it comes, so it is for no update that is undone.
pub record IsFit (S : State) (x : Line) : Type 0 where
  pub sound : IsSound S x
  pub counted : counts S (length S.lines) x ≡ true

-- The mappings in force are declared, and so are those that the updates which wait name.
pub record AreDeclared (ds : List Declared) (w : World) : Type 0 where
  pub in_force : list_all (is_declared ds) w.in_force ≡ true
  pub waiting : list_all (λ (v : Waiting). is_known ds v.update.deed) w.waiting ≡ true
