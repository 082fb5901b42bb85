-- A fold, and what comes after it.
use Rattle.std.specs.Prelude.{◌≡◌, ℕ, List, [], ◌∷◌}
use Rattle.def_chase.specs.Violations.{Scope}
use Rattle.def_chase.specs.Updates.{Operation}
use Rattle.def_workspace.specs.Lines.{Declared, Line, Says, Answers, Goes, Undoes, Redoes, Forgets, Declares}
use Rattle.def_workspace.specs.States.{Live, State, taken_all}
use Rattle.def_workspace.specs.UndoLaws.{IsNew}
use Rattle.ws_laws.specs.Logs.{opened, state_of, Throughout, IsFit, AreDeclared}
use Rattle.ws_laws.specs.Giving.{table_at}
use Rattle.ws_laws.specs.Replays.{IsTold}

-- The state after a fold: what stands is where the log begins, and it has no lines. So what came before can be undone no more, and
-- answers given before can be taken back no more. This fold keeps each answer of an update that waits, and each place of an
-- unknown. It does not speak of a fold that leaves out what was said to mappings that are gone.
abbrev pub folded : State → State
folded S = opened S.declared S.last S.live

-- ---- lines that go on

-- The line undoes nothing, does nothing again, and takes no answer back.
abbrev pub GoesOn : State → Line → Type 0
GoesOn S (Says u) = Unit {0}
GoesOn S (Answers n g) = Unit {0}
GoesOn S (Goes n) = Unit {0}
GoesOn S (Undoes ns) = ⊥
GoesOn S (Redoes ns) = ⊥
GoesOn S (Forgets ns) = ⊥
GoesOn S (Declares d) = Unit {0}

-- The two states show the same: what stands and waits, the tables of names, the mappings declared, and the number of the last update.
pub record ShowAlike (S R : State) : Type 0 where
  pub live : S.live ≡ R.live
  pub declared : S.declared ≡ R.declared
  pub last : S.last ≡ R.last

-- A fold is not seen: lines that go on have the same effect after it as without it.
abbrev pub FoldsAreNotSeen : Type 0
FoldsAreNotSeen =
    (scope : Operation → Scope) (S : State) (xs : List Line) → Throughout scope GoesOn S xs → ShowAlike (taken_all scope S xs) (taken_all scope (folded S) xs)

-- ---- undos of what came after the fold

-- The update is new at a fold of the state: no line is of it, and it waited neither at the last fold nor now.
pub record IsLater (S : State) (n : ℕ) : Type 0 where
  pub before : IsNew S n
  pub now : IsNew (folded S) n

-- Each of the updates is new at a fold of S.
abbrev pub AreLater : State → List ℕ → Type 0
AreLater S [] = Unit {0}
AreLater S (n ∷ ns) = IsLater S n × AreLater S ns

-- What the line undoes, does again or takes back is of updates that are new at the fold of S.
abbrev pub IsOfLater : State → State → Line → Type 0
IsOfLater S R (Says u) = Unit {0}
IsOfLater S R (Answers n g) = Unit {0}
IsOfLater S R (Goes n) = Unit {0}
IsOfLater S R (Undoes ns) = AreLater S ns
IsOfLater S R (Redoes ns) = AreLater S ns
IsOfLater S R (Forgets ns) = AreLater S ns
IsOfLater S R (Declares d) = Unit {0}

-- The two states look alike: what stands and waits, the table of each update, the mappings declared, and the number of the last
-- update are the same.
pub record LookAlike (S R : State) : Type 0 where
  pub world : S.live.world ≡ R.live.world
  pub tables : (n : ℕ) → table_at S n ≡ table_at R n
  pub declared : S.declared ≡ R.declared
  pub last : S.last ≡ R.last

-- No undo, redo or taking back of what was said after a fold sees the fold.
abbrev pub UndosSeeNoFold : Type 0
UndosSeeNoFold =
    (scope : Operation → Scope) (ds : List Declared) (n : ℕ) (l : Live) (xs ys : List Line) → AreDeclared ds l.world
    → Throughout scope (IsTold scope) (opened ds n l) xs → Throughout scope IsFit (state_of scope ds n l xs) ys
    → Throughout scope (IsOfLater (state_of scope ds n l xs)) (state_of scope ds n l xs) ys
    → LookAlike (taken_all scope (state_of scope ds n l xs) ys) (taken_all scope (folded (state_of scope ds n l xs)) ys)
