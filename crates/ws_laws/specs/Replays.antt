-- The log is the truth: what stands is what a replay of the whole log gives.
use Rattle.std.specs.Prelude.{◌≡◌, ◌⊎◌, ℕ, true, false, not, List, [], ◌∷◌, ◌++◌, filter, Option, Some, None}
use Rattle.def_chase.specs.Violations.{Scope}
use Rattle.def_chase.specs.Updates.{Operation}
use Rattle.def_workspace.specs.Lines.{Update, Given, Declared, Line, Says, Answers, Goes, Undoes, Redoes, Forgets, Declares}
use Rattle.def_workspace.specs.Places.{among}
use Rattle.def_workspace.specs.Worlds.{Waiting, Ran, places_of, asks_it, waiting_at}
use Rattle.def_workspace.specs.States.{Live, State, table_of, run_in, done_by, counting, first_live, logged, with_undone, forgetting, taken_all, replayed}
use Rattle.def_workspace.specs.UndoLaws.{IsNew}
use Rattle.ws_laws.specs.Logs.{opened, state_of, Throughout, IsFit, AreDeclared}

-- ---- answers that are heard

-- The run, over what stands now, of an update that waits.
abbrev pub run_now : (Operation → Scope) → List Declared → Live → Waiting → Ran
run_now scope ds l v = run_in scope ds l v.update v.answers

-- The update asks the question of the answer, or else it draws only unknowns that it drew before.
abbrev pub Hears : (Operation → Scope) → List Declared → Live → Given → Option Waiting → Type 0
Hears scope ds l g None = Unit {0}
Hears scope ds l g (Some v) =
    (asks_it (run_now scope ds l v) g.asked ≡ true) ⊎ (places_of (run_now scope ds l v) ≡ table_of l.tables v.update.number)

-- If the line is an answer to an update that waits, the update hears it.
abbrev pub IsHeard : (Operation → Scope) → List Declared → Live → Line → Type 0
IsHeard scope ds l (Says u) = Unit {0}
IsHeard scope ds l (Answers n g) = Hears scope ds l g (waiting_at l.world n)
IsHeard scope ds l (Goes n) = Unit {0}
IsHeard scope ds l (Undoes ns) = Unit {0}
IsHeard scope ds l (Redoes ns) = Unit {0}
IsHeard scope ds l (Forgets ns) = Unit {0}
IsHeard scope ds l (Declares d) = Unit {0}

-- Each of the lines is heard when it is done.
abbrev pub AreHeard : (Operation → Scope) → List Declared → Live → List Line → Type 0
AreHeard scope ds l [] = Unit {0}
AreHeard scope ds l (x ∷ xs) = IsHeard scope ds l x × AreHeard scope ds (done_by scope ds l x) xs

-- Each answer in the replay of the state is heard.
abbrev pub ReplayHears : (Operation → Scope) → State → Type 0
ReplayHears scope S = AreHeard scope S.declared (first_live S) (counting S 0 S.lines)

-- The line is heard when it comes, and if it begins a replay, so are the answers in it.
abbrev pub HeardAt : (Operation → Scope) → State → Line → Type 0
HeardAt scope S (Says u) = Unit {0}
HeardAt scope S (Answers n g) = IsHeard scope S.declared S.live (Answers n g)
HeardAt scope S (Goes n) = Unit {0}
HeardAt scope S (Undoes ns) = ReplayHears scope (with_undone (logged S (Undoes ns)) (ns ++ S.undone))
HeardAt scope S (Redoes ns) = ReplayHears scope (with_undone (logged S (Redoes ns)) (filter (λ n. not (among ns n)) S.undone))
HeardAt scope S (Forgets ns) = ReplayHears scope (forgetting (logged S (Forgets ns)) ns)
HeardAt scope S (Declares d) = Unit {0}

-- ---- the laws

-- A line of a log of which a replay tells the truth: it is fit, and it is heard.
pub record IsTold (scope : Operation → Scope) (S : State) (x : Line) : Type 0 where
  pub fit : IsFit S x
  pub heard : HeardAt scope S x

-- What stands and waits after a log is what a replay of the whole log gives.
abbrev pub ReplaysKeepWhatStands : Type 0
ReplaysKeepWhatStands =
    (scope : Operation → Scope) (ds : List Declared) (n : ℕ) (l : Live) (xs : List Line) → AreDeclared ds l.world
    → Throughout scope (IsTold scope) (opened ds n l) xs → (replayed scope (state_of scope ds n l xs)).world ≡ (state_of scope ds n l xs).live.world

-- If an update is said under a new number and then undone, what stands and waits is what stood and waited before.
abbrev pub UndosTakeBack : Type 0
UndosTakeBack =
    (scope : Operation → Scope) (ds : List Declared) (n : ℕ) (l : Live) (xs : List Line) (u : Update) → AreDeclared ds l.world
    → Throughout scope (IsTold scope) (opened ds n l) xs → IsNew (state_of scope ds n l xs) u.number
    → (taken_all scope (state_of scope ds n l xs) (Says u ∷ Undoes (u.number ∷ []) ∷ [])).live.world ≡ (state_of scope ds n l xs).live.world

-- If updates that are not undone are undone and then done again, what stands and waits is what stood and waited before.
abbrev pub RedosBringBack : Type 0
RedosBringBack =
    (scope : Operation → Scope) (ds : List Declared) (n : ℕ) (l : Live) (xs : List Line) (ns : List ℕ) → AreDeclared ds l.world
    → Throughout scope (IsTold scope) (opened ds n l) xs
    → ((m : ℕ) → among ns m ≡ true → among (state_of scope ds n l xs).undone m ≡ false)
    → (taken_all scope (state_of scope ds n l xs) (Undoes ns ∷ Redoes ns ∷ [])).live.world ≡ (state_of scope ds n l xs).live.world
