-- The state that a log stands for, and the effect of each line.
use Rattle.std.specs.Prelude.{ℕ, suc, ◌==◌, Bool, true, false, not, ◌&&◌, if◌then◌else◌, List, [], ◌∷◌, ◌++◌, map, filter, take, Option, Some, None, find, unwrap_or}
use Rattle.std.specs.Option.{option_map}
use Rattle.std.specs.Cmp.Lexicographic.{pointwise}
use Rattle.def_chase.specs.Violations.{Scope}
use Rattle.def_chase.specs.Updates.{Operation}
use Rattle.def_workspace.specs.Lines.{Update, Given, Declared, Line, Says, Answers, Goes, Undoes, Redoes, Forgets, Declares}
use Rattle.def_workspace.specs.Places.{Places, among, greater}
use Rattle.def_workspace.specs.Worlds.{World, Waiting, Ran, places_of, taken_of, run_update, settled, waiting_at, asks_it, with_waiting}

-- ---- tables of names

-- An update's number with its table.
pub record Table : Type 0 where
  pub number : ℕ
  pub places : Places

abbrev pub table_of : List Table → ℕ → Places
table_of ts n = unwrap_or (option_map (λ (t : Table). t.places) (find (λ (t : Table). t.number == n) ts)) []

abbrev pub with_table : List Table → ℕ → Places → List Table
with_table [] n ps = record { number = n; places = ps } ∷ []
with_table (t ∷ ts) n ps = if t.number == n then record { number = n; places = ps } ∷ ts else t ∷ with_table ts n ps

-- ---- lines that run

-- The world, and the tables of all updates.
pub record Live : Type 0 where
  pub world : World
  pub tables : List Table

-- The state after a run of the update with these answers.
abbrev pub after_run : Live → Update → List Given → Ran → Live
after_run l u gs r = record { world = settled l.world u gs r; tables = with_table l.tables u.number (places_of r) }

abbrev pub run_in : (Operation → Scope) → List Declared → Live → Update → List Given → Ran
run_in scope ds l u gs = run_update scope ds l.world (table_of l.tables u.number) u gs

-- An update is said: it runs without answers.
abbrev pub said : (Operation → Scope) → List Declared → Live → Update → Live
said scope ds l u = after_run l u [] (run_in scope ds l u [])

-- An update that waits runs again, with the answers that the first run took, and then this one, if there is one. An answer is
-- taken if the first run asks its question; that run writes no names.
abbrev pub retried : (Operation → Scope) → List Declared → Live → Update → List Given → Live
retried scope ds l u gs = after_run l u gs (run_in scope ds l u gs)

abbrev pub answered_by : (Operation → Scope) → List Declared → Live → Waiting → Given → Ran → Live
answered_by scope ds l v g r =
    if asks_it r g.asked then retried scope ds l v.update (take (taken_of r) v.answers ++ g ∷ []) else l

abbrev pub answered_at : (Operation → Scope) → List Declared → Live → Given → Option Waiting → Live
answered_at scope ds l g None = l
answered_at scope ds l g (Some v) = answered_by scope ds l v g (run_in scope ds l v.update v.answers)

abbrev pub gone_at : (Operation → Scope) → List Declared → Live → Option Waiting → Live
gone_at scope ds l None = l
gone_at scope ds l (Some v) = retried scope ds l v.update (take (taken_of (run_in scope ds l v.update v.answers)) v.answers)

-- The effect of a line that counts on the world and the tables.
abbrev pub done_by : (Operation → Scope) → List Declared → Live → Line → Live
done_by scope ds l (Says u) = said scope ds l u
done_by scope ds l (Answers n g) = answered_at scope ds l g (waiting_at l.world n)
done_by scope ds l (Goes n) = gone_at scope ds l (waiting_at l.world n)
done_by scope ds l (Undoes ns) = l
done_by scope ds l (Redoes ns) = l
done_by scope ds l (Forgets ns) = l
done_by scope ds l (Declares d) = l

-- ---- the state

-- The state of a log. It has the world at the last fold, the lines since then, and the updates that are undone. Then come the
-- places of the answers that were taken back, and the updates that lost the answers which they had at the fold. Last come the
-- declared mappings, the greatest number of an update, and the world and tables now.
pub record State : Type 0 where
  pub base : World
  pub lines : List Line
  pub undone : List ℕ
  pub forgotten : List ℕ
  pub cleared : List ℕ
  pub declared : List Declared
  pub last : ℕ
  pub live : Live

-- The line at place k counts.
abbrev pub counts : State → ℕ → Line → Bool
counts S k (Says u) = not (among S.undone u.number)
counts S k (Answers n g) = not (among S.undone n) && not (among S.forgotten k)
counts S k (Goes n) = not (among S.undone n) && not (among S.forgotten k)
counts S k (Undoes ns) = true
counts S k (Redoes ns) = true
counts S k (Forgets ns) = true
counts S k (Declares d) = true

-- The updates that waited at the last fold and are not undone, with their answers unless these were taken back.
abbrev pub waited : State → List Waiting → List Waiting
waited S vs =
    map (λ (v : Waiting). record { update = v.update; answers = if among S.cleared v.update.number then [] else v.answers })
    (filter (λ (v : Waiting). not (among S.undone v.update.number)) vs)

abbrev pub first_live : State → Live
first_live S = record { world = with_waiting S.base (waited S S.base.waiting); tables = S.live.tables }

-- The lines that count, in their order; the first of them stands at place k.
abbrev pub counting : State → ℕ → List Line → List Line
counting S k [] = []
counting S k (l ∷ ls) = if counts S k l then l ∷ counting S (suc k) ls else counting S (suc k) ls

abbrev pub done_by_all : (Operation → Scope) → List Declared → Live → List Line → Live
done_by_all scope ds v [] = v
done_by_all scope ds v (l ∷ ls) = done_by_all scope ds (done_by scope ds v l) ls

-- The replay: all lines that count, from the world at the last fold on.
abbrev pub replayed : (Operation → Scope) → State → Live
replayed scope S = done_by_all scope S.declared (first_live S) (counting S 0 S.lines)

-- ---- what a line does

abbrev pub with_live : State → Live → State
with_live S l =
    record { base = S.base; lines = S.lines; undone = S.undone; forgotten = S.forgotten; cleared = S.cleared; declared = S.declared; last = S.last; live = l }

abbrev pub replay : (Operation → Scope) → State → State
replay scope S = with_live S (replayed scope S)

-- The state with the line added to the log.
abbrev pub logged : State → Line → State
logged S l =
    record { base = S.base; lines = S.lines ++ l ∷ []; undone = S.undone; forgotten = S.forgotten; cleared = S.cleared; declared = S.declared; last = S.last; live = S.live }

abbrev pub numbered : State → ℕ → State
numbered S n =
    record { base = S.base; lines = S.lines; undone = S.undone; forgotten = S.forgotten; cleared = S.cleared; declared = S.declared; last = greater S.last n; live = S.live }

abbrev pub with_undone : State → List ℕ → State
with_undone S ns =
    record { base = S.base; lines = S.lines; undone = ns; forgotten = S.forgotten; cleared = S.cleared; declared = S.declared; last = S.last; live = S.live }

-- The line is an answer to one of these updates, or a further try of one.
abbrev pub is_answer_to : List ℕ → Line → Bool
is_answer_to ns (Answers n g) = among ns n
is_answer_to ns (Goes n) = among ns n
is_answer_to ns (Says u) = false
is_answer_to ns (Undoes ms) = false
is_answer_to ns (Redoes ms) = false
is_answer_to ns (Forgets ms) = false
is_answer_to ns (Declares d) = false

abbrev pub answers_to : List ℕ → ℕ → List Line → List ℕ
answers_to ns k [] = []
answers_to ns k (l ∷ ls) = if is_answer_to ns l then k ∷ answers_to ns (suc k) ls else answers_to ns (suc k) ls

abbrev pub forgetting : State → List ℕ → State
forgetting S ns =
    record {
      base = S.base;
      lines = S.lines;
      undone = S.undone;
      forgotten = answers_to ns 0 S.lines ++ S.forgotten;
      cleared = ns ++ S.cleared;
      declared = S.declared;
      last = S.last;
      live = S.live;
    }

-- The mappings after a declaration, which replaces a mapping with the same name.
abbrev pub declaring : List Declared → Declared → List Declared
declaring [] d = d ∷ []
declaring (e ∷ es) d = if pointwise (λ a b. a == b) e.name d.name then d ∷ es else e ∷ declaring es d

abbrev pub with_declared : State → List Declared → State
with_declared S ds =
    record { base = S.base; lines = S.lines; undone = S.undone; forgotten = S.forgotten; cleared = S.cleared; declared = ds; last = S.last; live = S.live }

-- The effect of a line on the state.
abbrev pub taken : (Operation → Scope) → State → Line → State
taken scope S (Says u) = with_live (numbered (logged S (Says u)) u.number) (done_by scope S.declared S.live (Says u))
taken scope S (Answers n g) = with_live (logged S (Answers n g)) (done_by scope S.declared S.live (Answers n g))
taken scope S (Goes n) = with_live (logged S (Goes n)) (done_by scope S.declared S.live (Goes n))
taken scope S (Undoes ns) = replay scope (with_undone (logged S (Undoes ns)) (ns ++ S.undone))
taken scope S (Redoes ns) = replay scope (with_undone (logged S (Redoes ns)) (filter (λ n. not (among ns n)) S.undone))
taken scope S (Forgets ns) = replay scope (forgetting (logged S (Forgets ns)) ns)
taken scope S (Declares d) = with_declared (logged S (Declares d)) (declaring S.declared d)

-- The effect of a log, line by line.
abbrev pub taken_all : (Operation → Scope) → State → List Line → State
taken_all scope S [] = S
taken_all scope S (l ∷ ls) = taken_all scope (taken scope S l) ls
