-- The serial machine: it takes one update after the other whole, each over the repository that the one before left.
use Rattle.std.specs.Prelude.{ℕ, zero, suc, ◌++◌, if◌then◌else◌, List, [], ◌∷◌, Option, Some, None, is_some}
use Rattle.def_machine.specs.Machine.{Machine}
use Rattle.def_machine.specs.Updates.{Update, Submission, shown, is_over}
use Rattle.def_machine.specs.Standings.{Lack, lack}
use Rattle.def_machine.specs.Steps.{next_state}

-- How an update taken whole comes to rest: it ends, or it stops at a question that has no fitting answer.
pub data Rest (M : Machine) : Type 0 where
  Ends : M.State → Rest M
  Stops : M.State → Lack → Rest M

-- Goes on from the next state, unless an answer is lacking.
abbrev pub go_on : (M : Machine) → (M.State → Rest M) → M.State → M.State → Option Lack → Rest M
go_on M go P next None = go next
go_on M go P next (Some l) = Stops P l

-- At most k steps over D, up to the end or a lack.
abbrev pub run : (M : Machine) → M.Operation → M.Repository → List M.Choice → ℕ → M.State → Rest M
run M op D answers zero P = Ends P
run M op D answers (suc k) P =
    if is_some (M.outcome P) then Ends P
    else go_on M (run M op D answers k) P (next_state M op D answers P) (lack M answers P)

-- The turn of an update: its number, the number of its attempt, its operation, and its answers.
pub record Turn (M : Machine) : Type 0 where
  pub number : ℕ
  pub attempt : ℕ
  pub operation : M.Operation
  pub answers : List M.Choice

-- The update taken whole over D, within the budget.
abbrev pub whole : (M : Machine) → M.Repository → Turn M → Rest M
whole M D t = run M t.operation D t.answers M.budget (M.begin t.number t.attempt t.operation)

-- An update that has ended, with its last state.
pub record Finish (M : Machine) : Type 0 where
  pub number : ℕ
  pub state : M.State

-- The update that cannot go on, with the state that waits at the question, and its lack.
pub record Stop (M : Machine) : Type 0 where
  pub number : ℕ
  pub state : M.State
  pub lack : Lack

-- The result of the serial machine: the finishes up to the first stop, the stop if there is one, and the repository left, without
-- the writes of a stopped update.
pub record Result (M : Machine) : Type 0 where
  pub finishes : List (Finish M)
  pub stop : Option (Stop M)
  pub repository : M.Repository

-- The result with one more finish at its head.
abbrev pub with_finish : (M : Machine) → ℕ → M.State → Result M → Result M
with_finish M n P r = record { finishes = record { number = n; state = P } ∷ r.finishes; stop = r.stop; repository = r.repository }

-- The result after the turn of update n over D: the turn's finish and the result of the next turns, or the stop.
abbrev pub after_turn : (M : Machine) → (M.Repository → Result M) → ℕ → M.Repository → Rest M → Result M
after_turn M rest n D (Ends P) = with_finish M n P (rest (M.apply D (shown M P)))
after_turn M rest n D (Stops P l) = record { finishes = []; stop = Some (record { number = n; state = P; lack = l }); repository = D }

-- The serial machine: one turn after the other from D on, up to the first that stops.
abbrev pub serial : (M : Machine) → M.Repository → List (Turn M) → Result M
serial M D [] = record { finishes = []; stop = None; repository = D }
serial M D (t ∷ ts) = after_turn M (λ E. serial M E ts) t.number D (whole M D t)

-- ---- what a history's updates are to the serial machine; the first of the list is update n

-- The turns of the committed updates that are not withdrawn, with their delivered answers.
abbrev pub committed_turns : (M : Machine) → ℕ → List (Update M) → List (Turn M)
committed_turns M n [] = []
committed_turns M n (u ∷ us) =
    if is_over M u
    then (if u.withdrawn then committed_turns M (suc n) us
    else record { number = n; attempt = u.attempt; operation = u.operation; answers = u.answers } ∷ committed_turns M (suc n) us)
    else []

-- The finishes of the committed updates that are not withdrawn.
abbrev pub committed_finishes : (M : Machine) → ℕ → List (Update M) → List (Finish M)
committed_finishes M n [] = []
committed_finishes M n (u ∷ us) =
    if is_over M u
    then (if u.withdrawn then committed_finishes M (suc n) us else record { number = n; state = u.state } ∷ committed_finishes M (suc n) us)
    else []

-- The turns of all updates that are not withdrawn, with their delivered answers and then those in the inbox.
abbrev pub all_turns : (M : Machine) → ℕ → List (Update M) → List (Turn M)
all_turns M n [] = []
all_turns M n (u ∷ us) =
    if u.withdrawn then all_turns M (suc n) us
    else record { number = n; attempt = u.attempt; operation = u.operation; answers = u.answers ++ u.inbox } ∷ all_turns M (suc n) us

-- The stop of update n in this state, if an answer is lacking.
abbrev pub stop_at : (M : Machine) → ℕ → M.State → Option Lack → Option (Stop M)
stop_at M n P None = None
stop_at M n P (Some l) = Some (record { number = n; state = P; lack = l })

-- The stop of the lowest update that is not committed, if it lacks an answer.
abbrev pub first_stop : (M : Machine) → ℕ → List (Update M) → Option (Stop M)
first_stop M n [] = None
first_stop M n (u ∷ us) = if is_over M u then first_stop M (suc n) us else stop_at M n u.state (lack M u.answers u.state)

-- The turns of the updates as they were handed in, each by attempt 0.
abbrev pub session_turns : (M : Machine) → ℕ → List (Submission M) → List (Turn M)
session_turns M n [] = []
session_turns M n (x ∷ xs) = record { number = n; attempt = 0; operation = x.operation; answers = x.answers } ∷ session_turns M (suc n) xs
