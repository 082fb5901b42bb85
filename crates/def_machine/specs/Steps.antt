-- One step of an attempt over the repository below it.
use Rattle.std.specs.Prelude.{List, [], ◌++◌, map, length, if◌then◌else◌}
use Rattle.def_machine.specs.Trees.{Tree, result_of, log_of}
use Rattle.def_machine.specs.Machine.{Machine}
use Rattle.def_machine.specs.Updates.{Read, Update, hides}
use Rattle.def_machine.specs.Standings.{next_answer}

-- The answers to the queries of an attempt over D.
abbrev pub val : (M : Machine) → M.Operation → M.Repository → M.State → M.Query → M.Reply
val M op D P q = M.value op q D (M.own P)

-- The queries and the move of the next step, with the next answer if the state waits for one.
abbrev pub next_step : (M : Machine) → List M.Choice → M.State → Tree M.Query M.Reply M.Move
next_step M answers P = M.step P (next_answer M answers P)

-- The move of the next step over D.
abbrev pub next_move : (M : Machine) → M.Operation → M.Repository → List M.Choice → M.State → M.Move
next_move M op D answers P = result_of (val M op D P) (next_step M answers P)

-- The state after the step.
abbrev pub next_state : (M : Machine) → M.Operation → M.Repository → List M.Choice → M.State → M.State
next_state M op D answers P = M.moved P (next_move M op D answers P)

-- The reads of the step, each with the number of writes made when the step began.
abbrev pub step_log : (M : Machine) → M.Operation → M.Repository → List M.Choice → M.State → List (Read M)
step_log M op D answers P =
    map (λ r. record { query = r.0; answer = r.1; own = length (M.own P) }) (log_of (val M op D P) (next_step M answers P))

-- The update after its step over D.
abbrev pub stepped : (M : Machine) → M.Repository → Update M → Update M
stepped M D u =
    record {
      operation = u.operation;
      attempt = u.attempt;
      state = next_state M u.operation D u.answers u.state;
      log = u.log ++ step_log M u.operation D u.answers u.state;
      withdrawn = u.withdrawn;
      answers = u.answers;
      inbox = u.inbox;
    }

-- The writes that the step shows: none if the attempt ends spent or refused.
abbrev pub step_writes : (M : Machine) → M.Repository → Update M → List M.Write
step_writes M D u =
    if hides (M.outcome (next_state M u.operation D u.answers u.state)) then [] else M.writes (next_move M u.operation D u.answers u.state)
