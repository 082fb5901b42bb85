-- Soundness of the caused scope: if the mappings in force held before an update, the violations that it caused are all
-- violations.
use Rattle.std.specs.Prelude.{◌≡◌, ℕ, List, [], map, Option, Some, None, slice_get}
use Rattle.std.specs.List.{AllByRecursion}
use Rattle.def_machine.specs.Trees.{result_of, log_of}
use Rattle.def_machine.specs.Updates.{Read}
use Rattle.def_machine.specs.Standings.{next_answer}
use Rattle.def_machine.specs.Runs.{Reached}
use Rattle.def_machine.specs.Serial.{whole}
use Rattle.def_chase.specs.Values.{Fact}
use Rattle.def_chase.specs.Repository.{apply}
use Rattle.def_chase.specs.Mappings.{Rule, AllHold}
use Rattle.def_chase.specs.Violations.{Scope, Every}
use Rattle.def_chase.specs.Queries.{Query, Reply, value}
use Rattle.def_chase.specs.Updates.{Operation, direction_of, Choice}
use Rattle.def_chase.specs.Laws.{HaveNoNulls}
use Rattle.def_steps.specs.Attempts.{Done, Look, Ended, Attempt}
use Rattle.def_steps.specs.Steps.{step, repair}
use Rattle.def_steps.specs.Chase.{chase, every, caused, whole_chase, caused_chase}
use Rattle.def_steps.specs.Serial.{at_rest}
use Rattle.def_steps.specs.Looking.{NoneLater, first_in_force}

-- The answers to the queries of an attempt's next step over D, within a scope.
abbrev pub answered_in : Scope → List Rule → List Fact → Attempt → Query → Reply
answered_in scope ms D P q = value ms q D P.own scope

-- A logged read as plain data: the query, the answer, and the number of own writes made before it.
abbrev pub plain_read : (scope : Operation → Scope) (ms : List Rule) (B : ℕ) → Read (chase scope ms B) → Query × Reply × ℕ
plain_read scope ms B r = (r.query, r.answer, r.own)

-- ---- the caused scope

-- The next step is the same in the full scope and in the caused one: every query that it asks has the same value in both, so it
-- logs the same reads and makes the same move.
pub record SameStep (ms : List Rule) (D : List Fact) (op : Operation) (P : Attempt) (c : Option Choice) : Type 0 where
  pub values : AllByRecursion (λ (r : Query × Reply). value ms r.0 D P.own (caused op) ≡ r.1) (log_of (answered_in Every ms D P) (step ms P c))
  pub logs : log_of (answered_in (caused op) ms D P) (step ms P c) ≡ log_of (answered_in Every ms D P) (step ms P c)
  pub moves : result_of (answered_in (caused op) ms D P) (step ms P c) ≡ result_of (answered_in Every ms D P) (step ms P c)

-- An attempt over D that reaches this state in scope `from` with this log also reaches it in scope `to`, with the same reads.
pub record AlsoReached (from to : Operation → Scope) (ms : List Rule) (B : ℕ) (D : List Fact) (answers : List Choice) (u a : ℕ) (op : Operation) (P : Attempt) (log : List (Read (chase from ms B))) : Type 0 where
  pub reads : List (Read (chase to ms B))
  pub same : map (plain_read to ms B) reads ≡ map (plain_read from ms B) log
  pub reached : Reached (chase to ms B) D answers u a op P reads

-- The scopes agree for an attempt over D: at every state that it reaches the next step is the same, so it reaches the same states
-- with the same reads, and taken whole it comes to the same rest.
pub record ScopesAgree (ms : List Rule) (B : ℕ) (D : List Fact) (answers : List Choice) (u a : ℕ) (op : Operation) : Type 0 where
  pub steps : (P : Attempt) (log : List (Read (caused_chase ms B))) → Reached (caused_chase ms B) D answers u a op P log → SameStep ms D op P (next_answer (caused_chase ms B) answers P)
  pub to_every : (P : Attempt) (log : List (Read (caused_chase ms B))) → Reached (caused_chase ms B) D answers u a op P log → AlsoReached caused every ms B D answers u a op P log
  pub to_caused : (P : Attempt) (log : List (Read (whole_chase ms B))) → Reached (whole_chase ms B) D answers u a op P log → AlsoReached every caused ms B D answers u a op P log
  pub rests :
      at_rest caused ms B (whole (caused_chase ms B) D record { number = u; attempt = a; operation = op; answers = answers })
      ≡ at_rest every ms B (whole (whole_chase ms B) D record { number = u; attempt = a; operation = op; answers = answers })

-- The scopes agree over each D in which the mappings in force hold, if no mapping has a null among its constants.
abbrev pub CausedIsEvery : Type 0
CausedIsEvery = (ms : List Rule) (B : ℕ) (D : List Fact) (answers : List Choice) (u a : ℕ) (op : Operation) → HaveNoNulls ms → AllHold ms D → ScopesAgree ms B D answers u a op

-- At a look, the first violation that the update caused is the first of all, and it is the one that the step repairs; if there is
-- none, the attempt is done.
pub record LooksAtFirst (ms : List Rule) (D : List Fact) (op : Operation) (P : Attempt) : Type 0 where
  pub one : first_in_force (caused op) P.own 0 ms (apply D P.own) ≡ first_in_force Every P.own 0 ms (apply D P.own)
  pub found : (n : ℕ) (image : List Fact) (m : Rule) → first_in_force Every P.own 0 ms (apply D P.own) ≡ Some (n, image) → slice_get ms n ≡ Some m
      → result_of (answered_in (caused op) ms D P) (step ms P None) ≡ result_of (answered_in (caused op) ms D P) (repair P (direction_of op) n m image)
  pub none : first_in_force Every P.own 0 ms (apply D P.own) ≡ None → result_of (answered_in (caused op) ms D P) (step ms P None) ≡ record { writes = []; phase = Ended Done; drawn = 0 }

-- This holds at every look of update u over such a D, if also no mapping whose `since` is above u is in force after the own
-- writes.
abbrev pub LooksAreFirst : Type 0
LooksAreFirst =
    (ms : List Rule) (B : ℕ) (D : List Fact) (answers : List Choice) (u a : ℕ) (op : Operation) (P : Attempt) (log : List (Read (caused_chase ms B))) → HaveNoNulls ms → AllHold ms D
    → Reached (caused_chase ms B) D answers u a op P log → P.phase ≡ Look → NoneLater u 0 ms (apply D P.own) → LooksAtFirst ms D op P
