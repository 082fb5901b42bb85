-- What passes a closed test in the repository below passes it in all that an attempt writes.
use Rattle.std.specs.Prelude.{nat_lt, is_some}
use Rattle.std.proofs.Common.{◌≡◌, ℕ, suc, ◌+◌, refl, subst, List, Bool, true, ◌||◌, arith}
use Rattle.std.specs.List.{list_all}
use Rattle.def_machine.specs.Trees.{result_of}
use Rattle.def_machine.specs.Updates.{Read}
use Rattle.def_machine.specs.Standings.{next_answer}
use Rattle.def_machine.specs.Runs.{Reached, start, more}
use Rattle.def_machine.proofs.Basics.{if_both}
use Rattle.def_chase.specs.Values.{Datum, Fact}
use Rattle.def_chase.specs.Repository.{Change, Insert, Delete, apply}
use Rattle.def_chase.specs.Mappings.{Rule}
use Rattle.def_chase.specs.Violations.{Scope}
use Rattle.def_chase.specs.Queries.{value}
use Rattle.def_chase.specs.Updates.{Operation, Choice}
use Rattle.def_steps.specs.Attempts.{Spent, Ended, Attempt, outcome_in}
use Rattle.def_steps.specs.Steps.{Move, step, moved}
use Rattle.def_steps.specs.Chase.{chase}
use Rattle.def_steps.proofs.Reaching.{fitted}
use Rattle.def_steps.proofs.Passing.{all_join, all_weaker, insert_passes, all_applied}
use Rattle.def_steps.proofs.Made.{Closed, write_passes, PhasePasses, step_passes}

module _ (scope : Operation → Scope) (ms : List Rule) (B : ℕ) (D : List Fact) (answers : List Choice) (u a : ℕ) (op : Operation) (p : ℕ → Datum → Bool) (q : ℕ → Fact → Bool) (c : Closed ms op u a p q) (base : list_all (q 0) D ≡ true) where
  -- what an attempt has written, and holds, passes
  pub record Passing (P : Attempt) : Type 0 where
    pub number : P.number ≡ u
    pub attempt : P.attempt ≡ a
    pub operation : op ≡ P.operation
    pub writes : list_all (write_passes p q P.nulls) P.own ≡ true
    pub phase : PhasePasses p q P.nulls P.phase

  write_later : (k j : ℕ) (w : Change) → write_passes p q k w ≡ true → write_passes p q (k + j) w ≡ true
  write_later k j (Insert t) h = c.tuples_later k j t h
  write_later k j (Delete t) h = all_weaker (p k) (p (k + j)) (λ d e. c.later k j d e) t.values h

  inserted : (k : ℕ) (w : Change) → write_passes p q k w ≡ true → insert_passes (q k) w ≡ true
  inserted k (Insert t) h = h
  inserted k (Delete t) h = refl

  base_later : (k : ℕ) → list_all (q k) D ≡ true
  base_later k = let e : 0 + k ≡ k = omega arith in subst (λ j. list_all (q j) D ≡ true) e (all_weaker (q 0) (q (0 + k)) (λ t h. c.tuples_later 0 k t h) D base)

  -- so does the repository with the own writes
  pub view_passes : (P : Attempt) → Passing P → list_all (q P.nulls) (apply D P.own) ≡ true
  view_passes P s = all_applied (q P.nulls) D P.own (base_later P.nulls) (all_weaker (write_passes p q P.nulls) (insert_passes (q P.nulls)) (λ w h. inserted P.nulls w h) P.own s.writes)

  moved_passes : (P : Attempt) (m : Move) → Passing P → (list_all (write_passes p q (P.nulls + m.drawn)) m.writes ≡ true) × PhasePasses p q (P.nulls + m.drawn) m.phase → Passing (moved B P m)
  moved_passes P m s h =
      record {
        number = s.number;
        attempt = s.attempt;
        operation = s.operation;
        writes = all_join (write_passes p q (P.nulls + m.drawn)) P.own m.writes (all_weaker (write_passes p q P.nulls) (write_passes p q (P.nulls + m.drawn)) (λ w e. write_later P.nulls m.drawn w e) P.own s.writes) h.0;
        phase = if_both (PhasePasses p q (P.nulls + m.drawn)) (is_some (outcome_in m.phase) || nat_lt (suc P.steps) B) m.phase (Ended Spent) (λ e. h.1) (λ e. tt);
      }

  pub reached_passing : {P : Attempt} {log : List (Read (chase scope ms B))} → Reached (chase scope ms B) D answers u a op P log → Passing P
  reached_passing start = record { number = refl; attempt = refl; operation = refl; writes = refl; phase = tt }
  reached_passing (more {P} r going able) =
      let s : Passing P = reached_passing r in
      moved_passes P (result_of (λ x. value ms x D P.own (scope op)) (step ms P (next_answer (chase scope ms B) answers P))) s
      (step_passes ms op u a p q c (scope op) D P.own P.nulls (view_passes P s) P (next_answer (chase scope ms B) answers P) P.phase s.number s.attempt refl s.operation s.phase (fitted scope ms B answers P P.phase refl able going))
