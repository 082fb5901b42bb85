-- Every state that an attempt reaches keeps what its steps keep.
use Rattle.std.proofs.Common.{◌≡◌, ℕ, suc, ap, refl, sym, ◌∙◌, subst, List, ◌++◌, Bool, true, false, ◌||◌, Option, Some, None}
use Rattle.std.specs.Prelude.{if◌then◌else◌, nat_lt, slice_get, is_some}
use Rattle.std.specs.Option.{option_map}
use Rattle.def_machine.specs.Trees.{result_of}
use Rattle.def_machine.specs.Updates.{Read}
use Rattle.def_machine.specs.Standings.{Lack, Missing, Misfit, lack, lack_for, unless_fits, next_answer}
use Rattle.def_machine.specs.Runs.{Reached, start, more}
use Rattle.def_machine.proofs.Basics.{if_both}
use Rattle.def_chase.specs.Values.{Fact}
use Rattle.def_chase.specs.Repository.{apply}
use Rattle.def_chase.specs.Mappings.{Rule}
use Rattle.def_chase.specs.Violations.{Scope}
use Rattle.def_chase.specs.Queries.{value}
use Rattle.def_chase.specs.Updates.{Operation, direction_of, Choice}
use Rattle.def_chase.specs.Caused.{Kept, Keeping}
use Rattle.def_chase.proofs.Bools.{none_some}
use Rattle.def_chase.proofs.Rewritings.{kept_first, kept_on}
use Rattle.def_steps.specs.Attempts.{Spent, Question, Phase, Start, Look, Generate, Asked, Ended, Attempt, question_in, outcome_in}
use Rattle.def_steps.specs.Questions.{fits}
use Rattle.def_steps.specs.Steps.{Move, step, moved}
use Rattle.def_steps.specs.Chase.{ending, chase}
use Rattle.def_steps.proofs.Steady.{SoundPhase, Fitted, apply_join, step_ok}

-- The next answer as a step is given it, by the phase.
abbrev pub next_for : Phase → List Choice → ℕ → Option Choice
next_for p answers k = if is_some (question_in p) then slice_get answers k else None

abbrev unless : Bool → Option Lack
unless b = if b then None else Some Misfit

-- A state that does not lack an answer has one that fits.
pub fitted : (scope : Operation → Scope) (ms : List Rule) (B : ℕ) (answers : List Choice) (P : Attempt) (p : Phase) → P.phase ≡ p
    → lack (chase scope ms B) answers P ≡ None → (chase scope ms B).outcome P ≡ None → Fitted p (next_for p answers P.taken)
fitted scope ms B answers P p e able going = by p (ap (λ q. lack_for (chase scope ms B) answers P (question_in q)) (sym e) ∙ able) (ap (λ q. option_map ending (outcome_in q)) (sym e) ∙ going)
  where
    test : (q : Question) (c : Choice) (b : Bool) → fits q c ≡ b → unless b ≡ None → fits q c ≡ true
    test q c true h k = h
    test q c false h k = absurd (none_some Misfit (sym k))

    at : (q : Question) (o : Option Choice) → unless_fits (chase scope ms B) q o ≡ None → Fitted (Asked q) o
    at q None h = absurd (none_some Missing (sym h))
    at q (Some c) h = test q c (fits q c) refl h

    by : (p : Phase) → lack_for (chase scope ms B) answers P (question_in p) ≡ None → option_map ending (outcome_in p) ≡ None
        → Fitted p (next_for p answers P.taken)
    by Start h k = tt
    by Look h k = tt
    by (Generate r) h k = tt
    by (Asked q) h k = at q (slice_get answers P.taken) h
    by (Ended o) h k = absurd (none_some _ (sym k))

-- What is kept of an attempt of update u at the operation over D.
pub record Steady (u : ℕ) (ms : List Rule) (scope : Operation → Scope) (D : List Fact) (op : Operation) (P : Attempt) : Type 0 where
  pub number : P.number ≡ u
  pub operation : P.operation ≡ op
  pub kept : Kept (direction_of P.operation) D P.own
  pub sound : SoundPhase u ms (scope op) (direction_of P.operation) (apply D P.own) P.phase

module _ (scope : Operation → Scope) (ms : List Rule) (B : ℕ) (D : List Fact) (answers : List Choice) (u a : ℕ) (op : Operation) where
  moved_steady : (P : Attempt) (m : Move) → Steady u ms scope D op P → Keeping (direction_of P.operation) (apply D P.own) m.writes × SoundPhase u ms (scope op) (direction_of P.operation) (apply (apply D P.own) m.writes) m.phase
      → Steady u ms scope D op (moved B P m)
  moved_steady P m s f =
      record {
        number = s.number;
        operation = s.operation;
        kept = kept_on (direction_of P.operation) D P.own m.writes s.kept f.0;
        sound =
            if_both (SoundPhase u ms (scope op) (direction_of P.operation) (apply D (P.own ++ m.writes))) (is_some (outcome_in m.phase) || nat_lt (suc P.steps) B) m.phase (Ended Spent)
            (λ e. subst (λ (F : List Fact). SoundPhase u ms (scope op) (direction_of P.operation) F m.phase) (sym (apply_join D P.own m.writes)) f.1) (λ e. tt);
      }

  -- The next step of a steady attempt keeps.
  pub next_ok : (P : Attempt) (c : Option Choice) → Steady u ms scope D op P → Fitted P.phase c
      → Keeping (direction_of P.operation) (apply D P.own) (result_of (λ q. value ms q D P.own (scope op)) (step ms P c)).writes
      × SoundPhase u ms (scope op) (direction_of P.operation) (apply (apply D P.own) (result_of (λ q. value ms q D P.own (scope op)) (step ms P c)).writes) (result_of (λ q. value ms q D P.own (scope op)) (step ms P c)).phase
  next_ok P c s f = step_ok u ms (scope op) D P.own P c P.phase s.number s.sound f

  pub reached_steady : {P : Attempt} {log : List (Read (chase scope ms B))} → Reached (chase scope ms B) D answers u a op P log → Steady u ms scope D op P
  reached_steady start = record { number = refl; operation = refl; kept = kept_first (direction_of op) D; sound = tt }
  reached_steady (more {P} r going able) =
      let s : Steady u ms scope D op P = reached_steady r in
      moved_steady P (result_of (λ q. value ms q D P.own (scope op)) (step ms P (next_answer (chase scope ms B) answers P))) s
      (next_ok P (next_answer (chase scope ms B) answers P) s (fitted scope ms B answers P P.phase refl able going))
