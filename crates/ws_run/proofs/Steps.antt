-- What comes of an op, step by step.
use Rattle.std.proofs.Common.{◌≡◌, ◌∙◌, ap, refl, sym, ℕ, zero, suc, ◌+◌, ◌-◌, ◌<◌, ◌≤◌, nat_lt, Bool, true, false, ◌||◌, if◌then◌else◌, List, [], ◌∷◌, ◌++◌, map, drop, Option, Some, None, is_some, ltb-true, arith}
use Rattle.std.specs.List.{slice_get}
use Rattle.chase_repair.specs.Bound.{Bound, bound_in}
use Rattle.chase_update.specs.Starting.{is_start}
use Rattle.def_machine.specs.Trees.{result_of}
use Rattle.def_chase.specs.Values.{Datum, Fact}
use Rattle.def_chase.specs.Mappings.{Rule}
use Rattle.def_chase.specs.Queries.{Query, Reply, value}
use Rattle.def_chase.specs.Updates.{Operation, Adds, Removes, Replaces, Enacts, Choice, Expand, Unify, Drop}
use Rattle.def_provenance.specs.Puts.{Way, Inserts, Generates, Rewrites, way_in, way_of_start, way_of_question}
use Rattle.def_steps.specs.Attempts.{Outcome, Done, Spent, Refused, Repair, Question, Positive, Negative, Phase, Start, Look, Generate, Asked, Ended, Attempt, begun, outcome_in, question_in}
use Rattle.def_steps.specs.Chase.{caused}
use Rattle.def_steps.specs.Steps.{Move, step, start, moved}
use Rattle.def_workspace.specs.Lines.{Given}
use Rattle.def_workspace.specs.Runs.{Active, Setting, Thread, Rested, Rests, Halts, Reason, TooLong, rules_of, repair_at, drawn, drawn_at, move_by, next, moved_by, moved_first, answered, rest_of, asks, asked_by, fitting, by_choice, onward, at_end, by_phase, run, begun_with, run_op}
use Rattle.run_step.specs.Turns.{stepped}
use Rattle.ws_run.specs.Drawing.{drawn_for}
use Rattle.ws_run.specs.Moves.{moved_way, moved_over}
use Rattle.ws_run.specs.Running.{capped, thread_if, thread_at, onwards}
use Rattle.ws_run.proofs.Moving.{IsOnward, moves_on, start_begins_none}
use Rattle.ws_run.proofs.Naming.{none_drawn}

below : (m n : ℕ) → m < n → nat_lt m n ≡ true
below m n h = grind (arith, ltb-true, h)

not_below : (m n : ℕ) → n ≤ m → nat_lt m n ≡ false
not_below m n h = grind (arith, ltb-true, h)

module _ (number B : ℕ) (as' : List Active) (D : List Fact) where
  abbrev S : Setting
  S = record { scope = caused; number = number; steps = B; active = as' }

  -- ---- within the steps

  -- With steps left nothing is capped; nor after an end.
  within_phase : (p : Phase) (n : ℕ) → n < B → (if is_some (outcome_in p) || nat_lt n B then p else Ended Spent) ≡ p
  within_phase p n h = ap (λ (b : Bool). if is_some (outcome_in p) || b then p else Ended Spent) (below n B h) ∙ by (is_some (outcome_in p))
    where
      by : (b : Bool) → (if b || true then p else Ended Spent) ≡ p
      by true = refl
      by false = refl

  abbrev with_phase : Attempt → Phase → Attempt
  with_phase P p = record { number = P.number; attempt = P.attempt; operation = P.operation; phase = p; own = P.own; steps = P.steps; nulls = P.nulls; taken = P.taken }

  within : (P : Attempt) → P.steps < B → capped B P ≡ P
  within P h = ap (with_phase P) (within_phase P.phase P.steps h)

  ended_phase : (p : Phase) (b : Bool) (o : Outcome) → p ≡ Ended o → (if is_some (outcome_in p) || b then p else Ended Spent) ≡ p
  ended_phase p b o e = ap (λ (x : Option Outcome). if is_some x || b then p else Ended Spent) (ap outcome_in e)

  -- With none left it is spent.
  spent_phase : (p : Phase) (n : ℕ) → B ≤ n → outcome_in p ≡ None → (if is_some (outcome_in p) || nat_lt n B then p else Ended Spent) ≡ Ended Spent
  spent_phase p n h e =
      ap (λ (x : Option Outcome). if is_some x || nat_lt n B then p else Ended Spent) e
      ∙ ap (λ (b : Bool). if b then p else Ended Spent) (not_below n B h)

  -- ---- by phases

  module _ (go : Attempt → List Choice → Thread → Rested) (P : Attempt) (cs : List Choice) (t : Thread) where
    no_question : (p : Phase) → outcome_in p ≡ None → question_in p ≡ None → by_phase S D go P cs t p ≡ onward S D go P cs t
    no_question Start o q = refl
    no_question Look o q = refl
    no_question (Generate r) o q = refl
    no_question (Asked x) o q = let never : Some x ≡ None = q in cc
    no_question (Ended x) o q = let never : Some x ≡ None = o in cc

  -- At its end, however many steps are left.
  ended : (k : ℕ) (P : Attempt) (cs : List Choice) (t : Thread) (o : Outcome) → P.phase ≡ Ended o → run S D k P cs t ≡ at_end P cs t o
  ended zero P cs t o e = ap (by_phase S D (λ Q ds u. Halts TooLong u) P cs t) e
  ended (suc k) P cs t o e = ap (by_phase S D (λ Q ds u. run S D k Q ds u) P cs t) e

  -- ---- the start

  pub begins : (seq : ℕ) (op : Operation) (t : Thread) → run_op S D seq op t ≡ onwards S D (begun seq 0 op) [] t
  unfolding onwards
  begins seq op t = by B refl
    where
      by : (k : ℕ) → B ≡ k → run S D B (begun seq 0 op) [] (begun_with D op t) ≡ run S D (B - 0) (capped B (begun seq 0 op)) [] (begun_with D op t)
      by zero e =
          ap (λ (n : ℕ). run S D n (begun seq 0 op) [] (begun_with D op t)) e
          ∙ ap (λ (r : Option Repair). Halts TooLong (drawn_at S seq (move_by S D (begun seq 0 op) None).drawn 0 r (begun_with D op t)))
          (start_begins_none op (λ q. value (rules_of as') q D [] (caused op)))
          ∙ sym (ended (B - 0) (capped B (begun seq 0 op)) [] (begun_with D op t) Spent (spent_phase Start 0 (omega (arith, e)) refl))
      by (suc k) e =
          let some : 0 < B = omega (arith, e) in
          let same : B ≡ B - 0 = omega arith in
          ap (λ (n : ℕ). run S D n (begun seq 0 op) [] (begun_with D op t)) same
          ∙ sym (ap (λ (P : Attempt). run S D (B - 0) P [] (begun_with D op t)) (within (begun seq 0 op) some))

  -- ---- a step

  abbrev move_from : Attempt → Option Choice → Move
  move_from P c = move_by S D P c

  abbrev after : Attempt → Option Choice → Attempt
  after P c = stepped (rules_of as') (B + 1) D P c

  onward_is : (P : Attempt) (c : Option Choice) → IsOnward (move_from P c)
  onward_is P c = moves_on (rules_of as') P c (λ q. value (rules_of as') q D P.own (caused P.operation))

  after_phase : (P : Attempt) (c : Option Choice) → P.steps < B → (after P c).phase ≡ (move_from P c).phase
  after_phase P c h =
      ap (λ (b : Bool). if is_some (outcome_in (move_from P c).phase) || b then (move_from P c).phase else Ended Spent) (below (suc P.steps) (B + 1) (omega (arith, h)))
      ∙ by (move_from P c).phase (is_some (outcome_in (move_from P c).phase))
    where
      by : (p : Phase) (b : Bool) → (if b || true then p else Ended Spent) ≡ p
      by p true = refl
      by p false = refl

  -- The op's next state is the program's, capped.
  next_is : (P : Attempt) (c : Option Choice) → P.steps < B → capped B (after P c) ≡ next S D P c
  next_is P c h =
      ap (λ (p : Phase). record {
        number = P.number;
        attempt = P.attempt;
        operation = P.operation;
        phase = if is_some (outcome_in p) || nat_lt (suc P.steps) B then p else Ended Spent;
        own = (after P c).own;
        steps = suc P.steps;
        nulls = (after P c).nulls;
        taken = (after P c).taken;
      })
      (after_phase P c h)

  -- After a step it is not at its start.
  not_at_start : (P : Attempt) (c : Option Choice) (u : Thread) → P.steps < B → thread_at D (after P c) u ≡ u
  not_at_start P c u h = ap (λ (b : Bool). thread_if b D (after P c) u) (ap is_start (after_phase P c h) ∙ (onward_is P c).goes_on)

  -- What the step drew is named by what the program is at then.
  named_by_phase : (P : Attempt) (n : ℕ) (u : Thread) (p : Phase) → (is_some (repair_at p) ≡ false → n ≡ 0)
      → drawn_at S P.number n P.nulls (repair_at p) u ≡ drawn_for S P.number n P.nulls (bound_in p) u
  named_by_phase P n u Start d = refl
  named_by_phase P n u Look d = refl
  named_by_phase P n u (Generate r) d = refl
  named_by_phase P n u (Asked q) d = sym (none_drawn S P.number P.nulls n (bound_in (Asked q)) u (d refl))
  named_by_phase P n u (Ended o) d = refl

  drawn_is : (P : Attempt) (c : Option Choice) (u : Thread) → P.steps < B
      → drawn_for S P.number ((after P c).nulls - P.nulls) P.nulls (bound_in (after P c).phase) u ≡ drawn S P (move_from P c) u
  drawn_is P c u h =
      let count : (P.nulls + (move_from P c).drawn) - P.nulls ≡ (move_from P c).drawn = omega arith in
      ap (λ (p : Phase). drawn_for S P.number ((after P c).nulls - P.nulls) P.nulls (bound_in p) u) (after_phase P c h)
      ∙ ap (λ (n : ℕ). drawn_for S P.number n P.nulls (bound_in (move_from P c).phase) u) count
      ∙ sym (named_by_phase P (move_from P c).drawn u (move_from P c).phase (onward_is P c).draws)

  left_is : (P : Attempt) → P.steps < B → B - P.steps ≡ suc (B - suc P.steps)
  left_is P h = omega (arith, h)

  -- From the state after a step on.
  pub from_next : (P Q : Attempt) (c : Option Choice) (cs : List Choice) (u v : Thread) → P.steps < B → Q ≡ after P c
      → u ≡ drawn_for S P.number (Q.nulls - P.nulls) P.nulls (bound_in Q.phase) v
      → run S D (B - suc P.steps) (next S D P c) cs (drawn S P (move_from P c) v) ≡ onwards S D Q cs u
  unfolding onwards
  from_next P Q c cs u v h is named =
      let names : u ≡ drawn S P (move_from P c) v =
      named ∙ ap (λ (R : Attempt). drawn_for S P.number (R.nulls - P.nulls) P.nulls (bound_in R.phase) v) is ∙ drawn_is P c v h in
      ap (run S D (B - suc P.steps) (next S D P c) cs) (sym names)
      ∙ ap (λ (R : Attempt). run S D (B - suc P.steps) R cs u) (sym (next_is P c h))
      ∙ ap (run S D (B - suc P.steps) (capped B (after P c)) cs) (sym (not_at_start P c u h))
      ∙ ap (λ (R : Attempt). run S D (B - R.steps) (capped B R) cs (thread_at D R u)) (sym is)

  -- To a state with steps left.
  to_next : (P : Attempt) (cs : List Choice) (t : Thread) → P.steps < B
      → run S D (B - P.steps) (capped B P) cs t ≡ by_phase S D (λ R ds w. run S D (B - suc P.steps) R ds w) P cs t P.phase
  to_next P cs t h =
      ap (λ (k : ℕ). run S D k (capped B P) cs t) (left_is P h)
      ∙ ap (λ (R : Attempt). run S D (suc (B - suc P.steps)) R cs t) (within P h)

  -- The program makes a step, and is at no question.
  pub steps_on : (P Q : Attempt) (cs : List Choice) (t u : Thread) → P.steps < B → outcome_in P.phase ≡ None → question_in P.phase ≡ None → Q ≡ after P None
      → u ≡ drawn_for S P.number (Q.nulls - P.nulls) P.nulls (bound_in Q.phase) (thread_at D P t) → onwards S D P cs t ≡ onwards S D Q cs u
  unfolding onwards
  steps_on P Q cs t u h o q is named =
      to_next P cs (thread_at D P t) h
      ∙ no_question (λ R ds w. run S D (B - suc P.steps) R ds w) P cs (thread_at D P t) P.phase o q
      ∙ from_next P Q None cs u (thread_at D P t) h is named

  -- At a question it is not at its start.
  asked_thread : (P : Attempt) (q : Question) (t : Thread) → P.phase ≡ Asked q → thread_at D P t ≡ t
  asked_thread P q t at = ap (λ (p : Phase). thread_if (is_start p) D P t) at

  -- It makes the step of an answer that fits.
  pub steps_by : (P Q : Attempt) (cs ds : List Choice) (q : Question) (c : Choice) (t u : Thread) → P.steps < B → P.phase ≡ Asked q → fitting as' t.names q t.answers ≡ Some c
      → Q ≡ after P (Some c) → ds ≡ cs ++ c ∷ [] → u ≡ drawn_for S P.number (Q.nulls - P.nulls) P.nulls (bound_in Q.phase) (answered q c t) → onwards S D P cs t ≡ onwards S D Q ds u
  unfolding onwards
  steps_by P Q cs ds q c t u h at fits is more named =
      ap (run S D (B - P.steps) (capped B P) cs) (asked_thread P q t at)
      ∙ to_next P cs t h
      ∙ ap (by_phase S D (λ R es w. run S D (B - suc P.steps) R es w) P cs t) at
      ∙ ap (by_choice S D (λ R es w. run S D (B - suc P.steps) R es w) P q cs t) fits
      ∙ from_next P Q (Some c) (cs ++ c ∷ []) u (answered q c t) h is named
      ∙ ap (λ (es : List Choice). onwards S D Q es u) (sym more)

  -- ---- a halt

  -- It has no steps left.
  pub too_long : (P : Attempt) (cs : List Choice) (t : Thread) → B ≤ P.steps → outcome_in P.phase ≡ None → onwards S D P cs t ≡ Halts TooLong (thread_at D P t)
  unfolding onwards
  too_long P cs t h o = ended (B - P.steps) (capped B P) cs (thread_at D P t) Spent (spent_phase P.phase P.steps h o)

  -- No answer fits its question.
  pub asks_on : (P : Attempt) (cs : List Choice) (q : Question) (t : Thread) → P.steps < B → P.phase ≡ Asked q → fitting as' t.names q t.answers ≡ None
      → onwards S D P cs t ≡ Halts (asks t.names q (asked_by as' t.names q)) t
  unfolding onwards
  asks_on P cs q t h at fits =
      ap (run S D (B - P.steps) (capped B P) cs) (asked_thread P q t at)
      ∙ to_next P cs t h
      ∙ ap (by_phase S D (λ R es w. run S D (B - suc P.steps) R es w) P cs t) at
      ∙ ap (by_choice S D (λ R es w. run S D (B - suc P.steps) R es w) P q cs t) fits

  -- It has ended.
  pub ends_on : (P : Attempt) (cs : List Choice) (t : Thread) (o : Outcome) → P.phase ≡ Ended o → onwards S D P cs t ≡ at_end P cs t o
  unfolding onwards
  ends_on P cs t o e =
      ended (B - P.steps) (capped B P) cs (thread_at D P t) o (ended_phase P.phase (nat_lt P.steps B) o e ∙ e)
      ∙ ap (λ (p : Phase). at_end (with_phase P p) cs (thread_at D P t) o) (ended_phase P.phase (nat_lt P.steps B) o e)
      ∙ ap (λ (p : Phase). at_end P cs (thread_if (is_start p) D P t) o) e

-- ---- what values become

-- One step more.
pub over_more : (ws : List Way) (w : Way) (d : Datum) → moved_over (ws ++ w ∷ []) d ≡ moved_way w (moved_over ws d)
over_more [] w d = refl
over_more (x ∷ ws) w d = over_more ws w (moved_way x d)

-- The way of the step of an answer moves values as the answer does.
pub by_answer : (ms : List Rule) (q : Question) (c : Choice) (d : Datum) → moved_way (way_of_question ms q (Some c)) d ≡ moved_by q c d
by_answer ms (Positive r t cs) Expand d = refl
by_answer ms (Positive r t cs) (Unify o) d = refl
by_answer ms (Positive r t cs) (Drop os) d = refl
by_answer ms (Negative n ts) c d = refl

-- The way of the first step moves them as the operation does.
pub by_operation : (D : List Fact) (op : Operation) (d : Datum) → moved_way (way_of_start D op) d ≡ moved_first D op d
by_operation D (Adds t) d = refl
by_operation D (Removes t) d = refl
by_operation D (Replaces n v) d = refl
by_operation D (Enacts n) d = refl
