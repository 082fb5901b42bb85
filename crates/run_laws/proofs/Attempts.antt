-- What passes in the repository below an attempt passes in all that it writes; it deletes no tuple which says that a mapping is in force, and writes the one that it is to write.
use Rattle.std.specs.Prelude.{nat_lt}
use Rattle.std.proofs.Common.{◌≡◌, ℕ, suc, ◌+◌, ◌*◌, ◌≤◌, ap, refl, sym, ◌∙◌, subst, List, [], ◌∷◌, ◌++◌, Bool, true, false, not, ◌||◌, ◌&&◌, Option, is_some, arith}
use Rattle.std.specs.List.{list_all}
use Rattle.std.proofs.lemmas.Bool.{and_parts}
use Rattle.def_machine.specs.Trees.{result_of}
use Rattle.def_machine.specs.Updates.{Read}
use Rattle.def_machine.specs.Standings.{next_answer}
use Rattle.def_machine.specs.Runs.{Reached, start, more}
use Rattle.def_machine.proofs.Basics.{if_both}
use Rattle.def_chase.specs.Values.{Datum, Fact, same_fact}
use Rattle.def_chase.specs.Repository.{Change, Insert, Delete, has, apply, inserted_after}
use Rattle.def_chase.specs.Mappings.{Rule, force}
use Rattle.def_chase.specs.Violations.{Scope}
use Rattle.def_chase.specs.Queries.{value}
use Rattle.def_chase.specs.Updates.{Operation, Enacts, Choice}
use Rattle.def_chase.proofs.Bools.{differ, or_left, or_right}
use Rattle.def_chase.proofs.Sets.{has-apply, has-insert, same_exact, same_itself}
use Rattle.def_steps.specs.Attempts.{Done, Spent, Phase, Start, Look, Generate, Asked, Ended, Attempt, outcome_in}
use Rattle.def_steps.specs.Steps.{Move, start as start_of, step, step_in, moved}
use Rattle.def_steps.specs.Chase.{chase}
use Rattle.def_steps.proofs.Reaching.{fitted}
use Rattle.def_steps.proofs.Steady.{apply_join}
use Rattle.def_steps.proofs.Passing.{all_join, all_weaker, insert_passes, all_applied}
use Rattle.run_laws.proofs.Closed.{is_plain, Closed, goes, write_passes, PhasePasses}
use Rattle.run_laws.proofs.Steps.{MovePasses, step_passes}

-- ---- the tuples that say which mappings are in force

-- Writes that pass delete none of them.
force_inserted : (q : ℕ → Fact → Bool) (k n : ℕ) (ws : List Change) → list_all (write_passes q k) ws ≡ true → inserted_after true ws (force n) ≡ true
force_inserted q k n [] h = refl
force_inserted q k n (Insert s ∷ ws) h =
    ap (λ b. inserted_after b ws (force n)) (or_right (same_fact (force n) s) true refl) ∙ force_inserted q k n ws (and_parts (q k s) (list_all (write_passes q k) ws) h).1
force_inserted q k n (Delete s ∷ ws) h =
    let e = and_parts (goes q k s) (list_all (write_passes q k) ws) h in
    ap (λ b. inserted_after (not b) ws (force n)) (apart (and_parts (q k s) (is_plain s) e.0).1) ∙ force_inserted q k n ws e.1
  where
    apart : is_plain s ≡ true → same_fact (force n) s ≡ false
    apart g = by (same_fact (force n) s) refl
      where
        by : (b : Bool) → same_fact (force n) s ≡ b → b ≡ false
        by true f = differ (ap is_plain (same_exact (force n) s f) ∙ g)
        by false f = refl

pub force_stays : (q : ℕ → Fact → Bool) (k n : ℕ) (E : List Fact) (ws : List Change) → list_all (write_passes q k) ws ≡ true → has E (force n) ≡ true → has (apply E ws) (force n) ≡ true
force_stays q k n E ws h e = has-apply E ws (force n) ∙ ap (λ b. inserted_after b ws (force n)) e ∙ force_inserted q k n ws h

-- The attempt has not begun.
abbrev pub is_start : Phase → Bool
is_start Start = true
is_start Look = false
is_start (Generate r) = false
is_start (Asked q) = false
is_start (Ended o) = false

-- ---- attempts

module _ (scope : Operation → Scope) (ms : List Rule) (B : ℕ) (D : List Fact) (answers : List Choice) (u a : ℕ) (op : Operation) (p : ℕ → Datum → Bool) (q : ℕ → Fact → Bool) (c : Closed ms op u a p q) (base : list_all (q 0) D ≡ true) where
  -- what an attempt has written, and holds, passes
  pub record Passing (P : Attempt) : Type 0 where
    pub number : P.number ≡ u
    pub attempt : P.attempt ≡ a
    pub operation : op ≡ P.operation
    pub writes : list_all (write_passes q P.nulls) P.own ≡ true
    pub phase : PhasePasses ms p q P.nulls P.phase
    pub few : P.nulls ≤ 128 * P.steps
    pub enacts : (n : ℕ) → op ≡ Enacts n → (is_start P.phase || has (apply D P.own) (force n)) ≡ true

  write_later : (k j : ℕ) (w : Change) → write_passes q k w ≡ true → write_passes q (k + j) w ≡ true
  write_later k j (Insert t) h = c.tuples_later k j t h
  write_later k j (Delete t) h = let e = and_parts (q k t) (is_plain t) h in (λ i. c.tuples_later k j t e.0 i && e.1 i)

  inserted : (k : ℕ) (w : Change) → write_passes q k w ≡ true → insert_passes (q k) w ≡ true
  inserted k (Insert t) h = h
  inserted k (Delete t) h = refl

  base_later : (k : ℕ) → list_all (q k) D ≡ true
  base_later k = let e : 0 + k ≡ k = omega arith in subst (λ j. list_all (q j) D ≡ true) e (all_weaker (q 0) (q (0 + k)) (λ t h. c.tuples_later 0 k t h) D base)

  -- so does the repository with the own writes
  pub view_passes : (P : Attempt) → Passing P → list_all (q P.nulls) (apply D P.own) ≡ true
  view_passes P s = all_applied (q P.nulls) D P.own (base_later P.nulls) (all_weaker (write_passes q P.nulls) (insert_passes (q P.nulls)) (λ w h. inserted P.nulls w h) P.own s.writes)

  -- the next move, with the next answer if there is one
  abbrev move_of : Attempt → Option Choice → Move
  move_of P y = result_of (λ x. value ms x D P.own (scope op)) (step ms P y)

  first_writes : (P : Attempt) (y : Option Choice) (n : ℕ) → op ≡ P.operation → op ≡ Enacts n → P.phase ≡ Start → (move_of P y).writes ≡ Insert (force n) ∷ []
  first_writes P y n o e f =
      ap (λ (ph : Phase). (result_of (λ x. value ms x D P.own (scope op)) (step_in ms P y ph)).writes) f
      ∙ ap (λ (z : Operation). (result_of (λ x. value ms x D P.own (scope op)) (start_of z)).writes) (sym o ∙ e)

  force_written : (E : List Fact) (n : ℕ) → has (apply E (Insert (force n) ∷ [])) (force n) ≡ true
  force_written E n = has-insert E (force n) (force n) ∙ or_left (same_fact (force n) (force n)) (has E (force n)) (same_itself (force n))

  enacted : (P : Attempt) (y : Option Choice) (n : ℕ) → Passing P → op ≡ Enacts n → list_all (write_passes q (P.nulls + (move_of P y).drawn)) (move_of P y).writes ≡ true → has (apply D (P.own ++ (move_of P y).writes)) (force n) ≡ true
  enacted P y n s e h = ap (λ (E : List Fact). has E (force n)) (apply_join D P.own (move_of P y).writes) ∙ by P.phase refl (s.enacts n e)
    where
      going : (ph : Phase) → is_start ph ≡ false → (is_start ph || has (apply D P.own) (force n)) ≡ true → has (apply (apply D P.own) (move_of P y).writes) (force n) ≡ true
      going ph f g = force_stays q (P.nulls + (move_of P y).drawn) n (apply D P.own) (move_of P y).writes h (ap (λ b. b || has (apply D P.own) (force n)) (sym f) ∙ g)

      by : (ph : Phase) → P.phase ≡ ph → (is_start ph || has (apply D P.own) (force n)) ≡ true → has (apply (apply D P.own) (move_of P y).writes) (force n) ≡ true
      by Start f g = ap (λ ws. has (apply (apply D P.own) ws) (force n)) (first_writes P y n s.operation e f) ∙ force_written (apply D P.own) n
      by Look f g = going Look refl g
      by (Generate r) f g = going (Generate r) refl g
      by (Asked z) f g = going (Asked z) refl g
      by (Ended z) f g = going (Ended z) refl g

  moved_passes : (P : Attempt) (y : Option Choice) → Passing P → MovePasses ms op u a p q c P.nulls (move_of P y) → Passing (moved B P (move_of P y))
  moved_passes P y s h =
      let m : Move = move_of P y in
      record {
        number = s.number;
        attempt = s.attempt;
        operation = s.operation;
        writes = all_join (write_passes q (P.nulls + m.drawn)) P.own m.writes (all_weaker (write_passes q P.nulls) (write_passes q (P.nulls + m.drawn)) (λ w e. write_later P.nulls m.drawn w e) P.own s.writes) h.0;
        phase = if_both (PhasePasses ms p q (P.nulls + m.drawn)) (is_some (outcome_in m.phase) || nat_lt (suc P.steps) B) m.phase (Ended Spent) (λ e. h.1) (λ e. tt);
        few = let few : P.nulls ≤ 128 * P.steps = s.few in let drawn : m.drawn ≤ 128 = h.2 in omega arith;
        enacts = λ n e. or_right _ (has (apply D (P.own ++ m.writes)) (force n)) (enacted P y n s e h.0);
      }

  pub reached_passing : {P : Attempt} {log : List (Read (chase scope ms B))} → Reached (chase scope ms B) D answers u a op P log → Passing P
  reached_passing start = record { number = refl; attempt = refl; operation = refl; writes = refl; phase = tt; few = omega arith; enacts = λ n e. refl }
  reached_passing (more {P} r going able) =
      let s : Passing P = reached_passing r in
      moved_passes P (next_answer (chase scope ms B) answers P) s
      (step_passes ms op u a p q c (scope op) D P.own P.nulls (view_passes P s) P (next_answer (chase scope ms B) answers P) P.phase s.number s.attempt refl s.operation s.phase (fitted scope ms B answers P P.phase refl able going))

  -- An attempt that puts a mapping in force and is done has written so.
  pub forces : (P : Attempt) (n : ℕ) → Passing P → op ≡ Enacts n → P.phase ≡ Ended Done → has (apply D P.own) (force n) ≡ true
  forces P n s e f = ap (λ (ph : Phase). is_start ph || has (apply D P.own) (force n)) (sym f) ∙ s.enacts n e
