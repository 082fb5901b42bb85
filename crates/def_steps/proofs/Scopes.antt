-- An attempt over a repository where the mappings in force hold goes the same way in the full and the caused scope.
use Rattle.std.proofs.Common.{◌≡◌, ℕ, zero, suc, ap, refl, sym, ◌∙◌, subst, List, [], ◌∷◌, ◌++◌, map, length, Bool, true, false, Option, Some, None}
use Rattle.std.specs.Prelude.{if◌then◌else◌, is_some}
use Rattle.std.specs.Option.{option_map}
use Rattle.std.specs.List.{AllByRecursion}
use Rattle.def_machine.specs.Trees.{Tree, Leaf, Node, result_of, log_of, AreAnswers}
use Rattle.def_machine.specs.Updates.{Read}
use Rattle.def_machine.specs.Standings.{Lack, lack, next_answer}
use Rattle.def_machine.specs.Steps.{next_state, step_log}
use Rattle.def_machine.specs.Runs.{Reached, start, more}
use Rattle.def_machine.specs.Serial.{Rest, Ends, go_on, run}
use Rattle.def_machine.proofs.TreeLaws.{replayed, replayed_log}
use Rattle.def_chase.specs.Values.{Fact}
use Rattle.def_chase.specs.Repository.{apply}
use Rattle.def_chase.specs.Mappings.{Rule, AllHold}
use Rattle.def_chase.specs.Violations.{Scope, Every}
use Rattle.def_chase.specs.Queries.{Query, Reply}
use Rattle.def_chase.specs.Updates.{Operation, direction_of, Choice}
use Rattle.def_chase.specs.Laws.{HaveNoNulls}
use Rattle.def_chase.specs.Caused.{Kept, Looked}
use Rattle.def_chase.proofs.Scopes.{caused_values}
use Rattle.def_steps.specs.Attempts.{Attempt, begun, outcome_in}
use Rattle.def_steps.specs.Steps.{step, moved}
use Rattle.def_steps.specs.Chase.{chase, every, caused, whole_chase, caused_chase}
use Rattle.def_steps.specs.Serial.{at_rest}
use Rattle.def_steps.specs.Soundness.{answered_in, plain_read, SameStep, AlsoReached, ScopesAgree, CausedIsEvery}
use Rattle.def_steps.proofs.Reaching.{Steady, reached_steady}
use Rattle.def_steps.proofs.Asking.{step_fine}

-- Where each query that is asked by one's answers has the other's answer, they are the other's.
are_answers : {Q R A : Type 0} (P : Q → Type 0) (val other : Q → R) → ((q : Q) → P q → other q ≡ val q) → (t : Tree Q R A) → AllByRecursion (λ (r : Q × R). P r.0) (log_of val t) → AreAnswers other (log_of val t)
are_answers P val other h (Leaf a) f = tt
are_answers P val other h (Node q k) f = (h q f.0, are_answers P val other h (k (val q)) f.1)

module _ (ms : List Rule) (B : ℕ) (D : List Fact) (answers : List Choice) (u a : ℕ) (op : Operation) (plain : HaveNoNulls ms) (held : AllHold ms D) where
  pub steady_step : (scope : Operation → Scope) (P : Attempt) (c : Option Choice) → Steady u ms scope D op P → SameStep ms D op P c
  steady_step scope P c s =
      record {
        values = same;
        logs = replayed_log (answered_in Every ms D P) (answered_in (caused op) ms D P) (step ms P c) same;
        moves = replayed (answered_in Every ms D P) (answered_in (caused op) ms D P) (step ms P c) same;
      }
    where
      kept : Kept (direction_of op) D P.own
      kept = subst (λ o. Kept (direction_of o) D P.own) s.operation s.kept

      same : AreAnswers (answered_in (caused op) ms D P) (log_of (answered_in Every ms D P) (step ms P c))
      same =
          are_answers (λ q. Looked ms q (apply D P.own)) (answered_in Every ms D P) (answered_in (caused op) ms D P)
          (λ q l. sym (caused_values (direction_of op) ms q D P.own plain held kept l)) (step ms P c) (step_fine ms Every D P.own P c P.phase)

  abbrev Logged : (scope : Operation → Scope) → List (Read (chase scope ms B)) → List (Query × Reply × ℕ)
  Logged scope log = map (plain_read scope ms B) log

  -- the reads of a step, as plain data
  plain_log : (scope : Operation → Scope) (P : Attempt) (rs : List (Query × Reply)) → Logged scope (map (λ (r : Query × Reply). record { query = r.0; answer = r.1; own = length P.own }) rs) ≡ map (λ (r : Query × Reply). (r.0, r.1, length P.own)) rs
  plain_log scope P [] = refl
  plain_log scope P (r ∷ rs) = ap (λ l. (r.0, r.1, length P.own) ∷ l) (plain_log scope P rs)

  joined : (scope : Operation → Scope) (xs ys : List (Read (chase scope ms B))) → Logged scope (xs ++ ys) ≡ Logged scope xs ++ Logged scope ys
  joined scope [] ys = refl
  joined scope (x ∷ xs) ys = ap (λ l. plain_read scope ms B x ∷ l) (joined scope xs ys)

  longer : (from to : Operation → Scope) (P : Attempt) (log : List (Read (chase from ms B))) (r : AlsoReached from to ms B D answers u a op P log) (c : Option Choice)
      → log_of (answered_in (to op) ms D P) (step ms P c) ≡ log_of (answered_in (from op) ms D P) (step ms P c)
      → Logged to (r.reads ++ map (λ x. record { query = x.0; answer = x.1; own = length P.own }) (log_of (answered_in (to op) ms D P) (step ms P c)))
      ≡ Logged from (log ++ map (λ x. record { query = x.0; answer = x.1; own = length P.own }) (log_of (answered_in (from op) ms D P) (step ms P c)))
  longer from to P log r c e =
      joined to r.reads _
      ∙ (λ i. r.same i ++ plain_log to P (log_of (answered_in (to op) ms D P) (step ms P c)) i)
      ∙ ap (λ rs. Logged from log ++ map (λ (x : Query × Reply). (x.0, x.1, length P.own)) rs) e
      ∙ ap (λ l. Logged from log ++ l) (sym (plain_log from P (log_of (answered_in (from op) ms D P) (step ms P c))))
      ∙ sym (joined from log _)

  further : (from to : Operation → Scope) (P : Attempt) (log : List (Read (chase from ms B))) → AlsoReached from to ms B D answers u a op P log
      → (chase from ms B).outcome P ≡ None → lack (chase from ms B) answers P ≡ None
      → log_of (answered_in (to op) ms D P) (step ms P (next_answer (chase from ms B) answers P)) ≡ log_of (answered_in (from op) ms D P) (step ms P (next_answer (chase from ms B) answers P))
      → result_of (answered_in (to op) ms D P) (step ms P (next_answer (chase from ms B) answers P)) ≡ result_of (answered_in (from op) ms D P) (step ms P (next_answer (chase from ms B) answers P))
      → AlsoReached from to ms B D answers u a op (next_state (chase from ms B) op D answers P) (log ++ step_log (chase from ms B) op D answers P)
  further from to P log r going able logs moves =
      record {
        reads = r.reads ++ step_log (chase to ms B) op D answers P;
        same = longer from to P log r (next_answer (chase from ms B) answers P) logs;
        reached = subst (λ m. Reached (chase to ms B) D answers u a op (moved B P m) (r.reads ++ step_log (chase to ms B) op D answers P)) moves (more r.reached going able);
      }

  every_too : {P : Attempt} {log : List (Read (caused_chase ms B))} → Reached (caused_chase ms B) D answers u a op P log → AlsoReached caused every ms B D answers u a op P log
  every_too start = record { reads = []; same = refl; reached = start }
  every_too (more {P} {log} r going able) =
      let s = steady_step caused P (next_answer (caused_chase ms B) answers P) (reached_steady caused ms B D answers u a op r) in
      further caused every P log (every_too r) going able (sym s.logs) (sym s.moves)

  caused_too : {P : Attempt} {log : List (Read (whole_chase ms B))} → Reached (whole_chase ms B) D answers u a op P log → AlsoReached every caused ms B D answers u a op P log
  caused_too start = record { reads = []; same = refl; reached = start }
  caused_too (more {P} {log} r going able) =
      let s = steady_step every P (next_answer (whole_chase ms B) answers P) (reached_steady every ms B D answers u a op r) in
      further every caused P log (caused_too r) going able s.logs s.moves

  -- ---- runs

  abbrev SameRest : Rest (caused_chase ms B) → Rest (whole_chase ms B) → Type 0
  SameRest r q = at_rest caused ms B r ≡ at_rest every ms B q

  if_rest : (b : Bool) (x x' : Rest (caused_chase ms B)) (y y' : Rest (whole_chase ms B)) → (b ≡ true → SameRest x y) → (b ≡ false → SameRest x' y') → SameRest (if b then x else x') (if b then y else y')
  if_rest true x x' y y' f g = f refl
  if_rest false x x' y y' f g = g refl

  none_of : {A : Type 0} (o : Option A) → is_some o ≡ false → o ≡ None
  none_of None e = refl
  none_of (Some x) e = absurd (Rattle.std.proofs.lemmas.Bool.both_ways true e refl)

  gone_same : (k : ℕ) (P : Attempt) (log : List (Read (caused_chase ms B))) → Reached (caused_chase ms B) D answers u a op P log
      → ((Q : Attempt) (l : List (Read (caused_chase ms B))) → Reached (caused_chase ms B) D answers u a op Q l → SameRest (run (caused_chase ms B) op D answers k Q) (run (whole_chase ms B) op D answers k Q))
      → (caused_chase ms B).outcome P ≡ None → (o : Option Lack) → lack (caused_chase ms B) answers P ≡ o
      → SameRest (go_on (caused_chase ms B) (run (caused_chase ms B) op D answers k) P (next_state (caused_chase ms B) op D answers P) o) (go_on (whole_chase ms B) (run (whole_chase ms B) op D answers k) P (next_state (whole_chase ms B) op D answers P) o)
  gone_same k P log r rec going (Some l) e = refl
  gone_same k P log r rec going None e =
      let s : SameStep ms D op P (next_answer (caused_chase ms B) answers P) = steady_step caused P (next_answer (caused_chase ms B) answers P) (reached_steady caused ms B D answers u a op r) in
      rec (next_state (caused_chase ms B) op D answers P) (log ++ step_log (caused_chase ms B) op D answers P) (more r going e)
      ∙ ap (λ m. at_rest every ms B (run (whole_chase ms B) op D answers k (moved B P m))) s.moves

  run_same : (k : ℕ) (P : Attempt) (log : List (Read (caused_chase ms B))) → Reached (caused_chase ms B) D answers u a op P log → SameRest (run (caused_chase ms B) op D answers k P) (run (whole_chase ms B) op D answers k P)
  run_same zero P log r = refl
  run_same (suc k) P log r =
      if_rest (is_some (option_map Rattle.def_steps.specs.Chase.ending (outcome_in P.phase))) (Ends P) _ (Ends P) _ (λ e. refl)
      (λ e. gone_same k P log r (λ Q l q. run_same k Q l q) (none_of _ e) (lack (caused_chase ms B) answers P) refl)

  pub agree : ScopesAgree ms B D answers u a op
  agree =
      record {
        steps = λ P log r. steady_step caused P (next_answer (caused_chase ms B) answers P) (reached_steady caused ms B D answers u a op r);
        to_every = λ P log r. every_too r;
        to_caused = λ P log r. caused_too r;
        rests = run_same B (begun u a op) [] start;
      }

pub caused_is_every : CausedIsEvery
caused_is_every ms B D answers u a op plain held = agree ms B D answers u a op plain held
