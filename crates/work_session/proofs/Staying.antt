-- A plan at a desk: it is the step of an update that is ready, and stays so where no later entry makes it stale.
use Rattle.std.proofs.Common.{◌≡◌, ◌∙◌, ap, refl, sym, subst, ℕ, suc, ◌≤◌, true, false, List, [], ◌∷◌, ◌++◌, take, drop, map, length, Some, None}
use Rattle.std.specs.Prelude.{option_map, slice_get}
use Rattle.std.proofs.lemmas.List.{take-append-drop, take-map}
use Rattle.def_machine.specs.Effects.{Entry}
use Rattle.def_machine.specs.Histories.{IsLegal}
use Rattle.def_machine.specs.Machine.{Machine}
use Rattle.def_machine.specs.Standings.{Standing, Ready, Held, Paused, Ended, Withdrawn, standing, is_ready, next_answer}
use Rattle.def_machine.specs.Steps.{next_move, step_log}
use Rattle.def_machine.specs.Updates.{Update, Read, below, committed}
use Rattle.def_machine.proofs.Prefixes.{legal_law}
use Rattle.def_chase.specs.Mappings.{Rule}
use Rattle.def_chase.specs.Queries.{Query, Reply}
use Rattle.def_chase.specs.Repository.{IsRepository}
use Rattle.def_chase.specs.Updates.{Choice, Operation}
use Rattle.def_chase.specs.Values.{Fact}
use Rattle.def_steps.specs.Attempts.{Attempt}
use Rattle.def_steps.specs.Chase.{caused, caused_chase}
use Rattle.def_steps.specs.Steps.{step, moved}
use Rattle.def_machine.specs.Trees.{log_of}
use Rattle.def_steps.proofs.ChaseLaws.{chase_laws}
use Rattle.chase_query.specs.Meanings as query
use Rattle.chase_update.specs.Logged.{read_after}
use Rattle.chase_plan.specs.Planned.{at_rest, answers_over, next_attempt, next_reads}
use Rattle.def_history.specs.Cores.{Ground, machine, session_over, entries_over, updates_after, IsLegalOver}
use Rattle.def_history.specs.PlainEntries.{PlainEntry, entry_kept}
use Rattle.def_history.proofs.Keeping.{left_by}
use Rattle.def_history.specs.Spares.{AllSpare}
use Rattle.def_history.specs.Stale.{IsStepStill}
use Rattle.work_stale.specs.Laws.{queries_of, WasPlanned}
use Rattle.work_stale.specs.Stale.{stale_by}
use Rattle.work_stale.proofs.Doing.{attempts_do}
use Rattle.work_stale.proofs.Staleness.{stay_unless_stale}
use Rattle.work_desk.specs.Cores.{IsReady, HoldsSince}
use Rattle.core_engine.specs.Planned.{PlanMeant, IsStepOver, IsSomeThat, IsStepAmong}
use Rattle.core_engine.specs.States.{State, standing_at}
use Rattle.work_session.specs.Steps.{IsStepOf, plan_stale_by}

-- ---- what a ready update stands at

ready_is : (st : Standing) → is_ready st ≡ true → st ≡ Ready
ready_is Ready h = refl
ready_is (Held c) h = let never : false ≡ true = h in cc
ready_is (Paused l) h = let never : false ≡ true = h in cc
ready_is (Ended o) h = let never : false ≡ true = h in cc
ready_is Withdrawn h = let never : false ≡ true = h in cc

pub ready_stands : (s : State) (n : ℕ) → IsReady s.over s.history n → standing_at s n ≡ Some Ready
ready_stands s n r =
    let M : Machine = machine s.over in
    let us : List (Update M) = updates_after s.over s.history in
    let stands : ℕ → Update M → Standing = standing M s.over.settings (committed M us) in
    ap (standing_at s) r.number ∙ ap (option_map (stands (suc r.place))) r.ready.there
    ∙ ap Some (ready_is (stands (suc r.place) r.update) r.ready.ready)

-- ---- the step of an attempt, as the machine has it

module _ (ms : List Rule) (B : ℕ) where
  abbrev M : Machine
  M = caused_chase ms B

  -- A read of the machine as plain data.
  abbrev read_logged : Read M → query.Read
  read_logged r = record { query = r.query; reply = r.answer; own = r.own }

  as_logged : (n : ℕ) (xs : List (Query × Reply)) → map (read_after n) xs ≡ map read_logged (map (λ r. record { query = r.0; answer = r.1; own = n }) xs)
  as_logged n [] = refl
  as_logged n (x ∷ xs) = ap (λ rs. read_after n x ∷ rs) (as_logged n xs)

  queries_logged : (rs : List (Read M)) → queries_of (map read_logged rs) ≡ map (λ r. r.query) rs
  queries_logged [] = refl
  queries_logged (r ∷ rs) = ap (λ qs. r.query ∷ qs) (queries_logged rs)

  -- The reads of the next step, and the attempt after it, of an attempt at the operation.
  reads_are : (D : List Fact) (answers : List Choice) (op : Operation) (P : Attempt) → P.operation ≡ op → next_reads ms D P (next_answer M answers P) ≡ map read_logged (step_log M op D answers P)
  reads_are D answers op P e =
      as_logged (length P.own) (log_of (answers_over ms D P) (step ms P (next_answer M answers P)))
      ∙ ap (λ (o : Operation). map read_logged (step_log M o D answers P)) e

  attempt_is : (D : List Fact) (answers : List Choice) (op : Operation) (P : Attempt) → P.operation ≡ op → next_attempt ms B D P (next_answer M answers P) ≡ moved B P (next_move M op D answers P)
  attempt_is D answers op P e = ap (λ (o : Operation). moved B P (next_move M o D answers P)) e

  -- A step over D is one over E, where the machine makes the same one.
  moved_over : (D E : List Fact) (u : Update M) (p : PlanMeant) → u.state.operation ≡ u.operation → next_move M u.operation E u.answers u.state ≡ next_move M u.operation D u.answers u.state
      → step_log M u.operation E u.answers u.state ≡ step_log M u.operation D u.answers u.state → IsStepOver ms B D u p → IsStepOver ms B E u p
  moved_over D E u p e move log s =
      record {
        program = s.program ∙ ap at_rest (attempt_is D u.answers u.operation u.state e ∙ ap (moved B u.state) (sym move) ∙ sym (attempt_is E u.answers u.operation u.state e));
        reads = s.reads ∙ reads_are D u.answers u.operation u.state e ∙ ap (map read_logged) (sym log) ∙ sym (reads_are E u.answers u.operation u.state e);
      }

  -- The step of update k + 1 is that of the one which stands there.
  step_there : (D : List Fact) (us : List (Update M)) (n k : ℕ) (u : Update M) (p : PlanMeant) → n ≡ suc k → slice_get us k ≡ Some u → IsStepAmong ms B D us n p → IsStepOver ms B (below M D us k) u p
  step_there D us n k u p e there s =
      subst (IsSomeThat (λ (v : Update M). IsStepOver ms B (below M D us k) v p)) there (subst (λ i. IsStepAmong ms B D us i p) e s)

  step_back : (D : List Fact) (us : List (Update M)) (n k : ℕ) (u : Update M) (p : PlanMeant) → n ≡ suc k → slice_get us k ≡ Some u → IsStepOver ms B (below M D us k) u p → IsStepAmong ms B D us n p
  step_back D us n k u p e there s =
      subst (λ i. IsStepAmong ms B D us i p) (sym e) (subst (IsSomeThat (λ (v : Update M). IsStepOver ms B (below M D us k) v p)) (sym there) s)

-- ---- after later entries

module _ (g : Ground) (some : 1 ≤ g.budget) (H : List PlainEntry) (legal : IsLegalOver g H) where
  -- The first entries of a legal history are one.
  front_legal : (n : ℕ) → IsLegalOver g (take n H)
  front_legal n =
      let early : List (Entry (machine g)) = entries_over g (take n H) in
      let later : List (Entry (machine g)) = drop n (entries_over g H) in
      let whole : early ++ later ≡ entries_over g H = ap (λ es. es ++ later) (sym (take-map (entry_kept g.rules g.budget) n H)) ∙ take-append-drop n (entries_over g H) in
      let front = (legal_law (machine g) (chase_laws caused g.rules g.budget some) g.settings (session_over g)).prefix early later (updates_after g H)
      (subst (λ (es : List (Entry (machine g))). IsLegal (machine g) g.settings (session_over g) es (updates_after g H)) (sym whole) legal) in
      (left_by g (take n H) front.0 front.1).legal

pub stayed : (g : Ground) (H : List PlainEntry) (p : PlanMeant) (n m : ℕ) → 1 ≤ g.budget → IsRepository g.base → IsLegalOver g H → plan_stale_by p g H n ≡ None → HoldsSince (IsStepOf p) g H n m → IsStepOf p g H m
stayed g H p n m some sorted legal none w =
    let M : Machine = machine g in
    let was : IsStepOf p g (take n H) m = w.then in
    let r : IsReady g (take n H) m = was.ready in
    let k : ℕ = r.place in
    let u : Update M = r.update in
    let us : List (Update M) = updates_after g (take n H) in
    let vs : List (Update M) = updates_after g H in
    let number : p.update ≡ suc k = was.update ∙ r.number in
    let same : u.state.operation ≡ u.operation = attempts_do g (take n H) k u some sorted (front_legal g some H legal n) r.ready in
    let step : IsStepOver g.rules g.budget (below M g.base us k) u p = step_there g.rules g.budget g.base us p.update k u p number r.ready.there was.step in
    let planned : WasPlanned g H n k u p.reads = record {
      stamped = w.stamped;
      ready = r.ready;
      asks = ap queries_of (step.reads ∙ reads_are g.rules g.budget (below M g.base us k) u.answers u.operation u.state same)
          ∙ queries_logged g.rules g.budget (step_log M u.operation (below M g.base us k) u.answers u.state);
      spared = subst (λ i. AllSpare {M = M} i (drop n (entries_over g H))) r.number w.spared;
    } in
    let still : IsStepStill M g.settings g.base us vs k u = stay_unless_stale g H n k u p.reads some sorted legal planned (subst (λ i. stale_by g.rules i p.reads H n ≡ None) number none) in
    record {
      update = was.update;
      ready = record { place = k; number = r.number; update = u; ready = still.now };
      step = step_back g.rules g.budget g.base vs p.update k u p number still.now.there
          (moved_over g.rules g.budget (below M g.base us k) (below M g.base vs k) u p same still.move still.reads step);
    }
