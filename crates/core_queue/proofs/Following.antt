-- The step of a plan is the step of the update.
use Rattle.std.proofs.Common.{◌≡◌, ◌∙◌, ap, subst, sym, refl, ℕ, suc, zero, ◌<◌, ◌-◌, ◌+◌, Bool, true, false, List, [], ◌++◌, map, length, take, drop, arith}
use Rattle.std.specs.Prelude.{if◌then◌else◌}
use Rattle.std.proofs.lemmas.List.{map-append, drop-map, drop_at, length-map, length-append, take_rest}
use Rattle.std.proofs.lemmas.Simd.{map-map}
use Rattle.base_types.specs.Meanings.{change_of, choice_of}
use Rattle.base_types.specs.declared.updates.Write.{Write}
use Rattle.core_conflict.specs.Footprints.{Covers}
use Rattle.core_conflict.specs.declared.footprints.Footprint.{Footprint}
use Rattle.def_machine.specs.Trees.{result_of, log_of}
use Rattle.def_machine.specs.Steps.{stepped, step_log, step_writes}
use Rattle.def_machine.specs.Standings.{next_answer}
use Rattle.def_machine.specs.Updates.{Update, hides, shown}
use Rattle.def_chase.specs.Values.{Fact}
use Rattle.def_chase.specs.Mappings.{Rule}
use Rattle.def_chase.specs.Repository.{Change}
use Rattle.chase_update.specs.Logged.{read_after}
use Rattle.chase_plan.specs.Planned.{answers_over, next_attempt}
use Rattle.chase_plan.specs.declared.plans.Plan.{Plan}
use Rattle.chase_query.specs.Meanings.{Read, reads_in}
use Rattle.chase_update.specs.Courses.{State}
use Rattle.chase_query.specs.declared.log.Logged.{Logged}
use Rattle.chase_query.proofs.Entries.{in_both}
use Rattle.def_steps.specs.Attempts.{outcome_in}
use Rattle.def_steps.specs.Steps.{step}
use Rattle.def_steps.specs.Chase.{caused_chase, ending}
use Rattle.std.specs.Option.{option_map}
use Rattle.core_queue.specs.Programs.{IsPlanOf}
use Rattle.core_queue.specs.Queues.{logged, update_of}
use Rattle.core_queue.specs.declared.updates.QueuedUpdate.{QueuedUpdate}

-- After the step the log is that of the step.
logs : (ms : List Rule) (B : ℕ) (D : List Fact) (r : QueuedUpdate) (plan : Plan) (log : List Logged) → IsPlanOf ms B D r plan → log ≡ r.log.items ++ plan.reads.items
    → map (logged ms B) (reads_in log) ≡ map (logged ms B) (reads_in r.log.items) ++ step_log (caused_chase ms B) r.program.attempt.operation D (map choice_of r.answers.items) r.program.attempt
logs ms B D r plan log p e =
    let P = r.program.attempt in
    let c = next_answer (caused_chase ms B) (map choice_of r.answers.items) P in
    let before = map (logged ms B) (reads_in r.log.items) in
    ap (λ (es : List Logged). map (logged ms B) (reads_in es)) e
    ∙ (ap (λ (rs : List Read). map (logged ms B) rs) (in_both r.log.items plan.reads.items)
    ∙ (map-append (logged ms B) (reads_in r.log.items) (reads_in plan.reads.items)
    ∙ ap (λ (rs : List Read). before ++ map (logged ms B) rs) p.reads
    ∙ (λ i. before ++ map-map (logged ms B) (read_after (length P.own)) (log_of (answers_over ms D P) (step ms P c)) i)))

-- With the attempt and the reads of the plan taken over, the step is made.
pub stepped_by : (ms : List Rule) (B : ℕ) (D : List Fact) (r : QueuedUpdate) (plan : Plan) (log : List Logged) → IsPlanOf ms B D r plan → log ≡ r.log.items ++ plan.reads.items
    → ◌≡◌ {A = Update (caused_chase ms B)}
    (record {
      operation = plan.program.attempt.operation;
      attempt = plan.program.attempt.attempt;
      state = plan.program.attempt;
      log = map (logged ms B) (reads_in log);
      withdrawn = r.withdrawn;
      answers = map choice_of r.answers.items;
      inbox = map choice_of r.inbox.items;
    })
    (stepped (caused_chase ms B) D (update_of ms B r))
stepped_by ms B D r plan log p e =
    let state = p.program in
    let all = logs ms B D r plan log p e in
    λ j. record {
      operation = (state j).attempt.operation;
      attempt = (state j).attempt.attempt;
      state = (state j).attempt;
      log = all j;
      withdrawn = r.withdrawn;
      answers = map choice_of r.answers.items;
      inbox = map choice_of r.inbox.items;
    }

drop_none : {A : Type 0} (n : ℕ) → ◌≡◌ {A = List A} (drop n []) []
drop_none zero = refl
drop_none (suc n) = refl

after : (b : Bool) (own more : List Change) (ws : List Write) (n : ℕ) → n ≡ length own → map change_of ws ≡ (if b then [] else own ++ more) → map change_of (drop n ws) ≡ (if b then [] else more)
after true own more ws n e h = sym (drop-map change_of n ws) ∙ (ap (drop n) h ∙ drop_none n)
after false own more ws n e h = sym (drop-map change_of n ws) ∙ (ap (drop n) h ∙ drop_at own more n (sym e))

none_after : (b : Bool) (own more : List Change) (ws : List Write) (n : ℕ) → n ≡ length own → map change_of ws ≡ (if b then [] else own ++ more) → length ws < n → [] ≡ (if b then [] else more)
none_after true own more ws n e h l = refl
none_after false own more ws n e h l =
    let long : length ws ≡ length own + length more = sym (length-map ws change_of) ∙ (ap length h ∙ length-append own more) in
    absurd (omega (arith, long, e, l))

-- After the writes that were shown before come those of the step.
pub written : (ms : List Rule) (B : ℕ) (D : List Fact) (r : QueuedUpdate) (plan : Plan) (ws vs : List Write) (n : ℕ) → IsPlanOf ms B D r plan → map change_of ws ≡ shown (caused_chase ms B) plan.program.attempt
    → n ≡ length r.program.attempt.own → vs ≡ take (length ws - n) (drop n ws) → map change_of vs ≡ step_writes (caused_chase ms B) D (update_of ms B r)
written ms B D r plan ws vs n p h e f =
    let P = r.program.attempt in
    let c = next_answer (caused_chase ms B) (map choice_of r.answers.items) P in
    let m = result_of (answers_over ms D P) (step ms P c) in
    ap (map change_of) (f ∙ take_rest ws n)
    ∙ after (hides (option_map ending (outcome_in (next_attempt ms B D P c).phase))) P.own m.writes ws n e (h ∙ ap (λ (t : State). shown (caused_chase ms B) t.attempt) p.program)

-- Where fewer are shown than were made before, the step shows none.
pub unwritten : (ms : List Rule) (B : ℕ) (D : List Fact) (r : QueuedUpdate) (plan : Plan) (ws : List Write) (n : ℕ) → IsPlanOf ms B D r plan → map change_of ws ≡ shown (caused_chase ms B) plan.program.attempt
    → n ≡ length r.program.attempt.own → length ws < n → [] ≡ step_writes (caused_chase ms B) D (update_of ms B r)
unwritten ms B D r plan ws n p h e l =
    let P = r.program.attempt in
    let c = next_answer (caused_chase ms B) (map choice_of r.answers.items) P in
    let m = result_of (answers_over ms D P) (step ms P c) in
    none_after (hides (option_map ending (outcome_in (next_attempt ms B D P c).phase))) P.own m.writes ws n e (h ∙ ap (λ (t : State). shown (caused_chase ms B) t.attempt) p.program) l

-- The own writes of a plan are those that were made before and those after them.
pub own_by : (ms : List Rule) (B : ℕ) (D : List Fact) (r : QueuedUpdate) (plan : Plan) (ws : List Change) (n : ℕ) → IsPlanOf ms B D r plan → n ≡ length r.program.attempt.own → ws ≡ drop n plan.program.attempt.own
    → r.program.attempt.own ++ ws ≡ plan.program.attempt.own
own_by ms B D r plan ws n p e f =
    let P = r.program.attempt in
    let c = next_answer (caused_chase ms B) (map choice_of r.answers.items) P in
    let m = result_of (answers_over ms D P) (step ms P c) in
    let own = ap (λ (t : State). t.attempt.own) p.program in
    ap (λ (vs : List Change). P.own ++ vs) (f ∙ (ap (drop n) own ∙ drop_at P.own m.writes n (sym e))) ∙ sym own

-- The footprint is that of the attempt that was taken over, and of all its reads.
pub covers_by : (e : Footprint) (own own' : List Change) (before reads log : List Logged) → Covers e own (reads_in before ++ reads_in reads) → own ≡ own' → log ≡ before ++ reads → Covers e own' (reads_in log)
covers_by e own own' before reads log c o l =
    subst (λ (ws : List Change). Covers e ws (reads_in log)) o
    (subst (λ (rs : List Read). Covers e own rs) (sym (ap reads_in l ∙ in_both before reads)) c)
