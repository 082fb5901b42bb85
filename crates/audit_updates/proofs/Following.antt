-- The step of a plan is the step of the update.
use Rattle.std.proofs.Common.{◌≡◌, ◌∙◌, ap, sym, refl, ℕ, suc, zero, ◌<◌, ◌-◌, ◌+◌, Bool, true, false, List, [], ◌++◌, map, length, take, drop, arith}
use Rattle.std.specs.Prelude.{if◌then◌else◌}
use Rattle.std.proofs.lemmas.List.{map-append, drop-map, drop_at, length-map, length-append, take_rest}
use Rattle.std.proofs.lemmas.Simd.{map-map}
use Rattle.base_types.specs.Listed.{Listed}
use Rattle.base_types.specs.Meanings.{change_of, choice_of}
use Rattle.base_types.specs.declared.updates.Write.{Write}
use Rattle.def_machine.specs.Trees.{result_of, log_of}
use Rattle.def_machine.specs.Steps.{stepped, step_log, step_writes}
use Rattle.def_machine.specs.Standings.{next_answer}
use Rattle.def_machine.specs.Updates.{Update, hides, shown}
use Rattle.def_chase.specs.Values.{Fact}
use Rattle.def_chase.specs.Mappings.{Rule}
use Rattle.def_chase.specs.Repository.{Change}
use Rattle.chase_update.specs.Logged.{read_after}
use Rattle.chase_plan.specs.Planned.{answers_over, next_attempt}
use Rattle.chase_plan.specs.declared.plans.Plan.{Plan}
use Rattle.chase_query.specs.Meanings.{Read, reads_in}
use Rattle.chase_update.specs.Courses.{State}
use Rattle.chase_query.specs.declared.log.Logged.{Logged}
use Rattle.chase_query.proofs.Entries.{in_both}
use Rattle.def_steps.specs.Attempts.{outcome_in}
use Rattle.def_steps.specs.Steps.{step}
use Rattle.def_steps.specs.Chase.{caused_chase, ending}
use Rattle.std.specs.Option.{option_map}
use Rattle.audit_updates.specs.Events.{HasStepped, KeepsPlaceBy}
use Rattle.audit_updates.specs.Programs.{IsPlanOf}
use Rattle.audit_updates.specs.Updates.{logged, update_of}
use Rattle.audit_updates.specs.declared.updates.AuditedUpdate.{AuditedUpdate}

-- After the step the log is that of the step.
logs : (ms : List Rule) (B : ℕ) (D : List Fact) (r : AuditedUpdate) (plan : Plan) (log : List Logged) → IsPlanOf ms B D r plan → log ≡ r.log.items ++ plan.reads.items
    → map (logged ms B) (reads_in log) ≡ map (logged ms B) (reads_in r.log.items) ++ step_log (caused_chase ms B) r.program.attempt.operation D (map choice_of r.answers.items) r.program.attempt
logs ms B D r plan log p e =
    let P = r.program.attempt in
    let c = next_answer (caused_chase ms B) (map choice_of r.answers.items) P in
    let before = map (logged ms B) (reads_in r.log.items) in
    ap (λ (es : List Logged). map (logged ms B) (reads_in es)) e
    ∙ (ap (λ (rs : List Read). map (logged ms B) rs) (in_both r.log.items plan.reads.items)
    ∙ (map-append (logged ms B) (reads_in r.log.items) (reads_in plan.reads.items)
    ∙ ap (λ (rs : List Read). before ++ map (logged ms B) rs) p.reads
    ∙ (λ i. before ++ map-map (logged ms B) (read_after (length P.own)) (log_of (answers_over ms D P) (step ms P c)) i)))

-- With the attempt and the reads of the plan taken over, the step is made.
pub stepped_by : (ms : List Rule) (B : ℕ) (D : List Fact) (r : AuditedUpdate) (plan : Plan) (log : List Logged) → IsPlanOf ms B D r plan → log ≡ r.log.items ++ plan.reads.items
    → ◌≡◌ {A = Update (caused_chase ms B)}
    (record {
      operation = plan.program.attempt.operation;
      attempt = plan.program.attempt.attempt;
      state = plan.program.attempt;
      log = map (logged ms B) (reads_in log);
      withdrawn = r.withdrawn;
      answers = map choice_of r.answers.items;
      inbox = map choice_of r.inbox.items;
    })
    (stepped (caused_chase ms B) D (update_of ms B r))
stepped_by ms B D r plan log p e =
    let state = p.program in
    let all = logs ms B D r plan log p e in
    λ j. record {
      operation = (state j).attempt.operation;
      attempt = (state j).attempt.attempt;
      state = (state j).attempt;
      log = all j;
      withdrawn = r.withdrawn;
      answers = map choice_of r.answers.items;
      inbox = map choice_of r.inbox.items;
    }

drop_none : {A : Type 0} (n : ℕ) → ◌≡◌ {A = List A} (drop n []) []
drop_none zero = refl
drop_none (suc n) = refl

after : (b : Bool) (own more : List Change) (ws : List Write) (n : ℕ) → n ≡ length own → map change_of ws ≡ (if b then [] else own ++ more) → map change_of (drop n ws) ≡ (if b then [] else more)
after true own more ws n e h = sym (drop-map change_of n ws) ∙ (ap (drop n) h ∙ drop_none n)
after false own more ws n e h = sym (drop-map change_of n ws) ∙ (ap (drop n) h ∙ drop_at own more n (sym e))

none_after : (b : Bool) (own more : List Change) (ws : List Write) (n : ℕ) → n ≡ length own → map change_of ws ≡ (if b then [] else own ++ more) → length ws < n → [] ≡ (if b then [] else more)
none_after true own more ws n e h l = refl
none_after false own more ws n e h l =
    let long : length ws ≡ length own + length more = sym (length-map ws change_of) ∙ (ap length h ∙ length-append own more) in
    absurd (omega (arith, long, e, l))

-- After the writes that were shown before come those of the step.
pub written : (ms : List Rule) (B : ℕ) (D : List Fact) (r : AuditedUpdate) (plan : Plan) (ws vs : List Write) (n : ℕ) → IsPlanOf ms B D r plan → map change_of ws ≡ shown (caused_chase ms B) plan.program.attempt
    → n ≡ length r.program.attempt.own → vs ≡ take (length ws - n) (drop n ws) → map change_of vs ≡ step_writes (caused_chase ms B) D (update_of ms B r)
written ms B D r plan ws vs n p h e f =
    let P = r.program.attempt in
    let c = next_answer (caused_chase ms B) (map choice_of r.answers.items) P in
    let m = result_of (answers_over ms D P) (step ms P c) in
    ap (map change_of) (f ∙ take_rest ws n)
    ∙ after (hides (option_map ending (outcome_in (next_attempt ms B D P c).phase))) P.own m.writes ws n e (h ∙ ap (λ (t : State). shown (caused_chase ms B) t.attempt) p.program)

-- Where fewer are shown than were made before, the step shows none.
pub unwritten : (ms : List Rule) (B : ℕ) (D : List Fact) (r : AuditedUpdate) (plan : Plan) (ws : List Write) (n : ℕ) → IsPlanOf ms B D r plan → map change_of ws ≡ shown (caused_chase ms B) plan.program.attempt
    → n ≡ length r.program.attempt.own → length ws < n → [] ≡ step_writes (caused_chase ms B) D (update_of ms B r)
unwritten ms B D r plan ws n p h e l =
    let P = r.program.attempt in
    let c = next_answer (caused_chase ms B) (map choice_of r.answers.items) P in
    let m = result_of (answers_over ms D P) (step ms P c) in
    none_after (hides (option_map ending (outcome_in (next_attempt ms B D P c).phase))) P.own m.writes ws n e (h ∙ ap (λ (t : State). shown (caused_chase ms B) t.attempt) p.program) l

-- ---- a log with more room

-- The audited update with this log.
abbrev with_log : AuditedUpdate → Listed Logged → AuditedUpdate
with_log r log = record { program = r.program; log = log; withdrawn = r.withdrawn; answers = r.answers; inbox = r.inbox }

-- What a step makes of an audited update rests on the reads of its log alone.
pub stepped_roomy : (r : AuditedUpdate) (log : Listed Logged) (plan : Plan) (r' : AuditedUpdate) → log.items ≡ r.log.items → HasStepped plan (with_log r log) r' → HasStepped plan r r'
stepped_roomy r log plan r' e h ms B D p =
    h ms B D (record { program = p.program; reads = p.reads })
    ∙ ap (λ (xs : List Logged). stepped (caused_chase ms B) D (update_of ms B (with_log r (record { items = xs; spare = log.spare })))) e

pub placed_roomy : (r : AuditedUpdate) (log : Listed Logged) (plan : Plan) (r' : AuditedUpdate) → KeepsPlaceBy plan (with_log r log) r' → KeepsPlaceBy plan r r'
placed_roomy r log plan r' h ms B D n p s = h ms B D n (record { program = p.program; reads = p.reads }) (record { number = s.number; between = s.between })
