-- Where the mappings in force hold, they hold after each run and each line.
use Rattle.std.proofs.Common.{◌≡◌, ◌∙◌, ap, sym, refl, subst, ℕ, zero, suc, true, false, Bool, not, ◌||◌, ◌==◌, Option, Some, None, List, [], ◌∷◌, ◌++◌, filter, cond, nat_lt, arith, ◌⊎◌, inl, inr}
use Rattle.std.specs.Prelude.{slice_get, is_none, take}
use Rattle.std.proofs.lemmas.Bool.{eq-eqb, ne_eqb, cases_eq}
use Rattle.std.proofs.lemmas.Bool.Decides.{nat_tests}
use Rattle.def_machine.specs.Updates.{shown}
use Rattle.def_chase.specs.Values.{Fact}
use Rattle.def_chase.specs.Repository.{apply}
use Rattle.def_chase.specs.Mappings.{Rule, Holds, HoldFrom, AllHold}
use Rattle.def_chase.specs.Violations.{Every, first_violation}
use Rattle.def_chase.specs.Updates.{Operation, Choice}
use Rattle.def_chase.proofs.Bools.{or_left, or_right, some_same, none_some}
use Rattle.def_chase.proofs.Violations.{none_violates}
use Rattle.def_steps.specs.Attempts.{Done as EndedDone, Ended, Attempt}
use Rattle.def_steps.specs.Chase.{every, whole_chase}
use Rattle.def_steps.specs.Looking.{NoneLater}
use Rattle.def_steps.proofs.SerialHolding.{hold_after}
use Rattle.def_workspace.specs.Lines.{Update, Deed, Inserts, Deletes, Fills, Swaps, Fixes, Forces, Drops, Given, Declared, Line, Says, Answers, Goes as GoesLine, Undoes, Redoes, Forgets, Declares}
use Rattle.def_workspace.specs.Places.{Places, among}
use Rattle.def_workspace.specs.Runs.{Active, Setting, Thread, Rested, Rests, Halts, Reason, Violated, rules_of, run_op, begun_with}
use Rattle.def_workspace.specs.Ops.{Course, Going, Goes, Halted, take_op, after_op, ops_of, new_among}
use Rattle.def_workspace.specs.Worlds.{World, Waiting, Ran, Done, Left, active_by, active_in, drawing, fixing, hidden, begun, ended, enacted, enact_op, with_order, is_met, force_in, is_of_gone, setting, run_over, run_deed, unless_gone, run_update, settled, waiting_at, asks_it, taken_of}
use Rattle.def_workspace.specs.States.{Live, table_of, run_in, after_run, retried, answered_by, answered_at, gone_at, done_by, done_by_all, counting, first_live}
use Rattle.def_workspace.specs.KeepLaws.{MappingsHold, InForceHold, ArePlain, RunsKeepMappings, LinesKeepMappings, ReplaysKeepMappings}
use Rattle.def_workspace.proofs.Serially.{ops_are_serial, op_is_done, op_has_steps}
use Rattle.def_workspace.proofs.Keeping.{HoldsAt, ops_keep}

-- ---- lists of rules

abbrev AllPlain : List Rule → Type 0
AllPlain [] = Unit {0}
AllPlain (m ∷ ms) = (m.since ≡ 0) × AllPlain ms

abbrev AllMet : List Rule → List Fact → Type 0
AllMet [] D = Unit {0}
AllMet (m ∷ ms) D = Holds m D × AllMet ms D

met_all : (n : ℕ) (ms : List Rule) (D : List Fact) → AllPlain ms → HoldFrom n ms D → AllMet ms D
met_all n [] D p h = tt
met_all n (m ∷ ms) D p h = (h.0 (or_left (m.since == 0) _ (eq-eqb m.since 0 p.0)), met_all (suc n) ms D p.1 h.1)

never_later : (u k : ℕ) → k ≡ 0 → nat_lt u k ≡ true → ⊥
never_later u k e h = absurd (by (subst (λ j. nat_lt u j ≡ true) e h))
  where
    by : nat_lt u 0 ≡ true → ⊥
    by f = absurd (grind (arith, nat_tests, f))

none_later : (u n : ℕ) (ms : List Rule) (D : List Fact) → AllPlain ms → NoneLater u n ms D
none_later u n [] D p = tt
none_later u n (m ∷ ms) D p = (λ h. absurd (never_later u m.since p.0 h), none_later u (suc n) ms D p.1)

plain_both : (xs ys : List Active) → AllPlain (rules_of xs) → AllPlain (rules_of ys) → AllPlain (rules_of (xs ++ ys))
plain_both [] ys p q = q
plain_both (x ∷ xs) ys p q = (p.0, plain_both xs ys p.1 q)

plain_by : (m : ℕ) (o : Option Declared) → ((d : Declared) → o ≡ Some d → d.rule.since ≡ 0) → AllPlain (rules_of (active_by m o))
plain_by m None p = tt
plain_by m (Some d) p = (p d refl, tt)

plain_in : (ds : List Declared) (ms : List ℕ) → ArePlain ds → AllPlain (rules_of (active_in ds ms))
plain_in ds [] p = tt
plain_in ds (m ∷ ms) p = plain_both (active_by m (slice_get ds m)) (active_in ds ms) (plain_by m (slice_get ds m) (p m)) (plain_in ds ms p)

plain_drawing : (n : ℕ) → AllPlain (rules_of (drawing n))
plain_drawing zero = tt
plain_drawing (suc n) = (refl, tt)

plain_fixing : (m : ℕ) (o : Option Declared) → AllPlain (rules_of (fixing m o))
plain_fixing m None = tt
plain_fixing m (Some d) = (refl, tt)

plain_hidden : (ds : List Declared) (deed : Deed) → AllPlain (rules_of (hidden ds deed))
plain_hidden ds (Inserts ts) = plain_drawing (new_among ts)
plain_hidden ds (Deletes ts) = tt
plain_hidden ds (Fills u v) = tt
plain_hidden ds (Swaps t u) = plain_drawing (new_among (u ∷ []))
plain_hidden ds (Fixes m vs) = plain_fixing m (slice_get ds m)
plain_hidden ds (Forces m) = tt
plain_hidden ds (Drops m) = tt

-- ---- an op

shown_all : (ms : List Rule) (B : ℕ) (P : Attempt) → P.phase ≡ Ended EndedDone → shown (whole_chase ms B) P ≡ P.own
shown_all ms B P e = rw e refl

-- What an op leaves meets all the mappings that are in force during it.
op_meets : (n B : ℕ) (as' : List Active) (D : List Fact) (seq : ℕ) (op : Operation) (t : Thread) (P : Attempt) (cs : List Choice) (u : Thread)
    → AllPlain (rules_of as') → run_op record { scope = every; number = n; steps = B; active = as' } D seq op t ≡ Rests P cs u
    → AllMet (rules_of as') (apply D P.own)
op_meets n B as' D seq op t P cs u plain e =
    let s : Setting = record { scope = every; number = n; steps = B; active = as' } in
    let done : P.phase ≡ Ended EndedDone = op_is_done s D seq op t P cs u e in
    let holds : AllHold (rules_of as') (apply D (shown (whole_chase (rules_of as') B) P)) =
    (hold_after (rules_of as') B D record { number = seq; attempt = 0; operation = op; answers = cs } P
    (op_has_steps s D B seq op (begun_with D op t) P cs u e) (ops_are_serial s D seq op t P cs u e)).done
    done (none_later seq 0 (rules_of as') (apply D P.own) plain) in
    met_all 0 (rules_of as') (apply D P.own) plain
    (subst (λ ws. AllHold (rules_of as') (apply D ws)) (shown_all (rules_of as') B P done) holds)

-- ---- the mappings in force among those of a run

met_front : (xs ys : List Active) (D : List Fact) → AllMet (rules_of (xs ++ ys)) D → AllMet (rules_of xs) D
met_front [] ys D h = tt
met_front (x ∷ xs) ys D h = (h.0, met_front xs ys D h.1)

met_back : (xs ys : List Active) (D : List Fact) → AllMet (rules_of (xs ++ ys)) D → AllMet (rules_of ys) D
met_back [] ys D h = h
met_back (x ∷ xs) ys D h = met_back xs ys D h.1

met_by : (m : ℕ) (o : Option Declared) (d : Declared) (D : List Fact) → o ≡ Some d → AllMet (rules_of (active_by m o)) D → Holds d.rule D
met_by m None d D e h = absurd (none_some d e)
met_by m (Some c) d D e h = subst (λ (x : Declared). Holds x.rule D) (some_same c d e) h.0

met_in : (ds : List Declared) (ms : List ℕ) (D : List Fact) → AllMet (rules_of (active_in ds ms)) D → MappingsHold ds ms D
met_in ds [] D h m d a e = absurd (never a)
  where
    never : false ≡ true → ⊥
    never f = absurd (grind (arith, f))
met_in ds (k ∷ ks) D h m d a e =
    by (cases_eq k m) (λ b. met_in ds ks D (met_back (active_by k (slice_get ds k)) (active_in ds ks) D h) m d b e)
  where
    by : (k ≡ m) ⊎ (k ≡ m → ⊥) → (among ks m ≡ true → Holds d.rule D) → Holds d.rule D
    by (inl same) later = met_by k (slice_get ds k) d D (ap (slice_get ds) same ∙ e) (met_front (active_by k (slice_get ds k)) (active_in ds ks) D h)
    by (inr other) later = later (ap (λ b. b || among ks m) (sym (ne_eqb k m other)) ∙ a)

-- ---- a run

abbrev world_in : World → Ran → World
world_in d (Done v ps n) = v
world_in d (Left r ps n) = d

abbrev is_done : Ran → Type 0
is_done (Done v ps n) = Unit {0}
is_done (Left r ps n) = ⊥

not_left : (r : Reason) (ps : Places) (n : ℕ) (v : World) (qs : Places) (k : ℕ) → Left r ps n ≡ Done v qs k → ⊥
not_left r ps n v qs k e = subst is_done (sym e) tt

-- In what is done, the mappings in force hold.
abbrev KeptIn : List Declared → Ran → Type 0
KeptIn ds (Done v ps n) = InForceHold ds v
KeptIn ds (Left r ps n) = Unit {0}

module _ (ds : List Declared) (w : World) (plain : ArePlain ds) (hold : InForceHold ds w) where
  abbrev Kept : Course → Type 0
  Kept c = MappingsHold ds w.in_force c.facts

  plain_all : (u : Update) → AllPlain (rules_of (active_in ds w.in_force ++ hidden ds u.deed))
  plain_all u = plain_both (active_in ds w.in_force) (hidden ds u.deed) (plain_in ds w.in_force plain) (plain_hidden ds u.deed)

  op_keeps : (u : Update) (op : Operation) (c : Course) → Kept c → HoldsAt Kept (λ t. Unit {0}) (take_op (setting every ds w u) op c)
  op_keeps u op c k = by (run_op (setting every ds w u) c.facts (suc c.last) op c.thread) refl
    where
      by : (r : Rested) → run_op (setting every ds w u) c.facts (suc c.last) op c.thread ≡ r → HoldsAt Kept (λ t. Unit {0}) (after_op c op r)
      by (Rests P cs t) f =
          met_in ds w.in_force (apply c.facts P.own)
          (met_front (active_in ds w.in_force) (hidden ds u.deed) (apply c.facts P.own)
          (op_meets u.number u.steps (active_in ds w.in_force ++ hidden ds u.deed) c.facts (suc c.last) op c.thread P cs t (plain_all u) f))
      by (Halts r t) f = tt

  over : (ps : Places) (u : Update) (gs : List Given) → KeptIn ds (run_over every ds w ps u gs)
  over ps u gs =
      by (ops_of (setting every ds w u) u.deed (begun w ps gs))
      (ops_keep (setting every ds w u) Kept (λ t. Unit {0}) (λ c h. tt) (op_keeps u) u.deed (begun w ps gs) hold)
    where
      by : (g : Going) → HoldsAt Kept (λ t. Unit {0}) g → KeptIn ds (ended w u gs g)
      by (Goes c) h = h
      by (Halted r t) h = tt

  met_now : (o : Option Declared) (d : Declared) → o ≡ Some d → is_met w.facts o ≡ true → Holds d.rule w.facts
  met_now None d e h = absurd (none_some d e)
  met_now (Some c) d e h = subst (λ (x : Declared). Holds x.rule w.facts) (some_same c d e) (none_violates c.rule [] w.facts (by (first_violation Every [] c.rule w.facts) h))
    where
      by : (o : Option (List Fact)) → is_none o ≡ true → o ≡ None
      by None f = refl
      by (Some x) f = absurd (grind (arith, f))

  among_more : (ms : List ℕ) (m k : ℕ) → among (ms ++ k ∷ []) m ≡ true → (among ms m ≡ true) ⊎ (k ≡ m)
  among_more [] m k a = by (cases_eq k m)
    where
      by : (k ≡ m) ⊎ (k ≡ m → ⊥) → (false ≡ true) ⊎ (k ≡ m)
      by (inl e) = inr e
      by (inr n) = inl (ap (λ b. b || false) (sym (ne_eqb k m n)) ∙ a)
  among_more (j ∷ ms) m k a = by (j == m) refl (among_more ms m k)
    where
      by : (b : Bool) → (j == m) ≡ b → (among (ms ++ k ∷ []) m ≡ true → (among ms m ≡ true) ⊎ (k ≡ m)) → ((j == m) || among ms m) ≡ true ⊎ (k ≡ m)
      by true e later = inl (or_left (j == m) (among ms m) e)
      by false e later = elim (later (ap (λ b. b || among (ms ++ k ∷ []) m) (sym e) ∙ a)) [ inl x ↦ inl (rw e x) | inr y ↦ inr y ]

  among_fewer : (ms : List ℕ) (q : ℕ → Bool) (m : ℕ) → among (filter q ms) m ≡ true → among ms m ≡ true
  among_fewer [] q m a = a
  among_fewer (j ∷ ms) q m a = by (q j) (among_fewer ms q m) a
    where
      by : (b : Bool) → (among (filter q ms) m ≡ true → among ms m ≡ true) → among (cond b (j ∷ filter q ms) (filter q ms)) m ≡ true → ((j == m) || among ms m) ≡ true
      by true later f = either (j == m) later f
        where
          either : (c : Bool) → (among (filter q ms) m ≡ true → among ms m ≡ true) → (c || among (filter q ms) m) ≡ true → (c || among ms m) ≡ true
          either true later f = refl
          either false later f = later f
      by false later f = or_right (j == m) (among ms m) (later f)

  forced : (ps : Places) (u : Update) (m : ℕ) → KeptIn ds (force_in ds w ps u m)
  forced ps u m = by (among w.in_force m) (is_met w.facts (slice_get ds m)) refl
    where
      held : is_met w.facts (slice_get ds m) ≡ true → MappingsHold ds (w.in_force ++ m ∷ []) w.facts
      held met k d a e =
          elim (among_more w.in_force k m a)
          [ inl x ↦ hold k d x e | inr same ↦ met_now (slice_get ds m) d (ap (slice_get ds) same ∙ e) met ]

      by : (b c : Bool) → is_met w.facts (slice_get ds m) ≡ c
          → KeptIn ds (cond b (Done (with_order w record { update = u; answers = []; ops = [] }) ps 0)
          (cond c (Done (with_order (enacted w m) record { update = u; answers = []; ops = enact_op w m }) ps 0) (Left (Violated m) ps 0)))
      by true c e = hold
      by false true e = held e
      by false false e = tt

  deeds : (ps : Places) (u : Update) (gs : List Given) (deed : Deed) → KeptIn ds (run_deed every ds w ps u gs deed)
  deeds ps u gs (Inserts ts) = over ps u gs
  deeds ps u gs (Deletes ts) = over ps u gs
  deeds ps u gs (Fills v d) = over ps u gs
  deeds ps u gs (Swaps t v) = over ps u gs
  deeds ps u gs (Fixes m vs) = over ps u gs
  deeds ps u gs (Forces m) = forced ps u m
  deeds ps u gs (Drops m) = λ k d a e. hold k d (among_fewer w.in_force (λ j. not (j == m)) k a) e

  pub runs : (ps : Places) (u : Update) (gs : List Given) → KeptIn ds (run_update every ds w ps u gs)
  runs ps u gs = by (is_of_gone w u.deed)
    where
      by : (o : Option ℕ) → KeptIn ds (unless_gone o ps (run_deed every ds w ps u gs u.deed))
      by None = deeds ps u gs u.deed
      by (Some m) = tt

-- In what stands after a run.
kept_settled : (ds : List Declared) (w : World) (u : Update) (gs : List Given) (r : Ran) → InForceHold ds w → KeptIn ds r → InForceHold ds (settled w u gs r)
kept_settled ds w u gs (Done v ps n) h k = k
kept_settled ds w u gs (Left r ps n) h k = h

pub runs_keep : RunsKeepMappings
runs_keep ds w v ps qs u gs n plain hold e = subst (KeptIn ds) e (runs ds w plain hold ps u gs)

-- ---- lines

module _ (ds : List Declared) (plain : ArePlain ds) where
  after : (l : Live) (u : Update) (gs : List Given) → InForceHold ds l.world → InForceHold ds (after_run l u gs (run_in every ds l u gs)).world
  after l u gs h = kept_settled ds l.world u gs (run_in every ds l u gs) h (runs ds l.world plain h (table_of l.tables u.number) u gs)

  by_answer : (l : Live) (v : Waiting) (g : Given) (r : Ran) → InForceHold ds l.world → InForceHold ds (answered_by every ds l v g r).world
  by_answer l v g r h = by (asks_it r g.asked)
    where
      by : (b : Bool) → InForceHold ds (cond b (retried every ds l v.update (take (taken_of r) v.answers ++ g ∷ [])) l).world
      by true = after l v.update (take (taken_of r) v.answers ++ g ∷ []) h
      by false = h

  at_answer : (l : Live) (g : Given) (o : Option Waiting) → InForceHold ds l.world → InForceHold ds (answered_at every ds l g o).world
  at_answer l g None h = h
  at_answer l g (Some v) h = by_answer l v g (run_in every ds l v.update v.answers) h

  at_go : (l : Live) (o : Option Waiting) → InForceHold ds l.world → InForceHold ds (gone_at every ds l o).world
  at_go l None h = h
  at_go l (Some v) h = after l v.update (take (taken_of (run_in every ds l v.update v.answers)) v.answers) h

  line : (l : Live) (x : Line) → InForceHold ds l.world → InForceHold ds (done_by every ds l x).world
  line l (Says u) h = after l u [] h
  line l (Answers n g) h = at_answer l g (waiting_at l.world n) h
  line l (GoesLine n) h = at_go l (waiting_at l.world n) h
  line l (Undoes ns) h = h
  line l (Redoes ns) h = h
  line l (Forgets ns) h = h
  line l (Declares d) h = h

  lines : (l : Live) (xs : List Line) → InForceHold ds l.world → InForceHold ds (done_by_all every ds l xs).world
  lines l [] h = h
  lines l (x ∷ xs) h = lines (done_by every ds l x) xs (line l x h)

pub lines_keep : LinesKeepMappings
lines_keep ds l x plain h = line ds plain l x h

pub replays_keep : ReplaysKeepMappings
replays_keep S plain h = lines S.declared plain (first_live S) (counting S 0 S.lines) h
