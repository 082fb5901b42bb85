-- A run with a longer table, which has all places that the run gave, gives the same names and has the same end.
use Rattle.std.proofs.Common.{◌≡◌, ◌∙◌, ap, refl, ℕ, zero, suc, true, false, Bool, Option, Some, None, List, [], ◌∷◌, ◌++◌, map, cond}
use Rattle.std.specs.Prelude.{slice_get}
use Rattle.def_chase.specs.Values.{Datum, Fact}
use Rattle.def_chase.specs.Mappings.{image_under, listed}
use Rattle.def_chase.specs.Updates.{Operation, Choice}
use Rattle.def_chase.specs.Violations.{Scope}
use Rattle.def_steps.specs.Attempts.{Done as EndedDone, Spent, Refused, Repair, Question, Phase, Start, Look, Generate, Asked, Ended, Attempt, begun as begun_attempt}
use Rattle.def_steps.specs.Steps.{Move}
use Rattle.def_workspace.specs.Lines.{Update, Deed, Inserts, Deletes, Fills, Swaps, Fixes, Forces, Drops, Given, Declared, Source}
use Rattle.def_workspace.specs.Names.{fact_named}
use Rattle.def_workspace.specs.Places.{Places, among, greatest}
use Rattle.def_workspace.specs.Runs.{Active, Setting, Thread, Rested, Rests, Halts, Reason, TooLong, Violated, named_by, draw_one, draw_from, repair_at, drawn_by, drawn_at, drawn, fitting, answered, move_by, next, by_choice, by_phase, run, run_op, begun_with}
use Rattle.def_workspace.specs.Ops.{Course, Going, Goes, Halted, onto, take_op, after_op, ops_of}
use Rattle.def_workspace.specs.Worlds.{World, Ran, Done, Left, places_of, begun, ended, is_met, force_in, enacted, enact_op, with_order, is_of_gone, setting, run_over, run_deed, unless_gone, run_update}
use Rattle.def_workspace.specs.NameLaws.{Grows}
use Rattle.ws_laws.proofs.Growing.{no_more, further}
use Rattle.ws_laws.proofs.Beside.{put_in, with_thread, thread_of, ops_beside}
use Rattle.ws_laws.proofs.Placing.{AtMost, gives, given_stand, given_again}

-- The places that were given in the run stand in the table.
abbrev Fine : Thread → Type 0
Fine t = AtMost (greatest t.places) t.given

abbrev table_in : Places → Thread → Thread
table_in U t = put_in U t.answers t

-- ---- names that are drawn

-- From one thread to another: the table grows, and with each table that has all its places the same comes of it.
abbrev Draws : Thread → Thread → (Places → Thread) → Type 0
Draws t u f = Grows t.places u.places × (Fine t → Fine u) × (Fine t → (U : Places) → Grows u.places U → f U ≡ table_in U u)

no_draw : (t : Thread) → Draws t t (λ U. table_in U t)
no_draw t = (no_more t.places, λ h. h, λ h U w. refl)

then_draw : (t u : Thread) (f : Places → Thread) (k : Thread → Thread) → Draws t u f → Draws u (k u) (λ U. k (table_in U u)) → Draws t (k u) (λ U. k (f U))
then_draw t u f k a b = (
  further t.places u.places (k u).places a.0 b.0,
  λ h. b.1 (a.1 h),
  λ h U w. ap k (a.2 h U (further u.places (k u).places U b.0 w)) ∙ b.2 (a.1 h) U w,
)

module _ (number seq : ℕ) (source : Source) (image : List Fact) where
  one_drawn : (k v : ℕ) (t : Thread) → Draws t (draw_one number seq source image k v t) (λ U. draw_one number seq source image k v (table_in U t))
  one_drawn k v t = (
    gives t.places t.given record { source = source; variable = v; image = image },
    given_stand t.places t.given record { source = source; variable = v; image = image },
    λ h U w. ap (λ g. named_by g number seq k (table_in U t)) (given_again t.places t.given record { source = source; variable = v; image = image } U h w),
  )

  some_drawn : (n k v : ℕ) (t : Thread) → Draws t (draw_from number seq source image n k v t) (λ U. draw_from number seq source image n k v (table_in U t))
  some_drawn zero k v t = no_draw t
  some_drawn (suc n) k v t =
      then_draw t (draw_one number seq source image k v t) (λ U. draw_one number seq source image k v (table_in U t))
      (draw_from number seq source image n (suc k) (suc v)) (one_drawn k v t) (some_drawn n (suc k) (suc v) (draw_one number seq source image k v t))

pub draws : (s : Setting) (P : Attempt) (m : Move) (t : Thread) → Draws t (drawn s P m t) (λ U. drawn s P m (table_in U t))
draws s P m t = by (repair_at m.phase)
  where
    at : (ds : List Datum) (o : Option Active) → Draws t (drawn_by s.number P.number m.drawn P.nulls ds o t) (λ U. drawn_by s.number P.number m.drawn P.nulls ds o (table_in U t))
    at ds None = no_draw t
    at ds (Some a) =
        some_drawn s.number P.number a.source (map (fact_named t.names) (image_under (listed ds) a.rule.left)) m.drawn (suc P.nulls) a.rule.universal t

    by : (o : Option Repair) → Draws t (drawn_at s P.number m.drawn P.nulls o t) (λ U. drawn_at s P.number m.drawn P.nulls o (table_in U t))
    by None = no_draw t
    by (Some r) = at r.binding (slice_get s.active r.mapping)

-- ---- an op

abbrev pub thread_at : Rested → Thread
thread_at (Rests P cs t) = t
thread_at (Halts r t) = t

abbrev rested_in : Places → Rested → Rested
rested_in U (Rests P cs t) = Rests P cs (table_in U t)
rested_in U (Halts r t) = Halts r (table_in U t)

abbrev Comes : Thread → Rested → (Places → Rested) → Type 0
Comes t r f =
    Grows t.places (thread_at r).places × (Fine t → Fine (thread_at r)) × (Fine t → (U : Places) → Grows (thread_at r).places U → f U ≡ rested_in U r)

then_come : (t u : Thread) (f : Places → Thread) (k : Thread → Rested) → Draws t u f → Comes u (k u) (λ U. k (table_in U u)) → Comes t (k u) (λ U. k (f U))
then_come t u f k a b = (
  further t.places u.places (thread_at (k u)).places a.0 b.0,
  λ h. b.1 (a.1 h),
  λ h U w. ap k (a.2 h U (further u.places (thread_at (k u)).places U b.0 w)) ∙ b.2 (a.1 h) U w,
)

module _ (s : Setting) (D : List Fact) (go : Attempt → List Choice → Thread → Rested)
    (later : (Q : Attempt) (ds : List Choice) (u : Thread) → Comes u (go Q ds u) (λ U. go Q ds (table_in U u))) where
  step : (P : Attempt) (c : Option Choice) (cs : List Choice) (t : Thread)
      → Comes t (go (next s D P c) cs (drawn s P (move_by s D P c) t)) (λ U. go (next s D P c) cs (drawn s P (move_by s D P c) (table_in U t)))
  step P c cs t =
      then_come t (drawn s P (move_by s D P c) t) (λ U. drawn s P (move_by s D P c) (table_in U t)) (go (next s D P c) cs) (draws s P (move_by s D P c) t)
      (later (next s D P c) cs (drawn s P (move_by s D P c) t))

  by_one : (P : Attempt) (q : Question) (cs : List Choice) (t : Thread) (o : Option Choice)
      → Comes t (by_choice s D go P q cs t o) (λ U. by_choice s D go P q cs (table_in U t) o)
  by_one P q cs t None = (no_more t.places, λ h. h, λ h U w. refl)
  by_one P q cs t (Some c) = step P (Some c) (cs ++ c ∷ []) (answered q c t)

  phase : (P : Attempt) (cs : List Choice) (t : Thread) (f : Phase) → Comes t (by_phase s D go P cs t f) (λ U. by_phase s D go P cs (table_in U t) f)
  phase P cs t Start = step P None cs t
  phase P cs t Look = step P None cs t
  phase P cs t (Generate r) = step P None cs t
  phase P cs t (Asked q) = by_one P q cs t (fitting s.active t.names q t.answers)
  phase P cs t (Ended EndedDone) = (no_more t.places, λ h. h, λ h U w. refl)
  phase P cs t (Ended Spent) = (no_more t.places, λ h. h, λ h U w. refl)
  phase P cs t (Ended (Refused n)) = (no_more t.places, λ h. h, λ h U w. refl)

run_again : (s : Setting) (D : List Fact) (k : ℕ) (P : Attempt) (cs : List Choice) (t : Thread) → Comes t (run s D k P cs t) (λ U. run s D k P cs (table_in U t))
run_again s D zero P cs t = phase s D (λ Q ds u. Halts TooLong u) (λ Q ds u. (no_more u.places, λ h. h, λ h U w. refl)) P cs t P.phase
run_again s D (suc k) P cs t = phase s D (λ Q ds u. run s D k Q ds u) (λ Q ds u. run_again s D k Q ds u) P cs t P.phase

-- ---- the ops of an update

abbrev AsWell : Places → Going → Going → Type 0
AsWell U (Goes c) h = h ≡ Goes (with_thread (table_in U c.thread) c)
AsWell U (Halted r t) h = h ≡ Halted r (table_in U t)

abbrev Goes_on : Course → Going → (Places → Going) → Type 0
Goes_on c g h =
    Grows c.thread.places (thread_of g).places × (Fine c.thread → Fine (thread_of g))
    × (Fine c.thread → (U : Places) → Grows (thread_of g).places U → AsWell U g (h U))

op_again : (s : Setting) (op : Operation) (c : Course) → Goes_on c (take_op s op c) (λ U. take_op s op (with_thread (table_in U c.thread) c))
op_again s op c =
    by (run_op s c.facts (suc c.last) op c.thread) (λ U. run_op s c.facts (suc c.last) op (table_in U c.thread))
    (run_again s c.facts s.steps (begun_attempt (suc c.last) 0 op) [] (begun_with c.facts op c.thread))
  where
    by : (r : Rested) (f : Places → Rested) → Comes c.thread r f → Goes_on c (after_op c op r) (λ U. after_op (with_thread (table_in U c.thread) c) op (f U))
    by (Rests P cs t) f a = (a.0, a.1, λ h U w. ap (after_op (with_thread (table_in U c.thread) c) op) (a.2 h U w))
    by (Halts r t) f a = (a.0, a.1, λ h U w. ap (after_op (with_thread (table_in U c.thread) c) op) (a.2 h U w))

stop_again : (U : Places) (r : Reason) (t : Thread) (h : Going) (k : Course → Going) → h ≡ Halted r (table_in U t) → onto h k ≡ Halted r (table_in U t)
stop_again U r t h k e = ap (λ g. onto g k) e

ops_again : (s : Setting) (deed : Deed) (c : Course) → Goes_on c (ops_of s deed c) (λ U. ops_of s deed (with_thread (table_in U c.thread) c))
ops_again s deed c =
    ops_beside Places (λ U t. U) (λ U t. t.answers) (λ t u. Grows t.places u.places) (λ t U. Grows t.places U) Fine (λ U r t h. h ≡ Halted r (table_in U t))
    (λ t. no_more t.places) (λ t u v a b. further t.places u.places v.places a b) (λ t u U a b. further t.places u.places U a b) (λ U r t. refl)
    (λ U r t h k next e. stop_again U r t h k e) s (op_again s) deed c

-- ---- a run

-- The end of a run, with this table.
abbrev pub ran_in : Places → Ran → Ran
ran_in U (Done w ps n) = Done w U n
ran_in U (Left r ps n) = Left r U n

module _ (scope : Operation → Scope) (ds : List Declared) (w : World) (ps U : Places) (u : Update) (gs : List Given) where
  over : Grows (places_of (run_over scope ds w ps u gs)) U → run_over scope ds w U u gs ≡ ran_in U (run_over scope ds w ps u gs)
  over =
      by (ops_of (setting scope ds w u) u.deed (begun w ps gs)) (ops_of (setting scope ds w u) u.deed (begun w U gs))
      ((ops_again (setting scope ds w u) u.deed (begun w ps gs)).2 tt U)
    where
      by : (g h : Going) → (Grows (thread_of g).places U → AsWell U g h) → Grows (places_of (ended w u gs g)) U → ended w u gs h ≡ ran_in U (ended w u gs g)
      by (Goes c) h a l = ap (ended w u gs) (a l)
      by (Halted r t) h a l = ap (ended w u gs) (a l)

  -- The end of an update that puts a mapping in force: whether it is in force already, and whether it is met.
  abbrev force_end : ℕ → Bool → Bool → Places → Ran
  force_end m b c qs =
      cond b (Done (with_order w record { update = u; answers = []; ops = [] }) qs 0)
      (cond c (Done (with_order (enacted w m) record { update = u; answers = []; ops = enact_op w m }) qs 0) (Left (Violated m) qs 0))

  force_ends : (m : ℕ) (b c : Bool) → force_end m b c U ≡ ran_in U (force_end m b c ps)
  force_ends m true c = refl
  force_ends m false true = refl
  force_ends m false false = refl

  forced : (m : ℕ) → force_in ds w U u m ≡ ran_in U (force_in ds w ps u m)
  forced m = force_ends m (among w.in_force m) (is_met w.facts (slice_get ds m))

  deeds : (deed : Deed) → (Grows (places_of (run_over scope ds w ps u gs)) U → run_over scope ds w U u gs ≡ ran_in U (run_over scope ds w ps u gs))
      → Grows (places_of (run_deed scope ds w ps u gs deed)) U → run_deed scope ds w U u gs deed ≡ ran_in U (run_deed scope ds w ps u gs deed)
  deeds (Inserts ts) k = k
  deeds (Deletes ts) k = k
  deeds (Fills v d) k = k
  deeds (Swaps t v) k = k
  deeds (Fixes m vs) k = k
  deeds (Forces m) k = λ l. forced m
  deeds (Drops m) k = λ l. refl

  pub runs_again : Grows (places_of (run_update scope ds w ps u gs)) U → run_update scope ds w U u gs ≡ ran_in U (run_update scope ds w ps u gs)
  runs_again = by (is_of_gone w u.deed)
    where
      by : (o : Option ℕ) → Grows (places_of (unless_gone o ps (run_deed scope ds w ps u gs u.deed))) U
          → unless_gone o U (run_deed scope ds w U u gs u.deed) ≡ ran_in U (unless_gone o ps (run_deed scope ds w ps u gs u.deed))
      by None = deeds u.deed over
      by (Some m) = λ l. refl
