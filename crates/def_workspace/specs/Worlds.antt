-- The world: the repository, the mappings in force, the updates that stand in their order, and the updates that wait; and the
-- effect of a run of an update.
use Rattle.std.specs.Prelude.{ℕ, zero, suc, ◌==◌, Bool, true, false, not, ◌||◌, if◌then◌else◌, List, [], ◌∷◌, ◌++◌, filter, take, Option, Some, None, is_none, find}
use Rattle.std.specs.List.{flat_map, slice_get}
use Rattle.def_chase.specs.Values.{Fact}
use Rattle.def_chase.specs.Violations.{Scope, Every, first_violation}
use Rattle.def_chase.specs.Updates.{Operation, Enacts}
use Rattle.def_workspace.specs.Lines.{Update, Deed, Inserts, Deletes, Fills, Swaps, Fixes, Forces, Drops, By, Fix, Draw, Asked, Given, Declared}
use Rattle.def_workspace.specs.Names.{Names}
use Rattle.def_workspace.specs.Places.{Places, among}
use Rattle.def_workspace.specs.Hidden.{drawing_rule, fixing_rule}
use Rattle.def_workspace.specs.Runs.{Active, Setting, Reason, Asks, NotThere, TooLong, Violated, Gone, same_asked}
use Rattle.def_workspace.specs.Ops.{Op, Course, Going, Goes, Halted, new_among, ops_of}

-- An update that stands, with the answers that it took and its ops.
pub record Standing : Type 0 where
  pub update : Update
  pub answers : List Given
  pub ops : List Op

-- An update that waits, with the answers that it has.
pub record Waiting : Type 0 where
  pub update : Update
  pub answers : List Given

-- The world: the repository, the number of the last op, the names of all nulls, the mappings in force in their order and those
-- that are gone, the updates that stand in their order, and the updates that wait.
pub record World : Type 0 where
  pub facts : List Fact
  pub last : ℕ
  pub names : Names
  pub in_force : List ℕ
  pub gone : List ℕ
  pub order : List Standing
  pub waiting : List Waiting

-- ---- the mappings during a run

abbrev pub active_by : ℕ → Option Declared → List Active
active_by m None = []
active_by m (Some d) = record { source = By m; rule = d.rule } ∷ []

-- The declared mappings that are in force.
abbrev pub active_in : List Declared → List ℕ → List Active
active_in ds ms = flat_map (λ m. active_by m (slice_get ds m)) ms

abbrev pub drawing : ℕ → List Active
drawing zero = []
drawing (suc n) = record { source = Draw; rule = drawing_rule } ∷ []

abbrev pub fixing : ℕ → Option Declared → List Active
fixing m None = []
fixing m (Some d) = record { source = Fix m; rule = fixing_rule d.rule } ∷ []

-- The hidden mappings of an update, which are in force only during its ops.
abbrev pub hidden : List Declared → Deed → List Active
hidden ds (Inserts ts) = drawing (new_among ts)
hidden ds (Deletes ts) = []
hidden ds (Fills u v) = []
hidden ds (Swaps t u) = drawing (new_among (u ∷ []))
hidden ds (Fixes m vs) = fixing m (slice_get ds m)
hidden ds (Forces m) = []
hidden ds (Drops m) = []

-- ---- a run

-- The end of a run: done, with the world after it; or not done, with the reason. Either way it has the update's table and the
-- number of answers taken.
pub data Ran : Type 0 where
  Done : World → Places → ℕ → Ran
  Left : Reason → Places → ℕ → Ran

abbrev pub places_of : Ran → Places
places_of (Done w ps n) = ps
places_of (Left r ps n) = ps

abbrev pub taken_of : Ran → ℕ
taken_of (Done w ps n) = n
taken_of (Left r ps n) = n

abbrev pub begun : World → Places → List Given → Course
begun w ps gs =
    record {
      facts = w.facts;
      last = w.last;
      thread = record { names = w.names; places = ps; given = []; answers = gs; taken = 0; moves = λ d. d };
      ops = [];
    }

-- The world in which the update stands, and waits no more.
abbrev pub with_order : World → Standing → World
with_order w s =
    record {
      facts = w.facts;
      last = w.last;
      names = w.names;
      in_force = w.in_force;
      gone = w.gone;
      order = w.order ++ s ∷ [];
      waiting = filter (λ (v : Waiting). not (v.update.number == s.update.number)) w.waiting;
    }

abbrev pub ended : World → Update → List Given → Going → Ran
ended w u gs (Goes c) =
    Done (with_order record { facts = c.facts; last = c.last; names = c.thread.names; in_force = w.in_force; gone = w.gone; order = w.order; waiting = w.waiting }
    record { update = u; answers = take c.thread.taken gs; ops = c.ops })
    c.thread.places c.thread.taken
ended w u gs (Halted r t) = Left r t.places t.taken

-- The world with the mapping put in force after the others, as an op of its own.
abbrev pub enacted : World → ℕ → World
enacted w m = record { facts = w.facts; last = suc w.last; names = w.names; in_force = w.in_force ++ m ∷ []; gone = w.gone; order = w.order; waiting = w.waiting }

-- The world with the mapping taken away.
abbrev pub dropped : World → ℕ → World
dropped w m =
    record {
      facts = w.facts;
      last = w.last;
      names = w.names;
      in_force = filter (λ k. not (k == m)) w.in_force;
      gone = m ∷ w.gone;
      order = w.order;
      waiting = w.waiting;
    }

abbrev pub enact_op : World → ℕ → List Op
enact_op w m = record { number = suc w.last; operation = Enacts m; choices = [] } ∷ []

-- The mapping has no violation in the repository.
abbrev pub is_met : List Fact → Option Declared → Bool
is_met D None = true
is_met D (Some d) = is_none (first_violation Every [] d.rule D)

abbrev pub force_in : List Declared → World → Places → Update → ℕ → Ran
force_in ds w ps u m =
    if among w.in_force m then Done (with_order w record { update = u; answers = []; ops = [] }) ps 0
    else if is_met w.facts (slice_get ds m) then Done (with_order (enacted w m) record { update = u; answers = []; ops = enact_op w m }) ps 0
    else Left (Violated m) ps 0

-- The mapping of an update's deed, if it is gone.
abbrev pub is_of_gone : World → Deed → Option ℕ
is_of_gone w (Inserts ts) = None
is_of_gone w (Deletes ts) = None
is_of_gone w (Fills v d) = None
is_of_gone w (Swaps t s) = None
is_of_gone w (Fixes m vs) = if among w.gone m then Some m else None
is_of_gone w (Forces m) = if among w.gone m then Some m else None
is_of_gone w (Drops m) = if among w.gone m then Some m else None

-- The setting of an update's run.
abbrev pub setting : (Operation → Scope) → List Declared → World → Update → Setting
setting scope ds w u = record { scope = scope; number = u.number; steps = u.steps; active = active_in ds w.in_force ++ hidden ds u.deed }

abbrev pub run_over : (Operation → Scope) → List Declared → World → Places → Update → List Given → Ran
run_over scope ds w ps u gs = ended w u gs (ops_of (setting scope ds w u) u.deed (begun w ps gs))

abbrev pub run_deed : (Operation → Scope) → List Declared → World → Places → Update → List Given → Deed → Ran
run_deed scope ds w ps u gs (Forces m) = force_in ds w ps u m
run_deed scope ds w ps u gs (Drops m) = Done (with_order (dropped w m) record { update = u; answers = []; ops = [] }) ps 0
run_deed scope ds w ps u gs (Inserts ts) = run_over scope ds w ps u gs
run_deed scope ds w ps u gs (Deletes ts) = run_over scope ds w ps u gs
run_deed scope ds w ps u gs (Fills v d) = run_over scope ds w ps u gs
run_deed scope ds w ps u gs (Swaps t s) = run_over scope ds w ps u gs
run_deed scope ds w ps u gs (Fixes m vs) = run_over scope ds w ps u gs

abbrev pub unless_gone : Option ℕ → Places → Ran → Ran
unless_gone None ps r = r
unless_gone (Some m) ps r = Left (Gone m) ps 0

-- The run of the update over the world, with these answers.
abbrev pub run_update : (Operation → Scope) → List Declared → World → Places → Update → List Given → Ran
run_update scope ds w ps u gs = unless_gone (is_of_gone w u.deed) ps (run_deed scope ds w ps u gs u.deed)

-- ---- what waits

-- An update is given up if it waits for a mapping that is gone, or to put a mapping in force that is in force already.
abbrev pub is_given_up : World → Deed → Bool
is_given_up w (Inserts ts) = false
is_given_up w (Deletes ts) = false
is_given_up w (Fills v d) = false
is_given_up w (Swaps t s) = false
is_given_up w (Fixes m vs) = among w.gone m
is_given_up w (Forces m) = among w.gone m || among w.in_force m
is_given_up w (Drops m) = among w.gone m

abbrev pub with_waiting : World → List Waiting → World
with_waiting w vs = record { facts = w.facts; last = w.last; names = w.names; in_force = w.in_force; gone = w.gone; order = w.order; waiting = vs }

abbrev pub swept : World → World
swept w = with_waiting w (filter (λ (v : Waiting). not (is_given_up w v.update.deed)) w.waiting)

-- The update waits with these answers: in its place if it waited before, otherwise as the last.
abbrev pub waits_with : List Waiting → Update → List Given → List Waiting
waits_with [] u gs = record { update = u; answers = gs } ∷ []
waits_with (v ∷ vs) u gs = if v.update.number == u.number then record { update = u; answers = gs } ∷ vs else v ∷ waits_with vs u gs

-- The world after a run: the run's if the update is done, otherwise the old one, in which the update waits.
abbrev pub settled : World → Update → List Given → Ran → World
settled w u gs (Done v ps n) = swept v
settled w u gs (Left r ps n) = swept (with_waiting w (waits_with w.waiting u gs))

-- The update that waits under this number.
abbrev pub waiting_at : World → ℕ → Option Waiting
waiting_at w n = find (λ (v : Waiting). v.update.number == n) w.waiting

-- The run stopped at this question.
abbrev pub asks_it : Ran → Asked → Bool
asks_it (Done w ps n) q = false
asks_it (Left (Asks p a ts) ps n) q = same_asked a q
asks_it (Left (NotThere u) ps n) q = false
asks_it (Left TooLong ps n) q = false
asks_it (Left (Violated m) ps n) q = false
asks_it (Left (Gone m) ps n) q = false
