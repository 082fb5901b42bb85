-- One more declaration changes no run of an update that names only mappings which were declared before.
use Rattle.std.proofs.Common.{◌≡◌, ◌∙◌, ap, refl, ℕ, true, ◌==◌, Option, Some, None, List, [], ◌∷◌, ◌++◌, cond}
use Rattle.std.specs.Prelude.{take}
use Rattle.std.specs.List.{list_all}
use Rattle.def_chase.specs.Violations.{Scope}
use Rattle.def_chase.specs.Updates.{Operation}
use Rattle.def_workspace.specs.Lines.{Update, Deed, Inserts, Deletes, Fills, Swaps, Fixes, Forces, Drops, Given, Declared, Line, Says, Answers, Goes, Undoes, Redoes, Forgets, Declares}
use Rattle.def_workspace.specs.Places.{Places, among}
use Rattle.def_workspace.specs.Runs.{Violated}
use Rattle.def_workspace.specs.Ops.{ops_of}
use Rattle.def_workspace.specs.Worlds.{World, Waiting, Done, Left, active_by, active_in, fixing, hidden, begun, ended, enacted, enact_op, with_order, is_met, force_in, is_of_gone, run_over, run_deed, unless_gone, run_update, waiting_at, asks_it, taken_of}
use Rattle.def_workspace.specs.States.{Live, table_of, after_run, run_in, answered_by, answered_at, gone_at, done_by, done_by_all}
use Rattle.ws_laws.specs.Logs.{is_declared, is_known, AreDeclared}
use Rattle.ws_laws.proofs.Declaring.{both_parts, all_found, known_waiting, line_known, one_known, same_mapping}

module _ (scope : Operation → Scope) (ds : List Declared) (d : Declared) where
  abbrev more : List Declared
  more = ds ++ d ∷ []

  same_active : (ms : List ℕ) → list_all (is_declared ds) ms ≡ true → active_in more ms ≡ active_in ds ms
  same_active [] e = refl
  same_active (m ∷ ms) e =
      λ i. active_by m (same_mapping ds d m (both_parts (is_declared ds m) (list_all (is_declared ds) ms) e).0 i)
      ++ same_active ms (both_parts (is_declared ds m) (list_all (is_declared ds) ms) e).1 i

  same_hidden : (deed : Deed) → is_known ds deed ≡ true → hidden more deed ≡ hidden ds deed
  same_hidden (Inserts ts) e = refl
  same_hidden (Deletes ts) e = refl
  same_hidden (Fills u v) e = refl
  same_hidden (Swaps t u) e = refl
  same_hidden (Fixes m vs) e = ap (fixing m) (same_mapping ds d m e)
  same_hidden (Forces m) e = refl
  same_hidden (Drops m) e = refl

  module _ (w : World) (h : AreDeclared ds w) (ps : Places) (u : Update) (gs : List Given) where
    same_over : is_known ds u.deed ≡ true → run_over scope more w ps u gs ≡ run_over scope ds w ps u gs
    same_over e =
        λ i. ended w u gs (ops_of record { scope = scope; number = u.number; steps = u.steps; active = same_active w.in_force h.in_force i ++ same_hidden u.deed e i }
        u.deed (begun w ps gs))

    same_force : (m : ℕ) → is_declared ds m ≡ true → force_in more w ps u m ≡ force_in ds w ps u m
    same_force m e =
        ap (λ o. cond (among w.in_force m) (Done (with_order w record { update = u; answers = []; ops = [] }) ps 0)
        (cond (is_met w.facts o) (Done (with_order (enacted w m) record { update = u; answers = []; ops = enact_op w m }) ps 0) (Left (Violated m) ps 0)))
        (same_mapping ds d m e)

    same_deed : is_known ds u.deed ≡ true → (deed : Deed) → is_known ds deed ≡ true → run_deed scope more w ps u gs deed ≡ run_deed scope ds w ps u gs deed
    same_deed k (Inserts ts) e = same_over k
    same_deed k (Deletes ts) e = same_over k
    same_deed k (Fills v c) e = same_over k
    same_deed k (Swaps t v) e = same_over k
    same_deed k (Fixes m vs) e = same_over k
    same_deed k (Forces m) e = same_force m e
    same_deed k (Drops m) e = refl

    same_run : is_known ds u.deed ≡ true → run_update scope more w ps u gs ≡ run_update scope ds w ps u gs
    same_run k = ap (unless_gone (is_of_gone w u.deed) ps) (same_deed k u.deed k)

  same_after : (l : Live) (u : Update) (gs : List Given) → AreDeclared ds l.world → is_known ds u.deed ≡ true
      → after_run l u gs (run_in scope more l u gs) ≡ after_run l u gs (run_in scope ds l u gs)
  same_after l u gs h k = ap (after_run l u gs) (same_run l.world h (table_of l.tables u.number) u gs k)

  same_answer : (l : Live) (v : Waiting) (g : Given) → AreDeclared ds l.world → known_waiting ds v ≡ true
      → answered_by scope more l v g (run_in scope more l v.update v.answers) ≡ answered_by scope ds l v g (run_in scope ds l v.update v.answers)
  same_answer l v g h k =
      λ i. cond (asks_it (same i) g.asked) (same_after l v.update (take (taken_of (same i)) v.answers ++ g ∷ []) h k i) l
    where
      same : run_in scope more l v.update v.answers ≡ run_in scope ds l v.update v.answers
      same = same_run l.world h (table_of l.tables v.update.number) v.update v.answers k

  same_go : (l : Live) (v : Waiting) → AreDeclared ds l.world → known_waiting ds v ≡ true → gone_at scope more l (Some v) ≡ gone_at scope ds l (Some v)
  same_go l v h k = λ i. same_after l v.update (take (taken_of (same i)) v.answers) h k i
    where
      same : run_in scope more l v.update v.answers ≡ run_in scope ds l v.update v.answers
      same = same_run l.world h (table_of l.tables v.update.number) v.update v.answers k

  known_at : (l : Live) (n : ℕ) (v : Waiting) → waiting_at l.world n ≡ Some v → AreDeclared ds l.world → known_waiting ds v ≡ true
  known_at l n v e h = all_found (known_waiting ds) (λ (x : Waiting). x.update.number == n) l.world.waiting v e h.waiting

  same_at : (l : Live) (n : ℕ) (g : Given) (o : Option Waiting) → waiting_at l.world n ≡ o → AreDeclared ds l.world
      → answered_at scope more l g o ≡ answered_at scope ds l g o
  same_at l n g None e h = refl
  same_at l n g (Some v) e h = same_answer l v g h (known_at l n v e h)

  same_go_at : (l : Live) (n : ℕ) (o : Option Waiting) → waiting_at l.world n ≡ o → AreDeclared ds l.world → gone_at scope more l o ≡ gone_at scope ds l o
  same_go_at l n None e h = refl
  same_go_at l n (Some v) e h = same_go l v h (known_at l n v e h)

  same_line : (l : Live) (x : Line) → AreDeclared ds l.world → line_known ds x ≡ true → done_by scope more l x ≡ done_by scope ds l x
  same_line l (Says u) h k = same_after l u [] h k
  same_line l (Answers n g) h k = same_at l n g (waiting_at l.world n) refl h
  same_line l (Goes n) h k = same_go_at l n (waiting_at l.world n) refl h
  same_line l (Undoes ns) h k = refl
  same_line l (Redoes ns) h k = refl
  same_line l (Forgets ns) h k = refl
  same_line l (Declares c) h k = refl

  pub same_lines : (l : Live) (xs : List Line) → AreDeclared ds l.world → list_all (line_known ds) xs ≡ true → done_by_all scope more l xs ≡ done_by_all scope ds l xs
  same_lines l [] h k = refl
  same_lines l (x ∷ xs) h k =
      let parts : (line_known ds x ≡ true) × (list_all (line_known ds) xs ≡ true) = both_parts (line_known ds x) (list_all (line_known ds) xs) k in
      ap (λ m. done_by_all scope more m xs) (same_line l x h parts.0) ∙ same_lines (done_by scope ds l x) xs (one_known scope ds l x h parts.0) parts.1
