-- The mappings that a log speaks of are declared.
use Rattle.std.proofs.Common.{◌≡◌, ◌∙◌, ap, sym, refl, subst, ℕ, suc, true, false, Bool, not, ◌&&◌, ◌==◌, Option, Some, None, is_some, List, [], ◌∷◌, ◌++◌, map, filter, find, cond}
use Rattle.std.specs.Prelude.{take, slice_get, if◌then◌else◌}
use Rattle.std.specs.List.{list_all}
use Rattle.std.specs.Cmp.Lexicographic.{pointwise}
use Rattle.def_machine.proofs.Basics.{longer_keeps}
use Rattle.def_chase.specs.Violations.{Scope}
use Rattle.def_chase.specs.Updates.{Operation}
use Rattle.def_chase.proofs.Bools.{none_some, some_same, both, differ, first_off}
use Rattle.def_workspace.specs.Lines.{Update, Deed, Inserts, Deletes, Fills, Swaps, Fixes, Forces, Drops, Given, Declared, Line, Says, Answers, Goes as GoesLine, Undoes, Redoes, Forgets, Declares}
use Rattle.def_workspace.specs.Places.{Places, among}
use Rattle.def_workspace.specs.Runs.{Violated}
use Rattle.def_workspace.specs.Ops.{Going, Goes, Halted, ops_of}
use Rattle.def_workspace.specs.Worlds.{World, Waiting, Ran, Done, Left, begun, ended, enacted, enact_op, with_order, is_met, force_in, is_of_gone, is_given_up, setting, run_over, run_deed, unless_gone, run_update, waits_with, with_waiting, settled, waiting_at, asks_it, taken_of}
use Rattle.def_workspace.specs.States.{Live, State, table_of, after_run, run_in, retried, answered_by, answered_at, gone_at, done_by, done_by_all, counts, counting, waited, first_live, declaring, with_undone, forgetting, logged, taken}
use Rattle.ws_laws.specs.Logs.{is_declared, is_known, has_name, IsSound, AreDeclared}

-- ---- lists

pub both_parts : (a b : Bool) → (a && b) ≡ true → (a ≡ true) × (b ≡ true)
both_parts true b e = (refl, e)
both_parts false b e = differ e

pub all_filter : {A : Type 0} (p q : A → Bool) (xs : List A) → list_all p xs ≡ true → list_all p (filter q xs) ≡ true
all_filter p q [] e = refl
all_filter p q (x ∷ xs) e = by (q x) (both_parts (p x) (list_all p xs) e).0 (all_filter p q xs (both_parts (p x) (list_all p xs) e).1)
  where
    by : (b : Bool) → p x ≡ true → list_all p (filter q xs) ≡ true → list_all p (cond b (x ∷ filter q xs) (filter q xs)) ≡ true
    by true f g = both (p x) (list_all p (filter q xs)) f g
    by false f g = g

pub all_end : {A : Type 0} (p : A → Bool) (xs : List A) (y : A) → list_all p xs ≡ true → p y ≡ true → list_all p (xs ++ y ∷ []) ≡ true
all_end p [] y e f = both (p y) true f refl
all_end p (x ∷ xs) y e f =
    both (p x) (list_all p (xs ++ y ∷ [])) (both_parts (p x) (list_all p xs) e).0 (all_end p xs y (both_parts (p x) (list_all p xs) e).1 f)

pub all_more : {A : Type 0} (p q : A → Bool) (xs : List A) → ((x : A) → p x ≡ true → q x ≡ true) → list_all p xs ≡ true → list_all q xs ≡ true
all_more p q [] h e = refl
all_more p q (x ∷ xs) h e =
    both (q x) (list_all q xs) (h x (both_parts (p x) (list_all p xs) e).0) (all_more p q xs h (both_parts (p x) (list_all p xs) e).1)

pub all_found : {A : Type 0} (p q : A → Bool) (xs : List A) (y : A) → find q xs ≡ Some y → list_all p xs ≡ true → p y ≡ true
all_found p q [] y f e = absurd (none_some y f)
all_found p q (x ∷ xs) y f e = by (q x) f (both_parts (p x) (list_all p xs) e).0 (λ g. all_found p q xs y g (both_parts (p x) (list_all p xs) e).1)
  where
    by : (b : Bool) → cond b (Some x) (find q xs) ≡ Some y → p x ≡ true → (find q xs ≡ Some y → p y ≡ true) → p y ≡ true
    by true g h later = subst (λ z. p z ≡ true) (some_same x y g) h
    by false g h later = later g

-- ---- runs

-- The update of what waits names a mapping that is declared, if it names one.
abbrev pub known_waiting : List Declared → Waiting → Bool
known_waiting ds v = is_known ds v.update.deed

abbrev DeclaredIn : List Declared → Ran → Type 0
DeclaredIn ds (Done v ps n) = AreDeclared ds v
DeclaredIn ds (Left r ps n) = Unit {0}

module _ (ds : List Declared) where
  fewer : (w : World) (q : Waiting → Bool) → AreDeclared ds w → AreDeclared ds (with_waiting w (filter q w.waiting))
  fewer w q h = record { in_force = h.in_force; waiting = all_filter (known_waiting ds) q w.waiting h.waiting }

  waits : (vs : List Waiting) (u : Update) (gs : List Given) → list_all (known_waiting ds) vs ≡ true → is_known ds u.deed ≡ true
      → list_all (known_waiting ds) (waits_with vs u gs) ≡ true
  waits [] u gs e k = both (is_known ds u.deed) true k refl
  waits (v ∷ vs) u gs e k =
      by (v.update.number == u.number) (both_parts (known_waiting ds v) (list_all (known_waiting ds) vs) e).0
      (both_parts (known_waiting ds v) (list_all (known_waiting ds) vs) e).1
      (waits vs u gs (both_parts (known_waiting ds v) (list_all (known_waiting ds) vs) e).1 k)
    where
      by : (b : Bool) → known_waiting ds v ≡ true → list_all (known_waiting ds) vs ≡ true → list_all (known_waiting ds) (waits_with vs u gs) ≡ true
          → list_all (known_waiting ds) (cond b (record { update = u; answers = gs } ∷ vs) (v ∷ waits_with vs u gs)) ≡ true
      by true f g later = both (is_known ds u.deed) (list_all (known_waiting ds) vs) k g
      by false f g later = both (known_waiting ds v) (list_all (known_waiting ds) (waits_with vs u gs)) f later

  module _ (w : World) (h : AreDeclared ds w) where
    over_known : (ps : Places) (scope : Operation → Scope) (u : Update) (gs : List Given) → DeclaredIn ds (run_over scope ds w ps u gs)
    over_known ps scope u gs = by (ops_of (setting scope ds w u) u.deed (begun w ps gs))
      where
        by : (g : Going) → DeclaredIn ds (ended w u gs g)
        by (Goes c) = record { in_force = h.in_force; waiting = all_filter (known_waiting ds) (λ (v : Waiting). not (v.update.number == u.number)) w.waiting h.waiting }
        by (Halted r t) = tt

    forced_known : (ps : Places) (u : Update) (m : ℕ) → is_declared ds m ≡ true → DeclaredIn ds (force_in ds w ps u m)
    forced_known ps u m k = by (among w.in_force m) (is_met w.facts (slice_get ds m))
      where
        left : list_all (known_waiting ds) (filter (λ (v : Waiting). not (v.update.number == u.number)) w.waiting) ≡ true
        left = all_filter (known_waiting ds) (λ (v : Waiting). not (v.update.number == u.number)) w.waiting h.waiting

        by : (b c : Bool) → DeclaredIn ds (cond b (Done (with_order w record { update = u; answers = []; ops = [] }) ps 0)
            (cond c (Done (with_order (enacted w m) record { update = u; answers = []; ops = enact_op w m }) ps 0) (Left (Violated m) ps 0)))
        by true c = record { in_force = h.in_force; waiting = left }
        by false true = record { in_force = all_end (is_declared ds) w.in_force m h.in_force k; waiting = left }
        by false false = tt

    deeds_known : (ps : Places) (scope : Operation → Scope) (u : Update) (gs : List Given) (deed : Deed) → is_known ds deed ≡ true
        → DeclaredIn ds (run_deed scope ds w ps u gs deed)
    deeds_known ps scope u gs (Inserts ts) k = over_known ps scope u gs
    deeds_known ps scope u gs (Deletes ts) k = over_known ps scope u gs
    deeds_known ps scope u gs (Fills v d) k = over_known ps scope u gs
    deeds_known ps scope u gs (Swaps t v) k = over_known ps scope u gs
    deeds_known ps scope u gs (Fixes m vs) k = over_known ps scope u gs
    deeds_known ps scope u gs (Forces m) k = forced_known ps u m k
    deeds_known ps scope u gs (Drops m) k =
        record {
          in_force = all_filter (is_declared ds) (λ j. not (j == m)) w.in_force h.in_force;
          waiting = all_filter (known_waiting ds) (λ (v : Waiting). not (v.update.number == u.number)) w.waiting h.waiting;
        }

    runs_known : (ps : Places) (scope : Operation → Scope) (u : Update) (gs : List Given) → is_known ds u.deed ≡ true
        → DeclaredIn ds (run_update scope ds w ps u gs)
    runs_known ps scope u gs k = by (is_of_gone w u.deed)
      where
        by : (o : Option ℕ) → DeclaredIn ds (unless_gone o ps (run_deed scope ds w ps u gs u.deed))
        by None = deeds_known ps scope u gs u.deed k
        by (Some m) = tt

    settled_known : (u : Update) (gs : List Given) (r : Ran) → is_known ds u.deed ≡ true → DeclaredIn ds r → AreDeclared ds (settled w u gs r)
    settled_known u gs (Done v ps n) k d = fewer v (λ (x : Waiting). not (is_given_up v x.update.deed)) d
    settled_known u gs (Left r ps n) k d =
        fewer (with_waiting w (waits_with w.waiting u gs)) (λ (x : Waiting). not (is_given_up (with_waiting w (waits_with w.waiting u gs)) x.update.deed))
        record { in_force = h.in_force; waiting = waits w.waiting u gs h.waiting k }

-- ---- lines

-- The line says no update that names a mapping which is not declared.
abbrev pub line_known : List Declared → Line → Bool
line_known ds (Says u) = is_known ds u.deed
line_known ds (Answers n g) = true
line_known ds (GoesLine n) = true
line_known ds (Undoes ns) = true
line_known ds (Redoes ns) = true
line_known ds (Forgets ns) = true
line_known ds (Declares d) = true

module _ (scope : Operation → Scope) (ds : List Declared) where
  after_known : (l : Live) (u : Update) (gs : List Given) → AreDeclared ds l.world → is_known ds u.deed ≡ true
      → AreDeclared ds (after_run l u gs (run_in scope ds l u gs)).world
  after_known l u gs h k = settled_known ds l.world h u gs (run_in scope ds l u gs) k (runs_known ds l.world h (table_of l.tables u.number) scope u gs k)

  waiting_known : (l : Live) (n : ℕ) (v : Waiting) → waiting_at l.world n ≡ Some v → AreDeclared ds l.world → known_waiting ds v ≡ true
  waiting_known l n v e h = all_found (known_waiting ds) (λ (x : Waiting). x.update.number == n) l.world.waiting v e h.waiting

  answer_known : (l : Live) (v : Waiting) (g : Given) (r : Ran) → AreDeclared ds l.world → known_waiting ds v ≡ true
      → AreDeclared ds (answered_by scope ds l v g r).world
  answer_known l v g r h k = by (asks_it r g.asked)
    where
      by : (b : Bool) → AreDeclared ds (cond b (retried scope ds l v.update (take (taken_of r) v.answers ++ g ∷ [])) l).world
      by true = after_known l v.update (take (taken_of r) v.answers ++ g ∷ []) h k
      by false = h

  at_answer : (l : Live) (g : Given) (n : ℕ) (o : Option Waiting) → waiting_at l.world n ≡ o → AreDeclared ds l.world → AreDeclared ds (answered_at scope ds l g o).world
  at_answer l g n None e h = h
  at_answer l g n (Some v) e h = answer_known l v g (run_in scope ds l v.update v.answers) h (waiting_known l n v e h)

  at_go : (l : Live) (n : ℕ) (o : Option Waiting) → waiting_at l.world n ≡ o → AreDeclared ds l.world → AreDeclared ds (gone_at scope ds l o).world
  at_go l n None e h = h
  at_go l n (Some v) e h = after_known l v.update (take (taken_of (run_in scope ds l v.update v.answers)) v.answers) h (waiting_known l n v e h)

  pub one_known : (l : Live) (x : Line) → AreDeclared ds l.world → line_known ds x ≡ true → AreDeclared ds (done_by scope ds l x).world
  one_known l (Says u) h k = after_known l u [] h k
  one_known l (Answers n g) h k = at_answer l g n (waiting_at l.world n) refl h
  one_known l (GoesLine n) h k = at_go l n (waiting_at l.world n) refl h
  one_known l (Undoes ns) h k = h
  one_known l (Redoes ns) h k = h
  one_known l (Forgets ns) h k = h
  one_known l (Declares d) h k = h

  pub all_known : (l : Live) (xs : List Line) → AreDeclared ds l.world → list_all (line_known ds) xs ≡ true → AreDeclared ds (done_by_all scope ds l xs).world
  all_known l [] h k = h
  all_known l (x ∷ xs) h k =
      all_known (done_by scope ds l x) xs (one_known l x h (both_parts (line_known ds x) (list_all (line_known ds) xs) k).0)
      (both_parts (line_known ds x) (list_all (line_known ds) xs) k).1

-- ---- states

pub counting_known : (ds : List Declared) (S : State) (k : ℕ) (xs : List Line) → list_all (line_known ds) xs ≡ true → list_all (line_known ds) (counting S k xs) ≡ true
counting_known ds S k [] e = refl
counting_known ds S k (x ∷ xs) e =
    by (counts S k x) (both_parts (line_known ds x) (list_all (line_known ds) xs) e).0
    (counting_known ds S (suc k) xs (both_parts (line_known ds x) (list_all (line_known ds) xs) e).1)
  where
    by : (b : Bool) → line_known ds x ≡ true → list_all (line_known ds) (counting S (suc k) xs) ≡ true
        → list_all (line_known ds) (cond b (x ∷ counting S (suc k) xs) (counting S (suc k) xs)) ≡ true
    by true f g = both (line_known ds x) (list_all (line_known ds) (counting S (suc k) xs)) f g
    by false f g = g

waited_known : (ds : List Declared) (S : State) (vs : List Waiting) → list_all (known_waiting ds) vs ≡ true → list_all (known_waiting ds) (waited S vs) ≡ true
waited_known ds S [] e = refl
waited_known ds S (v ∷ vs) e =
    by (among S.undone v.update.number) (both_parts (known_waiting ds v) (list_all (known_waiting ds) vs) e).0
    (waited_known ds S vs (both_parts (known_waiting ds v) (list_all (known_waiting ds) vs) e).1)
  where
    by : (b : Bool) → known_waiting ds v ≡ true → list_all (known_waiting ds) (waited S vs) ≡ true
        → list_all (known_waiting ds) (map (λ (x : Waiting). record { update = x.update; answers = if among S.cleared x.update.number then [] else x.answers })
        (cond (not b) (v ∷ filter (λ (x : Waiting). not (among S.undone x.update.number)) vs) (filter (λ (x : Waiting). not (among S.undone x.update.number)) vs))) ≡ true
    by true f g = g
    by false f g = both (known_waiting ds v) (list_all (known_waiting ds) (waited S vs)) f g

pub first_known : (ds : List Declared) (S : State) → AreDeclared ds S.base → AreDeclared ds (first_live S).world
first_known ds S h = record { in_force = h.in_force; waiting = waited_known ds S S.base.waiting h.waiting }

-- What is declared at the last fold, what is said since then, and what is declared now.
pub record AllDeclared (S : State) : Type 0 where
  pub base : AreDeclared S.declared S.base
  pub lines : list_all (line_known S.declared) S.lines ≡ true
  pub now : AreDeclared S.declared S.live.world

-- ---- declarations

pub new_is_last : (ds : List Declared) (d : Declared) → has_name ds d.name ≡ false → declaring ds d ≡ ds ++ d ∷ []
new_is_last [] d e = refl
new_is_last (c ∷ ds) d e =
    by (pointwise (λ a b. a == b) c.name d.name) (first_off (pointwise (λ a b. a == b) c.name d.name) (has_name ds d.name) e).0
    (new_is_last ds d (first_off (pointwise (λ a b. a == b) c.name d.name) (has_name ds d.name) e).1)
  where
    by : (b : Bool) → b ≡ false → declaring ds d ≡ ds ++ d ∷ [] → cond b (d ∷ ds) (c ∷ declaring ds d) ≡ c ∷ (ds ++ d ∷ [])
    by true f g = differ (sym f)
    by false f g = ap (λ xs. c ∷ xs) g

module _ (ds : List Declared) (d : Declared) where
  -- A number that is declared has the same mapping after one more declaration.
  pub same_mapping : (m : ℕ) → is_declared ds m ≡ true → slice_get (ds ++ d ∷ []) m ≡ slice_get ds m
  same_mapping m e = by (slice_get ds m) refl e
    where
      by : (o : Option Declared) → slice_get ds m ≡ o → is_some o ≡ true → slice_get (ds ++ d ∷ []) m ≡ slice_get ds m
      by None f g = differ g
      by (Some c) f g = longer_keeps ds (d ∷ []) m c f ∙ sym f

  pub still_declared : (m : ℕ) → is_declared ds m ≡ true → is_declared (ds ++ d ∷ []) m ≡ true
  still_declared m e = ap is_some (same_mapping m e) ∙ e

  pub still_known : (x : Deed) → is_known ds x ≡ true → is_known (ds ++ d ∷ []) x ≡ true
  still_known (Inserts ts) e = refl
  still_known (Deletes ts) e = refl
  still_known (Fills u v) e = refl
  still_known (Swaps t u) e = refl
  still_known (Fixes m vs) e = still_declared m e
  still_known (Forces m) e = still_declared m e
  still_known (Drops m) e = still_declared m e

  still_line : (x : Line) → line_known ds x ≡ true → line_known (ds ++ d ∷ []) x ≡ true
  still_line (Says u) e = still_known u.deed e
  still_line (Answers n g) e = refl
  still_line (GoesLine n) e = refl
  still_line (Undoes ns) e = refl
  still_line (Redoes ns) e = refl
  still_line (Forgets ns) e = refl
  still_line (Declares c) e = refl

  pub still_all : (w : World) → AreDeclared ds w → AreDeclared (ds ++ d ∷ []) w
  still_all w h =
      record {
        in_force = all_more (is_declared ds) (is_declared (ds ++ d ∷ [])) w.in_force still_declared h.in_force;
        waiting = all_more (known_waiting ds) (known_waiting (ds ++ d ∷ [])) w.waiting (λ v. still_known v.update.deed) h.waiting;
      }

  pub still_lines : (xs : List Line) → list_all (line_known ds) xs ≡ true → list_all (line_known (ds ++ d ∷ [])) xs ≡ true
  still_lines xs e = all_more (line_known ds) (line_known (ds ++ d ∷ [])) xs still_line e

module _ (scope : Operation → Scope) where
  by_replay : (S : State) (xs : List Line) → AreDeclared S.declared S.base → list_all (line_known S.declared) xs ≡ true
      → AreDeclared S.declared (done_by_all scope S.declared (first_live S) (counting S 0 xs)).world
  by_replay S xs h k =
      all_known scope S.declared (first_live S) (counting S 0 xs) (first_known S.declared S h) (counting_known S.declared S 0 xs k)

  one_more : (S : State) (x : Line) → AllDeclared S → line_known S.declared x ≡ true → list_all (line_known S.declared) (S.lines ++ x ∷ []) ≡ true
  one_more S x a k = all_end (line_known S.declared) S.lines x a.lines k

  pub stay_declared : (S : State) (x : Line) → IsSound S x → AllDeclared S → AllDeclared (taken scope S x)
  stay_declared S (Says u) s a =
      record { base = a.base; lines = one_more S (Says u) a s; now = one_known scope S.declared S.live (Says u) a.now s }
  stay_declared S (Answers n g) s a =
      record { base = a.base; lines = one_more S (Answers n g) a refl; now = one_known scope S.declared S.live (Answers n g) a.now refl }
  stay_declared S (GoesLine n) s a =
      record { base = a.base; lines = one_more S (GoesLine n) a refl; now = one_known scope S.declared S.live (GoesLine n) a.now refl }
  stay_declared S (Undoes ns) s a =
      record {
        base = a.base;
        lines = one_more S (Undoes ns) a refl;
        now = by_replay (with_undone (logged S (Undoes ns)) (ns ++ S.undone)) (S.lines ++ Undoes ns ∷ []) a.base (one_more S (Undoes ns) a refl);
      }
  stay_declared S (Redoes ns) s a =
      record {
        base = a.base;
        lines = one_more S (Redoes ns) a refl;
        now = by_replay (with_undone (logged S (Redoes ns)) (filter (λ n. not (among ns n)) S.undone)) (S.lines ++ Redoes ns ∷ []) a.base (one_more S (Redoes ns) a refl);
      }
  stay_declared S (Forgets ns) s a =
      record {
        base = a.base;
        lines = one_more S (Forgets ns) a refl;
        now = by_replay (forgetting (logged S (Forgets ns)) ns) (S.lines ++ Forgets ns ∷ []) a.base (one_more S (Forgets ns) a refl);
      }
  stay_declared S (Declares d) s a =
      let e : S.declared ++ d ∷ [] ≡ declaring S.declared d = sym (new_is_last S.declared d s) in
      record {
        base = subst (λ ds. AreDeclared ds S.base) e (still_all S.declared d S.base a.base);
        lines = subst (λ ds. list_all (line_known ds) (S.lines ++ Declares d ∷ []) ≡ true) e (still_lines S.declared d (S.lines ++ Declares d ∷ []) (one_more S (Declares d) a refl));
        now = subst (λ ds. AreDeclared ds S.live.world) e (still_all S.declared d S.live.world a.now);
      }
