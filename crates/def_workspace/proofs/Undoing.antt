-- What the lines of other updates do does not depend on the table of one.
use Rattle.std.proofs.Common.{◌≡◌, ◌∙◌, ap, sym, refl, subst, ℕ, suc, true, false, Bool, not, ◌||◌, ◌&&◌, ◌==◌, Option, Some, None, List, [], ◌∷◌, ◌++◌, map, filter, find, cond}
use Rattle.std.specs.Prelude.{take, unwrap_or, if◌then◌else◌}
use Rattle.std.specs.List.{list_any}
use Rattle.std.specs.Option.{option_map}
use Rattle.std.proofs.lemmas.Bool.{eq-eqb, eqb-true}
use Rattle.def_chase.specs.Violations.{Scope}
use Rattle.def_chase.specs.Updates.{Operation}
use Rattle.def_chase.proofs.Bools.{some_same, none_some, differ, first_off}
use Rattle.def_workspace.specs.Lines.{Update, Given, Declared, Line, Says, Answers, Goes, Undoes, Redoes, Forgets, Declares}
use Rattle.def_workspace.specs.Places.{Places, among}
use Rattle.def_workspace.specs.Worlds.{World, Waiting, run_update, settled, places_of, taken_of, asks_it, waiting_at, with_waiting}
use Rattle.def_workspace.specs.States.{Table, table_of, with_table, Live, State, after_run, run_in, retried, answered_by, answered_at, gone_at, done_by, done_by_all, replayed, counting, counts, first_live, waited, taken, logged, with_undone}
use Rattle.def_workspace.specs.UndoLaws.{is_of, IsNew, UndoneAtOnce, UndoTakesBack}

-- ---- tables

-- The table of an update after one was put.
put_table : (ts : List Table) (k : ℕ) (ps : Places) (m : ℕ) → table_of (with_table ts k ps) m ≡ cond (k == m) ps (table_of ts m)
put_table [] k ps m = by (k == m)
  where
    by : (b : Bool) → unwrap_or (option_map (λ (t : Table). t.places) (cond b (Some record { number = k; places = ps }) None)) [] ≡ cond b ps []
    by true = refl
    by false = refl
put_table (t ∷ ts) k ps m = by (t.number == k) refl (put_table ts k ps m)
  where
    first : (b : Bool) → unwrap_or (option_map (λ (s : Table). s.places) (cond b (Some record { number = k; places = ps }) (find (λ (s : Table). s.number == m) ts))) []
        ≡ cond b ps (unwrap_or (option_map (λ (s : Table). s.places) (cond b (Some t) (find (λ (s : Table). s.number == m) ts))) [])
    first true = refl
    first false = refl

    later : (b c : Bool) → (b ≡ true → c ≡ true → ⊥) → table_of (with_table ts k ps) m ≡ cond c ps (table_of ts m)
        → unwrap_or (option_map (λ (s : Table). s.places) (cond b (Some t) (find (λ (s : Table). s.number == m) (with_table ts k ps)))) []
        ≡ cond c ps (unwrap_or (option_map (λ (s : Table). s.places) (cond b (Some t) (find (λ (s : Table). s.number == m) ts))) [])
    later true true h e = absurd (h refl refl)
    later true false h e = refl
    later false true h e = e
    later false false h e = e

    by : (b : Bool) → (t.number == k) ≡ b → table_of (with_table ts k ps) m ≡ cond (k == m) ps (table_of ts m)
        → table_of (cond b (record { number = k; places = ps } ∷ ts) (t ∷ with_table ts k ps)) m ≡ cond (k == m) ps (table_of (t ∷ ts) m)
    by true e rest =
        subst (λ j. table_of (record { number = k; places = ps } ∷ ts) m ≡ cond (k == m) ps (unwrap_or (option_map (λ (s : Table). s.places) (cond (j == m) (Some t) (find (λ (s : Table). s.number == m) ts))) []))
        (sym (eqb-true t.number k e)) (first (k == m))
    by false e rest =
        later (t.number == m) (k == m) (λ f g. differ (sym e ∙ eq-eqb t.number k (eqb-true t.number m f ∙ sym (eqb-true k m g)))) rest

other_table : (ts : List Table) (k : ℕ) (ps : Places) (m : ℕ) → (k == m) ≡ false → table_of (with_table ts k ps) m ≡ table_of ts m
other_table ts k ps m e = put_table ts k ps m ∙ ap (λ b. cond b ps (table_of ts m)) e

-- ---- lines of other updates

-- One world, and the same tables but that of update n.
record Alike (n : ℕ) (l k : Live) : Type 0 where
  pub world : l.world ≡ k.world
  pub tables : (m : ℕ) → (n == m) ≡ false → table_of l.tables m ≡ table_of k.tables m

module _ (scope : Operation → Scope) (ds : List Declared) (n : ℕ) where
  module _ (w : World) (T U : List Table) (same : (m : ℕ) → (n == m) ≡ false → table_of T m ≡ table_of U m) where
    abbrev left : Live
    left = record { world = w; tables = T }

    abbrev right : Live
    right = record { world = w; tables = U }

    itself : Alike n left right
    itself = record { world = refl; tables = same }

    ran : (u : Update) (gs : List Given) → (n == u.number) ≡ false
        → Alike n (after_run left u gs (run_in scope ds left u gs)) (after_run right u gs (run_in scope ds right u gs))
    ran u gs s =
        let e : table_of T u.number ≡ table_of U u.number = same u.number s in
        record {
          world = ap (λ ps. settled w u gs (run_update scope ds w ps u gs)) e;
          tables = λ m h. put_table T u.number (places_of (run_in scope ds left u gs)) m
              ∙ ((λ i. cond (u.number == m) (places_of (run_update scope ds w (e i) u gs)) (same m h i))
              ∙ sym (put_table U u.number (places_of (run_in scope ds right u gs)) m));
        }

    by_answer : (v : Waiting) (g : Given) → (n == v.update.number) ≡ false
        → Alike n (answered_by scope ds left v g (run_in scope ds left v.update v.answers)) (answered_by scope ds right v g (run_in scope ds right v.update v.answers))
    by_answer v g s =
        subst (λ ps. Alike n (answered_by scope ds left v g (run_in scope ds left v.update v.answers)) (answered_by scope ds right v g (run_update scope ds w ps v.update v.answers)))
        (same v.update.number s)
        (by (asks_it (run_in scope ds left v.update v.answers) g.asked))
      where
        by : (b : Bool) → Alike n (cond b (retried scope ds left v.update (take (taken_of (run_in scope ds left v.update v.answers)) v.answers ++ g ∷ [])) left)
            (cond b (retried scope ds right v.update (take (taken_of (run_in scope ds left v.update v.answers)) v.answers ++ g ∷ [])) right)
        by true = ran v.update (take (taken_of (run_in scope ds left v.update v.answers)) v.answers ++ g ∷ []) s
        by false = itself

    by_go : (v : Waiting) → (n == v.update.number) ≡ false → Alike n (gone_at scope ds left (Some v)) (gone_at scope ds right (Some v))
    by_go v s =
        subst (λ ps. Alike n (gone_at scope ds left (Some v)) (retried scope ds right v.update (take (taken_of (run_update scope ds w ps v.update v.answers)) v.answers)))
        (same v.update.number s)
        (ran v.update (take (taken_of (run_in scope ds left v.update v.answers)) v.answers) s)

    -- What a search by number finds has it.
    found_number : (vs : List Waiting) (m : ℕ) (v : Waiting) → find (λ (x : Waiting). x.update.number == m) vs ≡ Some v → v.update.number ≡ m
    found_number [] m v e = absurd (none_some v e)
    found_number (x ∷ vs) m v e = by (x.update.number == m) refl e (λ f. found_number vs m v f)
      where
        by : (b : Bool) → (x.update.number == m) ≡ b → cond b (Some x) (find (λ (y : Waiting). y.update.number == m) vs) ≡ Some v
            → (find (λ (y : Waiting). y.update.number == m) vs ≡ Some v → v.update.number ≡ m) → v.update.number ≡ m
        by true h f later = ap (λ (y : Waiting). y.update.number) (sym (some_same x v f)) ∙ eqb-true x.update.number m h
        by false h f later = later f

    other : (m : ℕ) (v : Waiting) → waiting_at w m ≡ Some v → (n == m) ≡ false → (n == v.update.number) ≡ false
    other m v e s = ap (λ k. n == k) (found_number w.waiting m v e) ∙ s

    answered : (m : ℕ) (g : Given) (o : Option Waiting) → waiting_at w m ≡ o → (n == m) ≡ false → Alike n (answered_at scope ds left g o) (answered_at scope ds right g o)
    answered m g None e s = itself
    answered m g (Some v) e s = by_answer v g (other m v e s)

    gone : (m : ℕ) (o : Option Waiting) → waiting_at w m ≡ o → (n == m) ≡ false → Alike n (gone_at scope ds left o) (gone_at scope ds right o)
    gone m None e s = itself
    gone m (Some v) e s = by_go v (other m v e s)

    one : (x : Line) → is_of n x ≡ false → Alike n (done_by scope ds left x) (done_by scope ds right x)
    one (Says u) s = ran u [] s
    one (Answers m g) s = answered m g (waiting_at w m) refl s
    one (Goes m) s = gone m (waiting_at w m) refl s
    one (Undoes ms) s = itself
    one (Redoes ms) s = itself
    one (Forgets ms) s = itself
    one (Declares d) s = itself

  next : (l k : Live) (x : Line) → Alike n l k → is_of n x ≡ false → Alike n (done_by scope ds l x) (done_by scope ds k x)
  next l k x a s =
      subst (λ w. Alike n (done_by scope ds l x) (done_by scope ds record { world = w; tables = k.tables } x)) a.world (one l.world l.tables k.tables a.tables x s)

  all : (l k : Live) (xs : List Line) → Alike n l k → list_any (is_of n) xs ≡ false → Alike n (done_by_all scope ds l xs) (done_by_all scope ds k xs)
  all l k [] a s = a
  all l k (x ∷ xs) a s =
      let parts : (is_of n x ≡ false) × (list_any (is_of n) xs ≡ false) = first_off (is_of n x) (list_any (is_of n) xs) s in
      all (done_by scope ds l x) (done_by scope ds k x) xs (next l k x a parts.0) parts.1

-- ---- the undo

-- A line more that does nothing.
idle_end : (scope : Operation → Scope) (ds : List Declared) (l : Live) (xs : List Line) (ns : List ℕ) → done_by_all scope ds l (xs ++ Undoes ns ∷ []) ≡ done_by_all scope ds l xs
idle_end scope ds l [] ns = refl
idle_end scope ds l (x ∷ xs) ns = idle_end scope ds (done_by scope ds l x) xs ns

module _ (scope : Operation → Scope) (S : State) (u : Update) where
  abbrev n : ℕ
  n = u.number

  -- The state after it was said and is undone, before the replay.
  abbrev after : State
  after = with_undone (logged (taken scope S (Says u)) (Undoes (u.number ∷ []))) (u.number ∷ S.undone)

  not_undone : (m : ℕ) → (u.number == m) ≡ false → among (u.number ∷ S.undone) m ≡ among S.undone m
  not_undone m e = ap (λ b. b || among S.undone m) e

  same_count : (k : ℕ) (x : Line) → is_of u.number x ≡ false → counts after k x ≡ counts S k x
  same_count k (Says v) e = ap not (not_undone v.number e)
  same_count k (Answers m g) e = ap (λ b. not b && not (among S.forgotten k)) (not_undone m e)
  same_count k (Goes m) e = ap (λ b. not b && not (among S.forgotten k)) (not_undone m e)
  same_count k (Undoes ms) e = refl
  same_count k (Redoes ms) e = refl
  same_count k (Forgets ms) e = refl
  same_count k (Declares d) e = refl

  is_undone : (k : ℕ) → counts after k (Says u) ≡ false
  is_undone k = ap (λ b. not (b || among S.undone u.number)) (eq-eqb u.number u.number refl)

  same_lines : (k : ℕ) (xs : List Line) → list_any (is_of u.number) xs ≡ false
      → counting after k ((xs ++ Says u ∷ []) ++ Undoes (u.number ∷ []) ∷ []) ≡ counting S k xs ++ Undoes (u.number ∷ []) ∷ []
  same_lines k [] e = ap (λ b. cond b (Says u ∷ Undoes (u.number ∷ []) ∷ []) (Undoes (u.number ∷ []) ∷ [])) (is_undone k)
  same_lines k (x ∷ xs) e =
      by (counts S k x) (same_count k x (first_off (is_of u.number x) (list_any (is_of u.number) xs) e).0)
      (same_lines (suc k) xs (first_off (is_of u.number x) (list_any (is_of u.number) xs) e).1)
    where
      by : (b : Bool) → counts after k x ≡ b
          → counting after (suc k) ((xs ++ Says u ∷ []) ++ Undoes (u.number ∷ []) ∷ []) ≡ counting S (suc k) xs ++ Undoes (u.number ∷ []) ∷ []
          → cond (counts after k x) (x ∷ counting after (suc k) ((xs ++ Says u ∷ []) ++ Undoes (u.number ∷ []) ∷ [])) (counting after (suc k) ((xs ++ Says u ∷ []) ++ Undoes (u.number ∷ []) ∷ []))
          ≡ cond b (x ∷ counting S (suc k) xs) (counting S (suc k) xs) ++ Undoes (u.number ∷ []) ∷ []
      by true c rest = rw c (ap (λ ys. x ∷ ys) rest)
      by false c rest = rw c rest

  none_counts : (k : ℕ) (xs : List Line) → list_any (is_of u.number) xs ≡ false → list_any (is_of u.number) (counting S k xs) ≡ false
  none_counts k [] e = refl
  none_counts k (x ∷ xs) e =
      by (counts S k x) (first_off (is_of u.number x) (list_any (is_of u.number) xs) e).0
      (none_counts (suc k) xs (first_off (is_of u.number x) (list_any (is_of u.number) xs) e).1)
    where
      by : (b : Bool) → is_of u.number x ≡ false → list_any (is_of u.number) (counting S (suc k) xs) ≡ false
          → list_any (is_of u.number) (cond b (x ∷ counting S (suc k) xs) (counting S (suc k) xs)) ≡ false
      by true f rest = ap (λ c. c || list_any (is_of u.number) (counting S (suc k) xs)) f ∙ rest
      by false f rest = rest

  same_waiting : (vs : List Waiting) → list_any (λ (v : Waiting). u.number == v.update.number) vs ≡ false → waited after vs ≡ waited S vs
  same_waiting [] e = refl
  same_waiting (v ∷ vs) e =
      by (among S.undone v.update.number)
      (not_undone v.update.number (first_off (u.number == v.update.number) (list_any (λ (x : Waiting). u.number == x.update.number) vs) e).0)
      (same_waiting vs (first_off (u.number == v.update.number) (list_any (λ (x : Waiting). u.number == x.update.number) vs) e).1)
    where
      by : (b : Bool) → among (u.number ∷ S.undone) v.update.number ≡ b → waited after vs ≡ waited S vs
          → waited after (v ∷ vs) ≡ map (λ (x : Waiting). record { update = x.update; answers = if among S.cleared x.update.number then [] else x.answers })
          (cond (not b) (v ∷ filter (λ (x : Waiting). not (among S.undone x.update.number)) vs) (filter (λ (x : Waiting). not (among S.undone x.update.number)) vs))
      by true c rest = rw c rest
      by false c rest = rw c (ap (λ xs. record { update = v.update; answers = if among S.cleared v.update.number then [] else v.answers } ∷ xs) rest)

  pub undo_takes_back : IsNew S u.number → UndoneAtOnce scope S u
  undo_takes_back new =
      let start : Alike u.number (first_live after) (first_live S) =
      record {
        world = ap (with_waiting S.base) (same_waiting S.base.waiting new.waiting);
        tables = λ m h. other_table S.live.tables u.number (places_of (run_in scope S.declared S.live u [])) m h;
      } in
      let lines : (replayed scope after).world ≡ (replayed scope S).world =
      ap (λ xs. (done_by_all scope S.declared (first_live after) xs).world) (same_lines 0 S.lines new.lines)
      ∙ (ap (λ (l : Live). l.world) (idle_end scope S.declared (first_live after) (counting S 0 S.lines) (u.number ∷ []))
      ∙ (all scope S.declared u.number (first_live after) (first_live S) (counting S 0 S.lines) start (none_counts 0 S.lines new.lines)).world) in
      record { replay = lines; before = λ e. lines ∙ e }

pub undone_at_once : UndoTakesBack
undone_at_once scope S u new = undo_takes_back scope S u new
