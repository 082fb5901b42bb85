-- The tables of names only grow over a log.
use Rattle.std.proofs.Common.{◌≡◌, ◌∙◌, ap, sym, refl, subst, ℕ, zero, suc, ◌<◌, true, false, Bool, not, ◌==◌, Option, Some, None, List, [], ◌∷◌, ◌++◌, find, filter, cond, arith, append_assoc}
use Rattle.std.specs.Prelude.{take, unwrap_or, slice_get}
use Rattle.std.specs.Option.{option_map}
use Rattle.std.proofs.lemmas.Bool.{eq-eqb, eqb-true}
use Rattle.std.proofs.lemmas.List.{append-nil}
use Rattle.def_machine.proofs.Basics.{longer_keeps}
use Rattle.def_chase.specs.Violations.{Scope}
use Rattle.def_chase.specs.Updates.{Operation}
use Rattle.def_chase.proofs.Bools.{some_same, none_some, differ}
use Rattle.def_workspace.specs.Lines.{Update, Given, Declared, Line, Says, Answers, Goes, Undoes, Redoes, Forgets, Declares}
use Rattle.def_workspace.specs.Places.{Place, Places, among}
use Rattle.def_workspace.specs.Worlds.{Waiting, Ran, places_of, taken_of, asks_it, waiting_at}
use Rattle.def_workspace.specs.States.{Table, table_of, with_table, Live, State, after_run, run_in, retried, answered_by, answered_at, gone_at, done_by, done_by_all, first_live, counting, with_undone, forgetting, logged, taken, taken_all}
use Rattle.def_workspace.specs.NameLaws.{AreRising, Grows, KeepsPlaces}
use Rattle.def_workspace.proofs.Naming.{runs_keep_places}
use Rattle.ws_laws.specs.Giving.{table_at, LogsKeepPlaces, NamesAreGivenOnce}

-- ---- tables that grow

pub no_more : (ps : Places) → Grows ps ps
no_more ps = record { more = []; all = sym (append-nil ps) }

pub further : (ps qs rs : Places) → Grows ps qs → Grows qs rs → Grows ps rs
further ps qs rs k l = record { more = k.more ++ l.more; all = l.all ∙ (ap (λ xs. xs ++ l.more) k.all ∙ append_assoc ps k.more l.more) }

pub itself : (ps : Places) → KeepsPlaces ps ps
itself ps = record { grows = no_more ps; rise = λ r. r }

pub both : (ps qs rs : Places) → KeepsPlaces ps qs → KeepsPlaces qs rs → KeepsPlaces ps rs
both ps qs rs k l = record { grows = further ps qs rs k.grows l.grows; rise = λ r. l.rise (k.rise r) }

-- The table of an update after one was put.
pub put_table : (ts : List Table) (k : ℕ) (ps : Places) (m : ℕ) → table_of (with_table ts k ps) m ≡ cond (k == m) ps (table_of ts m)
put_table [] k ps m = by (k == m)
  where
    by : (b : Bool) → unwrap_or (option_map (λ (t : Table). t.places) (cond b (Some record { number = k; places = ps }) None)) [] ≡ cond b ps []
    by true = refl
    by false = refl
put_table (t ∷ ts) k ps m = by (t.number == k) refl (put_table ts k ps m)
  where
    first : (b : Bool) → unwrap_or (option_map (λ (s : Table). s.places) (cond b (Some record { number = k; places = ps }) (find (λ (s : Table). s.number == m) ts))) []
        ≡ cond b ps (unwrap_or (option_map (λ (s : Table). s.places) (cond b (Some t) (find (λ (s : Table). s.number == m) ts))) [])
    first true = refl
    first false = refl

    later : (b c : Bool) → (b ≡ true → c ≡ true → ⊥) → table_of (with_table ts k ps) m ≡ cond c ps (table_of ts m)
        → unwrap_or (option_map (λ (s : Table). s.places) (cond b (Some t) (find (λ (s : Table). s.number == m) (with_table ts k ps)))) []
        ≡ cond c ps (unwrap_or (option_map (λ (s : Table). s.places) (cond b (Some t) (find (λ (s : Table). s.number == m) ts))) [])
    later true true h e = absurd (h refl refl)
    later true false h e = refl
    later false true h e = e
    later false false h e = e

    by : (b : Bool) → (t.number == k) ≡ b → table_of (with_table ts k ps) m ≡ cond (k == m) ps (table_of ts m)
        → table_of (cond b (record { number = k; places = ps } ∷ ts) (t ∷ with_table ts k ps)) m ≡ cond (k == m) ps (table_of (t ∷ ts) m)
    by true e rest =
        subst (λ j. table_of (record { number = k; places = ps } ∷ ts) m ≡ cond (k == m) ps (unwrap_or (option_map (λ (s : Table). s.places) (cond (j == m) (Some t) (find (λ (s : Table). s.number == m) ts))) []))
        (sym (eqb-true t.number k e)) (first (k == m))
    by false e rest =
        later (t.number == m) (k == m) (λ f g. differ (sym e ∙ eq-eqb t.number k (eqb-true t.number m f ∙ sym (eqb-true k m g)))) rest

-- The later tables are the earlier ones, each with places added at its end.
abbrev pub AllKeep : List Table → List Table → Type 0
AllKeep ts us = (n : ℕ) → KeepsPlaces (table_of ts n) (table_of us n)

pub all_both : (ts us vs : List Table) → AllKeep ts us → AllKeep us vs → AllKeep ts vs
all_both ts us vs k l n = both (table_of ts n) (table_of us n) (table_of vs n) (k n) (l n)

pub all_put : (ts : List Table) (k : ℕ) (ps : Places) → KeepsPlaces (table_of ts k) ps → AllKeep ts (with_table ts k ps)
all_put ts k ps h m = subst (KeepsPlaces (table_of ts m)) (sym (put_table ts k ps m)) (by (k == m) refl)
  where
    by : (b : Bool) → (k == m) ≡ b → KeepsPlaces (table_of ts m) (cond b ps (table_of ts m))
    by true e = subst (λ j. KeepsPlaces (table_of ts j) ps) (eqb-true k m e) h
    by false e = itself (table_of ts m)

-- ---- lines

module _ (scope : Operation → Scope) (ds : List Declared) where
  pub ran : (l : Live) (u : Update) (gs : List Given) → AllKeep l.tables (after_run l u gs (run_in scope ds l u gs)).tables
  ran l u gs = all_put l.tables u.number (places_of (run_in scope ds l u gs)) (runs_keep_places scope ds l.world (table_of l.tables u.number) u gs)

  by_answer : (l : Live) (v : Waiting) (g : Given) (r : Ran) → AllKeep l.tables (answered_by scope ds l v g r).tables
  by_answer l v g r = by (asks_it r g.asked)
    where
      by : (b : Bool) → AllKeep l.tables (cond b (retried scope ds l v.update (take (taken_of r) v.answers ++ g ∷ [])) l).tables
      by true = ran l v.update (take (taken_of r) v.answers ++ g ∷ [])
      by false = λ n. itself (table_of l.tables n)

  at_answer : (l : Live) (g : Given) (o : Option Waiting) → AllKeep l.tables (answered_at scope ds l g o).tables
  at_answer l g None = λ n. itself (table_of l.tables n)
  at_answer l g (Some v) = by_answer l v g (run_in scope ds l v.update v.answers)

  at_go : (l : Live) (o : Option Waiting) → AllKeep l.tables (gone_at scope ds l o).tables
  at_go l None = λ n. itself (table_of l.tables n)
  at_go l (Some v) = ran l v.update (take (taken_of (run_in scope ds l v.update v.answers)) v.answers)

  pub line : (l : Live) (x : Line) → AllKeep l.tables (done_by scope ds l x).tables
  line l (Says u) = ran l u []
  line l (Answers n g) = at_answer l g (waiting_at l.world n)
  line l (Goes n) = at_go l (waiting_at l.world n)
  line l (Undoes ns) = λ n. itself (table_of l.tables n)
  line l (Redoes ns) = λ n. itself (table_of l.tables n)
  line l (Forgets ns) = λ n. itself (table_of l.tables n)
  line l (Declares d) = λ n. itself (table_of l.tables n)

  pub lines : (l : Live) (xs : List Line) → AllKeep l.tables (done_by_all scope ds l xs).tables
  lines l [] = λ n. itself (table_of l.tables n)
  lines l (x ∷ xs) =
      all_both l.tables (done_by scope ds l x).tables (done_by_all scope ds (done_by scope ds l x) xs).tables (line l x) (lines (done_by scope ds l x) xs)

-- ---- logs

module _ (scope : Operation → Scope) where
  by_replay : (S : State) → AllKeep S.live.tables (done_by_all scope S.declared (first_live S) (counting S 0 S.lines)).tables
  by_replay S = lines scope S.declared (first_live S) (counting S 0 S.lines)

  pub takes : (S : State) (x : Line) → AllKeep S.live.tables (taken scope S x).live.tables
  takes S (Says u) = line scope S.declared S.live (Says u)
  takes S (Answers n g) = line scope S.declared S.live (Answers n g)
  takes S (Goes n) = line scope S.declared S.live (Goes n)
  takes S (Undoes ns) = by_replay (with_undone (logged S (Undoes ns)) (ns ++ S.undone))
  takes S (Redoes ns) = by_replay (with_undone (logged S (Redoes ns)) (filter (λ n. not (among ns n)) S.undone))
  takes S (Forgets ns) = by_replay (forgetting (logged S (Forgets ns)) ns)
  takes S (Declares d) = λ n. itself (table_of S.live.tables n)

  pub logs : (S : State) (xs : List Line) → AllKeep S.live.tables (taken_all scope S xs).live.tables
  logs S [] = λ n. itself (table_of S.live.tables n)
  logs S (x ∷ xs) =
      all_both S.live.tables (taken scope S x).live.tables (taken_all scope (taken scope S x) xs).live.tables (takes S x) (logs (taken scope S x) xs)

pub logs_keep_places : LogsKeepPlaces
logs_keep_places scope S xs n = logs scope S xs n

-- ---- one cause for a place

above : (m : ℕ) (ps : Places) (i : ℕ) (p : Place) → AreRising m ps → slice_get ps i ≡ Some p → m < p.number
above m [] i p r e = absurd (none_some p e)
above m (x ∷ ps) zero p r e = subst (λ (y : Place). m < y.number) (some_same x p e) r.0
above m (x ∷ ps) (suc i) p r e = let l : x.number < p.number = above x.number ps i p r.1 e in let f : m < x.number = r.0 in omega (arith, l, f)

one_place : (m : ℕ) (ps : Places) (i j : ℕ) (p q : Place) → AreRising m ps → slice_get ps i ≡ Some p → slice_get ps j ≡ Some q → p.number ≡ q.number → p.cause ≡ q.cause
one_place m [] i j p q r e f s = absurd (none_some p e)
one_place m (x ∷ ps) zero zero p q r e f s = ap (λ (y : Place). y.cause) (sym (some_same x p e) ∙ some_same x q f)
one_place m (x ∷ ps) zero (suc j) p q r e f s =
    let l : x.number < q.number = above x.number ps j q r.1 f in
    let g : x.number ≡ p.number = ap (λ (y : Place). y.number) (some_same x p e) in absurd (omega (arith, l, g, s))
one_place m (x ∷ ps) (suc i) zero p q r e f s =
    let l : x.number < p.number = above x.number ps i p r.1 e in
    let g : x.number ≡ q.number = ap (λ (y : Place). y.number) (some_same x q f) in absurd (omega (arith, l, g, s))
one_place m (x ∷ ps) (suc i) (suc j) p q r e f s = one_place x.number ps i j p q r.1 e f s

pub names_are_given_once : NamesAreGivenOnce
names_are_given_once scope S xs n i j p q r e f s =
    let k : KeepsPlaces (table_at S n) (table_at (taken_all scope S xs) n) = logs scope S xs n in
    one_place 0 (table_at (taken_all scope S xs) n) i j p q (k.rise r)
    (ap (λ ps. slice_get ps i) k.grows.all ∙ longer_keeps (table_at S n) k.grows.more i p e) f s
