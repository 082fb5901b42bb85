-- Undos of what came after a fold do the same with the fold as without it.
use Rattle.std.proofs.Common.{◌≡◌, ◌∙◌, ap, sym, refl, subst, ℕ, suc, ◌+◌, ◌<◌, true, false, Bool, not, ◌&&◌, ◌||◌, List, [], ◌∷◌, ◌++◌, filter, length, cond, arith, append_assoc}
use Rattle.std.specs.List.{list_all}
use Rattle.std.proofs.lemmas.List.{append-nil}
use Rattle.def_chase.specs.Violations.{Scope}
use Rattle.def_chase.specs.Updates.{Operation}
use Rattle.def_chase.proofs.Bools.{differ, first_off}
use Rattle.def_workspace.specs.Lines.{Declared, Line, Says, Answers, Goes, Undoes, Redoes, Forgets, Declares}
use Rattle.def_workspace.specs.Places.{among, greater}
use Rattle.def_workspace.specs.Worlds.{World, with_waiting}
use Rattle.def_workspace.specs.States.{Table, table_of, Live, State, counts, counting, first_live, answers_to, done_by, done_by_all, replayed, with_live, logged, numbered, with_undone, forgetting, with_declared, declaring, taken, taken_all}
use Rattle.ws_laws.specs.Logs.{state_of, has_name, Throughout, IsFit}
use Rattle.ws_laws.specs.Folds.{folded, AreLater, IsOfLater, LookAlike, UndosSeeNoFold}
use Rattle.ws_laws.proofs.Growing.{no_more, further, takes}
use Rattle.ws_laws.proofs.Declaring.{both_parts, all_end, line_known, counting_known, first_known, new_is_last, AllDeclared, stay_declared}
use Rattle.ws_laws.proofs.SameMappings.{same_lines}
use Rattle.ws_laws.proofs.Replaying.{Covers, SameTables, Again}
use Rattle.ws_laws.proofs.Logging.{opened_same, settled_logs, declared_logs}
use Rattle.ws_laws.proofs.Marking.{among_join, among_without, NewIn, NewAmong, Elsewhere, same_waited, same_counting, answers_past, answers_above, answers_shifted, Marked, AllMarked, marked_end, all_marked_still, marked_counting}
use Rattle.ws_laws.proofs.Alike.{Twins, twins_next, twins_all}

-- R is the state of a log after the lines that came since the fold of S, and F is the state with the fold. The lines before the
-- fold still have their effect in R, and those after it are marked alike in both.
record Beyond (scope : Operation → Scope) (S R F : State) : Type 0 where
  pub lines : R.lines ≡ S.lines ++ F.lines
  pub old : R.base ≡ S.base
  pub base : F.base ≡ S.live.world
  pub declared : R.declared ≡ F.declared
  pub last : R.last ≡ F.last
  pub front : (us : List Table) → Covers S.live.tables us
      → Again S.live.world us (done_by_all scope R.declared record { world = (first_live R).world; tables = us } (counting R 0 S.lines))
  pub waits : (first_live F).world ≡ S.live.world
  pub undone : (m : ℕ) → among R.undone m ≡ false → among F.undone m ≡ false
  pub forgotten : (j : ℕ) → among R.forgotten (length S.lines + j) ≡ false → among F.forgotten j ≡ false
  pub marked : AllMarked R.undone F.undone R.forgotten F.forgotten (length S.lines) 0 F.lines

-- ---- lists

length_join : (xs ys : List Line) → length (xs ++ ys) ≡ length xs + length ys
length_join [] ys = omega arith
length_join (x ∷ xs) ys = let e : length (xs ++ ys) ≡ length xs + length ys = length_join xs ys in omega (arith, e)

all_front : (p : Line → Bool) (xs ys : List Line) → list_all p (xs ++ ys) ≡ true → list_all p xs ≡ true
all_front p [] ys e = refl
all_front p (x ∷ xs) ys e =
    let q : (p x ≡ true) × (list_all p (xs ++ ys) ≡ true) = both_parts (p x) (list_all p (xs ++ ys)) e in
    ap (λ b. b && list_all p xs) q.0 ∙ all_front p xs ys q.1

counting_join : (S : State) (k n : ℕ) (xs ys : List Line) → n ≡ k + length xs → counting S k (xs ++ ys) ≡ counting S k xs ++ counting S n ys
counting_join S k n [] ys e = ap (λ j. counting S j ys) here
  where
    here : k ≡ n
    here = omega (arith, e)
counting_join S k n (x ∷ xs) ys e = by (counts S k x) (counting_join S (suc k) n xs ys (omega (arith, e)))
  where
    by : (b : Bool) → counting S (suc k) (xs ++ ys) ≡ counting S (suc k) xs ++ counting S n ys
        → cond b (x ∷ counting S (suc k) (xs ++ ys)) (counting S (suc k) (xs ++ ys)) ≡ cond b (x ∷ counting S (suc k) xs) (counting S (suc k) xs) ++ counting S n ys
    by true h = ap (λ zs. x ∷ zs) h
    by false h = h

done_join : (scope : Operation → Scope) (ds : List Declared) (l : Live) (xs ys : List Line)
    → done_by_all scope ds l (xs ++ ys) ≡ done_by_all scope ds (done_by_all scope ds l xs) ys
done_join scope ds l [] ys = refl
done_join scope ds l (x ∷ xs) ys = done_join scope ds (done_by scope ds l x) xs ys

-- ---- updates that are new at the fold

new_lines : (S : State) (ns : List ℕ) → AreLater S ns → NewIn S.lines ns
new_lines S [] a = tt
new_lines S (n ∷ ns) a = (a.0.before.lines, new_lines S ns a.1)

new_base : (S : State) (ns : List ℕ) → AreLater S ns → NewAmong S.base.waiting ns
new_base S [] a = tt
new_base S (n ∷ ns) a = (a.0.before.waiting, new_base S ns a.1)

new_now : (S : State) (ns : List ℕ) → AreLater S ns → NewAmong S.live.world.waiting ns
new_now S [] a = tt
new_now S (n ∷ ns) a = (a.0.now.waiting, new_now S ns a.1)

-- ---- the two states

-- The state with other marks: what is undone, what is forgotten, and what is cleared.
abbrev marks : State → List ℕ → List ℕ → List ℕ → State
marks S V P C = record { base = S.base; lines = S.lines; undone = V; forgotten = P; cleared = C; declared = S.declared; last = S.last; live = S.live }

module _ (scope : Operation → Scope) (S : State) where
  abbrev c : ℕ
  c = length S.lines

  abbrev front_of : State → List Table → Live
  front_of R us = done_by_all scope R.declared record { world = (first_live R).world; tables = us } (counting R 0 S.lines)

  lives : (R F : State) (l k : Live) → Beyond scope S R F → Beyond scope S (with_live R l) (with_live F k)
  lives R F l k a =
      record {
        lines = a.lines;
        old = a.old;
        base = a.base;
        declared = a.declared;
        last = a.last;
        front = a.front;
        waits = a.waits;
        undone = a.undone;
        forgotten = a.forgotten;
        marked = a.marked;
      }

  numbers : (R F : State) (n : ℕ) → Beyond scope S R F → Beyond scope S (numbered R n) (numbered F n)
  numbers R F n a =
      record {
        lines = a.lines;
        old = a.old;
        base = a.base;
        declared = a.declared;
        last = λ i. greater (a.last i) n;
        front = a.front;
        waits = a.waits;
        undone = a.undone;
        forgotten = a.forgotten;
        marked = a.marked;
      }

  logs : (R F : State) (x : Line) → Beyond scope S R F → Marked R.undone F.undone R.forgotten F.forgotten c (length F.lines) x
      → Beyond scope S (logged R x) (logged F x)
  logs R F x a m =
      record {
        lines = ap (λ ys. ys ++ x ∷ []) a.lines ∙ append_assoc S.lines F.lines (x ∷ []);
        old = a.old;
        base = a.base;
        declared = a.declared;
        last = a.last;
        front = a.front;
        waits = a.waits;
        undone = a.undone;
        forgotten = a.forgotten;
        marked = marked_end R.undone F.undone R.forgotten F.forgotten c 0 (length F.lines) F.lines x (omega arith) a.marked m;
      }

  declares : (R F : State) (d : Declared) → Beyond scope S R F → AllDeclared R → has_name R.declared d.name ≡ false
      → Beyond scope S (with_declared R (declaring R.declared d)) (with_declared F (declaring F.declared d))
  declares R F d a k e =
      record {
        lines = a.lines;
        old = a.old;
        base = a.base;
        declared = λ i. declaring (a.declared i) d;
        last = a.last;
        front = λ us v. subst (Again S.live.world us)
            (sym (ap (λ ds. done_by_all scope ds record { world = (first_live R).world; tables = us } (counting R 0 S.lines)) (new_is_last R.declared d e)
            ∙ same_lines scope R.declared d record { world = (first_live R).world; tables = us } (counting R 0 S.lines) (first_known R.declared R k.base)
            (counting_known R.declared R 0 S.lines
            (all_front (line_known R.declared) S.lines F.lines (subst (λ xs. list_all (line_known R.declared) xs ≡ true) a.lines k.lines)))))
            (a.front us v);
        waits = a.waits;
        undone = a.undone;
        forgotten = a.forgotten;
        marked = a.marked;
      }

  -- Other marks of updates that are new at the fold.
  marks_of : (R F : State) (ns V P C W Q D : List ℕ) → Beyond scope S R F → AreLater S ns
      → Elsewhere ns V R.undone → Elsewhere ns C R.cleared → ((i : ℕ) → i < c → among P i ≡ among R.forgotten i)
      → Elsewhere ns W F.undone → Elsewhere ns D F.cleared
      → ((m : ℕ) → among R.undone m ≡ among F.undone m → among V m ≡ among W m)
      → ((i : ℕ) → among R.forgotten (c + i) ≡ among F.forgotten i → among P (c + i) ≡ among Q i)
      → ((m : ℕ) → among V m ≡ false → among W m ≡ false)
      → ((j : ℕ) → among P (c + j) ≡ false → among Q j ≡ false)
      → Beyond scope S (marks R V P C) (marks F W Q D)
  marks_of R F ns V P C W Q D a later v h p w d undone forgotten fewer less =
      let waiting : (first_live (marks R V P C)).world ≡ (first_live R).world =
      ap (with_waiting R.base) (same_waited ns (marks R V P C) R v h R.base.waiting (subst (λ (b : World). NewAmong b.waiting ns) (sym a.old) (new_base S ns later))) in
      let counted : counting (marks R V P C) 0 S.lines ≡ counting R 0 S.lines =
      same_counting ns (marks R V P C) R c v p 0 c S.lines (omega arith) refl (new_lines S ns later) in
      record {
        lines = a.lines;
        old = a.old;
        base = a.base;
        declared = a.declared;
        last = a.last;
        front = λ us u. subst (Again S.live.world us)
            (sym (λ i. done_by_all scope R.declared record { world = waiting i; tables = us } (counted i))) (a.front us u);
        waits = ap (with_waiting F.base)
            (same_waited ns (marks F W Q D) F w d F.base.waiting (subst (λ (b : World). NewAmong b.waiting ns) (sym a.base) (new_now S ns later))) ∙ a.waits;
        undone = fewer;
        forgotten = less;
        marked = all_marked_still R.undone F.undone R.forgotten F.forgotten V W P Q c undone forgotten 0 F.lines a.marked;
      }

  unmarked : (ns V : List ℕ) → Elsewhere ns V V
  unmarked ns V m e = refl

  joined : (ns V : List ℕ) → Elsewhere ns (ns ++ V) V
  joined ns V m e = among_join ns V m ∙ ap (λ b. b || among V m) e

  removed : (ns V : List ℕ) → Elsewhere ns (filter (λ n. not (among ns n)) V) V
  removed ns V m e = among_without ns V m ∙ ap (λ b. not b && among V m) e

  undoes : (R F : State) (ns : List ℕ) → Beyond scope S R F → AreLater S ns → Beyond scope S (with_undone R (ns ++ R.undone)) (with_undone F (ns ++ F.undone))
  undoes R F ns a later =
      marks_of R F ns (ns ++ R.undone) R.forgotten R.cleared (ns ++ F.undone) F.forgotten F.cleared a later
      (joined ns R.undone) (unmarked ns R.cleared) (λ i l. refl) (joined ns F.undone) (unmarked ns F.cleared)
      (λ m e. among_join ns R.undone m ∙ (ap (λ b. among ns m || b) e ∙ sym (among_join ns F.undone m))) (λ i e. e) fewer a.forgotten
    where
      fewer : (m : ℕ) → among (ns ++ R.undone) m ≡ false → among (ns ++ F.undone) m ≡ false
      fewer m e =
          let p : (among ns m ≡ false) × (among R.undone m ≡ false) = first_off (among ns m) (among R.undone m) (sym (among_join ns R.undone m) ∙ e) in
          among_join ns F.undone m ∙ (ap (λ b. b || among F.undone m) p.0 ∙ a.undone m p.1)

  redoes : (R F : State) (ns : List ℕ) → Beyond scope S R F → AreLater S ns
      → Beyond scope S (with_undone R (filter (λ n. not (among ns n)) R.undone)) (with_undone F (filter (λ n. not (among ns n)) F.undone))
  redoes R F ns a later =
      marks_of R F ns (filter (λ n. not (among ns n)) R.undone) R.forgotten R.cleared (filter (λ n. not (among ns n)) F.undone) F.forgotten F.cleared a later
      (removed ns R.undone) (unmarked ns R.cleared) (λ i l. refl) (removed ns F.undone) (unmarked ns F.cleared)
      (λ m e. among_without ns R.undone m ∙ (ap (λ b. not (among ns m) && b) e ∙ sym (among_without ns F.undone m))) (λ i e. e)
      (λ m e. among_without ns F.undone m ∙ by (among ns m) (among R.undone m) (among F.undone m) (sym (among_without ns R.undone m) ∙ e) (a.undone m)) a.forgotten
    where
      by : (b x y : Bool) → (not b && x) ≡ false → (x ≡ false → y ≡ false) → (not b && y) ≡ false
      by true x y e h = refl
      by false x y e h = h e

  forgets : (R F : State) (ns : List ℕ) → Beyond scope S R F → AreLater S ns → Beyond scope S (forgetting R ns) (forgetting F ns)
  forgets R F ns a later =
      marks_of R F ns R.undone (answers_to ns 0 R.lines ++ R.forgotten) (ns ++ R.cleared) F.undone (answers_to ns 0 F.lines ++ F.forgotten) (ns ++ F.cleared)
      a later (unmarked ns R.undone) (joined ns R.cleared) below (unmarked ns F.undone) (joined ns F.cleared) (λ m e. e) alike a.undone less
    where
      since : answers_to ns 0 R.lines ≡ answers_to ns c F.lines
      since = ap (answers_to ns 0) a.lines ∙ answers_past ns 0 c S.lines F.lines (omega arith) (new_lines S ns later)

      below : (i : ℕ) → i < c → among (answers_to ns 0 R.lines ++ R.forgotten) i ≡ among R.forgotten i
      below i l =
          among_join (answers_to ns 0 R.lines) R.forgotten i
          ∙ ap (λ b. b || among R.forgotten i) (ap (λ xs. among xs i) since ∙ answers_above ns c i F.lines l)

      shifted : (i : ℕ) → among (answers_to ns 0 R.lines) (c + i) ≡ among (answers_to ns 0 F.lines) i
      shifted i = ap (λ xs. among xs (c + i)) since ∙ answers_shifted ns c c 0 i F.lines (omega arith)

      alike : (i : ℕ) → among R.forgotten (c + i) ≡ among F.forgotten i
          → among (answers_to ns 0 R.lines ++ R.forgotten) (c + i) ≡ among (answers_to ns 0 F.lines ++ F.forgotten) i
      alike i e =
          among_join (answers_to ns 0 R.lines) R.forgotten (c + i)
          ∙ ((λ p. shifted i p || e p) ∙ sym (among_join (answers_to ns 0 F.lines) F.forgotten i))

      less : (j : ℕ) → among (answers_to ns 0 R.lines ++ R.forgotten) (c + j) ≡ false → among (answers_to ns 0 F.lines ++ F.forgotten) j ≡ false
      less j e =
          let p : (among (answers_to ns 0 R.lines) (c + j) ≡ false) × (among R.forgotten (c + j) ≡ false) =
          first_off (among (answers_to ns 0 R.lines) (c + j)) (among R.forgotten (c + j)) (sym (among_join (answers_to ns 0 R.lines) R.forgotten (c + j)) ∙ e) in
          among_join (answers_to ns 0 F.lines) F.forgotten j
          ∙ (ap (λ b. b || among F.forgotten j) (sym (shifted j) ∙ p.0) ∙ a.forgotten j p.1)

  -- ---- replays

  replays : (R F : State) → Beyond scope S R F → Covers S.live.tables R.live.tables → SameTables R.live.tables F.live.tables
      → Twins (replayed scope R) (replayed scope F)
  replays R F a v t =
      let middle : Again S.live.world R.live.tables (front_of R R.live.tables) = a.front R.live.tables v in
      let both : Twins (front_of R R.live.tables) (first_live F) = record { world = middle.world ∙ sym a.waits; tables = λ n. middle.tables n ∙ t n } in
      let split : replayed scope R ≡ done_by_all scope R.declared (front_of R R.live.tables) (counting F 0 F.lines) =
      ap (done_by_all scope R.declared (first_live R)) (ap (counting R 0) a.lines ∙ counting_join R 0 c S.lines F.lines (omega arith))
      ∙ (done_join scope R.declared (first_live R) (counting R 0 S.lines) (counting R c F.lines)
      ∙ ap (done_by_all scope R.declared (front_of R R.live.tables)) (marked_counting R F c c 0 F.lines (omega arith) a.marked)) in
      subst (λ l. Twins l (replayed scope F)) (sym split)
      (subst (λ ds. Twins (done_by_all scope R.declared (front_of R R.live.tables) (counting F 0 F.lines)) (done_by_all scope ds (first_live F) (counting F 0 F.lines)))
      a.declared (twins_all scope R.declared (front_of R R.live.tables) (first_live F) (counting F 0 F.lines) both))

  -- ---- one line

  abbrev Both : State → State → Type 0
  Both R F = Beyond scope S R F × Twins R.live F.live

  done : (R F : State) (x : Line) → Beyond scope S R F → Twins R.live F.live → Twins (done_by scope R.declared R.live x) (done_by scope F.declared F.live x)
  done R F x a t =
      subst (λ ds. Twins (done_by scope R.declared R.live x) (done_by scope ds F.live x)) a.declared (twins_next scope R.declared R.live F.live x t)

  again : (R F : State) → Beyond scope S R F → Covers S.live.tables R.live.tables → Twins R.live F.live
      → Both (with_live R (replayed scope R)) (with_live F (replayed scope F))
  again R F a v t = (lives R F (replayed scope R) (replayed scope F) a, replays R F a v t.tables)

  not_true : (b : Bool) → not b ≡ true → b ≡ false
  not_true true e = differ e
  not_true false e = refl

  -- A line that counts has no mark, with the fold or without.
  no_mark : (R F : State) → Beyond scope S R F → (n : ℕ) → (not (among R.undone n) && not (among R.forgotten (length R.lines))) ≡ true
      → (among R.undone n ≡ among F.undone n) × (among R.forgotten (c + length F.lines) ≡ among F.forgotten (length F.lines))
  no_mark R F a n e =
      let p : (not (among R.undone n) ≡ true) × (not (among R.forgotten (length R.lines)) ≡ true) =
      both_parts (not (among R.undone n)) (not (among R.forgotten (length R.lines))) e in
      let u : among R.undone n ≡ false = not_true (among R.undone n) p.0 in
      let place : length R.lines ≡ c + length F.lines = ap length a.lines ∙ length_join S.lines F.lines in
      let f : among R.forgotten (c + length F.lines) ≡ false = ap (among R.forgotten) (sym place) ∙ not_true (among R.forgotten (length R.lines)) p.1 in
      (u ∙ sym (a.undone n u), f ∙ sym (a.forgotten (length F.lines) f))

  next : (R F : State) (x : Line) → Beyond scope S R F → Twins R.live F.live → Covers S.live.tables R.live.tables → AllDeclared R → IsFit R x → IsOfLater S R x
      → Both (taken scope R x) (taken scope F x)
  next R F (Says u) a t v k f h =
      let e : among R.undone u.number ≡ false = not_true (among R.undone u.number) f.counted in (
        lives (numbered (logged R (Says u)) u.number) (numbered (logged F (Says u)) u.number) (done_by scope R.declared R.live (Says u)) (done_by scope F.declared F.live (Says u))
            (numbers (logged R (Says u)) (logged F (Says u)) u.number (logs R F (Says u) a (e ∙ sym (a.undone u.number e)))),
        done R F (Says u) a t,
      )
  next R F (Answers n g) a t v k f h = (
    lives (logged R (Answers n g)) (logged F (Answers n g)) (done_by scope R.declared R.live (Answers n g)) (done_by scope F.declared F.live (Answers n g))
        (logs R F (Answers n g) a (no_mark R F a n f.counted)),
    done R F (Answers n g) a t,
  )
  next R F (Goes n) a t v k f h = (
    lives (logged R (Goes n)) (logged F (Goes n)) (done_by scope R.declared R.live (Goes n)) (done_by scope F.declared F.live (Goes n))
        (logs R F (Goes n) a (no_mark R F a n f.counted)),
    done R F (Goes n) a t,
  )
  next R F (Undoes ns) a t v k f h =
      again (with_undone (logged R (Undoes ns)) (ns ++ R.undone)) (with_undone (logged F (Undoes ns)) (ns ++ F.undone))
      (undoes (logged R (Undoes ns)) (logged F (Undoes ns)) ns (logs R F (Undoes ns) a tt) h) v t
  next R F (Redoes ns) a t v k f h =
      again (with_undone (logged R (Redoes ns)) (filter (λ n. not (among ns n)) R.undone)) (with_undone (logged F (Redoes ns)) (filter (λ n. not (among ns n)) F.undone))
      (redoes (logged R (Redoes ns)) (logged F (Redoes ns)) ns (logs R F (Redoes ns) a tt) h) v t
  next R F (Forgets ns) a t v k f h =
      again (forgetting (logged R (Forgets ns)) ns) (forgetting (logged F (Forgets ns)) ns)
      (forgets (logged R (Forgets ns)) (logged F (Forgets ns)) ns (logs R F (Forgets ns) a tt) h) v t
  next R F (Declares d) a t v k f h = (
    declares (logged R (Declares d)) (logged F (Declares d)) d (logs R F (Declares d) a tt)
        record { base = k.base; lines = all_end (line_known R.declared) R.lines (Declares d) k.lines refl; now = k.now } f.sound,
    t,
  )

  all : (R F : State) (xs : List Line) → Beyond scope S R F → Twins R.live F.live → Covers S.live.tables R.live.tables → AllDeclared R
      → Throughout scope IsFit R xs → Throughout scope (IsOfLater S) R xs → LookAlike (taken_all scope R xs) (taken_all scope F xs)
  all R F [] a t v k f h = record { world = t.world; tables = t.tables; declared = a.declared; last = a.last }
  all R F (x ∷ xs) a t v k f h =
      let b : Both (taken scope R x) (taken scope F x) = next R F x a t v k f.0 h.0 in
      all (taken scope R x) (taken scope F x) xs b.0 b.1
      (λ n. further (table_of S.live.tables n) (table_of R.live.tables n) (table_of (taken scope R x).live.tables n) (v n) (takes scope R x n).grows)
      (stay_declared scope R x f.0.sound k) f.1 h.1

  begun : Beyond scope S S (folded S) → AllDeclared S → (ys : List Line) → Throughout scope IsFit S ys → Throughout scope (IsOfLater S) S ys
      → LookAlike (taken_all scope S ys) (taken_all scope (folded S) ys)
  begun a k ys f h =
      all S (folded S) ys a record { world = refl; tables = λ n. refl } (λ n. no_more (table_of S.live.tables n)) k f h

pub undos_see_no_fold : UndosSeeNoFold
undos_see_no_fold scope ds n l xs ys d t f h =
    begun scope (state_of scope ds n l xs)
    record {
      lines = sym (append-nil (state_of scope ds n l xs).lines);
      old = refl;
      base = refl;
      declared = refl;
      last = refl;
      front = settled_logs scope ds n l xs d t;
      waits = opened_same (state_of scope ds n l xs).declared (state_of scope ds n l xs).last (state_of scope ds n l xs).live;
      undone = λ m e. refl;
      forgotten = λ j e. refl;
      marked = tt;
    }
    (declared_logs scope ds n l xs d t) ys f h
