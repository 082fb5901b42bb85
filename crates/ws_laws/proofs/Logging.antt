-- A replay of the whole log gives what stands.
use Rattle.std.proofs.Common.{◌≡◌, ◌∙◌, ap, sym, refl, subst, ℕ, suc, ◌+◌, true, false, Bool, not, List, [], ◌∷◌, ◌++◌, filter, length, cond, arith}
use Rattle.def_chase.specs.Violations.{Scope}
use Rattle.def_chase.specs.Updates.{Operation}
use Rattle.def_workspace.specs.Lines.{Declared, Line, Says, Answers, Goes, Undoes, Redoes, Forgets, Declares}
use Rattle.def_workspace.specs.Places.{among}
use Rattle.def_workspace.specs.Worlds.{Waiting, with_waiting}
use Rattle.def_workspace.specs.States.{Table, table_of, Live, State, counts, counting, waited, first_live, done_by, done_by_all, replayed, logged, with_undone, forgetting, declaring, taken, taken_all}
use Rattle.def_workspace.proofs.Undoing.{undone_at_once}
use Rattle.ws_laws.specs.Logs.{opened, Throughout, IsSound, AreDeclared}
use Rattle.ws_laws.specs.Replays.{IsHeard, ReplayHears, IsTold, ReplaysKeepWhatStands, UndosTakeBack}
use Rattle.ws_laws.proofs.Growing.{no_more, further, line}
use Rattle.ws_laws.proofs.Declaring.{all_end, line_known, counting_known, first_known, new_is_last, AllDeclared, stay_declared}
use Rattle.ws_laws.proofs.SameMappings.{same_lines}
use Rattle.ws_laws.proofs.Replaying.{Covers, Again, line_again, lines_again}

-- ---- one more line

pub counting_end : (S : State) (k n : ℕ) (xs : List Line) (x : Line) → n ≡ k + length xs → counts S n x ≡ true → counting S k (xs ++ x ∷ []) ≡ counting S k xs ++ x ∷ []
counting_end S k n [] x e c = ap (λ b. cond b (x ∷ []) []) (subst (λ j. counts S j x ≡ true) here c)
  where
    here : n ≡ k
    here = omega (arith, e)
counting_end S k n (y ∷ xs) x e c = by (counts S k y) (counting_end S (suc k) n xs x (omega (arith, e)) c)
  where
    by : (b : Bool) → counting S (suc k) (xs ++ x ∷ []) ≡ counting S (suc k) xs ++ x ∷ []
        → cond b (y ∷ counting S (suc k) (xs ++ x ∷ [])) (counting S (suc k) (xs ++ x ∷ [])) ≡ cond b (y ∷ counting S (suc k) xs) (counting S (suc k) xs) ++ x ∷ []
    by true h = ap (λ ys. y ∷ ys) h
    by false h = h

pub done_end : (scope : Operation → Scope) (ds : List Declared) (l : Live) (xs : List Line) (x : Line)
    → done_by_all scope ds l (xs ++ x ∷ []) ≡ done_by scope ds (done_by_all scope ds l xs) x
done_end scope ds l [] x = refl
done_end scope ds l (y ∷ xs) x = done_end scope ds (done_by scope ds l y) xs x

-- With nothing undone and nothing taken back, all that waited waits as it did.
all_waited : (ds : List Declared) (n : ℕ) (l : Live) (vs : List Waiting) → waited (opened ds n l) vs ≡ vs
all_waited ds n l [] = refl
all_waited ds n l (v ∷ vs) = ap (λ ws. v ∷ ws) (all_waited ds n l vs)

pub opened_same : (ds : List Declared) (n : ℕ) (l : Live) → (first_live (opened ds n l)).world ≡ l.world
opened_same ds n l = ap (with_waiting l.world) (all_waited ds n l l.world.waiting)

-- ---- replays with tables that have all places

module _ (scope : Operation → Scope) where
  -- What stands where a replay begins, with these tables.
  abbrev start : State → List Table → Live
  start S us = record { world = (first_live S).world; tables = us }

  abbrev replayed_with : State → List Table → Live
  replayed_with S us = done_by_all scope S.declared (start S us) (counting S 0 S.lines)

  -- A replay with tables that have all places gives what stands, and no new place.
  abbrev Settled : State → Type 0
  Settled S = (us : List Table) → Covers S.live.tables us → Again S.live.world us (replayed_with S us)

  one_more : (S : State) (x : Line) → Settled S → counts S (length S.lines) x ≡ true → IsHeard scope S.declared S.live x → (us : List Table)
      → Covers (done_by scope S.declared S.live x).tables us
      → Again (done_by scope S.declared S.live x).world us (done_by_all scope S.declared (start S us) (counting S 0 (S.lines ++ x ∷ [])))
  one_more S x a e h us c =
      subst (Again (done_by scope S.declared S.live x).world us)
      (sym (ap (done_by_all scope S.declared (start S us)) (counting_end S 0 (length S.lines) S.lines x (omega arith) e)
      ∙ done_end scope S.declared (start S us) (counting S 0 S.lines) x))
      (line_again scope S.declared S.live (replayed_with S us) us x h c
      (a us (λ n. further (table_of S.live.tables n) (table_of (done_by scope S.declared S.live x).tables n) (table_of us n)
      (line scope S.declared S.live x n).grows (c n))))

  -- A replay that was made, made once more.
  once_more : (S : State) → ReplayHears scope S → (us : List Table) → Covers (replayed scope S).tables us → Again (replayed scope S).world us (replayed_with S us)
  once_more S h us c =
      lines_again scope S.declared (first_live S) (start S us) us (counting S 0 S.lines) h c record { world = refl; tables = λ n. refl }

  declared_more : (S : State) (d : Declared) → Settled S → AllDeclared S → IsSound S (Declares d) → (us : List Table) → Covers S.live.tables us
      → Again S.live.world us (done_by_all scope (declaring S.declared d) (start S us) (counting S 0 (S.lines ++ Declares d ∷ [])))
  declared_more S d a k s us c =
      subst (Again S.live.world us)
      (sym (ap (λ ds. done_by_all scope ds (start S us) (counting S 0 (S.lines ++ Declares d ∷ []))) (new_is_last S.declared d s)
      ∙ same_lines scope S.declared d (start S us) (counting S 0 (S.lines ++ Declares d ∷ []))
      record { in_force = (first_known S.declared S k.base).in_force; waiting = (first_known S.declared S k.base).waiting }
      (counting_known S.declared S 0 (S.lines ++ Declares d ∷ []) (all_end (line_known S.declared) S.lines (Declares d) k.lines refl))))
      (one_more S (Declares d) a refl tt us c)

  settles : (S : State) (x : Line) → IsTold scope S x → AllDeclared S → Settled S → Settled (taken scope S x)
  settles S (Says u) t k a = one_more S (Says u) a t.fit.counted tt
  settles S (Answers n g) t k a = one_more S (Answers n g) a t.fit.counted t.heard
  settles S (Goes n) t k a = one_more S (Goes n) a t.fit.counted tt
  settles S (Undoes ns) t k a = once_more (with_undone (logged S (Undoes ns)) (ns ++ S.undone)) t.heard
  settles S (Redoes ns) t k a = once_more (with_undone (logged S (Redoes ns)) (filter (λ n. not (among ns n)) S.undone)) t.heard
  settles S (Forgets ns) t k a = once_more (forgetting (logged S (Forgets ns)) ns) t.heard
  settles S (Declares d) t k a = declared_more S d a k t.fit.sound

  stay_known : (S : State) (xs : List Line) → Throughout scope (IsTold scope) S xs → AllDeclared S → AllDeclared (taken_all scope S xs)
  stay_known S [] t k = k
  stay_known S (x ∷ xs) t k = stay_known (taken scope S x) xs t.1 (stay_declared scope S x t.0.fit.sound k)

  all_settle : (S : State) (xs : List Line) → Throughout scope (IsTold scope) S xs → AllDeclared S → Settled S → Settled (taken_all scope S xs)
  all_settle S [] t k a = a
  all_settle S (x ∷ xs) t k a = all_settle (taken scope S x) xs t.1 (stay_declared scope S x t.0.fit.sound k) (settles S x t.0 k a)

  pub settled_logs : (ds : List Declared) (n : ℕ) (l : Live) (xs : List Line) → AreDeclared ds l.world → Throughout scope (IsTold scope) (opened ds n l) xs
      → Settled (taken_all scope (opened ds n l) xs)
  settled_logs ds n l xs d t =
      all_settle (opened ds n l) xs t record { base = d; lines = refl; now = d } (λ us c. record { world = opened_same ds n l; tables = λ m. refl })

  pub declared_logs : (ds : List Declared) (n : ℕ) (l : Live) (xs : List Line) → AreDeclared ds l.world → Throughout scope (IsTold scope) (opened ds n l) xs
      → AllDeclared (taken_all scope (opened ds n l) xs)
  declared_logs ds n l xs d t = stay_known (opened ds n l) xs t record { base = d; lines = refl; now = d }

pub replays_keep : ReplaysKeepWhatStands
replays_keep scope ds n l xs d t =
    (settled_logs scope ds n l xs d t (taken_all scope (opened ds n l) xs).live.tables
    (λ m. no_more (table_of (taken_all scope (opened ds n l) xs).live.tables m))).world

pub undos_take_back : UndosTakeBack
undos_take_back scope ds n l xs u d t new =
    (undone_at_once scope (taken_all scope (opened ds n l) xs) u new).before (replays_keep scope ds n l xs d t)
