-- A run that stops is the beginning of each run that has the answers which it took, and then others.
use Rattle.std.proofs.Common.{◌≡◌, ◌∙◌, ap, sym, refl, subst, ℕ, zero, suc, ◌≤◌, true, false, Bool, Option, Some, None, List, [], ◌∷◌, ◌++◌, map, cond, length, arith}
use Rattle.std.specs.Prelude.{slice_get, take, drop}
use Rattle.std.proofs.lemmas.List.{take-take}
use Rattle.def_chase.specs.Values.{Datum, Fact}
use Rattle.def_chase.specs.Mappings.{image_under, listed}
use Rattle.def_chase.specs.Updates.{Operation, Choice}
use Rattle.def_chase.specs.Violations.{Scope}
use Rattle.def_chase.proofs.Bools.{none_some}
use Rattle.def_steps.specs.Attempts.{Done as EndedDone, Spent, Refused, Repair, Question, Phase, Start, Look, Generate, Asked, Ended, Attempt, begun as begun_attempt}
use Rattle.def_steps.specs.Steps.{Move}
use Rattle.def_workspace.specs.Lines.{Update, Deed, Inserts, Deletes, Fills, Swaps, Fixes, Forces, Drops, Given, Declared, Source}
use Rattle.def_workspace.specs.Names.{Names, fact_named}
use Rattle.def_workspace.specs.Places.{Places, among}
use Rattle.def_workspace.specs.Runs.{Active, Setting, Thread, Rested, Rests, Halts, TooLong, Violated, draw_one, draw_from, repair_at, drawn_by, drawn_at, drawn, fitting, rest_of, answered, move_by, next, by_choice, by_phase, run, run_op, begun_with}
use Rattle.def_workspace.specs.Ops.{Course, Going, Goes, Halted, onto, take_op, after_op, ops_of}
use Rattle.def_workspace.specs.Worlds.{World, Done, Left, places_of, taken_of, begun, ended, is_met, force_in, enacted, enact_op, with_order, is_of_gone, setting, run_over, run_deed, unless_gone, run_update}
use Rattle.def_workspace.specs.NameLaws.{Grows}
use Rattle.ws_laws.proofs.Growing.{no_more, further}
use Rattle.ws_laws.proofs.Beside.{put_in, with_thread, thread_of, ops_beside}
use Rattle.ws_laws.proofs.Rerunning.{draws, thread_at}

-- ---- lists of answers

empty_cons : (x : Given) (xs : List Given) → [] ≡ x ∷ xs → ⊥
empty_cons x xs e = cc

abbrev first_of : Given → List Given → Given
first_of d [] = d
first_of d (x ∷ xs) = x

drop_step : (A : List Given) (k : ℕ) (g : Given) (r : List Given) → drop k A ≡ g ∷ r → suc k ≤ length A
drop_step [] zero g r e = absurd (empty_cons g r e)
drop_step [] (suc k) g r e = absurd (empty_cons g r e)
drop_step (x ∷ A) zero g r e = omega arith
drop_step (x ∷ A) (suc k) g r e = let l : suc k ≤ length A = drop_step A k g r e in omega (arith, l)

rest_drop : (B : List Given) (k : ℕ) → rest_of (drop k B) ≡ drop (suc k) B
rest_drop [] zero = refl
rest_drop [] (suc k) = refl
rest_drop (x ∷ B) zero = refl
rest_drop (x ∷ B) (suc k) = rest_drop B k

-- If two lists agree up to the item after the first k, this item is the same.
same_head : (A B : List Given) (k : ℕ) (g : Given) (r : List Given) → drop k A ≡ g ∷ r → take (suc k) B ≡ take (suc k) A
    → (more : List Given) × (drop k B ≡ g ∷ more)
same_head [] B zero g r e f = absurd (empty_cons g r e)
same_head [] B (suc k) g r e f = absurd (empty_cons g r e)
same_head (x ∷ A) [] k g r e f = absurd (empty_cons x (take k A) f)
same_head (x ∷ A) (y ∷ B) zero g r e f = (B, ap (λ z. z ∷ B) (ap (first_of y) f ∙ ap (first_of x) e))
same_head (x ∷ A) (y ∷ B) (suc k) g r e f = same_head A B k g r e (ap rest_of f)

some_head : (as' : List Active) (ns : Names) (q : Question) (gs : List Given) (c : Choice) → fitting as' ns q gs ≡ Some c
    → (g : Given) × (r : List Given) × (gs ≡ g ∷ r)
some_head as' ns q [] c e = absurd (none_some c e)
some_head as' ns q (g ∷ r) c e = (g, r, refl)

-- ---- names that are drawn, whatever the answers are

abbrev Steady : Thread → Thread → (List Given → Thread) → Type 0
Steady t u f = (u.taken ≡ t.taken) × (u.answers ≡ t.answers) × ((gs : List Given) → f gs ≡ put_in u.places gs u)

module _ (number seq : ℕ) (source : Source) (image : List Fact) where
  some_steady : (n k v : ℕ) (t : Thread) → Steady t (draw_from number seq source image n k v t) (λ gs. draw_from number seq source image n k v (put_in t.places gs t))
  some_steady zero k v t = (refl, refl, λ gs. refl)
  some_steady (suc n) k v t = some_steady n (suc k) (suc v) (draw_one number seq source image k v t)

steady : (s : Setting) (P : Attempt) (m : Move) (t : Thread) → Steady t (drawn s P m t) (λ gs. drawn s P m (put_in t.places gs t))
steady s P m t = by (repair_at m.phase)
  where
    at : (ds : List Datum) (o : Option Active) → Steady t (drawn_by s.number P.number m.drawn P.nulls ds o t) (λ gs. drawn_by s.number P.number m.drawn P.nulls ds o (put_in t.places gs t))
    at ds None = (refl, refl, λ gs. refl)
    at ds (Some a) =
        some_steady s.number P.number a.source (map (fact_named t.names) (image_under (listed ds) a.rule.left)) m.drawn (suc P.nulls) a.rule.universal t

    by : (o : Option Repair) → Steady t (drawn_at s P.number m.drawn P.nulls o t) (λ gs. drawn_at s P.number m.drawn P.nulls o (put_in t.places gs t))
    by None = (refl, refl, λ gs. refl)
    by (Some r) = at r.binding (slice_get s.active r.mapping)

-- ---- the other run

-- The thread with those of these answers that are not yet taken.
abbrev other : List Given → Thread → Thread
other B t = put_in t.places (drop t.taken B) t

abbrev RestsAlike : List Given → Rested → Rested → Type 0
RestsAlike B (Rests P cs u) h = h ≡ Rests P cs (other B u)
RestsAlike B (Halts r u) h = Grows u.places (thread_at h).places

abbrev GoesAlike : List Given → Going → Going → Type 0
GoesAlike B (Goes c) h = h ≡ Goes (with_thread (other B c.thread) c)
GoesAlike B (Halted r t) h = Grows t.places (thread_of h).places

abbrev Before : Thread → Thread → Type 0
Before t u = Grows t.places u.places × (t.taken ≤ u.taken)

at_once : (t : Thread) → Before t t
at_once t = (no_more t.places, omega arith)

in_turn : (t u v : Thread) → Before t u → Before u v → Before t v
in_turn t u v a b = let l : t.taken ≤ u.taken = a.1 in let m : u.taken ≤ v.taken = b.1 in (further t.places u.places v.places a.0 b.0, omega (arith, l, m))

after_thread : (c : Course) (op : Operation) (h : Rested) → thread_at h ≡ thread_of (after_op c op h)
after_thread c op (Rests P cs t) = refl
after_thread c op (Halts r t) = refl

end_places : (w : World) (u : Update) (gs : List Given) (h : Going) → (thread_of h).places ≡ places_of (ended w u gs h)
end_places w u gs (Goes c) = refl
end_places w u gs (Halted r t) = refl

halts_onto : (t : Thread) (h : Going) (k : Course → Going) → ((d : Course) → Before d.thread (thread_of (k d))) → Grows t.places (thread_of h).places
    → Grows t.places (thread_of (onto h k)).places
halts_onto t (Goes d) k next l = further t.places d.thread.places (thread_of (k d)).places l (next d).0
halts_onto t (Halted r u) k next l = l

module _ (A : List Given) where
  -- The answers that are left are those of the list that were not taken.
  abbrev Fine : Thread → Type 0
  Fine t = (t.answers ≡ drop t.taken A) × (t.taken ≤ length A)

  -- The other answers are the same up to those that were taken.
  abbrev Within : Thread → List Given → Type 0
  Within t B = take t.taken B ≡ take t.taken A

  within : (t u : Thread) (B : List Given) → Before t u → Within u B → Within t B
  within t u B b e = sym (take-take t.taken u.taken B b.1) ∙ (ap (take t.taken) e ∙ take-take t.taken u.taken A b.1)

  abbrev Comes : Thread → Rested → (List Given → Rested) → Type 0
  Comes t r f = Before t (thread_at r) × (Fine t → Fine (thread_at r)) × (Fine t → (B : List Given) → Within (thread_at r) B → RestsAlike B r (f B))

  module _ (s : Setting) (D : List Fact) (go : Attempt → List Choice → Thread → Rested)
      (later : (Q : Attempt) (ds : List Choice) (u : Thread) → Comes u (go Q ds u) (λ B. go Q ds (other B u))) where
    step : (P : Attempt) (c : Option Choice) (cs : List Choice) (t : Thread)
        → Comes t (go (next s D P c) cs (drawn s P (move_by s D P c) t)) (λ B. go (next s D P c) cs (drawn s P (move_by s D P c) (other B t)))
    step P c cs t = (
      in_turn t u r (grown, taken) a.0,
      λ h. a.1 (fine h),
      λ h B w. subst (λ y. RestsAlike B (go (next s D P c) cs u) (go (next s D P c) cs y)) (sym (same B)) (a.2 (fine h) B w),
    )
      where
        u : Thread
        u = drawn s P (move_by s D P c) t

        r : Thread
        r = thread_at (go (next s D P c) cs u)

        a : Comes u (go (next s D P c) cs u) (λ B. go (next s D P c) cs (other B u))
        a = later (next s D P c) cs u

        keeps : Steady t u (λ gs. drawn s P (move_by s D P c) (put_in t.places gs t))
        keeps = steady s P (move_by s D P c) t

        grown : Grows t.places u.places
        grown = (draws s P (move_by s D P c) t).0

        taken : t.taken ≤ u.taken
        taken = let e : u.taken ≡ t.taken = keeps.0 in omega (arith, e)

        fine : Fine t → Fine u
        fine h = (keeps.1 ∙ (h.0 ∙ ap (λ k. drop k A) (sym keeps.0)), subst (λ k. k ≤ length A) (sym keeps.0) h.1)

        same : (B : List Given) → drawn s P (move_by s D P c) (other B t) ≡ other B u
        same B = keeps.2 (drop t.taken B) ∙ ap (λ k. put_in u.places (drop k B) u) (sym keeps.0)

    choice_grows : (P : Attempt) (q : Question) (cs : List Choice) (t : Thread) (o : Option Choice) → Grows t.places (thread_at (by_choice s D go P q cs t o)).places
    choice_grows P q cs t None = no_more t.places
    choice_grows P q cs t (Some c) = (step P (Some c) (cs ++ c ∷ []) (answered q c t)).0.0

    by_one : (P : Attempt) (q : Question) (cs : List Choice) (t : Thread) (o : Option Choice) → fitting s.active t.names q t.answers ≡ o
        → Comes t (by_choice s D go P q cs t o) (λ B. by_choice s D go P q cs (other B t) (fitting s.active t.names q (drop t.taken B)))
    by_one P q cs t None e = (at_once t, λ h. h, λ h B w. choice_grows P q cs (other B t) (fitting s.active t.names q (drop t.taken B)))
    by_one P q cs t (Some c) e = (
      in_turn t u r (no_more t.places, omega arith) a.0,
      λ h. a.1 (fine h),
      λ h B w. subst (λ o. RestsAlike B (by_choice s D go P q cs t (Some c)) (by_choice s D go P q cs (other B t) o)) (sym (fits h B (within u r B a.0 w)))
          (subst (λ y. RestsAlike B (by_choice s D go P q cs t (Some c)) (go (next s D P (Some c)) (cs ++ c ∷ []) (drawn s P (move_by s D P (Some c)) y)))
          (sym (ap (λ gs. put_in t.places gs u) (rest_drop B t.taken))) (a.2 (fine h) B w)),
    )
      where
        u : Thread
        u = answered q c t

        r : Thread
        r = thread_at (by_choice s D go P q cs t (Some c))

        a : Comes u (by_choice s D go P q cs t (Some c)) (λ B. go (next s D P (Some c)) (cs ++ c ∷ []) (drawn s P (move_by s D P (Some c)) (other B u)))
        a = step P (Some c) (cs ++ c ∷ []) u

        has : (g : Given) × (r : List Given) × (t.answers ≡ g ∷ r)
        has = some_head s.active t.names q t.answers c e

        fine : Fine t → Fine u
        fine h = (ap rest_of h.0 ∙ rest_drop A t.taken, drop_step A t.taken has.0 has.1 (sym h.0 ∙ has.2))

        fits : Fine t → (B : List Given) → Within u B → fitting s.active t.names q (drop t.taken B) ≡ Some c
        fits h B w =
            let m : (more : List Given) × (drop t.taken B ≡ has.0 ∷ more) = same_head A B t.taken has.0 has.1 (sym h.0 ∙ has.2) w in
            ap (fitting s.active t.names q) m.1 ∙ (ap (fitting s.active t.names q) (sym has.2) ∙ e)

    phase : (P : Attempt) (cs : List Choice) (t : Thread) (f : Phase) → Comes t (by_phase s D go P cs t f) (λ B. by_phase s D go P cs (other B t) f)
    phase P cs t Start = step P None cs t
    phase P cs t Look = step P None cs t
    phase P cs t (Generate r) = step P None cs t
    phase P cs t (Asked q) = by_one P q cs t (fitting s.active t.names q t.answers) refl
    phase P cs t (Ended EndedDone) = (at_once t, λ h. h, λ h B w. refl)
    phase P cs t (Ended Spent) = (at_once t, λ h. h, λ h B w. no_more t.places)
    phase P cs t (Ended (Refused n)) = (at_once t, λ h. h, λ h B w. no_more t.places)

  run_alike : (s : Setting) (D : List Fact) (k : ℕ) (P : Attempt) (cs : List Choice) (t : Thread) → Comes t (run s D k P cs t) (λ B. run s D k P cs (other B t))
  run_alike s D zero P cs t =
      phase s D (λ Q ds u. Halts TooLong u) (λ Q ds u. (at_once u, λ h. h, λ h B w. no_more u.places)) P cs t P.phase
  run_alike s D (suc k) P cs t = phase s D (λ Q ds u. run s D k Q ds u) (λ Q ds u. run_alike s D k Q ds u) P cs t P.phase

  abbrev GoesOn : Course → Going → (List Given → Going) → Type 0
  GoesOn c g h =
      Before c.thread (thread_of g) × (Fine c.thread → Fine (thread_of g)) × (Fine c.thread → (B : List Given) → Within (thread_of g) B → GoesAlike B g (h B))

  op_alike : (s : Setting) (op : Operation) (c : Course) → GoesOn c (take_op s op c) (λ B. take_op s op (with_thread (other B c.thread) c))
  op_alike s op c =
      by (run_op s c.facts (suc c.last) op c.thread) (λ B. run_op s c.facts (suc c.last) op (other B c.thread))
      (run_alike s c.facts s.steps (begun_attempt (suc c.last) 0 op) [] (begun_with c.facts op c.thread))
    where
      by : (r : Rested) (f : List Given → Rested) → Comes c.thread r f → GoesOn c (after_op c op r) (λ B. after_op (with_thread (other B c.thread) c) op (f B))
      by (Rests P cs t) f a = (a.0, a.1, λ h B w. ap (after_op (with_thread (other B c.thread) c) op) (a.2 h B w))
      by (Halts r t) f a =
          (a.0, a.1, λ h B w. subst (λ (y : Thread). Grows t.places y.places) (after_thread (with_thread (other B c.thread) c) op (f B)) (a.2 h B w))

  ops_alike : (s : Setting) (deed : Deed) (c : Course) → GoesOn c (ops_of s deed c) (λ B. ops_of s deed (with_thread (other B c.thread) c))
  ops_alike s deed c =
      ops_beside (List Given) (λ B t. t.places) (λ B t. drop t.taken B) Before Within Fine (λ B r t h. Grows t.places (thread_of h).places)
      at_once in_turn within (λ B r t. no_more t.places) (λ B r t h k next l. halts_onto t h k next l) s (op_alike s) deed c

-- ---- a run

module _ (scope : Operation → Scope) (ds : List Declared) (w : World) (ps : Places) (u : Update) (A : List Given) where
  at_start : Fine A (begun w ps A).thread
  at_start = (refl, omega arith)

  abbrev ops_now : Going
  ops_now = ops_of (setting scope ds w u) u.deed (begun w ps A)

  -- No more answers are taken than there are.
  over_takes : taken_of (run_over scope ds w ps u A) ≤ length A
  over_takes = by ops_now ((ops_alike A (setting scope ds w u) u.deed (begun w ps A)).1 at_start)
    where
      by : (g : Going) → Fine A (thread_of g) → taken_of (ended w u A g) ≤ length A
      by (Goes c) f = f.1
      by (Halted r t) f = f.1

  force_takes : (m : ℕ) → taken_of (force_in ds w ps u m) ≤ length A
  force_takes m = by (among w.in_force m) (is_met w.facts (slice_get ds m))
    where
      by : (b c : Bool) → taken_of (cond b (Done (with_order w record { update = u; answers = []; ops = [] }) ps 0)
          (cond c (Done (with_order (enacted w m) record { update = u; answers = []; ops = enact_op w m }) ps 0) (Left (Violated m) ps 0))) ≤ length A
      by true c = omega arith
      by false true = omega arith
      by false false = omega arith

  deed_takes : (deed : Deed) → taken_of (run_deed scope ds w ps u A deed) ≤ length A
  deed_takes (Inserts ts) = over_takes
  deed_takes (Deletes ts) = over_takes
  deed_takes (Fills v d) = over_takes
  deed_takes (Swaps t v) = over_takes
  deed_takes (Fixes m vs) = over_takes
  deed_takes (Forces m) = force_takes m
  deed_takes (Drops m) = omega arith

  pub takes_at_most : taken_of (run_update scope ds w ps u A) ≤ length A
  takes_at_most = by (is_of_gone w u.deed)
    where
      by : (o : Option ℕ) → taken_of (unless_gone o ps (run_deed scope ds w ps u A u.deed)) ≤ length A
      by None = deed_takes u.deed
      by (Some m) = omega arith

  module _ (B : List Given) where
    over_on : take (taken_of (run_over scope ds w ps u A)) B ≡ take (taken_of (run_over scope ds w ps u A)) A
        → Grows (places_of (run_over scope ds w ps u A)) (places_of (run_over scope ds w ps u B))
    over_on = by ops_now (ops_of (setting scope ds w u) u.deed (begun w ps B)) ((ops_alike A (setting scope ds w u) u.deed (begun w ps A)).2 at_start B)
      where
        by : (g h : Going) → (Within A (thread_of g) B → GoesAlike B g h) → take (taken_of (ended w u A g)) B ≡ take (taken_of (ended w u A g)) A
            → Grows (places_of (ended w u A g)) (places_of (ended w u B h))
        by (Goes c) h a e = subst (λ y. Grows c.thread.places (places_of (ended w u B y))) (sym (a e)) (no_more c.thread.places)
        by (Halted r t) h a e = subst (Grows t.places) (end_places w u B h) (a e)

    deed_on : (deed : Deed) → take (taken_of (run_deed scope ds w ps u A deed)) B ≡ take (taken_of (run_deed scope ds w ps u A deed)) A
        → Grows (places_of (run_deed scope ds w ps u A deed)) (places_of (run_deed scope ds w ps u B deed))
    deed_on (Inserts ts) e = over_on e
    deed_on (Deletes ts) e = over_on e
    deed_on (Fills v d) e = over_on e
    deed_on (Swaps t v) e = over_on e
    deed_on (Fixes m vs) e = over_on e
    deed_on (Forces m) e = no_more (places_of (force_in ds w ps u m))
    deed_on (Drops m) e = no_more ps

    -- A run with answers that begin with those that this one took gives all its places.
    pub runs_on : take (taken_of (run_update scope ds w ps u A)) B ≡ take (taken_of (run_update scope ds w ps u A)) A
        → Grows (places_of (run_update scope ds w ps u A)) (places_of (run_update scope ds w ps u B))
    runs_on = by (is_of_gone w u.deed)
      where
        by : (o : Option ℕ) → take (taken_of (unless_gone o ps (run_deed scope ds w ps u A u.deed))) B ≡ take (taken_of (unless_gone o ps (run_deed scope ds w ps u A u.deed))) A
            → Grows (places_of (unless_gone o ps (run_deed scope ds w ps u A u.deed))) (places_of (unless_gone o ps (run_deed scope ds w ps u B u.deed)))
        by None e = deed_on u.deed e
        by (Some m) e = no_more ps
