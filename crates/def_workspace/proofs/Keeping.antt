-- What each op keeps, a run of an update keeps.
use Rattle.std.proofs.Common.{◌≡◌, ap, sym, subst, ℕ, zero, suc, true, false, Bool, List, [], ◌∷◌, cond}
use Rattle.def_chase.specs.Repository.{has}
use Rattle.def_chase.specs.Values.{Datum, Number, Text, Unknown, Fact}
use Rattle.def_chase.specs.Updates.{Operation, Removes, Replaces}
use Rattle.def_workspace.specs.Lines.{SpelledFact, Deed, Inserts, Deletes, Fills, Swaps, Fixes, Forces, Drops}
use Rattle.def_workspace.specs.Runs.{Setting, Thread, Reason}
use Rattle.def_workspace.specs.Ops.{Course, Going, Goes, Halted, onto, take_op, AllFound, AllThere, OneLost, with_values, with_spelled, with_facts, draw, settle, add_all, remove_one, remove_all, fill_at, ops_of, new_among}

abbrev goes_on : Going → Type 0
goes_on (Goes c) = Unit {0}
goes_on (Halted r t) = ⊥

abbrev course_in : Course → Going → Course
course_in d (Goes c) = c
course_in d (Halted r t) = d

pub not_halted : (r : Reason) (t : Thread) (d : Course) → Halted r t ≡ Goes d → ⊥
not_halted r t d e = subst goes_on (sym e) tt

pub same_course : (c d : Course) → Goes c ≡ Goes d → c ≡ d
same_course c d e = ap (course_in c) e

-- The one property holds of what goes on, the other of the thread of what has halted.
abbrev pub HoldsAt : (Course → Type 0) → (Thread → Type 0) → Going → Type 0
HoldsAt p q (Goes c) = p c
HoldsAt p q (Halted r t) = q t

-- Every op keeps them.
module _ (s : Setting) (p : Course → Type 0) (q : Thread → Type 0) (held : (c : Course) → p c → q c.thread)
    (one : (op : Operation) (c : Course) → p c → HoldsAt p q (take_op s op c)) where
  both : (g : Going) (f : Course → Going) → HoldsAt p q g → ((c : Course) → p c → HoldsAt p q (f c)) → HoldsAt p q (onto g f)
  both (Goes c) f h k = k c h
  both (Halted r t) f h k = h

  valued : (c : Course) (a : AllFound) (f : List Datum → Going) → p c → ((ds : List Datum) → HoldsAt p q (f ds)) → HoldsAt p q (with_values c a f)
  valued c (AllThere ds) f h k = k ds
  valued c (OneLost u) f h k = held c h

  spelled : (first : ℕ) (c : Course) (ts : List SpelledFact) (f : List Fact → Going) → p c → ((us : List Fact) → HoldsAt p q (f us)) → HoldsAt p q (with_spelled first c ts f)
  spelled first c [] f h k = k []
  spelled first c (t ∷ ts) f h k = valued c _ _ h (λ ds. spelled first c ts _ h (λ us. k _))

  facts : (c : Course) (ts : List Fact) (f : List Fact → Going) → p c → ((us : List Fact) → HoldsAt p q (f us)) → HoldsAt p q (with_facts c ts f)
  facts c [] f h k = k []
  facts c (t ∷ ts) f h k = valued c _ _ h (λ ds. facts c ts _ h (λ us. k _))

  drawn : (n j : ℕ) (c : Course) → p c → HoldsAt p q (draw s n j c)
  drawn zero j c h = h
  drawn (suc n) j c h = both _ _ (one _ c h) (λ d k. drawn n (suc j) d k)

  settled : (first n j : ℕ) (c : Course) → p c → HoldsAt p q (settle s first n j c)
  settled first zero j c h = h
  settled first (suc n) j c h = both _ _ (one _ c h) (λ d k. settled first n (suc j) d k)

  added : (ts : List Fact) (c : Course) → p c → HoldsAt p q (add_all s ts c)
  added [] c h = h
  added (t ∷ ts) c h = both _ _ (one _ c h) (λ d k. added ts d k)

  removed_one : (t : Fact) (c : Course) → p c → HoldsAt p q (remove_one s t c)
  removed_one t c h = by (has c.facts t)
    where
      by : (b : Bool) → HoldsAt p q (cond b (take_op s (Removes t) c) (Goes c))
      by true = one (Removes t) c h
      by false = h

  removed : (ts : List Fact) (c : Course) → p c → HoldsAt p q (remove_all s ts c)
  removed [] c h = h
  removed (t ∷ ts) c h = both _ _ (removed_one _ c h) (λ d k. removed ts d k)

  filled_at : (c : Course) (ds : List Datum) → p c → HoldsAt p q (fill_at s c ds)
  filled_at c [] h = h
  filled_at c (Number i ∷ ds) h = h
  filled_at c (Text w ∷ ds) h = h
  filled_at c (Unknown n ∷ []) h = h
  filled_at c (Unknown n ∷ v ∷ []) h = one (Replaces n v) c h
  filled_at c (Unknown n ∷ v ∷ x ∷ ds) h = h

  pub ops_keep : (deed : Deed) (c : Course) → p c → HoldsAt p q (ops_of s deed c)
  ops_keep (Inserts ts) c h =
      both _ _ (drawn (new_among ts) 1 c h)
      (λ d k. spelled c.last d ts _ k (λ us. both _ _ (added us d k) (λ e l. settled c.last (new_among ts) 1 e l)))
  ops_keep (Deletes ts) c h = facts c ts _ h (λ us. removed us c h)
  ops_keep (Fills u v) c h = valued c _ _ h (λ ds. filled_at c ds h)
  ops_keep (Swaps t u) c h =
      both _ _ (drawn (new_among (u ∷ [])) 1 c h)
      (λ d k. spelled c.last d (u ∷ []) _ k (λ us. facts d (t ∷ []) _ k
      (λ ts. both _ _ (added us d k) (λ e l. both _ _ (removed ts e l) (λ f m. settled c.last (new_among (u ∷ [])) 1 f m)))))
  ops_keep (Fixes m vs) c h = valued c _ _ h (λ ds. both _ _ (one _ c h) (λ d k. one _ d k))
  ops_keep (Forces m) c h = h
  ops_keep (Drops m) c h = h
