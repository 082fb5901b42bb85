-- Two runs of an update side by side: the thread of the other one has another table or other answers.
use Rattle.std.proofs.Common.{◌≡◌, sym, refl, subst, ℕ, zero, suc, ◌+◌, true, false, Bool, List, [], ◌∷◌, cond}
use Rattle.def_chase.specs.Repository.{has}
use Rattle.def_chase.specs.Values.{Datum, Number, Text, Unknown, Fact}
use Rattle.def_chase.specs.Updates.{Operation, Adds, Removes, Replaces}
use Rattle.def_workspace.specs.Lines.{Given, SpelledFact, Deed, Inserts, Deletes, Fills, Swaps, Fixes, Forces, Drops}
use Rattle.def_workspace.specs.Places.{Places}
use Rattle.def_workspace.specs.Hidden.{wanted, found_as, to_fix}
use Rattle.def_workspace.specs.Runs.{Setting, Thread, Reason, NotThere}
use Rattle.def_workspace.specs.Ops.{Course, Going, Goes, Halted, onto, take_op, found, found_spelled, AllFound, AllThere, OneLost, all_found, with_values, with_spelled, with_facts, draw, settle, followed, add_all, remove_one, remove_all, fill_at, ops_of, new_among}

-- The thread with this table and these answers.
abbrev pub put_in : Places → List Given → Thread → Thread
put_in ps gs t = record { names = t.names; places = ps; given = t.given; answers = gs; taken = t.taken; moves = t.moves }

abbrev pub with_thread : Thread → Course → Course
with_thread t c = record { facts = c.facts; last = c.last; thread = t; ops = c.ops }

-- The thread of a run, whether it goes on or has halted.
abbrev pub thread_of : Going → Thread
thread_of (Goes c) = c.thread
thread_of (Halted r t) = t

module _ (X : Type 0) (pl : X → Thread → Places) (an : X → Thread → List Given)
    (Before : Thread → Thread → Type 0) (Within : Thread → X → Type 0) (Fine : Thread → Type 0) (Stops : X → Reason → Thread → Going → Type 0)
    (no_step : (t : Thread) → Before t t) (two_steps : (t u v : Thread) → Before t u → Before u v → Before t v)
    (within : (t u : Thread) (x : X) → Before t u → Within u x → Within t x)
    (stops : (x : X) (r : Reason) (t : Thread) → Stops x r t (Halted r (put_in (pl x t) (an x t) t)))
    (stops_onto : (x : X) (r : Reason) (t : Thread) (h : Going) (k : Course → Going) → ((d : Course) → Before d.thread (thread_of (k d))) → Stops x r t h → Stops x r t (onto h k)) where
  abbrev beside : X → Course → Course
  beside x c = with_thread (put_in (pl x c.thread) (an x c.thread) c.thread) c

  -- The other run goes on where this one does, and if this one stops, the other one is as it must be then.
  abbrev AsWell : X → Going → Going → Type 0
  AsWell x (Goes c) h = h ≡ Goes (beside x c)
  AsWell x (Halted r t) h = Stops x r t h

  abbrev Side : Course → Going → (X → Going) → Type 0
  Side c g h =
      Before c.thread (thread_of g) × (Fine c.thread → Fine (thread_of g)) × (Fine c.thread → (x : X) → Within (thread_of g) x → AsWell x g (h x))

  module _ (s : Setting) (one : (op : Operation) (c : Course) → Side c (take_op s op c) (λ x. take_op s op (beside x c))) where
    done : (c : Course) → Side c (Goes c) (λ x. Goes (beside x c))
    done c = (no_step c.thread, λ f. f, λ f x w. refl)

    both : (c : Course) (g : Going) (h : X → Going) (k : Course → Going) → Side c g h → ((d : Course) → Side d (k d) (λ x. k (beside x d)))
        → Side c (onto g k) (λ x. onto (h x) k)
    both c (Goes d) h k a next = (
      two_steps c.thread d.thread (thread_of (k d)) a.0 (next d).0,
      λ f. (next d).1 (a.1 f),
      λ f x w. subst (λ y. AsWell x (k d) (onto y k)) (sym (a.2 f x (within d.thread (thread_of (k d)) x (next d).0 w))) ((next d).2 (a.1 f) x w),
    )
    both c (Halted r t) h k a next = (a.0, a.1, λ f x w. stops_onto x r t (h x) k (λ d. (next d).0) (a.2 f x w))

    valued : (c : Course) (a : AllFound) (f : List Datum → Course → Going) → ((ds : List Datum) → Side c (f ds c) (λ x. f ds (beside x c)))
        → Side c (with_values c a (λ ds. f ds c)) (λ x. with_values (beside x c) a (λ ds. f ds (beside x c)))
    valued c (AllThere ds) f k = k ds
    valued c (OneLost u) f k = (no_step c.thread, λ h. h, λ h x w. stops x (NotThere u) c.thread)

    spelled : (first : ℕ) (c : Course) (ts : List SpelledFact) (f : List Fact → Course → Going) → ((us : List Fact) → Side c (f us c) (λ x. f us (beside x c)))
        → Side c (with_spelled first c ts (λ us. f us c)) (λ x. with_spelled first (beside x c) ts (λ us. f us (beside x c)))
    spelled first c [] f k = k []
    spelled first c (t ∷ ts) f k =
        valued c (all_found (found_spelled first c.thread.names c.facts) t.values)
        (λ ds d. with_spelled first d ts (λ us. f (record { relation = t.relation; values = ds } ∷ us) d))
        (λ ds. spelled first c ts (λ us d. f (record { relation = t.relation; values = ds } ∷ us) d) (λ us. k (record { relation = t.relation; values = ds } ∷ us)))

    facts : (c : Course) (ts : List Fact) (f : List Fact → Course → Going) → ((us : List Fact) → Side c (f us c) (λ x. f us (beside x c)))
        → Side c (with_facts c ts (λ us. f us c)) (λ x. with_facts (beside x c) ts (λ us. f us (beside x c)))
    facts c [] f k = k []
    facts c (t ∷ ts) f k =
        valued c (all_found (found c.thread.names c.facts) t.values)
        (λ ds d. with_facts d ts (λ us. f (record { relation = t.relation; values = ds } ∷ us) d))
        (λ ds. facts c ts (λ us d. f (record { relation = t.relation; values = ds } ∷ us) d) (λ us. k (record { relation = t.relation; values = ds } ∷ us)))

    drawn : (n j : ℕ) (c : Course) → Side c (draw s n j c) (λ x. draw s n j (beside x c))
    drawn zero j c = done c
    drawn (suc n) j c =
        both c (take_op s (Adds (wanted j)) c) (λ x. take_op s (Adds (wanted j)) (beside x c)) (draw s n (suc j)) (one (Adds (wanted j)) c) (drawn n (suc j))

    settled : (first n j : ℕ) (c : Course) → Side c (settle s first n j c) (λ x. settle s first n j (beside x c))
    settled first zero j c = done c
    settled first (suc n) j c =
        let op : Operation = Removes (found_as j (c.thread.moves (Unknown record { update = first + j; attempt = 0; place = 1 }))) in
        both c (take_op s op c) (λ x. take_op s op (beside x c)) (settle s first n (suc j)) (one op c) (settled first n (suc j))

    added : (ts : List Fact) (c : Course) → Side c (add_all s ts c) (λ x. add_all s ts (beside x c))
    added [] c = done c
    added (t ∷ ts) c =
        both c (take_op s (Adds (followed c t)) c) (λ x. take_op s (Adds (followed c t)) (beside x c)) (add_all s ts) (one (Adds (followed c t)) c) (added ts)

    removed_one : (t : Fact) (c : Course) → Side c (remove_one s t c) (λ x. remove_one s t (beside x c))
    removed_one t c = by (has c.facts t)
      where
        by : (b : Bool) → Side c (cond b (take_op s (Removes t) c) (Goes c)) (λ x. cond b (take_op s (Removes t) (beside x c)) (Goes (beside x c)))
        by true = one (Removes t) c
        by false = done c

    removed : (ts : List Fact) (c : Course) → Side c (remove_all s ts c) (λ x. remove_all s ts (beside x c))
    removed [] c = done c
    removed (t ∷ ts) c =
        both c (remove_one s (followed c t) c) (λ x. remove_one s (followed c t) (beside x c)) (remove_all s ts) (removed_one (followed c t) c) (removed ts)

    filled_at : (c : Course) (ds : List Datum) → Side c (fill_at s c ds) (λ x. fill_at s (beside x c) ds)
    filled_at c [] = done c
    filled_at c (Number i ∷ ds) = done c
    filled_at c (Text w ∷ ds) = done c
    filled_at c (Unknown n ∷ []) = done c
    filled_at c (Unknown n ∷ v ∷ []) = one (Replaces n v) c
    filled_at c (Unknown n ∷ v ∷ y ∷ ds) = done c

    -- The tuples are added, and then the new unknowns are settled.
    finished : (us : List Fact) (first n : ℕ) (c : Course) → Side c (onto (add_all s us c) (settle s first n 1)) (λ x. onto (add_all s us (beside x c)) (settle s first n 1))
    finished us first n c = both c (add_all s us c) (λ x. add_all s us (beside x c)) (settle s first n 1) (added us c) (settled first n 1)

    inserted : (ts : List SpelledFact) (first : ℕ) (d : Course)
        → Side d (with_spelled first d ts (λ us. onto (add_all s us d) (settle s first (new_among ts) 1)))
        (λ x. with_spelled first (beside x d) ts (λ us. onto (add_all s us (beside x d)) (settle s first (new_among ts) 1)))
    inserted ts first d = spelled first d ts (λ us e. onto (add_all s us e) (settle s first (new_among ts) 1)) (λ us. finished us first (new_among ts) d)

    -- The one is added and the other removed, and then the new unknowns are settled.
    abbrev swap_end : List Fact → List Fact → ℕ → ℕ → Course → Going
    swap_end us ts first n d = onto (add_all s us d) (λ e. onto (remove_all s ts e) (settle s first n 1))

    swap_ended : (us ts : List Fact) (first n : ℕ) (d : Course) → Side d (swap_end us ts first n d) (λ x. swap_end us ts first n (beside x d))
    swap_ended us ts first n d =
        both d (add_all s us d) (λ x. add_all s us (beside x d)) (λ e. onto (remove_all s ts e) (settle s first n 1)) (added us d)
        (λ e. both e (remove_all s ts e) (λ x. remove_all s ts (beside x e)) (settle s first n 1) (removed ts e) (settled first n 1))

    abbrev swap_from : Fact → SpelledFact → ℕ → Course → Going
    swap_from t u first d = with_spelled first d (u ∷ []) (λ us. with_facts d (t ∷ []) (λ ts. swap_end us ts first (new_among (u ∷ [])) d))

    swapped : (t : Fact) (u : SpelledFact) (first : ℕ) (d : Course) → Side d (swap_from t u first d) (λ x. swap_from t u first (beside x d))
    swapped t u first d =
        spelled first d (u ∷ []) (λ us e. with_facts e (t ∷ []) (λ ts. swap_end us ts first (new_among (u ∷ [])) e))
        (λ us. facts d (t ∷ []) (λ ts e. swap_end us ts first (new_among (u ∷ [])) e) (λ ts. swap_ended us ts first (new_among (u ∷ [])) d))

    abbrev fix_from : List Datum → Course → Going
    fix_from ds c = onto (take_op s (Adds (to_fix ds)) c) (λ d. take_op s (Removes (followed d (to_fix ds))) d)

    fixed : (ds : List Datum) (c : Course) → Side c (fix_from ds c) (λ x. fix_from ds (beside x c))
    fixed ds c =
        both c (take_op s (Adds (to_fix ds)) c) (λ x. take_op s (Adds (to_fix ds)) (beside x c)) (λ d. take_op s (Removes (followed d (to_fix ds))) d)
        (one (Adds (to_fix ds)) c) (λ d. one (Removes (followed d (to_fix ds))) d)

    pub ops_beside : (deed : Deed) (c : Course) → Side c (ops_of s deed c) (λ x. ops_of s deed (beside x c))
    ops_beside (Inserts ts) c =
        both c (draw s (new_among ts) 1 c) (λ x. draw s (new_among ts) 1 (beside x c))
        (λ d. with_spelled c.last d ts (λ us. onto (add_all s us d) (settle s c.last (new_among ts) 1))) (drawn (new_among ts) 1 c) (inserted ts c.last)
    ops_beside (Deletes ts) c = facts c ts (λ us d. remove_all s us d) (λ us. removed us c)
    ops_beside (Fills u v) c = valued c (all_found (found c.thread.names c.facts) (Unknown u ∷ v ∷ [])) (λ ds d. fill_at s d ds) (filled_at c)
    ops_beside (Swaps t u) c =
        both c (draw s (new_among (u ∷ [])) 1 c) (λ x. draw s (new_among (u ∷ [])) 1 (beside x c)) (swap_from t u c.last)
        (drawn (new_among (u ∷ [])) 1 c) (swapped t u c.last)
    ops_beside (Fixes m vs) c = valued c (all_found (found c.thread.names c.facts) vs) fix_from (λ ds. fixed ds c)
    ops_beside (Forces m) c = done c
    ops_beside (Drops m) c = done c
