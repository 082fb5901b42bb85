-- The ops of an update, one after the other: each is taken whole over the repository that the one before left.
use Rattle.std.specs.Prelude.{ℕ, zero, suc, ◌+◌, if◌then◌else◌, List, [], ◌∷◌, ◌++◌, Option, Some, None}
use Rattle.def_chase.specs.Values.{NullName, Datum, Number, Text, Unknown, Fact, under}
use Rattle.def_chase.specs.Repository.{has, apply}
use Rattle.def_chase.specs.Updates.{Operation, Adds, Removes, Replaces, Choice}
use Rattle.def_workspace.specs.Lines.{Spelled, Known, New, SpelledFact, Deed, Inserts, Deletes, Fills, Swaps, Fixes, Forces, Drops}
use Rattle.def_workspace.specs.Names.{Names, null_called, stands_in}
use Rattle.def_workspace.specs.Hidden.{wanted, found_as, to_fix}
use Rattle.def_workspace.specs.Places.{greater}
use Rattle.def_workspace.specs.Runs.{Setting, Thread, Reason, NotThere, Rested, Rests, Halts, run_op}

-- An op that was done: its number, its operation, and the choices that it took.
pub record Op : Type 0 where
  pub number : ℕ
  pub operation : Operation
  pub choices : List Choice

-- The state of a run of an update: the repository, the number of the last op, the thread of the run, and the ops so far.
pub record Course : Type 0 where
  pub facts : List Fact
  pub last : ℕ
  pub thread : Thread
  pub ops : List Op

-- A run goes on, or has halted.
pub data Going : Type 0 where
  Goes : Course → Going
  Halted : Reason → Thread → Going

abbrev pub onto : Going → (Course → Going) → Going
onto (Goes c) f = f c
onto (Halted r t) f = Halted r t

-- The run after an op: if the op rests, its writes are made; if it halts, the run halts.
abbrev pub after_op : Course → Operation → Rested → Going
after_op c op (Rests P cs t) =
    Goes record {
      facts = apply c.facts P.own;
      last = suc c.last;
      thread = t;
      ops = c.ops ++ record { number = suc c.last; operation = op; choices = cs } ∷ [];
    }
after_op c op (Halts r t) = Halted r t

-- The run after one more op.
abbrev pub take_op : Setting → Operation → Course → Going
take_op s op c = after_op c op (run_op s c.facts (suc c.last) op c.thread)

-- ---- values

-- The null of the repository for a null that an update names; its name if it is not there.
pub data Found : Type 0 where
  There : Datum → Found
  Lost : NullName → Found

abbrev pub found_null : List Fact → NullName → Option NullName → Found
found_null D u None = Lost u
found_null D u (Some n) = if stands_in D n then There (Unknown n) else Lost u

abbrev pub found : Names → List Fact → Datum → Found
found ns D (Number i) = There (Number i)
found ns D (Text w) = There (Text w)
found ns D (Unknown u) = found_null D u (null_called ns u)

-- The value for a value of a line. A new unknown is the null that the j-th op of the run drew; `first` is the number of the op
-- before the first one.
abbrev pub found_spelled : ℕ → Names → List Fact → Spelled → Found
found_spelled first ns D (Known d) = found ns D d
found_spelled first ns D (New j) = There (Unknown record { update = first + j; attempt = 0; place = 1 })

-- All values, or the first null that is not there.
pub data AllFound : Type 0 where
  AllThere : List Datum → AllFound
  OneLost : NullName → AllFound

abbrev pub one_more : Datum → AllFound → AllFound
one_more d (AllThere ds) = AllThere (d ∷ ds)
one_more d (OneLost u) = OneLost u

abbrev pub one_found : Found → AllFound → AllFound
one_found (There d) rest = one_more d rest
one_found (Lost u) rest = OneLost u

abbrev pub all_found : {A : Type 0} → (A → Found) → List A → AllFound
all_found f [] = AllThere []
all_found f (a ∷ as') = one_found (f a) (all_found f as')

-- Goes on with the values, or halts at the null that is not there.
abbrev pub with_values : Course → AllFound → (List Datum → Going) → Going
with_values c (AllThere ds) f = f ds
with_values c (OneLost u) f = Halted (NotThere u) c.thread

-- Goes on with the tuples of a line, or halts at the first null that is not there.
abbrev pub with_spelled : ℕ → Course → List SpelledFact → (List Fact → Going) → Going
with_spelled first c [] f = f []
with_spelled first c (t ∷ ts) f =
    with_values c (all_found (found_spelled first c.thread.names c.facts) t.values)
    (λ ds. with_spelled first c ts (λ us. f (record { relation = t.relation; values = ds } ∷ us)))

abbrev pub with_facts : Course → List Fact → (List Fact → Going) → Going
with_facts c [] f = f []
with_facts c (t ∷ ts) f =
    with_values c (all_found (found c.thread.names c.facts) t.values)
    (λ ds. with_facts c ts (λ us. f (record { relation = t.relation; values = ds } ∷ us)))

-- The tuple, with the changes that the ops so far made to its values.
abbrev pub followed : Course → Fact → Fact
followed c t = under c.thread.moves t

-- ---- parts of updates

-- The number of new unknowns among the values: the greatest j of one.
abbrev pub new_in : List Spelled → ℕ
new_in [] = 0
new_in (Known d ∷ vs) = new_in vs
new_in (New j ∷ vs) = greater j (new_in vs)

abbrev pub new_among : List SpelledFact → ℕ
new_among [] = 0
new_among (t ∷ ts) = greater (new_in t.values) (new_among ts)

-- Draws n new unknowns; the first has number j.
abbrev pub draw : Setting → ℕ → ℕ → Course → Going
draw s zero j c = Goes c
draw s (suc n) j c = onto (take_op s (Adds (wanted j)) c) (draw s n (suc j))

-- Removes the tuples of _unknown for n new unknowns, from number j on. `first` is the number of the op before the first of them.
abbrev pub settle : Setting → ℕ → ℕ → ℕ → Course → Going
settle s first zero j c = Goes c
settle s first (suc n) j c =
    onto (take_op s (Removes (found_as j (c.thread.moves (Unknown record { update = first + j; attempt = 0; place = 1 })))) c)
    (settle s first n (suc j))

abbrev pub add_all : Setting → List Fact → Course → Going
add_all s [] c = Goes c
add_all s (t ∷ ts) c = onto (take_op s (Adds (followed c t)) c) (add_all s ts)

-- Deletes the tuple, if it is there at that time.
abbrev pub remove_one : Setting → Fact → Course → Going
remove_one s t c = if has c.facts t then take_op s (Removes t) c else Goes c

abbrev pub remove_all : Setting → List Fact → Course → Going
remove_all s [] c = Goes c
remove_all s (t ∷ ts) c = onto (remove_one s (followed c t) c) (remove_all s ts)

-- ---- updates

abbrev pub insert_all : Setting → List SpelledFact → Course → Going
insert_all s ts c =
    onto (draw s (new_among ts) 1 c)
    (λ d. with_spelled c.last d ts
    (λ us. onto (add_all s us d) (settle s c.last (new_among ts) 1)))

abbrev pub delete_all : Setting → List Fact → Course → Going
delete_all s ts c = with_facts c ts (λ us. remove_all s us c)

abbrev pub fill_at : Setting → Course → List Datum → Going
fill_at s c (Unknown n ∷ v ∷ []) = take_op s (Replaces n v) c
fill_at s c _ = Goes c

abbrev pub fill : Setting → NullName → Datum → Course → Going
fill s u v c = with_values c (all_found (found c.thread.names c.facts) (Unknown u ∷ v ∷ [])) (fill_at s c)

-- Inserts one tuple, and then deletes the other, if it is there at that time.
abbrev pub swap : Setting → Fact → SpelledFact → Course → Going
swap s t u c =
    onto (draw s (new_among (u ∷ [])) 1 c)
    (λ d. with_spelled c.last d (u ∷ [])
    (λ us. with_facts d (t ∷ [])
    (λ ts. onto (add_all s us d)
    (λ e. onto (remove_all s ts e) (settle s c.last (new_among (u ∷ [])) 1)))))

-- Inserts the tuple which says that a mapping must be repaired, and then deletes it, with the changes made to its values since.
abbrev pub fix : Setting → List Datum → Course → Going
fix s vs c =
    with_values c (all_found (found c.thread.names c.facts) vs)
    (λ ds. onto (take_op s (Adds (to_fix ds)) c)
    (λ d. take_op s (Removes (followed d (to_fix ds))) d))

-- The ops of an update. An update that puts a mapping in force or takes it away has no ops over tuples.
abbrev pub ops_of : Setting → Deed → Course → Going
ops_of s (Inserts ts) c = insert_all s ts c
ops_of s (Deletes ts) c = delete_all s ts c
ops_of s (Fills u v) c = fill s u v c
ops_of s (Swaps t u) c = swap s t u c
ops_of s (Fixes m vs) c = fix s vs c
ops_of s (Forces m) c = Goes c
ops_of s (Drops m) c = Goes c
