-- One op taken whole: the steps of the serial machine, with names for the nulls that it draws, and answers matched by names.
use Rattle.std.specs.Prelude.{ℕ, zero, suc, Bool, true, false, ◌&&◌, List, [], ◌∷◌, ◌++◌, map, Option, Some, None, find}
use Rattle.std.specs.Option.{option_map, option_and_then}
use Rattle.std.specs.List.{slice_get}
use Rattle.std.specs.Cmp.Lexicographic.{pointwise}
use Rattle.def_machine.specs.Trees.{result_of}
use Rattle.def_chase.specs.Values.{NullName, Datum, Unknown, Fact, same_fact, outer}
use Rattle.def_chase.specs.Mappings.{Rule, image_under, listed}
use Rattle.def_chase.specs.Unifier.{unifier}
use Rattle.def_chase.specs.Violations.{Scope}
use Rattle.def_chase.specs.Queries.{value}
use Rattle.def_chase.specs.Updates.{Operation, Adds, Removes, Replaces, Enacts, Choice, Expand, Unify, Drop}
use Rattle.def_steps.specs.Attempts.{Outcome, Done, Spent, Refused, Repair, Question, Positive, Negative, Phase, Start, Look, Generate, Asked as AskedAt, Ended, Attempt, begun}
use Rattle.def_provenance.specs.Puts.{stands_for}
use Rattle.def_steps.specs.Rewriting.{replacing}
use Rattle.def_steps.specs.Questions.{candidate}
use Rattle.def_steps.specs.Steps.{Move, step, moved}
use Rattle.def_workspace.specs.Lines.{Source, Asked, Given}
use Rattle.def_workspace.specs.Names.{Names, name_of, fact_named}
use Rattle.def_workspace.specs.Places.{Places, same_source, Giving, giving}

-- A mapping in force, with the source by which its unknowns are named.
pub record Active : Type 0 where
  pub source : Source
  pub rule : Rule

-- The setting of a run: the violations that a look counts, the update's number, its budget of steps, and the mappings in force
-- during its ops.
pub record Setting : Type 0 where
  pub scope : Operation → Scope
  pub number : ℕ
  pub steps : ℕ
  pub active : List Active

abbrev pub rules_of : List Active → List Rule
rules_of as' = map (λ (a : Active). a.rule) as'

-- The thread of a run, which it keeps from op to op: the names of nulls, the update's table and the places given in this run, the
-- answers that are left, the number of answers taken, and the changes to values.
pub record Thread : Type 0 where
  pub names : Names
  pub places : Places
  pub given : List ℕ
  pub answers : List Given
  pub taken : ℕ
  pub moves : Datum → Datum

-- ---- drawing

-- The null at place k of op seq gets the name of its cause.
abbrev pub named_by : Giving → ℕ → ℕ → ℕ → Thread → Thread
named_by g number seq k t =
    record {
      names = t.names ++ (record { update = seq; attempt = 0; place = k }, record { update = number; attempt = 0; place = g.number }) ∷ [];
      places = g.places;
      given = g.number ∷ t.given;
      answers = t.answers;
      taken = t.taken;
      moves = t.moves;
    }

abbrev pub draw_one : ℕ → ℕ → Source → List Fact → ℕ → ℕ → Thread → Thread
draw_one number seq source image k v t =
    named_by (giving t.places t.given record { source = source; variable = v; image = image }) number seq k t

-- Names the next n nulls of the op, from place k on, which are of the variables from v on.
abbrev pub draw_from : ℕ → ℕ → Source → List Fact → ℕ → ℕ → ℕ → Thread → Thread
draw_from number seq source image zero k v t = t
draw_from number seq source image (suc n) k v t =
    draw_from number seq source image n (suc k) (suc v) (draw_one number seq source image k v t)

-- The repair of a phase that generates.
abbrev pub repair_at : Phase → Option Repair
repair_at Start = None
repair_at Look = None
repair_at (Generate r) = Some r
repair_at (AskedAt q) = None
repair_at (Ended o) = None

-- Names the n nulls after the first k, drawn by the mapping of the repair, if there is one.
abbrev pub drawn_by : ℕ → ℕ → ℕ → ℕ → List Datum → Option Active → Thread → Thread
drawn_by number seq n k ds None t = t
drawn_by number seq n k ds (Some a) t =
    draw_from number seq a.source (map (fact_named t.names) (image_under (listed ds) a.rule.left)) n (suc k) a.rule.universal t

abbrev pub drawn_at : Setting → ℕ → ℕ → ℕ → Option Repair → Thread → Thread
drawn_at s seq n k None t = t
drawn_at s seq n k (Some r) t = drawn_by s.number seq n k r.binding (slice_get s.active r.mapping) t

-- Names the nulls that a step of the attempt drew by this move: by the mapping, its variables, and the image of its left side.
abbrev pub drawn : Setting → Attempt → Move → Thread → Thread
drawn s P m t = drawn_at s P.number m.drawn P.nulls (repair_at m.phase) t

-- ---- asking

abbrev pub source_at : List Active → ℕ → Option Source
source_at as' n = option_map (λ (a : Active). a.source) (slice_get as' n)

-- The identity of the question, by names.
abbrev pub asked_by : List Active → Names → Question → Option Asked
asked_by as' ns (Positive r t cs) = option_map (λ s. record { source = s; tuples = fact_named ns t ∷ [] }) (source_at as' r.mapping)
asked_by as' ns (Negative n ts) = option_map (λ s. record { source = s; tuples = map (fact_named ns) ts }) (source_at as' n)

abbrev pub same_asked : Asked → Asked → Bool
same_asked p q = same_source p.source q.source && pointwise same_fact p.tuples q.tuples

-- The tuple among these that is o by names.
abbrev pub called : Names → List Fact → Fact → Option Fact
called ns ts o = find (λ t. same_fact (fact_named ns t) o) ts

-- The tuples among these that are the tuples os by names, if all are there.
abbrev pub all_called : Names → List Fact → List Fact → Option (List Fact)
all_called ns ts [] = Some []
all_called ns ts (o ∷ os) = option_and_then (λ t. option_map (λ us. t ∷ us) (all_called ns ts os)) (called ns ts o)

-- The tuples among these that are the tuples os by names, if all are there and os has at least one.
abbrev pub some_called : Names → List Fact → List Fact → Option (List Fact)
some_called ns ts [] = None
some_called ns ts (o ∷ os) = all_called ns ts (o ∷ os)

-- The choice as the machine takes it, by outer forms, if it fits the question.
abbrev pub choice_for : Names → Question → Choice → Option Choice
choice_for ns (Positive r t cs) Expand = Some Expand
choice_for ns (Positive r t cs) (Unify o) = option_map (λ u. Unify (outer u)) (called ns cs o)
choice_for ns (Positive r t cs) (Drop os) = None
choice_for ns (Negative n ts) Expand = None
choice_for ns (Negative n ts) (Unify o) = None
choice_for ns (Negative n ts) (Drop os) = option_map (λ us. Drop (map outer us)) (some_called ns ts os)

-- An answer fits if it was given to this question, and its choice fits it.
abbrev pub fitting_if : Bool → Names → Question → Choice → Option Choice
fitting_if true ns q c = choice_for ns q c
fitting_if false ns q c = None

abbrev pub fitting_at : Names → Question → Given → Option Asked → Option Choice
fitting_at ns q g None = None
fitting_at ns q g (Some a) = fitting_if (same_asked a g.asked) ns q g.choice

abbrev pub fitting : List Active → Names → Question → List Given → Option Choice
fitting as' ns q [] = None
fitting as' ns q (g ∷ gs) = fitting_at ns q g (asked_by as' ns q)

abbrev pub rest_of : {A : Type 0} → List A → List A
rest_of [] = []
rest_of (a ∷ as') = as'

-- The change that an answer makes to values: `Unify` applies the unifier, other answers change nothing.
abbrev pub moved_by : Question → Choice → Datum → Datum
moved_by (Positive r t cs) Expand d = d
moved_by (Positive r t cs) (Unify o) d = unifier t (candidate t cs o) d
moved_by (Positive r t cs) (Drop os) d = d
moved_by (Negative n ts) c d = d

-- The thread after the answer is taken.
abbrev pub answered : Question → Choice → Thread → Thread
answered q c t =
    record {
      names = t.names;
      places = t.places;
      given = t.given;
      answers = rest_of t.answers;
      taken = suc t.taken;
      moves = λ d. moved_by q c (t.moves d);
    }

-- ---- an op

-- Why an update does not stand: it asks, an unknown that it names is not there, its steps do not suffice, the mapping that it
-- puts in force has violations, or the mapping is gone. A question has its tuples: the candidates, or the tuples of which some
-- must be deleted.
pub data Reason : Type 0 where
  Asks : Question → Asked → List Fact → Reason
  NotThere : NullName → Reason
  TooLong : Reason
  Violated : ℕ → Reason
  Gone : ℕ → Reason

-- How an op comes to rest: done, with its attempt and the choices that it took; or not.
pub data Rested : Type 0 where
  Rests : Attempt → List Choice → Thread → Rested
  Halts : Reason → Thread → Rested

-- The move of the attempt's next step over D, with this answer if it waits for one.
abbrev pub move_by : Setting → List Fact → Attempt → Option Choice → Move
move_by s D P c = result_of (λ q. value (rules_of s.active) q D P.own (s.scope P.operation)) (step (rules_of s.active) P c)

-- The attempt after its next step over D, with this answer if it waits for one.
abbrev pub next : Setting → List Fact → Attempt → Option Choice → Attempt
next s D P c = moved s.steps P (move_by s D P c)

abbrev pub tuples_in : Question → List Fact
tuples_in (Positive r t cs) = cs
tuples_in (Negative n ts) = ts

abbrev pub asks : Names → Question → Option Asked → Reason
asks ns q None = TooLong
asks ns q (Some a) = Asks q a (map (fact_named ns) (tuples_in q))

-- Goes on to the next state with an answer, or halts if there is none.
abbrev pub by_choice : Setting → List Fact → (Attempt → List Choice → Thread → Rested) → Attempt → Question → List Choice → Thread → Option Choice → Rested
by_choice s D go P q cs t None = Halts (asks t.names q (asked_by s.active t.names q)) t
by_choice s D go P q cs t (Some c) =
    go (next s D P (Some c)) (cs ++ c ∷ []) (drawn s P (move_by s D P (Some c)) (answered q c t))

abbrev pub onward : Setting → List Fact → (Attempt → List Choice → Thread → Rested) → Attempt → List Choice → Thread → Rested
onward s D go P cs t = go (next s D P None) cs (drawn s P (move_by s D P None) t)

abbrev pub at_end : Attempt → List Choice → Thread → Outcome → Rested
at_end P cs t Done = Rests P cs t
at_end P cs t Spent = Halts TooLong t
at_end P cs t (Refused n) = Halts (NotThere (name_of t.names record { update = n.update; attempt = 0; place = n.place })) t

abbrev pub by_phase : Setting → List Fact → (Attempt → List Choice → Thread → Rested) → Attempt → List Choice → Thread → Phase → Rested
by_phase s D go P cs t Start = onward s D go P cs t
by_phase s D go P cs t Look = onward s D go P cs t
by_phase s D go P cs t (Generate r) = onward s D go P cs t
by_phase s D go P cs t (AskedAt q) = by_choice s D go P q cs t (fitting s.active t.names q t.answers)
by_phase s D go P cs t (Ended o) = at_end P cs t o

-- At most k steps over D. An attempt that has made all its steps has ended, so none is left over.
abbrev pub run : Setting → List Fact → ℕ → Attempt → List Choice → Thread → Rested
run s D zero P cs t = by_phase s D (λ Q ds u. Halts TooLong u) P cs t P.phase
run s D (suc k) P cs t = by_phase s D (λ Q ds u. run s D k Q ds u) P cs t P.phase

-- The change that an operation itself makes to values over D: a replacement replaces its unknown, both as they stand in D.
abbrev pub moved_first : List Fact → Operation → Datum → Datum
moved_first D (Adds t) d = d
moved_first D (Removes t) d = d
moved_first D (Replaces n v) d = replacing (stands_for D (Unknown n)) (stands_for D v) d
moved_first D (Enacts n) d = d

abbrev pub begun_with : List Fact → Operation → Thread → Thread
begun_with D op t =
    record {
      names = t.names;
      places = t.places;
      given = t.given;
      answers = t.answers;
      taken = t.taken;
      moves = λ d. moved_first D op (t.moves d);
    }

-- The operation taken whole over D, as op number seq.
abbrev pub run_op : Setting → List Fact → ℕ → Operation → Thread → Rested
run_op s D seq op t = run s D s.steps (begun seq 0 op) [] (begun_with D op t)
