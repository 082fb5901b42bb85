-- The meanings of the parts of a `Repair`, and what is true of them.
use Rattle.std.specs.Prelude.{◌≡◌, ℕ, true, false, List, [], ◌∷◌, map}
use Rattle.std.specs.List.{list_all, flat_map}
use Rattle.def_chase.specs.Values.{NullName, Datum, Fact}
use Rattle.def_chase.specs.Queries.{Occurs as OccursMeant}
use Rattle.def_chase.specs.Specific.{more_specific}
use Rattle.def_chase.specs.Mappings.{Rule}
use Rattle.base_types.specs.Contents.{changes_of}
use Rattle.base_types.specs.Listed.{Listed}
use Rattle.base_types.specs.Meanings.{null_of, datum_of, fact_of}
use Rattle.base_types.specs.declared.updates.Write.{Write}
use Rattle.base_types.specs.declared.tuples.Tuple.{Tuple}
use Rattle.chase_query.specs.Meanings.{query_of}
use Rattle.chase_query.specs.declared.queries.Query.{Query}
use Rattle.chase_query.specs.declared.queries.Query.TheVariants.{Present, Violation, Specific, Occurs}
use Rattle.chase_question.specs.declared.questions.Question.{Question}
use Rattle.chase_question.specs.declared.questions.Question.TheVariants.{Positive, Negative}
use Rattle.def_steps.specs.Attempts.{Repair, Generate, Positive as PositiveMeant, Negative as NegativeMeant}
use Rattle.def_steps.specs.Steps.{compared}
use Rattle.chase_repair.specs.Stands.{settled, stand}
use Rattle.chase_repair.specs.declared.stages.Generation.{Generation}
use Rattle.chase_repair.specs.declared.stages.Gathering.{Gathering}
use Rattle.chase_repair.specs.declared.stages.Stage.{Stage}
use Rattle.chase_repair.specs.declared.stages.Stage.TheVariants.{Generating, Querying, Waiting, Unifying, Repaired}
use Rattle.chase_repair.specs.Repairs as meant

-- The repair in hand that a `Generation` stands for.
abbrev pub repair_of : Generation → Repair
repair_of g = record { mapping = g.mapping; binding = map datum_of g.binding.items; atom = g.atom }

-- The step of `unify` that a `Gathering` stands for.
abbrev pub gathering_of : Gathering → meant.Gathering
gathering_of g =
    record {
      images = g.sub;
      query = query_of g.query;
      later = map null_of g.later.items;
      found = flat_map (λ l. map fact_of l.items) g.found.items;
    }

-- The step g' is g after it has kept the tuples ts; it asks for the next null.
abbrev pub HasKept : Gathering → List Fact → Gathering → Type 0
HasKept g ts g' = gathering_of g' ≡ meant.asking_next (gathering_of g).later (gathering_of g) ts

-- The step of `unify` by these images asks for the first of these nulls.
abbrev pub AsksFirst : List (NullName × Datum) → List NullName → meant.Gathering → Type 0
AsksFirst images [] G = ⊥
AsksFirst images (n ∷ ns) G = G ≡ record { images = images; query = OccursMeant n.update n.place; later = ns; found = [] }

-- The step of a generation with this query.
abbrev pub querying : Repair → Query → meant.Repairing
querying r (Present t) = meant.Checking r (fact_of t)
querying r (Violation n) = meant.Repaired
querying r (Specific t) = meant.Comparing r (fact_of t)
querying r (Occurs n) = meant.Repaired

-- The repair at this question.
abbrev pub waiting : Repair → Question → meant.Repairing
waiting r (Positive n t cs) = meant.Waiting (PositiveMeant r (fact_of t) (map fact_of cs.items))
waiting r (Negative n ts) = meant.Waiting (NegativeMeant n (map fact_of ts.items))

-- The step of an answer `unify` to this question.
abbrev pub unifying : Repair → Question → meant.Gathering → meant.Repairing
unifying r (Positive n t cs) g = meant.Unifying r (fact_of t) (map fact_of cs.items) g
unifying r (Negative n ts) g = meant.Repaired

-- The state of the repair.
abbrev pub repairing_of : Generation → Stage → meant.Repairing
repairing_of g Generating = meant.Generating (repair_of g)
repairing_of g (Querying q) = querying (repair_of g) q
repairing_of g (Waiting q) = waiting (repair_of g) q.value
repairing_of g (Unifying q u) = unifying (repair_of g) q.value (gathering_of u.value)
repairing_of g Repaired = meant.Repaired

-- The state of the repair is unchanged.
abbrev pub SameRepair : Generation → Stage → Generation → Stage → Type 0
SameRepair g s g' s' = repairing_of g' s' ≡ repairing_of g s

-- The end of a generation's step, given the candidates, which are more specific tuples, and the own writes before and after.
abbrev pub HasCompared : List Rule → List Fact → Listed Write → Generation → Fact → Listed Write → meant.Repairing → Type 0
HasCompared ms candidates own g t own' s' =
    stand ms false (changes_of own') s' ≡ settled (changes_of own) (Generate (repair_of g)) (compared ms (repair_of g) t candidates)

-- The query is one that a generation asks: whether its tuple is present, or for more specific tuples.
abbrev pub IsOfGeneration : Query → Type 0
IsOfGeneration (Present t) = Unit {0}
IsOfGeneration (Violation n) = ⊥
IsOfGeneration (Specific t) = Unit {0}
IsOfGeneration (Occurs n) = ⊥

-- A positive question is of the mapping in hand, and its candidates are more specific than its tuple.
pub record IsOfMapping (n m : ℕ) (t : Tuple) (cs : List Tuple) : Type 0 where
  pub mapping : n ≡ m
  pub specific : list_all (λ s. more_specific s (fact_of t)) (map fact_of cs) ≡ true

abbrev pub IsWaited : ℕ → Question → Type 0
IsWaited n (Positive m t cs) = IsOfMapping n m t cs.items
IsWaited n (Negative m ts) = Unit {0}

abbrev pub IsUnified : ℕ → Question → Type 0
IsUnified n (Positive m t cs) = IsOfMapping n m t cs.items
IsUnified n (Negative m ts) = ⊥

-- The query or the question fits the stage.
abbrev pub IsSound : Generation → Stage → Type 0
IsSound g Generating = Unit {0}
IsSound g (Querying q) = IsOfGeneration q
IsSound g (Waiting q) = IsWaited g.mapping q.value
IsSound g (Unifying q u) = IsUnified g.mapping q.value
IsSound g Repaired = Unit {0}
