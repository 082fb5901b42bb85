-- Why a tuple is in the repository that the serial machine leaves: its origin, and the origins of the tuples on which it rests,
-- back to the base and to insertions by curators.
use Rattle.std.specs.Prelude.{◌≡◌, ℕ, not, if◌then◌else◌, List, [], ◌∷◌, ◌++◌, map, filter, reverse, Option, Some, None, find, unwrap_or}
use Rattle.std.specs.List.{flat_map}
use Rattle.def_chase.specs.Values.{Fact, same_fact, under}
use Rattle.def_chase.specs.Repository.{Insert, has, apply}
use Rattle.def_chase.specs.Mappings.{Rule}
use Rattle.def_steps.specs.Chase.{every}
use Rattle.def_steps.specs.Serial.{Request, turns_of, serial_result}
use Rattle.def_provenance.specs.Puts.{Way, Inserts, Generates, Rewrites, Step, puts, deleted}
use Rattle.def_provenance.specs.Courses.{serial_steps}

-- How a tuple came to be there: it is of the base; or this step of this update inserted it, generated it by a mapping for an
-- image, or rewrote the given tuple to it.
pub data How : Type 0 where
  FromBase : How
  Inserted : ℕ → ℕ → How
  Generated : ℕ → ℕ → ℕ → List Fact → How
  Rewritten : ℕ → ℕ → Fact → How

pub record Reason : Type 0 where
  pub tuple : Fact
  pub how : How

-- The first of the tuples ds, which a step deleted in order, that the substitution f takes to t.
abbrev pub source : List Fact → Fact → (Rattle.def_chase.specs.Values.Datum → Rattle.def_chase.specs.Values.Datum) → Fact
source ds t f = unwrap_or (find (λ d. same_fact t (under f d)) ds) t

-- How the tuple t came about by a step of this way that deleted ds.
abbrev pub how_by : ℕ → ℕ → List Fact → Fact → Way → How
how_by u s ds t Inserts = Inserted u s
how_by u s ds t (Generates n image) = Generated u s n image
how_by u s ds t (Rewrites f) = Rewritten u s (source ds t f)

-- The reason for a tuple at the step that put it.
abbrev pub reason_at : Step → Fact → Reason
reason_at s t = record { tuple = t; how = how_by s.update s.step (deleted s.writes) t s.way }

-- The reason for a tuple of the base.
abbrev pub rooted : Fact → Reason
rooted t = record { tuple = t; how = FromBase }

-- The premises of a reason: the tuples, which stood before its step, on which it rests.
abbrev pub premises : How → List Fact
premises FromBase = []
premises (Inserted u s) = []
premises (Generated u s n image) = image
premises (Rewritten u s t) = t ∷ []

-- The tuples still to be explained before a step: those that it did not put, and the premises of its reasons.
abbrev pub sought_before : (Fact → Rattle.std.specs.Prelude.Bool) → List Reason → List Fact → List Fact
sought_before put rs sought = apply (filter (λ t. not (put t)) sought) (map Insert (flat_map (λ (r : Reason). premises r.how) rs))

-- The reasons for these tuples after these steps, the last step first. The origin of a tuple is the last step that put it; one
-- that no step put is of the base.
abbrev pub explained : List Step → List Fact → List Reason
explained [] sought = map rooted sought
explained (s ∷ earlier) sought =
    map (reason_at s) (filter (puts s) sought)
    ++ explained earlier (sought_before (puts s) (map (reason_at s) (filter (puts s) sought)) sought)

-- The explanation of a tuple in the repository that the serial machine leaves.
abbrev pub explanation : List Rule → ℕ → List Fact → List Request → Fact → Option (List Reason)
explanation ms B D rs t =
    if has (serial_result ms B D rs).repository t then Some (explained (reverse (serial_steps every ms B D (turns_of ms B rs))) (t ∷ [])) else None

-- The list is the explanation of its first tuple.
abbrev pub IsExplanation : List Rule → ℕ → List Fact → List Request → List Reason → Type 0
IsExplanation ms B D rs [] = ⊥
IsExplanation ms B D rs (r ∷ others) = explanation ms B D rs r.tuple ≡ Some (r ∷ others)
