-- One step and its note.
use Rattle.std.specs.Prelude.{◌≡◌, Bool, true, false, not, List, filter, Option, Some, None}
use Rattle.def_machine.specs.Trees.{result_of}
use Rattle.def_chase.specs.Values.{NullName, Fact}
use Rattle.def_chase.specs.Repository.{apply}
use Rattle.def_chase.specs.Mappings.{Rule}
use Rattle.def_chase.specs.Queries.{holds_null, value}
use Rattle.def_chase.specs.Updates.{Choice, Expand, Unify, Drop}
use Rattle.chase_repair.specs.Bound.{Bound, unifier_in}
use Rattle.chase_eval.specs.Watched.{Watched}
use Rattle.def_steps.specs.Attempts.{Phase, Attempt}
use Rattle.def_steps.specs.Chase.{caused}
use Rattle.def_steps.specs.Steps.{Move, step}
use Rattle.def_provenance.specs.Puts.{Way, Generates, Rewrites, Step, image_of, step_by}
use Rattle.base_types.specs.Contents.{facts_of}
use Rattle.def_provenance.specs.Notes.{note}
use Rattle.run_note.specs.declared.made.Changed.{Changed}

-- What is seen in a view: the tuples below with the own writes made.
abbrev pub seen_in : Watched → List Fact
seen_in v = apply v.below v.own

-- The tuples that hold a null of this outer name.
abbrev pub holders_in : List Fact → NullName → List Fact
holders_in E n = filter (holds_null n.update n.place) E

-- The way of a step of the present repair, by its mapping and values, with the answer if a question is asked about it.
abbrev pub way_of_bound : List Rule → Phase → Bound → Option Choice → Way
way_of_bound ms p b None = Generates b.mapping (image_of ms b.mapping b.values)
way_of_bound ms p b (Some Expand) = Generates b.mapping (image_of ms b.mapping b.values)
way_of_bound ms p b (Some (Unify o)) = Rewrites (unifier_in p o)
way_of_bound ms p b (Some (Drop os)) = Generates b.mapping (image_of ms b.mapping b.values)

-- The move of P's step over D with this answer. It sees the violations that it caused.
abbrev pub move_of : List Rule → List Fact → Attempt → Option Choice → Move
move_of ms D P c = result_of (λ q. value ms q D P.own (caused P.operation)) (step ms P c)

-- P's step over D with this answer.
abbrev pub step_of : List Rule → List Fact → Attempt → Option Choice → Step
step_of ms D P c = step_by ms D P c (move_of ms D P c)

-- The step deleted these tuples and put those.
abbrev pub HasChanged : Step → Changed → Type 0
HasChanged s c = (facts_of c.deleted ≡ (note s).deleted) × (facts_of c.puts ≡ (note s).puts)

-- The test holds if `true` is wanted, and fails if `false` is wanted.
abbrev pub is_so : Bool → Bool → Bool
is_so true b = b
is_so false b = not b
