-- The unifier of a generated tuple and the candidate with a given outer form.
use Rattle.std.specs.Prelude.{List}
use Rattle.def_chase.specs.Values.{NullName, Datum}
use Rattle.def_chase.specs.Unifier.{unifier}
use Rattle.base_types.specs.Contents.{facts_of}
use Rattle.base_types.specs.Listed.{Listed}
use Rattle.base_types.specs.Meanings.{fact_of}
use Rattle.base_types.specs.declared.tuples.Tuple.{Tuple}
use Rattle.def_steps.specs.Questions.{candidate}
use Rattle.def_steps.specs.Rewriting.{moved_nulls}

-- The unifier of the tuple and the candidate with this outer form.
abbrev pub unifier_with : Tuple → Listed Tuple → Tuple → Datum → Datum
unifier_with t candidates form = unifier (fact_of t) (candidate (fact_of t) (facts_of candidates) (fact_of form))

-- The nulls that the unifier moves, in order.
abbrev pub nulls_moved_with : Tuple → Listed Tuple → Tuple → List NullName
nulls_moved_with t candidates form = moved_nulls (fact_of t) (candidate (fact_of t) (facts_of candidates) (fact_of form))
