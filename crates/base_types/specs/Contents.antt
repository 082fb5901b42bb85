-- The meanings of the program's lists: their items, in the terms of the definitions of the chase.
use Rattle.std.specs.Prelude.{List, map}
use Rattle.def_chase.specs.Values.{Datum, Fact}
use Rattle.def_chase.specs.Mappings.{Rule}
use Rattle.def_chase.specs.Repository.{Change}
use Rattle.def_chase.specs.Updates.{Choice}
use Rattle.base_types.specs.Listed.{Listed}
use Rattle.base_types.specs.Meanings.{datum_of, fact_of, rule_of, change_of, choice_of}
use Rattle.base_types.specs.declared.mappings.Mapping.{Mapping}
use Rattle.base_types.specs.declared.values.Value.{Value}
use Rattle.base_types.specs.declared.tuples.Tuple.{Tuple}
use Rattle.base_types.specs.declared.updates.Write.{Write}
use Rattle.base_types.specs.declared.updates.Choice.{Choice as ChoiceOfProgram}

-- The values of a row.
abbrev pub data_of : Listed Value → List Datum
data_of vs = map datum_of vs.items

-- The tuples of a list.
abbrev pub facts_of : Listed Tuple → List Fact
facts_of ts = map fact_of ts.items

-- The mappings of a list.
abbrev pub rules_in : Listed Mapping → List Rule
rules_in ms = map rule_of ms.items

-- The writes of a list.
abbrev pub changes_of : Listed Write → List Change
changes_of ws = map change_of ws.items

-- The answers of a list.
abbrev pub choices_of : Listed ChoiceOfProgram → List Choice
choices_of cs = map choice_of cs.items
