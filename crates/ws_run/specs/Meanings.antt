-- What the types of a run mean, in the terms of the definitions.
use Rattle.std.specs.Prelude.{ℕ, ◌-◌, List, [], ◌∷◌, map, reverse, drop, unwrap_or}
use Rattle.std.specs.Option.{option_map}
use Rattle.std.specs.List.{slice_get}
use Rattle.def_chase.specs.Values.{Datum}
use Rattle.def_chase.specs.Mappings.{Rule}
use Rattle.def_steps.specs.Chase.{caused}
use Rattle.def_workspace.specs.Lines.{Source, Draw, Given}
use Rattle.def_workspace.specs.Names.{Names}
use Rattle.def_workspace.specs.Ops.{Op, Course}
use Rattle.def_workspace.specs.Runs.{Active, Setting, Thread}
use Rattle.base_types.specs.Contents.{choices_of}
use Rattle.base_types.specs.Meanings.{operation_of}
use Rattle.ws_lines.specs.Meanings.{source_of}
use Rattle.ws_lines.specs.declared.answers.Source.{Source as SourceOfProgram}
use Rattle.ws_names.specs.Meanings.{places_of}
use Rattle.ws_ground.specs.declared.grounds.Ground.{Ground}
use Rattle.ws_run.specs.Moves.{moved_over, ways_of}
use Rattle.ws_run.specs.declared.settings.Setting.{Setting as SettingOfProgram}
use Rattle.ws_run.specs.declared.threads.Op.{Op as OpOfProgram}
use Rattle.ws_run.specs.declared.threads.Thread.{Thread as ThreadOfProgram}

-- The source of the mapping of this number.
abbrev pub source_or : List SourceOfProgram → ℕ → Source
source_or ss n = unwrap_or (option_map source_of (slice_get ss n)) Draw

-- The mappings in force, each with its source.
abbrev pub active_of : List SourceOfProgram → List Rule → List Active
active_of ss [] = []
active_of [] (r ∷ rs) = record { source = Draw; rule = r } ∷ active_of [] rs
active_of (s ∷ ss) (r ∷ rs) = record { source = source_of s; rule = r } ∷ active_of ss rs

abbrev pub active_in : SettingOfProgram → List Active
active_in s = active_of s.sources.now.items s.in_force.now

-- An op may make one step less than its budget, so that what the last step drew is known.
abbrev pub setting_of : SettingOfProgram → Setting
setting_of s = record { scope = caused; number = s.number; steps = s.budget - 1; active = active_in s }

abbrev pub op_of : OpOfProgram → Op
op_of o = record { number = o.number; operation = operation_of o.operation; choices = choices_of o.choices }

-- The thread of a run, with the names of nulls and all answers of the update.
abbrev pub thread_of : Names → ThreadOfProgram → List Given → Thread
thread_of ns t gs =
    record {
      names = ns;
      places = places_of t.places;
      given = reverse t.given.items;
      answers = drop t.taken gs;
      taken = t.taken;
      moves = moved_over (ways_of t.steps.items);
    }

-- The state of a run: what it is over, and its thread.
abbrev pub course_of : Ground → ThreadOfProgram → List Given → Course
course_of g t gs = record { facts = g.facts; last = g.last; thread = thread_of g.names t gs; ops = map op_of t.ops.items }
