-- What comes of an op of the program.
use Rattle.std.specs.Prelude.{◌≡◌, true, List, [], length}
use Rattle.base_types.specs.Contents.{choices_of}
use Rattle.base_types.specs.Listed.{Listed}
use Rattle.base_types.specs.declared.updates.Choice.{Choice as ChoiceOfProgram}
use Rattle.chase_update.specs.Starting.{is_start}
use Rattle.def_chase.specs.Values.{Fact}
use Rattle.def_steps.specs.Attempts.{Attempt}
use Rattle.def_workspace.specs.Lines.{Given}
use Rattle.def_workspace.specs.Names.{Names}
use Rattle.def_workspace.specs.Runs.{Rested}
use Rattle.ws_run.specs.Meanings.{setting_of, thread_of}
use Rattle.ws_run.specs.Running.{onwards}
use Rattle.ws_run.specs.declared.settings.Setting.{Setting as SettingOfProgram}
use Rattle.ws_run.specs.declared.threads.Thread.{Thread as ThreadOfProgram}

-- What comes of the program's op from here on: its setting and its answers, the tuples below, the names, the thread, the choices
-- that the op took, and its program.
abbrev pub comes_of : SettingOfProgram → List Given → List Fact → Names → ThreadOfProgram → Listed ChoiceOfProgram → Attempt → Rested
comes_of s gs D ns t cs P = onwards (setting_of s) D P (choices_of cs) (thread_of ns t gs)

-- At its start the attempt has written nothing.
abbrev pub IsFresh : Attempt → Type 0
IsFresh P = is_start P.phase ≡ true → P.own ≡ []

-- It took the choices.
abbrev pub HasTaken : Attempt → Listed ChoiceOfProgram → Type 0
HasTaken P cs = P.taken ≡ length cs.items
