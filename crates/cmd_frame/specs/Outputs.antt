-- What a command makes of its input, with texts as lists of bytes.
use Rattle.std.specs.Prelude.{ℕ, List}
use Rattle.cmd_frame.specs.declared.outputs.Ending.{Ending}
use Rattle.cmd_frame.specs.declared.outputs.Refusal.{Refusal}
use Rattle.cmd_frame.specs.declared.outputs.Output.{Output}
use Rattle.cmd_frame.specs.declared.outputs.Output.TheVariants as outputs

-- a text for `out` with how the command ended, or a refusal with its line for `err`
pub data OutputView : Type 0 where
  Text : Ending → List ℕ → OutputView
  Refused : Refusal → List ℕ → OutputView

-- what a command may make of an input: one output if it is a function, any of several if threads decide
abbrev pub Meaning : Type 1
Meaning = List ℕ → OutputView → Type 0

-- the output as plain data, without the place of its text in memory
abbrev pub view_of : Output → OutputView
view_of (outputs.Text ending text) = Text ending text.items
view_of (outputs.Refused refusal line) = Refused refusal line.items
