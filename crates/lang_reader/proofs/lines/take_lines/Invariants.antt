use Rattle.std.proofs.Common.{◌≡◌, ◌+◌, length}
use Rattle.std.specs.Prelude.{IfSome}
use Rattle.std.specs.Option.{option_copied}
use Rattle.def_language.specs.Lines.{lines_from, lines_of}
use Rattle.lang_reader.specs.States.{state_of, lines_left}
use Rattle.lang_reader.proofs.lines.take_lines.Given as goal

abbrev pub invariant-lines : goal.invariant-lines
invariant-lines l = record {
  same : lines_from l.number l.start (state_of l.reader) (lines_left (option_copied l.rest)) ≡ lines_from 0 0 (state_of l.initial.reader) (lines_of l.bytes);
  number : l.number + length (lines_left (option_copied l.rest)) ≡ length (lines_of l.bytes);
  place : IfSome l.rest (λ text. l.start + length text.now ≡ length l.bytes);
}

abbrev pub decreases-lines : goal.decreases-lines
decreases-lines l = length (lines_left (option_copied l.rest))
