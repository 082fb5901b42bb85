use Rattle.std.proofs.Common.{◌≡◌, ◌+◌, take}
use Rattle.std.specs.List.{count_by}
use Rattle.def_language.specs.Bytes.{is_line_feed}
use Rattle.lang_reader.proofs.split.line_number.Given as goal

abbrev pub invariant-loop-byte : goal.invariant-loop-byte
invariant-loop-byte l = l.number ≡ 1 + count_by is_line_feed (take l.byte-index (take l.place l.bytes))
