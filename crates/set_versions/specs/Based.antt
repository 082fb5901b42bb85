-- A base that no update has written to.
use Rattle.std.specs.Prelude.{true, []}
use Rattle.set_versions.specs.declared.marks.Marks.{Marks}

-- The marks of a tuple that the base has and no update wrote.
abbrev pub base_marks : Marks
base_marks = record { in_base = true; chain = [] }
