use Rattle.std.proofs.Common.{◌≡◌, ◌++◌}
use Rattle.lang_report.proofs.renaming.listed.Given as goal

-- what has been listed and what is left are all
abbrev pub invariant-loop-null : goal.invariant-loop-null
invariant-loop-null l =
    (goal.iterator-loop-null).can_next l.null-iterator ×
    (goal.iterator-loop-null).is_finite l.null-iterator ×
    (l.list.items ++ l.null-iterator ≡ l.nulls.keys)
