-- The summary of a drill, line by line.
use Rattle.std.specs.Prelude.{ℕ, List, ◌++◌, length, codes}
use Rattle.std.specs.Fmt.{decimal}
use Rattle.chase_update.specs.Results.{ResultTold}
use Rattle.run_drill.specs.Totals.{Totals, totals}

-- drill count N seed S
abbrev pub drill_line : ℕ → ℕ → List ℕ
drill_line count seed = codes "drill count " ++ (decimal count ++ (codes " seed " ++ (decimal seed ++ codes "\n")))

-- committed C of N: how many of the updates came to their ends
abbrev pub committed_line : ℕ → ℕ → List ℕ
committed_line ended count = codes "committed " ++ (decimal ended ++ (codes " of " ++ (decimal count ++ codes "\n")))

-- done D spent P refused R: how they ended
abbrev pub ends_line : Totals → List ℕ
ends_line t =
    codes "done " ++ (decimal t.done ++ (codes " spent " ++ (decimal t.spent ++ (codes " refused " ++ (decimal t.refused ++ codes "\n")))))

-- steps A nulls B: what they made and drew
abbrev pub sums_line : Totals → List ℕ
sums_line t = codes "steps " ++ (decimal t.steps ++ (codes " nulls " ++ (decimal t.nulls ++ codes "\n")))

-- repository T: how many tuples they left
abbrev pub repository_line : ℕ → List ℕ
repository_line tuples = codes "repository " ++ (decimal tuples ++ codes "\n")

-- The summary of a drill of `count` updates by this seed, whose run had this result.
abbrev pub summary_text : ℕ → ℕ → ResultTold → List ℕ
summary_text count seed told =
    drill_line count seed
    ++ (committed_line (length told.finishes) count
    ++ (ends_line (totals told.finishes) ++ (sums_line (totals told.finishes) ++ repository_line (length told.repository))))
