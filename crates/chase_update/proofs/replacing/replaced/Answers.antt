use Rattle.std.proofs.Common.{◌≡◌, ◌∙◌, List, rules}
use Rattle.def_chase.specs.Values.{NullName, Unknown}
use Rattle.def_chase.specs.Mappings.{Rule}
use Rattle.base_types.specs.Contents.{facts_of}
use Rattle.base_types.specs.Meanings.{null_of, operation_of}
use Rattle.def_steps.specs.Attempts.{Attempt}
use Rattle.def_steps.specs.Rewriting.{standing_for}
use Rattle.chase_update.specs.RowMeanings.{renaming_of}
use Rattle.chase_update.specs.Rows.{Renaming, replaced, row_tree}
use Rattle.chase_update.proofs.replacing.replaced.Goals as goal

pub returns-in_ok-boxed-in-Null-clause-value : goal.returns-in_ok-boxed-in-Null-clause-value
returns-in_ok-boxed-in-Null-clause-value c =
    let ts = facts_of c.args.tuples.now in
    let asked : (ms : List Rule) (P : Attempt) (n : NullName) → standing_for n ts ≡ Unknown (null_of c.args.null) → row_tree ms P (Renaming (null_of c.in-Null.name) (Unknown (null_of c.args.null)) (facts_of c.in_ok-copy-in-Null.field-0)) ≡ replaced (operation_of c.args.operation.now) n ts = search rules in
    λ ms P n e. (λ i. row_tree ms P (renaming_of (c.in_ok-boxed-in-Null.ensures.same i))) ∙ asked ms P n e
