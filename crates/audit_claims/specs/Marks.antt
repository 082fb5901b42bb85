-- Which line is searched for.
use Rattle.std.specs.Prelude.{ℕ, Bool, List}
use Rattle.audit_claims.specs.Parts.{is_end, is_head}
use Rattle.audit_claims.specs.declared.parts.Mark.{Mark}
use Rattle.audit_claims.specs.declared.parts.Mark.TheVariants.{End, Trace}

-- the line is the one that the mark searches for
abbrev pub passes : Mark → List ℕ → Bool
passes End line = is_end line
passes Trace line = is_head line
