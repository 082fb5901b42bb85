use Rattle.std.specs.Prelude.{◌≡◌, ◌≤◌, ◌-◌, ◌++◌, length, take, drop}
use Rattle.std.specs.List.{concat}
use Rattle.audit_claims.specs.Marks.{passes}
use Rattle.audit_claims.specs.Parts.{before, from, lines_in}
use Rattle.audit_claims.proofs.parts.place_of.Given as goal

abbrev pub invariant-loop-place : goal.invariant-loop-place
invariant-loop-place l = record {
  within : l.place ≤ length l.text;
  before : concat (before (passes l.mark) (lines_in l.text)) ≡ take l.place l.text ++ concat (before (passes l.mark) (lines_in (drop l.place l.text)));
  from : from (passes l.mark) (lines_in l.text) ≡ from (passes l.mark) (lines_in (drop l.place l.text));
}

abbrev pub decreases-loop-place : goal.decreases-loop-place
decreases-loop-place l = length l.text - l.place
