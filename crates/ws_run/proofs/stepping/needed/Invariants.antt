use Rattle.std.proofs.Common.{◌≡◌}
use Rattle.ws_run.proofs.stepping.needed.Given as goal

-- The view is as it was.
abbrev pub invariant-loop-place : goal.invariant-loop-place
invariant-loop-place l = l.view ≡ l.fn.view
