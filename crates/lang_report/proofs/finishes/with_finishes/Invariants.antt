use Rattle.std.proofs.Common.{◌≡◌, map, take}
use Rattle.lang_session.specs.Meanings.{update_of}
use Rattle.chase_update.specs.Results.{finish_of}
use Rattle.lang_print.specs.Lines.{with_lines}
use Rattle.lang_report.specs.Results.{finish_lines}
use Rattle.lang_report.proofs.finishes.with_finishes.Given as goal

abbrev pub invariant-loop-place : goal.invariant-loop-place
invariant-loop-place l = l.page ≡ with_lines (λ words. words) l.initial.page (finish_lines (map update_of l.updates.items) 1 (map finish_of (take l.place l.finishes)))
