use Rattle.std.proofs.Common.{◌≡◌, ◌-◌, List}
use Rattle.def_workspace.specs.Lines.{Given}
use Rattle.ws_run.specs.DrawnMeanings.{draw_all}
use Rattle.ws_run.specs.Meanings.{thread_of}
use Rattle.ws_run.proofs.drawing.name_all.Given as goal

-- With the nulls that are left it is what it is to be with all, and the ops are as they were.
abbrev pub invariant-loop-place : goal.invariant-loop-place
invariant-loop-place l = record {
  named :
      (gs : List Given) → draw_all l.drawn (l.nulls - l.place) l.place (thread_of l.names l.thread gs)
      ≡ draw_all l.fn.drawn (l.nulls - l.before) l.before (thread_of l.fn.names l.fn.thread gs);
  ops : l.thread.ops ≡ l.fn.thread.ops;
}
