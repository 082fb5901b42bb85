use Rattle.std.proofs.Common.{◌≡◌, ℕ, suc, List, ◌++◌, take, drop}
use Rattle.def_machine.specs.Cascade.{restarted}
use Rattle.def_chase.specs.Mappings.{Rule}
use Rattle.def_steps.specs.Chase.{caused_chase}
use Rattle.audit_updates.specs.Updates.{updates_of, AreFrom}
use Rattle.audit_replay.specs.Causes.{readers_in}
use Rattle.audit_replay.specs.Restarts.{AllHaveOneMore}
use Rattle.audit_replay.proofs.restarts.restart_named.Given as goal

abbrev pub invariant-loop-place : goal.invariant-loop-place
invariant-loop-place l = record {
  numbers : AreFrom 1 l.updates;
  more : AllHaveOneMore (drop l.place l.updates);
  left : (ms : List Rule) (B : ℕ)
      → take l.place (updates_of ms B l.updates) ++ restarted (caused_chase ms B) (readers_in l.causes.items) (suc l.place) (drop l.place (updates_of ms B l.updates))
      ≡ take l.from (updates_of ms B l.fn.updates) ++ restarted (caused_chase ms B) (readers_in l.causes.items) (suc l.from) (drop l.from (updates_of ms B l.fn.updates));
}
