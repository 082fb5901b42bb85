use Rattle.std.proofs.Common.{◌≡◌, map}
use Rattle.core_entries.specs.Meanings.{entry_of}
use Rattle.core_engine.specs.States.{admissions_from}
use Rattle.core_engine.proofs.admitting.admissions.Given as goal

abbrev pub invariant-loop-i : goal.invariant-loop-i
invariant-loop-i l = map entry_of l.history.items ≡ admissions_from 1 l.i
