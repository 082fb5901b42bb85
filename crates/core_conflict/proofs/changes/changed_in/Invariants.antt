use Rattle.std.proofs.Common.{◌≡◌, ◌+◌, drop, map}
use Rattle.base_types.specs.Meanings.{change_of}
use Rattle.chase_query.specs.Meanings.{reads_in}
use Rattle.core_conflict.specs.Looking.{SeesFirst, changed_from}
use Rattle.core_conflict.proofs.changes.changed_in.Given as goal

-- The first of all is the first of those that are left.
abbrev pub invariant-entries : goal.invariant-entries
invariant-entries g l = record {
  sees : SeesFirst (g.F.Facts.tuples l.below) (map change_of l.reader.own.now) l.earlier.seen l.earlier.view;
  first :
      changed_from l.reader l.trails (g.F.Facts.tuples l.below) 1 (reads_in l.log)
      ≡ changed_from l.reader l.trails (g.F.Facts.tuples l.below) (l.number + 1) (reads_in (drop l.entry-index l.log));
}
