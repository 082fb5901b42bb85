use Rattle.std.proofs.Common.{◌≡◌, ◌+◌, ◌-◌, map}
use Rattle.base_types.specs.Meanings.{change_of}
use Rattle.chase_query.specs.Meanings.{passing}
use Rattle.core_conflict.specs.Looking.{SeesFirst, changed_from}
use Rattle.core_conflict.proofs.changes.changed_in_passage.Given as goal

-- The first of all is the first of those that are left.
abbrev pub invariant-loop-mapping : goal.invariant-loop-mapping
invariant-loop-mapping g l = record {
  sees : SeesFirst (g.F.Facts.tuples l.below) (map change_of l.reader.own.now) l.earlier.seen l.earlier.view;
  counted : l.number ≡ l.before + (l.mapping - l.passage.start);
  first :
      changed_from l.reader l.trails (g.F.Facts.tuples l.below) (l.before + 1) (passing l.passage.start (l.passage.end - l.passage.start) l.passage.own)
      ≡ changed_from l.reader l.trails (g.F.Facts.tuples l.below) (l.number + 1) (passing l.mapping (l.passage.end - l.mapping) l.passage.own);
}
