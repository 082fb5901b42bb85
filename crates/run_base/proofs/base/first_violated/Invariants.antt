use Rattle.std.proofs.Common.{◌≡◌, map, drop}
use Rattle.lang_schema.specs.Meanings.{session_mapping_of}
use Rattle.lang_session.specs.Base.{first_violated}
use Rattle.run_base.proofs.base.first_violated.Given as goal

-- No mapping before the place has a violation.
abbrev pub invariant-loop-mapping : goal.invariant-loop-mapping
invariant-loop-mapping g l =
    first_violated (g.F.Facts.tuples l.base) (map session_mapping_of l.mappings) ≡ first_violated (g.F.Facts.tuples l.base) (map session_mapping_of (drop l.mapping-index l.mappings))
