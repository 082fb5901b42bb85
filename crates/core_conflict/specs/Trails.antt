-- What trails mean.
use Rattle.std.specs.Prelude.{List, map}
use Rattle.base_types.specs.Meanings.{change_of}
use Rattle.def_chase.specs.Repository.{Change}
use Rattle.core_conflict.specs.declared.concerns.Trail.{Trail}

-- The writes of the trail.
abbrev pub writes_of : Trail → List Change
writes_of t = map change_of t.writes.now

-- The writes of each of the trails.
abbrev pub trails_of : List Trail → List (List Change)
trails_of ts = map writes_of ts
