-- What the search for changed reads returns.
use Rattle.chase_query.specs.Meanings.{read_of, reply_of}
use Rattle.core_conflict.specs.Changes as meant
use Rattle.core_conflict.specs.declared.changes.Changed.{Changed}

-- The changed read that a `Changed` stands for.
abbrev pub changed_of : Changed → meant.Changed
changed_of c = record { number = c.number; read = read_of c.read; now = reply_of c.now }
