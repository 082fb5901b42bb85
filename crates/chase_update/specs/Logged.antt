-- The logged reads of a step in which a look passes over mappings without a violation.
use Rattle.std.specs.Prelude.{◌≡◌, ℕ, List, ◌++◌, map}
use Rattle.def_machine.specs.Trees.{Tree, log_of}
use Rattle.def_chase.specs.Queries.{Query, Reply}
use Rattle.chase_query.specs.Meanings.{Read}
use Rattle.chase_update.specs.Settled.{IsShorter}

-- A query with its answer, as a read by an attempt that had made n own writes.
abbrev pub read_after : ℕ → Query × Reply → Read
read_after n r = record { query = r.0; reply = r.1; own = n }

-- If `val` answers, u has the same result as t, with no more queries. The reads `before` followed by the reads of t, by an
-- attempt that had made n writes, are the reads `after` followed by the reads of u.
pub record IsLogged {A : Type 0} (val : Query → Reply) (n : ℕ) (t : Tree Query Reply A) (before : List Read) (u : Tree Query Reply A) (after : List Read) : Type 0 where
  pub shorter : IsShorter val t u
  pub reads : before ++ map (read_after n) (log_of val t) ≡ after ++ map (read_after n) (log_of val u)
