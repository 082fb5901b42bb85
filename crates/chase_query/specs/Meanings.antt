-- The meanings of queries, answers and logged reads.
use Rattle.std.specs.Prelude.{ℕ, zero, suc, ◌-◌, List, [], ◌∷◌, ◌++◌, map}
use Rattle.chase_query.specs.declared.queries.Query.{Query as QueryOfProgram}
use Rattle.chase_query.specs.declared.queries.Query.TheVariants.{Present as PresentQuery, Violation as ViolationQuery, Specific as SpecificQuery, Occurs as OccursQuery}
use Rattle.chase_query.specs.declared.replies.Reply.{Reply as ReplyOfProgram}
use Rattle.chase_query.specs.declared.replies.Reply.TheVariants.{Yes as YesAnswer, No as NoAnswer, Image as ImageAnswer, Nothing as NothingAnswer, Tuples as TuplesAnswer}
use Rattle.chase_query.specs.declared.log.Logged.{Logged}
use Rattle.chase_query.specs.declared.log.Logged.TheVariants.{Asked, Passed}
use Rattle.chase_query.specs.declared.log.LoggedRead.{LoggedRead}
use Rattle.def_chase.specs.Queries.{Query, Present, Violation, Specific, Occurs, Reply, Yes, No, Image, Nothing, Tuples}
use Rattle.base_types.specs.Meanings.{fact_of}

-- The query that a `Query` stands for.
abbrev pub query_of : QueryOfProgram → Query
query_of (PresentQuery t) = Present (fact_of t)
query_of (ViolationQuery n) = Violation n
query_of (SpecificQuery t) = Specific (fact_of t)
query_of (OccursQuery n) = Occurs n.update n.place

-- The reply that a `Reply` stands for.
abbrev pub reply_of : ReplyOfProgram → Reply
reply_of YesAnswer = Yes
reply_of NoAnswer = No
reply_of (ImageAnswer ts) = Image (map fact_of ts.items)
reply_of NothingAnswer = Nothing
reply_of (TuplesAnswer ts) = Tuples (map fact_of ts.items)

-- A read: the query, the reply, and the number of own writes that had been made before.
pub record Read : Type 0 where
  pub query : Query
  pub reply : Reply
  pub own : ℕ

-- The read that a `LoggedRead` stands for.
abbrev pub read_of : LoggedRead → Read
read_of r = record { query = query_of r.query; reply = reply_of r.answer; own = r.own }

-- The read that the mapping of number n has no violation, by an attempt that had made `own` writes.
abbrev pub finds_none : ℕ → ℕ → Read
finds_none n own = record { query = Violation n; reply = Nothing; own = own }

-- The reads that the k mappings from number n on have no violation, by an attempt that had made `own` writes.
abbrev pub passing : ℕ → ℕ → ℕ → List Read
passing n zero own = []
passing n (suc k) own = finds_none n own ∷ passing (suc n) k own

-- The reads that an entry of a log stands for.
abbrev pub reads_of : Logged → List Read
reads_of (Asked r) = read_of r ∷ []
reads_of (Passed passage) = passing passage.start (passage.end - passage.start) passage.own

-- The reads of a log, in order.
abbrev pub reads_in : List Logged → List Read
reads_in [] = []
reads_in (e ∷ es) = reads_of e ++ reads_in es

-- The number of own writes that had been made before the reads of an entry.
abbrev pub own_of : Logged → ℕ
own_of (Asked r) = r.own
own_of (Passed passage) = passage.own
