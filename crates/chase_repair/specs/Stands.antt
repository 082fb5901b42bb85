-- What a repair wants next, the replies and answers that it takes, and the progress of a step.
use Rattle.std.specs.Prelude.{◌≡◌, ℕ, Bool, true, false, List, [], ◌++◌, Option, Some, None}
use Rattle.def_machine.specs.Trees.{Leaf, Node}
use Rattle.def_chase.specs.Repository.{Change}
use Rattle.def_chase.specs.Mappings.{Rule}
use Rattle.def_chase.specs.Queries.{Query, Present, Specific, Reply}
use Rattle.def_chase.specs.Updates.{Choice}
use Rattle.chase_query.specs.Kinds.{IsOfKind}
use Rattle.chase_question.specs.Inquiries.{Inquiry, inquiry_in, fits_inquiry}
use Rattle.def_steps.specs.Attempts.{Phase}
use Rattle.def_steps.specs.Steps.{Asking}
use Rattle.chase_repair.specs.Repairs.{Repairing, Generating, Checking, Comparing, Waiting, Unifying, Repaired, phase_of, tree_in}

-- What a repair wants next: the reply to a query, the answer to a question, the next step, or nothing.
pub data Wanted : Type 0 where
  WantsReply : Query → Wanted
  WantsChoice : Inquiry → Wanted
  WantsStep : Wanted
  WantsNothing : Wanted

-- What the repair wants next.
abbrev pub wanted : Repairing → Wanted
wanted (Generating r) = WantsStep
wanted (Checking r t) = WantsReply (Present t)
wanted (Comparing r t) = WantsReply (Specific t)
wanted (Waiting q) = WantsChoice (inquiry_in q)
wanted (Unifying r t cs g) = WantsReply g.query
wanted Repaired = WantsNothing

-- The repair wants the reply to a query, and this reply is of the query's kind.
abbrev pub TakesReply : List Rule → Wanted → Reply → Type 0
TakesReply ms (WantsReply q) a = IsOfKind ms q a
TakesReply ms (WantsChoice i) a = ⊥
TakesReply ms WantsStep a = ⊥
TakesReply ms WantsNothing a = ⊥

-- The repair wants the answer to a question, and this answer fits.
abbrev pub TakesChoice : Wanted → Choice → Type 0
TakesChoice (WantsReply q) c = ⊥
TakesChoice (WantsChoice i) c = fits_inquiry i c ≡ true
TakesChoice WantsStep c = ⊥
TakesChoice WantsNothing c = ⊥

-- The query whose reply the repair wants, if it wants one.
abbrev pub query_in : Wanted → Option Query
query_in (WantsReply q) = Some q
query_in (WantsChoice i) = None
query_in WantsStep = None
query_in WantsNothing = None

-- The query that is asked first, if one is.
abbrev pub first_query : Asking → Option Query
first_query (Leaf m) = None
first_query (Node q k) = Some q

-- The rest after the reply to the first query.
abbrev pub branch : Asking → Reply → Asking
branch (Leaf m) a = Leaf m
branch (Node q k) a = k a

-- The progress of a step, with the own writes of its attempt so far. It is within the step of this phase, with the given part
-- still to be asked and done; or it has ended in this phase, and drawn this number of nulls.
pub data Stand : Type 0 where
  Within : List Change → Phase → Asking → Stand
  Moved : List Change → Phase → ℕ → Stand

-- The move of a look that draws n nulls, writes nothing, and ends in phase p.
abbrev pub drawing : Phase → ℕ → Asking
drawing p n = Leaf record { writes = []; phase = p; drawn = n }

-- The progress of the step of phase p if this is still to be asked and done, after these own writes.
abbrev pub settled : List Change → Phase → Asking → Stand
settled own p (Leaf m) = Moved (own ++ m.writes) m.phase m.drawn
settled own p (Node q k) = Within own p (Node q k)

-- The progress of a step of the repair that asks a further query (true) or has ended (false), with these own writes so far.
abbrev pub stand : List Rule → Bool → List Change → Repairing → Stand
stand ms true own s = Within own (phase_of s) (tree_in ms s)
stand ms false own s = Moved own (phase_of s) 0
