-- The wants and the points of an attempt, in the terms of the steps of the chase.
use Rattle.std.specs.Prelude.{◌≡◌, Bool, [], Option, Some, None, if◌then◌else◌}
use Rattle.def_chase.specs.Values.{Fact}
use Rattle.def_chase.specs.Queries.{Query, Present, Violation, Specific, Occurs}
use Rattle.def_chase.specs.Updates.{Operation}
use Rattle.base_types.specs.Contents.{changes_of}
use Rattle.base_types.specs.Listed.{Listed}
use Rattle.base_types.specs.declared.updates.Write.{Write}
use Rattle.base_types.specs.Meanings.{null_of}
use Rattle.chase_query.specs.Meanings.{query_of}
use Rattle.chase_question.specs.Inquiries.{inquiry_of}
use Rattle.def_steps.specs.Attempts.{Outcome, Phase, Done as DoneMeant, Spent as SpentMeant, Refused as RefusedMeant, Start as StartMeant, Look as LookMeant, Ended as EndedMeant}
use Rattle.chase_repair.specs.Repairs.{phase_of, is_asking}
use Rattle.chase_repair.specs.Stands.{Moved, settled}
use Rattle.chase_update.specs.Rows as rows
use Rattle.chase_update.specs.Rows.{begun_in}
use Rattle.chase_update.specs.Wishes.{End as EndTold, IsDone, IsSpent, IsRefused, Wish, WishesReply, WishesChoice, WishesNothing, WishesStep}
use Rattle.chase_update.specs.RowMeanings.{row_of, tuple_asked}
use Rattle.chase_update.specs.declared.ends.Outcome.{Outcome as OutcomeOfProgram}
use Rattle.chase_update.specs.declared.ends.Outcome.TheVariants.{Done as DoneOutcome, Spent as SpentOutcome, Refused as RefusedOutcome}
use Rattle.chase_update.specs.declared.ends.Want.{Want}
use Rattle.chase_update.specs.declared.ends.Want.TheVariants.{Read, Choice, Ended as EndedWant, NextStep}
use Rattle.chase_update.specs.declared.ends.End.{End}
use Rattle.chase_update.specs.declared.ends.End.TheVariants.{Done, Spent, Refused}
use Rattle.chase_update.specs.declared.readings.Reading.{Reading}
use Rattle.chase_update.specs.declared.rows.Row.TheVariants.{Writing}
use Rattle.chase_update.specs.declared.points.Point.{Point}
use Rattle.chase_update.specs.declared.points.Point.TheVariants.{Start, Look, Repair, Ended, Reading as ReadingPoint}

-- The outcome that an `End` stands for.
abbrev pub outcome_of : End → Outcome
outcome_of Done = DoneMeant
outcome_of Spent = SpentMeant
outcome_of (Refused n) = RefusedMeant (null_of n)

-- The end that an `Outcome` stands for.
abbrev pub end_of : OutcomeOfProgram → EndTold
end_of DoneOutcome = IsDone
end_of SpentOutcome = IsSpent
end_of (RefusedOutcome u k) = IsRefused u k

-- The wish that a `Want` stands for.
abbrev pub want_of : Want → Wish
want_of (Read q) = WishesReply (query_of q.now)
want_of (Choice q) = WishesChoice (inquiry_of q.now)
want_of (EndedWant o) = WishesNothing (end_of o)
want_of NextStep = WishesStep

-- The state of the step in hand that a `Reading` stands for.
abbrev pub reading_of : Reading → rows.Row
reading_of r = row_of r.row (query_of r.query)

-- The phase at a point between two steps; within a step, the phase in which it began.
abbrev pub phase_at : Point → Phase
phase_at Start = StartMeant
phase_at Look = LookMeant
phase_at (Repair r) = phase_of r
phase_at (Ended e) = EndedMeant (outcome_of e)
phase_at (ReadingPoint r) = begun_in (reading_of r)

-- The state of the step in hand, if there is one.
abbrev pub row_at : Point → Option rows.Row
row_at Start = None
row_at Look = None
row_at (Repair r) = if is_asking r then Some (rows.Mending r) else None
row_at (Ended e) = None
row_at (ReadingPoint r) = Some (reading_of r)

-- The phase and the step in hand that a `Point` stands for.
abbrev pub point_of : Point → Phase × Option rows.Row
point_of p = (phase_at p, row_at p)

-- The attempt asks whether the operation's tuple is there.
abbrev pub IsWriting : Point → Type 0
IsWriting Start = ⊥
IsWriting Look = ⊥
IsWriting (Repair r) = ⊥
IsWriting (Ended e) = ⊥
IsWriting (ReadingPoint r) = r.row ≡ Writing

-- The tuple of the query; an empty one if there is no query.
abbrev pub tuple_at : Point → Fact
tuple_at Start = record { relation = 0; values = [] }
tuple_at Look = record { relation = 0; values = [] }
tuple_at (Repair r) = record { relation = 0; values = [] }
tuple_at (Ended e) = record { relation = 0; values = [] }
tuple_at (ReadingPoint r) = tuple_asked (query_of r.query)

-- The tuple of the query, if it asks whether a tuple is there.
abbrev pub tuple_in : Query → Option Fact
tuple_in (Present t) = Some t
tuple_in (Violation n) = None
tuple_in (Specific t) = None
tuple_in (Occurs u k) = None

abbrev pub tuple_asked_at : Point → Option Fact
tuple_asked_at Start = None
tuple_asked_at Look = None
tuple_asked_at (Repair r) = None
tuple_asked_at (Ended e) = None
tuple_asked_at (ReadingPoint r) = tuple_in (query_of r.query)

-- The step of the operation has ended, given whether its tuple is there: its writes stand at the end of the own ones, and a look
-- comes next.
abbrev pub HasWritten : Operation → Fact → Bool → Listed Write → Listed Write → Type 0
HasWritten op t there own own' = Moved (changes_of own') LookMeant 0 ≡ settled (changes_of own) StartMeant (rows.written op t there)
