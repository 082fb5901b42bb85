-- What an attempt wants next.
use Rattle.std.specs.Prelude.{◌≡◌, ℕ, true, List, Option, Some, None}
use Rattle.def_chase.specs.Mappings.{Rule}
use Rattle.def_chase.specs.Queries.{Query, Reply}
use Rattle.def_chase.specs.Updates.{Choice}
use Rattle.chase_query.specs.Kinds.{IsOfKind}
use Rattle.chase_question.specs.Inquiries.{Inquiry, inquiry_in, fits_inquiry}
use Rattle.def_steps.specs.Attempts.{Outcome, Done, Spent, Refused, Phase, Start, Look, Generate, Asked, Ended}
use Rattle.chase_repair.specs.Repairs.{Repairing}
use Rattle.chase_repair.specs.Stands.{Wanted, WantsReply, WantsChoice, WantsStep, WantsNothing, wanted}
use Rattle.chase_update.specs.Rows.{asked}
use Rattle.chase_update.specs.Courses.{Reading, State}

-- How an attempt ended, as people see it: of a null that is nowhere only the update and the place.
pub data End : Type 0 where
  IsDone : End
  IsSpent : End
  IsRefused : ℕ → ℕ → End

-- The outcome as people see it.
abbrev pub end_in : Outcome → End
end_in Done = IsDone
end_in Spent = IsSpent
end_in (Refused n) = IsRefused n.update n.place

-- What an attempt wants: the answer to a query, the answer to a question, nothing, or a call that begins its next step.
pub data Wish : Type 0 where
  WishesReply : Query → Wish
  WishesChoice : Inquiry → Wish
  WishesNothing : End → Wish
  WishesStep : Wish

-- What an attempt between two steps wants.
abbrev pub wish_at : Phase → Wish
wish_at Start = WishesStep
wish_at Look = WishesStep
wish_at (Generate r) = WishesStep
wish_at (Asked q) = WishesChoice (inquiry_in q)
wish_at (Ended o) = WishesNothing (end_in o)

-- The answer to the query, if one is asked; otherwise what the phase wants.
abbrev pub wish_asked : Phase → Option Query → Wish
wish_asked p None = wish_at p
wish_asked p (Some q) = WishesReply q

-- What the attempt wants in this phase, with the step in hand, if there is one.
abbrev pub wish_by : Phase → Option Reading → Wish
wish_by p None = wish_at p
wish_by p (Some r) = wish_asked p (asked r.row)

-- What the attempt wants.
abbrev pub wish : State → Wish
wish s = wish_by s.attempt.phase s.reading

-- What a repair wants, as an attempt wants it.
abbrev pub wish_of : Wanted → Wish
wish_of (WantsReply q) = WishesReply q
wish_of (WantsChoice i) = WishesChoice i
wish_of WantsStep = WishesStep
wish_of WantsNothing = WishesStep

-- What the repair in this state wants, as an attempt wants it.
abbrev pub wish_of_repair : Repairing → Wish
wish_of_repair r = wish_of (wanted r)

-- The query whose answer the attempt wants, if it wants one.
abbrev pub query_wished : Wish → Option Query
query_wished (WishesReply q) = Some q
query_wished (WishesChoice i) = None
query_wished (WishesNothing e) = None
query_wished WishesStep = None

-- The attempt wants the answer to a query, and this answer is of the query's kind.
abbrev pub TakesAnswer : List Rule → Wish → Reply → Type 0
TakesAnswer ms (WishesReply q) a = IsOfKind ms q a
TakesAnswer ms (WishesChoice i) a = ⊥
TakesAnswer ms (WishesNothing e) a = ⊥
TakesAnswer ms WishesStep a = ⊥

-- The attempt wants the answer to a question, and this answer fits it.
abbrev pub Fits : Wish → Choice → Type 0
Fits (WishesReply q) c = ⊥
Fits (WishesChoice i) c = fits_inquiry i c ≡ true
Fits (WishesNothing e) c = ⊥
Fits WishesStep c = ⊥
