-- The meanings of the types of this crate, in the terms of the steps of the chase.
use Rattle.std.specs.Prelude.{◌≡◌, Bool, true, false}
use Rattle.chase_query.specs.Meanings.{query_of}
use Rattle.chase_question.specs.Inquiries.{inquiry_of}
use Rattle.def_steps.specs.Attempts.{Attempt}
use Rattle.chase_repair.specs.Stands.{Wanted, WantsReply, WantsChoice, WantsStep, WantsNothing}
use Rattle.chase_repair.specs.declared.wants.RepairWant.{RepairWant}
use Rattle.chase_repair.specs.declared.wants.RepairWant.TheVariants.{Query, Question, NextStep, Finished}
use Rattle.chase_repair.specs.declared.wants.Progress.{Progress}
use Rattle.chase_repair.specs.declared.wants.Progress.TheVariants.{Asks, Ends}
use Rattle.chase_repair.specs.declared.fresh.Fresh.{Fresh}

-- The want that a `RepairWant` stands for.
abbrev pub want_of : RepairWant → Wanted
want_of (Query q) = WantsReply (query_of q.now)
want_of (Question q) = WantsChoice (inquiry_of q.now)
want_of NextStep = WantsStep
want_of Finished = WantsNothing

-- The step asks a query.
abbrev pub asks_on : Progress → Bool
asks_on Asks = true
asks_on Ends = false

-- The next null that the attempt draws is the first of the fresh ones.
pub record DrawsFrom (P : Attempt) (f : Fresh) : Type 0 where
  pub update : P.number ≡ f.update
  pub attempt : P.attempt ≡ f.attempt
  pub drawn : P.nulls ≡ f.drawn
