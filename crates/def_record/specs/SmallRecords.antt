-- A record of a desk of two seats over a small session, item by item.
use Rattle.std.specs.Prelude.{◌≡◌, ℕ, true, false, List, [], ◌∷◌, ◌++◌, Option, Some, None, option_map}
use Rattle.def_machine.specs.Machine.{Done}
use Rattle.def_machine.specs.Updates.{Settings, Precise}
use Rattle.def_machine.specs.Standings.{Paused, Ended, Missing}
use Rattle.def_machine.specs.Cascade.{Conflict}
use Rattle.def_machine.specs.Effects.{Entry, Admitted}
use Rattle.def_machine.specs.Small.{small}
use Rattle.def_machine.specs.SmallHistories.{two_updates, a_step}
use Rattle.def_record.specs.declared.made.Made.{Made}
use Rattle.def_record.specs.declared.item.Item.TheVariants.{Entered, Gave, Returned}
use Rattle.def_record.specs.Items.{ItemOf, Record, made}
use Rattle.def_record.specs.declared.item.Mark.{Mark}
use Rattle.def_record.specs.declared.item.Mark.TheVariants.{Opening, Next, Giving, Returning}
use Rattle.def_record.specs.Marks.{record_of}
use Rattle.def_record.specs.Records.{now_of}
use Rattle.def_record.specs.Openings.{opening}
use Rattle.def_record.specs.Answers.{Answer, Gives, Moves, Waits, next_answer}

abbrev pub three_retries : Settings
three_retries = record { retries = 3; deps = Precise }

-- The core has admitted both updates.
abbrev pub admissions : List (Entry (small 2))
admissions = Admitted 1 ∷ Admitted 2 ∷ []

abbrev pub by_seat : ℕ → ItemOf (small 2) → Made (ItemOf (small 2))
by_seat j x = made x (Some j)

-- Seat 0 has a ticket for update 1 and seat 1 one for update 2. Seat 1 finishes first, then seat 0, whose write changes a value
-- that update 2 had read.
abbrev pub meeting_items : Record (small 2)
meeting_items =
    by_seat 0 (Gave 1 1) ∷ by_seat 1 (Gave 2 2)
    ∷ by_seat 1 (Entered (a_step 2 2 0 (Ended Done) (2 ∷ []) [] 0)) ∷ by_seat 1 (Returned 2)
    ∷ by_seat 0 (Entered (a_step 2 1 0 (Paused Missing) (1 ∷ []) (Conflict 2 1 1 false true ∷ []) 0)) ∷ by_seat 0 (Returned 1)
    ∷ []

-- The marks that stand for this record.
abbrev pub meeting_marks : List (Made Mark)
meeting_marks =
    made (Opening 2) None ∷ made (Giving 1 1) (Some 0) ∷ made (Giving 2 2) (Some 1) ∷ made Next (Some 1) ∷ made (Returning 2) (Some 1)
    ∷ made Next (Some 0) ∷ made (Returning 1) (Some 0) ∷ []

abbrev pub meeting_entries : List (Entry (small 2))
meeting_entries =
    Admitted 1 ∷ Admitted 2 ∷ a_step 2 2 0 (Ended Done) (2 ∷ []) [] 0
    ∷ a_step 2 1 0 (Paused Missing) (1 ∷ []) (Conflict 2 1 1 false true ∷ []) 0 ∷ []

-- The answer of a desk after a record, if the record begins with an opening.
abbrev pub answer_after : Record (small 2) → Option Answer
answer_after r = option_map next_answer (now_of r)

abbrev pub meeting : Record (small 2)
meeting = opening three_retries two_updates admissions ++ meeting_items

pub record RecordRows : Type 0 where
  pub marks : record_of (three_retries, two_updates) meeting_marks meeting_entries ≡ meeting
  pub first : answer_after (opening three_retries two_updates admissions) ≡ Some (Gives 1)
  pub second : answer_after (opening three_retries two_updates admissions ++ by_seat 0 (Gave 1 1) ∷ []) ≡ Some (Gives 2)
  pub third : answer_after (opening three_retries two_updates admissions ++ by_seat 0 (Gave 1 1) ∷ by_seat 1 (Gave 2 2) ∷ []) ≡ Some (Waits 1)
  -- update 2 was restarted
  pub last : answer_after meeting ≡ Some (Gives 2)
  pub then_moves : answer_after (meeting ++ by_seat 1 (Gave 3 2) ∷ []) ≡ Some (Moves 1)
