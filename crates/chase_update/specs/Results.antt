-- The result of a run as people see it, in the terms of the serial machine.
use Rattle.std.specs.Prelude.{ℕ, List, map, Option}
use Rattle.std.specs.Option.{option_map}
use Rattle.def_machine.specs.Standings.{Lack, Missing, Misfit}
use Rattle.def_chase.specs.Values.{Fact}
use Rattle.base_types.specs.Meanings.{fact_of}
use Rattle.chase_question.specs.Inquiries.{Inquiry, inquiry_in, inquiry_of}
use Rattle.def_steps.specs.Serial.{Finished, Stopped, SerialResult}
use Rattle.chase_update.specs.Wishes.{End, end_in}
use Rattle.chase_update.specs.PointMeanings.{end_of}
use Rattle.chase_update.specs.declared.results.Finish.{Finish}
use Rattle.chase_update.specs.declared.results.Lack.{Lack as LackOfProgram}
use Rattle.chase_update.specs.declared.results.Lack.TheVariants.{Missing as MissingLack, Misfit as MisfitLack}
use Rattle.chase_update.specs.declared.results.Stop.{Stop}
use Rattle.chase_update.specs.declared.results.SessionResult.{SessionResult}

-- How an update ended, as people see it. Its number is its place in the list, from 1.
pub record FinishTold : Type 0 where
  pub outcome : End
  pub steps : ℕ
  pub nulls : ℕ

-- A stop as people see it, with its question as people see it.
pub record StopTold : Type 0 where
  pub number : ℕ
  pub question : Inquiry
  pub lack : Lack

-- The result of a run as people see it.
pub record ResultTold : Type 0 where
  pub finishes : List FinishTold
  pub stop : Option StopTold
  pub repository : List Fact

-- The part of a finish that people see.
abbrev pub finish_in : Finished → FinishTold
finish_in f = record { outcome = end_in f.outcome; steps = f.steps; nulls = f.nulls }

-- The part of a stop that people see.
abbrev pub stop_in : Stopped → StopTold
stop_in s = record { number = s.number; question = inquiry_in s.question; lack = s.lack }

-- The part of a result that people see.
abbrev pub result_in : SerialResult → ResultTold
result_in r = record { finishes = map finish_in r.finishes; stop = option_map stop_in r.stop; repository = r.repository }

-- The finish that a `Finish` stands for.
abbrev pub finish_of : Finish → FinishTold
finish_of f = record { outcome = end_of f.outcome; steps = f.steps; nulls = f.nulls }

-- The lack that a `Lack` stands for.
abbrev pub lack_of : LackOfProgram → Lack
lack_of MissingLack = Missing
lack_of MisfitLack = Misfit

-- The stop that a `Stop` stands for.
abbrev pub stop_of : Stop → StopTold
stop_of s = record { number = s.update; question = inquiry_of s.question; lack = lack_of s.lack }

-- The result that a `SessionResult` stands for.
abbrev pub result_of : SessionResult → ResultTold
result_of r = record { finishes = map finish_of r.finishes.items; stop = option_map stop_of r.stop; repository = map fact_of r.repository.items }
