-- The result of a run: of an update that has ended, and of the updates that are still to come.
use Rattle.std.specs.Prelude.{◌≡◌, ℕ, List, [], ◌∷◌, ◌++◌, map, Option, Some, None}
use Rattle.def_machine.specs.Serial.{serial}
use Rattle.def_chase.specs.Values.{Fact}
use Rattle.def_chase.specs.Mappings.{Rule}
use Rattle.def_steps.specs.Attempts.{Attempt}
use Rattle.def_steps.specs.Chase.{caused, caused_chase}
use Rattle.def_steps.specs.Serial.{Request, finished, told, turns_in, answered}
use Rattle.chase_update.specs.Results.{FinishTold, StopTold, ResultTold, finish_in, result_in}

-- The finish of the attempt of update n was added to these finishes.
pub record HasFinished (n : ℕ) (P : Attempt) (fs gs : List FinishTold) : Type 0 where
  pub finish : FinishTold
  pub told : map finish_in (finished n P) ≡ finish ∷ []
  pub added : gs ≡ fs ++ finish ∷ []

-- The result of these updates, taken whole in turn over D. The first of them has the number n.
unfoldable pub told_from : List Rule → ℕ → List Fact → ℕ → List Request → ResultTold
told_from ms B D n rs = result_in (told caused ms B (serial (caused_chase ms B) D (turns_in caused ms B n rs)))

-- The result with these finishes before its own.
abbrev pub after : List FinishTold → ResultTold → ResultTold
after fs r = record { finishes = fs ++ r.finishes; stop = r.stop; repository = r.repository }

-- The result of a run that is over, at a stop or at its end, with D as its repository.
abbrev pub told_at : List FinishTold → Option StopTold → List Fact → ResultTold
told_at fs s D = record { finishes = fs; stop = s; repository = answered D }

-- The result after a turn: the stop there, if there is one, or the result of the updates that come next.
abbrev pub told_after : List Rule → ℕ → List Fact → ℕ → List Request → Option StopTold → ResultTold
told_after ms B D n rs None = told_from ms B D n rs
told_after ms B D n rs (Some s) = told_at [] (Some s) D
