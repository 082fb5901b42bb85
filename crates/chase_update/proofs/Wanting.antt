-- What a program that wants an answer is at.
use Rattle.std.proofs.Common.{◌≡◌, refl, true, is_some, Option, Some, None}
use Rattle.def_chase.specs.Queries.{Query}
use Rattle.def_chase.specs.Updates.{Choice}
use Rattle.def_steps.specs.Attempts.{Phase, Start, Look, Generate, Asked, Ended, question_in}
use Rattle.chase_update.specs.Rows.{asked}
use Rattle.chase_update.specs.Courses.{Reading, State}
use Rattle.chase_update.specs.Wishes.{Fits, wish_at, wish_asked, wish_by, wish}

question_at : (p : Phase) (c : Choice) → Fits (wish_at p) c → true ≡ is_some (question_in p)
question_at Start c h = absurd h
question_at Look c h = absurd h
question_at (Generate r) c h = absurd h
question_at (Asked q) c h = refl
question_at (Ended o) c h = absurd h

choosing : (p : Phase) (o : Option Query) (c : Choice) → Fits (wish_asked p o) c → true ≡ is_some (question_in p)
choosing p None c h = question_at p c h
choosing p (Some q) c h = absurd h

fitting : (p : Phase) (r : Option Reading) (c : Choice) → Fits (wish_by p r) c → true ≡ is_some (question_in p)
fitting p None c h = question_at p c h
fitting p (Some r) c h = choosing p (asked r.row) c h

-- A program that takes an answer is at a question.
pub choice_answers : (s : State) (c : Choice) → Fits (wish s) c → true ≡ is_some (question_in s.attempt.phase)
choice_answers s c h = fitting s.attempt.phase s.reading c h
