-- The mappings that are settled by the log of an attempt.
use Rattle.std.specs.Prelude.{◌≡◌, ℕ, Bool, true, if◌then◌else◌, List, [], ◌∷◌, take}
use Rattle.std.specs.List.{list_all}
use Rattle.def_chase.specs.Values.{Fact}
use Rattle.def_chase.specs.Mappings.{Rule}
use Rattle.def_chase.specs.Queries.{Nothing, same_reply, value}
use Rattle.def_chase.specs.Updates.{direction_of}
use Rattle.def_chase.specs.Violations.{Caused}
use Rattle.chase_eval.specs.Watched.{AreSettled, with_settled}
use Rattle.chase_query.specs.Meanings.{Read}
use Rattle.def_steps.specs.Attempts.{Attempt}

-- The read by the attempt is valid over D.
abbrev pub is_valid_over : List Rule → List Fact → Attempt → Read → Bool
is_valid_over ms D P r = same_reply r.reply (value ms r.query D (take r.own P.own) (Caused (direction_of P.operation)))

-- Each of the reads is valid over D.
abbrev pub AreValidOver : List Rule → List Fact → Attempt → List Read → Type 0
AreValidOver ms D P rs = list_all (is_valid_over ms D P) rs ≡ true

-- Over D the first n writes of the attempt have caused no violation of the mappings with a mark.
abbrev pub HasSettledBy : ℕ → List Rule → List Fact → Attempt → List Bool → Type 0
HasSettledBy n ms D P marks = AreSettled (record { rules = ms; heading = direction_of P.operation; below = D; own = take n P.own }) marks

-- The marks, with the mapping marked that has no violation by the read, if there is one.
abbrev pub noted : List Bool → Read → List Bool
noted marks r = if same_reply r.reply Nothing then with_settled marks r.query else marks

-- The marks, with the mappings marked that have no violation by one of the reads.
abbrev pub all_noted : List Bool → List Read → List Bool
all_noted marks [] = marks
all_noted marks (r ∷ rs) = all_noted (noted marks r) rs
