-- Abbreviations for small sessions and their results.
use Rattle.std.specs.Prelude.{ℕ, List, [], ◌∷◌, Some, None, pos}
use Rattle.def_machine.specs.Standings.{Lack}
use Rattle.def_chase.specs.Values.{NullName, Datum, Number, Unknown, Fact}
use Rattle.def_chase.specs.Mappings.{Slot, Pattern, Rule}
use Rattle.def_chase.specs.Updates.{Operation, Choice}
use Rattle.def_steps.specs.Attempts.{Outcome, Question, Repair}
use Rattle.def_steps.specs.Serial.{Request, Finished, SerialResult, serial_result}

-- A number that is not negative.
abbrev pub num : ℕ → Datum
num n = Number (pos n)

-- The null ?u.k of attempt 0.
abbrev pub named_null : ℕ → ℕ → NullName
named_null u k = record { update = u; attempt = 0; place = k }

abbrev pub null : ℕ → ℕ → Datum
null u k = Unknown (named_null u k)

abbrev pub fact : ℕ → List Datum → Fact
fact r ds = record { relation = r; values = ds }

abbrev pub atom : ℕ → List Slot → Pattern
atom r ts = record { relation = r; terms = ts }

-- A mapping that is in force from the start, with n variables on the left and e that stand only on the right.
abbrev pub rule : ℕ → ℕ → List Pattern → List Pattern → Rule
rule n e left right = record { since = 0; universal = n; existential = e; left = left; right = right }

-- A mapping that update u puts in force.
abbrev pub added_rule : ℕ → ℕ → ℕ → List Pattern → List Pattern → Rule
added_rule u n e left right = record { since = u; universal = n; existential = e; left = left; right = right }

abbrev pub request : Operation → List Choice → Request
request op answers = record { operation = op; answers = answers }

abbrev pub repair : ℕ → List Datum → ℕ → Repair
repair n ds i = record { mapping = n; binding = ds; atom = i }

-- Update n ended with this outcome, and these numbers of steps made and nulls drawn.
abbrev pub ends : ℕ → Outcome → ℕ → ℕ → Finished
ends n o steps nulls = record { number = n; outcome = o; steps = steps; nulls = nulls }

-- All updates end, and this repository is left.
abbrev pub all_end : List Finished → List Fact → SerialResult
all_end fs D = record { finishes = fs; stop = None; repository = D }

-- The updates end up to update n, which stops at the question for this lack.
abbrev pub stop_at : List Finished → ℕ → Question → Lack → List Fact → SerialResult
stop_at fs n q l D = record { finishes = fs; stop = Some (record { number = n; question = q; lack = l }); repository = D }

-- A session of one update with a budget of 100 steps.
abbrev pub one_update : List Rule → List Fact → Operation → List Choice → SerialResult
one_update ms D op answers = serial_result ms 100 D (request op answers ∷ [])
