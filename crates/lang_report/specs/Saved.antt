-- The saved session: a session that begins with the result of a run.
use Rattle.std.specs.Prelude.{◌≡◌, ℕ, ◌+◌, ◌-◌, ◌==◌, Bool, true, false, ◌||◌, nat_lt, List, [], ◌∷◌, Option, Some, None, Result, Ok, Err, length, map, flat_map, filter, fold, count_by, slice_get}
use Rattle.std.specs.declared.cmp.Ordering.TheVariants.{Less}
use Rattle.std.specs.Ordering.{is_lt}
use Rattle.std.specs.BTreeSet.{insert_key}
use Rattle.def_chase.specs.Values.{NullName, Datum, Number, Text, Unknown, Fact, null_cmp}
use Rattle.chase_update.specs.Wishes.{End, IsDone, IsSpent, IsRefused}
use Rattle.chase_update.specs.Results.{FinishTold, ResultTold}
use Rattle.def_language.specs.Faults.{Wrong}
use Rattle.def_language.specs.Printing.{printed}
use Rattle.def_language.specs.Sessions.{SessionMapping, SessionData}
use Rattle.lang_report.specs.Results.{serial_told}

-- the value if it is a null, as a list
abbrev pub null_in : Datum → List NullName
null_in (Number z) = []
null_in (Text t) = []
null_in (Unknown n) = n ∷ []

-- the nulls of a tuple, each as often as it stands there
abbrev pub nulls_in : Fact → List NullName
nulls_in t = flat_map null_in t.values

-- the different nulls of tuples, in order
abbrev pub different_nulls : List Fact → List NullName
different_nulls facts = fold (insert_key null_cmp) [] (flat_map nulls_in facts)

-- A null among these by its rank: the first in order becomes `?0.1`, the next one `?0.2`, and so on.
abbrev pub base_null : List NullName → NullName → NullName
base_null nulls n = record { update = 0; attempt = 0; place = count_by (λ m. is_lt (null_cmp m n)) nulls + 1 }

abbrev pub base_value : List NullName → Datum → Datum
base_value nulls (Number z) = Number z
base_value nulls (Text t) = Text t
base_value nulls (Unknown n) = Unknown (base_null nulls n)

abbrev pub base_fact : List NullName → Fact → Fact
base_fact nulls t = record { relation = t.relation; values = map (base_value nulls) t.values }

-- the names of a base keep the order of these tuples' nulls
abbrev pub NamesKeepOrder : List Fact → Type 0
NamesKeepOrder facts =
    (i : ℕ) (m n : NullName) → slice_get (different_nulls facts) i ≡ Some m → null_cmp m n ≡ Less
    → null_cmp (base_null (different_nulls facts) m) (base_null (different_nulls facts) n) ≡ Less

-- the tuples of a repository as tuples of a base
abbrev pub saved_base : List Fact → List Fact
saved_base facts = map (base_fact (different_nulls facts)) facts

abbrev pub is_done : End → Bool
is_done IsDone = true
is_done IsSpent = false
is_done (IsRefused u k) = false

-- the update has ended, and is done
abbrev pub is_done_in : Option FinishTold → Bool
is_done_in None = false
is_done_in (Some f) = is_done f.outcome

-- in force in the end: from the start, or by an update that is done
abbrev pub stays_in_force : List FinishTold → SessionMapping → Bool
stays_in_force finishes m = m.rule.since == 0 || is_done_in (slice_get finishes (m.rule.since - 1))

-- the mapping, in force from the start
abbrev pub from_start : SessionMapping → SessionMapping
from_start m = record m { rule = record m.rule { since = 0 } }

-- the mappings that are in force in the end, made to be in force from the start
abbrev pub saved_mappings : List FinishTold → List SessionMapping → List SessionMapping
saved_mappings finishes mappings = map from_start (filter (stays_in_force finishes) mappings)

-- The session of format 2 that begins with the result of a run: the relations, the mappings in force, the repository as the base,
-- and no updates.
abbrev pub saved : SessionData → ResultTold → SessionData
saved s r = record { format = 2; relations = s.relations; mappings = saved_mappings r.finishes s.mappings; base = saved_base r.repository; updates = [] }

-- more tuples than a base has, or more bytes than an input
abbrev pub is_too_large : SessionData → Bool
is_too_large s = nat_lt 100000 (length s.base) || nat_lt 16777216 (length (printed s))

-- the saved session of the serial machine on the session that was read, as text; empty if none was
abbrev pub saved_text : ℕ → Result SessionData Wrong → List ℕ
saved_text budget (Ok s) = printed (saved s (serial_told budget s))
saved_text budget (Err wrong) = []
