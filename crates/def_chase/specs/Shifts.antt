-- Other attempt numbers: a shift takes attempt a of update u to attempt a + n u. It keeps the order of nulls.
use Rattle.std.specs.Prelude.{ℕ, ◌+◌, map}
use Rattle.def_chase.specs.Values.{Datum, Number, Text, Unknown, Fact, under}
use Rattle.def_chase.specs.Repository.{Change, Insert, Delete}
use Rattle.def_chase.specs.Queries.{Query, Present, Violation, Specific, Occurs, Reply, Yes, No, Image, Nothing, Tuples}

-- The value with the attempt of a null shifted.
abbrev pub shift : (ℕ → ℕ) → Datum → Datum
shift n (Number i) = Number i
shift n (Text w) = Text w
shift n (Unknown m) = Unknown record { update = m.update; attempt = m.attempt + n m.update; place = m.place }

-- The tuple with the attempts of its nulls shifted.
abbrev pub shift_fact : (ℕ → ℕ) → Fact → Fact
shift_fact n = under (shift n)

-- The write of the shifted tuple.
abbrev pub shift_change : (ℕ → ℕ) → Change → Change
shift_change n (Insert t) = Insert (shift_fact n t)
shift_change n (Delete t) = Delete (shift_fact n t)

-- The query about the shifted tuple.
abbrev pub shift_query : (ℕ → ℕ) → Query → Query
shift_query n (Present t) = Present (shift_fact n t)
shift_query n (Violation m) = Violation m
shift_query n (Specific t) = Specific (shift_fact n t)
shift_query n (Occurs u k) = Occurs u k

-- The reply with all its tuples shifted.
abbrev pub shift_reply : (ℕ → ℕ) → Reply → Reply
shift_reply n Yes = Yes
shift_reply n No = No
shift_reply n (Image ts) = Image (map (shift_fact n) ts)
shift_reply n Nothing = Nothing
shift_reply n (Tuples ts) = Tuples (map (shift_fact n) ts)
