-- Which of an attempt's logged reads have another value now.
use Rattle.std.specs.List.{list_any}
use Rattle.std.specs.Option.{option_map}
use Rattle.std.specs.Prelude.{ℕ, suc, Bool, not, ◌&&◌, if◌then◌else◌, List, [], ◌∷◌, take, Option, Some, None}
use Rattle.def_chase.specs.Values.{Fact}
use Rattle.def_chase.specs.Repository.{Change}
use Rattle.def_chase.specs.Mappings.{Rule}
use Rattle.def_chase.specs.Violations.{Direction, Caused}
use Rattle.def_chase.specs.Queries.{Reply, same_reply, value}
use Rattle.chase_query.specs.Meanings.{Read}
use Rattle.core_conflict.specs.Concerns.{is_met, is_met_apart}
use Rattle.core_conflict.specs.declared.concerns.Sense.{Sense}

-- The value of the read over D, by an attempt in this direction with these own writes. Only those count that were made when it
-- asked.
abbrev pub value_now : List Rule → Direction → List Fact → List Change → Read → Reply
value_now ms h D own r = value ms r.query D (take r.own own) (Caused h)

-- The read's value over D differs from its logged answer.
abbrev pub is_changed : List Rule → Direction → List Fact → List Change → Read → Bool
is_changed ms h D own r = not (same_reply r.reply (value_now ms h D own r))

-- A read with its number in the log.
pub record Numbered : Type 0 where
  pub number : ℕ
  pub read : Read

-- The first read that passes the test, if the first of the list has number n.
abbrev pub first_from : (Read → Bool) → ℕ → List Read → Option Numbered
first_from p n [] = None
first_from p n (r ∷ rs) = if p r then Some (record { number = n; read = r }) else first_from p (suc n) rs

-- A read that has another value now: its number in the log, the read, and its value now.
pub record Changed : Type 0 where
  pub number : ℕ
  pub read : Read
  pub now : Reply

-- A write of the trails meets one of the reads.
abbrev pub meets_any : List Rule → Direction → List Change → Sense → List (List Change) → List Read → Bool
meets_any ms h own g trails rs = list_any (is_met ms h own g trails) rs

-- A write of the trails meets one of the reads that asked for no violation or found one.
abbrev pub meets_any_apart : List Rule → Direction → List Change → Sense → List (List Change) → List Read → Bool
meets_any_apart ms h own g trails rs = list_any (is_met_apart ms h own g trails) rs

-- A write of the trails meets the read, and its value over D differs from its logged answer.
abbrev pub is_met_and_changed : List Rule → Direction → List Fact → List Change → Sense → List (List Change) → Read → Bool
is_met_and_changed ms h D own g trails r = is_met ms h own g trails r && is_changed ms h D own r

-- The first of these reads that a write of these trails meets and whose value over D differs; the first of the list has number
-- n.
abbrev pub first_changed_from : List Rule → Direction → List Fact → List Change → Sense → List (List Change) → ℕ → List Read → Option Changed
first_changed_from ms h D own g trails n rs =
    option_map (λ r. record { number = r.number; read = r.read; now = value_now ms h D own r.read }) (first_from (is_met_and_changed ms h D own g trails) n rs)

-- The first read of the log that a write of these trails meets and whose value over D differs from its answer.
abbrev pub first_changed : List Rule → Direction → List Fact → List Change → Sense → List (List Change) → List Read → Option Changed
first_changed ms h D own g trails log = first_changed_from ms h D own g trails 1 log
