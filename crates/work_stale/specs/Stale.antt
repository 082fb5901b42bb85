-- Which entry of a history makes a step stale that was planned at an earlier state.
use Rattle.std.specs.Prelude.{ℕ, suc, nat_lt, Bool, false, ◌&&◌, ◌||◌, if◌then◌else◌, List, [], ◌∷◌, ◌++◌, take, drop, map, Option, Some, None}
use Rattle.std.specs.List.{list_any}
use Rattle.def_machine.specs.Cascade.{has_number}
use Rattle.def_chase.specs.Mappings.{Rule}
use Rattle.def_chase.specs.Mentions.{mentions}
use Rattle.def_chase.specs.Repository.{Change}
use Rattle.def_steps.specs.Chase.{relation_of}
use Rattle.base_types.specs.Listed.{Listed}
use Rattle.base_types.specs.Meanings.{rule_of}
use Rattle.base_types.specs.declared.mappings.Mapping.{Mapping}
use Rattle.chase_query.specs.Meanings.{Read, reads_in}
use Rattle.chase_query.specs.declared.log.Logged.{Logged}
use Rattle.def_history.specs.PlainEntries.{PlainEntry, WasAdmitted, WasStepped, WasDelivered, WasAnswered, WasWithdrawn}
use Rattle.work_stale.specs.Shown.{restarted_in, taken_in, trail_by}

-- One of the reads mentions the relation.
abbrev pub is_read : List Rule → List Read → ℕ → Bool
is_read ms reads r = list_any (λ (x : Read). mentions ms x.query r) reads

-- One of the reads mentions the relation, for mappings and reads as the program has them.
abbrev pub mentioned_by : Listed Mapping → List Logged → ℕ → Bool
mentioned_by mappings reads r = is_read (map rule_of mappings.items) (reads_in reads) r

-- One of the writes is in a relation that passes the test.
abbrev pub any_of : (ℕ → Bool) → List Change → Bool
any_of p ws = list_any (λ w. p (relation_of w)) ws

-- Update i is lower than update n, and shows a write in a relation that passes the test after these entries.
abbrev pub shows_below : (ℕ → Bool) → ℕ → List PlainEntry → ℕ → Bool
shows_below p n H i = nat_lt i n && any_of p (trail_by i H)

-- The entry shows a write, by an update lower than n, in a relation that passes the test.
abbrev pub adds_below : (ℕ → Bool) → ℕ → PlainEntry → Bool
adds_below p n (WasAdmitted i) = false
adds_below p n (WasStepped e) = nat_lt e.update n && any_of p e.writes
adds_below p n (WasDelivered e) = false
adds_below p n (WasAnswered e) = false
adds_below p n (WasWithdrawn e) = false

-- The entry, after the entries before it, takes away such a write of an update lower than n.
abbrev pub takes_below : (ℕ → Bool) → ℕ → List PlainEntry → PlainEntry → Bool
takes_below p n before e = list_any (shows_below p n before) (taken_in e)

-- The entry makes a step of update n stale: it restarts update n, or adds or takes away what the step has read.
abbrev pub is_stale_by : (ℕ → Bool) → ℕ → List PlainEntry → PlainEntry → Bool
is_stale_by p n before e = has_number (restarted_in e) n || adds_below p n e || takes_below p n before e

-- The number of the first of the entries that makes the step stale. They are numbered from k and come after `before`.
abbrev pub first_from : (ℕ → Bool) → ℕ → List PlainEntry → ℕ → List PlainEntry → Option ℕ
first_from p n before k [] = None
first_from p n before k (e ∷ es) = if is_stale_by p n before e then Some k else first_from p n (before ++ e ∷ []) (suc k) es

-- The number, from 1, of the first entry of the history after the first `since` by which a step of update n with these reads is
-- stale.
abbrev pub stale_by : List Rule → ℕ → List Read → List PlainEntry → ℕ → Option ℕ
stale_by ms n reads H since = first_from (is_read ms reads) n (take since H) (suc since) (drop since H)
