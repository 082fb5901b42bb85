-- The queries that a chase step asks, and their values over a repository with an update's own writes.
use Rattle.std.specs.Prelude.{ℕ, ◌==◌, Bool, true, false, ◌&&◌, if◌then◌else◌, List, filter, Option, Some, None}
use Rattle.std.specs.List.{list_any, slice_get}
use Rattle.std.specs.Cmp.Lexicographic.{pointwise}
use Rattle.def_chase.specs.Values.{Datum, Number, Text, Unknown, Fact, same_fact}
use Rattle.def_chase.specs.Repository.{Change, has, apply, inserts}
use Rattle.def_chase.specs.Mappings.{Rule, force}
use Rattle.def_chase.specs.Specific.{more_specific}
use Rattle.def_chase.specs.Violations.{Forward, Backward, Scope, Every, Caused, first_violation}

-- A query: is the tuple there; what is the first violation of the mapping of this number; which tuples are more specific than the
-- tuple; which tuples hold a null with the outer name `?u.k`.
pub data Query : Type 0 where
  Present : Fact → Query
  Violation : ℕ → Query
  Specific : Fact → Query
  Occurs : ℕ → ℕ → Query

-- The reply to a query: yes or no; the image of the first violation, or that there is none; the tuples of the query, in order.
pub data Reply : Type 0 where
  Yes : Reply
  No : Reply
  Image : List Fact → Reply
  Nothing : Reply
  Tuples : List Fact → Reply

-- The two replies are the same.
abbrev pub same_reply : Reply → Reply → Bool
same_reply Yes Yes = true
same_reply No No = true
same_reply (Image xs) (Image ys) = pointwise same_fact xs ys
same_reply Nothing Nothing = true
same_reply (Tuples xs) (Tuples ys) = pointwise same_fact xs ys
same_reply _ _ = false

-- The value is a null whose outer name is `?u.k`.
abbrev pub is_named : ℕ → ℕ → Datum → Bool
is_named u k (Number i) = false
is_named u k (Text w) = false
is_named u k (Unknown n) = (n.update == u) && (n.place == k)

-- The tuple holds a null whose outer name is `?u.k`.
abbrev pub holds_null : ℕ → ℕ → Fact → Bool
holds_null u k t = list_any (is_named u k) t.values

-- The reply for a first violation, or that there is none.
abbrev pub image_reply : Option (List Fact) → Reply
image_reply None = Nothing
image_reply (Some image) = Image image

-- The reply to `Violation` of a mapping; without a mapping there is no violation.
abbrev pub violation_reply : Option Rule → Scope → List Change → List Fact → Reply
violation_reply None scope own E = Nothing
violation_reply (Some m) scope own E = image_reply (first_violation scope own m E)

-- The scope for mapping n. Forward, if the own writes put the mapping in force, they caused each of its violations, so every
-- violation counts.
abbrev pub scope_at : Scope → List Change → ℕ → Scope
scope_at Every own n = Every
scope_at (Caused Forward) own n = if list_any (inserts (force n)) own then Every else Caused Forward
scope_at (Caused Backward) own n = Caused Backward

-- The value of a query over D with the own writes applied. Only the violations within the scope count.
abbrev pub value : List Rule → Query → List Fact → List Change → Scope → Reply
value ms (Present t) D own scope = if has (apply D own) t then Yes else No
value ms (Violation n) D own scope = violation_reply (slice_get ms n) (scope_at scope own n) own (apply D own)
value ms (Specific t) D own scope = Tuples (filter (λ s. more_specific s t) (apply D own))
value ms (Occurs u k) D own scope = Tuples (filter (holds_null u k) (apply D own))
