-- Which writes may change the value of a read, and which repositories have the same tuples except the tuples of certain writes.
use Rattle.std.specs.Prelude.{◌≡◌, ℕ, ◌==◌, Bool, true, false, not, ◌&&◌, ◌||◌, if◌then◌else◌, List, take, length, Option, Some, None}
use Rattle.std.specs.List.{list_any, list_all, zip, slice_get}
use Rattle.def_chase.specs.Values.{Datum, Fact, same_datum, same_fact}
use Rattle.def_chase.specs.Repository.{Change, Insert, Delete, IsRepository, has}
use Rattle.def_chase.specs.Mappings.{Slot, Var, Const, Pattern, Rule, force_relation}
use Rattle.def_chase.specs.Mentions.{rule_mentions}
use Rattle.def_chase.specs.Queries.{Query, Present, Violation, Specific, Occurs, Reply, Yes, No, Image, Nothing, Tuples, holds_null, value}
use Rattle.def_chase.specs.Specific.{more_specific}
use Rattle.def_chase.specs.Violations.{Direction, Forward, Backward, Caused}
use Rattle.chase_query.specs.Meanings.{Read}
use Rattle.core_conflict.specs.declared.concerns.Sense.{Sense}
use Rattle.core_conflict.specs.declared.concerns.Sense.TheVariants.{Came, Went}

-- The tuple that is written.
abbrev pub tuple_of : Change → Fact
tuple_of (Insert t) = t
tuple_of (Delete t) = t

-- ---- violations that own writes caused

-- The terms of the atom, each with what the tuple has in its column.
abbrev pub columns : Pattern → Fact → List (Slot × Datum)
columns a t = zip a.terms t.values

-- One binding may give the two terms these values: if they are the same variable, the values are the same.
abbrev pub may_be : Slot → Datum → Slot → Datum → Bool
may_be (Var v) d (Var w) e = not (v == w) || same_datum d e
may_be (Var v) d (Const c) e = true
may_be (Const c) d q e = true

-- One binding may give the terms of the two columns their values.
abbrev pub agree : Slot × Datum → Slot × Datum → Bool
agree p q = may_be p.0 p.1 q.0 q.1

-- The tuple has as many columns as the atom.
abbrev pub has_columns : Pattern → Fact → Bool
has_columns a t = length a.terms == length t.values

-- One binding may make the first atom the first tuple and the second the second.
abbrev pub stand_together : Pattern → Fact → Pattern → Fact → Bool
stand_together a s c t =
    (c.relation == t.relation) && ((a.relation == s.relation) && (has_columns a s && list_all (λ p. list_all (agree p) (columns c t)) (columns a s)))

-- The atoms at one of which stands the own write that caused a violation: forward the atoms on the left, backward those on the
-- right.
abbrev pub seats : Direction → Rule → List Pattern
seats Forward m = m.left
seats Backward m = m.right

-- The direction is forward.
abbrev pub is_forward : Direction → Bool
is_forward Forward = true
is_forward Backward = false

-- A write of this kind may cause violations in this direction: forward an insertion, backward a deletion.
abbrev pub may_cause : Direction → Change → Bool
may_cause h (Insert s) = is_forward h
may_cause h (Delete s) = not (is_forward h)

-- With the first tuple at one of the seats, the second may stand at one of these atoms.
abbrev pub may_join : List Pattern → List Pattern → Fact → Fact → Bool
may_join as' cs s t = list_any (λ a. list_any (λ c. stand_together a s c t) cs) as'

-- The write may cause a violation of the mapping in which this tuple stands at one of these atoms.
abbrev pub joins : Direction → List Pattern → Rule → Fact → Change → Bool
joins h cs m t w = may_cause h w && may_join (seats h m) cs (tuple_of w) t

-- One of the own writes may cause a violation of the mapping in which this tuple stands at one of these atoms.
abbrev pub joins_own : Direction → List Pattern → Rule → List Change → Fact → Bool
joins_own h cs m own t = list_any (joins h cs m t) own

-- A violation that own writes caused may be met with the tuple on the right of the mapping. Backward any tuple of a relation on
-- the right may do so, since an existential variable may stand for another value than in the tuple that was deleted.
abbrev pub meets_right : Direction → Rule → List Change → Fact → Bool
meets_right Forward m own t = joins_own Forward m.right m own t
meets_right Backward m own t = list_any (λ c. c.relation == t.relation) m.right

-- On the left, such a violation may have the tuple; on the right, the tuple may meet it.
abbrev pub at_side : Bool → Direction → Rule → List Change → Fact → Bool
at_side true h m own t = joins_own h m.left m own t
at_side false h m own t = meets_right h m own t

-- Such a violation may have the tuple on the left, or be met with it on the right.
abbrev pub joins_either : Direction → Rule → List Change → Fact → Bool
joins_either h m own t = at_side true h m own t || at_side false h m own t

-- The write may put a mapping in force.
abbrev pub may_enact : Change → Bool
may_enact w = (tuple_of w).relation == force_relation

-- Tuples that join with no own write may decide violations as well: forward, if own writes put mappings in force.
abbrev pub counts_all : Direction → List Change → Bool
counts_all Forward own = list_any may_enact own
counts_all Backward own = false

-- The tuple may decide which violation of the mapping is the first that own writes caused: it joins with one of them, or it is
-- of a relation of the mapping and they put mappings in force.
abbrev pub concerns_rule : Direction → List Change → Option Rule → Fact → Bool
concerns_rule h own None t = false
concerns_rule h own (Some m) t = (counts_all h own && rule_mentions (Some m) t.relation) || joins_either h m own t

-- ---- violations that were not there before

-- The writes came.
abbrev pub has_come : Sense → Bool
has_come Came = true
has_come Went = false

-- The tuple of the write is there now and was not before: an insertion that came, or a deletion that went. The tuple of any
-- other write was there before and is not now.
abbrev pub adds : Sense → Change → Bool
adds g (Insert t) = has_come g
adds g (Delete t) = not (has_come g)

-- The write may make a violation that own writes cause and that was not there before: a tuple that is there now stands on the
-- left of it, or one that was there before met it on the right.
abbrev pub breaks : Direction → Rule → Sense → List Change → Change → Bool
breaks h m g own w = at_side (adds g w) h m own (tuple_of w)

-- The write may make a violation of the mapping that own writes caused and that was not there before: it breaks the mapping, or
-- they put mappings in force and its tuple is of a relation of the mapping.
abbrev pub may_make : Direction → List Change → Sense → Option Rule → Change → Bool
may_make h own g None w = false
may_make h own g (Some m) w = (counts_all h own && rule_mentions (Some m) (tuple_of w).relation) || breaks h m g own w

-- The write breaks one of the mappings.
abbrev pub breaks_some : List Rule → Direction → Sense → List Change → Change → Bool
breaks_some ms h g own w = list_any (λ m. breaks h m g own w) ms

-- ---- queries

-- The tuple concerns the query of an attempt in this direction with these own writes: it is the tuple asked for, it may decide
-- the violation asked for, it is more specific than the tuple asked for, or it holds the null asked for.
abbrev pub concerns : List Rule → Direction → List Change → Query → Fact → Bool
concerns ms h own (Present t) s = same_fact t s
concerns ms h own (Violation n) s = concerns_rule h own (slice_get ms n) s
concerns ms h own (Specific t) s = more_specific s t
concerns ms h own (Occurs u k) s = holds_null u k s

-- The write may make a violation that the query asks for; for any other query, its tuple concerns the query.
abbrev pub may_violate : List Rule → Direction → List Change → Sense → Query → Change → Bool
may_violate ms h own g (Present t) w = concerns ms h own (Present t) (tuple_of w)
may_violate ms h own g (Violation n) w = may_make h own g (slice_get ms n) w
may_violate ms h own g (Specific t) w = concerns ms h own (Specific t) (tuple_of w)
may_violate ms h own g (Occurs u k) w = concerns ms h own (Occurs u k) (tuple_of w)

-- ---- reads

-- The query asks for a violation.
abbrev pub asks_violation : Query → Bool
asks_violation (Present t) = false
asks_violation (Violation n) = true
asks_violation (Specific t) = false
asks_violation (Occurs u k) = false

-- The reply is that there is no violation.
abbrev pub is_nothing : Reply → Bool
is_nothing Yes = false
is_nothing No = false
is_nothing (Image ts) = false
is_nothing Nothing = true
is_nothing (Tuples ts) = false

-- The read asked for a violation, and found none.
abbrev pub found_none : Read → Bool
found_none r = asks_violation r.query && is_nothing r.reply

-- The write meets the read: if the read's reply is that there is no violation, the write may make one; else its tuple concerns
-- the query.
abbrev pub meets : List Rule → Direction → List Change → Sense → Read → Change → Bool
meets ms h own g r w = if is_nothing r.reply then may_violate ms h own g r.query w else concerns ms h own r.query (tuple_of w)

-- A write of one of the trails passes the test.
abbrev pub is_hit : (Change → Bool) → List (List Change) → Bool
is_hit p trails = list_any (list_any p) trails

-- A write of one of the trails meets the read.
abbrev pub is_met : List Rule → Direction → List Change → Sense → List (List Change) → Read → Bool
is_met ms h own g trails r = is_hit (meets ms h own g r) trails

-- A write of one of the trails meets the read, and the read asked for no violation or found one.
abbrev pub is_met_apart : List Rule → Direction → List Change → Sense → List (List Change) → Read → Bool
is_met_apart ms h own g trails r = if found_none r then false else is_met ms h own g trails r

-- ---- what differs

-- The write is of the tuple, and the tuple is there now and was not before.
abbrev pub adds_it : Sense → Fact → Change → Bool
adds_it g t w = adds g w && same_fact (tuple_of w) t

-- The write is of the tuple, and the tuple was there before and is not now.
abbrev pub takes_it : Sense → Fact → Change → Bool
takes_it g t w = not (adds g w) && same_fact (tuple_of w) t

-- The two repositories have the same tuples except the tuples of the writes of these trails. A tuple that only the second has
-- is there since a write of it came or went. A tuple that only the first has was there before.
pub record AgreeBut (g : Sense) (trails : List (List Change)) (D E : List Fact) : Type 0 where
  pub sorted : IsRepository D
  pub also : IsRepository E
  pub since : (t : Fact) → is_hit (adds_it g t) trails ≡ false → has E t ≡ true → has D t ≡ true
  pub before : (t : Fact) → is_hit (takes_it g t) trails ≡ false → has D t ≡ true → has E t ≡ true

-- Let a read's reply be the value of its query over the first repository, with the own writes made until then. If no write of
-- the trails meets it, the reply is the value over the second one too.
abbrev pub UnmetValuesStay : Type 0
UnmetValuesStay =
    (ms : List Rule) (h : Direction) (own : List Change) (r : Read) (g : Sense) (trails : List (List Change)) (D E : List Fact)
    → AgreeBut g trails D E → is_met ms h own g trails r ≡ false
    → r.reply ≡ value ms r.query D (take r.own own) (Caused h) → r.reply ≡ value ms r.query E (take r.own own) (Caused h)
