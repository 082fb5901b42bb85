-- Logs of which no read is met, by the mappings once.
use Rattle.std.proofs.Common.{◌≡◌, ◌∙◌, ap, refl, sym, zero, suc, ℕ, ◌==◌, Bool, true, false, ◌||◌, ◌&&◌, List, [], ◌∷◌, Some, None}
use Rattle.std.specs.List.{list_any, list_all, slice_get}
use Rattle.std.specs.Option.{option_map}
use Rattle.std.specs.Prelude.{if◌then◌else◌}
use Rattle.std.proofs.lemmas.Bool.{or_parts}
use Rattle.def_chase.specs.Values.{Fact}
use Rattle.def_chase.specs.Repository.{Change}
use Rattle.def_chase.specs.Mappings.{Pattern, Rule}
use Rattle.def_chase.specs.Mentions.{rule_mentions}
use Rattle.def_chase.specs.Queries.{Query, Present, Violation, Specific, Occurs}
use Rattle.def_chase.specs.Violations.{Direction}
use Rattle.def_chase.proofs.Bools.{and-false, or_left, or_right, differ}
use Rattle.chase_query.specs.Meanings.{Read, passing}
use Rattle.core_conflict.specs.Concerns.{agree, columns, has_columns, stand_together, joins, joins_own, may_cause, seats, may_make, may_violate, concerns, breaks, breaks_some, tuple_of, counts_all, asks_violation, is_nothing, found_none, meets, is_hit, is_met, is_met_apart}
use Rattle.core_conflict.specs.declared.concerns.Sense.{Sense}
use Rattle.core_conflict.proofs.Hits.{neither, unhit}
use Rattle.core_conflict.specs.Changes.{Numbered, is_changed, value_now, is_met_and_changed, first_from, first_changed, meets_any, meets_any_apart}

-- ---- joins

-- No atom is of the tuple's relation.
unstood : (a : Pattern) (s t : Fact) (cs : List Pattern) → list_any (λ c. c.relation == t.relation) cs ≡ false → list_any (λ c. stand_together a s c t) cs ≡ false
unstood a s t [] e = refl
unstood a s t (c ∷ cs) e =
    let parts = or_parts (c.relation == t.relation) (list_any (λ c. c.relation == t.relation) cs) e in
    neither (stand_together a s c t) (list_any (λ c. stand_together a s c t) cs) (ap (λ b. b && ((a.relation == s.relation) && (has_columns a s && list_all (λ p. list_all (agree p) (columns c t)) (columns a s)))) parts.0) (unstood a s t cs parts.1)

unstood_at : (s t : Fact) (cs as' : List Pattern) → list_any (λ c. c.relation == t.relation) cs ≡ false → list_any (λ a. list_any (λ c. stand_together a s c t) cs) as' ≡ false
unstood_at s t cs [] e = refl
unstood_at s t cs (a ∷ as') e = neither (list_any (λ c. stand_together a s c t) cs) (list_any (λ a. list_any (λ c. stand_together a s c t) cs) as') (unstood a s t cs e) (unstood_at s t cs as' e)

-- A tuple of a relation that none of the atoms has joins with none.
pub unmentioned : (h : Direction) (cs : List Pattern) (m : Rule) (t : Fact) (own : List Change) → list_any (λ c. c.relation == t.relation) cs ≡ false → joins_own h cs m own t ≡ false
unmentioned h cs m t [] e = refl
unmentioned h cs m t (w ∷ own) e =
    neither (joins h cs m t w) (joins_own h cs m own t) (ap (λ b. may_cause h w && b) (unstood_at (tuple_of w) t cs (seats h m) e) ∙ and-false (may_cause h w)) (unmentioned h cs m t own e)

-- Where the own insertion is of another relation than the left atom.
pub elsewhere : (a : Pattern) (s t : Fact) (cs : List Pattern) → (a.relation == s.relation) ≡ false → false ≡ list_any (λ c. stand_together a s c t) cs
elsewhere a s t [] e = refl
elsewhere a s t (c ∷ cs) e =
    sym (neither (stand_together a s c t) (list_any (λ c. stand_together a s c t) cs) (ap (λ b. (c.relation == t.relation) && (b && (has_columns a s && list_all (λ p. list_all (agree p) (columns c t)) (columns a s)))) e ∙ and-false (c.relation == t.relation)) (sym (elsewhere a s t cs e)))

-- ---- violations

-- A write that may make a violation breaks a mapping, where no own write puts one in force.
broken : (h : Direction) (own : List Change) (ms : List Rule) (n : ℕ) (g : Sense) (w : Change) → counts_all h own ≡ false → may_make h own g (slice_get ms n) w ≡ true → breaks_some ms h g own w ≡ true
broken h own [] n g w f e = differ e
broken h own (m ∷ ms) zero g w f e =
    or_left (breaks h m g own w) (breaks_some ms h g own w) (sym (ap (λ b. (b && rule_mentions (Some m) (tuple_of w).relation) || breaks h m g own w) f) ∙ e)
broken h own (m ∷ ms) (suc n) g w f e = or_right (breaks h m g own w) (breaks_some ms h g own w) (broken h own ms n g w f e)

-- ---- logs

module _ (ms : List Rule) (h : Direction) (own : List Change) (g : Sense) (trails : List (List Change)) (f : counts_all h own ≡ false) (j : is_hit (breaks_some ms h g own) trails ≡ false) where
  met_breaks : (q : Query) (a : Bool) (w : Change) → (asks_violation q && a) ≡ true → (if a then may_violate ms h own g q w else concerns ms h own q (tuple_of w)) ≡ true → breaks_some ms h g own w ≡ true
  met_breaks (Present t) a w e k = differ e
  met_breaks (Violation n) true w e k = broken h own ms n g w f k
  met_breaks (Violation n) false w e k = differ e
  met_breaks (Specific t) a w e k = differ e
  met_breaks (Occurs u i) a w e k = differ e

  read_unmet : (r : Read) → is_met_apart ms h own g trails r ≡ false → is_met ms h own g trails r ≡ false
  read_unmet r e = by (found_none r) refl e
    where
      by : (b : Bool) → found_none r ≡ b → (if b then false else is_met ms h own g trails r) ≡ false → is_met ms h own g trails r ≡ false
      by true i k = unhit (breaks_some ms h g own) (meets ms h own g r) (λ w. met_breaks r.query (is_nothing r.reply) w i) trails j
      by false i k = k

  log_unmet : (rs : List Read) → meets_any_apart ms h own g trails rs ≡ false → meets_any ms h own g trails rs ≡ false
  log_unmet [] e = refl
  log_unmet (r ∷ rs) e =
      let parts = or_parts (is_met_apart ms h own g trails r) (meets_any_apart ms h own g trails rs) e in
      neither (is_met ms h own g trails r) (meets_any ms h own g trails rs) (read_unmet r parts.0) (log_unmet rs parts.1)

-- No write meets a read: none breaks a mapping, and none meets one that asked for no violation or found one.
pub all_unmet : (ms : List Rule) (h : Direction) (own : List Change) (g : Sense) (trails : List (List Change)) (rs : List Read)
    → counts_all h own ≡ false → is_hit (breaks_some ms h g own) trails ≡ false → meets_any_apart ms h own g trails rs ≡ false → meets_any ms h own g trails rs ≡ false
all_unmet ms h own g trails rs f j e = log_unmet ms h own g trails f j rs e

-- Then none is changed.
none_first : (ms : List Rule) (h : Direction) (D : List Fact) (own : List Change) (g : Sense) (trails : List (List Change)) (n : ℕ) (rs : List Read)
    → meets_any ms h own g trails rs ≡ false → first_from (is_met_and_changed ms h D own g trails) n rs ≡ None
none_first ms h D own g trails n [] e = refl
none_first ms h D own g trails n (r ∷ rs) e =
    let parts = or_parts (is_met ms h own g trails r) (meets_any ms h own g trails rs) e in
    ap (λ b. if b && is_changed ms h D own r then Some (record { number = n; read = r }) else first_from (is_met_and_changed ms h D own g trails) (suc n) rs) parts.0
    ∙ none_first ms h D own g trails (suc n) rs parts.1

pub none_changed : (ms : List Rule) (h : Direction) (D : List Fact) (own : List Change) (g : Sense) (trails : List (List Change)) (rs : List Read)
    → meets_any ms h own g trails rs ≡ false → None ≡ first_changed ms h D own g trails rs
none_changed ms h D own g trails rs e =
    sym (ap (option_map (λ (r : Numbered). record { number = r.number; read = r.read; now = value_now ms h D own r.read })) (none_first ms h D own g trails 1 rs e))

-- A passage asked for violations and found none, so none of its reads is met apart.
pub passage_unmet : (ms : List Rule) (h : Direction) (own : List Change) (g : Sense) (trails : List (List Change)) (n k made : ℕ) → false ≡ meets_any_apart ms h own g trails (passing n k made)
passage_unmet ms h own g trails n zero made = refl
passage_unmet ms h own g trails n (suc k) made = passage_unmet ms h own g trails (suc n) k made
