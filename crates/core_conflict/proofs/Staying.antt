-- A read that no write meets keeps its value.
use Rattle.std.proofs.Common.{◌≡◌, ◌∙◌, ap, refl, sym, ℕ, zero, suc, ◌==◌, Bool, true, false, ◌||◌, ◌&&◌, not, List, [], ◌∷◌, ◌++◌, take, Option, Some, None}
use Rattle.std.specs.Prelude.{if◌then◌else◌, filter}
use Rattle.std.specs.List.{list_any, slice_get}
use Rattle.std.proofs.lemmas.Bool.{and_parts, both_ways, or_parts, eq-eqb}
use Rattle.def_chase.specs.Values.{Fact, same_fact}
use Rattle.def_chase.specs.Repository.{Change, Insert, Delete, IsRepository, has, apply, inserted_after, inserts}
use Rattle.def_chase.specs.Mappings.{Rule, force, force_relation}
use Rattle.def_chase.specs.Mentions.{is_mentioned, rule_mentions}
use Rattle.def_chase.specs.Queries.{Query, Present, Violation, Specific, Occurs, Reply, Yes, No, Image, Nothing, Tuples, holds_null, image_reply, scope_at, violation_reply, value}
use Rattle.def_chase.specs.Specific.{more_specific}
use Rattle.def_chase.specs.Violations.{Direction, Forward, Backward, Scope, Every, Caused, first_violation}
use Rattle.def_chase.proofs.Bools.{not_both, both, and-true, and-false, or_left, or_right, differ}
use Rattle.def_chase.proofs.Coarse.{after_agree, coarse_law}
use Rattle.def_chase.proofs.Members.{has-filter}
use Rattle.def_chase.proofs.Sets.{has-apply, apply_in_order, filter_in_order, same_exact, same_itself, same_repository}
use Rattle.core_conflict.specs.Concerns.{tuple_of, may_enact, counts_all, at_side, joins_either, concerns_rule, concerns, adds, breaks, may_make, may_violate, is_nothing, is_hit, adds_it, takes_it, AgreeBut, UnmetValuesStay}
use Rattle.core_conflict.specs.declared.concerns.Sense.{Sense}
use Rattle.core_conflict.specs.declared.concerns.Sense.TheVariants.{Came, Went}
use Rattle.core_conflict.proofs.Hits.{before_last, unhit}
use Rattle.core_conflict.proofs.Joining.{first_joins, none_made}

same_both : (a b : Bool) → (a ≡ true → b ≡ true) → (b ≡ true → a ≡ true) → a ≡ b
same_both true b f g = sym (f refl)
same_both false true f g = g refl
same_both false false f g = refl

off_from : (b : Bool) → not b ≡ true → b ≡ false
off_from true e = differ e
off_from false e = refl

-- Two repositories that have the same tuples of those that pass the test.
same_passing : (p : Fact → Bool) (D E : List Fact) → IsRepository D → IsRepository E → ((t : Fact) → p t ≡ true → has D t ≡ has E t) → filter p D ≡ filter p E
same_passing p D E d e h =
    same_repository (filter p D) (filter p E) (filter_in_order p D d) (filter_in_order p E e) (λ t. has-filter p D t ∙ at t (p t) refl ∙ sym (has-filter p E t))
  where
    at : (t : Fact) (b : Bool) → p t ≡ b → (has D t && p t) ≡ (has E t && p t)
    at t true f = ap (λ b. b && p t) (h t f)
    at t false f = ap (λ b. has D t && b) f ∙ and-false (has D t) ∙ sym (and-false (has E t)) ∙ ap (λ b. has E t && b) (sym f)

-- ---- own writes

any_of_taken : (c : ℕ) (own : List Change) (g : Change → Bool) → list_any g (take c own) ≡ true → list_any g own ≡ true
any_of_taken zero own g e = differ e
any_of_taken (suc c) [] g e = differ e
any_of_taken (suc c) (w ∷ own) g e = or_then (g w) (list_any g (take c own)) (list_any g own) e (any_of_taken c own g)
  where
    or_then : (a x y : Bool) → (a || x) ≡ true → (x ≡ true → y ≡ true) → (a || y) ≡ true
    or_then true x y h r = refl
    or_then false x y h r = r h

-- A write that puts a mapping in force may enact.
any_enacts : (n : ℕ) (own : List Change) → list_any (inserts (force n)) own ≡ true → list_any may_enact own ≡ true
any_enacts n [] e = differ e
any_enacts n (Insert s ∷ own) e = by (same_fact (force n) s) refl e (any_enacts n own)
  where
    by : (b : Bool) → same_fact (force n) s ≡ b → (b || list_any (inserts (force n)) own) ≡ true → (list_any (inserts (force n)) own ≡ true → list_any may_enact own ≡ true) → ((s.relation == force_relation) || list_any may_enact own) ≡ true
    by true h e rest = or_left (s.relation == force_relation) (list_any may_enact own) (eq-eqb s.relation force_relation (sym (ap (λ (x : Fact). x.relation) (same_exact (force n) s h))))
    by false h e rest = or_right (s.relation == force_relation) (list_any may_enact own) (rest e)
any_enacts n (Delete s ∷ own) e = or_right (s.relation == force_relation) (list_any may_enact own) (any_enacts n own e)

-- ---- a test that no written tuple passes

module _ (g : Sense) (trails : List (List Change)) (D E : List Fact) (a : AgreeBut g trails D E) where
  -- A tuple of which no write makes it be there since was there before, if it is in the second.
  was_there : (p : Change → Bool) (t : Fact) → is_hit p trails ≡ false → ((w : Change) → adds g w ≡ true → tuple_of w ≡ t → p w ≡ true) → has E t ≡ true → has D t ≡ true
  was_there p t u h =
      a.since t (unhit p (adds_it g t) (λ w k. let parts = and_parts (adds g w) (same_fact (tuple_of w) t) k in h w parts.0 (same_exact (tuple_of w) t parts.1)) trails u)

  -- And one of which no write takes it is there since.
  is_there : (p : Change → Bool) (t : Fact) → is_hit p trails ≡ false → ((w : Change) → adds g w ≡ false → tuple_of w ≡ t → p w ≡ true) → has D t ≡ true → has E t ≡ true
  is_there p t u h =
      a.before t (unhit p (takes_it g t) (λ w k. let parts = and_parts (not (adds g w)) (same_fact (tuple_of w) t) k in h w (off_from (adds g w) parts.0) (same_exact (tuple_of w) t parts.1)) trails u)

  -- So both have the tuple or neither has.
  same_there : (p : Fact → Bool) → is_hit (λ w. p (tuple_of w)) trails ≡ false → (t : Fact) → p t ≡ true → has D t ≡ has E t
  same_there p u t e =
      same_both (has D t) (has E t) (is_there (λ w. p (tuple_of w)) t u (λ w k i. ap p i ∙ e)) (was_there (λ w. p (tuple_of w)) t u (λ w k i. ap p i ∙ e))

-- ---- violations

nothing_found : (o : Option (List Fact)) → image_reply o ≡ Nothing → o ≡ None
nothing_found None e = refl
nothing_found (Some ts) e = absurd (cc)

-- What is there before the writes is there after them, if those alone decide.
rises : (ws : List Change) (b c : Bool) (t : Fact) → (b ≡ true → c ≡ true) → inserted_after b ws t ≡ true → inserted_after c ws t ≡ true
rises [] b c t h e = h e
rises (Insert s ∷ ws) b c t h e = rises ws (same_fact t s || b) (same_fact t s || c) t (λ k. more (same_fact t s) k) e
  where
    more : (x : Bool) → (x || b) ≡ true → (x || c) ≡ true
    more true k = refl
    more false k = h k
rises (Delete s ∷ ws) b c t h e =
    rises ws (b && not (same_fact t s)) (c && not (same_fact t s)) t (λ k. let parts = and_parts b (not (same_fact t s)) k in both c (not (same_fact t s)) (h parts.0) parts.1) e

module _ (ms : List Rule) (n : ℕ) (g : Sense) (trails : List (List Change)) (D E : List Fact) (a : AgreeBut g trails D E) where
  -- Where no write is of a relation of the mapping.
  by_relations : (own : List Change) (scope : Scope) → ((t : Fact) → is_mentioned ms (Violation n) t ≡ true → has D t ≡ has E t) → value ms (Violation n) D own scope ≡ value ms (Violation n) E own scope
  by_relations own scope h = coarse_law ms (Violation n) D E own scope a.sorted a.also (same_passing (is_mentioned ms (Violation n)) D E a.sorted a.also h)

  -- Where own writes put no mapping in force.
  abbrev caused_value : Direction → List Fact → List Change → Rule → Reply
  caused_value h F now m = image_reply (first_violation (Caused h) now m (apply F now))

  scope_is : (h : Direction) (own : List Change) (c : ℕ) → counts_all h own ≡ false → scope_at (Caused h) (take c own) n ≡ Caused h
  scope_is Forward own c enacts =
      let now = take c own in
      let unforced : list_any (inserts (force n)) now ≡ false = not_both (list_any (inserts (force n)) now) (λ i. both_ways (list_any may_enact own) enacts (any_of_taken c own may_enact (any_enacts n now i))) in
      ap (λ b. if b then Every else Caused Forward) unforced
  scope_is Backward own c enacts = refl

  by_caused : (h : Direction) (own : List Change) (c : ℕ) (m : Rule) (F : List Fact) → slice_get ms n ≡ Some m → counts_all h own ≡ false → value ms (Violation n) F (take c own) (Caused h) ≡ caused_value h F (take c own) m
  by_caused h own c m F e enacts = λ i. violation_reply (e i) (scope_is h own c enacts i) (take c own) (apply F (take c own))

  -- Where no write is of a tuple that joins.
  by_joins : (h : Direction) (own : List Change) (c : ℕ) (m : Rule) → slice_get ms n ≡ Some m → counts_all h own ≡ false → ((t : Fact) → joins_either h m own t ≡ true → has D t ≡ has E t)
      → value ms (Violation n) D (take c own) (Caused h) ≡ value ms (Violation n) E (take c own) (Caused h)
  by_joins h own c m e enacts same =
      let now = take c own in
      let q : Fact → Bool = λ t. joins_either h m own t in
      let alike : filter q (apply D now) ≡ filter q (apply E now) = after_agree q D E now a.sorted a.also (same_passing q D E a.sorted a.also same) in
      by_caused h own c m D e enacts
      ∙ ap image_reply (first_joins m now own (any_of_taken c own) h (apply D now) ∙ ap (first_violation (Caused h) now m) alike ∙ sym (first_joins m now own (any_of_taken c own) h (apply E now)))
      ∙ sym (by_caused h own c m E e enacts)

  -- Where no write breaks the mapping, and none was violated.
  by_breaks : (h : Direction) (own : List Change) (c : ℕ) (m : Rule) → slice_get ms n ≡ Some m → counts_all h own ≡ false → is_hit (breaks h m g own) trails ≡ false
      → value ms (Violation n) D (take c own) (Caused h) ≡ Nothing → value ms (Violation n) E (take c own) (Caused h) ≡ Nothing
  by_breaks h own c m e enacts u f =
      let now = take c own in
      let none : first_violation (Caused h) now m (apply D now) ≡ None = nothing_found (first_violation (Caused h) now m (apply D now)) (sym (by_caused h own c m D e enacts) ∙ f) in
      by_caused h own c m E e enacts
      ∙ ap image_reply
      (none_made m now own (any_of_taken c own) h (apply D now) (apply E now)
      (λ t j k. has-apply D now t
      ∙ rises now (has E t) (has D t) t (was_there g trails D E a (breaks h m g own) t u (λ w x i. ap (λ b. at_side b h m own (tuple_of w)) x ∙ ap (at_side true h m own) i ∙ j))
      (sym (has-apply E now t) ∙ k))
      (λ t j k. has-apply E now t
      ∙ rises now (has D t) (has E t) t (is_there g trails D E a (breaks h m g own) t u (λ w x i. ap (λ b. at_side b h m own (tuple_of w)) x ∙ ap (at_side false h m own) i ∙ j))
      (sym (has-apply D now t) ∙ k))
      none)

  no_rule : (h : Direction) (own : List Change) (c : ℕ) (F : List Fact) → slice_get ms n ≡ None → value ms (Violation n) F (take c own) (Caused h) ≡ Nothing
  no_rule h own c F e = λ i. violation_reply (e i) (scope_at (Caused h) (take c own) n) (take c own) (apply F (take c own))

  mentioned : (m : Rule) (t : Fact) → slice_get ms n ≡ Some m → is_mentioned ms (Violation n) t ≡ true → rule_mentions (Some m) t.relation ≡ true
  mentioned m t e i = ap (λ o. rule_mentions o t.relation) (sym e) ∙ i

  -- Where no write is of a tuple that may decide it.
  by_rule : (h : Direction) (own : List Change) (c : ℕ) (o : Option Rule) → slice_get ms n ≡ o → is_hit (λ w. concerns_rule h own o (tuple_of w)) trails ≡ false → value ms (Violation n) D (take c own) (Caused h) ≡ value ms (Violation n) E (take c own) (Caused h)
  by_rule h own c None e u = no_rule h own c D e ∙ sym (no_rule h own c E e)
  by_rule h own c (Some m) e u = by (counts_all h own) refl
    where
      by : (b : Bool) → counts_all h own ≡ b → value ms (Violation n) D (take c own) (Caused h) ≡ value ms (Violation n) E (take c own) (Caused h)
      by true f =
          by_relations (take c own) (Caused h)
          (λ t i. same_there g trails D E a (concerns_rule h own (Some m)) u t (or_left (counts_all h own && rule_mentions (Some m) t.relation) (joins_either h m own t) (λ j. f j && mentioned m t e i j)))
      by false f =
          by_joins h own c m e f
          (λ t i. same_there g trails D E a (concerns_rule h own (Some m)) u t (or_right (counts_all h own && rule_mentions (Some m) t.relation) (joins_either h m own t) i))

  -- Where there was none, and no write may make one.
  none_by_rule : (h : Direction) (own : List Change) (c : ℕ) (o : Option Rule) → slice_get ms n ≡ o → is_hit (may_make h own g o) trails ≡ false
      → value ms (Violation n) D (take c own) (Caused h) ≡ Nothing → value ms (Violation n) E (take c own) (Caused h) ≡ Nothing
  none_by_rule h own c None e u v = no_rule h own c E e
  none_by_rule h own c (Some m) e u v = by (counts_all h own) refl
    where
      by : (b : Bool) → counts_all h own ≡ b → value ms (Violation n) E (take c own) (Caused h) ≡ Nothing
      by true f =
          sym (by_relations (take c own) (Caused h)
          (λ t i. same_there g trails D E a (λ s. rule_mentions (Some m) s.relation)
          (unhit (may_make h own g (Some m)) (λ w. rule_mentions (Some m) (tuple_of w).relation)
          (λ w k. or_left (counts_all h own && rule_mentions (Some m) (tuple_of w).relation) (breaks h m g own w) (λ j. f j && k j)) trails u)
          t (mentioned m t e i)))
          ∙ v
      by false f =
          by_breaks h own c m e f
          (unhit (may_make h own g (Some m)) (breaks h m g own) (λ w k. or_right (counts_all h own && rule_mentions (Some m) (tuple_of w).relation) (breaks h m g own w) k) trails u)
          v

-- ---- any query

module _ (ms : List Rule) (own : List Change) (c : ℕ) (g : Sense) (trails : List (List Change)) (D E : List Fact) (a : AgreeBut g trails D E) where
  -- A query that no written tuple concerns has one value over both.
  unconcerned : (h : Direction) (q : Query) → is_hit (λ w. concerns ms h own q (tuple_of w)) trails ≡ false → value ms q D (take c own) (Caused h) ≡ value ms q E (take c own) (Caused h)
  unconcerned h (Present t) u =
      ap (λ b. if b then Yes else No)
      (has-apply D (take c own) t ∙ ap (λ b. inserted_after b (take c own) t) (same_there g trails D E a (λ s. same_fact t s) u t (same_itself t)) ∙ sym (has-apply E (take c own) t))
  unconcerned h (Violation n) u = by_rule ms n g trails D E a h own c (slice_get ms n) refl u
  unconcerned h (Specific t) u =
      ap Tuples (after_agree (λ s. more_specific s t) D E (take c own) a.sorted a.also (same_passing (λ s. more_specific s t) D E a.sorted a.also (λ s e. same_there g trails D E a (λ s. more_specific s t) u s e)))
  unconcerned h (Occurs v k) u =
      ap Tuples (after_agree (holds_null v k) D E (take c own) a.sorted a.also (same_passing (holds_null v k) D E a.sorted a.also (λ s e. same_there g trails D E a (holds_null v k) u s e)))

  -- One that was answered that there is no violation keeps that answer where no write may make one.
  none_still : (h : Direction) (q : Query) → is_hit (may_violate ms h own g q) trails ≡ false → value ms q D (take c own) (Caused h) ≡ Nothing → value ms q E (take c own) (Caused h) ≡ Nothing
  none_still h (Present t) u v = sym (unconcerned h (Present t) u) ∙ v
  none_still h (Violation n) u v = none_by_rule ms n g trails D E a h own c (slice_get ms n) refl u v
  none_still h (Specific t) u v = sym (unconcerned h (Specific t) u) ∙ v
  none_still h (Occurs w k) u v = sym (unconcerned h (Occurs w k) u) ∙ v

is_it_nothing : (a : Reply) → is_nothing a ≡ true → a ≡ Nothing
is_it_nothing Yes e = differ e
is_it_nothing No e = differ e
is_it_nothing (Image ts) e = differ e
is_it_nothing Nothing e = refl
is_it_nothing (Tuples ts) e = differ e

pub unmet_values_stay : UnmetValuesStay
unmet_values_stay ms h own r g trails D E a u v = by (is_nothing r.reply) refl
  where
    by : (b : Bool) → is_nothing r.reply ≡ b → r.reply ≡ value ms r.query E (take r.own own) (Caused h)
    by true e =
        let none : r.reply ≡ Nothing = is_it_nothing r.reply e in
        none ∙ sym (none_still ms own r.own g trails D E a h r.query (sym (ap (λ b. is_hit (λ w. if b then may_violate ms h own g r.query w else concerns ms h own r.query (tuple_of w)) trails) e) ∙ u) (sym v ∙ none))
    by false e =
        v ∙ unconcerned ms own r.own g trails D E a h r.query (sym (ap (λ b. is_hit (λ w. if b then may_violate ms h own g r.query w else concerns ms h own r.query (tuple_of w)) trails) e) ∙ u)

-- ---- which repositories agree but for some writes

-- Each repository does with itself.
pub agree_alone : (g : Sense) (trails : List (List Change)) (D : List Fact) → IsRepository D → AgreeBut g trails D D
agree_alone g trails D z = record { sorted = z; also = z; since = λ t h k. k; before = λ t h k. k }

-- After the same writes they still do.
pub agree_after : (g : Sense) (trails : List (List Change)) (D E : List Fact) (vs : List Change) → AgreeBut g trails D E → AgreeBut g trails (apply D vs) (apply E vs)
agree_after g trails D E vs a = record {
  sorted = apply_in_order D vs a.sorted;
  also = apply_in_order E vs a.also;
  since = λ t h k. has-apply D vs t ∙ rises vs (has E t) (has D t) t (a.since t h) (sym (has-apply E vs t) ∙ k);
  before = λ t h k. has-apply E vs t ∙ rises vs (has D t) (has E t) t (a.before t h) (sym (has-apply D vs t) ∙ k);
}

other_way : (s t : Fact) → same_fact s t ≡ false → same_fact t s ≡ false
other_way s t e = not_both (same_fact t s) (λ i. both_ways (same_fact s t) e (ap (λ x. same_fact s x) (same_exact t s i) ∙ same_itself s))

-- A tuple that the writes delete nowhere stays.
kept : (ws : List Change) (b : Bool) (t : Fact) → list_any (adds_it Went t) ws ≡ false → b ≡ true → inserted_after b ws t ≡ true
kept [] b t h e = e
kept (Insert s ∷ ws) b t h e = kept ws (same_fact t s || b) t h (or_right (same_fact t s) b e)
kept (Delete s ∷ ws) b t h e =
    let parts = or_parts (same_fact s t) (list_any (adds_it Went t) ws) h in
    kept ws (b && not (same_fact t s)) t parts.1 (both b (not (same_fact t s)) e (ap not (other_way s t parts.0)))

-- One that they insert nowhere was there before.
stood : (ws : List Change) (b : Bool) (t : Fact) → list_any (takes_it Went t) ws ≡ false → inserted_after b ws t ≡ true → b ≡ true
stood [] b t h e = e
stood (Insert s ∷ ws) b t h e =
    let parts = or_parts (same_fact s t) (list_any (takes_it Went t) ws) h in
    sym (ap (λ x. x || b) (other_way s t parts.0)) ∙ stood ws (same_fact t s || b) t parts.1 e
stood (Delete s ∷ ws) b t h e = (and_parts b (not (same_fact t s)) (stood ws (b && not (same_fact t s)) t h e)).0

-- The first may have further writes, which then went.
pub agree_more : (trails : List (List Change)) (D E : List Fact) (ws : List Change) → AgreeBut Went trails D E → AgreeBut Went (trails ++ ws ∷ []) (apply D ws) E
agree_more trails D E ws a = record {
  sorted = apply_in_order D ws a.sorted;
  also = a.also;
  since = λ t h k. let parts = before_last (adds_it Went t) trails ws h in has-apply D ws t ∙ kept ws (has D t) t parts.1 (a.since t parts.0 k);
  before = λ t h k. let parts = before_last (takes_it Went t) trails ws h in a.before t parts.0 (stood ws (has D t) t parts.1 (sym (has-apply D ws t) ∙ k));
}

-- What went the one way came the other.
back_since : (t : Fact) (w : Change) → takes_it Went t w ≡ true → adds_it Came t w ≡ true
back_since t (Insert s) k = k
back_since t (Delete s) k = k

back_before : (t : Fact) (w : Change) → adds_it Went t w ≡ true → takes_it Came t w ≡ true
back_before t (Insert s) k = k
back_before t (Delete s) k = k

pub agree_back : (trails : List (List Change)) (D E : List Fact) → AgreeBut Went trails D E → AgreeBut Came trails E D
agree_back trails D E a = record {
  sorted = a.also;
  also = a.sorted;
  since = λ t h k. a.before t (unhit (adds_it Came t) (takes_it Went t) (back_since t) trails h) k;
  before = λ t h k. a.since t (unhit (takes_it Came t) (adds_it Went t) (back_before t) trails h) k;
}
