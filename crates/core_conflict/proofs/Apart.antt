-- An attempt whose footprint is apart from an impact has no read that one of the writes meets.
use Rattle.std.proofs.Common.{◌≡◌, ◌∙◌, ap, refl, sym, subst, zero, suc, ℕ, ◌==◌, Bool, true, false, ◌||◌, ◌&&◌, not, List, [], ◌∷◌, length, Option, Some, None, inl, inr, arith}
use Rattle.std.specs.List.{list_any, list_all, zip, slice_get}
use Rattle.std.specs.Option.{option_map}
use Rattle.std.specs.Prelude.{find, if◌then◌else◌}
use Rattle.std.proofs.lemmas.Bool.{and_parts, both_ways, or_cases, eqb-true, eq-eqb}
use Rattle.def_chase.specs.Values.{Datum, Fact, same_datum, same_fact}
use Rattle.def_chase.specs.Mappings.{Slot, Var, Const, Pattern, Rule}
use Rattle.def_chase.specs.Mentions.{rule_mentions}
use Rattle.def_chase.specs.Queries.{Query, Present, Violation, Specific, Occurs}
use Rattle.def_chase.specs.Repository.{Change}
use Rattle.def_chase.specs.Specific.{is_constant, more_specific, graph, agree as one_image}
use Rattle.def_chase.specs.Violations.{Direction, Forward, Backward}
use Rattle.def_chase.proofs.Bools.{differ, none_some, some_same, not_both, both, and-false, or_left, or_right}
use Rattle.def_chase.proofs.Learning.{same_datum_exact}
use Rattle.def_chase.proofs.Searches.{all_first}
use Rattle.def_chase.proofs.Sets.{same_exact}
use Rattle.chase_query.specs.Meanings.{Read}
use Rattle.core_conflict.specs.Changes.{meets_any}
use Rattle.core_conflict.specs.Concerns.{may_be, agree, columns, has_columns, stand_together, may_join, may_cause, seats, joins, joins_own, at_side, joins_either, may_enact, counts_all, concerns_rule, concerns, adds, breaks, may_make, may_violate, is_nothing, meets, is_hit, is_met, tuple_of}
use Rattle.core_conflict.specs.Footprints.{Covers, has_write, has_query, has_read}
use Rattle.core_conflict.specs.Impacts.{is_var, value_in, standing_in, key_or, key_from, has_key, has_seat, has_seats, has_joins, has_right, has_rule, has_change, has_trails}
use Rattle.core_conflict.specs.Signatures.{AreApart, has_spot, has_values, has_tuple, spot, home, spot_asked}
use Rattle.core_conflict.specs.Meetings.{IsOutside, IsJoinless, IsNoneMet}
use Rattle.core_conflict.specs.declared.concerns.Sense.{Sense}
use Rattle.core_conflict.specs.declared.footprints.Footprint.{Footprint}
use Rattle.core_conflict.specs.declared.impacts.Impact.{Impact}
use Rattle.core_conflict.specs.declared.impacts.Reach.{Reach}
use Rattle.core_conflict.specs.declared.signatures.Signature.{Signature}
use Rattle.core_conflict.proofs.Hits.{neither}

-- What does not hold of any, where that one does not hold.
off_by : (a b : Bool) → (a ≡ true → b ≡ true) → b ≡ false → a ≡ false
off_by true b h e = sym (h refl) ∙ e
off_by false b h e = refl

-- ---- keys

-- A value of a variable that agrees with these columns is what stands for it there.
value_agrees : (v : ℕ) (x : Datum) (ps : List (Slot × Datum)) (d : Datum) → list_all (agree (Var v, x)) ps ≡ true → value_in v ps ≡ Some d → x ≡ d
value_agrees v x [] d e f = absurd (none_some d f)
value_agrees v x ((Const c, y) ∷ ps) d e f = value_agrees v x ps d (and_parts (agree (Var v, x) (Const c, y)) (list_all (agree (Var v, x)) ps) e).1 f
value_agrees v x ((Var w, y) ∷ ps) d e f =
    let parts = and_parts (agree (Var v, x) (Var w, y)) (list_all (agree (Var v, x)) ps) e in by (v == w) refl parts.0 (value_agrees v x ps d parts.1)
  where
    by : (b : Bool) → (v == w) ≡ b → agree (Var v, x) (Var w, y) ≡ true → (value_in v ps ≡ Some d → x ≡ d) → x ≡ d
    by true g here rest =
        same_datum_exact x y (sym (ap (λ b. not b || same_datum x y) g) ∙ here)
        ∙ some_same y d (sym (ap (λ b. option_map (λ (p : Slot × Datum). p.1) (if b then Some (Var w, y) else find (λ p. is_var v p.0) ps)) g) ∙ f)
    by false g here rest = rest (sym (ap (λ b. option_map (λ (p : Slot × Datum). p.1) (if b then Some (Var w, y) else find (λ p. is_var v p.0) ps)) g) ∙ f)

standing_agrees : (q : Slot) (x : Datum) (ps : List (Slot × Datum)) (d : Datum) → list_all (agree (q, x)) ps ≡ true → standing_in q ps ≡ Some d → x ≡ d
standing_agrees (Var v) x ps d e f = value_agrees v x ps d e f
standing_agrees (Const c) x ps d e f = absurd (none_some d f)

-- A tuple that agrees with these columns at each of its own has the key.
key_met : (s : Signature) (r n : ℕ) (qs : List Slot) (xs : List Datum) (ps : List (Slot × Datum)) (key : ℕ × Datum) → length qs ≡ length xs
    → list_all (λ q. list_all (agree q) ps) (zip qs xs) ≡ true → key_from n qs ps ≡ Some key → has_values s r n xs ≡ true → has_spot s (spot r key.0 key.1) ≡ true
key_met s r n [] xs ps key l e f h = absurd (none_some key f)
key_met s r n (q ∷ qs) [] ps key l e f h = absurd (omega (arith, l))
key_met s r n (q ∷ qs) (x ∷ xs) ps key l e f h =
    let parts = and_parts (list_all (agree (q, x)) ps) (list_all (λ q. list_all (agree q) ps) (zip qs xs)) e in
    let has = and_parts (has_spot s (spot r n x)) (has_values s r (suc n) xs) h in
    by (standing_in q ps) refl parts.0 has.0 (λ g. key_met s r (suc n) qs xs ps key (omega (arith, l)) parts.1 g has.1)
  where
    by : (o : Option Datum) → standing_in q ps ≡ o → list_all (agree (q, x)) ps ≡ true → has_spot s (spot r n x) ≡ true
        → (key_from (suc n) qs ps ≡ Some key → has_spot s (spot r key.0 key.1) ≡ true) → has_spot s (spot r key.0 key.1) ≡ true
    by (Some d) g here there rest =
        let same : (n, d) ≡ key = some_same (n, d) key (sym (ap (λ o. key_or n o (key_from (suc n) qs ps)) g) ∙ f) in
        let is : x ≡ d = standing_agrees q x ps d here g in
        subst (λ (k : ℕ × Datum). has_spot s (spot r k.0 k.1) ≡ true) same (subst (λ (y : Datum). has_spot s (spot r n y) ≡ true) is there)
    by None g here there rest = rest (sym (ap (λ o. key_or n o (key_from (suc n) qs ps)) g) ∙ f)

-- ---- joins

module _ (s : Signature) (v : Reach) (t : Fact) (out : IsOutside s v) where
  -- An own write at the seat does not stand together with the tuple at the atom.
  seat_apart : (a c : Pattern) (o : Fact) → has_tuple s o ≡ true → has_seat v t c a ≡ true → stand_together a o c t ≡ false
  seat_apart a c o h e = not_both (stand_together a o c t) (λ i. by (key_from 0 a.terms (columns c t)) refl i)
    where
      by : (k : Option (ℕ × Datum)) → key_from 0 a.terms (columns c t) ≡ k → stand_together a o c t ≡ true → ⊥
      by None f i = both_ways v.every out.some (sym (ap (has_key v a.relation) f) ∙ e)
      by (Some key) f i =
          let one = and_parts (c.relation == t.relation) ((a.relation == o.relation) && (has_columns a o && list_all (λ p. list_all (agree p) (columns c t)) (columns a o))) i in
          let two = and_parts (a.relation == o.relation) (has_columns a o && list_all (λ p. list_all (agree p) (columns c t)) (columns a o)) one.1 in
          let three = and_parts (has_columns a o) (list_all (λ p. list_all (agree p) (columns c t)) (columns a o)) two.1 in
          let same : a.relation ≡ o.relation = eqb-true a.relation o.relation two.0 in
          let has : has_spot s (spot a.relation key.0 key.1) ≡ true =
          key_met s a.relation 0 a.terms o.values (columns c t) key (eqb-true (length a.terms) (length o.values) three.0) three.1 f (subst (λ (r : ℕ). has_values s r 0 o.values ≡ true) (sym same) h) in
          both_ways (has_spot v.own (spot a.relation key.0 key.1)) (out.apart (spot a.relation key.0 key.1) has) (sym (ap (has_key v a.relation) f) ∙ e)

  -- Nor with it at any of the atoms.
  first_apart : (a : Pattern) (as' cs : List Pattern) (o : Fact) → has_tuple s o ≡ true → has_joins v (a ∷ as') cs t ≡ true → list_any (λ c. stand_together a o c t) cs ≡ false
  first_apart a as' [] o h e = refl
  first_apart a as' (c ∷ cs) o h e =
      let parts = and_parts (has_seats v (a ∷ as') t c) (has_joins v (a ∷ as') cs t) e in
      neither (stand_together a o c t) (list_any (λ c. stand_together a o c t) cs) (by (c.relation == t.relation) refl parts.0) (first_apart a as' cs o h parts.1)
    where
      by : (b : Bool) → (c.relation == t.relation) ≡ b → has_seats v (a ∷ as') t c ≡ true → stand_together a o c t ≡ false
      by true f i = seat_apart a c o h (and_parts (has_seat v t c a) (list_all (has_seat v t c) as') (sym (ap (λ b. not b || list_all (has_seat v t c) (a ∷ as')) f) ∙ i)).0
      by false f i = ap (λ b. b && ((a.relation == o.relation) && (has_columns a o && list_all (λ p. list_all (agree p) (columns c t)) (columns a o)))) f

  rest_joins : (a : Pattern) (as' cs : List Pattern) → has_joins v (a ∷ as') cs t ≡ true → has_joins v as' cs t ≡ true
  rest_joins a as' [] e = refl
  rest_joins a as' (c ∷ cs) e =
      let parts = and_parts (has_seats v (a ∷ as') t c) (has_joins v (a ∷ as') cs t) e in
      both (has_seats v as' t c) (has_joins v as' cs t)
      (elim (or_cases (not (c.relation == t.relation)) (list_all (has_seat v t c) (a ∷ as')) parts.0) [
        | inl h ↦ or_left (not (c.relation == t.relation)) (list_all (has_seat v t c) as') h
        | inr h ↦ or_right (not (c.relation == t.relation)) (list_all (has_seat v t c) as') (and_parts (has_seat v t c a) (list_all (has_seat v t c) as') h).1
      ])
      (rest_joins a as' cs parts.1)

  join_apart : (as' cs : List Pattern) (o : Fact) → has_tuple s o ≡ true → has_joins v as' cs t ≡ true → may_join as' cs o t ≡ false
  join_apart [] cs o h e = refl
  join_apart (a ∷ as') cs o h e = neither (list_any (λ c. stand_together a o c t) cs) (may_join as' cs o t) (first_apart a as' cs o h e) (join_apart as' cs o h (rest_joins a as' cs e))

  own_apart : (h : Direction) (cs : List Pattern) (m : Rule) (own : List Change) → list_all (λ w. has_tuple s (tuple_of w)) own ≡ true → has_joins v (seats h m) cs t ≡ true → joins_own h cs m own t ≡ false
  own_apart h cs m [] e j = refl
  own_apart h cs m (w ∷ own) e j =
      let parts = and_parts (has_tuple s (tuple_of w)) (list_all (λ w. has_tuple s (tuple_of w)) own) e in
      neither (joins h cs m t w) (joins_own h cs m own t) (ap (λ b. may_cause h w && b) (join_apart (seats h m) cs (tuple_of w) parts.0 j) ∙ and-false (may_cause h w)) (own_apart h cs m own parts.1 j)

-- ---- what is asked for

-- The tuple itself has the spot.
asked_itself : (s : Signature) (r k : ℕ) (ds : List Datum) → has_spot s (home r) ≡ true → has_values s r k ds ≡ true → has_spot s (spot_asked r k ds) ≡ true
asked_itself s r k [] e h = e
asked_itself s r k (d ∷ ds) e h =
    let parts = and_parts (has_spot s (spot r k d)) (has_values s r (suc k) ds) h in by (is_constant d) refl parts.0 (asked_itself s r (suc k) ds e parts.1)
  where
    by : (b : Bool) → is_constant d ≡ b → has_spot s (spot r k d) ≡ true → has_spot s (spot_asked r (suc k) ds) ≡ true → has_spot s (spot_asked r k (d ∷ ds)) ≡ true
    by true f one more = ap (λ b. has_spot s (if b then spot r k d else spot_asked r (suc k) ds)) f ∙ one
    by false f one more = ap (λ b. has_spot s (if b then spot r k d else spot_asked r (suc k) ds)) f ∙ more

-- And one that is more specific.
asked_more : (s : Signature) (r k : ℕ) (ds es : List Datum) → length es ≡ length ds → list_all (λ p. not (is_constant p.0) || same_datum p.0 p.1) (zip ds es) ≡ true
    → has_spot s (home r) ≡ true → has_values s r k es ≡ true → has_spot s (spot_asked r k ds) ≡ true
asked_more s r k [] es l e o h = o
asked_more s r k (d ∷ ds) [] l e o h = absurd (omega (arith, l))
asked_more s r k (d ∷ ds) (x ∷ es) l e o h =
    let same = and_parts (not (is_constant d) || same_datum d x) (list_all (λ p. not (is_constant p.0) || same_datum p.0 p.1) (zip ds es)) e in
    let parts = and_parts (has_spot s (spot r k x)) (has_values s r (suc k) es) h in
    by (is_constant d) refl same.0 parts.0 (asked_more s r (suc k) ds es (omega (arith, l)) same.1 o parts.1)
  where
    by : (b : Bool) → is_constant d ≡ b → (not (is_constant d) || same_datum d x) ≡ true → has_spot s (spot r k x) ≡ true → has_spot s (spot_asked r (suc k) ds) ≡ true → has_spot s (spot_asked r k (d ∷ ds)) ≡ true
    by true f is here rest =
        let one : d ≡ x = same_datum_exact d x (sym (ap (λ b. not b || same_datum d x) f) ∙ is) in
        ap (λ b. has_spot s (if b then spot r k d else spot_asked r (suc k) ds)) f ∙ subst (λ (y : Datum). has_spot s (spot r k y) ≡ true) (sym one) here
    by false f is here rest = ap (λ b. has_spot s (if b then spot r k d else spot_asked r (suc k) ds)) f ∙ rest

-- ---- reads

-- The footprint and the impact have nothing in common, in this direction.
record ArePast (h : Direction) (f : Footprint) (v : Impact) : Type 0 where
  asked : AreApart f.asked v.asked
  closed : f.exposed ≡ false
  joinless : IsJoinless h f v

not_true : (b : Bool) → not b ≡ true → b ≡ false
not_true true e = differ e
not_true false e = refl

module _ (f : Footprint) (v : Impact) (own : List Change) (written : list_all (has_write f) own ≡ true) where
  -- No own write is met on the left or right of the mapping.
  rule_apart : (h : Direction) (m : Rule) (b : Bool) (t : Fact) → ArePast h f v → has_rule v b t m ≡ true → at_side b h m own t ≡ false
  rule_apart Forward m true t p e =
      let forward = and_parts (has_joins v.forward m.left m.left t && has_joins v.forward m.left m.right t) (has_joins v.backward m.right m.left t && has_right v.backward m.right true t) e in
      let sides = and_parts (has_joins v.forward m.left m.left t) (has_joins v.forward m.left m.right t) forward.0 in
      own_apart f.own v.forward t p.joinless Forward m.left m own written sides.0
  rule_apart Forward m false t p e =
      let forward = and_parts (has_joins v.forward m.left m.left t && has_joins v.forward m.left m.right t) (has_joins v.backward m.right m.left t && has_right v.backward m.right false t) e in
      let sides = and_parts (has_joins v.forward m.left m.left t) (has_joins v.forward m.left m.right t) forward.0 in
      own_apart f.own v.forward t p.joinless Forward m.right m own written sides.1
  rule_apart Backward m true t p e =
      let backward = and_parts (has_joins v.forward m.left m.left t && has_joins v.forward m.left m.right t) (has_joins v.backward m.right m.left t && has_right v.backward m.right true t) e in
      let sides = and_parts (has_joins v.backward m.right m.left t) (has_right v.backward m.right true t) backward.1 in
      own_apart f.own v.backward t p.joinless.0 Backward m.left m own written sides.0
  rule_apart Backward m false t p e =
      let backward = and_parts (has_joins v.forward m.left m.left t && has_joins v.forward m.left m.right t) (has_joins v.backward m.right m.left t && has_right v.backward m.right false t) e in
      let sides = and_parts (has_joins v.backward m.right m.left t) (has_right v.backward m.right false t) backward.1 in
      elim (or_cases (not (list_any (λ c. c.relation == t.relation) m.right)) v.backward.every sides.1) [
        | inl i ↦ not_true (list_any (λ c. c.relation == t.relation) m.right) i
        | inr i ↦ absurd (both_ways v.backward.every p.joinless.0.some i)
      ]

  -- Forward on neither.
  sides_apart : (m : Rule) (b : Bool) (t : Fact) → ArePast Forward f v → has_rule v b t m ≡ true → joins_either Forward m own t ≡ false
  sides_apart m b t p e =
      let forward = and_parts (has_joins v.forward m.left m.left t && has_joins v.forward m.left m.right t) (has_joins v.backward m.right m.left t && has_right v.backward m.right b t) e in
      let sides = and_parts (has_joins v.forward m.left m.left t) (has_joins v.forward m.left m.right t) forward.0 in
      neither (joins_own Forward m.left m own t) (joins_own Forward m.right m own t)
      (own_apart f.own v.forward t p.joinless Forward m.left m own written sides.0)
      (own_apart f.own v.forward t p.joinless Forward m.right m own written sides.1)

  module _ (h : Direction) (g : Sense) (p : ArePast h f v) (enacts : counts_all h own ≡ false) where
    made_not : (m : Rule) (w : Change) → has_rule v (adds g w) (tuple_of w) m ≡ true → may_make h own g (Some m) w ≡ false
    made_not m w e = (λ i. (enacts i && rule_mentions (Some m) (tuple_of w).relation) || breaks h m g own w) ∙ rule_apart h m (adds g w) (tuple_of w) p e

    concerned_not : (h' : Direction) → h ≡ h' → (m : Rule) (w : Change) → f.found ≡ true → has_rule v (adds g w) (tuple_of w) m ≡ true → concerns_rule h own (Some m) (tuple_of w) ≡ false
    concerned_not Forward i m w j e =
        (λ k. (enacts k && rule_mentions (Some m) (tuple_of w).relation) || joins_either h m own (tuple_of w))
        ∙ ap (λ x. joins_either x m own (tuple_of w)) i ∙ sides_apart m (adds g w) (tuple_of w) (subst (λ (x : Direction). ArePast x f v) i p) e
    concerned_not Backward i m w j e = absurd (both_ways f.found ((subst (λ (x : Direction). IsJoinless x f v) i p.joinless).1) j)

    -- A mapping of that number, or none.
    rule_not : (ms : List Rule) (n : ℕ) (w : Change) (nothing : Bool) → (nothing || f.found) ≡ true → list_all (has_rule v (adds g w) (tuple_of w)) ms ≡ true
        → (if nothing then may_make h own g (slice_get ms n) w else concerns_rule h own (slice_get ms n) (tuple_of w)) ≡ false
    rule_not [] n w true i e = refl
    rule_not [] n w false i e = refl
    rule_not (m ∷ ms) zero w true i e = made_not m w (and_parts (has_rule v (adds g w) (tuple_of w) m) (list_all (has_rule v (adds g w) (tuple_of w)) ms) e).0
    rule_not (m ∷ ms) zero w false i e = concerned_not h refl m w i (and_parts (has_rule v (adds g w) (tuple_of w) m) (list_all (has_rule v (adds g w) (tuple_of w)) ms) e).0
    rule_not (m ∷ ms) (suc n) w nothing i e = rule_not ms n w nothing i (and_parts (has_rule v (adds g w) (tuple_of w) m) (list_all (has_rule v (adds g w) (tuple_of w)) ms) e).1

    -- A tuple that was asked for is another.
    present_not : (t s : Fact) → has_spot f.asked (spot_asked t.relation 0 t.values) ≡ true → has_spot v.asked (home s.relation) ≡ true → has_tuple v.asked s ≡ true → same_fact t s ≡ false
    present_not t s a o e = not_both (same_fact t s) (λ i.
        let same : t ≡ s = same_exact t s i in
        both_ways (has_spot v.asked (spot_asked t.relation 0 t.values)) (p.asked (spot_asked t.relation 0 t.values) a)
        (asked_itself v.asked t.relation 0 t.values (subst (λ (x : Fact). has_spot v.asked (home x.relation) ≡ true) (sym same) o) (subst (λ (x : Fact). has_tuple v.asked x ≡ true) (sym same) e)))

    specific_not : (t s : Fact) → has_spot f.asked (spot_asked t.relation 0 t.values) ≡ true → has_spot v.asked (home s.relation) ≡ true → has_tuple v.asked s ≡ true → more_specific s t ≡ false
    specific_not t s a o e = not_both (more_specific s t) (λ i.
        let one = and_parts ((s.relation == t.relation) && (length s.values == length t.values)) (list_all (λ p. (not (is_constant p.0) || same_datum p.0 p.1) && list_all (one_image p) (graph t s)) (graph t s)) i in
        let two = and_parts (s.relation == t.relation) (length s.values == length t.values) one.0 in
        let same : s.relation ≡ t.relation = eqb-true s.relation t.relation two.0 in
        let each = all_first (λ p. not (is_constant p.0) || same_datum p.0 p.1) (λ p. list_all (one_image p) (graph t s)) (graph t s) one.1 in
        both_ways (has_spot v.asked (spot_asked t.relation 0 t.values)) (p.asked (spot_asked t.relation 0 t.values) a)
        (asked_more v.asked t.relation 0 t.values s.values (eqb-true (length s.values) (length t.values) two.1) each (subst (λ (r : ℕ). has_spot v.asked (home r) ≡ true) same o) (subst (λ (r : ℕ). has_values v.asked r 0 s.values ≡ true) same e)))

    query_not : (ms : List Rule) (q : Query) (nothing : Bool) (w : Change) → has_query f q nothing ≡ true → has_change v ms g w ≡ true
        → (if nothing then may_violate ms h own g q w else concerns ms h own q (tuple_of w)) ≡ false
    query_not ms (Present t) nothing w i e =
        let parts = and_parts (has_spot v.asked (home (tuple_of w).relation) && has_tuple v.asked (tuple_of w)) (list_all (has_rule v (adds g w) (tuple_of w)) ms) e in
        let ask = and_parts (has_spot v.asked (home (tuple_of w).relation)) (has_tuple v.asked (tuple_of w)) parts.0 in
        either nothing (present_not t (tuple_of w) i ask.0 ask.1)
      where
        either : (b : Bool) → same_fact t (tuple_of w) ≡ false → (if b then same_fact t (tuple_of w) else same_fact t (tuple_of w)) ≡ false
        either true x = x
        either false x = x
    query_not ms (Violation n) nothing w i e =
        rule_not ms n w nothing i (and_parts (has_spot v.asked (home (tuple_of w).relation) && has_tuple v.asked (tuple_of w)) (list_all (has_rule v (adds g w) (tuple_of w)) ms) e).1
    query_not ms (Specific t) nothing w i e =
        let parts = and_parts (has_spot v.asked (home (tuple_of w).relation) && has_tuple v.asked (tuple_of w)) (list_all (has_rule v (adds g w) (tuple_of w)) ms) e in
        let ask = and_parts (has_spot v.asked (home (tuple_of w).relation)) (has_tuple v.asked (tuple_of w)) parts.0 in
        either nothing (specific_not t (tuple_of w) i ask.0 ask.1)
      where
        either : (b : Bool) → more_specific (tuple_of w) t ≡ false → (if b then more_specific (tuple_of w) t else more_specific (tuple_of w) t) ≡ false
        either true x = x
        either false x = x
    query_not ms (Occurs u k) nothing w i e = absurd (both_ways f.exposed p.closed i)

    trail_not : (ms : List Rule) (r : Read) (ws : List Change) → has_read f r ≡ true → list_all (has_change v ms g) ws ≡ true → list_any (meets ms h own g r) ws ≡ false
    trail_not ms r [] i e = refl
    trail_not ms r (w ∷ ws) i e =
        let parts = and_parts (has_change v ms g w) (list_all (has_change v ms g) ws) e in
        neither (meets ms h own g r w) (list_any (meets ms h own g r) ws) (query_not ms r.query (is_nothing r.reply) w i parts.0) (trail_not ms r ws i parts.1)

    read_not : (ms : List Rule) (r : Read) (trails : List (List Change)) → has_read f r ≡ true → has_trails v ms g trails ≡ true → is_met ms h own g trails r ≡ false
    read_not ms r [] i e = refl
    read_not ms r (ws ∷ trails) i e =
        let parts = and_parts (list_all (has_change v ms g) ws) (has_trails v ms g trails) e in
        neither (list_any (meets ms h own g r) ws) (is_met ms h own g trails r) (trail_not ms r ws i parts.0) (read_not ms r trails i parts.1)

    reads_not : (ms : List Rule) (rs : List Read) (trails : List (List Change)) → list_all (has_read f) rs ≡ true → has_trails v ms g trails ≡ true → meets_any ms h own g trails rs ≡ false
    reads_not ms [] trails i e = refl
    reads_not ms (r ∷ rs) trails i e =
        let parts = and_parts (has_read f r) (list_all (has_read f) rs) i in
        neither (is_met ms h own g trails r) (meets_any ms h own g trails rs) (read_not ms r trails parts.0 e) (reads_not ms rs trails parts.1 e)

-- Where no own write puts a mapping in force.
counts_not : (h : Direction) (own : List Change) → list_any may_enact own ≡ false → counts_all h own ≡ false
counts_not Forward own e = e
counts_not Backward own e = refl

pub none_met : (h : Direction) (f : Footprint) (v : Impact) → AreApart f.asked v.asked → f.exposed ≡ false → IsJoinless h f v → IsNoneMet h f v
none_met h f v a o j ms g own trails rs c e =
    reads_not f v own c.writes h g (record { asked = a; closed = o; joinless = j }) (counts_not h own (off_by (list_any may_enact own) f.exposed c.enacts o)) ms rs trails c.reads e
