-- Sets of spots, footprints, reaches and impacts that grow.
use Rattle.std.proofs.Common.{◌≡◌, ap, refl, sym, ℕ, zero, suc, ◌==◌, Bool, true, false, not, ◌&&◌, ◌||◌, List, [], ◌∷◌, ◌++◌, ◌+◌, ◌<◌, subst, map, drop, length, get_or, add-one, Option, Some, None, inl, inr}
use Rattle.std.specs.List.{list_any, list_all}
use Rattle.std.proofs.lemmas.Bool.{and_parts, or_cases}
use Rattle.base_types.specs.Meanings.{datum_of}
use Rattle.base_types.specs.declared.values.Value.{Value}
use Rattle.def_chase.specs.Mappings.{Pattern, Rule}
use Rattle.def_chase.specs.Queries.{Query, Present, Violation, Specific, Occurs}
use Rattle.def_chase.specs.Repository.{Change}
use Rattle.def_chase.specs.Values.{Datum, Fact}
use Rattle.def_chase.proofs.Bools.{both, or_left, or_right}
use Rattle.chase_query.specs.Meanings.{Read, passing}
use Rattle.core_conflict.specs.Concerns.{is_nothing, may_enact, adds, columns, tuple_of}
use Rattle.core_conflict.specs.Footprints.{CoversMore, ReadsMore, has_query, has_read, has_write, has_write_in}
use Rattle.core_conflict.specs.Impacts.{IsReachWithin, IsImpactWithin, key_from, has_key, has_seat, has_seats, has_joins, has_right, has_rule, has_tuple_asked, has_change}
use Rattle.core_conflict.specs.Signatures.{IsWithin, has_spot, has_values, has_tuple, spot, home, spot_asked}
use Rattle.core_conflict.specs.declared.concerns.Sense.{Sense}
use Rattle.core_conflict.specs.declared.footprints.Footprint.{Footprint}
use Rattle.core_conflict.specs.declared.impacts.Impact.{Impact}
use Rattle.core_conflict.specs.declared.impacts.Reach.{Reach}
use Rattle.core_conflict.specs.declared.signatures.Signature.{Signature}
use Rattle.core_conflict.proofs.Gathering.{next_drop}

-- ---- signatures

pub within_itself : (s : Signature) → IsWithin s s
within_itself s k e = e

pub within_more : (r s t : Signature) → IsWithin r s → IsWithin s t → IsWithin r t
within_more r s t v w k e = w k (v k e)

pub values_still : (s t : Signature) (r k : ℕ) (ds : List Datum) → IsWithin s t → has_values s r k ds ≡ true → has_values t r k ds ≡ true
values_still s t r k [] w e = refl
values_still s t r k (d ∷ ds) w e =
    let parts = and_parts (has_spot s (spot r k d)) (has_values s r (suc k) ds) e in
    both (has_spot t (spot r k d)) (has_values t r (suc k) ds) (w (spot r k d) parts.0) (values_still s t r (suc k) ds w parts.1)

-- The values from the next one on.
pub values_next : (s u : Signature) (r k i p : ℕ) (vs : List Value) (v : Value) → i < length vs → v ≡ get_or vs i v → p ≡ spot r k (datum_of v) → IsWithin s u → has_spot u p ≡ true
    → ((t : Signature) → IsWithin s t → has_values t r k (map datum_of (drop i vs)) ≡ true → has_values t r 0 (map datum_of vs) ≡ true)
    → (t : Signature) → IsWithin u t → has_values t r (k + 1) (map datum_of (drop (i + 1) vs)) ≡ true → has_values t r 0 (map datum_of vs) ≡ true
values_next s u r k i p vs v l e at more there whole t w rest =
    whole t (λ j x. w j (more j x))
    (subst (λ (ys : List Value). has_values t r k (map datum_of ys) ≡ true) (sym (next_drop vs i v l e))
    (both (has_spot t (spot r k (datum_of v))) (has_values t r (suc k) (map datum_of (drop (i + 1) vs)))
    (subst (λ (n : ℕ). has_spot t n ≡ true) at (w p there))
    (subst (λ (n : ℕ). has_values t r n (map datum_of (drop (i + 1) vs)) ≡ true) (add-one k) rest)))

pub write_still : (s t : Signature) (w : Change) → IsWithin s t → has_write_in s w ≡ true → has_write_in t w ≡ true
write_still s t w i e = values_still s t (tuple_of w).relation 0 (tuple_of w).values i e

-- ---- footprints

pub reads_itself : (f : Footprint) → ReadsMore f f
reads_itself f = record { asked = λ k e. e; found = λ e. e; exposed = λ e. e }

pub reads_more : (d e f : Footprint) → ReadsMore d e → ReadsMore e f → ReadsMore d f
reads_more d e f v w = record { asked = λ k i. w.asked k (v.asked k i); found = λ i. w.found (v.found i); exposed = λ i. w.exposed (v.exposed i) }

query_still : (e f : Footprint) (q : Query) (b : Bool) → ReadsMore e f → has_query e q b ≡ true → has_query f q b ≡ true
query_still e f (Present t) b m h = m.asked (spot_asked t.relation 0 t.values) h
query_still e f (Violation n) b m h =
    elim (or_cases b e.found h) [
      | inl i ↦ or_left b f.found i
      | inr i ↦ or_right b f.found (m.found i)
    ]
query_still e f (Specific t) b m h = m.asked (spot_asked t.relation 0 t.values) h
query_still e f (Occurs u k) b m h = m.exposed h

pub read_still : (e f : Footprint) (r : Read) → ReadsMore e f → has_read e r ≡ true → has_read f r ≡ true
read_still e f r m h = query_still e f r.query (is_nothing r.reply) m h

all_still : {K : Type 0} (p q : K → Bool) → ((x : K) → p x ≡ true → q x ≡ true) → (xs : List K) → list_all p xs ≡ true → list_all q xs ≡ true
all_still p q h [] e = refl
all_still p q h (x ∷ xs) e = let parts = and_parts (p x) (list_all p xs) e in both (q x) (list_all q xs) (h x parts.0) (all_still p q h xs parts.1)

all_with : {K : Type 0} (p : K → Bool) (xs ys : List K) → list_all p xs ≡ true → list_all p ys ≡ true → list_all p (xs ++ ys) ≡ true
all_with p [] ys e h = h
all_with p (x ∷ xs) ys e h = let parts = and_parts (p x) (list_all p xs) e in both (p x) (list_all p (xs ++ ys)) parts.0 (all_with p xs ys parts.1 h)

-- It has each of these reads.
abbrev pub has_reads : Footprint → List Read → Bool
has_reads f rs = list_all (has_read f) rs

pub reads_still : (e f : Footprint) (rs : List Read) → ReadsMore e f → has_reads e rs ≡ true → has_reads f rs ≡ true
reads_still e f rs m h = all_still (has_read e) (has_read f) (λ r i. read_still e f r m i) rs h

-- Every footprint has the reads of a passage.
pub passage_is_had : (f : Footprint) (n k own : ℕ) → has_reads f (passing n k own) ≡ true
passage_is_had f n zero own = refl
passage_is_had f n (suc k) own = passage_is_had f (suc n) k own

any_with : {K : Type 0} (p : K → Bool) (b : Bool) (xs ys : List K) → (list_any p xs ≡ true → b ≡ true) → (list_any p ys ≡ true → b ≡ true) → list_any p (xs ++ ys) ≡ true → b ≡ true
any_with p b [] ys f g e = g e
any_with p b (x ∷ xs) ys f g e =
    elim (or_cases (p x) (list_any p (xs ++ ys)) e) [
      | inl h ↦ f (or_left (p x) (list_any p xs) h)
      | inr h ↦ any_with p b xs ys (λ i. f (or_right (p x) (list_any p xs) i)) g h
    ]

-- Once the attempt has made these own writes and these reads more.
pub covers_after : (f e d : Footprint) (ws : List Change) (rs : List Read) → ReadsMore f e → list_all (has_read e) rs ≡ true → ReadsMore e d → IsWithin f.own d.own → (list_any may_enact ws ≡ true → d.exposed ≡ true) → list_all (has_write d) ws ≡ true
    → CoversMore f ws rs d
covers_after f e d ws rs more has on own enacts written vs qs c = record {
  enacts = any_with may_enact d.exposed vs ws (λ h. on.exposed (more.exposed (c.enacts h))) enacts;
  writes = all_with (has_write d) vs ws (all_still (has_write f) (has_write d) (λ w. write_still f.own d.own w own) vs c.writes) written;
  reads = all_with (has_read d) qs rs (all_still (has_read f) (has_read d) (λ r. read_still f d r (reads_more f e d more on)) qs c.reads) (all_still (has_read e) (has_read d) (λ r. read_still e d r on) rs has);
}

-- ---- reaches

pub reach_itself : (v : Reach) → IsReachWithin v v
reach_itself v = record { every = λ e. e; own = λ k e. e }

pub reach_more : (u v w : Reach) → IsReachWithin u v → IsReachWithin v w → IsReachWithin u w
reach_more u v w i j = record { every = λ e. j.every (i.every e); own = λ k e. j.own k (i.own k e) }

pub key_still : (v w : Reach) (r : ℕ) (k : Option (ℕ × Datum)) → IsReachWithin v w → has_key v r k ≡ true → has_key w r k ≡ true
key_still v w r (Some key) i e = i.own (spot r key.0 key.1) e
key_still v w r None i e = i.every e

pub seat_still : (t : Fact) (c : Pattern) (v w : Reach) (a : Pattern) → IsReachWithin v w → has_seat v t c a ≡ true → has_seat w t c a ≡ true
seat_still t c v w a i e = key_still v w a.relation (key_from 0 a.terms (columns c t)) i e

pub seats_still : (seats : List Pattern) (t : Fact) (v w : Reach) (c : Pattern) → IsReachWithin v w → has_seats v seats t c ≡ true → has_seats w seats t c ≡ true
seats_still seats t v w c i e =
    elim (or_cases (not (c.relation == t.relation)) (list_all (has_seat v t c) seats) e) [
      | inl h ↦ or_left (not (c.relation == t.relation)) (list_all (has_seat w t c) seats) h
      | inr h ↦ or_right (not (c.relation == t.relation)) (list_all (has_seat w t c) seats) (all_still (has_seat v t c) (has_seat w t c) (λ a. seat_still t c v w a i) seats h)
    ]

pub joins_still : (seats cs : List Pattern) (t : Fact) (v w : Reach) → IsReachWithin v w → has_joins v seats cs t ≡ true → has_joins w seats cs t ≡ true
joins_still seats cs t v w i e = all_still (has_seats v seats t) (has_seats w seats t) (λ c. seats_still seats t v w c i) cs e

right_still : (cs : List Pattern) (b : Bool) (t : Fact) (v w : Reach) → IsReachWithin v w → has_right v cs b t ≡ true → has_right w cs b t ≡ true
right_still cs b t v w i e =
    let met : Bool = b || not (list_any (λ c. c.relation == t.relation) cs) in
    elim (or_cases met v.every e) [
      | inl h ↦ or_left met w.every h
      | inr h ↦ or_right met w.every (i.every h)
    ]

-- Whatever is met on the right is reached.
pub right_there : (cs : List Pattern) (t : Fact) (v : Reach) (stands : Bool) → stands ≡ list_any (λ c. c.relation == t.relation) cs → (stands ≡ true → v.every ≡ true) → has_right v cs false t ≡ true
right_there cs t v true e h = or_right (not (list_any (λ c. c.relation == t.relation) cs)) v.every (h refl)
right_there cs t v false e h = or_left (not (list_any (λ c. c.relation == t.relation) cs)) v.every (ap not (sym e))

pub right_added : (cs : List Pattern) (b : Bool) (t : Fact) (v : Reach) → b ≡ true → has_right v cs b t ≡ true
right_added cs b t v e = ap (λ x. (x || not (list_any (λ c. c.relation == t.relation) cs)) || v.every) e

-- ---- impacts

pub impact_itself : (v : Impact) → IsImpactWithin v v
impact_itself v = record { forward = reach_itself v.forward; backward = reach_itself v.backward; asked = λ k e. e }

pub impact_more : (u v w : Impact) → IsImpactWithin u v → IsImpactWithin v w → IsImpactWithin u w
impact_more u v w i j = record {
  forward = reach_more u.forward v.forward w.forward i.forward j.forward;
  backward = reach_more u.backward v.backward w.backward i.backward j.backward;
  asked = λ k e. j.asked k (i.asked k e);
}

pub rule_still : (b : Bool) (t : Fact) (v w : Impact) (m : Rule) → IsImpactWithin v w → has_rule v b t m ≡ true → has_rule w b t m ≡ true
rule_still b t v w m i e =
    let one = and_parts (has_joins v.forward m.left m.left t && has_joins v.forward m.left m.right t) (has_joins v.backward m.right m.left t && has_right v.backward m.right b t) e in
    let ahead = and_parts (has_joins v.forward m.left m.left t) (has_joins v.forward m.left m.right t) one.0 in
    let back = and_parts (has_joins v.backward m.right m.left t) (has_right v.backward m.right b t) one.1 in
    both (has_joins w.forward m.left m.left t && has_joins w.forward m.left m.right t) (has_joins w.backward m.right m.left t && has_right w.backward m.right b t)
    (both (has_joins w.forward m.left m.left t) (has_joins w.forward m.left m.right t) (joins_still m.left m.left t v.forward w.forward i.forward ahead.0) (joins_still m.left m.right t v.forward w.forward i.forward ahead.1))
    (both (has_joins w.backward m.right m.left t) (has_right w.backward m.right b t) (joins_still m.right m.left t v.backward w.backward i.backward back.0) (right_still m.right b t v.backward w.backward i.backward back.1))

pub asked_still : (v w : Impact) (t : Fact) → IsImpactWithin v w → has_tuple_asked v t ≡ true → has_tuple_asked w t ≡ true
asked_still v w t i e =
    let parts = and_parts (has_spot v.asked (home t.relation)) (has_tuple v.asked t) e in
    both (has_spot w.asked (home t.relation)) (has_tuple w.asked t) (i.asked (home t.relation) parts.0) (values_still v.asked w.asked t.relation 0 t.values i.asked parts.1)

pub change_still : (ms : List Rule) (g : Sense) (v w : Impact) (c : Change) → IsImpactWithin v w → has_change v ms g c ≡ true → has_change w ms g c ≡ true
change_still ms g v w c i e =
    let parts = and_parts (has_tuple_asked v (tuple_of c)) (list_all (has_rule v (adds g c) (tuple_of c)) ms) e in
    both (has_tuple_asked w (tuple_of c)) (list_all (has_rule w (adds g c) (tuple_of c)) ms) (asked_still v w (tuple_of c) i parts.0)
    (all_still (has_rule v (adds g c) (tuple_of c)) (has_rule w (adds g c) (tuple_of c)) (λ m. rule_still (adds g c) (tuple_of c) v w m i) ms parts.1)
