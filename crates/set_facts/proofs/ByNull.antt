-- The index by nulls keeps up with the set.
use Rattle.std.proofs.Common.{◌≡◌, ◌<◌, ◌≤◌, ◌+◌, ℕ, ap, refl, sym, ◌∙◌, subst, List, [], ◌∷◌, ◌++◌, map, length, take, drop, get_or, Bool, true, false, ◌&&◌, ◌||◌, not, Option}
use Rattle.std.specs.List.{list_any}
use Rattle.std.specs.Prelude.{◌==◌, filter, find}
use Rattle.std.proofs.lemmas.Bool.{and_parts, eq-eqb, eqb-true}
use Rattle.std.proofs.lemmas.List.{map-append, take_all, take_more, take-append-drop}
use Rattle.def_chase.specs.Cursors.{is_beyond}
use Rattle.def_chase.specs.Queries.{is_named, holds_null}
use Rattle.def_chase.specs.Repository.{Insert, Delete, IsRepository, change, has}
use Rattle.def_chase.specs.Values.{NullName, Datum, Number, Text, Unknown, Fact, same_datum, same_fact}
use Rattle.def_chase.proofs.Bools.{differ, or_left}
use Rattle.def_chase.proofs.Learning.{same_datum_itself}
use Rattle.def_chase.proofs.Members.{has-filter}
use Rattle.def_chase.proofs.Searches.{any_join, find_same}
use Rattle.def_chase.proofs.Sets.{filter_in_order, same_repository}
use Rattle.base_types.specs.Candidates.{is_holding}
use Rattle.base_types.specs.Meanings.{datum_of, fact_of}
use Rattle.base_types.specs.declared.tuples.Tuple.{Tuple}
use Rattle.base_types.specs.declared.values.Value.{Value}
use Rattle.set_facts.specs.ByNull.{outer_null, holders_in, IsNullIndex, IsNullIndexBut, AddsHolder, AddsAtMostHolder, DropsHolder, AreSameHolders}
use Rattle.set_facts.specs.Indexes.{Kept, Adds, Drops}
use Rattle.set_facts.specs.Courses.{ahead}
use Rattle.set_facts.proofs.Courses.{above, all_ahead, beyond_follows, find_among}
use Rattle.set_facts.proofs.Groups.{or-false, same_exact}
use Rattle.set_facts.proofs.Keeping.{one_grows, one_shrinks, one_stays, one_swept, one_goes_on}

-- ---- one null

-- A null has the name exactly if its form by the first attempt is that of the name.
pub named_as : (u k : ℕ) (n : NullName) → same_datum (outer_null u k) (outer_null n.update n.place) ≡ is_named u k (Unknown n)
named_as u k n = each_way (same_datum (outer_null u k) (outer_null n.update n.place)) (is_named u k (Unknown n)) there back
  where
    update_in : Datum → ℕ
    update_in (Number i) = 0
    update_in (Text w) = 0
    update_in (Unknown m) = m.update

    place_in : Datum → ℕ
    place_in (Number i) = 0
    place_in (Text w) = 0
    place_in (Unknown m) = m.place

    each_way : (a b : Bool) → (a ≡ true → b ≡ true) → (b ≡ true → a ≡ true) → a ≡ b
    each_way true b f g = sym (f refl)
    each_way false true f g = g refl
    each_way false false f g = refl

    there : same_datum (outer_null u k) (outer_null n.update n.place) ≡ true → is_named u k (Unknown n) ≡ true
    there e =
        let same : outer_null u k ≡ outer_null n.update n.place = same_exact (outer_null u k) (outer_null n.update n.place) e in
        let by_update : (n.update == u) ≡ true = eq-eqb n.update u (sym (ap update_in same)) in
        let by_place : (n.place == k) ≡ true = eq-eqb n.place k (sym (ap place_in same)) in
        (λ i. by_update i && by_place i)

    back : is_named u k (Unknown n) ≡ true → same_datum (outer_null u k) (outer_null n.update n.place) ≡ true
    back e =
        let parts = and_parts (n.update == u) (n.place == k) e in
        (λ i. same_datum (outer_null u k) (outer_null (eqb-true n.update u parts.0 i) (eqb-true n.place k parts.1 i))) ∙ same_datum_itself (outer_null u k)

pub adds_named : (n : NullName) (t : Fact) (l m : Kept) → Adds (outer_null n.update n.place) t l m → AddsHolder (λ u k. is_named u k (Unknown n)) t l m
adds_named n t l m h u k s = h (outer_null u k) s ∙ ap (λ b. has (holders_in l u k) s || (b && same_fact s t)) (named_as u k n)

pub drops_named : (n : NullName) (t : Fact) (l m : Kept) → Drops (outer_null n.update n.place) t l m → DropsHolder (λ u k. is_named u k (Unknown n)) t l m
drops_named n t l m h u k s = h (outer_null u k) s ∙ ap (λ b. has (holders_in l u k) s && not (b && same_fact s t)) (named_as u k n)

-- ---- the values of a tuple

pub adds_none : (t : Fact) (m : Kept) → AddsHolder (λ u k. false) t m m
adds_none t m u k s = sym (or-false (has (holders_in m u k) s))

pub drops_none : (t : Fact) (m : Kept) → DropsHolder (λ u k. false) t m m
drops_none t m u k s = by (has (holders_in m u k) s)
  where
    by : (a : Bool) → a ≡ (a && true)
    by true = refl
    by false = refl

-- The nulls among the first values of a tuple.
abbrev pub named_before : ℕ → List Value → ℕ → ℕ → Bool
named_before i vs u k = list_any (is_named u k) (map datum_of (take i vs))

-- One value more.
pub named_next : (vs : List Value) (i : ℕ) (v : Value) (u k : ℕ) → i < length vs → v ≡ get_or vs i v → named_before (i + 1) vs u k ≡ (named_before i vs u k || is_named u k (datum_of v))
named_next vs i v u k h e =
    ap (λ (xs : List Value). list_any (is_named u k) (map datum_of xs)) (take_more vs i v h ∙ ap (λ (x : Value). take i vs ++ x ∷ []) (sym e))
    ∙ ap (list_any (is_named u k)) (map-append datum_of (take i vs) (v ∷ []))
    ∙ any_join (is_named u k) (map datum_of (take i vs)) (datum_of v ∷ [])
    ∙ ap (λ b. named_before i vs u k || b) (or-false (is_named u k (datum_of v)))

-- All values.
pub named_all : (t : Tuple) (vs : List Value) (i u k : ℕ) → length vs ≤ i → vs ≡ t.values.items → named_before i vs u k ≡ holds_null u k (fact_of t)
named_all t vs i u k h e = ap (λ (xs : List Value). list_any (is_named u k) (map datum_of xs)) (take_all i vs h ∙ e)

-- What is among the first is among all.
named_some : (t : Tuple) (vs : List Value) (i u k : ℕ) → vs ≡ t.values.items → named_before i vs u k ≡ true → holds_null u k (fact_of t) ≡ true
named_some t vs i u k e h =
    ap (λ (xs : List Value). list_any (is_named u k) (map datum_of xs)) (sym e ∙ sym (take-append-drop i vs))
    ∙ ap (list_any (is_named u k)) (map-append datum_of (take i vs) (drop i vs))
    ∙ any_join (is_named u k) (map datum_of (take i vs)) (map datum_of (drop i vs))
    ∙ or_left (named_before i vs u k) (list_any (is_named u k) (map datum_of (drop i vs))) h

pub added_next : (t : Fact) (p q r : ℕ → ℕ → Bool) (l m n : Kept) → ((u k : ℕ) → r u k ≡ (p u k || q u k)) → AddsHolder p t l m → AddsHolder q t m n → AddsHolder r t l n
added_next t p q r l m n e h g u k s =
    g u k s ∙ ap (λ b. b || (q u k && same_fact s t)) (h u k s) ∙ twice (has (holders_in l u k) s) (p u k) (q u k) (same_fact s t) ∙ ap (λ b. has (holders_in l u k) s || (b && same_fact s t)) (sym (e u k))
  where
    twice : (a x y z : Bool) → ((a || (x && z)) || (y && z)) ≡ (a || ((x || y) && z))
    twice true x y z = refl
    twice false true y true = refl
    twice false true true false = refl
    twice false true false false = refl
    twice false false y z = refl

pub dropped_next : (t : Fact) (p q r : ℕ → ℕ → Bool) (l m n : Kept) → ((u k : ℕ) → r u k ≡ (p u k || q u k)) → DropsHolder p t l m → DropsHolder q t m n → DropsHolder r t l n
dropped_next t p q r l m n e h g u k s =
    g u k s ∙ ap (λ b. b && not (q u k && same_fact s t)) (h u k s) ∙ twice (has (holders_in l u k) s) (p u k) (q u k) (same_fact s t) ∙ ap (λ b. has (holders_in l u k) s && not (b && same_fact s t)) (sym (e u k))
  where
    twice : (a x y z : Bool) → ((a && not (x && z)) && not (y && z)) ≡ (a && not ((x || y) && z))
    twice false x y z = refl
    twice true true y true = refl
    twice true true true false = refl
    twice true true false false = refl
    twice true false y z = refl

pub added_like : (t : Fact) (p q : ℕ → ℕ → Bool) (l m : Kept) → ((u k : ℕ) → p u k ≡ q u k) → AddsHolder p t l m → AddsHolder q t l m
added_like t p q l m e h u k s = h u k s ∙ ap (λ b. has (holders_in l u k) s || (b && same_fact s t)) (e u k)

pub dropped_like : (t : Fact) (p q : ℕ → ℕ → Bool) (l m : Kept) → ((u k : ℕ) → p u k ≡ q u k) → DropsHolder p t l m → DropsHolder q t l m
dropped_like t p q l m e h u k s = h u k s ∙ ap (λ b. has (holders_in l u k) s && not (b && same_fact s t)) (e u k)

-- ---- a tuple that is added in part

most : (a x y z m : Bool) → (x ≡ true → y ≡ true) → m ≡ (a || (x && z)) → m ≡ (a || ((y && z) && m))
most a x y z m f e = subst (λ (w : Bool). w ≡ (a || ((y && z) && w))) (sym e) (by a x y z f)
  where
    by : (a x y z : Bool) → (x ≡ true → y ≡ true) → (a || (x && z)) ≡ (a || ((y && z) && (a || (x && z))))
    by true x y z f = refl
    by false true true true f = refl
    by false true true false f = refl
    by false true false z f = differ (f refl)
    by false false true true f = refl
    by false false true false f = refl
    by false false false z f = refl

-- Where the tuple is kept at its first nulls alone, nothing else is.
pub added_in_part : (t : Tuple) (vs : List Value) (i : ℕ) (l m n : Kept) → vs ≡ t.values.items → AddsHolder (named_before i vs) (fact_of t) l m → AreSameHolders m n → AddsAtMostHolder (fact_of t) l n
added_in_part t vs i l m n e h same u k s =
    subst (λ (G : List Fact). has G s ≡ (has (holders_in l u k) s || ((holds_null u k (fact_of t) && same_fact s (fact_of t)) && has G s))) (sym (same u k))
    (most (has (holders_in l u k) s) (named_before i vs u k) (holds_null u k (fact_of t)) (same_fact s (fact_of t)) (has (holders_in m u k) s) (named_some t vs i u k e) (h u k s))

-- What was added at each null was added at most.
pub added_at_most : (t : Fact) (l m : Kept) → AddsHolder (λ u k. holds_null u k t) t l m → AddsAtMostHolder t l m
added_at_most t l m h u k s = most (has (holders_in l u k) s) (holds_null u k t) (holds_null u k t) (same_fact s t) (has (holders_in m u k) s) (λ e. e) (h u k s)

-- ---- the set

pub nulls_grow : (D : List Fact) (l m : Kept) (t : Fact) → IsNullIndex D l → AddsHolder (λ u k. holds_null u k t) t l m → IsNullIndex (change D (Insert t)) m
nulls_grow D l m t x h u k s = one_grows (holds_null u k) D t s (has (holders_in l u k) s) (has (holders_in m u k) s) (x u k s) (h u k s)

pub nulls_shrink : (D : List Fact) (l m : Kept) (t : Fact) → IsNullIndex D l → DropsHolder (λ u k. holds_null u k t) t l m → IsNullIndex (change D (Delete t)) m
nulls_shrink D l m t x h u k s = one_shrinks (holds_null u k) D t s (has (holders_in l u k) s) (has (holders_in m u k) s) (x u k s) (h u k s)

pub nulls_but : (D : List Fact) (l m : Kept) (t : Fact) → IsNullIndex D l → AddsAtMostHolder t l m → IsNullIndexBut D t m
nulls_but D l m t x h u k s = h u k s ∙ ap (λ b. b || ((holds_null u k t && same_fact s t) && has (holders_in m u k) s)) (x u k s)

pub nulls_stay : (D : List Fact) (m : Kept) (t : Fact) → IsNullIndexBut D t m → has D t ≡ true → IsNullIndex D m
nulls_stay D m t x e u k s = one_stays (holds_null u k) D t s (has (holders_in m u k) s) (x u k s) e

pub nulls_swept : (D : List Fact) (m n : Kept) (t : Fact) → IsNullIndexBut D t m → DropsHolder (λ u k. holds_null u k t) t m n → has D t ≡ false → IsNullIndex D n
nulls_swept D m n t x h e u k s = one_swept (holds_null u k) D t s (has (holders_in m u k) s) (has (holders_in n u k) s) (x u k s) (h u k s) e

-- All tuples that are not left are kept.
abbrev pub IsNullIndexTo : List Fact → List Fact → Kept → Type 0
IsNullIndexTo D left m = (u k : ℕ) (s : Fact) → (has (holders_in m u k) s || (has left s && holds_null u k s)) ≡ (has D s && holds_null u k s)

pub nulls_go_on : (D left rest : List Fact) (l m : Kept) (t : Fact) → left ≡ t ∷ rest → AddsHolder (λ u k. holds_null u k t) t l m → IsNullIndexTo D left l → IsNullIndexTo D rest m
nulls_go_on D left rest l m t e h x u k s =
    one_goes_on (holds_null u k) D left rest t s (has (holders_in l u k) s) (has (holders_in m u k) s) e (h u k s) (x u k s)

-- ---- what is asked

-- What comes next among those that hold the null is what is looked for in the set.
pub holding_kept : (D : List Fact) (m : Kept) (u k : ℕ) (past : Option Fact) (G : List Fact) (o : Option Fact) → IsRepository D → IsNullIndex D m → G ≡ holders_in m u k → IsRepository G → o ≡ find (is_beyond past) G
    → o ≡ find (is_holding u k past) D
holding_kept D m u k past G o order x e sorted h =
    h
    ∙ ap (find (is_beyond past)) (same_repository G (filter (holds_null u k) D) sorted (filter_in_order (holds_null u k) D order) (λ s. ap (λ (l : List Fact). has l s) e ∙ x u k s ∙ sym (has-filter (holds_null u k) D s)))
    ∙ find_among (holds_null u k) (is_beyond past) D
    ∙ find_same (λ s. holds_null u k s && is_beyond past s) (is_holding u k past) (λ s. turn (holds_null u k s) (is_beyond past s)) D
  where
    turn : (a b : Bool) → (a && b) ≡ (b && a)
    turn true true = refl
    turn true false = refl
    turn false true = refl
    turn false false = refl

-- A cursor that begins above the given tuple has what is looked for ahead.
pub holding_begins : (u k : ℕ) (past : Option Fact) (D : List Fact) (o : Option Fact) → IsRepository D → o ≡ find (is_beyond past) D → find (holds_null u k) (ahead above D o) ≡ find (is_holding u k past) D
holding_begins u k past D o s e = ap (find (holds_null u k)) (all_ahead (is_beyond past) above D (beyond_follows past) s o e) ∙ find_among (is_beyond past) (holds_null u k) D
