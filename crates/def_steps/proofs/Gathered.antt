-- The tuples that `Occurs` finds for the nulls that a substitution moves are all that it changes, so what unifications and replacements write are rewritings.
use Rattle.std.specs.Prelude.{filter, find, unwrap_or}
use Rattle.std.proofs.Common.{◌≡◌, ap, refl, sym, ◌∙◌, List, [], ◌∷◌, ◌++◌, map, Bool, true, false, not, ◌||◌, ◌&&◌, cond, Some, inl, inr, pos}
use Rattle.std.specs.List.{list_any, list_all, flat_map}
use Rattle.std.specs.BTreeSet.{insert_key}
use Rattle.std.proofs.lemmas.Bool.{false≢true, or_cases, and_parts, both_ways, eq-eqb}
use Rattle.def_chase.specs.Values.{NullName, Datum, Number, Text, Unknown, Fact, null_cmp, same_datum, same_fact, under}
use Rattle.def_chase.specs.Repository.{Insert, has}
use Rattle.def_chase.specs.Specific.{more_specific}
use Rattle.def_chase.specs.Unifier.{unifier}
use Rattle.def_chase.specs.Queries.{is_named, holds_null}
use Rattle.def_steps.specs.Rewriting.{in_order, rewrite, replacing, null_of, same_null, distinct_from, nulls_in, sorted_nulls, moved_nulls, standing_for}
use Rattle.def_chase.proofs.Sets.{by_place, has-apply, same_exact, same_itself}
use Rattle.def_chase.proofs.Order.{null_exact}
use Rattle.def_chase.proofs.Learning.{same_datum_exact, same_datum_itself}
use Rattle.def_chase.proofs.Bools.{or_left, or_right, first_off}
use Rattle.def_chase.proofs.Walks.{among}
use Rattle.def_chase.specs.Caused.{KeepsConstants, Rewriting}
use Rattle.def_chase.proofs.Rewritings.{inserted_all}
use Rattle.def_chase.proofs.Unified.{unifier_others, unifier_constants}

abbrev pub listed : List NullName → NullName → Bool
listed ns n = list_any (same_null n) ns

-- ---- nulls

null_of_exact : (m n : NullName) → Unknown m ≡ Unknown n → m ≡ n
null_of_exact m n e = cc

pub same_null_exact : (m n : NullName) → same_null m n ≡ true → m ≡ n
same_null_exact m n e = null_of_exact m n (same_datum_exact (Unknown m) (Unknown n) e)

same_null_itself : (n : NullName) → same_null n n ≡ true
same_null_itself n = same_datum_itself (Unknown n)

filter_keeps : (p : NullName → Bool) (ns : List NullName) (n : NullName) → listed ns n ≡ true → p n ≡ true → listed (filter p ns) n ≡ true
filter_keeps p [] n e h = e
filter_keeps p (m ∷ ns) n e h = by (p m) refl (same_null n m) refl e (λ k. filter_keeps p ns n k h)
  where
    by : (b : Bool) → p m ≡ b → (c : Bool) → same_null n m ≡ c → (c || listed ns n) ≡ true → (listed ns n ≡ true → listed (filter p ns) n ≡ true) → listed (cond b (m ∷ filter p ns) (filter p ns)) n ≡ true
    by true q true s e rest = or_left (same_null n m) _ s
    by true q false s e rest = or_right (same_null n m) _ (rest e)
    by false q true s e rest = absurd (false≢true (sym q ∙ ap p (sym (same_null_exact n m s)) ∙ h))
    by false q false s e rest = rest e

insert_keeps : (ns : List NullName) (m n : NullName) → (same_null n m || listed ns n) ≡ true → listed (insert_key null_cmp ns m) n ≡ true
insert_keeps [] m n e = e
insert_keeps (l ∷ ns) m n e =
    by_place null_cmp (λ ks. listed ks n ≡ true) (null_cmp m l) (m ∷ l ∷ ns) (l ∷ ns) (l ∷ insert_key null_cmp ns m)
    (λ _. e)
    (λ q. elim (or_cases (same_null n m) (listed (l ∷ ns) n) e) [
      | inl s ↦ or_left (same_null n l) _ (ap (same_null n) (sym (null_exact m l q)) ∙ s)
      | inr s ↦ s
    ])
    (λ _. elim (or_cases (same_null n m) (listed (l ∷ ns) n) e) [
      | inl s ↦ or_right (same_null n l) _ (insert_keeps ns m n (or_left (same_null n m) _ s))
      | inr s ↦ elim (or_cases (same_null n l) (listed ns n) s) [
        | inl u ↦ or_left (same_null n l) _ u
        | inr u ↦ or_right (same_null n l) _ (insert_keeps ns m n (or_right (same_null n m) _ u))
      ]
    ])

sorted_keeps : (ns : List NullName) (n : NullName) → listed ns n ≡ true → listed (sorted_nulls ns) n ≡ true
sorted_keeps [] n e = e
sorted_keeps (m ∷ ns) n e =
    insert_keeps (sorted_nulls ns) m n (elim (or_cases (same_null n m) (listed ns n) e) [
      | inl s ↦ or_left (same_null n m) _ s
      | inr s ↦ or_right (same_null n m) _ (sorted_keeps ns n s)
    ])

pub distinct_keeps : (seen ns : List NullName) (n : NullName) → listed ns n ≡ true → listed seen n ≡ false → listed (distinct_from seen ns) n ≡ true
distinct_keeps seen [] n e h = e
distinct_keeps seen (m ∷ ns) n e h = by (listed seen m) refl (same_null n m) refl e (λ k. distinct_keeps seen ns n k h) (λ k l. distinct_keeps (m ∷ seen) ns n k l)
  where
    by : (b : Bool) → listed seen m ≡ b → (c : Bool) → same_null n m ≡ c → (c || listed ns n) ≡ true → (listed ns n ≡ true → listed (distinct_from seen ns) n ≡ true)
        → (listed ns n ≡ true → listed (m ∷ seen) n ≡ false → listed (distinct_from (m ∷ seen) ns) n ≡ true)
        → listed (cond b (distinct_from seen ns) (m ∷ distinct_from (m ∷ seen) ns)) n ≡ true
    by true q true s e skip take = absurd (both_ways (listed seen n) h (ap (listed seen) (same_null_exact n m s) ∙ q))
    by true q false s e skip take = skip e
    by false q true s e skip take = or_left (same_null n m) _ s
    by false q false s e skip take = or_right (same_null n m) _ (take e ((λ i. s i || listed seen n) ∙ h))

pub null_listed : (ds : List Datum) (n : NullName) → listed (flat_map null_of ds) n ≡ among ds (Unknown n)
null_listed [] n = refl
null_listed (Number i ∷ ds) n = null_listed ds n
null_listed (Text w ∷ ds) n = null_listed ds n
null_listed (Unknown m ∷ ds) n = ap (λ b. same_null n m || b) (null_listed ds n)

-- what is not among the moved nulls stays
pub moved_are_all : (t s : Fact) (n : NullName) → listed (moved_nulls t s) n ≡ false → unifier t s (Unknown n) ≡ Unknown n
moved_are_all t s n e = by (among t.values (Unknown n)) refl (same_datum (unifier t s (Unknown n)) (Unknown n)) refl
  where
    moves : NullName → Bool
    moves m = not (same_datum (unifier t s (Unknown m)) (Unknown m))

    by : (b : Bool) → among t.values (Unknown n) ≡ b → (c : Bool) → same_datum (unifier t s (Unknown n)) (Unknown n) ≡ c → unifier t s (Unknown n) ≡ Unknown n
    by b h true q = same_datum_exact (unifier t s (Unknown n)) (Unknown n) q
    by false h false q = unifier_others t s (Unknown n) h
    by true h false q =
        absurd (both_ways (listed (moved_nulls t s) n) e
        (filter_keeps (λ m. not (same_datum (unifier t s (Unknown m)) (Unknown m))) (sorted_nulls (nulls_in t.values)) n
        (sorted_keeps (nulls_in t.values) n (distinct_keeps [] (flat_map null_of t.values) n (null_listed t.values n ∙ h) refl)) (ap not q)))

-- ---- tuples

abbrev pub occurs : List Fact → NullName → List Fact
occurs E n = filter (holds_null n.update n.place) E

abbrev pub gathered : List Fact → List NullName → List Fact
gathered E ns = flat_map (occurs E) ns

pub has_filter : (q : Fact → Bool) (E : List Fact) (s : Fact) → has E s ≡ true → q s ≡ true → has (filter q E) s ≡ true
has_filter q [] s h e = h
has_filter q (u ∷ E) s h e = by (q u) refl (same_fact s u) refl h (λ k. has_filter q E s k e)
  where
    by : (b : Bool) → q u ≡ b → (c : Bool) → same_fact s u ≡ c → (c || has E s) ≡ true → (has E s ≡ true → has (filter q E) s ≡ true) → has (cond b (u ∷ filter q E) (filter q E)) s ≡ true
    by true f true g h rest = or_left (same_fact s u) _ g
    by true f false g h rest = or_right (same_fact s u) _ (rest h)
    by false f true g h rest = absurd (false≢true (sym f ∙ ap q (sym (same_exact s u g)) ∙ e))
    by false f false g h rest = rest h

has_join_left : (D E : List Fact) (s : Fact) → has D s ≡ true → has (D ++ E) s ≡ true
has_join_left [] E s h = absurd (false≢true h)
has_join_left (u ∷ D) E s h = elim (or_cases (same_fact s u) (has D s) h) [ inl e ↦ or_left (same_fact s u) _ e | inr e ↦ or_right (same_fact s u) _ (has_join_left D E s e) ]

has_join_right : (D E : List Fact) (s : Fact) → has E s ≡ true → has (D ++ E) s ≡ true
has_join_right [] E s h = h
has_join_right (u ∷ D) E s h = or_right (same_fact s u) _ (has_join_right D E s h)

pub has_in_order : (us : List Fact) (s : Fact) → has (in_order us) s ≡ has us s
has_in_order us s = has-apply [] (map Insert us) s ∙ inserted_all false us s ∙ or_no (has us s)
  where
    or_no : (b : Bool) → (b || false) ≡ b
    or_no true = refl
    or_no false = refl

has_under : (f : Datum → Datum) (us : List Fact) (s : Fact) → has us s ≡ true → has (map (under f) us) (under f s) ≡ true
has_under f [] s h = h
has_under f (u ∷ us) s h =
    elim (or_cases (same_fact s u) (has us s) h) [
      | inl e ↦ or_left (same_fact (under f s) (under f u)) _ (ap (λ (t : Fact). same_fact (under f s) (under f t)) (sym (same_exact s u e)) ∙ same_itself (under f s))
      | inr e ↦ or_right (same_fact (under f s) (under f u)) _ (has_under f us s e)
    ]

named_itself : (n : NullName) → is_named n.update n.place (Unknown n) ≡ true
named_itself n = (λ i. eq-eqb n.update n.update refl i && eq-eqb n.place n.place refl i)

named_among : (ds : List Datum) (n : NullName) → among ds (Unknown n) ≡ true → list_any (is_named n.update n.place) ds ≡ true
named_among [] n e = e
named_among (d ∷ ds) n e =
    elim (or_cases (same_datum (Unknown n) d) (among ds (Unknown n)) e) [
      | inl s ↦ or_left (is_named n.update n.place d) _ (ap (is_named n.update n.place) (sym (same_datum_exact (Unknown n) d s)) ∙ named_itself n)
      | inr s ↦ or_right (is_named n.update n.place d) _ (named_among ds n s)
    ]

in_gathered : (E : List Fact) (ns : List NullName) (n : NullName) (s : Fact) → has E s ≡ true → listed ns n ≡ true → among s.values (Unknown n) ≡ true → has (gathered E ns) s ≡ true
in_gathered E [] n s h l a = absurd (false≢true l)
in_gathered E (m ∷ ns) n s h l a =
    elim (or_cases (same_null n m) (listed ns n) l) [
      | inl e ↦ has_join_left (occurs E m) (gathered E ns) s (ap (λ (k : NullName). has (occurs E k) s) (sym (same_null_exact n m e))
          ∙ has_filter (holds_null n.update n.place) E s h (named_among s.values n a))
      | inr e ↦ has_join_right (occurs E m) (gathered E ns) s (in_gathered E ns n s h e a)
    ]

-- a substitution that leaves every null of the values leaves the values
values_stay : (f : Datum → Datum) → KeepsConstants f → (ds : List Datum) → ((n : NullName) → among ds (Unknown n) ≡ true → f (Unknown n) ≡ Unknown n) → map f ds ≡ ds
values_stay f c [] h = refl
values_stay f c (Number j ∷ ds) h = λ i. c.0 j i ∷ values_stay f c ds h i
values_stay f c (Text w ∷ ds) h = λ i. c.1 w i ∷ values_stay f c ds h i
values_stay f c (Unknown n ∷ ds) h =
    λ i. h n (or_left (same_null n n) _ (same_null_itself n)) i ∷ values_stay f c ds (λ m e. h m (or_right (same_null m n) _ e)) i

fact_stays : (f : Datum → Datum) (s : Fact) → map f s.values ≡ s.values → under f s ≡ s
fact_stays f s e = λ i. record { relation = s.relation; values = e i }

others_stay : (E : List Fact) (f : Datum → Datum) → KeepsConstants f → (ns : List NullName) → ((n : NullName) → listed ns n ≡ false → f (Unknown n) ≡ Unknown n)
    → (s : Fact) → has E s ≡ true → has (gathered E ns) s ≡ false → under f s ≡ s
others_stay E f c ns stays s h e = fact_stays f s (values_stay f c s.values (λ n a. by n a (listed ns n) refl))
  where
    by : (n : NullName) → among s.values (Unknown n) ≡ true → (b : Bool) → listed ns n ≡ b → f (Unknown n) ≡ Unknown n
    by n a true l = absurd (both_ways (has (gathered E ns) s) e (in_gathered E ns n s h l a))
    by n a false l = stays n l

images_there : (f : Datum → Datum) (from : List Fact) (t : Fact) → has from t ≡ true → has (in_order (map (under f) from)) (under f t) ≡ true
images_there f from t h = has_in_order (map (under f) from) (under f t) ∙ has_under f from t h

-- what a unification writes
pub unifying : (E : List Fact) (t s : Fact) → more_specific s t ≡ true → Rewriting E (rewrite (unifier t s) (in_order (gathered E (moved_nulls t s))))
unifying E t s e =
    record {
      by = unifier t s;
      constants = unifier_constants t s e;
      from = in_order (gathered E (moved_nulls t s));
      into = in_order (map (under (unifier t s)) (in_order (gathered E (moved_nulls t s))));
      are = refl;
      images = images_there (unifier t s) (in_order (gathered E (moved_nulls t s)));
      others = λ u h n.
          others_stay E (unifier t s) (unifier_constants t s e) (moved_nulls t s) (moved_are_all t s) u h (sym (has_in_order (gathered E (moved_nulls t s)) u) ∙ n);
    }

-- ---- replacing

abbrev pub names : NullName → Datum → Bool
names n = is_named n.update n.place

-- the null that a name stands for has that name
pub standing_named : (n : NullName) (ts : List Fact) → list_all (holds_null n.update n.place) ts ≡ true → (t : Fact) (rest : List Fact) → ts ≡ t ∷ rest → names n (standing_for n ts) ≡ true
standing_named n [] a t rest e = cc
standing_named n (s ∷ ts) a t rest e = found s.values (and_parts (holds_null n.update n.place s) (list_all (holds_null n.update n.place) ts) a).0
  where
    by : (d : Datum) (ds : List Datum) (b : Bool) → names n d ≡ b → (b || list_any (names n) ds) ≡ true → (list_any (names n) ds ≡ true → names n (unwrap_or (find (names n) ds) (Number (pos 0))) ≡ true)
        → names n (unwrap_or (cond b (Some d) (find (names n) ds)) (Number (pos 0))) ≡ true
    by d ds true f h rest = f
    by d ds false f h rest = rest h

    found : (ds : List Datum) → list_any (names n) ds ≡ true → names n (unwrap_or (find (names n) ds) (Number (pos 0))) ≡ true
    found [] h = absurd (false≢true h)
    found (d ∷ ds) h = by d ds (names n d) refl h (found ds)

named_apart : (n : NullName) (x d : Datum) → names n x ≡ true → names n d ≡ false → same_datum d x ≡ false
named_apart n x d e h = by (same_datum d x) refl
  where
    by : (b : Bool) → same_datum d x ≡ b → b ≡ false
    by false q = refl
    by true q = absurd (both_ways (names n d) h (ap (names n) (same_datum_exact d x q) ∙ e))

replaced_stays : (n : NullName) (x y d : Datum) → names n x ≡ true → names n d ≡ false → replacing x y d ≡ d
replaced_stays n x y d e h = ap (λ b. cond b y d) (named_apart n x d e h)

values_replaced : (n : NullName) (x y : Datum) (ds : List Datum) → names n x ≡ true → list_any (names n) ds ≡ false → map (replacing x y) ds ≡ ds
values_replaced n x y [] e h = refl
values_replaced n x y (d ∷ ds) e h =
    let p = first_off (names n d) (list_any (names n) ds) h in
    λ i. replaced_stays n x y d e p.0 i ∷ values_replaced n x y ds e p.1 i

-- A replacement of a null that stands somewhere is a rewriting.
pub replacement : (E : List Fact) (n : NullName) (x y : Datum) → names n x ≡ true → Rewriting E (rewrite (replacing x y) (occurs E n))
replacement E n x y named =
    record {
      by = replacing x y;
      constants = (λ i. replaced_stays n x y (Number i) named refl, λ w. replaced_stays n x y (Text w) named refl);
      from = occurs E n;
      into = in_order (map (under (replacing x y)) (occurs E n));
      are = refl;
      images = images_there (replacing x y) (occurs E n);
      others = λ s h e. fact_stays (replacing x y) s (values_replaced n x y s.values named (by s h e (holds_null n.update n.place s) refl));
    }
  where
    by : (s : Fact) → has E s ≡ true → has (occurs E n) s ≡ false → (b : Bool) → holds_null n.update n.place s ≡ b → b ≡ false
    by s h e false q = refl
    by s h e true q = absurd (both_ways (has (occurs E n) s) e (has_filter (holds_null n.update n.place) E s h q))
