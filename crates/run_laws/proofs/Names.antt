-- Under other names for its nulls a repository is one again, and a way leads back.
use Rattle.std.specs.Prelude.{find, unwrap_or, flat_map}
use Rattle.std.proofs.Common.{◌≡◌, ap, refl, sym, ◌∙◌, subst, List, [], ◌∷◌, map, Bool, true, false, ◌||◌, Option, Some, None, is_some, ℕ, ℤ}
use Rattle.std.specs.Ordering.{nat_cmp, ordering_then}
use Rattle.std.specs.Cmp.Lexicographic.{slice_cmp}
use Rattle.std.specs.declared.cmp.Ordering.TheVariants.{Less}
use Rattle.std.specs.List.{list_any, list_all, AllByRecursion}
use Rattle.std.specs.List.Sorted.{IsStrictlySortedBy}
use Rattle.std.proofs.lemmas.Bool.{and_parts, both_ways}
use Rattle.def_chase.specs.Values.{NullName, Datum, Number, Text, Unknown, Fact, datum_cmp, fact_cmp, same_datum, same_fact, under}
use Rattle.def_chase.specs.Repository.{IsRepository, has}
use Rattle.def_chase.specs.Caused.{KeepsConstants}
use Rattle.def_chase.proofs.Bools.{both, differ, or_left, or_right}
use Rattle.def_chase.proofs.Sets.{same_exact, same_itself}
use Rattle.def_chase.proofs.Members.{each_has}
use Rattle.def_chase.proofs.Searches.{found_any, found_passes, any_join, all_join}
use Rattle.def_chase.proofs.Learning.{same_datum_exact, same_datum_itself}
use Rattle.def_steps.specs.Origins.{stands_in}
use Rattle.def_steps.proofs.Passing.{all_weaker, found_passes_all}
use Rattle.run_laws.specs.Renamed.{renamed_value, renamed, IsRenamed}

pub naming_keeps : (name : NullName → NullName) → KeepsConstants (renamed_value name)
naming_keeps name = (λ i. refl, λ w. refl)

-- ---- what stands there

values_stand : (ds es : List Datum) → ((d : Datum) → list_any (same_datum d) ds ≡ true → list_any (same_datum d) es ≡ true) → list_all (λ d. list_any (same_datum d) es) ds ≡ true
values_stand [] es h = refl
values_stand (d ∷ ds) es h =
    both (list_any (same_datum d) es) (list_all (λ x. list_any (same_datum x) es) ds) (h d (or_left (same_datum d d) _ (same_datum_itself d)))
    (values_stand ds es (λ x e. h x (or_right (same_datum x d) _ e)))

-- the values of a tuple stand in the tuples among which it is
pub member_stands : (D : List Fact) (t : Fact) → has D t ≡ true → list_all (stands_in D) t.values ≡ true
member_stands [] t h = differ h
member_stands (u ∷ D) t h = by (same_fact t u) refl h (λ g. member_stands D t g)
  where
    later : list_all (stands_in D) t.values ≡ true → list_all (stands_in (u ∷ D)) t.values ≡ true
    later g = all_weaker (stands_in D) (stands_in (u ∷ D)) (λ d e. or_right (list_any (same_datum d) u.values) _ e) t.values g

    here : t ≡ u → list_all (stands_in (u ∷ D)) t.values ≡ true
    here e =
        all_weaker (λ d. list_any (same_datum d) t.values) (stands_in (u ∷ D))
        (λ d f. or_left (list_any (same_datum d) u.values) (stands_in D d) (ap (λ (s : Fact). list_any (same_datum d) s.values) (sym e) ∙ f)) t.values (values_stand t.values t.values (λ d f. f))

    by : (b : Bool) → same_fact t u ≡ b → (b || has D t) ≡ true → (has D t ≡ true → list_all (stands_in D) t.values ≡ true) → list_all (stands_in (u ∷ D)) t.values ≡ true
    by true e g rest = here (same_exact t u e)
    by false e g rest = later (rest g)

module _ (D E : List Fact) (r : IsRenamed D E) where
  -- ---- the order

  value_order : (x y : Datum) → stands_in D x ≡ true → stands_in D y ≡ true → datum_cmp (renamed_value r.name x) (renamed_value r.name y) ≡ datum_cmp x y
  value_order (Number i) (Number j) e f = refl
  value_order (Number i) (Text w) e f = refl
  value_order (Number i) (Unknown n) e f = refl
  value_order (Text v) (Number j) e f = refl
  value_order (Text v) (Text w) e f = refl
  value_order (Text v) (Unknown n) e f = refl
  value_order (Unknown m) (Number j) e f = refl
  value_order (Unknown m) (Text w) e f = refl
  value_order (Unknown m) (Unknown n) e f = r.in_order m n e f

  values_order : (xs ys : List Datum) → list_all (stands_in D) xs ≡ true → list_all (stands_in D) ys ≡ true → slice_cmp datum_cmp (map (renamed_value r.name) xs) (map (renamed_value r.name) ys) ≡ slice_cmp datum_cmp xs ys
  values_order [] [] e f = refl
  values_order [] (y ∷ ys) e f = refl
  values_order (x ∷ xs) [] e f = refl
  values_order (x ∷ xs) (y ∷ ys) e f =
      let p = and_parts (stands_in D x) (list_all (stands_in D) xs) e in
      let q = and_parts (stands_in D y) (list_all (stands_in D) ys) f in
      λ i. ordering_then (value_order x y p.0 q.0 i) (values_order xs ys p.1 q.1 i)

  tuples_order : (t u : Fact) → list_all (stands_in D) t.values ≡ true → list_all (stands_in D) u.values ≡ true → fact_cmp (under (renamed_value r.name) t) (under (renamed_value r.name) u) ≡ fact_cmp t u
  tuples_order t u e f = ap (ordering_then (nat_cmp t.relation u.relation)) (values_order t.values u.values e f)

  -- ---- members

  -- a tuple of D is there under other names
  pub there_renamed : (ts : List Fact) (t : Fact) → has ts t ≡ true → has (renamed r.name ts) (under (renamed_value r.name) t) ≡ true
  there_renamed [] t h = h
  there_renamed (u ∷ ts) t h = by (same_fact t u) refl h (λ g. there_renamed ts t g)
    where
      by : (b : Bool) → same_fact t u ≡ b → (b || has ts t) ≡ true → (has ts t ≡ true → has (renamed r.name ts) (under (renamed_value r.name) t) ≡ true)
          → has (renamed r.name (u ∷ ts)) (under (renamed_value r.name) t) ≡ true
      by true e g rest =
          or_left (same_fact (under (renamed_value r.name) t) (under (renamed_value r.name) u)) _
          (ap (λ (s : Fact). same_fact (under (renamed_value r.name) t) (under (renamed_value r.name) s)) (sym (same_exact t u e)) ∙ same_itself (under (renamed_value r.name) t))
      by false e g rest = or_right (same_fact (under (renamed_value r.name) t) (under (renamed_value r.name) u)) _ (rest g)

  -- the tuple of D that one is under other names
  pub record Origin (ts : List Fact) (t : Fact) : Type 0 where
    pub of : Fact
    pub there : has ts of ≡ true
    pub same : under (renamed_value r.name) of ≡ t

  pub renamed_origin : (ts : List Fact) (t : Fact) → has (renamed r.name ts) t ≡ true → Origin ts t
  renamed_origin [] t h = differ h
  renamed_origin (u ∷ ts) t h = by (same_fact t (under (renamed_value r.name) u)) refl h (λ g. renamed_origin ts t g)
    where
      by : (b : Bool) → same_fact t (under (renamed_value r.name) u) ≡ b → (b || has (renamed r.name ts) t) ≡ true → (has (renamed r.name ts) t ≡ true → Origin ts t) → Origin (u ∷ ts) t
      by true e g rest = record { of = u; there = or_left (same_fact u u) _ (same_itself u); same = sym (same_exact t (under (renamed_value r.name) u) e) }
      by false e g rest = let o : Origin ts t = rest g in record { of = o.of; there = or_right (same_fact o.of u) _ o.there; same = o.same }

  -- ---- in order

  -- what follows a tuple follows it under other names
  less_renamed : (t : Fact) (us : List Fact) → has D t ≡ true → AllByRecursion (λ u. has D u ≡ true) us → AllByRecursion (λ u. fact_cmp t u ≡ Less) us
      → AllByRecursion (λ u. fact_cmp (under (renamed_value r.name) t) u ≡ Less) (renamed r.name us)
  less_renamed t [] h a l = tt
  less_renamed t (u ∷ us) h a l = (tuples_order t u (member_stands D t h) (member_stands D u a.0) ∙ l.0, less_renamed t us h a.1 l.1)

  sorted_renamed : (ts : List Fact) → AllByRecursion (λ u. has D u ≡ true) ts → IsStrictlySortedBy fact_cmp ts → IsStrictlySortedBy fact_cmp (renamed r.name ts)
  unfolding IsStrictlySortedBy
  sorted_renamed [] a s = s
  sorted_renamed (t ∷ ts) a s = (less_renamed t ts a.0 a.1 s.0, sorted_renamed ts a.1 s.1)

  pub renamed_repository : IsRepository D → IsRepository E
  renamed_repository s = subst (λ ts. IsRepository ts) (sym r.same) (sorted_renamed D (each_has D) s)

  -- ---- the way back

  -- the value of D that one is under other names; where there is none, the value itself
  abbrev pub back : Datum → Datum
  back d = unwrap_or (find (λ x. same_datum (renamed_value r.name x) d) (flat_map (λ (t : Fact). t.values) D)) d

  back_at : (d : Datum) (P : Datum → Type 0) → P d → ((x : Datum) → find (λ x. same_datum (renamed_value r.name x) d) (flat_map (λ (t : Fact). t.values) D) ≡ Some x → renamed_value r.name x ≡ d → P x) → P (back d)
  back_at d P none some = by (find (λ x. same_datum (renamed_value r.name x) d) (flat_map (λ (t : Fact). t.values) D)) refl
    where
      by : (o : Option Datum) → find (λ x. same_datum (renamed_value r.name x) d) (flat_map (λ (t : Fact). t.values) D) ≡ o → P (unwrap_or o d)
      by None e = none
      by (Some x) e = some x e (same_datum_exact (renamed_value r.name x) d (found_passes (λ x. same_datum (renamed_value r.name x) d) (flat_map (λ (t : Fact). t.values) D) x e))

  pub back_keeps : KeepsConstants back
  back_keeps = (λ i. back_at (Number i) (λ x. x ≡ Number i) refl (λ x e f. number x i f), λ w. back_at (Text w) (λ x. x ≡ Text w) refl (λ x e f. word x w f))
    where
      number : (x : Datum) (i : ℤ) → renamed_value r.name x ≡ Number i → x ≡ Number i
      number (Number j) i f = f
      number (Text w) i f = cc
      number (Unknown n) i f = cc

      word : (x : Datum) (w : List ℕ) → renamed_value r.name x ≡ Text w → x ≡ Text w
      word (Number j) w f = cc
      word (Text u) w f = f
      word (Unknown n) w f = cc

  -- no two values that stand in D are one under other names
  one_value : (x y : Datum) → stands_in D x ≡ true → stands_in D y ≡ true → renamed_value r.name x ≡ renamed_value r.name y → x ≡ y
  one_value (Number i) (Number j) e f h = h
  one_value (Number i) (Text w) e f h = cc
  one_value (Number i) (Unknown n) e f h = cc
  one_value (Text v) (Number j) e f h = cc
  one_value (Text v) (Text w) e f h = h
  one_value (Text v) (Unknown n) e f h = cc
  one_value (Unknown m) (Number j) e f h = cc
  one_value (Unknown m) (Text w) e f h = cc
  one_value (Unknown m) (Unknown n) e f h = ap Unknown (r.apart m n e f (let same : r.name m ≡ r.name n = cc in same))

  listed_stand : (ts : List Fact) → AllByRecursion (λ t. has D t ≡ true) ts → AllByRecursion (λ x. stands_in D x ≡ true) (flat_map (λ (t : Fact). t.values) ts)
  listed_stand [] a = tt
  listed_stand (t ∷ ts) a = all_join (λ x. stands_in D x ≡ true) t.values (flat_map (λ (t : Fact). t.values) ts) (each t.values (member_stands D t a.0)) (listed_stand ts a.1)
    where
      each : (ds : List Datum) → list_all (stands_in D) ds ≡ true → AllByRecursion (λ x. stands_in D x ≡ true) ds
      each [] h = tt
      each (d ∷ ds) h = let e = and_parts (stands_in D d) (list_all (stands_in D) ds) h in (e.0, each ds e.1)

  -- what stands in some tuples is found among their values
  listed_found : (p : Datum → Bool) (x : Datum) → ((y : Datum) → same_datum x y ≡ true → p y ≡ true) → (ts : List Fact) → stands_in ts x ≡ true → list_any p (flat_map (λ (t : Fact). t.values) ts) ≡ true
  listed_found p x h [] e = e
  listed_found p x h (t ∷ ts) e = any_join p t.values (flat_map (λ (t : Fact). t.values) ts) ∙ by (list_any (same_datum x) t.values) refl e (λ f. listed_found p x h ts f)
    where
      within : (ds : List Datum) → list_any (same_datum x) ds ≡ true → list_any p ds ≡ true
      within [] f = f
      within (d ∷ ds) f = at (same_datum x d) refl f (within ds)
        where
          at : (b : Bool) → same_datum x d ≡ b → (b || list_any (same_datum x) ds) ≡ true → (list_any (same_datum x) ds ≡ true → list_any p ds ≡ true) → (p d || list_any p ds) ≡ true
          at true g k rest = or_left (p d) (list_any p ds) (h d g)
          at false g k rest = or_right (p d) (list_any p ds) (rest k)

      by : (b : Bool) → list_any (same_datum x) t.values ≡ b → (b || stands_in ts x) ≡ true → (stands_in ts x ≡ true → list_any p (flat_map (λ (t : Fact). t.values) ts) ≡ true)
          → (list_any p t.values || list_any p (flat_map (λ (t : Fact). t.values) ts)) ≡ true
      by true f g rest = or_left (list_any p t.values) _ (within t.values f)
      by false f g rest = or_right (list_any p t.values) _ (rest g)

  -- The way leads back.
  pub back_of : (x : Datum) → stands_in D x ≡ true → back (renamed_value r.name x) ≡ x
  back_of x h = by (find (λ y. same_datum (renamed_value r.name y) (renamed_value r.name x)) (flat_map (λ (t : Fact). t.values) D)) refl
    where
      passes : (y : Datum) → same_datum x y ≡ true → same_datum (renamed_value r.name y) (renamed_value r.name x) ≡ true
      passes y e = ap (λ z. same_datum (renamed_value r.name z) (renamed_value r.name x)) (sym (same_datum_exact x y e)) ∙ same_datum_itself (renamed_value r.name x)

      there : is_some (find (λ y. same_datum (renamed_value r.name y) (renamed_value r.name x)) (flat_map (λ (t : Fact). t.values) D)) ≡ true
      there =
          found_any (λ y. same_datum (renamed_value r.name y) (renamed_value r.name x)) (flat_map (λ (t : Fact). t.values) D)
          ∙ listed_found (λ y. same_datum (renamed_value r.name y) (renamed_value r.name x)) x passes D h

      by : (o : Option Datum) → find (λ y. same_datum (renamed_value r.name y) (renamed_value r.name x)) (flat_map (λ (t : Fact). t.values) D) ≡ o → unwrap_or o (renamed_value r.name x) ≡ x
      by None e = absurd (both_ways (is_some (find (λ y. same_datum (renamed_value r.name y) (renamed_value r.name x)) (flat_map (λ (t : Fact). t.values) D))) (ap is_some e) there)
      by (Some y) e =
          one_value y x
          (found_passes_all (λ z. stands_in D z ≡ true) (λ y. same_datum (renamed_value r.name y) (renamed_value r.name x)) (flat_map (λ (t : Fact). t.values) D) y (listed_stand D (each_has D)) e) h
          (same_datum_exact (renamed_value r.name y) (renamed_value r.name x) (found_passes (λ y. same_datum (renamed_value r.name y) (renamed_value r.name x)) (flat_map (λ (t : Fact). t.values) D) y e))

  -- So does it for a tuple of D.
  pub tuple_back : (t : Fact) → has D t ≡ true → under back (under (renamed_value r.name) t) ≡ t
  tuple_back t h = ap (λ ds. record { relation = t.relation; values = ds }) (each t.values (member_stands D t h))
    where
      each : (ds : List Datum) → list_all (stands_in D) ds ≡ true → map back (map (renamed_value r.name) ds) ≡ ds
      each [] e = refl
      each (d ∷ ds) e = let p = and_parts (stands_in D d) (list_all (stands_in D) ds) e in λ i. back_of d p.0 i ∷ each ds p.1 i
