-- What is logged of writes that pass: writes of tuples of the relations, which make of what is told of one repository what is told of the other.
use Rattle.std.specs.Prelude.{◌-◌}
use Rattle.std.proofs.Common.{◌≡◌, ℕ, ◌≤◌, ◌<◌, ◌^◌, ◌==◌, ◌&&◌, ◌||◌, not, ap, refl, sym, ◌∙◌, subst, List, [], ◌∷◌, ◌++◌, map, Bool, true, false, cond, arith}
use Rattle.std.specs.BTreeSet.{insert_key}
use Rattle.std.specs.List.{list_all, AllByRecursion}
use Rattle.std.proofs.lemmas.Bool.{and_parts}
use Rattle.def_chase.specs.Mappings.{force_relation}
use Rattle.def_chase.specs.Repository.{Change, Insert, Delete, IsRepository, has, change, apply}
use Rattle.def_chase.specs.Values.{Datum, Number, Text, Unknown, Fact, fact_cmp, same_fact, outer, outer_datum}
use Rattle.def_chase.proofs.Bools.{differ}
use Rattle.def_chase.proofs.Members.{has-filter}
use Rattle.def_chase.proofs.Sets.{has-insert, has-delete, same_exact, same_repository, insert_in_order, filter_in_order, apply_in_order}
use Rattle.def_steps.specs.Serial.{answered}
use Rattle.def_steps.proofs.Steady.{apply_join}
use Rattle.def_language.specs.Lone.{IsTuple}
use Rattle.def_language.specs.Sessions.{RelationSchema}
use Rattle.def_language.specs.Validity.{IsValue, IsFact}
use Rattle.run_laws.proofs.Closed.{is_plain, write_passes}
use Rattle.run_laws.proofs.Fitting.{fits, fact_is}
use Rattle.run_journal.specs.Format.{IsWrite, logged, logged_one}

-- ---- outer forms

outer_value : (most : ℕ) (d : Datum) → IsValue most d → outer_datum d ≡ d
outer_value most (Number z) h = refl
outer_value most (Text w) h = refl
outer_value most (Unknown n) h = ap (λ a. Unknown record { update = n.update; attempt = a; place = n.place }) (sym h.0)

outer_values : (most : ℕ) (ds : List Datum) → AllByRecursion (IsValue most) ds → map outer_datum ds ≡ ds
outer_values most [] h = refl
outer_values most (d ∷ ds) h = λ i. outer_value most d h.0 i ∷ outer_values most ds h.1 i

-- a tuple of the relations is in its outer form
outer_is : (rs : List RelationSchema) (most : ℕ) (t : Fact) → IsFact rs most t → outer t ≡ t
outer_is rs most t h = ap (λ ds. record { relation = t.relation; values = ds }) (outer_values most t.values h.1)

wide_value : (most : ℕ) (d : Datum) → most ≤ 2 ^ 32 - 1 → IsValue most d → IsValue (2 ^ 32 - 1) d
wide_value most (Number z) l h = h
wide_value most (Text w) l h = h
wide_value most (Unknown n) l h = let update : n.update ≤ most = h.1 in (h.0, omega (arith, l), h.2)

wide_values : (most : ℕ) (ds : List Datum) → most ≤ 2 ^ 32 - 1 → AllByRecursion (IsValue most) ds → AllByRecursion (IsValue (2 ^ 32 - 1)) ds
wide_values most [] l h = tt
wide_values most (d ∷ ds) l h = (wide_value most d l h.0, wide_values most ds l h.1)

outer_tuple : (rs : List RelationSchema) (most : ℕ) (t : Fact) → most ≤ 2 ^ 32 - 1 → IsFact rs most t → IsTuple rs (outer t)
outer_tuple rs most t l h = subst (IsTuple rs) (sym (outer_is rs most t h)) (h.0, wide_values most t.values l h.1)

-- ---- one write

hidden : (a h b : Bool) → (a ≡ true → b ≡ false) → ((a || h) && b) ≡ (h && b)
hidden true h true f = differ (sym (f refl))
hidden true true false f = refl
hidden true false false f = refl
hidden false h b f = refl

shown : (a h b : Bool) → (a ≡ true → b ≡ true) → ((a || h) && b) ≡ (a || (h && b))
shown true h true f = refl
shown true h false f = differ (f refl)
shown false h b f = refl

gone : (h n b : Bool) → ((h && n) && b) ≡ ((h && b) && n)
gone true true true = refl
gone true true false = refl
gone true false true = refl
gone true false false = refl
gone false n b = refl

-- an insertion that is not told
insert_hidden : (D : List Fact) (t : Fact) → IsRepository D → is_plain t ≡ false → answered (insert_key fact_cmp D t) ≡ answered D
insert_hidden D t o e =
    same_repository (answered (insert_key fact_cmp D t)) (answered D) (filter_in_order is_plain (insert_key fact_cmp D t) (insert_in_order D t o)) (filter_in_order is_plain D o)
    (λ u. has-filter is_plain (insert_key fact_cmp D t) u ∙ ap (λ b. b && is_plain u) (has-insert D t u)
    ∙ hidden (same_fact u t) (has D u) (is_plain u) (λ f. ap is_plain (same_exact u t f) ∙ e) ∙ sym (has-filter is_plain D u))

insert_shown : (D : List Fact) (t : Fact) → IsRepository D → is_plain t ≡ true → answered (insert_key fact_cmp D t) ≡ insert_key fact_cmp (answered D) t
insert_shown D t o e =
    same_repository (answered (insert_key fact_cmp D t)) (insert_key fact_cmp (answered D) t)
    (filter_in_order is_plain (insert_key fact_cmp D t) (insert_in_order D t o)) (insert_in_order (answered D) t (filter_in_order is_plain D o))
    (λ u. has-filter is_plain (insert_key fact_cmp D t) u ∙ ap (λ b. b && is_plain u) (has-insert D t u)
    ∙ shown (same_fact u t) (has D u) (is_plain u) (λ f. ap is_plain (same_exact u t f) ∙ e)
    ∙ ap (λ b. same_fact u t || b) (sym (has-filter is_plain D u)) ∙ sym (has-insert (answered D) t u))

delete_shown : (D : List Fact) (t : Fact) → IsRepository D → answered (change D (Delete t)) ≡ change (answered D) (Delete t)
delete_shown D t o =
    same_repository (answered (change D (Delete t))) (change (answered D) (Delete t))
    (filter_in_order is_plain (change D (Delete t)) (filter_in_order (λ s. not (same_fact t s)) D o)) (filter_in_order (λ s. not (same_fact t s)) (answered D) (filter_in_order is_plain D o))
    (λ u. has-filter is_plain (change D (Delete t)) u ∙ ap (λ b. b && is_plain u) (has-delete D t u)
    ∙ gone (has D u) (not (same_fact u t)) (is_plain u)
    ∙ ap (λ b. b && not (same_fact u t)) (sym (has-filter is_plain D u)) ∙ sym (has-delete (answered D) t u))

module _ (rs : List RelationSchema) (most k : ℕ) (wide : most ≤ 2 ^ 32 - 1) (few : k < 2 ^ 32) where
  -- it is logged as a write of a tuple of the relations
  one_logged : (w : Change) → write_passes (fits rs most) k w ≡ true → AllByRecursion (IsWrite rs) (logged_one w)
  one_logged (Insert t) h = by (t.relation == force_relation) refl
    where
      by : (b : Bool) → (t.relation == force_relation) ≡ b → AllByRecursion (IsWrite rs) (cond b [] (Insert (outer t) ∷ []))
      by true e = tt
      by false e = (outer_tuple rs most t wide (fact_is rs most k t few h (ap not e)), tt)
  one_logged (Delete t) h = by (t.relation == force_relation) refl
    where
      by : (b : Bool) → (t.relation == force_relation) ≡ b → AllByRecursion (IsWrite rs) (cond b [] (Delete (outer t) ∷ []))
      by true e = tt
      by false e = (outer_tuple rs most t wide (fact_is rs most k t few (and_parts (fits rs most k t) (is_plain t) h).0 (ap not e)), tt)

  -- what it makes of a repository, what is logged of it makes of what is told of that
  one_told : (D : List Fact) (w : Change) → IsRepository D → write_passes (fits rs most) k w ≡ true → answered (change D w) ≡ apply (answered D) (logged_one w)
  one_told D (Insert t) o h = by (t.relation == force_relation) refl
    where
      by : (b : Bool) → (t.relation == force_relation) ≡ b → answered (insert_key fact_cmp D t) ≡ apply (answered D) (cond b [] (Insert (outer t) ∷ []))
      by true e = insert_hidden D t o (ap not e)
      by false e = insert_shown D t o (ap not e) ∙ ap (insert_key fact_cmp (answered D)) (sym (outer_is rs most t (fact_is rs most k t few h (ap not e))))
  one_told D (Delete t) o h = by (t.relation == force_relation) refl (and_parts (fits rs most k t) (is_plain t) h)
    where
      by : (b : Bool) → (t.relation == force_relation) ≡ b → (fits rs most k t ≡ true) × (is_plain t ≡ true) → answered (change D (Delete t)) ≡ apply (answered D) (cond b [] (Delete (outer t) ∷ []))
      by true e g = differ (sym (ap not e) ∙ g.1)
      by false e g = delete_shown D t o ∙ ap (λ (s : Fact). change (answered D) (Delete s)) (sym (outer_is rs most t (fact_is rs most k t few g.0 g.1)))

  -- ---- writes in turn

  both_all : (ws vs : List Change) → AllByRecursion (IsWrite rs) ws → AllByRecursion (IsWrite rs) vs → AllByRecursion (IsWrite rs) (ws ++ vs)
  both_all [] vs h g = g
  both_all (w ∷ ws) vs h g = (h.0, both_all ws vs h.1 g)

  pub all_logged : (ws : List Change) → list_all (write_passes (fits rs most) k) ws ≡ true → AllByRecursion (IsWrite rs) (logged ws)
  all_logged [] h = tt
  all_logged (w ∷ ws) h =
      let e = and_parts (write_passes (fits rs most) k w) (list_all (write_passes (fits rs most) k) ws) h in
      both_all (logged_one w) (logged ws) (one_logged w e.0) (all_logged ws e.1)

  pub all_told : (D : List Fact) (ws : List Change) → IsRepository D → list_all (write_passes (fits rs most) k) ws ≡ true → answered (apply D ws) ≡ apply (answered D) (logged ws)
  all_told D [] o h = refl
  all_told D (w ∷ ws) o h =
      let e = and_parts (write_passes (fits rs most) k w) (list_all (write_passes (fits rs most) k) ws) h in
      all_told (change D w) ws (apply_in_order D (w ∷ []) o) e.1
      ∙ ap (λ (E : List Fact). apply E (logged ws)) (one_told D w o e.0)
      ∙ sym (apply_join (answered D) (logged_one w) (logged ws))
