-- What an update sees is the base with the writes of the lower updates.
use Rattle.std.proofs.Common.{◌≡◌, ℕ, ap, refl, sym, ◌∙◌, List, [], ◌∷◌, Bool, true, false, ◌||◌, cond, map, filter, find, Some, unwrap_or}
use Rattle.std.specs.List.{AllByRecursion}
use Rattle.std.specs.List.Sorted.{IsStrictlySortedBy}
use Rattle.std.specs.Option.{option_map}
use Rattle.std.specs.Ordering.{on}
use Rattle.std.specs.declared.cmp.Ordering.TheVariants.{Less}
use Rattle.base_types.specs.Meanings.{fact_of}
use Rattle.base_types.specs.declared.tuples.Tuple.{Tuple}
use Rattle.def_chase.specs.Values.{Fact, fact_cmp, same_fact}
use Rattle.def_chase.specs.Repository.{has, apply, inserted_after}
use Rattle.def_chase.proofs.Sets.{same_exact, has-apply, same_repository, apply_in_order}
use Rattle.base_tree.specs.Orders.{IsOrdered}
use Rattle.set_versions.specs.Chains.{AreMarks, AllMarked}
use Rattle.set_versions.specs.Marked.{stands, visible, marks_at, no_marks}
use Rattle.set_facts.proofs.Overlays.{has-overlaid, overlaid_in_order}
use Rattle.set_versions.specs.Based.{base_marks}
use Rattle.set_versions.specs.Standing.{AreKept, Kept, SeenLaw, is_left, known_at, seen}
use Rattle.set_versions.specs.Trails.{writes_below}
use Rattle.set_versions.specs.declared.marks.Marks.{Marks}
use Rattle.set_versions.proofs.Seeing.{below_visible}
use Rattle.set_versions.proofs.Chained.{stands_after}

none_has : (t : Fact) (D : List Fact) → AllByRecursion (λ y. fact_cmp t y ≡ Less) D → has D t ≡ false
none_has t [] a = refl
none_has t (u ∷ D) a = rw a.0 (none_has t D a.1)

below_equal : (t u : Fact) (D : List Fact) → same_fact t u ≡ true → AllByRecursion (λ y. fact_cmp u y ≡ Less) D → has D t ≡ false
below_equal t u D e a = ap (has D) (same_exact t u e) ∙ none_has u D a

-- The tuple is seen where it stands.
pub seen_stands : (n : ℕ) (es : List (Tuple × Marks)) → IsOrdered (on fact_of fact_cmp) es → (t : Fact) → has (visible n es) t ≡ stands n (marks_at es t)
unfolding IsStrictlySortedBy
seen_stands n [] s t = refl
seen_stands n (e ∷ es) s t = by (stands n e.1) refl (same_fact t (fact_of e.0)) refl (below_visible n (fact_of e.0) es s.0) (seen_stands n es s.1 t)
  where
    by : (b : Bool) → stands n e.1 ≡ b → (c : Bool) → same_fact t (fact_of e.0) ≡ c → AllByRecursion (λ y. fact_cmp (fact_of e.0) y ≡ Less) (visible n es) → has (visible n es) t ≡ stands n (marks_at es t)
        → has (map (λ f. fact_of f.0) (cond b (e ∷ filter (λ f. stands n f.1) es) (filter (λ f. stands n f.1) es))) t ≡ stands n (unwrap_or (option_map (λ (f : Tuple × Marks). f.1) (cond c (Some e) (find (λ f. same_fact t (fact_of f.0)) es))) no_marks)
    by true h true g a i = ap (λ c. c || has (visible n es) t) g ∙ sym h
    by true h false g a i = ap (λ c. c || has (visible n es) t) g ∙ i
    by false h true g a i = below_equal t (fact_of e.0) (visible n es) g a ∙ sym h
    by false h false g a i = i

-- The marks of each tuple are in order.
pub marks_in_order : (es : List (Tuple × Marks)) (t : Fact) → AllMarked es → AreMarks (marks_at es t)
unfolding IsStrictlySortedBy
marks_in_order [] t a = tt
marks_in_order (e ∷ es) t a = by (same_fact t (fact_of e.0)) (marks_in_order es t a.1)
  where
    by : (c : Bool) → AreMarks (marks_at es t) → AreMarks (unwrap_or (option_map (λ (f : Tuple × Marks). f.1) (cond c (Some e) (find (λ f. same_fact t (fact_of f.0)) es))) no_marks)
    by true i = a.0
    by false i = i

-- What is known of each tuple is in order.
known_in_order : (v : Kept) (t : Fact) → AllMarked v.rows → AreMarks (known_at v t)
unfolding IsStrictlySortedBy
known_in_order v t a = by (is_left v t)
  where
    by : (b : Bool) → AreMarks (cond b base_marks (marks_at v.rows t))
    by true = tt
    by false = marks_in_order v.rows t a

-- A tuple is seen where it stands by what is known of it.
pub seen_known : (n : ℕ) (v : Kept) → AreKept v → (t : Fact) → has (seen n v) t ≡ stands n (known_at v t)
seen_known n v kept t = has-overlaid v.base v.taken (visible n v.rows) t ∙ by (is_left v t)
  where
    by : (b : Bool) → (b || has (visible n v.rows) t) ≡ stands n (cond b base_marks (marks_at v.rows t))
    by true = refl
    by false = seen_stands n v.rows kept.rows.order t

pub seen_is_applied : SeenLaw
seen_is_applied v D trails d for n =
    same_repository (seen n v) (apply D (writes_below trails n)) (overlaid_in_order v.base v.taken (visible n v.rows) for.kept.order) (apply_in_order D (writes_below trails n) d)
    (λ t. seen_known n v for.kept t
    ∙ stands_after trails t (known_at v t) (known_in_order v t for.kept.rows.marks) (λ k. for.marks k t) n
    ∙ ap (λ b. inserted_after b (writes_below trails n) t) (for.base t)
    ∙ sym (has-apply D (writes_below trails n) t))
