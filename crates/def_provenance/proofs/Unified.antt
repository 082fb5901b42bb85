-- A unification takes every tuple of the repository to one that is there after it.
use Rattle.std.proofs.Common.{◌≡◌, ◌∙◌, ap, refl, sym, Bool, true, false, not, ◌||◌, ◌&&◌, List, [], ◌∷◌, ◌++◌, map, inl, inr}
use Rattle.std.specs.List.{list_any}
use Rattle.std.proofs.lemmas.Bool.{and_parts, or_cases, both_ways, eq-eqb}
use Rattle.def_chase.specs.Values.{NullName, Datum, Number, Text, Unknown, Fact, same_datum, same_fact, under}
use Rattle.def_chase.specs.Repository.{has, apply}
use Rattle.def_chase.specs.Mappings.{all_in}
use Rattle.def_chase.specs.Queries.{is_named, holds_null}
use Rattle.def_chase.specs.Specific.{more_specific}
use Rattle.def_chase.specs.Unifier.{unifier}
use Rattle.def_chase.specs.Caused.{KeepsConstants}
use Rattle.def_chase.proofs.Bools.{differ, both, or_left, or_right}
use Rattle.def_chase.proofs.Learning.{same_datum_exact, same_datum_itself}
use Rattle.def_chase.proofs.Members.{has-filter}
use Rattle.def_chase.proofs.Rewritings.{written}
use Rattle.def_chase.proofs.Sets.{has-apply, same_exact, same_itself}
use Rattle.def_chase.proofs.Unified.{unifier_constants}
use Rattle.def_chase.proofs.Walks.{among}
use Rattle.def_steps.specs.Rewriting.{in_order, rewrite, moved_nulls, same_null}
use Rattle.def_steps.proofs.Gathered.{occurs, gathered, has_filter, has_in_order, moved_are_all, same_null_exact}
use Rattle.def_steps.proofs.Gathered.{listed as named_in}

pub has-join : (xs ys : List Fact) (t : Fact) → has (xs ++ ys) t ≡ (has xs t || has ys t)
has-join [] ys t = refl
has-join (x ∷ xs) ys t = ap (λ b. same_fact t x || b) (has-join xs ys t) ∙ around (same_fact t x) (has xs t) (has ys t)
  where
    around : (a b c : Bool) → (a || (b || c)) ≡ ((a || b) || c)
    around true b c = refl
    around false b c = refl

-- ---- what is gathered

-- What is gathered is there.
pub gathered_there : (E : List Fact) (ns : List NullName) (s : Fact) → has (gathered E ns) s ≡ true → has E s ≡ true
gathered_there E [] s h = differ h
gathered_there E (n ∷ ns) s h =
    elim (or_cases (has (occurs E n) s) (has (gathered E ns) s) (sym (has-join (occurs E n) (gathered E ns) s) ∙ h)) [
      | inl e ↦ (and_parts (has E s) (holds_null n.update n.place s) (sym (has-filter (holds_null n.update n.place) E s) ∙ e)).0
      | inr e ↦ gathered_there E ns s e
    ]

named_among : (n : NullName) (ds : List Datum) → among ds (Unknown n) ≡ true → list_any (is_named n.update n.place) ds ≡ true
named_among n [] e = e
named_among n (d ∷ ds) e =
    elim (or_cases (same_datum (Unknown n) d) (among ds (Unknown n)) e) [
      | inl s ↦ or_left (is_named n.update n.place d) _ (ap (is_named n.update n.place) (sym (same_datum_exact (Unknown n) d s)) ∙ itself)
      | inr s ↦ or_right (is_named n.update n.place d) _ (named_among n ds s)
    ]
  where
    itself : is_named n.update n.place (Unknown n) ≡ true
    itself = λ i. eq-eqb n.update n.update refl i && eq-eqb n.place n.place refl i

-- A tuple that holds one of the nulls is gathered.
in_gathered : (E : List Fact) (ns : List NullName) (n : NullName) (s : Fact) → has E s ≡ true → named_in ns n ≡ true → among s.values (Unknown n) ≡ true → has (gathered E ns) s ≡ true
in_gathered E [] n s h l a = differ l
in_gathered E (m ∷ ns) n s h l a =
    has-join (occurs E m) (gathered E ns) s
    ∙ elim (or_cases (same_null n m) (named_in ns n) l) [
      | inl e ↦ or_left (has (occurs E m) s) _ (ap (λ (k : NullName). has (occurs E k) s) (sym (same_null_exact n m e)) ∙ has_filter (holds_null n.update n.place) E s h (named_among n s.values a))
      | inr e ↦ or_right (has (occurs E m) s) _ (in_gathered E ns n s h e a)
    ]

-- A substitution that leaves every null of the values leaves the values.
values_stay : (f : Datum → Datum) → KeepsConstants f → (ds : List Datum) → ((n : NullName) → among ds (Unknown n) ≡ true → f (Unknown n) ≡ Unknown n) → map f ds ≡ ds
values_stay f c [] h = refl
values_stay f c (Number j ∷ ds) h = λ i. c.0 j i ∷ values_stay f c ds h i
values_stay f c (Text w ∷ ds) h = λ i. c.1 w i ∷ values_stay f c ds h i
values_stay f c (Unknown n ∷ ds) h =
    λ i. h n (or_left (same_datum (Unknown n) (Unknown n)) _ (same_datum_itself (Unknown n))) i ∷ values_stay f c ds (λ m e. h m (or_right (same_datum (Unknown m) (Unknown n)) _ e)) i

others_stay : (E : List Fact) (f : Datum → Datum) → KeepsConstants f → (ns : List NullName) → ((n : NullName) → named_in ns n ≡ false → f (Unknown n) ≡ Unknown n)
    → (s : Fact) → has E s ≡ true → has (gathered E ns) s ≡ false → under f s ≡ s
others_stay E f c ns stays s h e = ap (λ ds. record { relation = s.relation; values = ds }) (values_stay f c s.values (λ n a. by n a (named_in ns n) refl))
  where
    by : (n : NullName) → among s.values (Unknown n) ≡ true → (b : Bool) → named_in ns n ≡ b → f (Unknown n) ≡ Unknown n
    by n a true l = absurd (both_ways (has (gathered E ns) s) e (in_gathered E ns n s h l a))
    by n a false l = stays n l

-- ---- what is there after a rewriting

has_under : (f : Datum → Datum) (us : List Fact) (s : Fact) → has us s ≡ true → has (map (under f) us) (under f s) ≡ true
has_under f [] s h = differ h
has_under f (u ∷ us) s h =
    elim (or_cases (same_fact s u) (has us s) h) [
      | inl e ↦ or_left (same_fact (under f s) (under f u)) _ (ap (λ (t : Fact). same_fact (under f s) (under f t)) (sym (same_exact s u e)) ∙ same_itself (under f s))
      | inr e ↦ or_right (same_fact (under f s) (under f u)) _ (has_under f us s e)
    ]

-- What is there after a rewriting is among the images, or was there and was not rewritten.
pub after_rewriting : (E : List Fact) (f : Datum → Datum) (ts : List Fact) (s : Fact) → has (apply E (rewrite f ts)) s ≡ (has (map (under f) ts) s || (has E s && not (has ts s)))
after_rewriting E f ts s =
    has-apply E (rewrite f ts) s ∙ written (has E s) ts (in_order (map (under f) ts)) s
    ∙ ap (λ b. b || (has E s && not (has ts s))) (has_in_order (map (under f) ts) s)

module _ (E : List Fact) (t c : Fact) (e : more_specific c t ≡ true) where
  abbrev f : Datum → Datum
  f = unifier t c

  abbrev pub rewritten : List Fact
  rewritten = in_order (gathered E (moved_nulls t c))

  pub rewritten_there : (s : Fact) → has (in_order (gathered E (moved_nulls t c))) s ≡ true → has E s ≡ true
  rewritten_there s h = gathered_there E (moved_nulls t c) s (sym (has_in_order (gathered E (moved_nulls t c)) s) ∙ h)

  carried : (s : Fact) → has E s ≡ true → has (apply E (rewrite (unifier t c) (in_order (gathered E (moved_nulls t c))))) (under (unifier t c) s) ≡ true
  carried s h = after_rewriting E f rewritten (under f s) ∙ by (has rewritten s) refl
    where
      by : (b : Bool) → has rewritten s ≡ b → (has (map (under f) rewritten) (under f s) || (has E (under f s) && not (has rewritten (under f s)))) ≡ true
      by true g = or_left (has (map (under f) rewritten) (under f s)) _ (has_under f rewritten s g)
      by false g =
          let stays : under f s ≡ s = others_stay E f (unifier_constants t c e) (moved_nulls t c) (moved_are_all t c) s h (sym (has_in_order (gathered E (moved_nulls t c)) s) ∙ g) in
          or_right (has (map (under f) rewritten) (under f s)) _ (ap (λ (u : Fact). has E u && not (has rewritten u)) stays ∙ both (has E s) (not (has rewritten s)) h (ap not g))

  pub all_carried : (ts : List Fact) → all_in E ts ≡ true → all_in (apply E (rewrite (unifier t c) (in_order (gathered E (moved_nulls t c))))) (map (under (unifier t c)) ts) ≡ true
  all_carried [] h = refl
  all_carried (s ∷ ts) h = let x = and_parts (has E s) (all_in E ts) h in both _ _ (carried s x.0) (all_carried ts x.1)
