-- A tuple that comes after the last one of a set is not there, and stands at its end where it is put in.
use Rattle.std.proofs.Common.{◌≡◌, ◌-◌, ap, refl, sym, ◌∙◌, List, [], ◌∷◌, ◌++◌, false, map, length, subst, slice_get, suc, Some, arith}
use Rattle.std.proofs.lemmas.List.{map-append}
use Rattle.std.proofs.lemmas.Option.{same_Some}
use Rattle.std.specs.BTreeSet.{insert_key}
use Rattle.std.specs.List.{AllByRecursion}
use Rattle.std.specs.List.Sorted.{IsStrictlySortedBy}
use Rattle.std.specs.Ordering.{ordering_reverse}
use Rattle.std.specs.declared.cmp.Ordering.TheVariants.{Less, Greater}
use Rattle.def_chase.specs.Values.{Fact, fact_cmp}
use Rattle.def_chase.specs.Repository.{IsRepository, has}
use Rattle.def_chase.proofs.Order.{fact_total}
use Rattle.base_types.specs.Meanings.{fact_of}
use Rattle.base_types.specs.declared.tuples.Tuple.{Tuple}
use Rattle.set_facts.specs.Rising.{IsAfter}

turned : (u t : Fact) → fact_cmp u t ≡ Less → fact_cmp t u ≡ Greater
turned u t e = fact_total.antisymm t u ∙ ap ordering_reverse e

-- What is below all of a list is below its last one.
pub below_last : (x : Fact) (u : Tuple) (D : List Tuple) (s : Tuple) → slice_get (u ∷ D) (length D) ≡ Some s → AllByRecursion (λ y. fact_cmp x y ≡ Less) (map fact_of (u ∷ D)) → fact_cmp x (fact_of s) ≡ Less
below_last x u [] s g a = subst (λ y. fact_cmp x (fact_of y) ≡ Less) (same_Some u s g) a.0
below_last x u (v ∷ D) s g a = below_last x v D s g a.1

after_all : (u : Tuple) (D : List Tuple) (s : Tuple) (t : Fact) → IsRepository (map fact_of (u ∷ D)) → slice_get (u ∷ D) (length D) ≡ Some s → fact_cmp (fact_of s) t ≡ Less → IsAfter t (map fact_of (u ∷ D))
unfolding IsStrictlySortedBy
after_all u [] s t a g e = (turned (fact_of u) t (subst (λ y. fact_cmp (fact_of y) t ≡ Less) (sym (same_Some u s g)) e), tt)
after_all u (v ∷ D) s t a g e = (turned (fact_of u) t (fact_total.trans (fact_of u) (fact_of s) t (below_last (fact_of u) v D s g a.0) e), after_all v D s t a.1 g e)

pub after_last : (D : List Tuple) (s : Tuple) (t : Fact) → IsRepository (map fact_of D) → slice_get D (length D - 1) ≡ Some s → fact_cmp (fact_of s) t ≡ Less → IsAfter t (map fact_of D)
after_last [] s t a g e = tt
after_last (u ∷ D) s t a g e =
    let one : suc (length D) - 1 ≡ length D = omega arith in
    after_all u D s t a (ap (slice_get (u ∷ D)) (sym one) ∙ g) e

put_after : (t : Fact) (D : List Fact) → IsAfter t D → insert_key fact_cmp D t ≡ D ++ t ∷ []
put_after t [] a = refl
put_after t (u ∷ D) a = rw a.0 (ap (λ l. u ∷ l) (put_after t D a.1))

pub absent_after : (t : Fact) (D : List Fact) → IsAfter t D → has D t ≡ false
absent_after t [] a = refl
absent_after t (u ∷ D) a = rw a.0 (absent_after t D a.1)

pub added_after : (t : Tuple) (D E : List Tuple) → E ≡ D ++ t ∷ [] → IsAfter (fact_of t) (map fact_of D) → map fact_of E ≡ insert_key fact_cmp (map fact_of D) (fact_of t)
added_after t D E e a = ap (map fact_of) e ∙ map-append fact_of D (t ∷ []) ∙ sym (put_after (fact_of t) (map fact_of D) a)
