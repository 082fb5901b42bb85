-- The set that is made of a list of tuples.
use Rattle.std.proofs.Common.{◌≡◌, ap, refl, sym, ◌∙◌, subst, List, [], ◌∷◌, map}
use Rattle.std.specs.List.{list_any}
use Rattle.std.specs.Ordering.{is_eq}
use Rattle.std.specs.Prelude.{Result, Ok, Err, IfOk}
use Rattle.def_chase.specs.Values.{Datum, Fact}
use Rattle.def_chase.specs.Repository.{has, IsRepository}
use Rattle.def_chase.proofs.Sets.{same_repository}
use Rattle.base_types.specs.Meanings.{fact_of, datum_of}
use Rattle.base_types.specs.declared.tuples.Tuple.{Tuple}
use Rattle.base_types.specs.declared.values.Value.{Value}
use Rattle.set_facts.proofs.Groups.{value_for}
use Rattle.set_facts.proofs.Held.{tuple_cmp, contains_mapped}

values_for : (ds : List Datum) → (xs : List Value) × (map datum_of xs ≡ ds)
values_for [] = ([], refl)
values_for (d ∷ ds) = let first = value_for d in let others = values_for ds in (first.0 ∷ others.0, λ i. first.1 i ∷ others.1 i)

-- A tuple that means t.
pub tuple_for : (t : Fact) → (q : Tuple) × (fact_of q ≡ t)
tuple_for t = let row = values_for t.values in (record { relation = t.relation; values = record { items = row.0; spare = 0 } }, λ i. record { relation = t.relation; values = row.1 i })

-- Lists of which each tuple says alike whether it is there mean lists of the same members.
pub same_members : (ks xs : List Tuple) → ((q : Tuple) → list_any (λ k. is_eq (tuple_cmp q k)) ks ≡ list_any (λ k. is_eq (tuple_cmp q k)) xs) → (t : Fact) → has (map fact_of ks) t ≡ has (map fact_of xs) t
same_members ks xs h t =
    let q = (tuple_for t).0 in
    let e : fact_of q ≡ t = (tuple_for t).1 in
    subst (λ (u : Fact). has (map fact_of ks) u ≡ has (map fact_of xs) u) e (sym (contains_mapped q ks) ∙ h q ∙ contains_mapped q xs)

-- What has the members of a list in order is that list.
pub same_listed : {E : Type 0} (r : Result (List Fact) E) (D L : List Fact) → IfOk r (λ F. (t : Fact) → has F t ≡ has L t) → IfOk r IsRepository → L ≡ D → IfOk r (λ F. IsRepository D → F ≡ D)
same_listed (Ok F) D L m s e = λ i. same_repository F D s i (λ t. m t ∙ ap (λ (l : List Fact). has l t) e)
same_listed (Err x) D L m s e = tt

pub same_in_order : {E : Type 0} (r : Result (List Fact) E) (D : List Fact) → IfOk r (λ F. IsRepository D → F ≡ D) → IsRepository D → IfOk r (λ F. F ≡ D)
same_in_order (Ok F) D h i = h i
same_in_order (Err x) D h i = tt
