-- The names of a saved base keep the order of the nulls, and tell them apart.
use Rattle.std.proofs.Common.{◌≡◌, ◌∙◌, refl, sym, ap, List, map, true}
use Rattle.std.specs.Ordering.{ordering_reverse}
use Rattle.std.specs.declared.cmp.Ordering.{Ordering}
use Rattle.std.specs.declared.cmp.Ordering.TheVariants.{Less, Equal, Greater}
use Rattle.std.proofs.lemmas.Cmp.{tied_itself}
use Rattle.def_chase.specs.Values.{NullName, Datum, Number, Text, Unknown, Fact, null_cmp}
use Rattle.def_chase.proofs.Order.{null_total, null_exact}
use Rattle.def_steps.specs.Origins.{stands_in}
use Rattle.lang_report.specs.Saved.{base_null, base_value, base_fact, different_nulls, saved_base}
use Rattle.lang_report.proofs.Naming.{names_in_order}
use Rattle.run_laws.specs.Renamed.{renamed_value, renamed, IsRenamed}
use Rattle.run_laws.proofs.Nulls.{Listed, stands_listed}

value_named : (nulls : List NullName) (d : Datum) → base_value nulls d ≡ renamed_value (base_null nulls) d
value_named nulls (Number z) = refl
value_named nulls (Text w) = refl
value_named nulls (Unknown n) = refl

facts_named : (nulls : List NullName) (facts : List Fact) → map (base_fact nulls) facts ≡ renamed (base_null nulls) facts
facts_named nulls facts = λ i. map (λ (t : Fact). record { relation = t.relation; values = map (λ d. value_named nulls d i) t.values }) facts

module _ (D : List Fact) where
  less_named : (m n : NullName) → stands_in D (Unknown m) ≡ true → null_cmp m n ≡ Less → null_cmp (base_null (different_nulls D) m) (base_null (different_nulls D) n) ≡ Less
  less_named m n e l = let at : Listed (different_nulls D) m = stands_listed D m e in names_in_order D at.place m n at.there l

  other_way : (m n : NullName) → null_cmp n m ≡ Greater → null_cmp m n ≡ Less
  other_way m n e = null_total.antisymm m n ∙ ap ordering_reverse e

  turned : (m n : NullName) → null_cmp n m ≡ Less → null_cmp m n ≡ Greater
  turned m n e = null_total.antisymm m n ∙ ap ordering_reverse e

  in_order : (m n : NullName) → stands_in D (Unknown m) ≡ true → stands_in D (Unknown n) ≡ true → null_cmp (base_null (different_nulls D) m) (base_null (different_nulls D) n) ≡ null_cmp m n
  in_order m n e f = by (null_cmp m n) refl
    where
      by : (o : Ordering) → null_cmp m n ≡ o → null_cmp (base_null (different_nulls D) m) (base_null (different_nulls D) n) ≡ o
      by Less h = less_named m n e h
      by Equal h =
          ap (λ (k : NullName). null_cmp (base_null (different_nulls D) m) (base_null (different_nulls D) k)) (sym (null_exact m n h))
          ∙ tied_itself null_total (base_null (different_nulls D) m)
      by Greater h = turned (base_null (different_nulls D) m) (base_null (different_nulls D) n) (less_named n m f (other_way n m h))

  apart : (m n : NullName) → stands_in D (Unknown m) ≡ true → stands_in D (Unknown n) ≡ true → base_null (different_nulls D) m ≡ base_null (different_nulls D) n → m ≡ n
  apart m n e f h =
      null_exact m n (sym (in_order m n e f)
      ∙ ap (λ (k : NullName). null_cmp (base_null (different_nulls D) m) k) (sym h)
      ∙ tied_itself null_total (base_null (different_nulls D) m))

-- The base that is saved of tuples is these under other names for their nulls.
pub base_renamed : (D : List Fact) → IsRenamed D (saved_base D)
base_renamed D = record { name = base_null (different_nulls D); same = facts_named (different_nulls D) D; in_order = in_order D; apart = apart D }
