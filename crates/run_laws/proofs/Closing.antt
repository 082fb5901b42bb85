-- The tests of what fits a session are closed for each of its updates.
use Rattle.std.specs.Prelude.{slice_get, pos, negsuc}
use Rattle.std.proofs.Common.{◌≡◌, ℕ, suc, ◌+◌, ◌≤◌, ◌<◌, ◌^◌, ap, refl, ◌∙◌, subst, List, [], ◌∷◌, map, length, true, not, Some, arith}
use Rattle.std.specs.List.{list_all, AllByRecursion}
use Rattle.std.proofs.lemmas.Bool.{lt-ltb}
use Rattle.def_chase.specs.Values.{Datum, Number, Text, Unknown, Fact, under}
use Rattle.def_chase.specs.Mappings.{Slot, Var, Const, Pattern, Rule, value_under, fact_under, listed}
use Rattle.def_chase.specs.Updates.{Operation, Enacts}
use Rattle.def_chase.proofs.Bools.{both}
use Rattle.def_chase.proofs.Maps.{length_map}
use Rattle.def_chase.proofs.Searches.{all_at}
use Rattle.def_language.specs.Sessions.{RelationSchema, SessionData}
use Rattle.def_language.specs.Checks.{rules_of}
use Rattle.def_language.specs.Validity.{IsValue, HasColumns, IsFact, IsSlot, IsAtom, IsOperation, IsSession}
use Rattle.lang_session.proofs.Suiting.{no_force, few_relations}
use Rattle.def_steps.proofs.Passing.{index_passes}
use Rattle.run_laws.proofs.Closed.{is_plain, Resolves, Closed}
use Rattle.run_laws.proofs.Fitting.{is_value, value_passes, value_later, drawn_passes, has_columns, columns_pass, fits, plain_fits, values_of, fits_later, fits_substituted, null_plain}
use Rattle.run_laws.proofs.Rules.{IsRule, mapping_rules}

-- ---- values of the operation, and of a mapping's atoms

resolved : (below most k : ℕ) (f : Datum → Datum) → Resolves (is_value most k) f → (d : Datum) → IsValue below d → is_value most k (f d) ≡ true
resolved below most k f r (Number (pos n)) h = ap (is_value most k) (r.0.0 (pos n)) ∙ value_passes most k (Number (pos n)) h
resolved below most k f r (Number (negsuc n)) h = ap (is_value most k) (r.0.0 (negsuc n)) ∙ value_passes most k (Number (negsuc n)) h
resolved below most k f r (Text w) h = ap (is_value most k) (r.0.1 w) ∙ value_passes most k (Text w) h
resolved below most k f r (Unknown n) h = r.1 n

all_resolved : (below most k : ℕ) (f : Datum → Datum) → Resolves (is_value most k) f → (ds : List Datum) → AllByRecursion (IsValue below) ds → list_all (is_value most k) (map f ds) ≡ true
all_resolved below most k f r [] h = refl
all_resolved below most k f r (d ∷ ds) h = both (is_value most k (f d)) (list_all (is_value most k) (map f ds)) (resolved below most k f r d h.0) (all_resolved below most k f r ds h.1)

slot_passes : (count most k : ℕ) (ds : List Datum) → list_all (is_value most k) ds ≡ true → (x : Slot) → IsSlot count x → is_value most k (value_under (listed ds) x) ≡ true
slot_passes count most k ds h (Var v) g = index_passes (is_value most k) (Number (pos 0)) ds v h refl
slot_passes count most k ds h (Const (Number (pos n))) g = value_passes most k (Number (pos n)) g
slot_passes count most k ds h (Const (Number (negsuc n))) g = value_passes most k (Number (negsuc n)) g
slot_passes count most k ds h (Const (Text w)) g = value_passes most k (Text w) g
slot_passes count most k ds h (Const (Unknown n)) g = absurd g

slots_pass : (count most k : ℕ) (ds : List Datum) → list_all (is_value most k) ds ≡ true → (xs : List Slot) → AllByRecursion (IsSlot count) xs → list_all (is_value most k) (map (value_under (listed ds)) xs) ≡ true
slots_pass count most k ds h [] g = refl
slots_pass count most k ds h (x ∷ xs) g =
    both (is_value most k (value_under (listed ds) x)) (list_all (is_value most k) (map (value_under (listed ds)) xs)) (slot_passes count most k ds h x g.0) (slots_pass count most k ds h xs g.1)

module _ (rs : List RelationSchema) (few : length rs ≤ 128) where
  -- a tuple with its values replaced by ones that pass
  filled : (most k r : ℕ) (ds es : List Datum) → length es ≡ length ds → HasColumns rs r (length ds) → list_all (is_value most k) es ≡ true → fits rs most k (record { relation = r; values = es }) ≡ true
  filled most k r ds es e h g =
      plain_fits rs most k (record { relation = r; values = es }) (no_force rs r (length ds) few h) (ap (has_columns rs r) e ∙ columns_pass rs r (length ds) h) g

  fact_resolved : (below most k : ℕ) (f : Datum → Datum) → Resolves (is_value most k) f → (t : Fact) → IsFact rs below t → fits rs most k (under f t) ≡ true
  fact_resolved below most k f r t h = filled most k t.relation t.values (map f t.values) (length_map f t.values) h.0 (all_resolved below most k f r t.values h.1)

  atom_fits : (count most k : ℕ) (ds : List Datum) → list_all (is_value most k) ds ≡ true → (b : Pattern) → IsAtom rs count b → fits rs most k (fact_under (listed ds) b) ≡ true
  atom_fits count most k ds h b g =
      plain_fits rs most k (fact_under (listed ds) b) (no_force rs b.relation (length b.terms) few g.0)
      (ap (has_columns rs b.relation) (length_map (value_under (listed ds)) b.terms) ∙ columns_pass rs b.relation (length b.terms) g.0) (slots_pass count most k ds h b.terms g.1)

pub tests_closed : (s : SessionData) → IsSession s → (below : ℕ) (op : Operation) → IsOperation s.relations below op → ((n : ℕ) → op ≡ Enacts n → n < 2 ^ 63)
    → Closed (rules_of s.mappings) op (suc below) 0 (is_value (suc below)) (fits s.relations (suc below))
tests_closed s v below op good small =
    record {
      nought = λ k. refl;
      later = λ k j d h. value_later (suc below) (suc below) k (k + j) (omega arith) (omega arith) d h;
      drawn = λ k j i l h. drawn_passes (suc below) k j i l h;
      values = λ k t h. values_of s.relations (suc below) k t h;
      tuples_later = λ k j t h. fits_later s.relations (suc below) (suc below) k (k + j) (omega arith) (omega arith) t h;
      substituted = λ k f c h t e. fits_substituted s.relations (suc below) k f c h t e;
      null_plain = λ k n j t h e. null_plain s.relations (suc below) k n j t h e;
      draws = λ n m e. (rule n m e).few;
      left_plain = λ n m e. (rule n m e).left;
      some_right = λ n m e. (rule n m e).some;
      generated = λ k n i m b e f ds h. atom_fits s.relations (few_relations s v) (rule n m e).count (suc below) k ds h b (all_at (IsAtom s.relations (rule n m e).count) m.right i b (rule n m e).right f);
      added = λ t e k f r. fact_resolved s.relations (few_relations s v) below (suc below) k f r t (subst (λ o. IsOperation s.relations below o) e good);
      removed = λ t e k f r. let h : IsFact s.relations below t = subst (λ o. IsOperation s.relations below o) e good in
          both (fits s.relations (suc below) k (under f t)) (is_plain (under f t)) (fact_resolved s.relations (few_relations s v) below (suc below) k f r t h)
          (ap not (no_force s.relations t.relation (length t.values) (few_relations s v) h.0));
      replaced = λ n d e k f r. resolved below (suc below) k f r d (subst (λ o. IsOperation s.relations below o) e good).1;
      enacted = λ n e k. lt-ltb n (2 ^ 63) (small n e);
    }
  where
    rule : (n : ℕ) (m : Rule) → slice_get (rules_of s.mappings) n ≡ Some m → IsRule s.relations m
    rule n m e = all_at (IsRule s.relations) (rules_of s.mappings) n m (mapping_rules s.relations (few_relations s v) v.relations s.mappings v.mappings) e
