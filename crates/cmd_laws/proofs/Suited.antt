-- That the texts of a tuple are UTF-8 is a test that every attempt of an update keeps.
use Rattle.std.specs.Prelude.{slice_get, pos, negsuc}
use Rattle.std.proofs.Common.{◌≡◌, ℕ, ◌≤◌, ◌<◌, ◌^◌, ◌==◌, ap, refl, ◌∙◌, subst, List, [], ◌∷◌, map, length, Bool, true, false, not, ◌&&◌, cond, Some}
use Rattle.std.specs.List.{list_any, list_all, AllByRecursion}
use Rattle.std.proofs.lemmas.Bool.{and_parts, both_ways, lt-ltb}
use Rattle.std.proofs.lemmas.Str.{is_utf8-from_IsUtf8}
use Rattle.def_chase.specs.Values.{Datum, Number, Text, Unknown, Fact, under}
use Rattle.def_chase.specs.Mappings.{Slot, Var, Const, Pattern, Rule, value_under, fact_under, listed, force_relation}
use Rattle.def_chase.specs.Queries.{is_named, holds_null}
use Rattle.def_chase.specs.Caused.{KeepsConstants}
use Rattle.def_chase.specs.Updates.{Operation, Enacts}
use Rattle.def_chase.proofs.Bools.{both, differ}
use Rattle.def_chase.proofs.Maps.{length_map}
use Rattle.def_chase.proofs.Searches.{all_at}
use Rattle.def_language.specs.Sessions.{RelationSchema, SessionData}
use Rattle.def_language.specs.Checks.{rules_of}
use Rattle.def_language.specs.Validity.{IsValue, HasColumns, IsFact, IsSlot, IsAtom, IsOperation, IsSession}
use Rattle.lang_session.proofs.Suiting.{no_force, few_relations}
use Rattle.def_steps.proofs.Passing.{all_mapped, index_passes}
use Rattle.run_laws.proofs.Closed.{is_plain, Resolves, Closed}
use Rattle.run_laws.proofs.Fitting.{has_columns, columns_pass, names_mapping, named_nulls, named_stay}
use Rattle.run_laws.proofs.Rules.{IsRule, mapping_rules}
use Rattle.cmd_laws.proofs.Utf8.{is_textual}

-- The tuple says that a mapping is in force, or is one of a relation with texts of UTF-8.
abbrev pub suits : List RelationSchema → Fact → Bool
suits rs t = cond (t.relation == force_relation) (names_mapping t.values) (has_columns rs t.relation (length t.values) && list_all is_textual t.values)

-- ---- values

value_suits : (most : ℕ) (d : Datum) → IsValue most d → is_textual d ≡ true
value_suits most (Number z) h = refl
value_suits most (Text w) h = is_utf8-from_IsUtf8 w h.1
value_suits most (Unknown n) h = refl

values_suit : (most : ℕ) (ds : List Datum) → AllByRecursion (IsValue most) ds → list_all is_textual ds ≡ true
values_suit most [] h = refl
values_suit most (d ∷ ds) h = both (is_textual d) (list_all is_textual ds) (value_suits most d h.0) (values_suit most ds h.1)

named_values : (ds : List Datum) → names_mapping ds ≡ true → list_all is_textual ds ≡ true
named_values [] h = differ h
named_values (Number (pos n) ∷ []) h = refl
named_values (Number (pos n) ∷ d ∷ ds) h = differ h
named_values (Number (negsuc n) ∷ ds) h = differ h
named_values (Text w ∷ ds) h = differ h
named_values (Unknown m ∷ ds) h = differ h

resolved : (below : ℕ) (f : Datum → Datum) → Resolves is_textual f → (d : Datum) → IsValue below d → is_textual (f d) ≡ true
resolved below f r (Number z) h = ap is_textual (r.0.0 z)
resolved below f r (Text w) h = ap is_textual (r.0.1 w) ∙ is_utf8-from_IsUtf8 w h.1
resolved below f r (Unknown n) h = r.1 n

all_resolved : (below : ℕ) (f : Datum → Datum) → Resolves is_textual f → (ds : List Datum) → AllByRecursion (IsValue below) ds → list_all is_textual (map f ds) ≡ true
all_resolved below f r [] h = refl
all_resolved below f r (d ∷ ds) h = both (is_textual (f d)) (list_all is_textual (map f ds)) (resolved below f r d h.0) (all_resolved below f r ds h.1)

slot_suits : (count : ℕ) (ds : List Datum) → list_all is_textual ds ≡ true → (x : Slot) → IsSlot count x → is_textual (value_under (listed ds) x) ≡ true
slot_suits count ds h (Var v) g = index_passes is_textual (Number (pos 0)) ds v h refl
slot_suits count ds h (Const (Number z)) g = refl
slot_suits count ds h (Const (Text w)) g = is_utf8-from_IsUtf8 w g.1
slot_suits count ds h (Const (Unknown n)) g = absurd g

slots_suit : (count : ℕ) (ds : List Datum) → list_all is_textual ds ≡ true → (xs : List Slot) → AllByRecursion (IsSlot count) xs → list_all is_textual (map (value_under (listed ds)) xs) ≡ true
slots_suit count ds h [] g = refl
slots_suit count ds h (x ∷ xs) g =
    both (is_textual (value_under (listed ds) x)) (list_all is_textual (map (value_under (listed ds)) xs)) (slot_suits count ds h x g.0) (slots_suit count ds h xs g.1)

-- ---- tuples

plain_suits : (rs : List RelationSchema) (t : Fact) → (t.relation == force_relation) ≡ false → has_columns rs t.relation (length t.values) ≡ true → list_all is_textual t.values ≡ true → suits rs t ≡ true
plain_suits rs t e h g =
    ap (λ b. cond b (names_mapping t.values) (has_columns rs t.relation (length t.values) && list_all is_textual t.values)) e
    ∙ both (has_columns rs t.relation (length t.values)) (list_all is_textual t.values) h g

module _ (rs : List RelationSchema) where
  pub textual : (t : Fact) → suits rs t ≡ true → list_all is_textual t.values ≡ true
  textual t h = by (t.relation == force_relation) h
    where
      by : (b : Bool) → cond b (names_mapping t.values) (has_columns rs t.relation (length t.values) && list_all is_textual t.values) ≡ true → list_all is_textual t.values ≡ true
      by true f = named_values t.values f
      by false f = (and_parts (has_columns rs t.relation (length t.values)) (list_all is_textual t.values) f).1

  substituted : (f : Datum → Datum) → KeepsConstants f → ((d : Datum) → is_textual d ≡ true → is_textual (f d) ≡ true) → (t : Fact) → suits rs t ≡ true → suits rs (under f t) ≡ true
  substituted f c h t e = by (t.relation == force_relation) e
    where
      by : (b : Bool) → cond b (names_mapping t.values) (has_columns rs t.relation (length t.values) && list_all is_textual t.values) ≡ true
          → cond b (names_mapping (map f t.values)) (has_columns rs t.relation (length (map f t.values)) && list_all is_textual (map f t.values)) ≡ true
      by true g = ap names_mapping (named_stay f c t.values g) ∙ g
      by false g =
          let x = and_parts (has_columns rs t.relation (length t.values)) (list_all is_textual t.values) g in
          both _ (list_all is_textual (map f t.values)) (ap (has_columns rs t.relation) (length_map f t.values) ∙ x.0) (all_mapped is_textual is_textual f h t.values x.1)

  -- a tuple that holds a null is plain
  null_plain : (v j : ℕ) (t : Fact) → suits rs t ≡ true → holds_null v j t ≡ true → is_plain t ≡ true
  null_plain v j t h e = by (t.relation == force_relation) h
    where
      by : (b : Bool) → cond b (names_mapping t.values) (has_columns rs t.relation (length t.values) && list_all is_textual t.values) ≡ true → not b ≡ true
      by true f = absurd (both_ways (holds_null v j t) (named_nulls v j t.values f) e)
      by false f = refl

  module _ (few : length rs ≤ 128) where
    pub fact_suits : (below : ℕ) (t : Fact) → IsFact rs below t → suits rs t ≡ true
    fact_suits below t h = plain_suits rs t (no_force rs t.relation (length t.values) few h.0) (columns_pass rs t.relation (length t.values) h.0) (values_suit below t.values h.1)

    pub facts_suit : (below : ℕ) (ts : List Fact) → AllByRecursion (IsFact rs below) ts → list_all (suits rs) ts ≡ true
    facts_suit below [] h = refl
    facts_suit below (t ∷ ts) h = both (suits rs t) (list_all (suits rs) ts) (fact_suits below t h.0) (facts_suit below ts h.1)

    -- a tuple with its values replaced by ones that pass
    filled : (r : ℕ) (columns : ℕ) (es : List Datum) → length es ≡ columns → HasColumns rs r columns → list_all is_textual es ≡ true → suits rs (record { relation = r; values = es }) ≡ true
    filled r columns es e h g = plain_suits rs (record { relation = r; values = es }) (no_force rs r columns few h) (ap (has_columns rs r) e ∙ columns_pass rs r columns h) g

    fact_resolved : (below : ℕ) (f : Datum → Datum) → Resolves is_textual f → (t : Fact) → IsFact rs below t → suits rs (under f t) ≡ true
    fact_resolved below f r t h = filled t.relation (length t.values) (map f t.values) (length_map f t.values) h.0 (all_resolved below f r t.values h.1)

    atom_suits : (count : ℕ) (ds : List Datum) → list_all is_textual ds ≡ true → (b : Pattern) → IsAtom rs count b → suits rs (fact_under (listed ds) b) ≡ true
    atom_suits count ds h b g = filled b.relation (length b.terms) (map (value_under (listed ds)) b.terms) (length_map (value_under (listed ds)) b.terms) g.0 (slots_suit count ds h b.terms g.1)

pub tests_closed : (s : SessionData) → IsSession s → (u a below : ℕ) (op : Operation) → IsOperation s.relations below op → ((n : ℕ) → op ≡ Enacts n → n < 2 ^ 63)
    → Closed (rules_of s.mappings) op u a (λ k. is_textual) (λ k. suits s.relations)
tests_closed s v u a below op good small =
    record {
      nought = λ k. refl;
      later = λ k j d h. h;
      drawn = λ k j i l h. refl;
      values = λ k t h. textual s.relations t h;
      tuples_later = λ k j t h. h;
      substituted = λ k f c h t e. substituted s.relations f c h t e;
      null_plain = λ k n j t h e. null_plain s.relations n j t h e;
      draws = λ n m e. (rule n m e).few;
      left_plain = λ n m e. (rule n m e).left;
      some_right = λ n m e. (rule n m e).some;
      generated = λ k n i m b e f ds h. atom_suits s.relations (few_relations s v) (rule n m e).count ds h b (all_at (IsAtom s.relations (rule n m e).count) m.right i b (rule n m e).right f);
      added = λ t e k f r. fact_resolved s.relations (few_relations s v) below f r t (subst (λ o. IsOperation s.relations below o) e good);
      removed = λ t e k f r. let h : IsFact s.relations below t = subst (λ o. IsOperation s.relations below o) e good in
          both (suits s.relations (under f t)) (is_plain (under f t)) (fact_resolved s.relations (few_relations s v) below f r t h)
          (ap not (no_force s.relations t.relation (length t.values) (few_relations s v) h.0));
      replaced = λ n d e k f r. resolved below f r d (subst (λ o. IsOperation s.relations below o) e good).1;
      enacted = λ n e k. lt-ltb n (2 ^ 63) (small n e);
    }
  where
    rule : (n : ℕ) (m : Rule) → slice_get (rules_of s.mappings) n ≡ Some m → IsRule s.relations m
    rule n m e = all_at (IsRule s.relations) (rules_of s.mappings) n m (mapping_rules s.relations (few_relations s v) v.relations s.mappings v.mappings) e
