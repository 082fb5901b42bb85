-- The test of an admission decides what the grammar says of operations.
use Rattle.std.specs.Prelude.{◌≡◌, ℕ, ◌^◌, ◌<◌, ◌≤◌, ◌&&◌, ◌==◌, nat_le, Bool, true, false, List, [], ◌∷◌, length, Option, Some, None, slice_get, Decides, IsUtf8}
use Rattle.std.proofs.Common.{refl, sym, ap, ◌∙◌, subst, arith}
use Rattle.std.specs.List.{AllByRecursion, list_all}
use Rattle.std.specs.Str.Lossy.{utf8_valid_len}
use Rattle.std.proofs.lemmas.Bool.{and_parts}
use Rattle.std.proofs.lemmas.Bool.Decides.{nat_tests}
use Rattle.std.proofs.lemmas.Str.{utf8_valid_len-IsUtf8}
use Rattle.def_chase.specs.Values.{NullName, Datum, Number, Text, Unknown, Fact}
use Rattle.def_chase.specs.Updates.{Operation, Adds, Removes, Replaces, Enacts}
use Rattle.def_language.specs.Sessions.{RelationSchema}
use Rattle.def_language.specs.Validity.{IsFact, IsValue, IsOperation, HasColumns}
use Rattle.lang_session.proofs.Texts.{whole_text}
use Rattle.lang_session.specs.Admissible.{IsAdmissible, IsDatumOfProgram, IsOfProgram, admits, fits_datum, fits_fact, fits_null, fits_text, has_columns, is_text}

-- a test that fails does not hold
no_test : false ≡ true → ⊥
no_test e = cc

-- both tests hold
both : (a b : Bool) → a ≡ true → b ≡ true → a && b ≡ true
both a b p q = rw (p, q) refl

null_means : (before : ℕ) (n : NullName) → n.place < 2 ^ 32 → fits_null before n ≡ true → IsValue before (Unknown n)
null_means before n place e =
    let p = and_parts (n.attempt == 0) (nat_le n.update before) e in
    let outer : n.attempt ≡ 0 = grind (arith, p.0, nat_tests) in
    let below : n.update ≤ before = grind (arith, p.1, nat_tests) in
    (outer, below, place)

null_fits : (before : ℕ) (n : NullName) → IsValue before (Unknown n) → fits_null before n ≡ true
null_fits before n v =
    let outer : (n.attempt == 0) ≡ true = grind (arith, v.0, nat_tests) in
    let below : nat_le n.update before ≡ true = grind (arith, v.1, nat_tests) in
    both _ _ outer below

text_means : (before : ℕ) (t : List ℕ) → fits_text t ≡ true → IsValue before (Text t)
text_means before t e =
    let p = and_parts (nat_le (length t) 256) (is_text t) e in
    let short : length t ≤ 256 = grind (arith, p.0, nat_tests) in
    (short, whole_text t p.1)

text_fits : (before : ℕ) (t : List ℕ) → IsValue before (Text t) → fits_text t ≡ true
text_fits before t v =
    let short : nat_le (length t) 256 ≡ true = grind (arith, v.0, nat_tests) in
    let same : (length t == length t) ≡ true = grind (arith, nat_tests) in
    both _ _ short (ap (λ n. n == length t) (utf8_valid_len-IsUtf8 t v.1) ∙ same)

datum_means : (before : ℕ) (d : Datum) → IsDatumOfProgram d → fits_datum before d ≡ true → IsValue before d
datum_means before (Number z) own e = own
datum_means before (Text t) own e = text_means before t e
datum_means before (Unknown n) own e = null_means before n own e

datum_fits : (before : ℕ) (d : Datum) → IsValue before d → fits_datum before d ≡ true
datum_fits before (Number z) v = refl
datum_fits before (Text t) v = text_fits before t v
datum_fits before (Unknown n) v = null_fits before n v

values_mean : (before : ℕ) (ds : List Datum) → AllByRecursion IsDatumOfProgram ds → list_all (fits_datum before) ds ≡ true → AllByRecursion (IsValue before) ds
values_mean before [] own e = tt
values_mean before (d ∷ ds) own e =
    let p = and_parts (fits_datum before d) (list_all (fits_datum before) ds) e in
    (datum_means before d own.0 p.0, values_mean before ds own.1 p.1)

values_fit : (before : ℕ) (ds : List Datum) → AllByRecursion (IsValue before) ds → list_all (fits_datum before) ds ≡ true
values_fit before [] v = refl
values_fit before (d ∷ ds) v = both _ _ (datum_fits before d v.0) (values_fit before ds v.1)

columns_mean : (relations : List RelationSchema) (r columns : ℕ) → has_columns (slice_get relations r) columns ≡ true → HasColumns relations r columns
columns_mean relations r columns e = by (slice_get relations r) refl e where
  by : (found : Option RelationSchema) → slice_get relations r ≡ found → has_columns found columns ≡ true → HasColumns relations r columns
  by None is e = absurd (no_test e)
  by (Some s) is e =
      let same : s.arity ≡ columns = grind (arith, e, nat_tests) in
      (s, is, same)

columns_fit : (relations : List RelationSchema) (r columns : ℕ) → HasColumns relations r columns → has_columns (slice_get relations r) columns ≡ true
columns_fit relations r columns h =
    let same : (h.0.arity == columns) ≡ true = grind (arith, h.2, nat_tests) in
    rw h.1 same

fact_means : (relations : List RelationSchema) (before : ℕ) (t : Fact) → AllByRecursion IsDatumOfProgram t.values → fits_fact relations before t ≡ true → IsFact relations before t
fact_means relations before t own e =
    let p = and_parts (has_columns (slice_get relations t.relation) (length t.values)) (list_all (fits_datum before) t.values) e in
    (columns_mean relations t.relation (length t.values) p.0, values_mean before t.values own p.1)

fact_fits : (relations : List RelationSchema) (before : ℕ) (t : Fact) → IsFact relations before t → fits_fact relations before t ≡ true
fact_fits relations before t h = both _ _ (columns_fit relations t.relation (length t.values) h.0) (values_fit before t.values h.1)

pub decided : (relations : List RelationSchema) (before : ℕ) (op : Operation) → IsOfProgram op → Decides (admits relations before op) (IsAdmissible relations before op)
decided relations before (Adds t) own = (λ e. (fact_means relations before t own e, tt), λ h. fact_fits relations before t h.0)
decided relations before (Removes t) own = (λ e. (fact_means relations before t own e, tt), λ h. fact_fits relations before t h.0)
decided relations before (Replaces n d) own = (means, λ h. both _ _ (null_fits before n h.0.0) (datum_fits before d h.0.1)) where
  means : fits_null before n && fits_datum before d ≡ true → IsAdmissible relations before (Replaces n d)
  means e =
      let p = and_parts (fits_null before n) (fits_datum before d) e in
      ((null_means before n own.0 p.0, datum_means before d own.1 p.1), tt)
decided relations before (Enacts place) own = (λ e. absurd (no_test e), λ h. absurd h.1)
