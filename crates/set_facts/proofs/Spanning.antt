-- The values of a column, listed.
use Rattle.std.proofs.Common.{◌≡◌, ℕ, zero, suc, ap, refl, sym, ◌∙◌, List, [], ◌∷◌, map, Bool, true, false, ◌&&◌, ◌||◌, not, cond, Option, Some, None, Bor}
use Rattle.std.specs.List.{list_any}
use Rattle.std.specs.Map.{keys_of, lookup}
use Rattle.std.specs.Option.{option_map, option_copied}
use Rattle.std.specs.Prelude.{is_some, find, unwrap_or, IfSome}
use Rattle.std.specs.declared.alloc.Global.{Global}
use Rattle.std.specs.declared.vec.Vec.{Vec}
use Rattle.std.proofs.lemmas.Bool.{and_parts}
use Rattle.def_chase.specs.Cursors.{is_of, has_at}
use Rattle.def_chase.specs.Repository.{has}
use Rattle.def_chase.specs.Values.{Datum, Fact, same_datum}
use Rattle.def_chase.proofs.Bools.{differ}
use Rattle.def_chase.proofs.Members.{any_of}
use Rattle.def_chase.proofs.Searches.{found_any}
use Rattle.base_types.specs.Candidates.{AreAllInColumn}
use Rattle.base_types.specs.Meanings.{datum_of, fact_of}
use Rattle.base_types.specs.declared.tuples.Tuple.{Tuple}
use Rattle.base_types.specs.declared.values.Value.{Value}
use Rattle.set_facts.specs.Indexes.{Kept, group_at, values_at, columns_of, values_kept, IsIndex}
use Rattle.set_facts.specs.Overlaid.{overlaid}
use Rattle.set_facts.proofs.Overlays.{has-overlaid}

-- A value at which tuples are kept is listed.
listed : (es : List (Value × List Fact)) (d : Datum) (u : Fact) → has (unwrap_or (lookup (λ k. same_datum d (datum_of k)) es) []) u ≡ true → list_any (same_datum d) (map datum_of (keys_of es)) ≡ true
listed [] d u e = differ e
listed (x ∷ es) d u e = by (same_datum d (datum_of x.0)) e (listed es d u)
  where
    by : (b : Bool) → has (unwrap_or (cond b (Some x.1) (lookup (λ k. same_datum d (datum_of k)) es)) []) u ≡ true
        → (has (unwrap_or (lookup (λ k. same_datum d (datum_of k)) es) []) u ≡ true → list_any (same_datum d) (map datum_of (keys_of es)) ≡ true)
        → (b || list_any (same_datum d) (map datum_of (keys_of es))) ≡ true
    by true f h = refl
    by false f h = h f

listed_at : (ms : List Kept) (c : ℕ) (d : Datum) (u : Fact) → has (group_at ms c d) u ≡ true → list_any (same_datum d) (values_at ms c) ≡ true
listed_at [] c d u e = differ e
listed_at (m ∷ ms) zero d u e = listed m.entries d u e
listed_at (m ∷ ms) (suc c) d u e = listed_at ms c d u e

-- An index lists all values of a column.
pub all_listed : (D : List Fact) (rs : List (Vec Kept Global)) (r c : ℕ) → IsIndex D rs → AreAllInColumn (values_kept rs r c) D r c
all_listed D rs r c index t d there candidate = listed_at (columns_of rs r) c d t (index r c d t ∙ (λ i. there i && candidate i))

-- They are all values of the column too if tuples of other relations are put in, and some are taken away.
pub values_overlaid : (D gone added : List Fact) (r c : ℕ) (ds : List Datum) → list_any (is_of r) added ≡ false → AreAllInColumn ds D r c → AreAllInColumn ds (overlaid D gone added) r c
values_overlaid D gone added r c ds none all t d there candidate = by (has D t) refl (sym (has-overlaid D gone added t) ∙ there)
  where
    of : is_of r t ≡ true
    of = (and_parts (is_of r t) (has_at c d t) candidate).0

    by : (b : Bool) → has D t ≡ b → ((b && not (has gone t)) || has added t) ≡ true → list_any (same_datum d) ds ≡ true
    by true f g = all t d f candidate
    by false f g = differ (sym none ∙ any_of (is_of r) added t g of)

-- If P implies Q, and P holds of the values that are given, so does Q.
pub values_weaker : (P Q : List Datum → Type 0) (o : Option (Bor (List Value))) → ((ds : List Datum) → P ds → Q ds) → IfSome o (λ vs. P (map datum_of vs.now)) → IfSome o (λ vs. Q (map datum_of vs.now))
values_weaker P Q None f h = tt
values_weaker P Q (Some vs) f h = f (map datum_of vs.now) h

-- If none was found, there is none.
pub none_some_of : (p : Fact → Bool) (D : List Fact) (found : Option (Bor Tuple)) → option_map fact_of (option_copied found) ≡ find p D → is_some found ≡ false → list_any p D ≡ false
none_some_of p D None e n = sym (found_any p D) ∙ ap is_some (sym e)
none_some_of p D (Some t) e n = differ (sym n)
