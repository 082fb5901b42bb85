-- The bound on the updates that drew the nulls of the rows.
use Rattle.std.proofs.Common.{◌≡◌, ℕ, ◌+◌, ◌<◌, ◌≤◌, ap, refl, sym, subst, ◌∙◌, List, [], ◌∷◌, length, get_or, map, filter, find, Bool, true, false, ◌&&◌, ◌||◌, cond, Option, Some, None, arith}
use Rattle.std.proofs.lemmas.Bool.{eqb-true}
use Rattle.std.specs.Prelude.{◌==◌, max}
use Rattle.std.proofs.Math.Nat.{le-max_left, le-max_right}
use Rattle.std.specs.Ordering.{on}
use Rattle.base_types.specs.Candidates.{is_holding}
use Rattle.base_types.specs.Meanings.{datum_of, fact_of}
use Rattle.base_types.specs.declared.tuples.Tuple.{Tuple}
use Rattle.base_types.specs.declared.values.Value.{Value}
use Rattle.def_chase.specs.Cursors.{is_beyond}
use Rattle.def_chase.specs.Queries.{is_named}
use Rattle.def_chase.specs.Values.{Datum, Number, Text, Unknown, Fact, fact_cmp}
use Rattle.def_chase.proofs.Bools.{and-false}
use Rattle.set_facts.proofs.ByNull.{named_before, named_next}
use Rattle.set_versions.specs.Drawn.{drawer, NoneDrawnAbove, AreDrawnUpTo}
use Rattle.set_versions.specs.Indexed.{set_entry}
use Rattle.set_versions.specs.Marked.{stands, visible}
use Rattle.set_versions.specs.declared.marks.Marks.{Marks}
use Rattle.set_versions.proofs.Looking.{all_set}

-- ---- one tuple

-- A null that a lower update drew has not the name of a higher one.
not_named : (u k : ℕ) (d : Datum) → drawer d < u → is_named u k d ≡ false
not_named u k (Number i) h = refl
not_named u k (Text w) h = refl
not_named u k (Unknown n) h = by (n.update == u) refl
  where
    by : (b : Bool) → (n.update == u) ≡ b → (b && (n.place == k)) ≡ false
    by true e = let same : n.update ≡ u = eqb-true n.update u e in absurd (omega (arith, h, same))
    by false e = refl

-- One value more, with the bound raised to its update.
pub none_more : (vs : List Value) (i : ℕ) (v : Value) (h m : ℕ) → i < length vs → v ≡ get_or vs i v → drawer (datum_of v) ≤ m → h ≤ m → ((u k : ℕ) → h < u → named_before i vs u k ≡ false)
    → (u k : ℕ) → m < u → named_before (i + 1) vs u k ≡ false
none_more vs i v h m inside is own low had u k l =
    named_next vs i v u k inside is ∙ ap (λ b. b || is_named u k (datum_of v)) (had u k (omega (arith, low, l))) ∙ not_named u k (datum_of v) (omega (arith, own, l))

-- The greater of the bound and the update is at least the first bound, the bound and the update.
pub raised_by : (b h d w m : ℕ) → d ≡ w → m ≡ max h d → b ≤ h → (b ≤ m) × (h ≤ m) × (w ≤ m)
raised_by b h d w m e f low =
    let one : h ≤ m = subst (λ x. h ≤ x) (sym f) (le-max_left h d) in
    let other : d ≤ m = subst (λ x. d ≤ x) (sym f) (le-max_right h d) in
    (omega (arith, low, one), one, subst (λ x. x ≤ m) e other)

-- ---- rows

raised_all : (h m : ℕ) (rows : List (Tuple × Marks)) → h ≤ m → AreDrawnUpTo h rows → AreDrawnUpTo m rows
raised_all h m [] low a = tt
raised_all h m (e ∷ rows) low a = (λ u k l. a.0 u k (omega (arith, low, l)), raised_all h m rows low a.1)

-- Rows keep to the raised bound after marks are set.
pub drawn_set : (h m : ℕ) (old : List (Tuple × Marks)) {new : List (Tuple × Marks)} (k : Tuple) (n : Marks) → new ≡ set_entry (on fact_of fact_cmp) old k n → h ≤ m → AreDrawnUpTo h old → NoneDrawnAbove m (fact_of k) → AreDrawnUpTo m new
drawn_set h m old k n set low all own = subst (AreDrawnUpTo m) (sym set) (all_set (on fact_of fact_cmp) (λ (e : Tuple × Marks). NoneDrawnAbove m (fact_of e.0)) old k n (raised_all h m old low all) own (λ _ _ p. p))

-- No rows keep to every bound.
pub drawn_empty : (h : ℕ) {rows : List (Tuple × Marks)} → rows ≡ [] → AreDrawnUpTo h rows
drawn_empty h e = subst (AreDrawnUpTo h) (sym e) tt

-- No row holds a null that an update above the bound drew.
pub none_holding : (n h u k : ℕ) (past : Option Fact) (rows : List (Tuple × Marks)) → AreDrawnUpTo h rows → h < u → None ≡ find (is_holding u k past) (visible n rows)
none_holding n h u k past [] a l = refl
none_holding n h u k past (e ∷ rows) a l = by (stands n e.1) (none_holding n h u k past rows a.1 l)
  where
    other : is_holding u k past (fact_of e.0) ≡ false
    other = ap (λ b. is_beyond past (fact_of e.0) && b) (a.0 u k l) ∙ and-false (is_beyond past (fact_of e.0))

    by : (b : Bool) → None ≡ find (is_holding u k past) (visible n rows) → None ≡ find (is_holding u k past) (map (λ f. fact_of f.0) (cond b (e ∷ filter (λ f. stands n f.1) rows) (filter (λ f. stands n f.1) rows)))
    by true i = i ∙ ap (λ b. cond b (Some (fact_of e.0)) (find (is_holding u k past) (visible n rows))) (sym other)
    by false i = i
