-- A function on nulls that is made null by null is, on values, the function that it is made after.
use Rattle.std.proofs.Common.{◌≡◌, ℕ, ◌+◌, ◌<◌, ◌≤◌, ap, refl, sym, ◌∙◌, List, [], ◌∷◌, ◌++◌, map, take, length, get_or, Bool, true, false, ◌||◌, cond, Option, Some, None}
use Rattle.std.proofs.Math.Numerals.{add-one}
use Rattle.std.proofs.Math.Seq.{take-suc}
use Rattle.std.proofs.lemmas.List.{map-append, take_all}
use Rattle.def_chase.specs.Values.{NullName, Datum, Number, Text, Unknown, same_datum}
use Rattle.def_chase.specs.Caused.{KeepsConstants}
use Rattle.def_chase.proofs.Searches.{any_join}
use Rattle.def_chase.proofs.Walks.{among}
use Rattle.base_types.specs.declared.values.Value.{Value}
use Rattle.base_types.specs.Meanings.{datum_of}
use Rattle.base_types.specs.Maps.{same_null, moved_by}
use Rattle.base_types.proofs.Exact.{same_null_decides}
use Rattle.chase_unifier.specs.Moves.{give, moving}

or_none : (a b : Bool) → b ≡ false → a ≡ (a || (b || false))
or_none true b e = refl
or_none false b e = sym e ∙ or_false b
  where
    or_false : (b : Bool) → b ≡ (b || false)
    or_false true = refl
    or_false false = refl

or_one : (a b : Bool) → b ≡ true → true ≡ (a || (b || false))
or_one true b e = refl
or_one false true e = refl
or_one false false e = sym e

-- Whether the null is among the values, or is the one more.
one_more_among : (n : NullName) (ds : List Datum) (d : Datum) → (among ds (Unknown n) || (same_datum (Unknown n) d || false)) ≡ among (ds ++ d ∷ []) (Unknown n)
one_more_among n ds d = sym (any_join (same_datum (Unknown n)) ds (d ∷ []))

-- The image given to one more value.
one_more : (g : Datum → Datum) (ds : List Datum) (d : Datum) → give (moving g ds) d (g d) ≡ moving g (ds ++ d ∷ [])
one_more g ds (Number i) = λ j n. (ap (λ b. cond b (Some (g (Unknown n))) None) (or_none (among ds (Unknown n)) false refl ∙ one_more_among n ds (Number i))) j
one_more g ds (Text w) = λ j n. (ap (λ b. cond b (Some (g (Unknown n))) None) (or_none (among ds (Unknown n)) false refl ∙ one_more_among n ds (Text w))) j
one_more g ds (Unknown m) = λ j n. (by n (same_null n m) refl ∙ ap (λ b. cond b (Some (g (Unknown n))) None) (one_more_among n ds (Unknown m))) j
  where
    by : (n : NullName) (b : Bool) → same_null n m ≡ b
        → cond b (Some (g (Unknown m))) (cond (among ds (Unknown n)) (Some (g (Unknown n))) None) ≡ cond (among ds (Unknown n) || (same_null n m || false)) (Some (g (Unknown n))) None
    by n true e =
        ap (λ k. Some (g (Unknown k))) (sym ((same_null_decides n m).0 e))
        ∙ ap (λ b. cond b (Some (g (Unknown n))) None) (or_one (among ds (Unknown n)) (same_null n m) e)
    by n false e = ap (λ b. cond b (Some (g (Unknown n))) None) (or_none (among ds (Unknown n)) (same_null n m) e)

-- The image given to the value at the place that a loop has come to.
pub given_at : (g : Datum → Datum) (vs : List Value) (i : ℕ) (v : Value) (old new : NullName → Option Datum) → i < length vs → v ≡ get_or vs i v → old ≡ moving g (map datum_of (take i vs)) → new ≡ give old (datum_of v) (g (datum_of v))
    → new ≡ moving g (map datum_of (take (i + 1) vs))
given_at g vs i v old new h is e f =
    let longer : map datum_of (take (i + 1) vs) ≡ map datum_of (take i vs) ++ datum_of v ∷ [] =
    ap (λ k. map datum_of (take k vs)) (add-one i) ∙ ap (map datum_of) (take-suc vs i v h ∙ ap (λ y. take i vs ++ y ∷ []) (sym is)) ∙ map-append datum_of (take i vs) (v ∷ []) in
    f ∙ ap (λ o. give o (datum_of v) (g (datum_of v))) e ∙ one_more g (map datum_of (take i vs)) (datum_of v) ∙ ap (moving g) (sym longer)

moved_some : (f : NullName → Option Datum) (n : NullName) (d : Datum) → f n ≡ Some d → moved_by f (Unknown n) ≡ d
moved_some f n d e = rw e refl

moved_none : (f : NullName → Option Datum) (n : NullName) → f n ≡ None → moved_by f (Unknown n) ≡ Unknown n
moved_none f n e = rw e refl

-- Where g keeps constants and moves no null but those among the values, that is g.
pub moves_as : (g : Datum → Datum) (ds : List Datum) → KeepsConstants g → ((x : Datum) → among ds x ≡ false → g x ≡ x) → moved_by (moving g ds) ≡ g
moves_as g ds keeps others = λ j x. at x j
  where
    by : (n : NullName) (b : Bool) → among ds (Unknown n) ≡ b → moved_by (moving g ds) (Unknown n) ≡ g (Unknown n)
    by n true e = moved_some (moving g ds) n (g (Unknown n)) (ap (λ b. cond b (Some (g (Unknown n))) None) e)
    by n false e = moved_none (moving g ds) n (ap (λ b. cond b (Some (g (Unknown n))) None) e) ∙ sym (others (Unknown n) e)

    at : (x : Datum) → moved_by (moving g ds) x ≡ g x
    at (Number i) = sym (keeps.0 i)
    at (Text w) = sym (keeps.1 w)
    at (Unknown n) = by n (among ds (Unknown n)) refl

-- Once a loop has gone over all values, that is g.
pub moved_whole : (g : Datum → Datum) (vs ws : List Value) (i : ℕ) (f : NullName → Option Datum) → length ws ≤ i → ws ≡ vs → f ≡ moving g (map datum_of (take i ws)) → KeepsConstants g → ((x : Datum) → among (map datum_of vs) x ≡ false → g x ≡ x)
    → moved_by f ≡ g
moved_whole g vs ws i f h same e keeps others = ap moved_by (e ∙ ap (λ l. moving g (map datum_of l)) (take_all i ws h ∙ same)) ∙ moves_as g (map datum_of vs) keeps others
