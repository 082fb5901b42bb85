-- Nulls that stand for the named ones, and their replacement.
use Rattle.std.proofs.Common.{◌≡◌, ◌∙◌, ap, refl, sym, subst, Bool, true, false, ◌&&◌, ◌||◌, cond, List, [], ◌∷◌, find, Option, Some, None, unwrap_or, pos}
use Rattle.std.specs.List.{list_any}
use Rattle.def_chase.specs.Values.{NullName, Datum, Number, Text, Unknown, Fact}
use Rattle.def_chase.specs.Queries.{Reply, Yes, No, Image, Nothing, Tuples, is_named, holds_null}
use Rattle.def_chase.proofs.Bools.{differ}
use Rattle.base_types.specs.Meanings.{datum_of}
use Rattle.base_types.specs.declared.nulls.Null.{Null}
use Rattle.base_types.specs.declared.values.Value.{Value}
use Rattle.base_types.specs.declared.values.Value.TheVariants.{Int, Word, Null as NullValue}
use Rattle.base_types.specs.Maps.{moved_by, give_image, no_image, same_null}
use Rattle.chase_query.specs.Kinds.{IsListOf, AreInOrder}
use Rattle.def_steps.specs.Rewriting.{standing_for, replacing}
use Rattle.chase_update.specs.Found.{first_named, holders_in}

-- The value is a null.
abbrev pub IsUnknown : Datum → Type 0
IsUnknown (Number i) = ⊥
IsUnknown (Text w) = ⊥
IsUnknown (Unknown n) = Unit {0}

named_first : (n : NullName) (ds : List Datum) → list_any (is_named n.update n.place) ds ≡ true → IsUnknown (first_named n ds)
named_first n [] e = absurd (differ e)
named_first n (Number i ∷ ds) e = named_first n ds e
named_first n (Text w ∷ ds) e = named_first n ds e
named_first n (Unknown m ∷ ds) e = by (is_named n.update n.place (Unknown m)) (named_first n ds) e
  where
    by : (b : Bool) → (list_any (is_named n.update n.place) ds ≡ true → IsUnknown (first_named n ds)) → (b || list_any (is_named n.update n.place) ds) ≡ true
        → IsUnknown (unwrap_or (cond b (Some (Unknown m)) (find (is_named n.update n.place) ds)) (Number (pos 0)))
    by true r e = tt
    by false r e = r e

first_of_both : (a b : Bool) → (a && b) ≡ true → a ≡ true
first_of_both true b e = refl
first_of_both false b e = e

known_in : (n : NullName) (ts us : List Fact) (d : Datum) → AreInOrder (holds_null n.update n.place) ts → Some us ≡ holders_in (Tuples ts) → d ≡ standing_for n us → IsUnknown d
known_in n [] us d k h e = cc
known_in n (t ∷ ts) us d k h e =
    let same : us ≡ t ∷ ts = cc in
    let stands : standing_for n (t ∷ ts) ≡ d = sym (e ∙ ap (standing_for n) same) in
    subst IsUnknown stands (named_first n t.values (first_of_both (holds_null n.update n.place t) _ k.pass))

-- Where the answer to `Occurs` is of its kind, the named null stands for a null.
pub known : (n : NullName) (a : Reply) (us : List Fact) (d : Datum) → IsListOf (holds_null n.update n.place) a → Some us ≡ holders_in a → d ≡ standing_for n us → IsUnknown d
known n Yes us d k h e = absurd k
known n No us d k h e = absurd k
known n (Image ts) us d k h e = absurd k
known n Nothing us d k h e = absurd k
known n (Tuples ts) us d k h e = known_in n ts us d k h e

-- A value that means a null is one.
pub not_another : (v : Value) → IsUnknown (datum_of v) → ((n : Null) → v ≡ NullValue n → ⊥) → ⊥
not_another (Int i) u h = absurd u
not_another (Word w) u h = absurd u
not_another (NullValue n) u h = h n refl

moved_one : (n : NullName) (d x : Datum) → moved_by (give_image no_image n d) x ≡ replacing (Unknown n) d x
moved_one n d (Number i) = refl
moved_one n d (Text w) = refl
moved_one n d (Unknown m) = by (same_null m n)
  where
    by : (b : Bool) → moved_by (λ _. cond b (Some d) None) (Unknown m) ≡ cond b d (Unknown m)
    by true = refl
    by false = refl

-- A function on nulls that moves this null alone replaces it.
pub moved_is : (f g : NullName → Option Datum) (n : NullName) (d : Datum) → f ≡ give_image g n d → g ≡ no_image → moved_by f ≡ replacing (Unknown n) d
moved_is f g n d e h = ap moved_by (e ∙ ap (λ k. give_image k n d) h) ∙ (λ i x. moved_one n d x i)
