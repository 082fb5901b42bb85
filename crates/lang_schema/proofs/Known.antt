-- The relation of a name, as it is looked up.
use Rattle.std.proofs.Common.{◌≡◌, ◌∙◌, ◌≤◌, ap, ℕ, zero, suc, Bool, true, false, List, [], ◌∷◌, length, Option, Some, None, refl, arith, cond}
use Rattle.std.specs.Prelude.{slice_get, position, not, option_map, nat_lt, ◌==◌, Result, Ok, Err, if◌then◌else◌}
use Rattle.std.specs.List.{position_or_len}
use Rattle.std.proofs.lemmas.Bool.Decides.{nat_tests}
use Rattle.std.proofs.lemmas.List.{length-map}
use Rattle.std.proofs.lemmas.List.Sums.{prefix_len-le-length}
use Rattle.def_language.specs.Names.{Name, same_name, place_of}
use Rattle.def_language.specs.Sessions.{RelationSchema, relation_names}
use Rattle.def_language.specs.Faults.{Kind, UnknownRelation, Arity}
use Rattle.def_language.specs.Meaning.{fitted, relation_of}

placed : (b : Bool) (i n : ℕ) → Some i ≡ cond b (Some n) None → n ≡ i
placed true i n e = cc
placed false i n e = cc

-- where there is a place, it is the first
pub at_place : {A : Type 0} (p : A → Bool) (xs : List A) (i : ℕ) → Some i ≡ position p xs → position_or_len p xs ≡ i
at_place p xs i e = placed (nat_lt (position_or_len p xs) (length xs)) i (position_or_len p xs) e

-- where there is none, all are passed
pub no_place : {A : Type 0} (p : A → Bool) (xs : List A) → None ≡ position p xs → length xs ≤ position_or_len p xs
no_place p xs e = by (nat_lt (position_or_len p xs) (length xs)) refl where
  by : (b : Bool) → nat_lt (position_or_len p xs) (length xs) ≡ b → length xs ≤ position_or_len p xs
  by true t = absurd (let bad : ⊥ = no_some (position_or_len p xs) (e ∙ rw t refl) in bad)
    where
      no_some : (n : ℕ) → None ≡ Some n → ⊥
      no_some n f = cc
  by false t = grind (arith, nat_tests)

-- where there is none, the place is after the last
pub after_last : {A : Type 0} (p : A → Bool) (xs : List A) → None ≡ position p xs → position_or_len p xs ≡ length xs
after_last p xs e = omega (arith, no_place p xs e, prefix_len-le-length (λ x. not (p x)) xs)

past : {A : Type 0} (xs : List A) (i : ℕ) → length xs ≤ i → slice_get xs i ≡ None
past [] i le = refl
past (x ∷ xs) zero le = absurd (omega arith)
past (x ∷ xs) (suc i) le = past xs i (omega arith)

-- no relation has the name
pub unknown_name : (rs : List RelationSchema) (n : Name) (columns : ℕ) → None ≡ position (same_name n) (relation_names rs) → relation_of rs n columns ≡ Err (UnknownRelation n)
unfolding relation_of
unknown_name rs n columns e =
    let beyond : length rs ≤ place_of (relation_names rs) n = omega (arith, no_place (same_name n) (relation_names rs) e, length-map rs (λ (r : RelationSchema). r.name)) in
    rw (past rs (place_of (relation_names rs) n) beyond) refl

-- no relation has the number
pub unknown_number : (rs : List RelationSchema) (n : Name) (columns i : ℕ) → Some i ≡ position (same_name n) (relation_names rs) → None ≡ option_map (λ (r : RelationSchema). r.arity) (slice_get rs i) → relation_of rs n columns ≡ Err (UnknownRelation n)
unfolding relation_of
unknown_number rs n columns i e none = rw (at_place (same_name n) (relation_names rs) i e) (by (slice_get rs i) none) where
  by : (o : Option RelationSchema) → None ≡ option_map (λ (r : RelationSchema). r.arity) o → fitted n columns i o ≡ Err (UnknownRelation n)
  by None f = refl
  by (Some r) f = cc

-- the relation has a number of columns
pub known_relation : (rs : List RelationSchema) (n : Name) (columns i expected : ℕ) → Some i ≡ position (same_name n) (relation_names rs) → Some expected ≡ option_map (λ (r : RelationSchema). r.arity) (slice_get rs i)
    → relation_of rs n columns ≡ (if expected == columns then Ok i else Err (Arity n expected columns))
unfolding relation_of
known_relation rs n columns i expected e some = rw (at_place (same_name n) (relation_names rs) i e) (by (slice_get rs i) some) where
  by : (o : Option RelationSchema) → Some expected ≡ option_map (λ (r : RelationSchema). r.arity) o → fitted n columns i o ≡ (if expected == columns then Ok i else Err (Arity n expected columns))
  by None f = cc
  by (Some r) f =
      let arity : r.arity ≡ expected = cc in
      ap (λ (a : ℕ). let found : Result ℕ Kind = if a == columns then Ok i else Err (Arity n a columns) in found) arity
