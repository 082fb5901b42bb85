-- Relations by name: their places among the keys of a map, and what a new one is checked for.
use Rattle.std.proofs.Common.{◌≡◌, ◌∙◌, ◌<◌, ◌≤◌, ◌++◌, ap, ℕ, zero, suc, ◌+◌, Bool, true, false, List, [], ◌∷◌, length, map, Option, Some, None, refl, sym, arith, cond, pos}
use Rattle.std.specs.Prelude.{slice_get, position, is_some, nat_lt, nat_le, Ok, Err}
use Rattle.std.specs.List.{position_or_len, list_any}
use Rattle.std.proofs.lemmas.Bool.Decides.{nat_tests}
use Rattle.std.proofs.lemmas.Bool.{or_parts}
use Rattle.std.proofs.lemmas.List.{length-map}
use Rattle.indexmap.specs.IndexMap.{insert_entry}
use Rattle.def_language.specs.Names.{Name, same_name, is_one_of}
use Rattle.def_language.specs.Sessions.{RelationSchema, relation_names}
use Rattle.def_language.specs.Faults.{DuplicateName, LimitReached}
use Rattle.def_language.specs.declared.Which.TheVariants as limit
use Rattle.def_language.specs.Checks.{add_relation, is_arity}
use Rattle.def_language.specs.Printing.{name_of}
use Rattle.lang_schema.specs.Relations.{with_relations}

-- what the entries of a map say of relations, with the names by f of the keys
abbrev pub seen : {K : Type 0} → (K → Name) → List (K × ℕ) → List RelationSchema
seen f entries = map (λ e. record { name = f e.0; arity = e.1 }) entries

places : {A B : Type 0} (f : A → B) (p : B → Bool) (xs : List A) → position_or_len p (map f xs) ≡ position_or_len (λ x. p (f x)) xs
places f p [] = refl
places f p (x ∷ xs) = rw (places f p xs) refl

pub position_map : {A B : Type 0} (f : A → B) (p : B → Bool) (xs : List A) → position p (map f xs) ≡ position (λ x. p (f x)) xs
position_map f p xs = rw (places f p xs, length-map xs f) refl

-- the place of a key is that of its relation
pub key_place : {K : Type 0} (f : K → Name) (n : Name) (entries : List (K × ℕ)) → position (λ k. same_name n (f k)) (map (λ e. e.0) entries) ≡ position (same_name n) (relation_names (seen f entries))
key_place {K} f n entries =
    position_map (λ (e : K × ℕ). e.0) (λ k. same_name n (f k)) entries
    ∙ sym (position_map (λ (r : RelationSchema). r.name) (same_name n) (seen f entries) ∙ position_map (λ (e : K × ℕ). let r : RelationSchema = record { name = f e.0; arity = e.1 } in r) (λ r. same_name n r.name) entries)

-- there is a place exactly where one passes
pub has_place : {A : Type 0} (p : A → Bool) (xs : List A) → is_some (position p xs) ≡ list_any p xs
has_place p [] = refl
has_place p (x ∷ xs) = by (has_place p xs) (p x) refl where
  by : is_some (position p xs) ≡ list_any p xs → (b : Bool) → p x ≡ b → is_some (position p (x ∷ xs)) ≡ list_any p (x ∷ xs)
  by rest true e = let t : nat_lt 0 (suc (length xs)) ≡ true = grind (arith, nat_tests) in rw (e, t) refl
  by rest false e = rw e (shifted (position_or_len p xs) (length xs) ∙ rest)
    where
      shifted : (i n : ℕ) → is_some (cond (nat_lt (1 + i) (suc n)) (Some (1 + i)) None) ≡ is_some (cond (nat_lt i n) (Some i) None)
      shifted i n = by_test (nat_lt i n) refl where
        by_test : (b : Bool) → nat_lt i n ≡ b → is_some (cond (nat_lt (1 + i) (suc n)) (Some (1 + i)) None) ≡ is_some (cond (nat_lt i n) (Some i) None)
        by_test true e = let t : nat_lt (1 + i) (suc n) ≡ true = grind (arith, nat_tests) in rw (t, e) refl
        by_test false e = let t : nat_lt (1 + i) (suc n) ≡ false = grind (arith, nat_tests) in rw (t, e) refl

-- the name at a number
pub name_at : {K : Type 0} (f : K → Name) (entries : List (K × ℕ)) (i : ℕ) (k : K) (v : ℕ) → slice_get entries i ≡ Some (k, v) → f k ≡ name_of (relation_names (seen f entries)) i
name_at f [] i k v at = cc
name_at f (e ∷ entries) zero k v at = cc
name_at f (e ∷ entries) (suc i) k v at = name_at f entries i k v at

-- a new key goes last
pub added : {K : Type 0} (f : K → Name) (eq : K → K → Bool) → ((a b : K) → eq a b ≡ same_name (f a) (f b))
    → (entries : List (K × ℕ)) (k : K) (v : ℕ) → is_one_of (relation_names (seen f entries)) (f k) ≡ false → seen f (insert_entry eq entries k v) ≡ seen f entries ++ record { name = f k; arity = v } ∷ []
added f eq same [] k v new = refl
added f eq same (e ∷ entries) k v new =
    let parts = or_parts (same_name (f k) (f e.0)) (is_one_of (relation_names (seen f entries)) (f k)) new in
    let other : eq k e.0 ≡ false = same k e.0 ∙ parts.0 in
    rw other (ap (λ (rs : List RelationSchema). record { name = f e.0; arity = e.1 } ∷ rs) (added f eq same entries k v parts.1))

pub taken_name : (rs : List RelationSchema) (n : Name) (a : ℕ) → is_one_of (relation_names rs) n ≡ true → add_relation (with_relations rs) n (pos a) ≡ Err (DuplicateName n)
unfolding add_relation
taken_name rs n a known = rw known refl

pub no_arity : (rs : List RelationSchema) (n : Name) (a : ℕ) → is_one_of (relation_names rs) n ≡ false → is_arity (pos a) ≡ false → add_relation (with_relations rs) n (pos a) ≡ Err (LimitReached limit.Arity)
unfolding add_relation
no_arity rs n a new columns = rw (new, columns) refl

pub no_room : (rs : List RelationSchema) (n : Name) (a : ℕ) → is_one_of (relation_names rs) n ≡ false → is_arity (pos a) ≡ true → 128 ≤ length rs → add_relation (with_relations rs) n (pos a) ≡ Err (LimitReached limit.Relations)
unfolding add_relation
no_room rs n a new columns full = let t : nat_le 128 (length rs) ≡ true = grind (arith, nat_tests) in rw (new, columns, t) refl

pub room : (rs : List RelationSchema) (n : Name) (a : ℕ) → is_one_of (relation_names rs) n ≡ false → is_arity (pos a) ≡ true → length rs < 128 → add_relation (with_relations rs) n (pos a) ≡ Ok (with_relations (rs ++ record { name = n; arity = a } ∷ []))
unfolding add_relation
room rs n a new columns few = let t : nat_le 128 (length rs) ≡ false = grind (arith, nat_tests) in rw (new, columns, t) refl

-- what a look-up tells of a name
pub found_name : (rs : List RelationSchema) (n : Name) (found : Option ℕ) (b : Bool) → found ≡ position (same_name n) (relation_names rs) → b ≡ is_some found → is_one_of (relation_names rs) n ≡ b
found_name rs n found b place test = sym (has_place (same_name n) (relation_names rs)) ∙ ap is_some (sym place) ∙ sym test
