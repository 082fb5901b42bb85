-- Names by first occurrence, and their places.
use Rattle.std.proofs.Common.{◌≡◌, ℕ, suc, ◌+◌, ◌<◌, Bool, true, false, List, [], ◌∷◌, ◌++◌, length, refl, sym, ap, ◌∙◌, subst, arith, append_assoc, append-nil, length-append}
use Rattle.std.specs.Prelude.{map, fold, nat_eq, ◌||◌, ◌==◌, if◌then◌else◌}
use Rattle.std.specs.List.{AllByRecursion, list_any, range_with_len}
use Rattle.std.proofs.lemmas.Bool.{eqb-true}
use Rattle.std.proofs.lemmas.Bool.Decides.{nat_tests}
use Rattle.std.proofs.lemmas.List.{map-append}
use Rattle.std.proofs.lemmas.List.Folds.{list_any-append}
use Rattle.def_language.specs.Names.{Name, same_name, is_one_of, place_of, with_new, firsts}
use Rattle.def_language.specs.Printing.{name_of}
use Rattle.def_language.specs.Validity.{IsName, AreNew, AreNames}
use Rattle.def_language.proofs.Called.{same_itself, same_is, at_seam}

-- the name is one of the list
abbrev pub IsIn : List Name → Name → Type 0
IsIn names n = is_one_of names n ≡ true

abbrev pub AreIn : List Name → List Name → Type 0
AreIn names ns = AllByRecursion (IsIn names) ns

-- a new name after others
pub new_after : (before names : List Name) (n : Name) → AreNew before names → IsName n → is_one_of (before ++ names) n ≡ false → AreNew before (names ++ n ∷ [])
new_after before [] n all good new = (good, subst (λ (ns : List Name). is_one_of ns n ≡ false) (append-nil before) new, tt)
new_after before (m ∷ names) n all good new =
    let e : before ++ m ∷ names ≡ (before ++ m ∷ []) ++ names = sym (append_assoc before (m ∷ []) names) in
    (all.0, all.1, new_after (before ++ m ∷ []) names n all.2 good (subst (λ (ns : List Name). is_one_of ns n ≡ false) e new))

either : (a b : Bool) → b ≡ true → (a || b) ≡ true
either true b e = refl
either false b e = e

in_left : (xs ys : List Name) (n : Name) → IsIn xs n → IsIn (xs ++ ys) n
in_left xs ys n e = list_any-append (same_name n) xs ys ∙ rw e refl

in_right : (xs ys : List Name) (n : Name) → IsIn ys n → IsIn (xs ++ ys) n
in_right xs ys n e = list_any-append (same_name n) xs ys ∙ either (is_one_of xs n) (is_one_of ys n) e

in_itself : (n : Name) (ns : List Name) → IsIn (n ∷ ns) n
in_itself n ns = rw (same_itself n) refl

-- ---- one more name, and all of them

-- what a list is with one more name: its front is kept, the name is in it, and names stay apart
record Grown (seen : List Name) (n : Name) (names : List Name) : Type 0 where
  more : List Name
  front : names ≡ seen ++ more
  has : IsIn names n
  apart : AreNames seen → IsName n → AreNames names

grown : (seen : List Name) (n : Name) → Grown seen n (with_new same_name seen n)
grown seen n = by (is_one_of seen n) refl where
  by : (b : Bool) → is_one_of seen n ≡ b → Grown seen n (let ns : List Name = if b then seen else seen ++ n ∷ [] in ns)
  by true e = record { more = []; front = sym (append-nil seen); has = e; apart = λ all good. all }
  by false e = record { more = n ∷ []; front = refl; has = in_right seen (n ∷ []) n (in_itself n []); apart = λ all good. new_after [] seen n all good e }

pub record AllGrown (seen ns names : List Name) : Type 0 where
  pub more : List Name
  pub front : names ≡ seen ++ more
  pub has : AreIn names ns
  pub apart : AreNames seen → AllByRecursion IsName ns → AreNames names

all_grown : (seen ns : List Name) → AllGrown seen ns (fold (with_new same_name) seen ns)
all_grown seen [] = record { more = []; front = sym (append-nil seen); has = tt; apart = λ all good. all }
all_grown seen (n ∷ ns) =
    let one = grown seen n in
    let others = all_grown (with_new same_name seen n) ns in
    let result : List Name = fold (with_new same_name) (with_new same_name seen n) ns in
    record {
      more = one.more ++ others.more;
      front = others.front ∙ ap (λ (xs : List Name). xs ++ others.more) one.front ∙ append_assoc seen one.more others.more;
      has = (subst (λ (xs : List Name). IsIn xs n) (sym others.front) (in_left (with_new same_name seen n) others.more n one.has), others.has);
      apart = λ all good. others.apart (one.apart all good.0) good.1;
    }

pub firsts_grown : (ns : List Name) → AllGrown [] ns (firsts same_name ns)
firsts_grown ns = all_grown [] ns

-- the names of the first list come first
pub firsts_front : (xs ys : List Name) → (more : List Name) × (firsts same_name (xs ++ ys) ≡ firsts same_name xs ++ more)
firsts_front xs ys =
    let g = all_grown (firsts same_name xs) ys in
    (g.more, fold_append xs [] ∙ g.front) where
      fold_append : (zs seen : List Name) → fold (with_new same_name) seen (zs ++ ys) ≡ fold (with_new same_name) (fold (with_new same_name) seen zs) ys
      fold_append [] seen = refl
      fold_append (z ∷ zs) seen = fold_append zs (with_new same_name seen z)

-- ---- places

-- a name of the list stands at its place
pub at_place : (names : List Name) (n : Name) → IsIn names n → (place_of names n < length names) × (name_of names (place_of names n) ≡ n)
at_place [] n e = let f : ⊥ = cc in absurd f
at_place (m ∷ names) n e = by (λ others. at_place names n others) (same_name n m) refl where
  by : (is_one_of names n ≡ true → (place_of names n < length names) × (name_of names (place_of names n) ≡ n)) → (b : Bool) → same_name n m ≡ b → (place_of (m ∷ names) n < length (m ∷ names)) × (name_of (m ∷ names) (place_of (m ∷ names) n) ≡ n)
  by others true f = rw f (omega arith, sym (same_is n m f))
  by others false f =
      let o = others (rw f at e) in
      let k : 1 + place_of names n ≡ suc (place_of names n) = omega arith in
      rw (f, k) (omega (arith, o.0), o.1)

-- places are the same where names are
pub place_tells : (names : List Name) (m n : Name) → IsIn names m → IsIn names n → (place_of names m == place_of names n) ≡ same_name m n
place_tells names m n a b = by (place_of names m == place_of names n) (same_name m n) refl refl where
  by : (p q : Bool) → (place_of names m == place_of names n) ≡ p → same_name m n ≡ q → p ≡ q
  by true true e f = refl
  by false false e f = refl
  by true false e f =
      let is : m ≡ n = sym (at_place names m a).1 ∙ ap (name_of names) (eqb-true (place_of names m) (place_of names n) e) ∙ (at_place names n b).1 in
      sym (ap (same_name m) (sym is) ∙ same_itself m) ∙ f
  by false true e f =
      let is : place_of names m ≡ place_of names n = ap (place_of names) (same_is m n f) in
      let yes : (place_of names m == place_of names n) ≡ true = grind (arith, nat_tests) in
      sym e ∙ yes

-- numbers of names, each once
module _ (names : List Name) where
  any_placed : (n : Name) (seen : List Name) → IsIn names n → AreIn names seen → list_any (nat_eq (place_of names n)) (map (place_of names) seen) ≡ is_one_of seen n
  any_placed n [] a all = refl
  any_placed n (m ∷ seen) a all = rw (place_tells names n m a all.0, any_placed n seen a all.1) refl

  new_placed : (seen : List Name) (n : Name) → IsIn names n → AreIn names seen → with_new nat_eq (map (place_of names) seen) (place_of names n) ≡ map (place_of names) (with_new same_name seen n)
  new_placed seen n a all = by (is_one_of seen n) refl where
    by : (b : Bool) → is_one_of seen n ≡ b → with_new nat_eq (map (place_of names) seen) (place_of names n) ≡ map (place_of names) (with_new same_name seen n)
    by true e = rw (any_placed n seen a all, e) refl
    by false e = rw (any_placed n seen a all, e) (sym (map-append (place_of names) seen (n ∷ [])))

  in_push : (seen : List Name) (n : Name) → IsIn names n → AreIn names seen → AreIn names (seen ++ n ∷ [])
  in_push [] n a all = (a, tt)
  in_push (m ∷ seen) n a all = (all.0, in_push seen n a all.1)

  in_new : (seen : List Name) (n : Name) → IsIn names n → AreIn names seen → AreIn names (with_new same_name seen n)
  in_new seen n a all = by (is_one_of seen n) where
    by : (b : Bool) → AreIn names (let ns : List Name = if b then seen else seen ++ n ∷ [] in ns)
    by true = all
    by false = in_push seen n a all

  firsts_placed_from : (ns seen : List Name) → AreIn names ns → AreIn names seen → fold (with_new nat_eq) (map (place_of names) seen) (map (place_of names) ns) ≡ map (place_of names) (fold (with_new same_name) seen ns)
  firsts_placed_from [] seen all all' = refl
  firsts_placed_from (n ∷ ns) seen all all' =
      ap (λ (xs : List ℕ). fold (with_new nat_eq) xs (map (place_of names) ns)) (new_placed seen n all.0 all') ∙ firsts_placed_from ns (with_new same_name seen n) all.1 (in_new seen n all.0 all')

  pub firsts_placed : (ns : List Name) → AreIn names ns → firsts nat_eq (map (place_of names) ns) ≡ map (place_of names) (firsts same_name ns)
  firsts_placed ns all = firsts_placed_from ns [] all tt

-- the places of a front of the names
front_places : (before front more : List Name) → AreNew before (front ++ more) → map (place_of (before ++ (front ++ more))) front ≡ range_with_len (length before) (length front)
front_places before [] more all = refl
front_places before (n ∷ front) more all =
    let e : (before ++ n ∷ []) ++ (front ++ more) ≡ before ++ n ∷ (front ++ more) = append_assoc before (n ∷ []) (front ++ more) in
    let size : length (before ++ n ∷ []) ≡ length before + 1 = length-append before (n ∷ []) in
    let others : map (place_of (before ++ n ∷ (front ++ more))) front ≡ range_with_len (length before + 1) (length front) =
    ap (λ (xs : List Name). map (place_of xs) front) (sym e) ∙ front_places (before ++ n ∷ []) front more all.2 ∙ ap (λ k. range_with_len k (length front)) size in
    rw (at_seam before n (front ++ more) all.1, others) refl

pub front_placed : (names front more : List Name) → names ≡ front ++ more → AreNames names → map (place_of names) front ≡ range_with_len 0 (length front)
front_placed names front more is all =
    ap (λ (xs : List Name). map (place_of xs) front) is ∙ front_places [] front more (subst AreNames is all)
