-- The lines of a text after another one, and where a session and a result text end among them.
use Rattle.std.specs.Prelude.{◌≡◌, ℕ, Bool, true, false, List, [], ◌∷◌, ◌++◌, map, flat_map, take, drop, slice_get, is_some, if◌then◌else◌}
use Rattle.std.proofs.Common.{refl, sym, ap, ◌∙◌, append_assoc, append-nil}
use Rattle.std.specs.List.{AllByRecursion, concat}
use Rattle.std.proofs.lemmas.Bool.{false≢true}
use Rattle.std.proofs.lemmas.List.Concat.{flat_map-cons}
use Rattle.def_language.specs.Bytes.{is_line_feed}
use Rattle.audit_claims.specs.Parts.{after_session, bare, before, from, is_end, lines_in, onto_first, session_in}
use Rattle.audit_claims.proofs.Lined.{whole}
use Rattle.audit_claims.proofs.Cuts.{Unfed}
use Rattle.cmd_laws.specs.Circle.{IsClosed}

-- ---- a text that ends with a line feed

abbrev pub is_fed : List ℕ → Bool
is_fed [] = true
is_fed (x ∷ []) = is_line_feed x
is_fed (x ∷ y ∷ xs) = is_fed (y ∷ xs)

fed_at_end : (xs : List ℕ) → is_fed (xs ++ 10 ∷ []) ≡ true
fed_at_end [] = refl
fed_at_end (x ∷ []) = refl
fed_at_end (x ∷ y ∷ xs) = fed_at_end (y ∷ xs)

pub has_line : (x : ℕ) (xs : List ℕ) → is_some (slice_get (lines_in (x ∷ xs)) 0) ≡ true
has_line x xs = by (is_line_feed x)
  where
    onto : (lines : List (List ℕ)) → is_some (slice_get (onto_first x lines) 0) ≡ true
    onto [] = refl
    onto (l ∷ ls) = refl

    by : (b : Bool) → is_some (slice_get (if b then (x ∷ []) ∷ lines_in xs else onto_first x (lines_in xs)) 0) ≡ true
    by true = refl
    by false = onto (lines_in xs)

onto_join : (x : ℕ) (ls ms : List (List ℕ)) → is_some (slice_get ls 0) ≡ true → onto_first x (ls ++ ms) ≡ onto_first x ls ++ ms
onto_join x [] ms some = absurd (false≢true some)
onto_join x (l ∷ ls) ms some = refl

pub lines_join : (xs ys : List ℕ) → is_fed xs ≡ true → lines_in (xs ++ ys) ≡ lines_in xs ++ lines_in ys
lines_join [] ys fed = refl
lines_join (x ∷ []) ys fed = rw fed refl
lines_join (x ∷ y ∷ xs) ys fed = by (is_line_feed x) (lines_join (y ∷ xs) ys fed)
  where
    by : (b : Bool) → lines_in ((y ∷ xs) ++ ys) ≡ lines_in (y ∷ xs) ++ lines_in ys
        → (if b then (x ∷ []) ∷ lines_in ((y ∷ xs) ++ ys) else onto_first x (lines_in ((y ∷ xs) ++ ys)))
        ≡ (if b then (x ∷ []) ∷ lines_in (y ∷ xs) else onto_first x (lines_in (y ∷ xs))) ++ lines_in ys
    by true e = ap (λ ls. (x ∷ []) ∷ ls) e
    by false e = ap (onto_first x) e ∙ onto_join x (lines_in (y ∷ xs)) (lines_in ys) (has_line y xs)

-- ---- the first line that passes a test

module _ (test : List ℕ → Bool) where
  parts_join : (ls : List (List ℕ)) → concat (before test ls) ++ concat (from test ls) ≡ concat ls
  parts_join [] = refl
  parts_join (l ∷ ls) = by (test l) (parts_join ls)
    where
      by : (b : Bool) → concat (before test ls) ++ concat (from test ls) ≡ concat ls
          → concat (if b then [] else l ∷ before test ls) ++ concat (if b then l ∷ ls else from test ls) ≡ concat (l ∷ ls)
      by true e = refl
      by false e = append_assoc l (concat (before test ls)) (concat (from test ls)) ∙ ap (λ t. l ++ t) e

  -- lines after one that passes
  from_join : (ls ms : List (List ℕ)) → is_some (slice_get (from test ls) 0) ≡ true → from test (ls ++ ms) ≡ from test ls ++ ms
  from_join [] ms some = absurd (false≢true some)
  from_join (l ∷ ls) ms some = by (test l) some (from_join ls ms)
    where
      by : (b : Bool) → is_some (slice_get (if b then l ∷ ls else from test ls) 0) ≡ true
          → (is_some (slice_get (from test ls) 0) ≡ true → from test (ls ++ ms) ≡ from test ls ++ ms)
          → (if b then l ∷ (ls ++ ms) else from test (ls ++ ms)) ≡ (if b then l ∷ ls else from test ls) ++ ms
      by true e rest = refl
      by false e rest = rest e

  before_join : (ls ms : List (List ℕ)) → is_some (slice_get (from test ls) 0) ≡ true → before test (ls ++ ms) ≡ before test ls
  before_join [] ms some = absurd (false≢true some)
  before_join (l ∷ ls) ms some = by (test l) some (before_join ls ms)
    where
      by : (b : Bool) → is_some (slice_get (if b then l ∷ ls else from test ls) 0) ≡ true
          → (is_some (slice_get (from test ls) 0) ≡ true → before test (ls ++ ms) ≡ before test ls)
          → (if b then [] else l ∷ before test (ls ++ ms)) ≡ (if b then [] else l ∷ before test ls)
      by true e rest = refl
      by false e rest = ap (λ k. l ∷ k) (rest e)

  -- lines before one that passes
  pub from_after : (ls ms : List (List ℕ)) → AllByRecursion (λ l. test l ≡ false) ls → from test (ls ++ ms) ≡ from test ms
  from_after [] ms none = refl
  from_after (l ∷ ls) ms none = rw none.0 (from_after ls ms none.1)

  pub before_after : (ls ms : List (List ℕ)) → AllByRecursion (λ l. test l ≡ false) ls → before test (ls ++ ms) ≡ ls ++ before test ms
  before_after [] ms none = refl
  before_after (l ∷ ls) ms none = rw none.0 (ap (λ k. l ∷ k) (before_after ls ms none.1))

-- ---- a session that ends with the line feed of its `end`

module _ (input rest : List ℕ) (closed : IsClosed input) where
  parted : input ≡ (concat (before is_end (lines_in input)) ++ closed.line) ++ 10 ∷ []
  parted =
      sym (parts_join is_end (lines_in input) ∙ whole input) ∙ ap (λ ls. concat (before is_end (lines_in input)) ++ concat ls) closed.last
      ∙ ap (λ t. concat (before is_end (lines_in input)) ++ t) (append-nil (closed.line ++ 10 ∷ []))
      ∙ sym (append_assoc (concat (before is_end (lines_in input))) closed.line (10 ∷ []))

  fed : is_fed input ≡ true
  fed = ap is_fed parted ∙ fed_at_end (concat (before is_end (lines_in input)) ++ closed.line)

  joined : lines_in (input ++ rest) ≡ lines_in input ++ lines_in rest
  joined = lines_join input rest fed

  some : is_some (slice_get (from is_end (lines_in input)) 0) ≡ true
  some = ap (λ (ls : List (List ℕ)). is_some (slice_get ls 0)) closed.last

  onward : from is_end (lines_in (input ++ rest)) ≡ (closed.line ++ 10 ∷ []) ∷ lines_in rest
  onward = ap (from is_end) joined ∙ from_join is_end (lines_in input) (lines_in rest) some ∙ ap (λ ls. ls ++ lines_in rest) closed.last

  pub session_is : session_in (input ++ rest) ≡ input
  session_is =
      (λ i. concat ((ap (before is_end) joined ∙ before_join is_end (lines_in input) (lines_in rest) some) i) ++ concat (take 1 (onward i)))
      ∙ ap (λ ls. concat (before is_end (lines_in input)) ++ concat ls) (sym closed.last)
      ∙ parts_join is_end (lines_in input) ∙ whole input

  pub after_is : after_session (input ++ rest) ≡ rest
  after_is = ap (λ ls. concat (drop 1 ls)) onward ∙ whole rest

-- ---- lines one by one

pub line_cut : (xs ys : List ℕ) → Unfed xs → lines_in (xs ++ 10 ∷ ys) ≡ (xs ++ 10 ∷ []) ∷ lines_in ys
line_cut [] ys one = refl
line_cut (x ∷ xs) ys one = rw one.0 (ap (onto_first x) (line_cut xs ys one.1))

pub bare_cut : (xs ys : List ℕ) → Unfed xs → bare (xs ++ 10 ∷ ys) ≡ xs
bare_cut [] ys one = refl
bare_cut (x ∷ xs) ys one = rw one.0 (ap (λ t. x ∷ t) (bare_cut xs ys one.1))

module _ {A : Type 0} (line : A → List ℕ) where
  pub lines_are : (xs : List A) (ys : List ℕ) → AllByRecursion (λ x. Unfed (line x)) xs → lines_in (flat_map (λ x. line x ++ 10 ∷ []) xs ++ ys) ≡ map (λ x. line x ++ 10 ∷ []) xs ++ lines_in ys
  lines_are [] ys all = refl
  lines_are (x ∷ xs) ys all =
      let apart = ap (λ t. t ++ ys) (flat_map-cons (λ y. line y ++ 10 ∷ []) x xs) ∙ append_assoc (line x ++ 10 ∷ []) (flat_map (λ y. line y ++ 10 ∷ []) xs) ys
      ∙ append_assoc (line x) (10 ∷ []) (flat_map (λ y. line y ++ 10 ∷ []) xs ++ ys) in
      ap lines_in apart ∙ line_cut (line x) (flat_map (λ y. line y ++ 10 ∷ []) xs ++ ys) all.0 ∙ ap (λ ls. (line x ++ 10 ∷ []) ∷ ls) (lines_are xs ys all.1)

  pub text_is : (xs : List A) → concat (map (λ x. line x ++ 10 ∷ []) xs) ≡ flat_map (λ x. line x ++ 10 ∷ []) xs
  text_is [] = refl
  text_is (x ∷ xs) = ap (λ t. (line x ++ 10 ∷ []) ++ t) (text_is xs) ∙ sym (flat_map-cons (λ y. line y ++ 10 ∷ []) x xs)
