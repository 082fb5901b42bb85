-- What is read as a token is the longest that stands there.
use Rattle.std.proofs.Common.{◌≡◌, ◌∙◌, ℕ, zero, suc, ◌+◌, ◌-◌, ◌<◌, ◌≤◌, Bool, true, false, List, [], ◌∷◌, ◌++◌, take, drop, length, refl, sym, ap, subst, arith}
use Rattle.std.specs.Prelude.{Option, Some, None, Result, Ok, Err, IfOk, ◌==◌, ◌&&◌, ◌||◌, nat_lt, nat_le, not}
use Rattle.std.specs.List.{list_all, prefix_len}
use Rattle.std.proofs.lemmas.Bool.{eqb-true}
use Rattle.std.proofs.lemmas.Bool.Decides.{nat_tests}
use Rattle.std.proofs.lemmas.List.{drop-drop, length-take-le, take-append-drop, length-append}
use Rattle.std.proofs.Math.Seq.{take-append_seam, drop-append_seam, take-append-add}
use Rattle.def_language.specs.declared.tokens.TokenKind.{TokenKind}
use Rattle.def_language.specs.declared.tokens.TokenKind.TheVariants.{Name, Number, Null, Text, Open, Close, Comma, Colon, Arrow}
use Rattle.def_language.specs.declared.tokens.LexRefusal.{LexRefusal}
use Rattle.def_language.specs.LexAnswers.{◌>>=◌}
use Rattle.def_language.specs.Bytes.{begins_name, continues_name, is_digit, run, digits_of}
use Rattle.def_language.specs.Numbers.{is_wide, is_wide_part}
use Rattle.def_language.specs.QuotedTexts.{text_from, text_at, closed}
use Rattle.def_language.specs.Tokens.{number_at, minus_at, point_at, null_at, sign, sign_at, token_at}
use Rattle.def_language.specs.Spelling.{are_digits, spells, IsLongest}
use Rattle.def_language.proofs.Spelled.{Kept, kept, digits_are, run_whole, run_all}

abbrev Longest : List ℕ → Result (TokenKind × ℕ) LexRefusal → Type 0
Longest bytes read = IfOk read (λ x. IsLongest bytes x.1)

-- more bytes than the run has one that is not of the kind
run_stops : (p : ℕ → Bool) (xs : List ℕ) (m : ℕ) → prefix_len p xs < m → m ≤ length xs → list_all p (take m xs) ≡ false
run_stops p [] m more inside = absurd (omega arith)
run_stops p (x ∷ xs) zero more inside = absurd (omega arith)
run_stops p (x ∷ xs) (suc m) more inside = by (λ fewer. run_stops p xs m fewer (omega arith)) (p x) refl where
  by : (prefix_len p xs < m → list_all p (take m xs) ≡ false) → (passes : Bool) → p x ≡ passes → list_all p (take (suc m) (x ∷ xs)) ≡ false
  by others true e =
      let one : prefix_len p (x ∷ xs) ≡ suc (prefix_len p xs) = rw e (omega arith) in
      rw (e, others (omega arith)) refl
  by others false e = rw e refl

and_false : (a : Bool) → (a && false) ≡ false
and_false true = refl
and_false false = refl

no_digits : (digits : List ℕ) (m : ℕ) → run is_digit digits < m → m ≤ length digits → are_digits (take m digits) ≡ false
no_digits digits m more inside = rw (run_stops is_digit digits m more inside) (and_false (not (length (take m digits) == 0)))

-- whether a byte may begin a token of the kind
abbrev may_begin : TokenKind → ℕ → Bool
may_begin Name b = begins_name b
may_begin Number b = (b == 45) || is_digit b
may_begin Null b = b == 63
may_begin Text b = b == 34
may_begin Open b = b == 40
may_begin Close b = b == 41
may_begin Comma b = b == 44
may_begin Colon b = b == 58
may_begin Arrow b = b == 45

or_parts : (a b : Bool) → (a || b) ≡ false → (a ≡ false) × (b ≡ false)
or_parts true b e = let f : ⊥ = cc in absurd f
or_parts false b e = (refl, e)

begins_none : (kind : TokenKind) (b : ℕ) (xs : List ℕ) → may_begin kind b ≡ false → spells kind (b ∷ xs) ≡ false
begins_none Name b xs e = rw e refl
begins_none Number b xs e = let parts = or_parts (b == 45) (is_digit b) e in rw (parts.0, parts.1, and_false (not (length (b ∷ xs) == 0))) refl
begins_none Null b xs e = rw e refl
begins_none Text b xs e = rw e refl
begins_none Open b xs e = rw e refl
begins_none Close b xs e = rw e refl
begins_none Comma b xs e = rw e refl
begins_none Colon b xs e = rw e refl
begins_none Arrow b [] e = refl
begins_none Arrow b (c ∷ xs) e = rw e refl

-- what more than n bytes are
taken : (n b : ℕ) (xs : List ℕ) → 1 ≤ n → take n (b ∷ xs) ≡ b ∷ take (n - 1) xs
taken n b xs some = let e : n ≡ suc (n - 1) = omega arith in ap (λ k. take k (b ∷ xs)) e

-- no token of a kind that the byte does not begin
none : (kind : TokenKind) (n b : ℕ) (xs : List ℕ) → 1 ≤ n → may_begin kind b ≡ false → spells kind (take n (b ∷ xs)) ≡ false
none kind n b xs some e = ap (spells kind) (taken n b xs some) ∙ begins_none kind b (take (n - 1) xs) e

name_longest : (b : ℕ) (rest : List ℕ) → begins_name b ≡ true → IsLongest (b ∷ rest) (1 + run continues_name rest)
name_longest b rest first Name n more inside =
    ap (spells Name) (taken n b rest (omega arith)) ∙ rw (first, run_stops continues_name rest (n - 1) (omega arith) (omega arith)) refl
name_longest b rest first Number n more inside = none Number n b rest (omega arith) (grind (arith, nat_tests))
name_longest b rest first Null n more inside = none Null n b rest (omega arith) (grind (arith, nat_tests))
name_longest b rest first Text n more inside = none Text n b rest (omega arith) (grind (arith, nat_tests))
name_longest b rest first Open n more inside = none Open n b rest (omega arith) (grind (arith, nat_tests))
name_longest b rest first Close n more inside = none Close n b rest (omega arith) (grind (arith, nat_tests))
name_longest b rest first Comma n more inside = none Comma n b rest (omega arith) (grind (arith, nat_tests))
name_longest b rest first Colon n more inside = none Colon n b rest (omega arith) (grind (arith, nat_tests))
name_longest b rest first Arrow n more inside = none Arrow n b rest (omega arith) (grind (arith, nat_tests))

digits_longest : (b : ℕ) (rest : List ℕ) → is_digit b ≡ true → IsLongest (b ∷ rest) (0 + run is_digit (b ∷ rest))
digits_longest b rest digit Number n more inside =
    let plain : (b == 45) ≡ false = grind (arith, nat_tests) in
    let stops : are_digits (b ∷ take (n - 1) rest) ≡ false = ap are_digits (sym (taken n b rest (omega arith))) ∙ no_digits (b ∷ rest) n (omega arith) inside in
    ap (spells Number) (taken n b rest (omega arith)) ∙ rw (plain, stops) refl
digits_longest b rest digit Name n more inside = none Name n b rest (omega arith) (grind (arith, nat_tests))
digits_longest b rest digit Null n more inside = none Null n b rest (omega arith) (grind (arith, nat_tests))
digits_longest b rest digit Text n more inside = none Text n b rest (omega arith) (grind (arith, nat_tests))
digits_longest b rest digit Open n more inside = none Open n b rest (omega arith) (grind (arith, nat_tests))
digits_longest b rest digit Close n more inside = none Close n b rest (omega arith) (grind (arith, nat_tests))
digits_longest b rest digit Comma n more inside = none Comma n b rest (omega arith) (grind (arith, nat_tests))
digits_longest b rest digit Colon n more inside = none Colon n b rest (omega arith) (grind (arith, nat_tests))
digits_longest b rest digit Arrow n more inside = none Arrow n b rest (omega arith) (grind (arith, nat_tests))

plain_longest : (place b : ℕ) (rest : List ℕ) → is_digit b ≡ true → Longest (b ∷ rest) (number_at place false 0 (b ∷ rest))
unfolding number_at
plain_longest place b rest digit = by (run is_digit (b ∷ rest) == 0) (is_wide false (digits_of (b ∷ rest))) refl refl where
  by : (none wide : Bool) → (run is_digit (b ∷ rest) == 0) ≡ none → is_wide false (digits_of (b ∷ rest)) ≡ wide → Longest (b ∷ rest) (number_at place false 0 (b ∷ rest))
  by true wide e f = rw e tt
  by false true e f = rw (e, f) tt
  by false false e f = rw (e, f) (digits_longest b rest digit)

-- after a minus
after_minus : (rest : List ℕ) (width : ℕ) → 1 ≤ width → ((m : ℕ) → width < m + 1 → m ≤ length rest → (spells Number (45 ∷ take m rest) ≡ false) × (spells Arrow (45 ∷ take m rest) ≡ false)) → IsLongest (45 ∷ rest) width
after_minus rest width some two Number n more inside = ap (spells Number) (taken n 45 rest (omega arith)) ∙ (two (n - 1) (omega arith) (omega arith)).0
after_minus rest width some two Arrow n more inside = ap (spells Arrow) (taken n 45 rest (omega arith)) ∙ (two (n - 1) (omega arith) (omega arith)).1
after_minus rest width some two Name n more inside = none Name n 45 rest (omega arith) refl
after_minus rest width some two Null n more inside = none Null n 45 rest (omega arith) refl
after_minus rest width some two Text n more inside = none Text n 45 rest (omega arith) refl
after_minus rest width some two Open n more inside = none Open n 45 rest (omega arith) refl
after_minus rest width some two Close n more inside = none Close n 45 rest (omega arith) refl
after_minus rest width some two Comma n more inside = none Comma n 45 rest (omega arith) refl
after_minus rest width some two Colon n more inside = none Colon n 45 rest (omega arith) refl

no_arrow : (c : ℕ) (xs : List ℕ) → (c == 62) ≡ false → spells Arrow (45 ∷ c ∷ xs) ≡ false
no_arrow c xs e = rw e refl

signed_longest : (place c : ℕ) (rest : List ℕ) → (c == 62) ≡ false → Longest (45 ∷ c ∷ rest) (number_at place true 1 (c ∷ rest))
unfolding number_at
signed_longest place c rest other = by (run is_digit (c ∷ rest) == 0) (is_wide true (digits_of (c ∷ rest))) refl refl where
  two : (m : ℕ) → 1 + run is_digit (c ∷ rest) < m + 1 → m ≤ length (c ∷ rest) → (spells Number (45 ∷ take m (c ∷ rest)) ≡ false) × (spells Arrow (45 ∷ take m (c ∷ rest)) ≡ false)
  two m more inside =
      (rw (no_digits (c ∷ rest) m (omega arith) inside) refl, ap (λ (l : List ℕ). spells Arrow (45 ∷ l)) (taken m c rest (omega arith)) ∙ no_arrow c (take (m - 1) rest) other)

  by : (none wide : Bool) → (run is_digit (c ∷ rest) == 0) ≡ none → is_wide true (digits_of (c ∷ rest)) ≡ wide → Longest (45 ∷ c ∷ rest) (number_at place true 1 (c ∷ rest))
  by true wide e f = rw e tt
  by false true e f = rw (e, f) tt
  by false false e f = rw (e, f) (after_minus (c ∷ rest) (1 + run is_digit (c ∷ rest)) (omega arith) two)

arrow_longest : (c : ℕ) (rest : List ℕ) → (c == 62) ≡ true → IsLongest (45 ∷ c ∷ rest) 2
arrow_longest c rest arrow = after_minus (c ∷ rest) 2 (omega arith) two where
  no_digit : is_digit c ≡ false
  no_digit = grind (arith, nat_tests)

  two : (m : ℕ) → 2 < m + 1 → m ≤ length (c ∷ rest) → (spells Number (45 ∷ take m (c ∷ rest)) ≡ false) × (spells Arrow (45 ∷ take m (c ∷ rest)) ≡ false)
  two m more inside =
      let size : length (take (m - 1) rest) ≡ m - 1 = length-take-le (m - 1) rest (omega arith) in
      let some : (length (take (m - 1) rest) == 0) ≡ false = ap (λ (n : ℕ). n == 0) size ∙ grind (arith, nat_tests) in (
        ap (λ (l : List ℕ). spells Number (45 ∷ l)) (taken m c rest (omega arith)) ∙ rw (no_digit, and_false (not (length (c ∷ take (m - 1) rest) == 0))) refl,
        ap (λ (l : List ℕ). spells Arrow (45 ∷ l)) (taken m c rest (omega arith)) ∙ rw (arrow, some) refl,
      )

minus_longest : (place : ℕ) (rest : List ℕ) → Longest (45 ∷ rest) (minus_at place rest)
unfolding minus_at
minus_longest place [] = tt
minus_longest place (c ∷ rest) = by (c == 62) refl where
  by : (arrow : Bool) → (c == 62) ≡ arrow → Longest (45 ∷ c ∷ rest) (minus_at place (c ∷ rest))
  by true e = rw e (arrow_longest c rest e)
  by false e = rw e (signed_longest place c rest e)

-- after the `?` of a null
after_mark : (rest : List ℕ) (width : ℕ) → 1 ≤ width → ((m : ℕ) → width < m + 1 → m ≤ length rest → spells Null (63 ∷ take m rest) ≡ false) → IsLongest (63 ∷ rest) width
after_mark rest width some one Null n more inside = ap (spells Null) (taken n 63 rest (omega arith)) ∙ one (n - 1) (omega arith) (omega arith)
after_mark rest width some one Name n more inside = none Name n 63 rest (omega arith) refl
after_mark rest width some one Number n more inside = none Number n 63 rest (omega arith) refl
after_mark rest width some one Text n more inside = none Text n 63 rest (omega arith) refl
after_mark rest width some one Open n more inside = none Open n 63 rest (omega arith) refl
after_mark rest width some one Close n more inside = none Close n 63 rest (omega arith) refl
after_mark rest width some one Comma n more inside = none Comma n 63 rest (omega arith) refl
after_mark rest width some one Colon n more inside = none Colon n 63 rest (omega arith) refl
after_mark rest width some one Arrow n more inside = none Arrow n 63 rest (omega arith) refl

parts_fail : (u k : List ℕ) (c : ℕ) → are_digits u ≡ true → is_wide_part u ≡ false → list_all is_digit u ≡ true → c ≡ 46 → are_digits k ≡ false → spells Null (63 ∷ (u ++ c ∷ k)) ≡ false
parts_fail u k c some narrow all point others =
    let stops : is_digit c ≡ false = ap is_digit point in
    let first : run is_digit (u ++ c ∷ k) ≡ length u = run_whole is_digit u c k all stops in
    let at_point : drop (run is_digit (u ++ c ∷ k)) (u ++ c ∷ k) ≡ c ∷ k = ap (λ n. drop n (u ++ c ∷ k)) first ∙ drop-append_seam u (c ∷ k) in
    let update : take (run is_digit (u ++ c ∷ k)) (u ++ c ∷ k) ≡ u = ap (λ n. take n (u ++ c ∷ k)) first ∙ take-append_seam u (c ∷ k) in
    let place : drop (run is_digit (u ++ c ∷ k) + 1) (u ++ c ∷ k) ≡ k = sym (drop-drop 1 (run is_digit (u ++ c ∷ k)) (u ++ c ∷ k)) ∙ ap (drop 1) at_point in
    let is_point : (c == 46) ≡ true = ap (λ (n : ℕ). n == 46) point in
    rw (update, some, narrow, at_point, is_point, place, others) refl

point_longest : (place : ℕ) (u t : List ℕ) → are_digits u ≡ true → list_all is_digit u ≡ true → Longest (63 ∷ (u ++ t)) (point_at place u t)
unfolding point_at
point_longest place u [] some all = tt
point_longest place u (c ∷ rest) some all = by (c == 46) (run is_digit rest == 0) (is_wide_part u) (is_wide_part (digits_of rest)) refl refl refl refl where
  one : (c == 46) ≡ true → is_wide_part u ≡ false → (m : ℕ) → length u + 2 + run is_digit rest < m + 1 → m ≤ length (u ++ c ∷ rest) → spells Null (63 ∷ take m (u ++ c ∷ rest)) ≡ false
  one point narrow m more inside =
      let size : length (u ++ c ∷ rest) ≡ length u + suc (length rest) = length-append u (c ∷ rest) in
      let split : m ≡ length u + suc (m - length u - 1) = omega arith in
      let fits : m - length u - 1 ≤ length rest = omega arith in
      let beyond : run is_digit rest < m - length u - 1 = omega arith in
      let cut : take m (u ++ c ∷ rest) ≡ u ++ c ∷ take (m - length u - 1) rest = ap (λ k. take k (u ++ c ∷ rest)) split ∙ take-append-add u (c ∷ rest) (suc (m - length u - 1)) in
      ap (λ (l : List ℕ). spells Null (63 ∷ l)) cut ∙ parts_fail u (take (m - length u - 1) rest) c some narrow all (eqb-true c 46 point) (no_digits rest (m - length u - 1) beyond fits)

  by : (point none wide wide' : Bool) → (c == 46) ≡ point → (run is_digit rest == 0) ≡ none → is_wide_part u ≡ wide → is_wide_part (digits_of rest) ≡ wide'
      → Longest (63 ∷ (u ++ c ∷ rest)) (point_at place u (c ∷ rest))
  by false none wide wide' e f g h = rw e tt
  by true true wide wide' e f g h = rw (e, f) tt
  by true false true wide' e f g h = rw (e, f, g) tt
  by true false false true e f g h = rw (e, f, g, h) tt
  by true false false false e f g h = rw (e, f, g, h) (after_mark (u ++ c ∷ rest) (length u + 2 + run is_digit rest) (omega arith) (one e g))

null_longest : (place : ℕ) (rest : List ℕ) → Longest (63 ∷ rest) (null_at place rest)
unfolding null_at
null_longest place rest = by (run is_digit rest == 0) refl where
  by : (none : Bool) → (run is_digit rest == 0) ≡ none → Longest (63 ∷ rest) (null_at place rest)
  by true e = rw e tt
  by false e =
      let whole : digits_of rest ++ drop (run is_digit rest) rest ≡ rest = take-append-drop (run is_digit rest) rest in
      rw e (subst (λ (l : List ℕ). Longest (63 ∷ l) (point_at place (digits_of rest) (drop (run is_digit rest) rest))) whole
      (point_longest place (digits_of rest) (drop (run is_digit rest) rest) (digits_are rest e) (run_all is_digit rest)))

-- after the quote of a text
after_quote : (rest : List ℕ) (width : ℕ) → 1 ≤ width → ((m : ℕ) → width < m + 1 → m ≤ length rest → spells Text (34 ∷ take m rest) ≡ false) → IsLongest (34 ∷ rest) width
after_quote rest width some one Text n more inside = ap (spells Text) (taken n 34 rest (omega arith)) ∙ one (n - 1) (omega arith) (omega arith)
after_quote rest width some one Name n more inside = none Name n 34 rest (omega arith) refl
after_quote rest width some one Number n more inside = none Number n 34 rest (omega arith) refl
after_quote rest width some one Null n more inside = none Null n 34 rest (omega arith) refl
after_quote rest width some one Open n more inside = none Open n 34 rest (omega arith) refl
after_quote rest width some one Close n more inside = none Close n 34 rest (omega arith) refl
after_quote rest width some one Comma n more inside = none Comma n 34 rest (omega arith) refl
after_quote rest width some one Colon n more inside = none Colon n 34 rest (omega arith) refl
after_quote rest width some one Arrow n more inside = none Arrow n 34 rest (omega arith) refl

closed_longest : (opened : ℕ) (rest : List ℕ) (read : Result (List ℕ × ℕ) LexRefusal) → Kept 0 1 rest read → Longest (34 ∷ rest) (read >>= (λ x. closed opened (length x.0) x.1))
closed_longest opened rest (Err refusal) alone = tt
closed_longest opened rest (Ok x) alone = by (nat_lt 256 (length x.0)) refl where
  one : (m : ℕ) → 1 + x.1 < m + 1 → m ≤ length rest → spells Text (34 ∷ take m rest) ≡ false
  one m more inside =
      let size : length (take m rest) ≡ m = length-take-le m rest inside in
      let differs : (x.1 == m) ≡ false = grind (arith, nat_tests) in
      let other : (x.1 == length (take m rest)) ≡ false = ap (λ (n : ℕ). x.1 == n) size ∙ differs in
      rw (alone.0 m (omega arith), other) (and_false (nat_le (length x.0) 256))

  by : (long : Bool) → nat_lt 256 (length x.0) ≡ long → Longest (34 ∷ rest) (closed opened (length x.0) x.1)
  by true e = rw e tt
  by false e = rw e (after_quote rest (1 + x.1) (omega arith) one)

-- a sign that stands alone
after_sign : (b : ℕ) (rest : List ℕ) → begins_name b ≡ false → is_digit b ≡ false → (b == 45) ≡ false → (b == 63) ≡ false → (b == 34) ≡ false → IsLongest (b ∷ rest) 1
after_sign b rest letter digit minus mark quote = all where
  rest_some : (n : ℕ) → 1 < n → n ≤ length (b ∷ rest) → (length (take (n - 1) rest) == 0) ≡ false
  rest_some n more inside =
      let size : length (take (n - 1) rest) ≡ n - 1 = length-take-le (n - 1) rest (omega arith) in
      ap (λ (k : ℕ). k == 0) size ∙ grind (arith, nat_tests)

  all : IsLongest (b ∷ rest) 1
  all Name n more inside = none Name n b rest (omega arith) letter
  all Number n more inside = none Number n b rest (omega arith) (rw (minus, digit) refl)
  all Null n more inside = none Null n b rest (omega arith) mark
  all Text n more inside = none Text n b rest (omega arith) quote
  all Open n more inside = ap (spells Open) (taken n b rest (omega arith)) ∙ rw (rest_some n more inside) (and_false (b == 40))
  all Close n more inside = ap (spells Close) (taken n b rest (omega arith)) ∙ rw (rest_some n more inside) (and_false (b == 41))
  all Comma n more inside = ap (spells Comma) (taken n b rest (omega arith)) ∙ rw (rest_some n more inside) (and_false (b == 44))
  all Colon n more inside = ap (spells Colon) (taken n b rest (omega arith)) ∙ rw (rest_some n more inside) (and_false (b == 58))
  all Arrow n more inside = none Arrow n b rest (omega arith) minus

sign_longest : (place b : ℕ) (rest : List ℕ) (kind : Option TokenKind) → IsLongest (b ∷ rest) 1 → Longest (b ∷ rest) (sign_at place kind)
sign_longest place b rest (Some kind) alone = alone
sign_longest place b rest None alone = tt

-- the token at the front is the longest there
pub token_longest : (place : ℕ) (bytes : List ℕ) → IfOk (token_at place bytes) (λ x. IsLongest bytes x.1)
unfolding token_at
token_longest place [] = tt
token_longest place (b ∷ rest) = by (begins_name b) (is_digit b) (b == 45) (b == 63) (b == 34) refl refl refl refl refl where
  by : (name digit minus mark quote : Bool) → begins_name b ≡ name → is_digit b ≡ digit → (b == 45) ≡ minus → (b == 63) ≡ mark → (b == 34) ≡ quote
      → Longest (b ∷ rest) (token_at place (b ∷ rest))
  by true digit minus mark quote e f g h i = rw e (name_longest b rest e)
  by false true minus mark quote e f g h i = rw (e, f) (plain_longest place b rest f)
  by false false true mark quote e f g h i = rw (e, f, g) (subst (λ n. Longest (n ∷ rest) (minus_at place rest)) (sym (eqb-true b 45 g)) (minus_longest place rest))
  by false false false true quote e f g h i = rw (e, f, g, h) (subst (λ n. Longest (n ∷ rest) (null_at place rest)) (sym (eqb-true b 63 h)) (null_longest place rest))
  by false false false false true e f g h i = rw (e, f, g, h, i) (subst (λ n. Longest (n ∷ rest) (text_at place rest)) (sym (eqb-true b 34 i)) (closed_longest place rest (text_from place (place + 1) rest) (kept place (place + 1) 0 1 rest)))
  by false false false false false e f g h i = rw (e, f, g, h, i) (sign_longest place b rest (sign b) (after_sign b rest e f g h i))
