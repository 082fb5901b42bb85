-- What spells a word is the longest token at the front, where nothing after it goes on with it.
use Rattle.std.proofs.Common.{◌≡◌, ℕ, suc, ◌+◌, ◌^◌, ◌<◌, ◌≤◌, Bool, true, false, List, [], ◌∷◌, ◌++◌, length, refl, sym, ap, ◌∙◌, arith, rules, append_assoc, length-append}
use Rattle.std.specs.Prelude.{Result, Ok, ℤ, pos, negsuc, ◌==◌, nat_lt, nat_le}
use Rattle.std.specs.Fmt.{decimal, signed_decimal}
use Rattle.std.specs.List.{list_all, flat_map, prefix_len}
use Rattle.std.proofs.lemmas.Str.Parse.{IsNumeralModel, IsDigitsTest, numerals_by_fold}
use Rattle.std.proofs.lemmas.Fmt.{digits_decimal, digits_value-decimal, decimal_nonempty}
use Rattle.std.proofs.lemmas.Bool.{and_parts, eqb-true}
use Rattle.std.proofs.lemmas.Bool.Decides.{nat_tests}
use Rattle.std.proofs.Math.Seq.{take-append_seam, drop-append_seam}
use Rattle.def_language.specs.declared.tokens.TokenKind.{TokenKind}
use Rattle.def_language.specs.declared.tokens.TokenKind.TheVariants as kind
use Rattle.def_language.specs.declared.tokens.LexRefusal.{LexRefusal}
use Rattle.def_language.specs.Bytes.{begins_name, continues_name, is_digit, run}
use Rattle.def_language.specs.Numbers.{value_after}
use Rattle.def_language.specs.QuotedTexts.{says, text_from}
use Rattle.def_language.specs.Tokens.{Found, number_at, minus_at, point_at, null_at, token_at}
use Rattle.def_language.specs.Words.{Word, name, number, null, text, opens, closes, comma, colon, arrow}
use Rattle.def_language.specs.Layout.{written_byte, quoted, spelled, is_name, IsInteger, IsSpoken}
use Rattle.def_language.proofs.Sorts.{kind_of, starts, Stops}

sized : (k : TokenKind) (m n : ℕ) → m ≡ n → let r : ℕ → Found = λ j. Ok (k, j) in r m ≡ r n
sized k m n e = ap (λ (j : ℕ). let r : Found = Ok (k, j) in r) e

-- as many as pass, where the next one does not
pub run_whole : (p : ℕ → Bool) (xs ys : List ℕ) → list_all p xs ≡ true → starts p ys ≡ false → prefix_len p (xs ++ ys) ≡ length xs
run_whole p [] [] all stops = refl
run_whole p [] (y ∷ ys) all stops = rw stops refl
run_whole p (x ∷ xs) ys all stops =
    let parts = and_parts (p x) (list_all p xs) all in
    rw (parts.0, run_whole p xs ys parts.1 stops) (omega arith)

name_again : (n : List ℕ) (place : ℕ) (rest : List ℕ) → is_name n ≡ true → starts continues_name rest ≡ false → token_at place (n ++ rest) ≡ Ok (kind.Name, length n)
unfolding token_at
name_again [] place rest spoken stops = cc
name_again (b ∷ n) place rest spoken stops =
    let parts = and_parts (begins_name b) (list_all continues_name n) spoken in
    rw (parts.0, run_whole continues_name n rest parts.1 stops) (sized kind.Name (1 + length n) (suc (length n)) (omega arith))

digits_test : IsDigitsTest (λ ds. list_all is_digit ds ≡ true)
digits_test = search rules

pub numerals : IsNumeralModel (λ ds. list_all is_digit ds ≡ true) (value_after 0)
unfolding value_after
numerals = numerals_by_fold _ digits_test value_after (search rules)

no_letter : (d : ℕ) → is_digit d ≡ true → begins_name d ≡ false
no_letter d e = grind (arith, nat_tests)

no_arrow : (d : ℕ) → is_digit d ≡ true → (d == 62) ≡ false
no_arrow d e = grind (arith, nat_tests)

narrow : (n m : ℕ) → n < m → nat_le m n ≡ false
narrow n m lt = grind (arith, nat_tests)

pub narrow_or_equal : (n m : ℕ) → n ≤ m → nat_lt m n ≡ false
narrow_or_equal n m le = grind (arith, nat_tests)

some_digits : (ds : List ℕ) → 0 < length ds → (length ds == 0) ≡ false
some_digits ds some = grind (arith, nat_tests)

-- digits without a sign
plain_again : (ds : List ℕ) (place : ℕ) (rest : List ℕ) → list_all is_digit ds ≡ true → 0 < length ds → value_after 0 ds < 2 ^ 63 → starts is_digit rest ≡ false
    → number_at place false 0 (ds ++ rest) ≡ Ok (kind.Number, length ds)
unfolding number_at
plain_again ds place rest all some fits stops =
    let whole : run is_digit (ds ++ rest) ≡ length ds = run_whole is_digit ds rest all stops in
    rw (whole, some_digits ds some, take-append_seam ds rest, narrow (value_after 0 ds) (2 ^ 63) fits) (sized kind.Number (0 + length ds) (length ds) (omega arith))

digits_again : (ds : List ℕ) (n place : ℕ) (rest : List ℕ) → list_all is_digit ds ≡ true → 0 < length ds → value_after 0 ds ≡ n → n < 2 ^ 63 → starts is_digit rest ≡ false
    → token_at place (ds ++ rest) ≡ Ok (kind.Number, length ds)
unfolding token_at
digits_again [] n place rest all some value fits stops = absurd (omega arith)
digits_again (d ∷ ds) n place rest all some value fits stops =
    let first : is_digit d ≡ true = (and_parts (is_digit d) (list_all is_digit ds) all).0 in
    rw (no_letter d first, first) (plain_again (d ∷ ds) place rest all some (omega arith) stops)

signed_again : (ds : List ℕ) (place : ℕ) (rest : List ℕ) → list_all is_digit ds ≡ true → 0 < length ds → value_after 0 ds ≤ 2 ^ 63 → starts is_digit rest ≡ false
    → number_at place true 1 (ds ++ rest) ≡ Ok (kind.Number, suc (length ds))
unfolding number_at
signed_again ds place rest all some fits stops =
    let whole : run is_digit (ds ++ rest) ≡ length ds = run_whole is_digit ds rest all stops in
    rw (whole, some_digits ds some, take-append_seam ds rest, narrow_or_equal (value_after 0 ds) (2 ^ 63) fits) (sized kind.Number (1 + length ds) (suc (length ds)) (omega arith))

minus_again : (ds : List ℕ) (n place : ℕ) (rest : List ℕ) → list_all is_digit ds ≡ true → 0 < length ds → value_after 0 ds ≡ n → n ≤ 2 ^ 63 → starts is_digit rest ≡ false
    → token_at place (45 ∷ (ds ++ rest)) ≡ Ok (kind.Number, suc (length ds))
unfolding token_at minus_at
minus_again [] n place rest all some value fits stops = absurd (omega arith)
minus_again (d ∷ ds) n place rest all some value fits stops =
    let first : is_digit d ≡ true = (and_parts (is_digit d) (list_all is_digit ds) all).0 in
    rw (no_arrow d first) (signed_again (d ∷ ds) place rest all some (omega arith) stops)

number_again : (z : ℤ) (place : ℕ) (rest : List ℕ) → IsInteger z → starts is_digit rest ≡ false → token_at place (signed_decimal z ++ rest) ≡ Ok (kind.Number, length (signed_decimal z))
number_again (pos n) place rest fits stops =
    let small : n < 2 ^ 64 = omega arith in
    digits_again (decimal n) n place rest (digits_decimal numerals n small) (decimal_nonempty n small) (digits_value-decimal numerals n small) fits stops
number_again (negsuc n) place rest fits stops =
    let small : suc n < 2 ^ 64 = omega arith in
    minus_again (decimal (suc n)) (suc n) place rest (digits_decimal numerals (suc n) small) (decimal_nonempty (suc n) small) (digits_value-decimal numerals (suc n) small) (omega arith) stops

-- a byte of a text
plain_byte : (opened place b : ℕ) (rest : List ℕ) → (b == 34) ≡ false → (b == 92) ≡ false → text_from opened place (b ∷ rest) ≡ says b 1 (text_from opened (place + 1) rest)
unfolding text_from
plain_byte opened place b [] e f = rw e refl
plain_byte opened place b (c ∷ rest) e f = rw (e, f) refl

byte_again : (b opened place : ℕ) (more : List ℕ) → text_from opened place (written_byte b ++ more) ≡ says b (length (written_byte b)) (text_from opened (place + length (written_byte b)) more)
unfolding text_from
byte_again b opened place more = by (b == 34) (b == 92) (b == 10) refl refl refl where
  by : (q s f : Bool) → (b == 34) ≡ q → (b == 92) ≡ s → (b == 10) ≡ f → text_from opened place (written_byte b ++ more) ≡ says b (length (written_byte b)) (text_from opened (place + length (written_byte b)) more)
  by true s f e1 e2 e3 = rw e1 (ap (λ c. says c 2 (text_from opened (place + 2) more)) (sym (eqb-true b 34 e1)))
  by false true f e1 e2 e3 = rw (e1, e2) (ap (λ c. says c 2 (text_from opened (place + 2) more)) (sym (eqb-true b 92 e2)))
  by false false true e1 e2 e3 = rw (e1, e2, e3) (ap (λ c. says c 2 (text_from opened (place + 2) more)) (sym (eqb-true b 10 e3)))
  by false false false e1 e2 e3 =
      let plain : written_byte b ≡ b ∷ [] = rw (e1, e2, e3) refl in
      ap (λ (bs : List ℕ). text_from opened place (bs ++ more)) plain ∙ plain_byte opened place b more e1 e2
      ∙ ap (λ (bs : List ℕ). says b (length bs) (text_from opened (place + length bs) more)) (sym plain)

abbrev Text : Type 0
Text = Result (List ℕ × ℕ) LexRefusal

closes_text : (opened place : ℕ) (rest : List ℕ) → let r : Text = Ok ([], 1) in text_from opened place (34 ∷ rest) ≡ r
unfolding text_from
closes_text opened place [] = refl
closes_text opened place (b ∷ rest) = refl

pub bytes_again : (t : List ℕ) (opened place : ℕ) (rest : List ℕ) → let r : Text = Ok (t, length (flat_map written_byte t) + 1) in text_from opened place (flat_map written_byte t ++ 34 ∷ rest) ≡ r
bytes_again [] opened place rest = closes_text opened place rest
bytes_again (b ∷ t) opened place rest =
    let n : length (written_byte b) + (length (flat_map written_byte t) + 1) ≡ length (written_byte b ++ flat_map written_byte t) + 1 = omega (arith, length-append (written_byte b) (flat_map written_byte t)) in
    ap (text_from opened place) (append_assoc (written_byte b) (flat_map written_byte t) (34 ∷ rest))
    ∙ byte_again b opened place (flat_map written_byte t ++ 34 ∷ rest)
    ∙ ap (says b (length (written_byte b))) (bytes_again t opened (place + length (written_byte b)) rest)
    ∙ ap (λ (k : ℕ). let r : Text = Ok (b ∷ t, k) in r) n

text_again : (t : List ℕ) (place : ℕ) (rest : List ℕ) → length t ≤ 256 → token_at place (quoted t ++ rest) ≡ Ok (kind.Text, length (quoted t))
unfolding token_at
text_again t place rest short =
    let regroup : (flat_map written_byte t ++ 34 ∷ []) ++ rest ≡ flat_map written_byte t ++ 34 ∷ rest = append_assoc (flat_map written_byte t) (34 ∷ []) rest in
    rw (regroup, bytes_again t place (place + 1) rest, narrow_or_equal (length t) 256 short)
    (sized kind.Text (1 + (length (flat_map written_byte t) + 1)) (suc (length (flat_map written_byte t ++ 34 ∷ []))) (omega (arith, length-append (flat_map written_byte t) (34 ∷ []))))

null_digits : (ds es : List ℕ) (place : ℕ) (rest : List ℕ) → list_all is_digit ds ≡ true → 0 < length ds → value_after 0 ds < 2 ^ 32
    → list_all is_digit es ≡ true → 0 < length es → value_after 0 es < 2 ^ 32 → starts is_digit rest ≡ false
    → token_at place (63 ∷ (ds ++ (46 ∷ (es ++ rest)))) ≡ Ok (kind.Null, suc (length ds) + (suc (length es)))
unfolding token_at null_at point_at
null_digits ds es place rest all some fits all' some' fits' stops =
    let first : run is_digit (ds ++ 46 ∷ (es ++ rest)) ≡ length ds = run_whole is_digit ds (46 ∷ (es ++ rest)) all refl in
    let second : run is_digit (es ++ rest) ≡ length es = run_whole is_digit es rest all' stops in
    rw (first, some_digits ds some, take-append_seam ds (46 ∷ (es ++ rest)), drop-append_seam ds (46 ∷ (es ++ rest)), second, some_digits es some', take-append_seam es rest, narrow_or_equal (value_after 0 ds) 4294967295 (omega arith), narrow_or_equal (value_after 0 es) 4294967295 (omega arith))
    (sized kind.Null (length ds + 2 + length es) (suc (length ds) + suc (length es)) (omega arith))

null_again : (u k place : ℕ) (rest : List ℕ) → u < 2 ^ 32 → k < 2 ^ 32 → starts is_digit rest ≡ false → token_at place (spelled (null u k) ++ rest) ≡ Ok (kind.Null, length (spelled (null u k)))
null_again u k place rest fits fits' stops =
    let small : u < 2 ^ 64 = omega arith in
    let small' : k < 2 ^ 64 = omega arith in
    let value : value_after 0 (decimal u) ≡ u = digits_value-decimal numerals u small in
    let value' : value_after 0 (decimal k) ≡ k = digits_value-decimal numerals k small' in
    let regroup : (decimal u ++ 46 ∷ decimal k) ++ rest ≡ decimal u ++ (46 ∷ (decimal k ++ rest)) = append_assoc (decimal u) (46 ∷ decimal k) rest in
    ap (λ bs. token_at place (63 ∷ bs)) regroup
    ∙ null_digits (decimal u) (decimal k) place rest (digits_decimal numerals u small) (decimal_nonempty u small) (omega arith) (digits_decimal numerals k small') (decimal_nonempty k small') (omega arith) stops
    ∙ sized kind.Null (suc (length (decimal u)) + suc (length (decimal k))) (suc (length (decimal u ++ 46 ∷ decimal k))) (omega (arith, length-append (decimal u) (46 ∷ decimal k)))

pub front_again : (w : Word) (place : ℕ) (rest : List ℕ) → IsSpoken w → Stops w rest → token_at place (spelled w ++ rest) ≡ Ok (kind_of w, length (spelled w))
unfolding token_at minus_at
front_again (name n) place rest spoken stops = name_again n place rest spoken stops
front_again (number z) place rest spoken stops = number_again z place rest spoken stops
front_again (null u k) place rest spoken stops = null_again u k place rest spoken.0 spoken.1 stops
front_again (text t) place rest spoken stops = text_again t place rest spoken
front_again opens place rest spoken stops = refl
front_again closes place rest spoken stops = refl
front_again comma place rest spoken stops = refl
front_again colon place rest spoken stops = refl
front_again arrow place rest spoken stops = refl
