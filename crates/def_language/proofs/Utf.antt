-- What is printed is UTF-8.
use Rattle.std.proofs.Common.{◌≡◌, ℕ, suc, ◌+◌, ◌/◌, ◌^◌, ◌<◌, ◌≤◌, Bool, true, false, cond, List, [], ◌∷◌, ◌++◌, refl, sym, ap, ◌∙◌, subst, arith, append-nil}
use Rattle.std.specs.Prelude.{pos, negsuc, ◌||◌, ◌==◌, nat_lt, flat_map, IsUtf8, if◌then◌else◌}
use Rattle.std.specs.Str.{encode_utf8_all, all_scalars}
use Rattle.std.specs.Fmt.{decimal}
use Rattle.std.specs.List.{AllByRecursion, list_all}
use Rattle.std.proofs.Math.Utf8.{encode, scalar, next}
use Rattle.std.proofs.lemmas.Bool.{and_parts}
use Rattle.std.proofs.lemmas.Bool.Decides.{nat_tests}
use Rattle.std.proofs.lemmas.Fmt.{digits_decimal}
use Rattle.std.proofs.lemmas.Grind.{flat_map-append}
use Rattle.std.proofs.lemmas.Str.{IsUtf8-nil, IsUtf8-append}
use Rattle.def_language.specs.Bytes.{begins_name, continues_name, is_digit}
use Rattle.def_language.specs.Words.{Word, name, number, null, text, opens, closes, comma, colon, arrow}
use Rattle.def_language.specs.Layout.{written_byte, spelled, is_open, is_tight, gap, laid_out, is_name}
use Rattle.def_language.proofs.Ascii.{ascii_is_text}
use Rattle.def_language.proofs.Front.{numerals}
use Rattle.def_language.proofs.Paper.{weaker}
use Rattle.def_language.proofs.Spoken.{ArePrinted, IsPrinted}

-- a byte above 127 stands for itself
plain_byte : (b : ℕ) → 128 ≤ b → written_byte b ≡ b ∷ []
plain_byte b le =
    let q : (b == 34) ≡ false = grind (arith, nat_tests) in
    let s : (b == 92) ≡ false = grind (arith, nat_tests) in
    let f : (b == 10) ≡ false = grind (arith, nat_tests) in
    rw (q, s, f) refl

plain_bytes : (bytes : List ℕ) → AllByRecursion (λ b. 128 ≤ b) bytes → flat_map written_byte bytes ≡ bytes
plain_bytes [] all = refl
plain_bytes (b ∷ bytes) all = rw (plain_byte b all.0, plain_bytes bytes all.1) refl

next_high : (n : ℕ) → 128 ≤ next n
next_high n = omega arith

-- the bytes of a character above 127 are above 127
pub high_bytes : (c : ℕ) → nat_lt c 128 ≡ false → AllByRecursion (λ b. 128 ≤ b) (encode c)
unfolding encode
high_bytes c high = rw high (by (nat_lt c 2048) (nat_lt c 65536)) where
  by : (x y : Bool) → AllByRecursion (λ b. 128 ≤ b) (cond x ((192 + c / 64) ∷ next c ∷ []) (cond y ((224 + c / 4096) ∷ next (c / 64) ∷ next c ∷ []) ((240 + c / 262144) ∷ next (c / 4096) ∷ next (c / 64) ∷ next c ∷ [])))
  by true y = (omega arith, (next_high c, tt))
  by false true = (omega arith, (next_high (c / 64), (next_high c, tt)))
  by false false = (omega arith, (next_high (c / 4096), (next_high (c / 64), (next_high c, tt))))

pub one_character : (c : ℕ) → scalar c ≡ true → IsUtf8 (encode c)
one_character c s = (c ∷ [], (rw s refl, append-nil (encode c)))

low_byte : (b : ℕ) → nat_lt b 128 ≡ true → IsUtf8 (written_byte b)
low_byte b low = by (b == 34) (b == 92) (b == 10) refl refl refl where
  by : (q s f : Bool) → (b == 34) ≡ q → (b == 92) ≡ s → (b == 10) ≡ f → IsUtf8 (written_byte b)
  by true s f e1 e2 e3 = rw e1 (ascii_is_text (92 ∷ 34 ∷ []) refl)
  by false true f e1 e2 e3 = rw (e1, e2) (ascii_is_text (92 ∷ 92 ∷ []) refl)
  by false false true e1 e2 e3 = rw (e1, e2, e3) (ascii_is_text (92 ∷ 110 ∷ []) refl)
  by false false false e1 e2 e3 = rw (e1, e2, e3) (ascii_is_text (b ∷ []) (rw low refl))

character_written : (c : ℕ) → scalar c ≡ true → IsUtf8 (flat_map written_byte (encode c))
unfolding encode
character_written c s = by (nat_lt c 128) refl where
  by : (low : Bool) → nat_lt c 128 ≡ low → IsUtf8 (flat_map written_byte (encode c))
  by true e =
      let one : encode c ≡ c ∷ [] = rw e refl in
      subst IsUtf8 (sym (ap (flat_map written_byte) one ∙ append-nil (written_byte c))) (low_byte c e)
  by false e = subst IsUtf8 (sym (plain_bytes (encode c) (high_bytes c e))) (one_character c s)

characters_written : (cs : List ℕ) → all_scalars cs ≡ true → IsUtf8 (flat_map written_byte (encode_utf8_all cs))
characters_written [] all = IsUtf8-nil
characters_written (c ∷ cs) all =
    let parts = and_parts (scalar c) (all_scalars cs) all in
    subst IsUtf8 (sym (flat_map-append written_byte (encode c) (encode_utf8_all cs))) (IsUtf8-append (flat_map written_byte (encode c)) (flat_map written_byte (encode_utf8_all cs)) (character_written c parts.0) (characters_written cs parts.1))

pub text_written : (t : List ℕ) → IsUtf8 t → IsUtf8 (flat_map written_byte t)
text_written t u = subst (λ (bytes : List ℕ). IsUtf8 (flat_map written_byte bytes)) u.1.1 (characters_written u.0 u.1.0)

name_low : (b : ℕ) → continues_name b ≡ true → nat_lt b 128 ≡ true
name_low b e = grind (arith, nat_tests)

first_low : (b : ℕ) → begins_name b ≡ true → nat_lt b 128 ≡ true
first_low b e = grind (arith, nat_tests)

digit_low : (b : ℕ) → is_digit b ≡ true → nat_lt b 128 ≡ true
digit_low b e = grind (arith, nat_tests)

name_text : (n : List ℕ) → is_name n ≡ true → IsUtf8 n
name_text [] e = IsUtf8-nil
name_text (b ∷ n) e =
    let parts = and_parts (begins_name b) (list_all continues_name n) e in
    ascii_is_text (b ∷ n) (rw (first_low b parts.0, weaker continues_name (λ b. nat_lt b 128) name_low n parts.1) refl)

decimal_text : (n : ℕ) → n < 2 ^ 64 → IsUtf8 (decimal n)
decimal_text n lt = ascii_is_text (decimal n) (weaker is_digit (λ b. nat_lt b 128) digit_low (decimal n) (digits_decimal numerals n lt))

spelled_text : (w : Word) → IsPrinted w → IsUtf8 (spelled w)
spelled_text (name n) e = name_text n e.0
spelled_text (number (pos n)) e = let lt : n < 2 ^ 63 = e.0 in decimal_text n (omega arith)
spelled_text (number (negsuc n)) e = let lt : n < 2 ^ 63 = e.0 in IsUtf8-append (45 ∷ []) (decimal (suc n)) (ascii_is_text (45 ∷ []) refl) (decimal_text (suc n) (omega arith))
spelled_text (null u k) e =
    IsUtf8-append (63 ∷ decimal u) (46 ∷ decimal k) (IsUtf8-append (63 ∷ []) (decimal u) (ascii_is_text (63 ∷ []) refl) (decimal_text u (omega (arith, e.0.0))))
    (IsUtf8-append (46 ∷ []) (decimal k) (ascii_is_text (46 ∷ []) refl) (decimal_text k (omega (arith, e.0.1))))
spelled_text (text t) e = IsUtf8-append (34 ∷ flat_map written_byte t) (34 ∷ []) (IsUtf8-append (34 ∷ []) (flat_map written_byte t) (ascii_is_text (34 ∷ []) refl) (text_written t e.1)) (ascii_is_text (34 ∷ []) refl)
spelled_text opens e = ascii_is_text (40 ∷ []) refl
spelled_text closes e = ascii_is_text (41 ∷ []) refl
spelled_text comma e = ascii_is_text (44 ∷ []) refl
spelled_text colon e = ascii_is_text (58 ∷ []) refl
spelled_text arrow e = ascii_is_text (45 ∷ 62 ∷ []) refl

gap_text : (b : Bool) → IsUtf8 (let g : List ℕ = if b then [] else 32 ∷ [] in g)
gap_text true = IsUtf8-nil
gap_text false = ascii_is_text (32 ∷ []) refl

pub laid_text : (ws : List Word) → ArePrinted ws → IsUtf8 (laid_out ws)
unfolding laid_out
laid_text [] all = IsUtf8-nil
laid_text (w ∷ []) all = spelled_text w all.0
laid_text (w ∷ v ∷ ws) all =
    IsUtf8-append (spelled w) (gap w v ++ laid_out (v ∷ ws)) (spelled_text w all.0) (IsUtf8-append (gap w v) (laid_out (v ∷ ws)) (gap_text (is_open w || is_tight v)) (laid_text (v ∷ ws) all.1))

-- lines with their line feeds
pub lines_text : {A : Type 0} (line : A → List ℕ) (xs : List A) → AllByRecursion (λ x. IsUtf8 (line x)) xs → IsUtf8 (flat_map (λ x. line x ++ 10 ∷ []) xs)
lines_text line [] all = IsUtf8-nil
lines_text line (x ∷ xs) all = IsUtf8-append (line x ++ 10 ∷ []) (flat_map (λ x. line x ++ 10 ∷ []) xs) (IsUtf8-append (line x) (10 ∷ []) all.0 (ascii_is_text (10 ∷ []) refl)) (lines_text line xs all.1)
