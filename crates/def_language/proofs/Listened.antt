-- The words of a line of text, and the lines of a text.
use Rattle.std.proofs.Common.{◌≡◌, ℕ, zero, suc, ◌+◌, ◌-◌, ◌^◌, ◌<◌, ◌≤◌, Bool, true, false, cond, List, [], ◌∷◌, ◌++◌, length, take, drop, get_or, refl, sym, ap, ◌∙◌, subst, arith}
use Rattle.std.specs.Prelude.{Result, Ok, Err, pos, neg_ℤ, map, not, ◌&&◌, ◌==◌, nat_lt, nat_le, IsUtf8}
use Rattle.std.specs.Str.{encode_utf8_all, all_scalars, IsCharBoundary}
use Rattle.std.specs.List.{AllByRecursion, list_all, onto_first}
use Rattle.std.proofs.Math.Utf8.{encode, scalar}
use Rattle.std.proofs.lemmas.Bool.{and_parts}
use Rattle.std.proofs.lemmas.Bool.Decides.{nat_tests}
use Rattle.std.proofs.lemmas.List.{take-append-drop, get_or-drop, length-drop}
use Rattle.std.proofs.lemmas.Str.{IsUtf8-nil, IsUtf8-append, IsUtf8-drop, IsCharBoundary-after_ascii}
use Rattle.def_language.specs.declared.tokens.TokenKind.{TokenKind}
use Rattle.def_language.specs.declared.tokens.TokenKind.TheVariants as kind
use Rattle.def_language.specs.declared.tokens.Token.{Token}
use Rattle.def_language.specs.declared.tokens.LexRefusal.{LexRefusal}
use Rattle.def_language.specs.LexAnswers.{◌>>=◌}
use Rattle.def_language.specs.Bytes.{is_digit, run, is_blank, is_line_feed}
use Rattle.def_language.specs.Numbers.{digits_value, is_wide, is_wide_part}
use Rattle.def_language.specs.QuotedTexts.{text_from}
use Rattle.def_language.specs.Tokens.{token_at}
use Rattle.def_language.specs.LineTokens.{tokens_at, with_front}
use Rattle.def_language.specs.Spelling.{are_digits, first_part, second_part, has_point, spells_null, is_whole, spells, spelling_at, number_of, said, text_of}
use Rattle.def_language.proofs.Spelled.{Spelled, token_spelled}
use Rattle.def_language.specs.Words.{Word, said as word, word_of, words_at}
use Rattle.def_language.specs.Layout.{IsInteger, IsSpoken}
use Rattle.def_language.specs.Lines.{lines_of}
use Rattle.def_language.proofs.Paper.{IsLine, is_within_line}
use Rattle.def_language.proofs.Spoken.{IsText, IsPrinted, ArePrinted, all_mapped}
use Rattle.def_language.proofs.Utf.{high_bytes, one_character}
use Rattle.def_language.proofs.Heard.{longer, text_said}

-- ---- what a token says is within its limits

negative_fits : (n : ℕ) → n ≤ 2 ^ 63 → IsInteger (neg_ℤ (pos n))
negative_fits zero le = omega arith
negative_fits (suc n) le = omega arith

not_true : (b : Bool) → not b ≡ true → b ≡ false
not_true true e = let f : ⊥ = cc in absurd f
not_true false e = refl

number_spoken : (b : ℕ) (rest : List ℕ) → spells kind.Number (b ∷ rest) ≡ true → IsInteger (number_of (b ∷ rest))
number_spoken b rest e = by (b == 45) refl where
  by : (minus : Bool) → (b == 45) ≡ minus → IsInteger (number_of (b ∷ rest))
  by true f =
      let narrow : nat_lt (2 ^ 63) (digits_value rest) ≡ false = not_true (is_wide true rest) (and_parts (are_digits rest) (not (is_wide true rest)) (rw f at e)).1 in
      rw f (negative_fits (digits_value rest) (grind (arith, nat_tests)))
  by false f =
      let narrow : nat_le (2 ^ 63) (digits_value (b ∷ rest)) ≡ false = not_true (is_wide false (b ∷ rest)) (and_parts (are_digits (b ∷ rest)) (not (is_wide false (b ∷ rest))) (rw f at e)).1 in
      let lt : digits_value (b ∷ rest) < 2 ^ 63 = grind (arith, nat_tests) in
      rw f lt

narrow_part : (digits : List ℕ) → not (is_wide_part digits) ≡ true → digits_value digits < 2 ^ 32
narrow_part digits e =
    let f : nat_lt 4294967295 (digits_value digits) ≡ false = not_true (is_wide_part digits) e in
    grind (arith, nat_tests)

null_spoken : (b : ℕ) (rest : List ℕ) → spells kind.Null (b ∷ rest) ≡ true → IsSpoken (word kind.Null (b ∷ rest))
null_spoken b rest e =
    let a = are_digits (first_part rest) in
    let w = not (is_wide_part (first_part rest)) in
    let p = has_point (drop (run is_digit rest) rest) in
    let a' = are_digits (second_part rest) in
    let w' = not (is_wide_part (second_part rest)) in
    let whole = and_parts (b == 63) (spells_null rest) e in
    let four = and_parts (a && w && p && a') w' whole.1 in
    let three = and_parts (a && w && p) a' four.0 in
    let two = and_parts (a && w) p three.0 in
    let one = and_parts a w two.0 in
    (narrow_part (first_part rest) one.1, narrow_part (second_part rest) four.1)

-- a whole text
record IsRead (rest : List ℕ) : Type 0 where
  x : List ℕ × ℕ
  is : text_from 0 1 rest ≡ Ok x
  short : length x.0 ≤ 256

whole_text : (size : ℕ) (rest : List ℕ) (read : Result (List ℕ × ℕ) LexRefusal) → text_from 0 1 rest ≡ read → is_whole size read ≡ true → IsRead rest
whole_text size rest (Ok x) e w =
    let p = and_parts (nat_le (length x.0) 256) (x.1 == size) w in
    let le : nat_le (length x.0) 256 ≡ true = p.0 in
    record { x = x; is = e; short = grind (arith, nat_tests) }
whole_text size rest (Err refusal) e w = let f : ⊥ = cc in absurd f

text_read : (b : ℕ) (rest : List ℕ) → spells kind.Text (b ∷ rest) ≡ true → IsRead rest
text_read b rest e = whole_text (length rest) rest (text_from 0 1 rest) refl (and_parts (b == 34) (is_whole (length rest) (text_from 0 1 rest)) e).1

said_is : (rest : List ℕ) (r : IsRead rest) → said (text_from 0 1 rest) ≡ r.x.0
said_is rest r = ap said r.is

pub spoken : (k : TokenKind) (spelling : List ℕ) → spells k spelling ≡ true → IsSpoken (word k spelling)
spoken k [] e = let f : ⊥ = cc in absurd f
spoken kind.Name (b ∷ rest) e = e
spoken kind.Number (b ∷ rest) e = number_spoken b rest e
spoken kind.Null (b ∷ rest) e = null_spoken b rest e
spoken kind.Text (b ∷ rest) e = let r = text_read b rest e in subst (λ (t : List ℕ). length t ≤ 256) (sym (said_is rest r)) r.short
spoken k (b ∷ rest) e = tt

-- ---- texts in a line of text

after_quote : (bytes : List ℕ) (b : ℕ) (rest : List ℕ) → bytes ≡ b ∷ rest → b < 128 → IsUtf8 bytes → IsUtf8 rest
after_quote bytes b rest is low u =
    let v : IsUtf8 (b ∷ rest) = subst IsUtf8 is u in
    IsUtf8-drop (b ∷ rest) 1 v (IsCharBoundary-after_ascii (b ∷ rest) 0 v (omega arith) low)

none_spelled : (width : ℕ) → spells kind.Text (take width []) ≡ true → ⊥
none_spelled zero e = cc
none_spelled (suc n) e = cc

-- a text that stands at the front of bytes which are text
text_heard : (bytes : List ℕ) (width : ℕ) → IsUtf8 bytes → spells kind.Text (take width bytes) ≡ true → IsUtf8 (text_of (take width bytes))
text_heard [] width u e = absurd (none_spelled width e)
text_heard (b ∷ rest) zero u e = let f : ⊥ = cc in absurd f
text_heard (b ∷ rest) (suc n) u e =
    let quote : (b == 34) ≡ true = (and_parts (b == 34) (is_whole (length (take n rest)) (text_from 0 1 (take n rest))) e).0 in
    let r = text_read b (take n rest) e in
    let v : IsUtf8 rest = after_quote (b ∷ rest) b rest refl (grind (arith, nat_tests)) u in
    let all : text_from 0 1 rest ≡ Ok r.x = ap (text_from 0 1) (sym (take-append-drop n rest)) ∙ longer 0 1 (take n rest) (drop n rest) r.x r.is in
    let characters : text_from 0 1 (encode_utf8_all v.0) ≡ Ok r.x = ap (text_from 0 1) v.1.1 ∙ all in
    subst IsUtf8 (sym (said_is (take n rest) r)) (text_said v.0 0 1 r.x v.1.0 characters)

-- ---- the tokens of a line

abbrev Found : ℕ → List ℕ → Token → Type 0
Found place bytes t = (place ≤ t.from) × (spells t.kind (spelling_at place bytes t) ≡ true)

-- what is found after a byte is found with it
after_byte : (place b : ℕ) (rest : List ℕ) (t : Token) → Found (place + 1) rest t → Found place (b ∷ rest) t
after_byte place b rest t f =
    let low : place + 1 ≤ t.from = f.0 in
    let n : t.from - place ≡ suc (t.from - (place + 1)) = omega arith in
    (omega arith, ap (λ k. spells t.kind (take (t.to - t.from) (drop k (b ∷ rest)))) n ∙ f.1)

all_after : (place b : ℕ) (rest : List ℕ) (ts : List Token) → AllByRecursion (Found (place + 1) rest) ts → AllByRecursion (Found place (b ∷ rest)) ts
all_after place b rest [] all = tt
all_after place b rest (t ∷ ts) all = (after_byte place b rest t all.0, all_after place b rest ts all.1)

abbrev Tokens : Type 0
Tokens = Result (List Token) LexRefusal

abbrev AllFound : ℕ → ℕ → List ℕ → Type 0
AllFound place inside bytes = (ts : List Token) → tokens_at place inside bytes ≡ Ok ts → AllByRecursion (Found place bytes) ts

front_ok : (t : Token) (read : Tokens) (ts : List Token) → with_front (t ∷ []) read ≡ Ok ts → (us : List Token) × (read ≡ Ok us) × (t ∷ us ≡ ts)
front_ok t (Ok us) ts e = (us, refl, cc)
front_ok t (Err refusal) ts e = let f : ⊥ = cc in absurd f

bind_lexed : {A B : Type 0} (r : Result A LexRefusal) (f : A → Result B LexRefusal) (y : B) → (r >>= f) ≡ Ok y → (x : A) × (r ≡ Ok x) × (f x ≡ Ok y)
bind_lexed (Ok x) f y e = (x, refl, e)
bind_lexed (Err refusal) f y e = let g : ⊥ = cc in absurd g

first_found : (place b : ℕ) (rest : List ℕ) (k : TokenKind) (width : ℕ) → token_at place (b ∷ rest) ≡ Ok (k, width) → Found place (b ∷ rest) (record { kind = k; from = place; to = place + width })
first_found place b rest k width e =
    let s : spells k (take width (b ∷ rest)) ≡ true = subst (Spelled (b ∷ rest)) e (token_spelled place (b ∷ rest)) in
    let n : place + width - place ≡ width = omega arith in
    let m : place - place ≡ 0 = omega arith in
    (omega arith, ap (λ j. spells k (take j (drop (place - place) (b ∷ rest)))) n ∙ ap (λ j. spells k (take width (drop j (b ∷ rest)))) m ∙ s)

none_found : (place : ℕ) (bytes : List ℕ) (ts : List Token) → (let r : List Token → Tokens = λ x. Ok x in r [] ≡ r ts) → AllByRecursion (Found place bytes) ts
none_found place bytes [] e = tt
none_found place bytes (t ∷ ts) e = let f : ⊥ = cc in absurd f

tokens_found : (place inside : ℕ) (bytes : List ℕ) → AllFound place inside bytes
unfolding tokens_at
tokens_found place inside [] ts e = none_found place [] ts e
tokens_found place (suc inside) (b ∷ rest) ts e = all_after place b rest ts (tokens_found (place + 1) inside rest ts e)
tokens_found place zero (b ∷ rest) ts e = by (λ inside. tokens_found (place + 1) inside rest) (is_blank b) (b == 35) refl refl where
  on_token : (x : TokenKind × ℕ) → token_at place (b ∷ rest) ≡ Ok x → AllFound (place + 1) (x.1 - 1) rest
      → with_front (record { kind = x.0; from = place; to = place + x.1 } ∷ []) (tokens_at (place + 1) (x.1 - 1) rest) ≡ Ok ts → AllByRecursion (Found place (b ∷ rest)) ts
  on_token x found others f =
      let t : Token = record { kind = x.0; from = place; to = place + x.1 } in
      let g = front_ok t (tokens_at (place + 1) (x.1 - 1) rest) ts f in
      subst (AllByRecursion (Found place (b ∷ rest))) g.2 (first_found place b rest x.0 x.1 found, all_after place b rest g.0 (others g.0 g.1))

  by : ((inside : ℕ) → AllFound (place + 1) inside rest) → (blank comment : Bool) → is_blank b ≡ blank → (b == 35) ≡ comment → AllByRecursion (Found place (b ∷ rest)) ts
  by others true comment f g = all_after place b rest ts (others 0 ts (rw f at e))
  by others false true f g = none_found place (b ∷ rest) ts (rw (f, g) at e)
  by others false false f g =
      let x = bind_lexed (token_at place (b ∷ rest)) _ ts (rw (f, g) at e) in
      on_token x.0 x.1 (others (x.0.1 - 1)) x.2

-- ---- words

quote_boundary : (line : List ℕ) (i b : ℕ) (rest : List ℕ) → drop i line ≡ b ∷ rest → b < 128 → IsCharBoundary line i
quote_boundary line i b rest is low =
    let inside : i < length line = omega (arith, length-drop i line, ap length is) in
    let n : i + 0 ≡ i = omega arith in
    let byte : get_or line i 0 ≡ b = ap (λ k. get_or line k 0) (sym n) ∙ sym (get_or-drop i line 0 0) ∙ ap (λ (bs : List ℕ). get_or bs 0 0) is in
    (omega arith, λ lt high. absurd (omega (arith, byte, high)))

text_word : (line : List ℕ) (i width : ℕ) → IsUtf8 line → spells kind.Text (take width (drop i line)) ≡ true → IsUtf8 (text_of (take width (drop i line)))
text_word line i width u e = by (drop i line) refl where
  by : (bytes : List ℕ) → drop i line ≡ bytes → IsUtf8 (text_of (take width (drop i line)))
  by [] f = absurd (none_spelled width (rw f at e))
  by (b ∷ rest) f = text_heard (drop i line) width (IsUtf8-drop line i u (quote_boundary line i b rest f (quote width (rw f at e)))) e where
    quote : (n : ℕ) → spells kind.Text (take n (b ∷ rest)) ≡ true → b < 128
    quote zero g = let h : ⊥ = cc in absurd h
    quote (suc n) g = let q : (b == 34) ≡ true = (and_parts (b == 34) (is_whole (length (take n rest)) (text_from 0 1 (take n rest))) g).0 in grind (arith, nat_tests)

token_text : (line : List ℕ) (k : TokenKind) (i width : ℕ) → IsUtf8 line → spells k (take width (drop i line)) ≡ true → IsText (word k (take width (drop i line)))
token_text line kind.Text i width u e = text_word line i width u e
token_text line k i width u e = tt

token_printed : (line : List ℕ) → IsUtf8 line → (t : Token) → Found 0 line t → IsPrinted (word_of line t)
token_printed line u t f = (spoken t.kind (spelling_at 0 line t) f.1, token_text line t.kind (t.from - 0) (t.to - t.from) u f.1)

-- the words of a line of text can be printed
pub words_printed : (line : List ℕ) (ws : List Word) → IsUtf8 line → words_at line ≡ Ok ws → ArePrinted ws
words_printed line ws u e =
    let x = bind_lexed (tokens_at 0 0 line) _ ws e in
    let all = tokens_found 0 0 line x.0 x.1 in
    let is : map (word_of line) x.0 ≡ ws = let f = x.2 in cc in
    subst ArePrinted is (all_mapped IsPrinted (Found 0 line) (word_of line) (token_printed line u) x.0 all)

-- ---- lines

abbrev onto : List ℕ → List (List ℕ) → List (List ℕ)
onto bytes [] = bytes ∷ []
onto bytes (line ∷ lines) = (bytes ++ line) ∷ lines

onto_byte : (b : ℕ) (bytes : List ℕ) (lines : List (List ℕ)) → onto_first b (onto bytes lines) ≡ onto (b ∷ bytes) lines
onto_byte b bytes [] = refl
onto_byte b bytes (line ∷ lines) = refl

no_feed : (b : ℕ) → is_within_line b ≡ true → is_line_feed b ≡ false
no_feed b e = grind (arith, nat_tests)

some_line : (bytes : List ℕ) → onto [] (lines_of bytes) ≡ lines_of bytes
some_line [] = refl
some_line (b ∷ bytes) = by (is_line_feed b) (lines_of bytes) where
  by : (feed : Bool) (lines : List (List ℕ)) → let ls : List (List ℕ) = cond feed ([] ∷ lines) (onto_first b lines) in onto [] ls ≡ ls
  by true lines = refl
  by false [] = refl
  by false (line ∷ lines) = refl

split_front : (bytes rest : List ℕ) → IsLine bytes → lines_of (bytes ++ rest) ≡ onto bytes (lines_of rest)
split_front [] rest all = sym (some_line rest)
split_front (b ∷ bytes) rest all =
    let parts = and_parts (is_within_line b) (list_all is_within_line bytes) all in
    rw (no_feed b parts.0, split_front bytes rest parts.1) (onto_byte b bytes (lines_of rest))

onto_text : (bytes : List ℕ) (lines : List (List ℕ)) → IsUtf8 bytes → AllByRecursion IsUtf8 lines → AllByRecursion IsUtf8 (onto bytes lines)
onto_text bytes [] u all = (u, tt)
onto_text bytes (line ∷ lines) u all = (IsUtf8-append bytes line u all.0, all.1)

high_line : (bytes : List ℕ) → AllByRecursion (λ b. 128 ≤ b) bytes → IsLine bytes
high_line [] all = refl
high_line (b ∷ bytes) all =
    let high : 128 ≤ b = all.0 in
    let first : is_within_line b ≡ true = grind (arith, nat_tests) in
    rw (first, high_line bytes all.1) refl

character_line : (c : ℕ) → is_line_feed c ≡ false → IsLine (encode c)
unfolding encode
character_line c other = by (nat_lt c 128) refl where
  by : (low : Bool) → nat_lt c 128 ≡ low → IsLine (encode c)
  by true e = rw e (rw other refl)
  by false e = high_line (encode c) (high_bytes c e)

feed_is : (c : ℕ) → is_line_feed c ≡ true → encode c ≡ 10 ∷ []
unfolding encode
feed_is c e =
    let low : nat_lt c 128 ≡ true = grind (arith, nat_tests) in
    let is : c ≡ 10 = grind (arith, nat_tests) in
    rw low (ap (λ n. n ∷ []) is)

characters_lines : (cs : List ℕ) → all_scalars cs ≡ true → AllByRecursion IsUtf8 (lines_of (encode_utf8_all cs))
characters_lines [] all = (IsUtf8-nil, tt)
characters_lines (c ∷ cs) all = by (characters_lines cs parts.1) (is_line_feed c) refl where
  parts : (scalar c ≡ true) × (all_scalars cs ≡ true)
  parts = and_parts (scalar c) (all_scalars cs) all

  by : AllByRecursion IsUtf8 (lines_of (encode_utf8_all cs)) → (feed : Bool) → is_line_feed c ≡ feed → AllByRecursion IsUtf8 (lines_of (encode c ++ encode_utf8_all cs))
  by others true e = subst (λ (bs : List ℕ). AllByRecursion IsUtf8 (lines_of (bs ++ encode_utf8_all cs))) (sym (feed_is c e)) (IsUtf8-nil, others)
  by others false e = subst (AllByRecursion IsUtf8) (sym (split_front (encode c) (encode_utf8_all cs) (character_line c e))) (onto_text (encode c) (lines_of (encode_utf8_all cs)) (one_character c parts.0) others)

-- the lines of a text are texts
pub lines_text : (bytes : List ℕ) → IsUtf8 bytes → AllByRecursion IsUtf8 (lines_of bytes)
lines_text bytes u = subst (λ (bs : List ℕ). AllByRecursion IsUtf8 (lines_of bs)) u.1.1 (characters_lines u.0 u.1.0)
