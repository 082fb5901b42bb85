-- What the tokens of a line of text say are words within their limits, and texts of UTF-8.
use Rattle.std.proofs.Common.{◌≡◌, ℕ, ◌+◌, ◌/◌, ◌<◌, ◌≤◌, Bool, true, false, List, [], ◌∷◌, ◌++◌, refl, sym, ap, ◌∙◌, subst, arith}
use Rattle.std.specs.Prelude.{Result, Ok, Err, Option, Some, None, ◌==◌, nat_lt, IsUtf8}
use Rattle.std.specs.Str.{encode_utf8_all, all_scalars}
use Rattle.std.specs.List.{AllByRecursion}
use Rattle.std.proofs.Math.Utf8.{encode, scalar, next}
use Rattle.std.proofs.lemmas.Bool.{and_parts, eqb-true}
use Rattle.std.proofs.lemmas.Bool.Decides.{nat_tests}
use Rattle.std.proofs.lemmas.Str.{IsUtf8-nil, IsUtf8-append}
use Rattle.def_language.specs.declared.tokens.LexRefusal.{LexRefusal}
use Rattle.def_language.specs.QuotedTexts.{escaped, says, says_escaped, text_from}
use Rattle.def_language.proofs.Ascii.{ascii_is_text}
use Rattle.def_language.proofs.Utf.{high_bytes, one_character}

abbrev Text : Type 0
Text = Result (List ℕ × ℕ) LexRefusal

-- ---- texts

says_ok : (b w : ℕ) (read : Text) (x : List ℕ × ℕ) → says b w read ≡ Ok x → (y : List ℕ × ℕ) × (read ≡ Ok y) × (x ≡ (b ∷ y.0, w + y.1))
says_ok b w (Ok y) x e = (y, refl, let s : List ℕ × ℕ = (b ∷ y.0, w + y.1) in sym (is s x e)) where
  is : (s t : List ℕ × ℕ) → (let r : List ℕ × ℕ → Text = λ z. Ok z in r s ≡ r t) → s ≡ t
  is s t f = cc
says_ok b w (Err refusal) x e = let f : ⊥ = cc in absurd f

plain : (o p b : ℕ) (rest : List ℕ) → (b == 34) ≡ false → (b == 92) ≡ false → text_from o p (b ∷ rest) ≡ says b 1 (text_from o (p + 1) rest)
unfolding text_from
plain o p b [] e f = rw e refl
plain o p b (c ∷ rest) e f = rw (e, f) refl

closing : (o p b : ℕ) (rest : List ℕ) → (b == 34) ≡ true → let r : Text = Ok ([], 1) in text_from o p (b ∷ rest) ≡ r
unfolding text_from
closing o p b [] e = rw e refl
closing o p b (c ∷ rest) e = rw e refl

escape : (o p b c : ℕ) (rest : List ℕ) → (b == 34) ≡ false → (b == 92) ≡ true → text_from o p (b ∷ c ∷ rest) ≡ says_escaped p (escaped c) (text_from o (p + 2) rest)
unfolding text_from
escape o p b c rest e f = rw (e, f) refl

-- a text that is whole is read the same where more follows it
abbrev Longer : ℕ → ℕ → List ℕ → List ℕ → Type 0
Longer o p bytes more = (x : List ℕ × ℕ) → text_from o p bytes ≡ Ok x → text_from o p (bytes ++ more) ≡ Ok x

pub longer : (o p : ℕ) (bytes more : List ℕ) → Longer o p bytes more
unfolding text_from
longer o p [] more x e = let f : ⊥ = cc in absurd f
longer o p (b ∷ []) more x e = by (b == 34) refl where
  by : (q : Bool) → (b == 34) ≡ q → text_from o p (b ∷ more) ≡ Ok x
  by true f = closing o p b more f ∙ sym (closing o p b [] f) ∙ e
  by false f = let g : ⊥ = let h = rw f at e in cc in absurd g
longer o p (b ∷ c ∷ rest) more x e = by (longer o (p + 2) rest more) (longer o (p + 1) (c ∷ rest) more) (b == 34) (b == 92) refl refl where
  on_escape : Longer o (p + 2) rest more → (d : Option ℕ) → says_escaped p d (text_from o (p + 2) rest) ≡ Ok x → says_escaped p d (text_from o (p + 2) (rest ++ more)) ≡ Ok x
  on_escape two None g = let f : ⊥ = cc in absurd f
  on_escape two (Some d) g =
      let s = says_ok d 2 (text_from o (p + 2) rest) x g in
      ap (says d 2) (two s.0 s.1) ∙ sym (ap (says d 2) s.1) ∙ g

  by : Longer o (p + 2) rest more → Longer o (p + 1) (c ∷ rest) more → (q s : Bool) → (b == 34) ≡ q → (b == 92) ≡ s → text_from o p (b ∷ c ∷ (rest ++ more)) ≡ Ok x
  by two one true s f g = closing o p b (c ∷ (rest ++ more)) f ∙ sym (closing o p b (c ∷ rest) f) ∙ e
  by two one false true f g = escape o p b c (rest ++ more) f g ∙ on_escape two (escaped c) (sym (escape o p b c rest f g) ∙ e)
  by two one false false f g =
      let s = says_ok b 1 (text_from o (p + 1) (c ∷ rest)) x (sym (plain o p b (c ∷ rest) f g) ∙ e) in
      plain o p b (c ∷ (rest ++ more)) f g ∙ ap (says b 1) (one s.0 s.1) ∙ sym (ap (says b 1) s.1) ∙ sym (plain o p b (c ∷ rest) f g) ∙ e

-- what bytes above 127 say of a text
high_said : (o p : ℕ) (bytes rest : List ℕ) (x : List ℕ × ℕ) → AllByRecursion (λ b. 128 ≤ b) bytes → text_from o p (bytes ++ rest) ≡ Ok x
    → (y : List ℕ × ℕ) × (q : ℕ) × (text_from o q rest ≡ Ok y) × (x.0 ≡ bytes ++ y.0)
high_said o p [] rest x all e = (x, p, e, refl)
high_said o p (b ∷ bytes) rest x all e =
    let high : 128 ≤ b = all.0 in
    let f : (b == 34) ≡ false = grind (arith, nat_tests) in
    let g : (b == 92) ≡ false = grind (arith, nat_tests) in
    let s = says_ok b 1 (text_from o (p + 1) (bytes ++ rest)) x (sym (plain o p b (bytes ++ rest) f g) ∙ e) in
    let others = high_said o (p + 1) bytes rest s.0 all.1 s.1 in
    (others.0, others.1, others.2, ap (λ (z : List ℕ × ℕ). z.0) s.2 ∙ ap (λ (bs : List ℕ). b ∷ bs) others.3)

low_text : (b : ℕ) (t : List ℕ) → nat_lt b 128 ≡ true → IsUtf8 t → IsUtf8 (b ∷ t)
low_text b t low u = IsUtf8-append (b ∷ []) t (ascii_is_text (b ∷ []) (rw low refl)) u

-- what a byte stands for after a backslash is ASCII, and so is the byte
escaped_low : (c d : ℕ) → escaped c ≡ Some d → (nat_lt c 128 ≡ true) × (nat_lt d 128 ≡ true)
escaped_low c d e = by (c == 34) (c == 92) (c == 110) refl refl refl where
  low : (n : ℕ) → n < 128 → nat_lt n 128 ≡ true
  low n lt = grind (arith, nat_tests)

  of : (m n k : ℕ) → (c == m) ≡ true → m < 128 → n < 128 → (let s : ℕ → Option ℕ = λ z. Some z in s n ≡ s d) → (nat_lt c 128 ≡ true) × (nat_lt d 128 ≡ true)
  of m n k is lt lt' f =
      let a : c ≡ m = eqb-true c m is in
      let b : n ≡ d = cc in
      (low c (omega arith), low d (omega arith))

  by : (q s l : Bool) → (c == 34) ≡ q → (c == 92) ≡ s → (c == 110) ≡ l → (nat_lt c 128 ≡ true) × (nat_lt d 128 ≡ true)
  by true s l f g h = of 34 34 0 f (omega arith) (omega arith) (rw f at e)
  by false true l f g h = of 92 92 0 g (omega arith) (omega arith) (rw (f, g) at e)
  by false false true f g h = of 110 10 0 h (omega arith) (omega arith) (rw (f, g, h) at e)
  by false false false f g h = let k : ⊥ = let m = rw (f, g, h) at e in cc in absurd k

encode_low : (c : ℕ) → nat_lt c 128 ≡ true → encode c ≡ c ∷ []
unfolding encode
encode_low c low = rw low refl

-- the first byte of a character above 127 is above 127
record HighFirst (c : ℕ) : Type 0 where
  first : ℕ
  others : List ℕ
  is : encode c ≡ first ∷ others
  high : 128 ≤ first

some_bytes : (c : ℕ) → (b : ℕ) × (bs : List ℕ) × (encode c ≡ b ∷ bs)
unfolding encode
some_bytes c = by (nat_lt c 128) (nat_lt c 2048) (nat_lt c 65536) refl refl refl where
  by : (p q r : Bool) → nat_lt c 128 ≡ p → nat_lt c 2048 ≡ q → nat_lt c 65536 ≡ r → (b : ℕ) × (bs : List ℕ) × (encode c ≡ b ∷ bs)
  by true q r e f g = (c, [], rw e refl)
  by false true r e f g = (192 + c / 64, next c ∷ [], rw (e, f) refl)
  by false false true e f g = (224 + c / 4096, next (c / 64) ∷ next c ∷ [], rw (e, f, g) refl)
  by false false false e f g = (240 + c / 262144, next (c / 4096) ∷ next (c / 64) ∷ next c ∷ [], rw (e, f, g) refl)

high_first : (c : ℕ) → nat_lt c 128 ≡ false → HighFirst c
high_first c high =
    let s = some_bytes c in
    let all : AllByRecursion (λ b. 128 ≤ b) (s.0 ∷ s.1) = subst (AllByRecursion (λ b. 128 ≤ b)) s.2 (high_bytes c high) in
    record { first = s.0; others = s.1; is = s.2; high = all.0 }

-- what a text says, where its bytes and those after it are characters
abbrev Said : List ℕ → Type 0
Said cs = (o p : ℕ) (x : List ℕ × ℕ) → all_scalars cs ≡ true → text_from o p (encode_utf8_all cs) ≡ Ok x → IsUtf8 x.0

no_end : (o p : ℕ) (x : List ℕ × ℕ) → text_from o p [] ≡ Ok x → ⊥
unfolding text_from
no_end o p x e = cc

no_escape : (o p b : ℕ) (x : List ℕ × ℕ) → (b == 34) ≡ false → text_from o p (b ∷ []) ≡ Ok x → ⊥
unfolding text_from
no_escape o p b x f e = let g = rw f at e in cc

escaped_said : (o p : ℕ) (rest : List ℕ) (d : Option ℕ) (x : List ℕ × ℕ) → says_escaped p d (text_from o (p + 2) rest) ≡ Ok x → (b : ℕ) × (y : List ℕ × ℕ) × (d ≡ Some b) × (text_from o (p + 2) rest ≡ Ok y) × (x.0 ≡ b ∷ y.0)
escaped_said o p rest None x e = let f : ⊥ = cc in absurd f
escaped_said o p rest (Some b) x e =
    let s = says_ok b 2 (text_from o (p + 2) rest) x e in
    (b, s.0, refl, s.1, ap (λ (z : List ℕ × ℕ). z.0) s.2)

after_escape : (o p b : ℕ) (rest : List ℕ) → (b == 34) ≡ false → (b == 92) ≡ true → ((d : ℕ) (cs : List ℕ) → rest ≡ d ∷ cs → Said cs) → (cs : List ℕ) → cs ≡ rest → (x : List ℕ × ℕ) → all_scalars cs ≡ true
    → text_from o p (b ∷ encode_utf8_all cs) ≡ Ok x → IsUtf8 x.0
after_escape o p b rest f g others [] is x all e = absurd (no_escape o p b x f e)
after_escape o p b rest f g others (d ∷ cs) is x all e = by (nat_lt d 128) refl where
  parts : (scalar d ≡ true) × (all_scalars cs ≡ true)
  parts = and_parts (scalar d) (all_scalars cs) all

  low_case : encode d ≡ d ∷ [] → IsUtf8 x.0
  low_case one =
      let bytes : text_from o p (b ∷ d ∷ encode_utf8_all cs) ≡ Ok x = ap (λ (bs : List ℕ). text_from o p (b ∷ (bs ++ encode_utf8_all cs))) (sym one) ∙ e in
      let s = escaped_said o p (encode_utf8_all cs) (escaped d) x (sym (escape o p b d (encode_utf8_all cs) f g) ∙ bytes) in
      subst IsUtf8 (sym s.4) (low_text s.0 s.1.0 (escaped_low d s.0 s.2).1 (others d cs (sym is) o (p + 2) s.1 parts.1 s.3))

  high_case : HighFirst d → IsUtf8 x.0
  high_case h =
      let bytes : text_from o p (b ∷ h.first ∷ (h.others ++ encode_utf8_all cs)) ≡ Ok x = ap (λ (bs : List ℕ). text_from o p (b ∷ (bs ++ encode_utf8_all cs))) (sym h.is) ∙ e in
      let s = escaped_said o p (h.others ++ encode_utf8_all cs) (escaped h.first) x (sym (escape o p b h.first (h.others ++ encode_utf8_all cs) f g) ∙ bytes) in
      let low : nat_lt h.first 128 ≡ true = (escaped_low h.first s.0 s.2).0 in
      let high : 128 ≤ h.first = h.high in
      let k : ⊥ = grind (arith, nat_tests) in
      absurd k

  by : (low : Bool) → nat_lt d 128 ≡ low → IsUtf8 x.0
  by true low = low_case (encode_low d low)
  by false high = high_case (high_first d high)

character_said : (c : ℕ) (rest : List ℕ) → Said rest → ((d : ℕ) (cs : List ℕ) → rest ≡ d ∷ cs → Said cs) → Said (c ∷ rest)
character_said c rest further others o p x all e = by (nat_lt c 128) refl where
  parts : (scalar c ≡ true) × (all_scalars rest ≡ true)
  parts = and_parts (scalar c) (all_scalars rest) all

  at : (q s : Bool) → (c == 34) ≡ q → (c == 92) ≡ s → nat_lt c 128 ≡ true → text_from o p (c ∷ encode_utf8_all rest) ≡ Ok x → IsUtf8 x.0
  at true s f g low bytes =
      let r : List ℕ × ℕ → Text = λ z. Ok z in
      let start : List ℕ × ℕ = ([], 1) in
      let is : r start ≡ r x = sym (closing o p c (encode_utf8_all rest) f) ∙ bytes in
      let same : start ≡ x = cc in
      subst IsUtf8 (ap (λ (z : List ℕ × ℕ). z.0) same) IsUtf8-nil
  at false true f g low bytes = after_escape o p c rest f g others rest refl x parts.1 bytes
  at false false f g low bytes =
      let s = says_ok c 1 (text_from o (p + 1) (encode_utf8_all rest)) x (sym (plain o p c (encode_utf8_all rest) f g) ∙ bytes) in
      subst IsUtf8 (sym (ap (λ (z : List ℕ × ℕ). z.0) s.2)) (low_text c s.0.0 low (further o (p + 1) s.0 parts.1 s.1))

  by : (low : Bool) → nat_lt c 128 ≡ low → IsUtf8 x.0
  by true low = at (c == 34) (c == 92) refl refl low (ap (λ (bs : List ℕ). text_from o p (bs ++ encode_utf8_all rest)) (sym (encode_low c low)) ∙ e)
  by false high =
      let h = high_said o p (encode c) (encode_utf8_all rest) x (high_bytes c high) e in
      subst IsUtf8 (sym h.3) (IsUtf8-append (encode c) h.0.0 (one_character c parts.0) (further o h.1 h.0 parts.1 h.2))

pub text_said : (cs : List ℕ) → Said cs
text_said [] o p x all e = absurd (no_end o p x e)
text_said (c ∷ []) o p x all e = character_said c [] (text_said []) (λ d cs is. let f : ⊥ = cc in absurd f) o p x all e
text_said (c ∷ d ∷ cs) o p x all e = character_said c (d ∷ cs) (text_said (d ∷ cs)) (λ d' cs' is. subst Said (tail_is is) (text_said cs)) o p x all e where
  tail_is : {d' : ℕ} {cs' : List ℕ} → d ∷ cs ≡ d' ∷ cs' → cs ≡ cs'
  tail_is f = cc
