-- A line, step by step: what stands first from a place on, and the tokens after it.
use Rattle.std.proofs.Common.{◌≡◌, ℕ, ◌+◌, ◌-◌, ◌<◌, ◌≤◌, true, false, List, [], ◌∷◌, refl, sym, ap, ap₂, ◌∙◌, arith, take, drop, length, get_or, subst}
use Rattle.std.specs.Prelude.{Result, Ok, Err, IfOk, ◌==◌}
use Rattle.std.proofs.lemmas.List.{drop_all, length-drop, drop-drop}
use Rattle.def_language.specs.declared.tokens.TokenKind.{TokenKind}
use Rattle.def_language.specs.declared.tokens.Token.{Token}
use Rattle.def_language.specs.declared.tokens.LexRefusal.{LexRefusal}
use Rattle.def_language.specs.LexAnswers.{◌>>=◌, place_in}
use Rattle.def_language.specs.Bytes.{is_blank}
use Rattle.def_language.specs.LineTokens.{tokens_at, tokens_from, with_front}
use Rattle.def_language.specs.Spelling.{IsLongest, IsLongestIn, IsTokenAt, spells}
use Rattle.def_language.specs.Tokens.{token_at}
use Rattle.def_language.proofs.Digits.{cons_at}
use Rattle.def_language.proofs.Lined.{skipped, token_of}
use Rattle.lang_lex.proofs.Longest.{token_longest}
use Rattle.lang_lex.proofs.Places.{Within, tokens_within}
use Rattle.def_language.proofs.Spelled.{Spelled, token_spelled}

module _ (place : ℕ) (line : List ℕ) (inside : place < length line) where
  pub blank : is_blank (get_or line place 0) ≡ true → tokens_from (place + 1) line ≡ tokens_from place line
  unfolding tokens_at
  blank is = sym (ap (tokens_at place 0) (cons_at line place inside) ∙ rw is refl)

  pub comment : is_blank (get_or line place 0) ≡ false → (get_or line place 0 == 35) ≡ true → tokens_from place line ≡ Ok []
  unfolding tokens_at
  comment is sharp = ap (tokens_at place 0) (cons_at line place inside) ∙ rw (is, sharp) refl

  pub fault : (refusal : LexRefusal) → is_blank (get_or line place 0) ≡ false → (get_or line place 0 == 35) ≡ false → token_at place (drop place line) ≡ Err refusal → tokens_from place line ≡ Err refusal
  unfolding tokens_at
  fault refusal is sharp found =
      let at_front : token_at place (get_or line place 0 ∷ drop (place + 1) line) ≡ Err refusal = ap (token_at place) (sym (cons_at line place inside)) ∙ found in
      ap (tokens_at place 0) (cons_at line place inside) ∙ rw (is, sharp, at_front) refl

  pub token : (kind : TokenKind) (width : ℕ) → is_blank (get_or line place 0) ≡ false → (get_or line place 0 == 35) ≡ false
      → token_at place (drop place line) ≡ Ok (kind, width) → 1 ≤ width → width ≤ length (drop place line)
      → tokens_from place line ≡ with_front (token_of kind place width ∷ []) (tokens_from (place + width) line)
  unfolding tokens_at
  token kind width is sharp found least most =
      let at_front : token_at place (get_or line place 0 ∷ drop (place + 1) line) ≡ Ok (kind, width) = ap (token_at place) (sym (cons_at line place inside)) ∙ found in
      let first : tokens_at place 0 (get_or line place 0 ∷ drop (place + 1) line) ≡ with_front (token_of kind place width ∷ []) (tokens_at (place + 1) (width - 1) (drop (place + 1) line)) = rw (is, sharp, at_front) refl in
      let within : width - 1 ≤ length (drop (place + 1) line) = omega (arith, length-drop (place + 1) line, length-drop place line) in
      let p : place + 1 + (width - 1) ≡ place + width = omega arith in
      let n : width - 1 + (place + 1) ≡ place + width = omega arith in
      let q : drop (width - 1) (drop (place + 1) line) ≡ drop (place + width) line = drop-drop (width - 1) (place + 1) line ∙ ap (λ k. drop k line) p in
      let skip : tokens_at (place + 1) (width - 1) (drop (place + 1) line) ≡ tokens_from (place + width) line =
      skipped (width - 1) (place + 1) (drop (place + 1) line) within ∙ ap₂ (λ (k : ℕ) (bytes : List ℕ). tokens_at k 0 bytes) p q in
      ap (tokens_at place 0) (cons_at line place inside) ∙ first ∙ ap (with_front (token_of kind place width ∷ [])) skip

  pub there : (kind : TokenKind) (width : ℕ) → token_at place (drop place line) ≡ Ok (kind, width) → 1 ≤ width → width ≤ length (drop place line) → IsTokenAt 0 line (token_of kind place width)
  there kind width found least most =
      let spelled : spells kind (take width (drop place line)) ≡ true = subst (Spelled (drop place line)) found (token_spelled place (drop place line)) in
      let n : place + width - place ≡ width = omega arith in
      let m : place - 0 ≡ place = omega arith in
      record {
        begins = omega arith;
        some = omega arith;
        within = omega (arith, length-drop place line);
        spelled = ap₂ (λ j k. spells kind (take j (drop k line))) n m ∙ spelled;
      }

  pub greatest : (kind : TokenKind) (width : ℕ) → token_at place (drop place line) ≡ Ok (kind, width) → IsLongestIn 0 line (token_of kind place width)
  greatest kind width found =
      let longest : IsLongest (drop place line) width = subst (λ (read : Result (TokenKind × ℕ) LexRefusal). IfOk read (λ x. IsLongest (drop place line) x.1)) found (token_longest place (drop place line)) in
      let n : width ≡ place + width - place = omega arith in
      let m : place ≡ place - 0 = omega arith in
      subst (λ (k : ℕ). IsLongest (drop k line) (place + width - place)) m (subst (λ (k : ℕ). IsLongest (drop place line) k) n longest)

-- nothing is left at the end
pub over : (place : ℕ) (line : List ℕ) → length line ≤ place → tokens_from place line ≡ Ok []
unfolding tokens_at
over place line end = ap (tokens_at place 0) (drop_all place line end)

-- whether nothing is wrong, or what is
abbrev pub checked : Result (List Token) LexRefusal → Result (Unit {0}) LexRefusal
checked read = read >>= (λ _. Ok tt)

pub checked_fault : (refusal : LexRefusal) (read : Result (List Token) LexRefusal) → checked read ≡ Err refusal → read ≡ Err refusal
checked_fault refusal (Ok tokens) e = let f : ⊥ = cc in absurd f
checked_fault refusal (Err other) e = let same : other ≡ refusal = cc in ap (λ (r : LexRefusal). let read : Result (List Token) LexRefusal = Err r in read) same

-- the fault of a line stands in it or at its end
pub told_within : (refusal : LexRefusal) (line : List ℕ) → tokens_at 0 0 line ≡ Err refusal → place_in refusal ≤ length line
told_within refusal line e = let found : place_in refusal ≤ 0 + length line = subst (Within (0 + length line)) e (tokens_within 0 0 line) in omega (arith, found)
