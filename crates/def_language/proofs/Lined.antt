-- A line, token by token: its tokens so far and those of the rest.
use Rattle.std.proofs.Common.{◌≡◌, ℕ, zero, suc, ◌+◌, ◌-◌, ◌<◌, ◌≤◌, List, [], ◌∷◌, ◌++◌, ap, ◌∙◌, arith, drop, length}
use Rattle.std.specs.Prelude.{◌==◌}
use Rattle.def_language.specs.declared.tokens.TokenKind.{TokenKind}
use Rattle.def_language.specs.declared.tokens.Token.{Token}
use Rattle.def_language.specs.LineTokens.{tokens_at}

abbrev pub token_of : TokenKind → ℕ → ℕ → Token
token_of kind place width = record { kind = kind; from = place; to = place + width }

-- the bytes inside a token are passed over
pub skipped : (inside place : ℕ) (rest : List ℕ) → inside ≤ length rest → tokens_at place inside rest ≡ tokens_at (place + inside) zero (drop inside rest)
unfolding tokens_at
skipped zero place rest le = let e : place ≡ place + zero = omega arith in ap (λ p. tokens_at p zero rest) e
skipped (suc n) place [] le = absurd (omega arith)
skipped (suc n) place (b ∷ rest) le =
    let e : place + 1 + n ≡ place + suc n = omega arith in
    skipped n (place + 1) rest (omega arith) ∙ ap (λ p. tokens_at p zero (drop n rest)) e
