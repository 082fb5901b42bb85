-- The form of a trace: a line that counts the others, and the others.
use Rattle.std.specs.Prelude.{◌≡◌, ℕ, List, [], ◌∷◌, ◌++◌, flat_map, length, codes}
use Rattle.std.specs.Fmt.{decimal}
use Rattle.std.specs.List.{AllByRecursion}
use Rattle.lang_reader.specs.Places.{IsOneLine}

-- the lines, each ended by a line feed
abbrev pub ended : List (List ℕ) → List ℕ
ended lines = flat_map (λ line. line ++ 10 ∷ []) lines

-- The text is these lines, each ended by a line feed; no line has a line feed in it.
pub record IsOf (text : List ℕ) (lines : List (List ℕ)) : Type 0 where
  pub same : text ≡ ended lines
  pub single : AllByRecursion IsOneLine lines

-- `trace N`, and what follows it
abbrev pub counted : ℕ → List ℕ → List ℕ
counted n rest = codes "trace " ++ (decimal n ++ 10 ∷ rest)

-- The text is `trace N`, followed by `rest`, which is N lines.
pub record IsCounted (text rest : List ℕ) (lines : List (List ℕ)) : Type 0 where
  pub head : text ≡ counted (length lines) rest
  pub of : IsOf rest lines

-- The text is `trace N` and these N lines.
abbrev pub HasLines : List ℕ → List (List ℕ) → Type 0
HasLines text lines = IsCounted text (ended lines) lines

-- The text does not have this form.
abbrev pub HasNoLines : List ℕ → Type 0
HasNoLines text = (lines : List (List ℕ)) → HasLines text lines → ⊥
