-- Bytes cut into lines.
use Rattle.std.proofs.Common.{◌≡◌, ℕ, suc, ◌+◌, ◌-◌, List, [], ◌∷◌, ◌++◌, length, take, refl, sym, ap, ◌∙◌, arith}
use Rattle.std.proofs.lemmas.List.{append_assoc}
use Rattle.std.proofs.lemmas.List.Splits.{length-slice_split, slice_split_at, slice_split_none}
use Rattle.def_language.specs.Lines.{lines_of}
use Rattle.def_language.specs.Bytes.{is_line_feed}
use Rattle.base_devices.specs.Given.{HasNoLineFeed}
use Rattle.yt_live.specs.Streams.{CutsLines, whole_lines}

pub cuts_all : CutsLines lines_of
cuts_all line rest one = slice_split_at is_line_feed line 10 rest one refl

-- all but the last of a line and others
but_last : (line : List ℕ) (ls : List (List ℕ)) (n : ℕ) → length ls ≡ n + 1 → take (length (line ∷ ls) - 1) (line ∷ ls) ≡ line ∷ take (length ls - 1) ls
but_last line ls n long =
    let more : length (line ∷ ls) - 1 ≡ suc (length ls - 1) = omega (arith, long) in
    ap (λ n. take n (line ∷ ls)) more

pub cuts_whole : CutsLines whole_lines
cuts_whole line rest one =
    ap (λ (ls : List (List ℕ)). take (length ls - 1) ls) (cuts_all line rest one)
    ∙ but_last line (lines_of rest) _ (length-slice_split is_line_feed rest)

-- a line alone
pub lone_line : (line : List ℕ) → HasNoLineFeed line → lines_of line ≡ line ∷ []
lone_line line one = slice_split_none is_line_feed line one

pub no_whole : (line : List ℕ) → HasNoLineFeed line → whole_lines line ≡ []
no_whole line one = ap (λ (ls : List (List ℕ)). take (length ls - 1) ls) (lone_line line one)

-- What was kept and what is taken are a line and what is kept then; whatever follows stands after the line.
pub next_bytes : (kept took line after rest : List ℕ) → kept ++ took ≡ (line ++ 10 ∷ []) ++ after → kept ++ (took ++ rest) ≡ line ++ 10 ∷ (after ++ rest)
next_bytes kept took line after rest same =
    sym (append_assoc kept took rest) ∙ (ap (λ l. l ++ rest) same
    ∙ (append_assoc (line ++ 10 ∷ []) after rest ∙ append_assoc line (10 ∷ []) (after ++ rest)))

-- so it is the first that is cut
pub next_line : (cut : List ℕ → List (List ℕ)) → CutsLines cut → (kept took line after rest : List ℕ) → HasNoLineFeed line → kept ++ took ≡ (line ++ 10 ∷ []) ++ after
    → cut (kept ++ (took ++ rest)) ≡ line ∷ cut (after ++ rest)
next_line cut cuts kept took line after rest one same = ap cut (next_bytes kept took line after rest same) ∙ cuts line (after ++ rest) one
