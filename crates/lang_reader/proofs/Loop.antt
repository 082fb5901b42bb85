-- One turn of the loop over lines.
use Rattle.std.specs.Prelude.{◌≡◌, ◌<◌, ℕ, ◌+◌, List, ◌∷◌, length, Option, Some, None, Result, Ok, Err, IfSome, MatchOption}
use Rattle.std.proofs.Common.{refl, sym, ap, ◌∙◌, arith, Bor}
use Rattle.std.specs.List.{count_by}
use Rattle.std.specs.Option.{option_copied}
use Rattle.std.proofs.lemmas.List.Splits.{length-slice_split}
use Rattle.def_language.specs.Bytes.{is_line_feed}
use Rattle.def_language.specs.Faults.{Wrong}
use Rattle.def_language.specs.Lines.{State, closed, line_at, lines_from, lines_of, numbered}
use Rattle.def_language.specs.Sessions.{SessionData}
use Rattle.lang_reader.specs.declared.faults.ReadFailure.{ReadFailure}
use Rattle.lang_reader.specs.declared.faults.ReadFailure.TheVariants.{Fault, Memory}
use Rattle.lang_reader.specs.Answers.{Fails}
use Rattle.lang_reader.specs.States.{lines_left}

-- a text is its first line and those that are left
pub took : (rest : Option (Bor (List ℕ))) (text : Bor (List ℕ)) (line : List ℕ) (others : List (List ℕ)) → rest ≡ Some text → lines_of text.now ≡ line ∷ others → lines_left (option_copied rest) ≡ line ∷ others
took rest text line others is cut = ap (λ r. lines_left (option_copied r)) is ∙ cut

-- the numbers of lines are small where the line feeds are few
pub few : (bytes : List ℕ) → count_by is_line_feed bytes < 4294967295 → length (lines_of bytes) < 4294967296
few bytes le = let parts : length (lines_of bytes) ≡ count_by is_line_feed bytes + 1 = length-slice_split is_line_feed bytes in omega (arith, parts, le)

-- the place after a line
pub further : (after : Option (Bor (List ℕ))) (start line text all : ℕ) → MatchOption after (line ≡ text) (λ b. line + 1 + length b.now ≡ text) → start + text ≡ all → IfSome after (λ b. start + (line + 1) + length b.now ≡ all)
further None start line text all h e = tt
further (Some b) start line text all h e = omega (arith, h, e)

module _ (number start : ℕ) (state : State) (total : Result SessionData Wrong) where
  pub goes_on : (lines : List (List ℕ)) (line : List ℕ) (others : List (List ℕ)) (next : State) → lines ≡ line ∷ others → lines_from number start state lines ≡ total
      → numbered (number + 1) (line_at start state line) ≡ Ok next → lines_from (number + 1) (start + (length line + 1)) next others ≡ total
  unfolding lines_from
  goes_on lines line others next is so_far read =
      let place : start + (length line + 1) ≡ start + length line + 1 = omega arith in
      ap (λ p. lines_from (number + 1) p next others) place ∙ rw read at (ap (lines_from number start state) (sym is) ∙ so_far)

  stops : (wrong : Wrong) (line : List ℕ) (others : List (List ℕ)) → numbered (number + 1) (line_at start state line) ≡ Err wrong → lines_from number start state (line ∷ others) ≡ Err wrong
  unfolding lines_from
  stops wrong line others read = rw read refl

  pub fails : (failure : ReadFailure) (lines : List (List ℕ)) (line : List ℕ) (others : List (List ℕ)) → lines ≡ line ∷ others → lines_from number start state lines ≡ total
      → Fails failure (numbered (number + 1) (line_at start state line)) → Fails failure total
  fails (Fault f) lines line others is so_far read = sym so_far ∙ ap (lines_from number start state) is ∙ stops _ line others read
  fails Memory lines line others is so_far read = tt

  pub ends : (rest : Option (Bor (List ℕ))) → ((text : Bor (List ℕ)) → rest ≡ Some text → ⊥) → lines_from number start state (lines_left (option_copied rest)) ≡ total → numbered number (closed state.section state.session) ≡ total
  unfolding lines_from
  ends None none so_far = so_far
  ends (Some text) none so_far = absurd (none text refl)
