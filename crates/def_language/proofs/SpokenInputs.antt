-- What lines say is read of them.
use Rattle.std.proofs.Common.{◌≡◌, ℕ, ◌+◌, ◌<◌, ◌≤◌, ◌⊎◌, ap, refl, sym, ◌∙◌, subst, List, [], ◌∷◌, ◌++◌, length, Bool, true, false, if◌then◌else◌, arith}
use Rattle.std.specs.Prelude.{Ok, Err, ◌==◌}
use Rattle.std.specs.List.{AllByRecursion}
use Rattle.std.specs.Str.Lossy.{utf8_valid_len}
use Rattle.def_language.specs.Words.{words_at}
use Rattle.def_language.specs.Statements.{Statement, Header, Relation, Mapping, Base, Update, Answer, End}
use Rattle.def_language.specs.Grammar.{statement_words}
use Rattle.def_language.specs.Forms.{Section, Beginning, Relations, Ended, rank, section_of}
use Rattle.def_language.specs.Sayable.{IsSayable, MayStand}
use Rattle.def_language.specs.Sessions.{SessionData, empty_session}
use Rattle.def_language.specs.Checks.{taken}
use Rattle.def_language.specs.Lines.{State, begun, lines_from, lines_of, not_text, read, Spells}
use Rattle.std.proofs.lemmas.Bool.{eqb-true, eq-eqb}
use Rattle.def_language.specs.Inputs.{Say, nothing, blank, says, IsInner, AreInOrder, taken_all, IsText, IsInput, InputsAreStatements}
use Rattle.def_language.proofs.Bound.{bind_ok, ok_is, Again, Only}
use Rattle.def_language.proofs.Formats.{format_kept}
use Rattle.def_language.proofs.Steps.{at_line, blank_passed, line_passed}
use Rattle.def_language.proofs.HeardInputs.{Whole, whole}

abbrev ReadsOn : ℕ → ℕ → State → List (List ℕ) → SessionData → Type 0
ReadsOn n start state lines s = lines_from n start state lines ≡ Ok s

-- after the end
ended_said : (n start : ℕ) (a : SessionData) (lines : List (List ℕ)) (sts : List Statement) → Say lines sts → sts ≡ [] → ReadsOn n start (at_line Ended a) lines a
unfolding lines_from
ended_said n start a [] sts nothing e = refl
ended_said n start a (line ∷ lines) sts (blank w rest) e = blank_passed n start Ended a line lines w ∙ ended_said (n + 1) (start + length line + 1) a lines sts rest e
ended_said n start a (line ∷ lines) (st ∷ sts) (says w rest) e = let f : ⊥ = cc in absurd f

may_stand : (section : Section) (st : Statement) → IsInner st → 1 ≤ rank section → rank section ≤ rank (section_of st) → MayStand section st
may_stand section (Header f) inner lo le = absurd inner
may_stand section End inner lo le = absurd inner
may_stand Beginning st inner lo le = absurd (omega (arith, lo))
may_stand section st inner lo le = le

end_stands : (section : Section) → 1 ≤ rank section → rank section < 5 → MayStand section End
end_stands Beginning lo hi = absurd (omega (arith, lo))
end_stands section lo hi = omega (arith, hi)

inner_low : (st : Statement) → IsInner st → (1 ≤ rank (section_of st)) × (rank (section_of st) < 5)
inner_low (Header f) inner = absurd inner
inner_low (Relation n columns) inner = (omega arith, omega arith)
inner_low (Mapping m) inner = (omega arith, omega arith)
inner_low (Base fact) inner = (omega arith, omega arith)
inner_low (Update label curator operation) inner = (omega arith, omega arith)
inner_low (Answer label choice) inner = (omega arith, omega arith)
inner_low End inner = absurd inner

-- after the header
after_header_said : Again → (f n start : ℕ) (section : Section) (a : SessionData) (lines : List (List ℕ)) (s : SessionData) (all : List Statement) → Say lines all → (sts : List Statement) → all ≡ sts ++ End ∷ []
    → a.format ≡ f → 1 ≤ rank section → rank section < 5 → AreInOrder section sts → AllByRecursion (IsSayable f) sts → taken_all a sts ≡ Ok s → ReadsOn n start (at_line section a) lines s
after_header_said again f n start section a [] s all nothing [] e format lo hi order sayable checked = let g : ⊥ = cc in absurd g
after_header_said again f n start section a [] s all nothing (x ∷ xs) e format lo hi order sayable checked = let g : ⊥ = cc in absurd g
after_header_said again f n start section a (line ∷ lines) s all (blank w rest) sts e format lo hi order sayable checked =
    blank_passed n start section a line lines w ∙ after_header_said again f (n + 1) (start + length line + 1) section a lines s all rest sts e format lo hi order sayable checked
after_header_said again f n start section a (line ∷ lines) s (st ∷ all) (says w rest) [] e format lo hi order sayable checked =
    let is : st ≡ End = cc in
    let none : all ≡ [] = cc in
    let there : words_at line ≡ Ok (statement_words End) = w ∙ ap (λ (x : Statement). Ok (statement_words x)) is in
    let same : a ≡ s = ok_is a s checked in
    line_passed again n start section a a line lines End there (end_stands section lo hi) hi tt refl
    ∙ subst (λ (x : SessionData). ReadsOn (n + 1) (start + length line + 1) (at_line Ended a) lines x) same (ended_said (n + 1) (start + length line + 1) a lines all rest none)
after_header_said again f n start section a (line ∷ lines) s (st ∷ all) (says w rest) (x ∷ xs) e format lo hi order sayable checked =
    let is : st ≡ x = cc in
    let more : all ≡ xs ++ End ∷ [] = cc in
    let there : words_at line ≡ Ok (statement_words x) = w ∙ ap (λ (y : Statement). Ok (statement_words y)) is in
    let b = bind_ok (taken a x) (λ t. taken_all t xs) s checked in
    let low = inner_low x order.0 in
    line_passed again n start section a b.0 line lines x there (may_stand section x order.0 lo order.1) hi (subst (λ (g : ℕ). IsSayable g x) (sym format) sayable.0) b.1
    ∙ after_header_said again f (n + 1) (start + length line + 1) (section_of x) b.0 lines s all rest xs more (format_kept a b.0 x order.0 b.1 ∙ format) low.0 low.1 order.2 sayable.1 b.2

-- from the beginning
whole_said : Again → (n start f : ℕ) (a : SessionData) (lines : List (List ℕ)) (s : SessionData) (all : List Statement) → Say lines all → (sts : List Statement) → all ≡ Header f ∷ sts ++ End ∷ []
    → (f ≡ 1) ⊎ (f ≡ 2) → AreInOrder Relations sts → AllByRecursion (IsSayable f) sts → taken_all (empty_session f) sts ≡ Ok s → ReadsOn n start (at_line Beginning a) lines s
whole_said again n start f a [] s all nothing sts e known order sayable checked = let g : ⊥ = cc in absurd g
whole_said again n start f a (line ∷ lines) s all (blank w rest) sts e known order sayable checked =
    blank_passed n start Beginning a line lines w ∙ whole_said again (n + 1) (start + length line + 1) f a lines s all rest sts e known order sayable checked
whole_said again n start f a (line ∷ lines) s (st ∷ all) (says w rest) sts e known order sayable checked =
    let is : st ≡ Header f = cc in
    let more : all ≡ sts ++ End ∷ [] = cc in
    let there : words_at line ≡ Ok (statement_words (Header f)) = w ∙ ap (λ (y : Statement). Ok (statement_words y)) is in
    line_passed again n start Beginning a (empty_session f) line lines (Header f) there tt (omega arith) known refl
    ∙ after_header_said again f (n + 1) (start + length line + 1) Relations (empty_session f) lines s all rest sts more refl (omega arith) (omega arith) order sayable checked

-- ---- bytes

spelled_lines : (bytes : List ℕ) (s : SessionData) → Spells bytes s → IsText bytes × (lines_from 0 0 begun (lines_of bytes) ≡ Ok s)
unfolding read
spelled_lines bytes s e = by (utf8_valid_len bytes == length bytes) refl e where
  by : (b : Bool) → (utf8_valid_len bytes == length bytes) ≡ b → (if b then lines_from 0 0 begun (lines_of bytes) else Err (not_text bytes)) ≡ Ok s → IsText bytes × (lines_from 0 0 begun (lines_of bytes) ≡ Ok s)
  by true h g = (eqb-true (utf8_valid_len bytes) (length bytes) h, g)
  by false h g = let f : ⊥ = cc in absurd f

text_read : (bytes : List ℕ) → IsText bytes → read bytes ≡ lines_from 0 0 begun (lines_of bytes)
unfolding read
text_read bytes u = let e : (utf8_valid_len bytes == length bytes) ≡ true = eq-eqb (utf8_valid_len bytes) (length bytes) u in rw e refl

said_by : (bytes : List ℕ) (s : SessionData) → IsText bytes → Whole (lines_of bytes) s → IsInput bytes s
said_by bytes s u r = record { text = u; format = r.format; known = r.known; statements = r.statements; lines = r.say; in_order = r.in_order; sayable = r.sayable; checked = r.checked }

pub inputs_law : Again → Only → InputsAreStatements
inputs_law again only bytes s = (
  λ e. let r = spelled_lines bytes s e in said_by bytes s r.0 (whole only 0 0 (empty_session 1) (lines_of bytes) s r.1),
  λ x. text_read bytes x.text ∙ whole_said again 0 0 x.format (empty_session 1) (lines_of bytes) s (Header x.format ∷ x.statements ++ End ∷ []) x.lines x.statements refl x.known x.in_order x.sayable x.checked,
)
