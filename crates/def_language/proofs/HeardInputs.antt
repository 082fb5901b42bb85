-- What is read of an input is what its lines say.
use Rattle.std.proofs.Common.{◌≡◌, ℕ, ◌+◌, ◌<◌, ◌≤◌, ◌⊎◌, ap, refl, sym, ◌∙◌, subst, List, [], ◌∷◌, ◌++◌, length, arith}
use Rattle.std.specs.Prelude.{Ok}
use Rattle.std.specs.List.{AllByRecursion}
use Rattle.def_language.specs.Words.{words_at}
use Rattle.def_language.specs.Reading.{◌>>=◌}
use Rattle.def_language.specs.Statements.{Statement, Header, Relation, Mapping, Base, Update, Answer, End}
use Rattle.def_language.specs.Grammar.{statement_words}
use Rattle.def_language.specs.Forms.{Section, Beginning, Relations, Ended, rank, section_of}
use Rattle.def_language.specs.Sayable.{IsSayable, MayStand}
use Rattle.def_language.specs.Sessions.{SessionData, empty_session}
use Rattle.def_language.specs.Checks.{taken}
use Rattle.def_language.specs.Lines.{State, closed, lines_from}
use Rattle.def_language.specs.Inputs.{Say, nothing, blank, says, IsInner, AreInOrder, taken_all}
use Rattle.def_language.proofs.Bound.{ok_is, Only}
use Rattle.def_language.proofs.Formats.{format_kept}
use Rattle.def_language.proofs.Steps.{at_line, Heard, Blank, Spoke, numbered_ok, first_line}

-- after the header, in this section and with this session in hand
pub record AfterHeader (f : ℕ) (section : Section) (a : SessionData) (lines : List (List ℕ)) (s : SessionData) : Type 0 where
  pub statements : List Statement
  pub say : Say lines (statements ++ End ∷ [])
  pub in_order : AreInOrder section statements
  pub sayable : AllByRecursion (IsSayable f) statements
  pub checked : taken_all a statements ≡ Ok s

-- what is read on from a state
abbrev ReadsOn : ℕ → ℕ → State → List (List ℕ) → SessionData → Type 0
ReadsOn n start state lines s = lines_from n start state lines ≡ Ok s

-- ---- after the end

ended_with : Only → (n start : ℕ) (a s : SessionData) (lines : List (List ℕ)) → ReadsOn n start (at_line Ended a) lines s → Say lines [] × (a ≡ s)
unfolding lines_from
ended_with only n start a s [] e = (nothing, ok_is a s (numbered_ok n (closed Ended a) s e))
ended_with only n start a s (line ∷ lines) e =
    let r = first_line only n start Ended a line lines s e in
    by r.next r.heard r.others (λ m place k. ended_with only m place a s lines k)
  where
    by : (next : State) → Heard Ended a line next → ReadsOn (n + 1) (start + length line + 1) next lines s
        → ((m place : ℕ) → ReadsOn m place (at_line Ended a) lines s → Say lines [] × (a ≡ s)) → Say (line ∷ lines) [] × (a ≡ s)
    by next (Blank w i) k rest =
        let r = rest (n + 1) (start + length line + 1) (subst (λ (x : State). ReadsOn (n + 1) (start + length line + 1) x lines s) (sym i) k) in (blank w r.0, r.1)
    by next (Spoke w h) k rest = let lt : rank Ended < 5 = h.open_ in absurd (omega (arith, lt))

-- ---- after the header

not_closed : (section : Section) (a s : SessionData) → rank section < 5 → closed section a ≡ Ok s → ⊥
not_closed Ended a s lt e = absurd (omega (arith, lt))
not_closed section a s lt e = let f : ⊥ = cc in f

may_rank : (section : Section) (st : Statement) → 1 ≤ rank section → MayStand section st → rank section ≤ rank (section_of st)
may_rank Beginning st lo m = absurd (omega (arith, lo))
may_rank section (Header f) lo m = absurd m
may_rank section st lo m = m

no_header : (section : Section) (f : ℕ) → 1 ≤ rank section → MayStand section (Header f) → ⊥
no_header Beginning f lo m = absurd (omega (arith, lo))
no_header section f lo m = m

same_session : (a b : SessionData) → a ≡ b → taken_all a [] ≡ Ok b
same_session a b e = let h : taken_all a [] ≡ Ok a = refl in subst (λ (x : SessionData). taken_all a [] ≡ Ok x) e h

module _ (only : Only) (f : ℕ) (lines : List (List ℕ)) (s : SessionData) where
  -- how it goes on from any state after the header
  abbrev Rest : Type 0
  Rest = (m place : ℕ) (section : Section) (b : SessionData) → b.format ≡ f → 1 ≤ rank section → rank section < 5 → ReadsOn m place (at_line section b) lines s → AfterHeader f section b lines s

  module _ (section : Section) (a : SessionData) (line : List ℕ) (format : a.format ≡ f) (lo : 1 ≤ rank section) (m place : ℕ) (b : SessionData) where
    -- a statement between header and end
    inner : (st : Statement) → IsInner st → 1 ≤ rank (section_of st) → rank (section_of st) < 5 → words_at line ≡ Ok (statement_words st) → IsSayable a.format st → MayStand section st
        → taken a st ≡ Ok b → ReadsOn m place (at_line (section_of st) b) lines s → Rest → AfterHeader f section a (line ∷ lines) s
    inner st between low high w sayable stands taken_so k rest =
        let r = rest m place (section_of st) b (format_kept a b st between taken_so ∙ format) low high k in
        record {
          statements = st ∷ r.statements;
          say = says w r.say;
          in_order = (between, may_rank section st lo stands, r.in_order);
          sayable = (subst (λ (g : ℕ). IsSayable g st) format sayable, r.sayable);
          checked = (λ i. taken_so i >>= (λ t. taken_all t r.statements)) ∙ r.checked;
        }

    said : (st : Statement) → words_at line ≡ Ok (statement_words st) → IsSayable a.format st → MayStand section st → taken a st ≡ Ok b → ReadsOn m place (at_line (section_of st) b) lines s
        → Rest → AfterHeader f section a (line ∷ lines) s
    said (Header g) w sayable stands t k rest = absurd (no_header section g lo stands)
    said End w sayable stands t k rest =
        let r = ended_with only m place b s lines k in
        record { statements = []; say = says w r.0; in_order = tt; sayable = tt; checked = same_session a s (ok_is a b t ∙ r.1) }
    said (Relation n columns) w sayable stands t k rest = inner (Relation n columns) tt (omega arith) (omega arith) w sayable stands t k rest
    said (Mapping x) w sayable stands t k rest = inner (Mapping x) tt (omega arith) (omega arith) w sayable stands t k rest
    said (Base fact) w sayable stands t k rest = inner (Base fact) tt (omega arith) (omega arith) w sayable stands t k rest
    said (Update label curator operation) w sayable stands t k rest = inner (Update label curator operation) tt (omega arith) (omega arith) w sayable stands t k rest
    said (Answer label choice) w sayable stands t k rest = inner (Answer label choice) tt (omega arith) (omega arith) w sayable stands t k rest

  heard : (section : Section) (a : SessionData) (line : List ℕ) → a.format ≡ f → 1 ≤ rank section → rank section < 5 → (m place : ℕ) (next : State) → Heard section a line next
      → ReadsOn m place next lines s → Rest → AfterHeader f section a (line ∷ lines) s
  heard section a line format lo hi m place next (Blank w i) k rest =
      let r = rest m place section a format lo hi (subst (λ (x : State). ReadsOn m place x lines s) (sym i) k) in
      record { statements = r.statements; say = blank w r.say; in_order = r.in_order; sayable = r.sayable; checked = r.checked }
  heard section a line format lo hi m place next (Spoke w h) k rest =
      said section a line format lo m place h.session h.statement (w ∙ ap (λ ws. Ok ws) h.words) h.sayable h.stands h.taken_so
      (subst (λ (x : State). ReadsOn m place x lines s) (sym h.is) k) rest

pub after_header : Only → (f n start : ℕ) (section : Section) (a : SessionData) (lines : List (List ℕ)) (s : SessionData) → a.format ≡ f → 1 ≤ rank section → rank section < 5
    → ReadsOn n start (at_line section a) lines s → AfterHeader f section a lines s
unfolding lines_from
after_header only f n start section a [] s format lo hi e = absurd (not_closed section a s hi (numbered_ok n (closed section a) s e))
after_header only f n start section a (line ∷ lines) s format lo hi e =
    let r = first_line only n start section a line lines s e in
    heard only f lines s section a line format lo hi (n + 1) (start + length line + 1) r.next r.heard r.others
    (λ m place σ b g l h k. after_header only f m place σ b lines s g l h k)

-- ---- from the beginning

pub record Whole (lines : List (List ℕ)) (s : SessionData) : Type 0 where
  pub format : ℕ
  pub known : (format ≡ 1) ⊎ (format ≡ 2)
  pub statements : List Statement
  pub say : Say lines (Header format ∷ statements ++ End ∷ [])
  pub in_order : AreInOrder Relations statements
  pub sayable : AllByRecursion (IsSayable format) statements
  pub checked : taken_all (empty_session format) statements ≡ Ok s

header_said : Only → (a : SessionData) (line : List ℕ) (lines : List (List ℕ)) (s : SessionData) (m place : ℕ) (b : SessionData) (st : Statement) → words_at line ≡ Ok (statement_words st)
    → IsSayable a.format st → MayStand Beginning st → taken a st ≡ Ok b → ReadsOn m place (at_line (section_of st) b) lines s → Whole (line ∷ lines) s
header_said only a line lines s m place b (Header f) w sayable stands t k =
    let e : empty_session f ≡ b = ok_is (empty_session f) b t in
    let r = after_header only f m place Relations (empty_session f) lines s refl (omega arith) (omega arith) (subst (λ (x : SessionData). ReadsOn m place (at_line Relations x) lines s) (sym e) k) in
    record { format = f; known = sayable; statements = r.statements; say = says w r.say; in_order = r.in_order; sayable = r.sayable; checked = r.checked }
header_said only a line lines s m place b st w sayable stands t k = absurd stands

first_heard : Only → (a : SessionData) (line : List ℕ) (lines : List (List ℕ)) (s : SessionData) (m place : ℕ) (next : State) → Heard Beginning a line next → ReadsOn m place next lines s
    → ((m place : ℕ) → ReadsOn m place (at_line Beginning a) lines s → Whole lines s) → Whole (line ∷ lines) s
first_heard only a line lines s m place next (Blank w i) k rest =
    let r = rest m place (subst (λ (x : State). ReadsOn m place x lines s) (sym i) k) in
    record { format = r.format; known = r.known; statements = r.statements; say = blank w r.say; in_order = r.in_order; sayable = r.sayable; checked = r.checked }
first_heard only a line lines s m place next (Spoke w h) k rest =
    header_said only a line lines s m place h.session h.statement (w ∙ ap (λ ws. Ok ws) h.words) h.sayable h.stands h.taken_so
    (subst (λ (x : State). ReadsOn m place x lines s) (sym h.is) k)

pub whole : Only → (n start : ℕ) (a : SessionData) (lines : List (List ℕ)) (s : SessionData) → ReadsOn n start (at_line Beginning a) lines s → Whole lines s
unfolding lines_from
whole only n start a [] s e = absurd (not_closed Beginning a s (omega arith) (numbered_ok n (closed Beginning a) s e))
whole only n start a (line ∷ lines) s e =
    let r = first_line only n start Beginning a line lines s e in
    first_heard only a line lines s (n + 1) (start + length line + 1) r.next r.heard r.others (λ m place k. whole only m place a lines s k)
