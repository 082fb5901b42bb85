-- Lines that are printed are read one after the other.
use Rattle.std.proofs.Common.{◌≡◌, ℕ, suc, ◌+◌, ◌<◌, ◌≤◌, ◌⊎◌, inl, inr, ◌^◌, List, [], ◌∷◌, ◌++◌, length, refl, sym, ap, ◌∙◌, subst, arith}
use Rattle.std.specs.Prelude.{Ok, map}
use Rattle.std.specs.List.{AllByRecursion}
use Rattle.def_language.specs.LineTokens.{tokens_at}
use Rattle.def_language.specs.Words.{Word}
use Rattle.def_language.specs.Statements.{Statement, Header, Relation, Mapping, Base, Update, Answer, End}
use Rattle.def_language.specs.Grammar.{statement_words}
use Rattle.def_language.specs.Layout.{laid_out, IsSpoken}
use Rattle.def_language.specs.Forms.{Section, Beginning, Relations, Ended, rank, section_of}
use Rattle.def_language.specs.Texts.{HasMembers}
use Rattle.def_language.specs.Sayable.{IsSayable, MayStand}
use Rattle.def_language.specs.Sessions.{SessionData, empty_session}
use Rattle.def_language.specs.Checks.{taken}
use Rattle.def_language.specs.Lines.{State, begun, open_line, line_in, line_with, line_at, lines_from}
use Rattle.def_language.proofs.Again.{statement_again}
use Rattle.def_language.proofs.Pages.{words_again}
use Rattle.def_language.proofs.Spoken.{ArePrinted}

abbrev pub printed_line : Statement → List ℕ
printed_line st = laid_out (statement_words st)

-- after the header
abbrev pub IsAfterHeader : Statement → Type 0
IsAfterHeader (Header f) = ⊥
IsAfterHeader _ = Unit {0}

-- The statement may stand in the section, after the header and before the end, and its words can be printed.
pub record Fits (section : Section) (format : ℕ) (st : Statement) : Type 0 where
  pub after_header : IsAfterHeader st
  pub begun : 1 ≤ rank section
  pub open_ : rank section < 5
  pub in_order : rank section ≤ rank (section_of st)
  pub sayable : IsSayable format st
  pub words : ArePrinted (statement_words st)
  pub members : HasMembers st

may_stand : (section : Section) (st : Statement) → IsAfterHeader st → 1 ≤ rank section → rank section ≤ rank (section_of st) → MayStand section st
may_stand section (Header f) after_header low le = absurd after_header
may_stand Beginning st after_header low le = absurd (omega arith)
may_stand section st after_header low le = le

pub spoken_words : (ws : List Word) → ArePrinted ws → AllByRecursion IsSpoken ws
spoken_words [] all = tt
spoken_words (w ∷ ws) all = (all.0.0, spoken_words ws all.1)

in_section : (section : Section) (a : SessionData) (ws : List Word) → rank section < 5 → let state : State = record { section = section; session = a } in line_in section state ws ≡ open_line state ws
in_section Ended a ws lt = absurd (omega arith)
in_section section a ws lt = refl

opened : (section : Section) (a : SessionData) (st : Statement) → rank section < 5 → let state : State = record { section = section; session = a } in line_with state (statement_words st) ≡ open_line state (statement_words st)
unfolding line_with
opened section a (Header f) lt = in_section section a (statement_words (Header f)) lt
opened section a (Relation n columns) lt = in_section section a (statement_words (Relation n columns)) lt
opened section a (Mapping m) lt = in_section section a (statement_words (Mapping m)) lt
opened section a (Base fact) lt = in_section section a (statement_words (Base fact)) lt
opened section a (Update label curator operation) lt = in_section section a (statement_words (Update label curator operation)) lt
opened section a (Answer label choice) lt = in_section section a (statement_words (Answer label choice)) lt
opened section a End lt = in_section section a (statement_words End) lt

-- a line of a statement that may stand and is taken
line_taken : (start : ℕ) (section : Section) (a b : SessionData) (st : Statement) → MayStand section st → rank section < 5 → IsSayable a.format st → ArePrinted (statement_words st) → taken a st ≡ Ok b
    → line_at start (record { section = section; session = a }) (printed_line st) ≡ Ok (record { section = section_of st; session = b })
unfolding open_line
line_taken start section a b st stand lt sayable words taken_so =
    rw (words_again (statement_words st) (spoken_words (statement_words st) words), opened section a st lt, statement_again section a.format st stand sayable, taken_so) refl

-- the session after statements, one by one
abbrev pub Runs : Section → SessionData → List Statement → SessionData → Type 0
Runs section a [] b = a ≡ b
Runs section a (st ∷ sts) b = Fits section a.format st × ((c : SessionData) × (taken a st ≡ Ok c) × Runs (section_of st) c sts b)

abbrev pub last_section : Section → List Statement → Section
last_section section [] = section
last_section section (st ∷ sts) = last_section (section_of st) sts

pub runs_on : (section : Section) (a b c : SessionData) (xs ys : List Statement) → Runs section a xs b → Runs (last_section section xs) b ys c → Runs section a (xs ++ ys) c
runs_on section a b c [] ys e r = subst (λ (x : SessionData). Runs section x ys c) (sym e) r
runs_on section a b c (st ∷ xs) ys run r = (run.0, (run.1.0, run.1.1, runs_on (section_of st) run.1.0 b c xs ys run.1.2 r))

line_read : (n start : ℕ) (section : Section) (a b : SessionData) (st : Statement) (lines : List (List ℕ)) → MayStand section st → rank section < 5 → IsSayable a.format st → ArePrinted (statement_words st) → taken a st ≡ Ok b
    → lines_from n start (record { section = section; session = a }) (printed_line st ∷ lines) ≡ lines_from (n + 1) (start + length (printed_line st) + 1) (record { section = section_of st; session = b }) lines
unfolding lines_from
line_read n start section a b st lines stand lt sayable words taken_so = rw (line_taken start section a b st stand lt sayable words taken_so) refl

-- the lines that are left are read from some place on
pub record LeftAt (n start : ℕ) (section : Section) (a : SessionData) (lines : List (List ℕ)) (m : ℕ) (section' : Section) (b : SessionData) (rest : List (List ℕ)) : Type 0 where
  pub place : ℕ
  pub same : lines_from n start (record { section = section; session = a }) lines ≡ lines_from m place (record { section = section'; session = b }) rest

pub runs_read : (n start : ℕ) (section : Section) (a b : SessionData) (sts : List Statement) (rest : List (List ℕ)) → Runs section a sts b
    → LeftAt n start section a (map printed_line sts ++ rest) (n + length sts) (last_section section sts) b rest
runs_read n start section a b [] rest e =
    let m : n ≡ n + 0 = omega arith in
    record { place = start; same = ap (λ (x : SessionData). lines_from n start (record { section = section; session = x }) rest) e ∙ ap (λ k. lines_from k start (record { section = section; session = b }) rest) m }
runs_read n start section a b (st ∷ sts) rest run =
    let f = run.0 in
    let first = line_read n start section a run.1.0 st (map printed_line sts ++ rest) (may_stand section st f.after_header f.begun f.in_order) f.open_ f.sayable f.words run.1.1 in
    let others = runs_read (n + 1) (start + length (printed_line st) + 1) (section_of st) run.1.0 b sts rest run.1.2 in
    let m : n + 1 + length sts ≡ n + suc (length sts) = omega arith in
    record { place = others.place; same = first ∙ others.same ∙ ap (λ k. lines_from k others.place (record { section = last_section (section_of st) sts; session = b }) rest) m }

-- after `end` and the last line feed
ended : (n start : ℕ) (b : SessionData) → lines_from n start (record { section = Ended; session = b }) ([] ∷ []) ≡ Ok b
unfolding lines_from line_with tokens_at
ended n start b = refl

pub header_words : (f : ℕ) → (f ≡ 1) ⊎ (f ≡ 2) → ArePrinted (statement_words (Header f))
header_words f (inl one) = let small : f < 2 ^ 63 = omega arith in ((refl, tt), ((small, tt), tt))
header_words f (inr two) = let small : f < 2 ^ 63 = omega arith in ((refl, tt), ((small, tt), tt))

pub last_joined : (section : Section) (xs ys : List Statement) → last_section section (xs ++ ys) ≡ last_section (last_section section xs) ys
last_joined section [] ys = refl
last_joined section (x ∷ xs) ys = last_joined (section_of x) xs ys

-- A whole session: the header, and the statements after it up to the end.
pub whole_read : (f : ℕ) (sts : List Statement) (b : SessionData) → (f ≡ 1) ⊎ (f ≡ 2) → Runs Relations (empty_session f) sts b → last_section Relations sts ≡ Ended
    → lines_from 0 0 begun (map printed_line (Header f ∷ sts) ++ [] ∷ []) ≡ Ok b
whole_read f sts b format run last =
    let first = line_read 0 0 Beginning (empty_session 1) (empty_session f) (Header f) (map printed_line sts ++ [] ∷ []) tt (omega arith) format (header_words f format) refl in
    let others = runs_read (0 + 1) (0 + length (printed_line (Header f)) + 1) Relations (empty_session f) b sts ([] ∷ []) run in
    first ∙ others.same ∙ ap (λ (x : Section). lines_from (0 + 1 + length sts) others.place (record { section = x; session = b }) ([] ∷ [])) last ∙ ended (0 + 1 + length sts) others.place b

-- all statements have their members
pub runs_members : (section : Section) (a b : SessionData) (sts : List Statement) → Runs section a sts b → AllByRecursion HasMembers sts
runs_members section a b [] run = tt
runs_members section a b (st ∷ sts) run = (run.0.members, runs_members (section_of st) run.1.0 b sts run.1.2)

-- all words of the statements can be printed
pub runs_printed : (section : Section) (a b : SessionData) (sts : List Statement) → Runs section a sts b → AllByRecursion (λ st. ArePrinted (statement_words st)) sts
runs_printed section a b [] run = tt
runs_printed section a b (st ∷ sts) run = (run.0.words, runs_printed (section_of st) run.1.0 b sts run.1.2)
