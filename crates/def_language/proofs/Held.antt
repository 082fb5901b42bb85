-- A session that bytes spell is valid.
use Rattle.std.proofs.Common.{◌≡◌, ℕ, zero, suc, ◌+◌, ◌≤◌, ◌⊎◌, inl, inr, Bool, true, false, List, [], ◌∷◌, length, take, refl, ap, ◌∙◌, subst, arith}
use Rattle.std.specs.Prelude.{Result, Ok, Err, ◌==◌, IsUtf8, if◌then◌else◌}
use Rattle.std.specs.List.{AllByRecursion}
use Rattle.std.specs.Str.{is_utf8}
use Rattle.std.specs.Str.Lossy.{utf8_valid_len, valid_len_up_to}
use Rattle.std.proofs.lemmas.Bool.{eqb-true}
use Rattle.std.proofs.lemmas.List.{take_all}
use Rattle.std.proofs.lemmas.Str.{IsUtf8-nil, IsUtf8-from_is_utf8}
use Rattle.def_language.specs.declared.tokens.LexRefusal.{LexRefusal}
use Rattle.def_language.specs.Words.{Word, words_at}
use Rattle.def_language.specs.Faults.{Kind, Wrong}
use Rattle.def_language.specs.Reading.{◌>>=◌}
use Rattle.def_language.specs.Statements.{Statement, Header, Relation, Mapping, Base, Update, Answer, End}
use Rattle.def_language.specs.Grammar.{statement_words}
use Rattle.def_language.specs.Forms.{Section, Beginning, Relations, Updates, Ended, rank, section_of, statement_at}
use Rattle.def_language.specs.Sayable.{IsSayable, MayStand}
use Rattle.def_language.specs.Sessions.{SessionData, empty_session}
use Rattle.def_language.specs.Checks.{taken}
use Rattle.def_language.specs.Lines.{State, begun, open_line, line_in, line_with, line_at, placed_words, numbered, and_then, closed, lines_from, lines_of, not_text, read, Spells}
use Rattle.def_language.specs.Validity.{IsSession}
use Rattle.def_language.proofs.Many.{bind_ok, ok_is}
use Rattle.def_language.proofs.Spoken.{ArePrinted}
use Rattle.def_language.proofs.Stated.{statement_only}
use Rattle.def_language.proofs.Listened.{words_printed, lines_text}
use Rattle.def_language.proofs.Kept.{bare, RelationsAlone, relation_kept, mapping_added_so, initial_kept, tuple_kept, update_kept}
use Rattle.def_language.proofs.Answered.{answer_kept}

-- A session that is read so far: it is valid, and has only what its section may have.
record Open (section : Section) (s : SessionData) : Type 0 where
  valid : IsSession s
  alone : rank section ≤ 1 → RelationsAlone s
  no_tuples : rank section ≤ 2 → s.base ≡ []
  no_updates : rank section ≤ 3 → s.updates ≡ []

empty_open : (f : ℕ) (section : Section) → (f ≡ 1) ⊎ (f ≡ 2) → Open section (empty_session f)
empty_open f section format = record {
  valid = bare f [] format tt tt (omega arith);
  alone = λ le. record { mappings = refl; base = refl; updates = refl };
  no_tuples = λ le. refl;
  no_updates = λ le. refl;
}

-- the statement's section is not before that of the session
in_order : (section : Section) (st : Statement) → MayStand section st → (rank section ≤ rank (section_of st)) ⊎ ((f : ℕ) × (st ≡ Header f))
in_order Beginning (Header f) stand = inr (f, refl)
in_order Beginning st stand = absurd stand
in_order section (Header f) stand = absurd stand
in_order section st stand = inl stand

not_header : (section : Section) (st : Statement) → MayStand section st → ((f : ℕ) → st ≡ Header f → ⊥) → rank section ≤ rank (section_of st)
not_header section st stand none = elim (in_order section st stand) [ inl le ↦ le | inr h ↦ absurd (none h.0 h.1) ]

late : (t : SessionData) (section : Section) → 4 ≤ rank section → IsSession t → Open section t
late t section le valid = record { valid = valid; alone = λ lt. absurd (omega arith); no_tuples = λ lt. absurd (omega arith); no_updates = λ lt. absurd (omega arith) }

kept : (section : Section) (s t : SessionData) (st : Statement) → Open section s → MayStand section st → IsSayable s.format st → ArePrinted (statement_words st) → taken s st ≡ Ok t → Open (section_of st) t
kept section s t (Header f) o stand good printed e = subst (Open Relations) (ok_is (empty_session f) t e) (empty_open f Relations good)
kept section s t (Relation n z) o stand good printed e =
    let le : rank section ≤ 1 = not_header section (Relation n z) stand (λ f g. let h : ⊥ = cc in absurd h) in
    let r = relation_kept s t n z o.valid (o.alone le) printed.1.0.0 e in
    record { valid = r.0; alone = λ lt. r.1; no_tuples = λ lt. r.1.base; no_updates = λ lt. r.1.updates }
kept section s t (Mapping w) o stand good printed e =
    let le : rank section ≤ 2 = not_header section (Mapping w) stand (λ f g. let h : ⊥ = cc in absurd h) in
    let a = mapping_added_so s t 0 w good printed.1 e in
    let base : t.base ≡ s.base = ap (λ (x : SessionData). x.base) a.is in
    let updates : t.updates ≡ s.updates = ap (λ (x : SessionData). x.updates) a.is in
    record {
      valid = initial_kept s t w o.valid (o.no_updates (omega arith)) a;
      alone = λ lt. absurd (omega arith);
      no_tuples = λ lt. base ∙ o.no_tuples le;
      no_updates = λ lt. updates ∙ o.no_updates (omega arith);
    }
kept section s t (Base fact) o stand good printed e =
    let le : rank section ≤ 3 = not_header section (Base fact) stand (λ f g. let h : ⊥ = cc in absurd h) in
    let r = tuple_kept s t fact o.valid good printed.1 e in
    record { valid = r.0; alone = λ lt. absurd (omega arith); no_tuples = λ lt. absurd (omega arith); no_updates = λ lt. r.1 ∙ o.no_updates le }
kept section s t (Update label curator w) o stand good printed e = late t Updates (omega arith) (update_kept s t label curator w o.valid printed.1.0.0 printed.1.1.0.0 good printed.1.1.1 e)
kept section s t (Answer label w) o stand good printed e = late t Updates (omega arith) (answer_kept s t label w o.valid good printed.1.1 e)
kept section s t End o stand good printed e = late t Ended (omega arith) (subst IsSession (ok_is s t e) o.valid)

-- ---- lines

abbrev IsOpen : State → Type 0
IsOpen state = Open state.section state.session

line_open : (state next : State) (ws : List Word) → IsOpen state → ArePrinted ws → open_line state ws ≡ Ok next → IsOpen next
unfolding open_line
line_open state next ws o printed e =
    let a = bind_ok (statement_at state.section state.session.format ws) _ next e in
    let b = bind_ok (taken state.session a.0) _ next a.2 in
    let s = statement_only state.section state.session.format ws a.0 a.1 in
    let got : State = record { section = section_of a.0; session = b.0 } in
    subst IsOpen (ok_is got next b.2) (kept state.section state.session b.0 a.0 o s.2 s.1 (subst ArePrinted s.0 printed) b.1)

line_in_open : (section : Section) (state next : State) (ws : List Word) → IsOpen state → ArePrinted ws → line_in section state ws ≡ Ok next → IsOpen next
line_in_open Ended state next ws o printed e = let f : ⊥ = cc in absurd f
line_in_open section state next ws o printed e = line_open state next ws o printed e

line_with_open : (state next : State) (ws : List Word) → IsOpen state → ArePrinted ws → line_with state ws ≡ Ok next → IsOpen next
unfolding line_with
line_with_open state next [] o printed e = subst IsOpen (ok_is state next e) o
line_with_open state next (w ∷ ws) o printed e = line_in_open state.section state next (w ∷ ws) o printed e

words_open : (start : ℕ) (state next : State) (line : List ℕ) (read : Result (List Word) LexRefusal) → IsOpen state → IsUtf8 line → words_at line ≡ read → (placed_words start read >>= line_with state) ≡ Ok next → IsOpen next
words_open start state next line (Ok ws) o u is e = line_with_open state next ws o (words_printed line ws u is) e
words_open start state next line (Err refusal) o u is e = let f : ⊥ = cc in absurd f

numbered_ok : {A : Type 0} (n : ℕ) (read : Result A Kind) (x : A) → (let r : A → Result A Wrong = λ y. Ok y in numbered n read ≡ r x) → read ≡ Ok x
numbered_ok n (Ok y) x e = cc
numbered_ok n (Err kind) x e = let f : ⊥ = cc in absurd f

and_then_ok : {A B : Type 0} (read : Result A Wrong) (next : A → Result B Wrong) (y : B) → and_then read next ≡ Ok y → (x : A) × (read ≡ Ok x) × (next x ≡ Ok y)
and_then_ok (Ok x) next y e = (x, refl, e)
and_then_ok (Err wrong) next y e = let f : ⊥ = cc in absurd f

closed_ok : (section : Section) (s t : SessionData) → IsSession s → closed section s ≡ Ok t → IsSession t
closed_ok Ended s t valid e = subst IsSession (ok_is s t e) valid
closed_ok section s t valid e = let f : ⊥ = cc in absurd f

lines_open : (n start : ℕ) (state : State) (lines : List (List ℕ)) (s : SessionData) → IsOpen state → AllByRecursion IsUtf8 lines → lines_from n start state lines ≡ Ok s → IsSession s
unfolding lines_from
lines_open n start state [] s o all e = closed_ok state.section state.session s o.valid (numbered_ok n (closed state.section state.session) s e)
lines_open n start state (line ∷ lines) s o all e =
    let a = and_then_ok (numbered (n + 1) (line_at start state line)) _ s e in
    let next = words_open start state a.0 line (words_at line) o all.0 refl (numbered_ok (n + 1) (line_at start state line) a.0 a.1) in
    lines_open (n + 1) (start + length line + 1) a.0 lines s next all.1 a.2

-- ---- bytes

front_text : (bytes : List ℕ) (n : ℕ) → IsUtf8 (take (valid_len_up_to bytes n) bytes)
front_text bytes zero = IsUtf8-nil
front_text bytes (suc n) = by (front_text bytes n) (is_utf8 (take (suc n) bytes)) refl where
  by : IsUtf8 (take (valid_len_up_to bytes n) bytes) → (b : Bool) → is_utf8 (take (suc n) bytes) ≡ b → IsUtf8 (take (let k : ℕ = if b then suc n else valid_len_up_to bytes n in k) bytes)
  by shorter true e = IsUtf8-from_is_utf8 (take (suc n) bytes) e
  by shorter false e = shorter

pub whole_text : (bytes : List ℕ) → (utf8_valid_len bytes == length bytes) ≡ true → IsUtf8 bytes
unfolding utf8_valid_len
whole_text bytes e =
    let n : utf8_valid_len bytes ≡ length bytes = eqb-true (utf8_valid_len bytes) (length bytes) e in
    subst IsUtf8 (take_all (length bytes) bytes (omega arith)) (subst (λ (k : ℕ). IsUtf8 (take k bytes)) n (front_text bytes (length bytes)))

pub spelled_valid : (bytes : List ℕ) (s : SessionData) → Spells bytes s → IsSession s
unfolding read
spelled_valid bytes s e = by (utf8_valid_len bytes == length bytes) refl e where
  by : (b : Bool) → (utf8_valid_len bytes == length bytes) ≡ b → (if b then lines_from 0 0 begun (lines_of bytes) else Err (not_text bytes)) ≡ Ok s → IsSession s
  by true f g = lines_open 0 0 begun (lines_of bytes) s (empty_open 1 Beginning (inl refl)) (lines_text bytes (whole_text bytes f)) g
  by false f g = let h : ⊥ = cc in absurd h
