-- Bytes are a journal in one way at most.
use Rattle.std.proofs.Common.{◌≡◌, inl, inr, ℕ, ◌+◌, ap, refl, ◌∙◌, sym, subst, List, [], ◌∷◌, ◌++◌, drop, get_or, length, append_assoc, arith}
use Rattle.std.proofs.lemmas.List.{append_cancel_left}
use Rattle.def_chase.specs.Repository.{Change}
use Rattle.def_language.specs.Lines.{Spells}
use Rattle.def_language.specs.Printing.{printed}
use Rattle.def_language.specs.Sessions.{RelationSchema, SessionData}
use Rattle.def_language.specs.Validity.{IsSession}
use Rattle.run_journal.specs.Damage.{HasNoCommit, IsBroken, IsDamagedAt}
use Rattle.base_roll.specs.Format.{framed, opened, records}
use Rattle.base_roll.specs.Rolls.{IsClosed}
use Rattle.base_roll.proofs.Frames.{frames_apart}
use Rattle.base_roll.proofs.Gates.{shut}
use Rattle.base_roll.proofs.OneReading as rolls
use Rattle.run_journal.specs.Format.{commit_line, commit_text, texts, front, write_lines, IsOpening, IsCommit, AreCommits}
use Rattle.run_journal.specs.Journals.{BeginsWith, IsJournal}
use Rattle.run_journal.proofs.Texts.{as_roll}
use Rattle.run_journal.proofs.WriteLines.{AreReadAgain, same_writes}

pub one_opening : ((bytes : List ℕ) (s t : SessionData) → Spells bytes s → Spells bytes t → s ≡ t) → ((s : SessionData) → IsSession s → Spells (printed s) s)
    → (s t : SessionData) (x y : List ℕ) → IsOpening s → IsOpening t → framed (printed s) ++ x ≡ framed (printed t) ++ y → (s ≡ t) × (x ≡ y)
one_opening one again s t x y a b e =
    let parts = frames_apart (printed s) (printed t) x y a.short b.short e in
    (one (printed t) s t (subst (λ text. Spells text s) parts.0 (again s a.session)) (again t b.session), parts.1)

one_text : (relations : List RelationSchema) → AreReadAgain relations → (n : ℕ) (ws vs : List Change) → IsCommit relations n ws → IsCommit relations n vs → commit_text relations n ws ≡ commit_text relations n vs → ws ≡ vs
one_text relations again n ws vs a b e = same_writes relations again ws vs a.writes b.writes (append_cancel_left (commit_line n) (write_lines relations ws) (write_lines relations vs) e)

nothing_some : (text : List ℕ) (ts : List (List ℕ)) → [] ≡ text ∷ ts → ⊥
nothing_some text ts e = cc

same_commits : (relations : List RelationSchema) → AreReadAgain relations → (n : ℕ) (commits others : List (List Change)) → AreCommits relations n commits → AreCommits relations n others → texts relations n commits ≡ texts relations n others → commits ≡ others
same_commits relations again n [] [] a b e = refl
same_commits relations again n [] (vs ∷ others) a b e = absurd (nothing_some (commit_text relations n vs) (texts relations (n + 1) others) e)
same_commits relations again n (ws ∷ commits) [] a b e = absurd (nothing_some (commit_text relations n ws) (texts relations (n + 1) commits) (sym e))
same_commits relations again n (ws ∷ commits) (vs ∷ others) a b e =
    let first : ws ≡ vs = one_text relations again n ws vs a.0 b.0 (ap (λ ts. get_or ts 0 []) e) in
    let rest : commits ≡ others = same_commits relations again (n + 1) commits others a.1 b.1 (ap (drop 1) e) in
    λ i. first i ∷ rest i

after_opening : (s : SessionData) (commits : List (List Change)) (rest : List ℕ) → front s commits ++ rest ≡ framed (printed s) ++ (records (texts s.relations 1 commits) ++ rest)
after_opening s commits rest = append_assoc (framed (printed s)) (records (texts s.relations 1 commits)) rest

pub one_session : ((bytes : List ℕ) (s t : SessionData) → Spells bytes s → Spells bytes t → s ≡ t) → ((s : SessionData) → IsSession s → Spells (printed s) s)
    → (s t : SessionData) (commits others : List (List Change)) (bytes : List ℕ) → IsJournal s commits bytes → IsJournal t others bytes → s ≡ t
one_session one again s t commits others bytes (x, a, c) (y, b, d) =
    (one_opening one again s t (records (texts s.relations 1 commits) ++ x) (records (texts t.relations 1 others) ++ y) a.opening b.opening
    (sym (after_opening s commits x) ∙ sym a.bytes ∙ b.bytes ∙ after_opening t others y)).0

pub one_list : (s : SessionData) → AreReadAgain s.relations → (commits others : List (List Change)) (bytes : List ℕ) → IsJournal s commits bytes → IsJournal s others bytes → commits ≡ others
one_list s again commits others bytes j k =
    same_commits s.relations again 1 commits others j.1.commits k.1.commits
    (rolls.one_list (framed (printed s)) (texts s.relations 1 commits) (texts s.relations 1 others) bytes (as_roll s commits bytes j) (as_roll s others bytes k))

-- ---- damaged bytes

none_left : (x y : List ℕ) → IsClosed y → x ≡ y → x ≡ [] → ⊥
none_left x y (gate, tail, is, off) e f = let never : gate ∷ tail ≡ [] = sym is ∙ sym e ∙ f in cc

some_left : (byte : ℕ) (more x : List ℕ) → x ≡ byte ∷ more → x ≡ [] → ⊥
some_left byte more x e f = let never : byte ∷ more ≡ [] = sym e ∙ f in cc

-- if the next gate is missing or has no commit after it, no list of commits stands
no_list : (relations : List RelationSchema) → AreReadAgain relations → (n m : ℕ) (commits others : List (List Change)) (x y : List ℕ) → m ≡ n + length commits → AreCommits relations n commits → AreCommits relations n others
    → IsBroken relations m x → IsClosed y → records (texts relations n commits) ++ x ≡ records (texts relations n others) ++ y → ⊥
no_list relations again n m [] [] x y k a b (inl none) d e = none_left x y d e none
no_list relations again n m [] [] x y k a b (inr (tail, is, none)) d e = shut y tail d (sym e ∙ is)
no_list relations again n m [] (vs ∷ others) x y k a b (inl none) d e =
    some_left 1 (framed (commit_text relations n vs) ++ (records (texts relations (n + 1) others) ++ y)) x (e ∙ append_assoc (opened (commit_text relations n vs)) (records (texts relations (n + 1) others)) y) none
no_list relations again n m [] (vs ∷ others) x y k a b (inr (tail, is, none)) d e =
    let same : m ≡ n = omega arith in
    subst (λ i. HasNoCommit relations i tail) same none vs (records (texts relations (n + 1) others) ++ y) b.0
    (ap (drop 1) (sym is ∙ e ∙ append_assoc (opened (commit_text relations n vs)) (records (texts relations (n + 1) others)) y))
no_list relations again n m (ws ∷ commits) [] x y k a b c d e =
    shut y (framed (commit_text relations n ws) ++ (records (texts relations (n + 1) commits) ++ x)) d (sym e ∙ append_assoc (opened (commit_text relations n ws)) (records (texts relations (n + 1) commits)) x)
no_list relations again n m (ws ∷ commits) (vs ∷ others) x y k a b c d e =
    let parts = frames_apart (commit_text relations n ws) (commit_text relations n vs) (records (texts relations (n + 1) commits) ++ x) (records (texts relations (n + 1) others) ++ y) a.0.short b.0.short
    (ap (drop 1) (sym (append_assoc (opened (commit_text relations n ws)) (records (texts relations (n + 1) commits)) x) ∙ e ∙ append_assoc (opened (commit_text relations n vs)) (records (texts relations (n + 1) others)) y)) in
    no_list relations again (n + 1) m commits others x y (omega arith) a.1 b.1 c d parts.1

pub no_journal : ((bytes : List ℕ) (s t : SessionData) → Spells bytes s → Spells bytes t → s ≡ t) → ((s : SessionData) → IsSession s → Spells (printed s) s)
    → (s : SessionData) → AreReadAgain s.relations → (commits : List (List Change)) (bytes : List ℕ) (place : ℕ) → IsDamagedAt bytes place → IsJournal s commits bytes → ⊥
no_journal one again s lines commits bytes place (inl (first, none)) (y, b, d) = none s (records (texts s.relations 1 commits) ++ y) b.opening (b.bytes ∙ after_opening s commits y)
no_journal one again s lines commits bytes place (inr broken) (y, b, d) =
    let a : BeginsWith bytes broken.session broken.commits broken.rest = broken.begins in
    let parts = one_opening one again broken.session s (records (texts broken.session.relations 1 broken.commits) ++ broken.rest) (records (texts s.relations 1 commits) ++ y) a.opening b.opening
    (sym (after_opening broken.session broken.commits broken.rest) ∙ sym a.bytes ∙ b.bytes ∙ after_opening s commits y) in
    let here : AreCommits s.relations 1 broken.commits = subst (λ (t : SessionData). AreCommits t.relations 1 broken.commits) parts.0 a.commits in
    let gap : IsBroken s.relations (length broken.commits + 1) broken.rest = subst (λ (t : SessionData). IsBroken t.relations (length broken.commits + 1) broken.rest) parts.0 broken.broken in
    let same : records (texts s.relations 1 broken.commits) ++ broken.rest ≡ records (texts s.relations 1 commits) ++ y =
    subst (λ (t : SessionData). records (texts t.relations 1 broken.commits) ++ broken.rest ≡ records (texts s.relations 1 commits) ++ y) parts.0 parts.1 in
    no_list s.relations lines 1 (length broken.commits + 1) broken.commits commits broken.rest y (omega arith) here b.commits gap d same
