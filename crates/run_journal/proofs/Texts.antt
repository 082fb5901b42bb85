-- The texts of a journal's commits with one commit more, and what begins with them.
use Rattle.std.proofs.Common.{◌≡◌, ℕ, ◌+◌, ap, ◌∙◌, sym, subst, List, [], ◌∷◌, ◌++◌, length, arith, append_assoc}
use Rattle.base_roll.specs.Format.{framed, opened, records, AreShort}
use Rattle.base_roll.specs.Rolls.{IsRoll}
use Rattle.base_roll.proofs.Fronts as rolls
use Rattle.def_chase.specs.Repository.{Change}
use Rattle.def_language.specs.Printing.{printed}
use Rattle.def_language.specs.Sessions.{RelationSchema, SessionData}
use Rattle.run_journal.specs.Format.{commit_text, texts, front, IsOpening, IsCommit, AreCommits}
use Rattle.run_journal.specs.Journals.{BeginsWith, IsJournal}

texts_after : (relations : List RelationSchema) (n m : ℕ) (commits : List (List Change)) (writes : List Change) → m ≡ n + length commits
    → texts relations n (commits ++ writes ∷ []) ≡ texts relations n commits ++ commit_text relations m writes ∷ []
texts_after relations n m [] writes e =
    let same : n ≡ m = omega arith in
    ap (λ k. commit_text relations k writes ∷ []) same
texts_after relations n m (c ∷ commits) writes e = ap (λ ts. commit_text relations n c ∷ ts) (texts_after relations (n + 1) m commits writes (omega arith))

commits_after : (relations : List RelationSchema) (n m : ℕ) (commits : List (List Change)) (writes : List Change) → m ≡ n + length commits
    → AreCommits relations n commits → IsCommit relations m writes → AreCommits relations n (commits ++ writes ∷ [])
commits_after relations n m [] writes e all one = let same : m ≡ n = omega arith in (subst (λ k. IsCommit relations k writes) same one, tt)
commits_after relations n m (c ∷ commits) writes e all one = (all.0, commits_after relations (n + 1) m commits writes (omega arith) all.1 one)

are_short : (relations : List RelationSchema) (n : ℕ) (commits : List (List Change)) → AreCommits relations n commits → AreShort (texts relations n commits)
are_short relations n [] all = tt
are_short relations n (c ∷ commits) all = (all.0.short, are_short relations (n + 1) commits all.1)

-- a journal is a roll of the texts after the session's frame, and the other way round
pub as_roll : (s : SessionData) (commits : List (List Change)) (bytes : List ℕ) → IsJournal s commits bytes → IsRoll (framed (printed s)) (texts s.relations 1 commits) bytes
as_roll s commits bytes (rest, b, c) = (rest, record { short = are_short s.relations 1 commits b.commits; bytes = b.bytes }, c)

pub as_journal : (s : SessionData) (commits : List (List Change)) (bytes : List ℕ) → IsOpening s → AreCommits s.relations 1 commits → IsRoll (framed (printed s)) (texts s.relations 1 commits) bytes → IsJournal s commits bytes
as_journal s commits bytes opening all (rest, b, c) = (rest, record { opening = opening; commits = all; bytes = b.bytes }, c)

module _ (s : SessionData) (n : ℕ) (commits : List (List Change)) (writes : List Change) (next : n ≡ length commits + 1) where
  pub texts_more : texts s.relations 1 (commits ++ writes ∷ []) ≡ texts s.relations 1 commits ++ commit_text s.relations n writes ∷ []
  texts_more = texts_after s.relations 1 n commits writes (omega arith)

  pub front_more : front s (commits ++ writes ∷ []) ≡ front s commits ++ opened (commit_text s.relations n writes)
  front_more = ap (λ ts. framed (printed s) ++ records ts) texts_more ∙ rolls.front_more (framed (printed s)) (texts s.relations 1 commits) (commit_text s.relations n writes)

  pub begins_more : (bytes rest : List ℕ) → IsCommit s.relations n writes → BeginsWith bytes s commits (opened (commit_text s.relations n writes) ++ rest) → BeginsWith bytes s (commits ++ writes ∷ []) rest
  begins_more bytes rest one b = record {
    opening = b.opening;
    commits = commits_after s.relations 1 n commits writes (omega arith) b.commits one;
    bytes = b.bytes ∙ sym (append_assoc (front s commits) (opened (commit_text s.relations n writes)) rest) ∙ ap (λ xs. xs ++ rest) (sym front_more);
  }

  -- with one text more the roll is the journal with the commit
  pub journal_more : (bytes : List ℕ) → IsOpening s → AreCommits s.relations 1 commits → IsCommit s.relations n writes
      → IsRoll (framed (printed s)) (texts s.relations 1 commits ++ commit_text s.relations n writes ∷ []) bytes → IsJournal s (commits ++ writes ∷ []) bytes
  journal_more bytes opening all one roll =
      as_journal s (commits ++ writes ∷ []) bytes opening (commits_after s.relations 1 n commits writes (omega arith) all one) (subst (λ ts. IsRoll (framed (printed s)) ts bytes) (sym texts_more) roll)
