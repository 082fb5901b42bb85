-- What has been read of a journal's bytes, record by record.
use Rattle.std.proofs.Common.{◌≡◌, ℕ, ◌+◌, ◌-◌, ◌<◌, ◌≤◌, ◌^◌, inr, ap, refl, ◌∙◌, sym, subst, List, [], ◌∷◌, ◌++◌, length, arith, length-append}
use Rattle.def_chase.specs.Values.{Fact}
use Rattle.def_chase.specs.Repository.{Change, apply}
use Rattle.def_language.specs.Sessions.{SessionData}
use Rattle.base_roll.specs.Format.{opened}
use Rattle.run_journal.specs.Format.{commit_text, front}
use Rattle.run_journal.specs.Journals.{BeginsWith, gate_of, after_commits, repository_of}
use Rattle.run_journal.specs.Damage.{IsBroken, BreaksAt, HasNoCommit}
use Rattle.run_journal.specs.Taken.{TakesCommit}
use Rattle.run_journal.proofs.Texts.{begins_more}

-- so many commits were read, the rest is left, and the facts are the base with the commits
pub record HasRead (bytes : List ℕ) (s : SessionData) (n : ℕ) (rest : List ℕ) (D : List Fact) : Type 0 where
  pub commits : List (List Change)
  pub begins : BeginsWith bytes s commits rest
  pub count : n ≡ length commits
  pub facts : D ≡ repository_of s commits

after_more : (D : List Fact) (commits : List (List Change)) (writes : List Change) → after_commits D (commits ++ writes ∷ []) ≡ apply (after_commits D commits) writes
after_more D [] writes = refl
after_more D (c ∷ commits) writes = after_more (apply D c) commits writes

pub read_more : (bytes : List ℕ) (s : SessionData) (count n : ℕ) (rest tail more : List ℕ) (old new : List Fact) → HasRead bytes s count rest old → rest ≡ 1 ∷ tail → n ≡ count + 1 → TakesCommit s.relations n tail more old new
    → HasRead bytes s n more new
read_more bytes s count n rest tail more old new h e next t =
    let number : n ≡ length h.commits + 1 = next ∙ ap (λ k. k + 1) h.count in
    let there : rest ≡ opened (commit_text s.relations n t.writes) ++ more = e ∙ ap (λ xs. 1 ∷ xs) t.bytes in
    record {
      commits = h.commits ++ t.writes ∷ [];
      begins = begins_more s n h.commits t.writes number bytes more t.commit
          (record { opening = h.begins.opening; commits = h.begins.commits; bytes = h.begins.bytes ∙ ap (λ xs. front s h.commits ++ xs) there });
      count = omega (arith, number, length-append h.commits (t.writes ∷ []));
      facts = t.made ∙ ap (λ D. apply D t.writes) h.facts ∙ sym (after_more s.base h.commits t.writes);
    }

-- the gate is where the rest begins
pub gate_there : (bytes : List ℕ) (s : SessionData) (count : ℕ) (rest : List ℕ) (facts : List Fact) (h : HasRead bytes s count rest facts) → length bytes - length rest ≡ gate_of s h.commits
gate_there bytes s count rest facts h = omega (arith, ap length h.begins.bytes, length-append (front s h.commits) rest)

pub breaks : (bytes : List ℕ) (s : SessionData) (count place : ℕ) (rest : List ℕ) (facts : List Fact) (h : HasRead bytes s count rest facts) → place ≡ length bytes - length rest → IsBroken s.relations (length h.commits + 1) rest → BreaksAt bytes place
breaks bytes s count place rest facts h e broken = record {
  session = s;
  commits = h.commits;
  rest = rest;
  begins = h.begins;
  place = e ∙ gate_there bytes s count rest facts h;
  broken = broken;
}

-- after an open gate there is no commit
pub no_commit_breaks : (bytes : List ℕ) (s : SessionData) (count n place : ℕ) (rest tail : List ℕ) (facts : List Fact) → HasRead bytes s count rest facts → place ≡ length bytes - length rest → rest ≡ 1 ∷ tail → n ≡ count + 1
    → HasNoCommit s.relations n tail → BreaksAt bytes place
no_commit_breaks bytes s count n place rest tail facts h e is next none =
    breaks bytes s count place rest facts h e (inr (tail, is, subst (λ k. HasNoCommit s.relations k tail) (next ∙ ap (λ k. k + 1) h.count) none))

-- the number of the next commit would not fit
pub too_many_breaks : (bytes : List ℕ) (s : SessionData) (count place : ℕ) (rest tail : List ℕ) (facts : List Fact) → HasRead bytes s count rest facts → place ≡ length bytes - length rest → rest ≡ 1 ∷ tail → 2 ^ 32 ≤ count + 1
    → BreaksAt bytes place
too_many_breaks bytes s count place rest tail facts h e is large =
    no_commit_breaks bytes s count (count + 1) place rest tail facts h e is refl (λ writes more one f. let small : count + 1 < 2 ^ 32 = one.number in omega arith)
