-- What is recovered of a journal is what its one reading stands for.
use Rattle.std.proofs.Common.{◌≡◌, ℕ, ap, ◌∙◌, subst, List}
use Rattle.def_chase.specs.Repository.{Change}
use Rattle.def_chase.specs.Values.{Fact}
use Rattle.base_types.specs.Contents.{facts_of}
use Rattle.def_language.specs.Sessions.{SessionData}
use Rattle.lang_session.specs.Meanings.{session_of}
use Rattle.run_journal.specs.Answers.{IsRecovered}
use Rattle.run_journal.specs.Journals.{IsJournal, repository_of}
use Rattle.run_journal.specs.declared.journals.Recovered.{Recovered}

abbrev OneSession : Type 0
OneSession = (s t : SessionData) (commits others : List (List Change)) (bytes : List ℕ) → IsJournal s commits bytes → IsJournal t others bytes → s ≡ t

abbrev SameCommits : Type 0
SameCommits = (s : SessionData) (commits others : List (List Change)) (bytes : List ℕ) → IsJournal s commits bytes → IsJournal s others bytes → commits ≡ others

pub recovered_is : OneSession → SameCommits → {s : SessionData} {commits : List (List Change)} {D : List Fact} (bytes : List ℕ) (r : Recovered)
    → IsJournal s commits bytes → IsRecovered bytes r → repository_of s commits ≡ D → facts_of r.repository ≡ D
recovered_is one same {s} {commits} bytes r journal recovered stands =
    let t = session_of r.session in
    let begins : t ≡ s = one t s recovered.commits commits bytes recovered.journal journal in
    let here : IsJournal s recovered.commits bytes = subst (λ u. IsJournal u recovered.commits bytes) begins recovered.journal in
    recovered.repository
    ∙ ap (λ u. repository_of u recovered.commits) begins
    ∙ ap (repository_of s) (same s recovered.commits commits bytes here journal)
    ∙ stands
