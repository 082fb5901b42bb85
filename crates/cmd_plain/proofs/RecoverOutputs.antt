-- What the command `recover` tells of what was recovered.
use Rattle.std.proofs.Common.{◌≡◌, ◌∙◌, ◌⊎◌, ap, refl, sym, inl, inr, ℕ, List, length}
use Rattle.base_types.specs.Contents.{facts_of}
use Rattle.cmd_frame.specs.Outputs.{OutputView, Refused, Text}
use Rattle.cmd_frame.specs.Statuses.{status_of}
use Rattle.cmd_frame.specs.declared.outputs.Ending.TheVariants.{Ended}
use Rattle.cmd_frame.specs.declared.outputs.Refusal.TheVariants.{Damaged}
use Rattle.run_journal.specs.Answers.{IsRecovered}
use Rattle.def_language.specs.Sessions.{SessionData}
use Rattle.run_journal.specs.Damage.{IsDamaged, IsDamagedAt}
use Rattle.run_journal.specs.Journals.{IsJournal, IsWhole, repository_of}
use Rattle.def_chase.specs.Repository.{Change}
use Rattle.run_journal.specs.declared.journals.Recovered.{Recovered}
use Rattle.lang_session.specs.Meanings.{session_of}
use Rattle.cmd_plain.specs.Journaled.{damaged_line, recovered_text, recovering}

pub whole_told : (input : List ℕ) (r : Recovered) (text : List ℕ) → IsRecovered input r → text ≡ recovered_text r.commits r.session.schema (facts_of r.repository) → recovering input (Text Ended text)
whole_told input r text h e =
    inl (session_of r.session, h.commits, h.journal, ap (Text Ended) (e ∙ (λ i. recovered_text (h.count i) r.session.schema (h.repository i))))

-- what is told of an input, which is a journal or damaged
pub some_output : (input : List ℕ) → IsWhole input ⊎ IsDamaged input → (output : OutputView) × recovering input output
some_output input (inl (s, commits, journal)) = (Text Ended (recovered_text (length commits) s.relations (repository_of s commits)), inl (s, commits, journal, refl))
some_output input (inr (place, damage)) = (Refused Damaged (damaged_line place), inr (place, damage, refl))

-- no input is both, so its output has one status
pub one_status : ((s : SessionData) (commits : List (List Change)) (bytes : List ℕ) (place : ℕ) → IsDamagedAt bytes place → IsJournal s commits bytes → ⊥)
    → (input : List ℕ) (output other : OutputView) → recovering input output → recovering input other → status_of output ≡ status_of other
one_status apart input output other (inl (s, commits, journal, e)) (inl (t, more, too, f)) = ap status_of e ∙ sym (ap status_of f)
one_status apart input output other (inl (s, commits, journal, e)) (inr (place, damage, f)) = absurd (apart s commits input place damage journal)
one_status apart input output other (inr (place, damage, e)) (inl (s, commits, journal, f)) = absurd (apart s commits input place damage journal)
one_status apart input output other (inr (place, damage, e)) (inr (at, too, f)) = ap status_of e ∙ sym (ap status_of f)
