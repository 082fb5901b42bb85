-- What the calls of the roll make of a journal.
use Rattle.std.specs.Prelude.{Result, Ok, Err, OnOk, IfOk}
use Rattle.std.proofs.Common.{◌≡◌, ℕ, ◌+◌, ◌<◌, ◌≤◌, ◌^◌, inl, inr, ap, refl, ◌∙◌, sym, subst, List, [], ◌∷◌, ◌++◌, length, arith, append-nil, length-append}
use Rattle.base_devices.specs.States.{State, IsSettled}
use Rattle.base_roll.specs.Answers as rolls
use Rattle.base_roll.specs.Format.{framed, roll_text}
use Rattle.base_roll.specs.Histories.{IsBeforeOrAfter, IsAppending}
use Rattle.base_roll.specs.Rolls.{IsRoll, Hold as RollHold, IsAt as IsRollAt, IsInHand as IsRollInHand, gate_of as roll_gate}
use Rattle.base_roll.specs.declared.rolls.AppendFault.{AppendFault as RollFault}
use Rattle.base_roll.specs.declared.rolls.AppendFault.TheVariants as rolling
use Rattle.base_roll.proofs.Frames.{length_framed}
use Rattle.base_roll.proofs.Fronts.{gate_within}
use Rattle.base_roll.proofs.Gates.{no_closed}
use Rattle.base_roll.proofs.Leaving.{weaker}
use Rattle.def_chase.specs.Repository.{Change}
use Rattle.def_language.specs.Printing.{printed}
use Rattle.def_language.specs.Sessions.{SessionData}
use Rattle.run_journal.specs.Answers.{AppendTold, answer_of}
use Rattle.run_journal.specs.Format.{commit_text, journal_text, texts, IsOpening, IsCommit}
use Rattle.run_journal.specs.Journals.{IsJournal, Hold, IsAt, IsInHand}
use Rattle.run_journal.proofs.Texts.{as_roll, as_journal, journal_more, texts_more}

-- ---- a journal is held as a roll

abbrev pub roll_of : Hold → RollHold
roll_of hold = record { gate = hold.gate }

pub rolled : (disk : State) (s : SessionData) (commits : List (List Change)) (hold : Hold) → IsAt disk s commits hold → IsRollAt (framed (printed s)) (texts s.relations 1 commits) disk (roll_of hold)
rolled disk s commits hold at = record { roll = as_roll s commits disk.bytes at.journal; settled = at.settled; gate = at.gate }

pub in_hand : (disk : State) (s : SessionData) (hold : Hold) → IsInHand disk s hold → IsRollInHand disk (roll_of hold)
in_hand disk s hold (commits, at) = (framed (printed s), texts s.relations 1 commits, rolled disk s commits hold at)

pub within : (disk : State) (s : SessionData) (hold : Hold) → IsInHand disk s hold → hold.gate < length disk.bytes
within disk s hold (commits, at) =
    let less = gate_within (framed (printed s)) (texts s.relations 1 commits) disk.bytes (as_roll s commits disk.bytes at.journal) in
    omega (arith, at.gate, less)

-- ---- a commit is appended

module _ (s : SessionData) (n : ℕ) (writes : List Change) (one : IsCommit s.relations n writes) (text : List ℕ) (is : text ≡ commit_text s.relations n writes) (old new : State) (hold : Hold) (next : n ≡ hold.commits + 1) (commits : List (List Change)) (at : IsAt old s commits hold) where
  count : n ≡ length commits + 1
  count = next ∙ ap (λ k. k + 1) at.count

  more : (bytes : List ℕ) → IsRoll (framed (printed s)) (texts s.relations 1 commits ++ text ∷ []) bytes → IsJournal s (commits ++ writes ∷ []) bytes
  more bytes roll = journal_more s n commits writes count bytes at.journal.1.opening at.journal.1.commits one (subst (λ t. IsRoll (framed (printed s)) (texts s.relations 1 commits ++ t ∷ []) bytes) is roll)

  same_texts : texts s.relations 1 commits ++ text ∷ [] ≡ texts s.relations 1 (commits ++ writes ∷ [])
  same_texts = ap (λ t. texts s.relations 1 commits ++ t ∷ []) is ∙ sym (texts_more s n commits writes count)

  pub appending : IsAppending (IsRoll (framed (printed s))) (texts s.relations 1 commits) text old new → IsAppending (IsJournal s) commits writes old new
  appending a = record {
    goes = a.goes;
    images = weaker (IsBeforeOrAfter (IsRoll (framed (printed s))) (texts s.relations 1 commits) text) (IsBeforeOrAfter (IsJournal s) commits writes) old new either a.images;
  }
    where
      either : (bytes : List ℕ) → IsBeforeOrAfter (IsRoll (framed (printed s))) (texts s.relations 1 commits) text bytes → IsBeforeOrAfter (IsJournal s) commits writes bytes
      either bytes (inl roll) = inl (as_journal s commits bytes at.journal.1.opening at.journal.1.commits roll)
      either bytes (inr roll) = inr (more bytes roll)

  pub appended : (logged : Result RollHold RollFault) → IfOk logged (λ roll. IsRollAt (framed (printed s)) (texts s.relations 1 commits ++ text ∷ []) new roll)
      → IfOk (answer_of hold n logged) (λ j. IsAt new s (commits ++ writes ∷ []) j)
  appended (Ok roll) h = record {
    journal = more new.bytes h.roll;
    settled = h.settled;
    gate = h.gate ∙ ap (roll_gate (framed (printed s))) same_texts;
    count = count ∙ sym (length-append commits (writes ∷ []));
  }
  appended (Err (rolling.TooLarge roll bytes)) h = tt
  appended (Err rolling.DiskFault) h = tt
  appended (Err rolling.DiskMemory) h = tt
  appended (Err (rolling.Memory roll)) h = tt

  pub appended_text : (logged : Result RollHold RollFault) → OnOk logged (new.bytes ≡ roll_text (framed (printed s)) (texts s.relations 1 commits ++ text ∷ []))
      → OnOk (answer_of hold n logged) (new.bytes ≡ journal_text s (commits ++ writes ∷ []))
  appended_text (Ok roll) h = h ∙ ap (roll_text (framed (printed s))) same_texts
  appended_text (Err (rolling.TooLarge roll bytes)) h = tt
  appended_text (Err rolling.DiskFault) h = tt
  appended_text (Err rolling.DiskMemory) h = tt
  appended_text (Err (rolling.Memory roll)) h = tt

-- what is told of the roll is told of the journal: its text is not too large for the roll
pub told : {D : Type 0} (hold : Hold) (roll : RollHold) (n size count bound : ℕ) (old new : D) (before now : State) → roll ≡ roll_of hold → count ≡ size → size ≤ 16777216 → hold.gate < bound → bound < 2 ^ 63
    → (logged : Result RollHold RollFault) → rolls.AppendTold roll count old new before now logged → AppendTold hold size old new before now (answer_of hold n logged)
told hold roll n size count bound old new before now e f fits less small (Ok next) t = fits
told hold roll n size count bound old new before now e f fits less small (Err (rolling.TooLarge same bytes)) (is, told_, inl large, kept) = let over : 4294967295 < count = large in absurd (omega arith)
told hold roll n size count bound old new before now e f fits less small (Err (rolling.TooLarge same bytes)) (is, told_, inr large, kept) =
    let there : roll.gate ≡ hold.gate = ap (λ (h : RollHold). h.gate) e in
    let over : 2 ^ 64 ≤ roll.gate + count + 6 = large in
    absurd (omega arith)
told hold roll n size count bound old new before now e f fits less small (Err rolling.DiskFault) t = (fits, t.1, t.2)
told hold roll n size count bound old new before now e f fits less small (Err rolling.DiskMemory) t = (fits, t.1)
told hold roll n size count bound old new before now e f fits less small (Err (rolling.Memory same)) t = (refl, t.1)

-- ---- a journal is made

pub created_text : (s : SessionData) (text : List ℕ) → text ≡ framed (printed s) ++ (0 ∷ []) → text ≡ journal_text s []
created_text s text e = e ∙ ap (λ xs. xs ++ (0 ∷ [])) (sym (append-nil (framed (printed s))))

pub created : (new : State) (s : SessionData) (gate : ℕ) (text : List ℕ) → IsOpening s → text ≡ framed (printed s) ++ (0 ∷ []) → IsSettled new → new.bytes ≡ text
    → gate ≡ length (printed s) + 4 → IsAt new s [] record { gate = gate; commits = 0 }
created new s gate text opening e settled made place = record {
  journal = (0 ∷ [], record { opening = opening; commits = tt; bytes = made ∙ created_text s text e }, (0, [], refl, no_closed));
  settled = settled;
  gate = omega (arith, place, length_framed (printed s), length-append (framed (printed s)) []);
  count = refl;
}
