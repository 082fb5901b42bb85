-- What an entry says of its event, and one entry more.
use Rattle.std.proofs.Common.{◌≡◌, ap, refl, ◌∙◌, ℕ, List, [], ◌∷◌, ◌++◌, map, Bool, true, false, ◌||◌, ◌==◌, Option, Some, None}
use Rattle.std.specs.Prelude.{if◌then◌else◌}
use Rattle.def_machine.specs.Machine.{Outcome}
use Rattle.def_machine.specs.Updates.{hides}
use Rattle.def_machine.specs.Standings.{Held, Withdrawn, Lack, unless_ended, unless_paused}
use Rattle.def_machine.specs.Cascade.{Cause, Conflict, Depends, reader, readers, has_number}
use Rattle.def_machine.specs.Effects.{Entry, Admitted, Stepped, Delivered, Answered, Withdrew}
use Rattle.def_machine.specs.Histories.{causes_in}
use Rattle.def_chase.specs.Mappings.{Rule}
use Rattle.def_chase.specs.Repository.{Change}
use Rattle.def_steps.specs.Chase.{caused_chase}
use Rattle.def_history.specs.PlainEntries.{PlainEntry, plain_cause, plain_entry, entry_kept}
use Rattle.def_history.proofs.Keeping.{entry_back}
use Rattle.work_stale.specs.Shown.{reader_in, restarted_in, ends_hidden, shown_after, shown_from, trail_by}

pub has_join : (xs ys : List ℕ) (n : ℕ) → has_number (xs ++ ys) n ≡ (has_number xs n || has_number ys n)
has_join [] ys n = refl
has_join (x ∷ xs) ys n = by (x == n) (has_join xs ys n)
  where
    by : (b : Bool) → has_number (xs ++ ys) n ≡ (has_number xs n || has_number ys n) → (b || has_number (xs ++ ys) n) ≡ ((b || has_number xs n) || has_number ys n)
    by true e = refl
    by false e = e

-- one entry more
shown_more : (i : ℕ) (ws : List Change) (H : List PlainEntry) (d : PlainEntry) → shown_from i ws (H ++ d ∷ []) ≡ shown_after i (shown_from i ws H) d
shown_more i ws [] d = refl
shown_more i ws (e ∷ H) d = shown_more i (shown_after i ws e) H d

pub trail_more : (i : ℕ) (H : List PlainEntry) (d : PlainEntry) → trail_by i (H ++ d ∷ []) ≡ shown_after i (trail_by i H) d
trail_more i H d = shown_more i [] H d

-- an attempt that is not withdrawn shows nothing just where its outcome hides it
pub hidden_is : (w : Bool) (o : Option Outcome) (h : Bool) (c : ℕ) (l : Option Lack) → w ≡ false
    → ends_hidden (if w then Withdrawn else unless_ended o (if h then Held c else unless_paused l)) ≡ hides o
hidden_is w o h c l e = ap (λ b. ends_hidden (if b then Withdrawn else unless_ended o (if h then Held c else unless_paused l))) e ∙ by o h l
  where
    by : (o : Option Outcome) (h : Bool) (l : Option Lack) → ends_hidden (unless_ended o (if h then Held c else unless_paused l)) ≡ hides o
    by (Some x) h l = refl
    by None true l = refl
    by None false None = refl
    by None false (Some x) = refl

module _ (ms : List Rule) (B : ℕ) where
  reader_plain : (c : Cause (caused_chase ms B)) → reader c ≡ reader_in (plain_cause ms B c)
  reader_plain (Conflict i r j old new) = refl
  reader_plain (Depends i r on) = refl

  readers_plain : (cs : List (Cause (caused_chase ms B))) → readers cs ≡ map reader_in (map (plain_cause ms B) cs)
  readers_plain [] = refl
  readers_plain (c ∷ cs) = λ i. reader_plain c i ∷ readers_plain cs i

  pub restarted_plain : (d : Entry (caused_chase ms B)) → readers (causes_in d) ≡ restarted_in (plain_entry ms B d)
  restarted_plain (Admitted i) = refl
  restarted_plain (Stepped e) = readers_plain e.causes
  restarted_plain (Delivered i s) = refl
  restarted_plain (Answered i c s) = refl
  restarted_plain (Withdrew i cs n) = readers_plain cs

  -- entries that are kept, and back
  pub plain_kept : (H : List PlainEntry) → map (plain_entry ms B) (map (entry_kept ms B) H) ≡ H
  plain_kept [] = refl
  plain_kept (d ∷ H) = λ i. entry_back ms B d i ∷ plain_kept H i
