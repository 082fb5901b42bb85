-- Where nothing fails, the row of a status that a call has is that of the status which is due.
use Rattle.std.proofs.Common.{◌≡◌, ◌≤◌, ◌<◌, ◌++◌, ◌∙◌, ◌⊎◌, ℕ, List, Option, None, Some, length, inl, inr, refl, sym, ap, subst, append-nil, arith}
use Rattle.std.proofs.lemmas.List.{length-append}
use Rattle.std.specs.Io.KnownBytes.{Consumes, IsAtEnd}
use Rattle.cmd_frame.specs.Completeness.{IsComplete}
use Rattle.cmd_frame.specs.Devices.{Change, Fails, Gives}
use Rattle.cmd_frame.specs.Outputs.{Meaning, OutputView, Text, Refused}
use Rattle.cmd_frame.specs.Rows.{Row, Ends, Refuses}
use Rattle.cmd_frame.specs.Statuses.{status_of, status_of_ending, status_of_refusal}
use Rattle.cmd_frame.specs.declared.performing.TheConstants.{INPUT_LIMIT}
use Rattle.cmd_frame.specs.declared.outputs.Ending.{Ending}
use Rattle.cmd_frame.specs.declared.outputs.Refusal.{Refusal}
use Rattle.cmd_frame.specs.declared.statuses.Status.{Status}
use Rattle.cmd_frame.specs.declared.statuses.Status.TheVariants.{Ended, Stuck, Usage, SessionRefused, BaseViolates, ReadFault, WriteFault, OutOfMemory, TooLong, TooLarge, Refuted, QueryRefused, Damaged}

-- the source gave the whole input
pub whole : (input given : List ℕ) (after : Option (List ℕ)) → Consumes (Some input) after given → IsAtEnd after → given ≡ input
whole input given None gave end = absurd gave
whole input given (Some rest) gave end = sym (gave ∙ ap (λ l. given ++ l) end ∙ append-nil given)

-- it gave no more than the input
part : (input given : List ℕ) (after : Option (List ℕ)) → Consumes (Some input) after given → length given ≤ length input
part input given None gave = absurd gave
part input given (Some rest) gave = let sum = ap length gave ∙ length-append given rest in omega (arith, sum)

too_long : (source : Change) (input : List ℕ) → source.bytes ≡ Some input → length input ≤ INPUT_LIMIT → Gives source (λ count. INPUT_LIMIT < count) → ⊥
too_long source input told short gives =
    let most = part input gives.0 source.bytes_after (subst (λ b. Consumes b source.bytes_after gives.0) told gives.1) in
    absurd (omega (arith, most, short, gives.2))

-- Where each output that may be made of the input has such a status, and nothing fails, so has the call, or memory was wanting.
abbrev pub EndsAs : (Status → Type 0) → Status → Meaning → Change → Change → Type 0
EndsAs P status gives source out =
    (input : List ℕ) → source.bytes ≡ Some input → length input ≤ INPUT_LIMIT → ((output : OutputView) → gives input output → P (status_of output))
    → (Fails source → ⊥) → (Fails out → ⊥) → P status ⊎ (status ≡ OutOfMemory)

module _ (P : Status → Type 0) where
  made : (gives : Meaning) (source : Change) (input given : List ℕ) (output : OutputView) → source.bytes ≡ Some input → Consumes source.bytes source.bytes_after given
      → IsAtEnd source.bytes_after → gives given output → ((o : OutputView) → gives input o → P (status_of o)) → P (status_of output)
  made gives source input given output told gave end it each =
      let all = whole input given source.bytes_after (subst (λ b. Consumes b source.bytes_after given) told gave) end in
      each output (subst (λ l. gives l output) all it)

  ended : (e : Ending) (gives : Meaning) (source out err : Change) → Ends e gives source out err → EndsAs P (status_of_ending e) gives source out
  ended e gives source out err row = let all = row.0 in
      λ input told short each reads writes. inl (made gives source input all.0 (Text e all.4.0) told all.1 all.2 all.4.1 each)

  refused : (r : Refusal) (gives : Meaning) (source out err : Change) → Refuses r gives source out err → EndsAs P (status_of_refusal r) gives source out
  refused r gives source out err row = let all = row.0 in
      λ input told short each reads writes. inl (made gives source input all.0 (Refused r all.4.0) told all.1 all.2 all.4.1 each)

  pub ends_as : (status : Status) (gives : Meaning) (source out err : Change) → Row status gives source out err → EndsAs P status gives source out
  ends_as Ended gives source out err row = ended _ gives source out err row
  ends_as Stuck gives source out err row = ended _ gives source out err row
  ends_as Refuted gives source out err row = ended _ gives source out err row
  ends_as SessionRefused gives source out err row = refused _ gives source out err row
  ends_as BaseViolates gives source out err row = refused _ gives source out err row
  ends_as TooLarge gives source out err row = refused _ gives source out err row
  ends_as QueryRefused gives source out err row = refused _ gives source out err row
  ends_as Damaged gives source out err row = refused _ gives source out err row
  ends_as Usage gives source out err row = absurd row
  ends_as ReadFault gives source out err row = λ input told short each reads writes. absurd (reads row.0.1)
  ends_as WriteFault gives source out err row = λ input told short each reads writes. absurd (writes row.1)
  ends_as OutOfMemory gives source out err row = λ input told short each reads writes. inr refl
  ends_as TooLong gives source out err row = λ input told short each reads writes. absurd (too_long source input told short row.0)

-- Where they have one status, the call has that.
pub complete : (status : Status) (gives : Meaning) (source out err : Change) → Row status gives source out err → IsComplete status gives source out
complete status gives source out err row = λ input due told short one reads writes.
    ends_as (λ s. s ≡ due) status gives source out err row input told short one reads writes
