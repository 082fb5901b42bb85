-- Runs that halt, and whether the program halts for the definition's reason.
use Rattle.std.specs.Prelude.{◌≡◌, List, Option, Some, None}
use Rattle.base_types.specs.Contents.{facts_of}
use Rattle.base_types.specs.Meanings.{null_of}
use Rattle.def_steps.specs.Attempts.{Question}
use Rattle.def_workspace.specs.Ops.{Going, Halted}
use Rattle.def_workspace.specs.Runs as runs
use Rattle.def_workspace.specs.Runs.{Thread, Rested, Reason, Asks, NotThere, TooLong, Violated, Gone}
use Rattle.ws_lines.specs.Meanings.{asked_of}
use Rattle.ws_names.specs.Meanings.{places_of}
use Rattle.ws_run.specs.declared.halts.Halt.{Halt}
use Rattle.ws_run.specs.declared.halts.Halt.TheVariants.{Memory, Left}
use Rattle.ws_run.specs.declared.halts.Reason.{Reason as ReasonOfProgram}
use Rattle.ws_run.specs.declared.halts.Reason.TheVariants.{Asks as AsksQuestion, NotThere as NullNotThere, TooLong as StepsTooFew, Violated as MappingViolated, Gone as MappingGone}
use Rattle.ws_run.specs.declared.threads.Thread.{Thread as ThreadOfProgram}

-- The program's reason is the definition's. A question is told by its source, its tuples and its candidates.
abbrev pub IsReason : ReasonOfProgram → Reason → Type 0
IsReason (AsksQuestion told) R = (q : Question) × (R ≡ Asks q (asked_of told.asked) (facts_of told.candidates))
IsReason (NullNotThere n) R = R ≡ NotThere (null_of n)
IsReason (StepsTooFew made) R = R ≡ TooLong
IsReason (MappingViolated m) R = R ≡ Violated m
IsReason (MappingGone m) R = R ≡ Gone m

-- It halts for this reason, with the table and the number of answers that the program has then.
pub record HasHalted (halts : Reason → Thread → Type 0) (r : ReasonOfProgram) (t : ThreadOfProgram) : Type 0 where
  pub reason : Reason
  pub thread : Thread
  pub halted : halts reason thread
  pub is_reason : IsReason r reason
  pub places : thread.places ≡ places_of t.places
  pub taken : thread.taken ≡ t.taken

abbrev pub HaltsFor : (Reason → Thread → Type 0) → ThreadOfProgram → Halt → Type 0
HaltsFor halts t Memory = Unit {0}
HaltsFor halts t (Left r) = HasHalted halts r t

-- The program wants memory, or the op halts for its reason.
abbrev pub OpHalts : Rested → ThreadOfProgram → Halt → Type 0
OpHalts x = HaltsFor (λ R u. x ≡ runs.Halts R u)

-- The program wants memory, or the run halts for its reason.
abbrev pub RunHalts : Going → ThreadOfProgram → Halt → Type 0
RunHalts g = HaltsFor (λ R u. g ≡ Halted R u)

-- The op goes on as before, or it halts for the reason, if there is one.
abbrev pub GoesOnUnless : Rested → Rested → ThreadOfProgram → Option ReasonOfProgram → Type 0
GoesOnUnless x y t None = x ≡ y
GoesOnUnless x y t (Some r) = HasHalted (λ R u. x ≡ runs.Halts R u) r t
