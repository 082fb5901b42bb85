-- Which work the words ask for, and that it is done.
use Rattle.std.proofs.Common.{◌≡◌, ◌∙◌, Bool, true, false, List, Option, Some, None, IfSome, IfNone, inl, inr, ap, sym, subst}
use Rattle.clap.specs.Words.{Text as Letters}
use Rattle.cmd_frame.specs.Devices.{Change}
use Rattle.cmd_frame.specs.declared.statuses.Status.{Status}
use Rattle.cmd_words.specs.Alike.{AskTheSame}
use Rattle.cmd_words.specs.Meaning.{Answers, AreInRange, HasRanges}
use Rattle.cmd_words.specs.declared.names.CommandName.{CommandName}
use Rattle.cmd_words.specs.declared.names.CommandName.TheVariants.{Run, Drill}
use Rattle.cmd_words.specs.declared.reading.Options.{Options}
use Rattle.cmd_words.specs.declared.reading.Request.{Request}
use Rattle.cmd_words.specs.declared.reading.Request.TheVariants.{Command, Help, Version}
use Rattle.youtopia.proofs.Asked.{NeverBoth, OneThing}
use Rattle.youtopia.specs.declared.workers.ByWorkers.{ByWorkers}
use Rattle.youtopia.specs.declared.workers.ByWorkers.TheVariants as workers
use Rattle.youtopia.specs.Calls.{AskFor, AskForNoWork, AskForWork, Calls, CallsPlainly, Does, DoesPlainly, DoesWork, HasRangesIn, IsNamedBy, Performs, PerformsPlainly, is_by_workers}

-- ---- what is asked for

asked_work : (words : List Letters) (o : Options) (work : ByWorkers) → Answers words (Command o) → AreInRange o → IsNamedBy o work → AskForWork words work
asked_work words o (workers.Run same) says ranges is =
    let asks : AskFor words Run o = record { says = says; named = is.1; ranges = ranges } in
    subst (λ (p : Options). AskFor words Run p) (sym is.0) asks
asked_work words o (workers.Drill same) says ranges is =
    let asks : AskFor words Drill o = record { says = says; named = is.1; ranges = ranges } in
    subst (λ (p : Options). AskFor words Drill p) (sym is.0) asks

asked_some : (words : List Letters) (o : Options) (found : Option ByWorkers) → Answers words (Command o) → AreInRange o → IfSome found (IsNamedBy o)
    → IfSome found (AskForWork words)
asked_some words o (Some work) says ranges is = asked_work words o work says ranges is
asked_some words o None says ranges is = tt

pub asked : (words : List Letters) (request : Request) (o : Options) (found : Option ByWorkers) → request ≡ Command o → Answers words request → HasRanges request
    → IfSome found (IsNamedBy o) → IfSome found (AskForWork words)
asked words request o found same says ranges is =
    asked_some words o found (subst (Answers words) same says) (subst HasRanges same ranges) is

-- the other options for which the words ask have the same command
other_command : (o p : Options) → AskTheSame (Command o) (Command p) → is_by_workers o.command ≡ false → is_by_workers p.command ≡ false
other_command o p same without = sym (ap is_by_workers same.command) ∙ without

asked_none : OneThing → (words : List Letters) (o : Options) (found : Option ByWorkers) → Answers words (Command o)
    → IfNone found (is_by_workers o.command ≡ false) → IfNone found (AskForNoWork words)
asked_none one words o (Some work) says without = tt
asked_none one words o None says without = λ p asks. other_command o p (one words (Command o) (Command p) says asks) without

pub not_asked : OneThing → (words : List Letters) (request : Request) (o : Options) (found : Option ByWorkers) → request ≡ Command o → Answers words request
    → IfNone found (is_by_workers o.command ≡ false) → IfNone found (AskForNoWork words)
not_asked one words request o found same says without = asked_none one words o found (subst (Answers words) same says) without

ranges_of : (words : List Letters) (work : ByWorkers) → AskForWork words work → HasRangesIn work
ranges_of words (workers.Run o) asks = asks.ranges
ranges_of words (workers.Drill o) asks = asks.ranges

pub ranged : (words : List Letters) (found : Option ByWorkers) (work : ByWorkers) → found ≡ Some work → IfSome found (AskForWork words) → HasRangesIn work
ranged words found work is asks = ranges_of words work (subst (λ (x : Option ByWorkers). IfSome x (AskForWork words)) is asks)

-- ---- what is done

-- a command that was asked for is done
asked_calls : NeverBoth → (words : List Letters) (k : CommandName) (o : Options) (status : Status) (source out err : Change) → AskFor words k o
    → Does k o status source out err → Calls words status source out err
asked_calls never words k o status source out err asks did =
    inr (inr (Command o, never words (Command o) asks.says, asks.says, subst (λ (x : CommandName). Does x o status source out err) (sym asks.named) did))

work_done : NeverBoth → (words : List Letters) (work : ByWorkers) (status : Status) (source out err : Change) → AskForWork words work
    → DoesWork work status source out err → Calls words status source out err
work_done never words (workers.Run o) status source out err asks did = asked_calls never words Run o status source out err asks did
work_done never words (workers.Drill o) status source out err asks did = asked_calls never words Drill o status source out err asks did

-- the work that was asked for is done
pub work_calls : NeverBoth → (words : List Letters) (found : Option ByWorkers) (work : ByWorkers) (status : Status) (source out err : Change) → found ≡ Some work
    → IfSome found (AskForWork words) → DoesWork work status source out err → Calls words status source out err
work_calls never words found work status source out err is asked did =
    work_done never words work status source out err (subst (λ (x : Option ByWorkers). IfSome x (AskForWork words)) is asked) did

-- ---- without workers

no_work : true ≡ false → ⊥
no_work is = cc

plainly : (k : CommandName) (o : Options) (status : Status) (source out err : Change) → is_by_workers k ≡ false → DoesPlainly k o status source out err
    → Does k o status source out err
plainly Run o status source out err without did = absurd (no_work without)
plainly Drill o status source out err without did = absurd (no_work without)
plainly _ o status source out err without did = did

performed : (words : List Letters) (request : Request) (status : Status) (source out err : Change) → AskForNoWork words → Answers words request
    → PerformsPlainly request status source out err → Performs request status source out err
performed words (Command o) status source out err none says did = plainly o.command o status source out err (none o says) did
performed words Help status source out err none says did = did
performed words Version status source out err none says did = did

-- nothing was found, so no work is asked for
pub unasked : (words : List Letters) (found : Option ByWorkers) → found ≡ None → IfNone found (AskForNoWork words) → AskForNoWork words
unasked words found is asks = subst (λ (x : Option ByWorkers). IfNone x (AskForNoWork words)) is asks

-- where no work is asked for, a call of the part without threads is one of the program
pub plain_calls : (words : List Letters) (status : Status) (source out err : Change) → AskForNoWork words → CallsPlainly words status source out err
    → Calls words status source out err
plain_calls words status source out err none (inl refused) = inl refused
plain_calls words status source out err none (inr (inl wanting)) = inr (inl wanting)
plain_calls words status source out err none (inr (inr did)) =
    inr (inr (did.0, did.1, did.2, performed words did.0 status source out err none did.2 did.3))
