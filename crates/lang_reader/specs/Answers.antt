-- The meanings of the program's faults, and the answers of reading, compared with those of the definitions.
use Rattle.std.specs.Prelude.{◌≡◌, ℕ, List, Result, Ok, Err}
use Rattle.def_language.specs.Faults.{Kind, UnknownRelation, Arity, EmptySide, TooManyAtoms, DuplicateName, PlainCycle, BadByte, OpenText, WideNumber, LongText, BadHeader, Expected, UnknownLabel, NullNotBelow, LimitReached, NoEnd, AfterEnd, Wrong}
use Rattle.def_language.specs.Lines.{IsFirstFault}
use Rattle.lang_reader.specs.declared.faults.FaultKind.{FaultKind}
use Rattle.lang_reader.specs.declared.faults.FaultKind.TheVariants as fault
use Rattle.lang_reader.specs.declared.faults.SessionFault.{SessionFault}
use Rattle.lang_reader.specs.declared.faults.LineRefusal.{LineRefusal}
use Rattle.lang_reader.specs.declared.faults.LineRefusal.TheVariants as refusal
use Rattle.lang_reader.specs.declared.faults.ReadFailure.{ReadFailure}
use Rattle.lang_reader.specs.declared.faults.ReadFailure.TheVariants as failure

-- the kind of fault that a `FaultKind` stands for
abbrev pub kind_of : FaultKind → Kind
kind_of (fault.UnknownRelation n) = UnknownRelation n.items
kind_of (fault.Arity n columns found) = Arity n.items columns found
kind_of fault.EmptySide = EmptySide
kind_of fault.TooManyAtoms = TooManyAtoms
kind_of (fault.DuplicateName n) = DuplicateName n.items
kind_of (fault.PlainCycle n) = PlainCycle n.items
kind_of (fault.BadByte place) = BadByte place
kind_of (fault.OpenText place) = OpenText place
kind_of (fault.WideNumber place) = WideNumber place
kind_of (fault.LongText place) = LongText place
kind_of fault.Header = BadHeader
kind_of (fault.Expected wanted) = Expected wanted
kind_of (fault.UnknownLabel n) = UnknownLabel n.items
kind_of (fault.NullNotBelow update place) = NullNotBelow update place
kind_of (fault.LimitReached which) = LimitReached which
kind_of fault.NoEnd = NoEnd
kind_of fault.AfterEnd = AfterEnd

-- the fault and its line
abbrev pub wrong_of : SessionFault → Wrong
wrong_of f = record { line = f.line; kind = kind_of f.kind }

-- a refusal is the fault that the definition gives; want of memory may come in place of any answer
abbrev pub Refuses : {Y : Type 0} → LineRefusal → Result Y Kind → Type 0
Refuses (refusal.Fault kind) read = read ≡ Err (kind_of kind)
Refuses refusal.Memory read = Unit {0}

-- an answer, seen by `view`, is the one that the definition gives
abbrev pub Gives : {X Y : Type 0} → (X → Y) → Result X LineRefusal → Result Y Kind → Type 0
Gives view (Ok x) read = read ≡ Ok (view x)
Gives view (Err e) read = Refuses e read

-- a failure is the fault that the definition gives, with its line; want of memory may come in place of any answer
abbrev pub Fails : {Y : Type 0} → ReadFailure → Result Y Wrong → Type 0
Fails (failure.Fault f) read = read ≡ Err (wrong_of f)
Fails failure.Memory read = Unit {0}

-- an answer to a whole text, seen by `view`, is the one that the definition gives
abbrev pub GivesWhole : {X Y : Type 0} → (X → Y) → Result X ReadFailure → Result Y Wrong → Type 0
GivesWhole view (Ok x) read = read ≡ Ok (view x)
GivesWhole view (Err e) read = Fails e read

-- the failure is the first fault of the bytes, or want of memory
abbrev pub IsTold : List ℕ → ReadFailure → Type 0
IsTold bytes (failure.Fault f) = IsFirstFault bytes (wrong_of f)
IsTold bytes failure.Memory = Unit {0}
