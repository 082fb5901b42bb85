-- Facts about an offer, and the number of tickets that an answer gives or spends.
use Rattle.std.specs.Prelude.{ℕ, Result, Ok, Err}
use Rattle.work_loop.specs.declared.bench.Offer.{Offer}
use Rattle.work_loop.specs.declared.bench.Offer.TheVariants.{Ticket, Moved, Idle, Quiet}

-- a fact about the ticket, if the offer is a ticket
abbrev pub IfTicket : {T : Type 0} → (T → Type 0) → Offer T → Type 0
IfTicket P (Ticket t) = P t
IfTicket P (Moved s) = Unit {0}
IfTicket P Idle = Unit {0}
IfTicket P Quiet = Unit {0}

-- a fact, if the offer is Quiet
abbrev pub IfQuiet : {T : Type 0} → Type 0 → Offer T → Type 0
IfQuiet P Quiet = P
IfQuiet P (Ticket t) = Unit {0}
IfQuiet P (Moved s) = Unit {0}
IfQuiet P Idle = Unit {0}

-- the number of tickets that an offer gives: one or none
abbrev pub tickets_in : {T E : Type 0} → Result (Offer T) E → ℕ
tickets_in (Ok (Ticket t)) = 1
tickets_in (Ok (Moved s)) = 0
tickets_in (Ok Idle) = 0
tickets_in (Ok Quiet) = 0
tickets_in (Err e) = 0

-- the number of tickets that a call spends, if it hands its ticket back when it fails
abbrev pub tickets_spent : {T E : Type 0} → Result T E → ℕ
tickets_spent (Ok x) = 1
tickets_spent (Err e) = 0
