-- The gate of a log that was read, or made.
use Rattle.std.specs.Prelude.{Result, Ok, Err, IfOk}
use Rattle.std.proofs.Common.{◌≡◌, ℕ, subst, refl, List, [], ◌∷◌}
use Rattle.base_roll.specs.Format.{front}
use Rattle.base_roll.proofs.Gates.{no_closed}
use Rattle.ws_seal.specs.declared.types.Texts.{Texts}
use Rattle.ws_seal.specs.declared.types.ReadFault.{ReadFault}
use Rattle.ws_seal.specs.Seals.{mark, payloads}
use Rattle.ws_seal.specs.Logs.{opening, HasGateAt, IsLogRead, IsLogText, IsRead}
use Rattle.ws_seal.specs.Answers.{texts_of, LogTold, TailTold}

of_read : (before m bytes : List ℕ) (texts : List (List ℕ)) (gate : ℕ) (last : List ℕ) → IsRead before m bytes texts gate last → HasGateAt gate bytes
of_read before m bytes texts gate last r = record { before = front before (payloads m texts); rest = r.rest; stands = r.begins.bytes; place = r.gate_is; closed = r.closed }

of_log : (bytes : List ℕ) (texts : List (List ℕ)) (gate : ℕ) (last : List ℕ) → IsLogRead bytes texts gate last → HasGateAt gate bytes
of_log bytes [] gate last r = absurd r
of_log bytes (head ∷ texts) gate last r = of_read (opening head) (mark [] head) bytes texts gate last r.1

pub gate_of_log : (bytes now : List ℕ) → bytes ≡ now → (r : Result Texts ReadFault) → LogTold bytes r → IfOk r (λ found. HasGateAt found.gate now)
gate_of_log bytes now e (Ok r) h = subst (HasGateAt r.gate) e (of_log bytes (texts_of r) r.gate r.mark.digits h)
gate_of_log bytes now e (Err f) h = tt

pub gate_of_tail : (m bytes now : List ℕ) → bytes ≡ now → (r : Result Texts ReadFault) → TailTold m bytes r → IfOk r (λ found. HasGateAt found.gate now)
gate_of_tail m bytes now e (Ok r) h = subst (HasGateAt r.gate) e (of_read [] m bytes (texts_of r) r.gate r.mark.digits h)
gate_of_tail m bytes now e (Err f) h = tt

pub gate_of_text : (head : List ℕ) (texts : List (List ℕ)) (bytes : List ℕ) (gate : ℕ) (last : List ℕ) → IsLogText head texts bytes gate last → HasGateAt gate bytes
gate_of_text head texts bytes gate last t = record { before = front (opening head) (payloads (mark [] head) texts); rest = 0 ∷ []; stands = t.bytes_are; place = t.gate_is; closed = (0, [], refl, no_closed) }
