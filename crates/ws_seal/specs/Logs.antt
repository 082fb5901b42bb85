-- The bytes of a log: the payload of the first text, which is the head, in a frame, and after it a roll of the other payloads.
use Rattle.std.specs.Prelude.{◌≡◌, ℕ, ◌<◌, ◌^◌, ◌⊎◌, suc, List, [], ◌∷◌, ◌++◌, length}
use Rattle.base_devices.specs.States.{State}
use Rattle.base_roll.specs.Format.{AreShort, framed, opened, roll_text}
use Rattle.base_roll.specs.Rolls.{BeginsWith, IsClosed, IsRoll, IsAt, IsBroken, HasNoRecord, Hold, gate_of}
use Rattle.ws_seal.specs.Seals.{mark, sealed, payloads, last_mark, HasNoSeal}

-- after `before` the bytes have a roll of these texts, sealed after the mark
abbrev pub HasTexts : List ℕ → List ℕ → List (List ℕ) → List ℕ → Type 0
HasTexts before m texts bytes = IsRoll before (payloads m texts) bytes

-- the bytes before the first gate of a log with this head
abbrev pub opening : List ℕ → List ℕ
opening head = framed (sealed [] head)

-- the bytes are a log of these texts, the first of which is the head
abbrev pub IsLog : List (List ℕ) → List ℕ → Type 0
IsLog [] bytes = ⊥
IsLog (head ∷ texts) bytes = (length (sealed [] head) < 2 ^ 32) × HasTexts (opening head) (mark [] head) texts bytes

-- a log of the head and these texts, with no byte after its gate, and the mark of the last text
pub record IsLogText (head : List ℕ) (texts : List (List ℕ)) (bytes : List ℕ) (gate : ℕ) (last : List ℕ) : Type 0 where
  pub head_short : length (sealed [] head) < 2 ^ 32
  pub short : AreShort (payloads (mark [] head) texts)
  pub bytes_are : bytes ≡ roll_text (opening head) (payloads (mark [] head) texts)
  pub gate_is : gate ≡ gate_of (opening head) (payloads (mark [] head) texts)
  pub mark_is : last ≡ last_mark (mark [] head) texts

-- a closed gate stands at the place
pub record HasGateAt (gate : ℕ) (bytes : List ℕ) : Type 0 where
  pub before : List ℕ
  pub rest : List ℕ
  pub stands : bytes ≡ before ++ rest
  pub place : gate ≡ length before
  pub closed : IsClosed rest

-- The gate and the mark belong to the log on the disk: it has these texts, nothing is pending, and `last` is the mark of the
-- last text.
pub record IsHeld (before m : List ℕ) (texts : List (List ℕ)) (disk : State) (gate : ℕ) (last : List ℕ) : Type 0 where
  pub at : IsAt before (payloads m texts) disk record { gate = gate }
  pub mark_is : last ≡ last_mark m texts

-- ---- damage

-- the bytes begin with the whole payload of a text, sealed after the mark
pub record BeginsSealed (m bytes : List ℕ) : Type 0 where
  pub text : List ℕ
  pub more : List ℕ
  pub short : length (sealed m text) < 2 ^ 32
  pub stands : bytes ≡ framed (sealed m text) ++ more

-- After a closed gate stand two whole records, each with the right mark, and an open gate between them. No append leaves that: it
-- writes one record, and a crash may leave any byte only at that record's own gate.
pub record IsHiddenAfter (m after : List ℕ) : Type 0 where
  pub text : List ℕ
  pub more : List ℕ
  pub short : length (sealed m text) < 2 ^ 32
  pub stands : after ≡ framed (sealed m text) ++ (1 ∷ more)
  pub next : BeginsSealed (mark m text) more

-- the rest begins with a closed gate that hides records
abbrev pub IsHidden : List ℕ → List ℕ → Type 0
IsHidden m rest = (gate : ℕ) × (after : List ℕ) × (rest ≡ gate ∷ after) × (gate ≡ 1 → ⊥) × IsHiddenAfter m after

-- The result of reading: these texts, no records hidden after their gate, its place, and the mark of the last text.
pub record IsRead (before m bytes : List ℕ) (texts : List (List ℕ)) (gate : ℕ) (last : List ℕ) : Type 0 where
  pub rest : List ℕ
  pub begins : BeginsWith before (payloads m texts) bytes rest
  pub closed : IsClosed rest
  pub not_hidden : IsHidden (last_mark m texts) rest → ⊥
  pub gate_is : gate ≡ gate_of before (payloads m texts)
  pub mark_is : last ≡ last_mark m texts

-- After some texts the gate at the place is missing, or it is open and no record stands after it, or it hides records.
pub record BreaksAt (before m bytes : List ℕ) (place : ℕ) : Type 0 where
  pub texts : List (List ℕ)
  pub rest : List ℕ
  pub begins : BeginsWith before (payloads m texts) bytes rest
  pub place_is : place ≡ gate_of before (payloads m texts)
  pub broken : IsBroken rest ⊎ IsHidden (last_mark m texts) rest

-- After this number of texts stands a record that is not as it was written: it does not have the right mark.
pub record IsForgedAt (before m bytes : List ℕ) (number : ℕ) : Type 0 where
  pub texts : List (List ℕ)
  pub payload : List ℕ
  pub rest : List ℕ
  pub begins : BeginsWith before (payloads m texts) bytes (opened payload ++ rest)
  pub short : length payload < 2 ^ 32
  pub number_is : number ≡ length texts
  pub unsealed : HasNoSeal (last_mark m texts) payload

-- there is no whole head, or the roll after it breaks at the place
abbrev pub LogBreaksAt : List ℕ → ℕ → Type 0
LogBreaksAt bytes place = ((place ≡ 0) × HasNoRecord bytes) ⊎ ((head : List ℕ) × BreaksAt (opening head) (mark [] head) bytes place)

-- the head, which has the number 0, is not as it was written, or the record of this number after it is not
abbrev pub IsLogForgedAt : List ℕ → ℕ → Type 0
IsLogForgedAt bytes number =
    ((number ≡ 0) × (payload : List ℕ) × (rest : List ℕ) × (bytes ≡ framed payload ++ rest) × HasNoSeal [] payload)
    ⊎ ((head : List ℕ) × (before : ℕ) × (number ≡ suc before) × IsForgedAt (opening head) (mark [] head) bytes before)

-- the result of reading a log from its head on
abbrev pub IsLogRead : List ℕ → List (List ℕ) → ℕ → List ℕ → Type 0
IsLogRead bytes [] gate last = ⊥
IsLogRead bytes (head ∷ texts) gate last = (length (sealed [] head) < 2 ^ 32) × IsRead (opening head) (mark [] head) bytes texts gate last
