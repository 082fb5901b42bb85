-- Facts of a call's answer, and of a roll that no call has touched.
use Rattle.std.specs.Prelude.{Result, Ok, Err, OnOk, IfOk}
use Rattle.std.proofs.Common.{◌≡◌, ℕ, zero, suc, ◌+◌, ◌<◌, ◌≤◌, ◌^◌, inl, ap, refl, ◌∙◌, sym, subst, List, [], ◌∷◌, ◌++◌, length, take, drop, arith, append_assoc, append-nil, length-append, length-drop}
use Rattle.std.proofs.Math.ListN.{drop_of_length-le}
use Rattle.std.proofs.Math.Seq.{take-append_seam}
use Rattle.std.proofs.lemmas.List.{length-take}
use Rattle.base_devices.specs.States.{State, GoesOn, LeavesOnly, IsSettled}
use Rattle.base_devices.specs.Torn.{written}
use Rattle.base_roll.specs.Format.{framed, front, roll_text}
use Rattle.base_roll.specs.Rolls.{IsRoll, gate_of, Hold, IsAt}
use Rattle.base_roll.specs.Histories.{IsBeforeOrAfter, IsAppending, IsAtRest}
use Rattle.base_roll.specs.Logging.{HasRecord, IsBeingLogged, opened_at}
use Rattle.base_roll.proofs.Leaving.{weaker}
use Rattle.base_roll.proofs.Fronts.{logged_roll, opened_roll, front_more}
use Rattle.base_roll.proofs.Frames.{length_framed}

pub on_ok : {T E P : Type 0} (r : Result T E) → P → OnOk r P
on_ok (Ok x) p = p
on_ok (Err e) p = tt

pub on_ok_then : {T E P Q : Type 0} (r : Result T E) → OnOk r P → (P → Q) → OnOk r Q
on_ok_then (Ok x) p f = f p
on_ok_then (Err e) p f = tt

-- a write after the gate does not shorten the bytes
pub still_within : (gate : ℕ) (text old : List ℕ) → gate < length old → gate ≤ length (written (gate + 1) text old)
still_within gate text old l =
    omega (arith, length-append (take (gate + 1) old) (text ++ drop (gate + 1 + length text) old), length-append text (drop (gate + 1 + length text) old), length-take (gate + 1) old, length-drop (gate + 1 + length text) old)

pub goes_nowhere : (disk : State) → GoesOn disk disk
goes_nowhere disk = record { later = omega arith; nothing_more = λ k bytes l i. i; nothing_less = λ k bytes l i. i }

-- if no call was made, whatever a record is
pub resting : {R : Type 0} (has : List R → List ℕ → Type 0) (disk : State) (records : List R) (more : R) → IsAtRest has disk records → IsAppending has records more disk disk
resting has disk records more at = record {
  goes = goes_nowhere disk;
  images = λ k bytes l m i.
      let now : k ≡ disk.now = omega arith in
      let is : bytes ≡ disk.bytes = at.1 bytes (subst (λ n. disk.image n bytes) now i) in
      inl (subst (λ b. has records b) (sym is) at.0);
}

pub unmoved : (before : List ℕ) (disk : State) (payloads : List (List ℕ)) (payload : List ℕ) (hold : Hold) → IsAt before payloads disk hold → IsAppending (IsRoll before) payloads payload disk disk
unmoved before disk payloads payload hold at = resting (IsRoll before) disk payloads payload (at.roll, at.settled)

-- while the record was being logged
pub appending : (before : List ℕ) (old new : State) (payloads : List (List ℕ)) (payload text : List ℕ) (hold : Hold) → IsAt before payloads old hold → length payload < 2 ^ 32
    → text ≡ framed payload ++ (0 ∷ []) → GoesOn old new → LeavesOnly old new (IsBeingLogged hold.gate text old.bytes) → IsAppending (IsRoll before) payloads payload old new
appending before old new payloads payload text hold at one e goes leaves = record {
  goes = goes;
  images = weaker (IsBeingLogged hold.gate text old.bytes) (IsBeforeOrAfter (IsRoll before) payloads payload) old new
      (λ bytes b. logged_roll before hold.gate payloads payload old.bytes bytes at.gate one at.roll (subst (λ t. IsBeingLogged hold.gate t old.bytes bytes) e b)) leaves;
}

-- once it was logged
pub appended : (before : List ℕ) (old new : State) (gate : ℕ) (payloads : List (List ℕ)) (payload text : List ℕ) (hold : Hold) → IsAt before payloads old hold → length payload < 2 ^ 32
    → text ≡ framed payload ++ (0 ∷ []) → IsSettled new → new.bytes ≡ opened_at hold.gate text old.bytes → gate ≡ hold.gate + length payload + 5
    → IsAt before (payloads ++ payload ∷ []) new record { gate = gate }
appended before old new gate payloads payload text hold at one e settled has place = record {
  roll = opened_roll before hold.gate payloads payload old.bytes new.bytes at.gate one at.roll (subst (λ t. HasRecord 1 hold.gate t old.bytes new.bytes) e (drop (hold.gate + 1 + length text) old.bytes, has));
  settled = settled;
  gate = omega (arith, at.gate, place, ap length (front_more before payloads payload), length-append (front before payloads) (1 ∷ framed payload), length_framed payload);
}

-- if nothing stood after the gate
pub appended_text : (before : List ℕ) (old new : State) (payloads : List (List ℕ)) (payload text : List ℕ) (hold : Hold) → IsAt before payloads old hold
    → text ≡ framed payload ++ (0 ∷ []) → old.bytes ≡ roll_text before payloads → new.bytes ≡ opened_at hold.gate text old.bytes → new.bytes ≡ roll_text before (payloads ++ payload ∷ [])
appended_text before old new payloads payload text hold at e whole made =
    made ∙ ap (λ b. opened_at hold.gate text b) whole ∙ ap (λ g. opened_at g text (roll_text before payloads)) at.gate
    ∙ ap (λ xs. xs ++ (1 ∷ (text ++ drop (gate_of before payloads + 1 + length text) (roll_text before payloads)))) (take-append_seam (front before payloads) (0 ∷ []))
    ∙ ap (λ xs. front before payloads ++ (1 ∷ (text ++ xs))) (past (front before payloads) (length text))
    ∙ ap (λ xs. front before payloads ++ (1 ∷ xs)) (append-nil text ∙ e)
    ∙ sym (append_assoc (front before payloads) (1 ∷ framed payload) (0 ∷ []))
    ∙ ap (λ xs. xs ++ (0 ∷ [])) (sym (front_more before payloads payload))
  where
    past : (xs : List ℕ) (k : ℕ) → drop (length xs + 1 + k) (xs ++ (0 ∷ [])) ≡ []
    past xs k = drop_of_length-le (xs ++ (0 ∷ [])) (omega (arith, length-append xs (0 ∷ [])))

-- nothing less some bytes
none_left : (n : ℕ) (none : List ℕ) → none ≡ [] → drop n none ≡ []
none_left zero none e = e
none_left (suc n) [] e = refl
none_left (suc n) (x ∷ none) e = absurd (let w : ⊥ = cc in w)

-- the text that was written to an empty disk
pub created : (old new text : List ℕ) → old ≡ [] → new ≡ written 0 text old → new ≡ text
created old new text empty made = made ∙ ap (λ b. written 0 text b) empty ∙ ap (λ ys. text ++ ys) (none_left (0 + length text) [] refl) ∙ append-nil text

pub if_ok_weaker : {T E : Type 0} {P Q : T → Type 0} (r : Result T E) → ((x : T) → P x → Q x) → IfOk r P → IfOk r Q
if_ok_weaker (Ok x) f h = f x h
if_ok_weaker (Err e) f h = h
