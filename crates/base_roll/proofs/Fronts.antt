-- The front of a roll with one record more, and what a logged record makes of a roll.
use Rattle.std.proofs.Common.{◌≡◌, ℕ, suc, ◌+◌, ◌<◌, ◌^◌, inl, inr, ap, refl, ◌∙◌, sym, subst, List, [], ◌∷◌, ◌++◌, length, take, arith, append_assoc, append-nil, length-append}
use Rattle.std.proofs.Math.Seq.{take-append-add, take-append_seam}
use Rattle.base_roll.specs.Format.{framed, opened, records, front, AreShort}
use Rattle.base_roll.specs.Rolls.{BeginsWith, IsRoll, gate_of}
use Rattle.base_roll.specs.Histories.{IsBeforeOrAfter}
use Rattle.base_roll.specs.Logging.{KeepsGate, HasRecord, IsBeingLogged}
use Rattle.base_roll.proofs.Gates.{decided, no_closed}

records_more : (payloads : List (List ℕ)) (payload : List ℕ) → records (payloads ++ payload ∷ []) ≡ records payloads ++ opened payload
records_more [] payload = append-nil (opened payload)
records_more (p ∷ payloads) payload = ap (λ xs. opened p ++ xs) (records_more payloads payload) ∙ sym (append_assoc (opened p) (records payloads) (opened payload))

pub front_more : (before : List ℕ) (payloads : List (List ℕ)) (payload : List ℕ) → front before (payloads ++ payload ∷ []) ≡ front before payloads ++ opened payload
front_more before payloads payload = ap (λ xs. before ++ xs) (records_more payloads payload) ∙ sym (append_assoc before (records payloads) (opened payload))

pub short_more : (payloads : List (List ℕ)) (payload : List ℕ) → AreShort payloads → length payload < 2 ^ 32 → AreShort (payloads ++ payload ∷ [])
short_more [] payload all one = (one, tt)
short_more (p ∷ payloads) payload all one = (all.0, short_more payloads payload all.1 one)

module _ (before : List ℕ) where
  pub begins_more : (bytes : List ℕ) (payloads : List (List ℕ)) (payload rest : List ℕ) → length payload < 2 ^ 32 → BeginsWith before payloads bytes (opened payload ++ rest) → BeginsWith before (payloads ++ payload ∷ []) bytes rest
  begins_more bytes payloads payload rest one b = record {
    short = short_more payloads payload b.short one;
    bytes = b.bytes ∙ sym (append_assoc (front before payloads) (opened payload) rest) ∙ ap (λ xs. xs ++ rest) (sym (front_more before payloads payload));
  }

  -- the gate of a roll stands within its bytes
  pub gate_within : (payloads : List (List ℕ)) (bytes : List ℕ) → IsRoll before payloads bytes → gate_of before payloads < length bytes
  gate_within payloads bytes (rest, b, c) =
      let all : length bytes ≡ length (front before payloads) + length rest = ap length b.bytes ∙ length-append (front before payloads) rest in
      let some : length rest ≡ suc (length c.1) = ap length c.2 in
      omega arith

  front_taken : (payloads : List (List ℕ)) (bytes rest : List ℕ) → BeginsWith before payloads bytes rest → take (gate_of before payloads) bytes ≡ front before payloads
  front_taken payloads bytes rest b = ap (take (gate_of before payloads)) b.bytes ∙ take-append_seam (front before payloads) rest

  -- what keeps the gate is the same roll
  pub kept_roll : (payloads : List (List ℕ)) (gate : ℕ) (old new : List ℕ) → gate ≡ gate_of before payloads → IsRoll before payloads old → KeepsGate gate old new → IsRoll before payloads new
  kept_roll payloads gate old new e (rest, b, c) (more, is) =
      let start : take (gate + 1) old ≡ front before payloads ++ c.0 ∷ [] =
      ap (λ n. take (n + 1) old) e ∙ ap (take (gate_of before payloads + 1)) b.bytes ∙ take-append-add (front before payloads) rest 1 ∙ ap (λ xs. front before payloads ++ take 1 xs) c.2 in (
        c.0 ∷ more,
        record { short = b.short; bytes = is ∙ ap (λ xs. xs ++ more) start ∙ append_assoc (front before payloads) (c.0 ∷ []) more },
        (c.0, more, refl, c.3),
      )

  -- with the record after an open gate it is the roll with the record
  pub opened_roll : (gate : ℕ) (payloads : List (List ℕ)) (payload old new : List ℕ) → gate ≡ gate_of before payloads → length payload < 2 ^ 32
      → IsRoll before payloads old → HasRecord 1 gate (framed payload ++ 0 ∷ []) old new → IsRoll before (payloads ++ payload ∷ []) new
  opened_roll gate payloads payload old new e one (rest, b, c) (more, is) =
      let start : take gate old ≡ front before payloads = ap (λ k. take k old) e ∙ front_taken payloads old rest b in
      let split : (framed payload ++ 0 ∷ []) ++ more ≡ framed payload ++ (0 ∷ more) = append_assoc (framed payload) (0 ∷ []) more in (
        0 ∷ more,
        begins_more new payloads payload (0 ∷ more) one
            (record { short = b.short; bytes = is ∙ ap (λ xs. xs ++ (1 ∷ ((framed payload ++ 0 ∷ []) ++ more))) start ∙ ap (λ xs. front before payloads ++ (1 ∷ xs)) split }),
        (0, more, refl, no_closed),
      )

  -- with the record after any gate it is the roll before or after
  pub torn_roll : (gate byte : ℕ) (payloads : List (List ℕ)) (payload old new : List ℕ) → gate ≡ gate_of before payloads → length payload < 2 ^ 32
      → IsRoll before payloads old → HasRecord byte gate (framed payload ++ 0 ∷ []) old new → IsBeforeOrAfter (IsRoll before) payloads payload new
  torn_roll gate byte payloads payload old new e one j h = elim (decided byte) [
    | inl open_ ↦ inr (opened_roll gate payloads payload old new e one j (subst (λ x. HasRecord x gate (framed payload ++ 0 ∷ []) old new) open_ h))
    | inr closed ↦ inl (shut closed j h)
  ]
    where
      shut : (byte ≡ 1 → ⊥) → IsRoll before payloads old → HasRecord byte gate (framed payload ++ 0 ∷ []) old new → IsRoll before payloads new
      shut closed (rest, b, c) (more, is) =
          let start : take gate old ≡ front before payloads = ap (λ k. take k old) e ∙ front_taken payloads old rest b in (
            byte ∷ ((framed payload ++ 0 ∷ []) ++ more),
            record { short = b.short; bytes = is ∙ ap (λ xs. xs ++ (byte ∷ ((framed payload ++ 0 ∷ []) ++ more))) start },
            (byte, (framed payload ++ 0 ∷ []) ++ more, refl, closed),
          )

  -- what a crash leaves while the record is logged
  pub logged_roll : (gate : ℕ) (payloads : List (List ℕ)) (payload old new : List ℕ) → gate ≡ gate_of before payloads → length payload < 2 ^ 32
      → IsRoll before payloads old → IsBeingLogged gate (framed payload ++ 0 ∷ []) old new → IsBeforeOrAfter (IsRoll before) payloads payload new
  logged_roll gate payloads payload old new e one j (inl keeps) = inl (kept_roll payloads gate old new e j keeps)
  logged_roll gate payloads payload old new e one j (inr (byte, has)) = torn_roll gate byte payloads payload old new e one j has
