-- A call that was made, and the moments of a disk that keeps its calls.
use Rattle.std.specs.Prelude.{Result, Ok, Err, OnOk, IsErrOf}
use Rattle.std.proofs.Common.{◌≡◌, ℕ, ◌+◌, ◌≤◌, ◌⊎◌, inl, inr, ap, refl, ◌∙◌, sym, subst, List, [], ◌∷◌, ◌++◌, length, Bool, true, false, arith, length-append}
use Rattle.std.proofs.lemmas.List.{take-append-le}
use Rattle.std.proofs.Math.Seq.{take-length}
use Rattle.base_devices.specs.Faults.{Rose}
use Rattle.base_devices.specs.declared.disks.DiskRefusal.{DiskRefusal}
use Rattle.base_devices.specs.declared.disks.DiskRefusal.TheVariants.{Failed, Memory}
use Rattle.base_devices.specs.States.{State, GoesOn, LeavesOnly, IsRefused, IsLeft, IsLeftTorn, IsSettled}
use Rattle.base_devices.specs.Torn.{Range, range_of, written}
use Rattle.base_devices.specs.Logs.{Call, Load, Sync, Write}
use Rattle.base_devices.specs.Traces.{Held, fresh, after, after_all, IsImage, Trace, with_next, held_at, held, bytes_of, state_with, IsMade}
use Rattle.base_devices.proofs.Images.{read_left, left_torn, not_torn}

one_more : (h : Held) (calls : List Call) (call : Call) → after_all h (calls ++ call ∷ []) ≡ after (after_all h calls) call
one_more h [] call = refl
one_more h (c ∷ calls) call = one_more (after h c) calls call

held_now : (t : Trace) → held_at t (length t.calls) ≡ held t
held_now t = ap (λ calls. after_all (fresh t.made_of) calls) (take-length t.calls)

held_before : (t : Trace) (call : Call) (k : ℕ) → k ≤ length t.calls → held_at (with_next t call) k ≡ held_at t k
held_before t call k l = ap (λ calls. after_all (fresh t.made_of) calls) (take-append-le k t.calls (call ∷ []) l)

pub held_then : (t : Trace) (call : Call) → held (with_next t call) ≡ after (held t) call
held_then t call = one_more (fresh t.made_of) t.calls call

held_last : (t : Trace) (call : Call) → held_at (with_next t call) (length (t.calls ++ call ∷ [])) ≡ after (held t) call
held_last t call = held_now (with_next t call) ∙ held_then t call

pub bytes_then : (old new : Trace) (call : Call) → new ≡ with_next old call → bytes_of new ≡ (after (held old) call).bytes
bytes_then old new call e = ap bytes_of e ∙ ap (λ (h : Held). h.bytes) (held_then old call)

-- What a crash may leave rests on the trace alone, so any count of faults serves.
abbrev pub seen : Trace → State
seen t = state_with false 0 t

-- a read gives what a crash may leave
pub read_now : (t : Trace) → IsLeft (seen t) (bytes_of t)
read_now t = subst (λ h. IsImage h (bytes_of t)) (sym (held_now t)) (read_left t.made_of t.calls)

either : (n k : ℕ) → n ≤ k → k ≤ n + 1 → (k ≤ n) ⊎ (k ≡ n + 1)
either n k l h = grind arith

module _ (a b : Bool) (f g : ℕ) where
  goes_same : (t : Trace) → GoesOn (state_with a f t) (state_with b g t)
  goes_same t = record { later = omega arith; nothing_more = λ k bytes l i. i; nothing_less = λ k bytes l i. i }

  goes_then : (t : Trace) (call : Call) → GoesOn (state_with a f t) (state_with b g (with_next t call))
  goes_then t call = record {
    later = omega (arith, length-append t.calls (call ∷ []));
    nothing_more = λ k bytes l i. subst (λ h. IsImage h bytes) (held_before t call k l) i;
    nothing_less = λ k bytes l i. subst (λ h. IsImage h bytes) (sym (held_before t call k l)) i;
  }

  pub time : {T : Type 0} (call : Bool → Call) (old new : Trace) (r : Result T DiskRefusal) → IsMade call old new r → GoesOn (state_with a f old) (state_with b g new)
  time call old new (Ok x) c = subst (λ t. GoesOn (state_with a f old) (state_with b g t)) (sym c) (goes_then old (call false))
  time call old new (Err Failed) c = subst (λ t. GoesOn (state_with a f old) (state_with b g t)) (sym c) (goes_then old (call true))
  time call old new (Err Memory) c = subst (λ t. GoesOn (state_with a f old) (state_with b g t)) (sym c) (goes_same old)

  pub cause : {T : Type 0} (call : Bool → Call) (old new : Trace) → f ≤ g → b ≡ a → (r : Result T DiskRefusal) → (IsErrOf r Failed → Rose f g × (a ≡ false)) → IsMade call old new r
      → IsRefused (state_with a f old) (state_with b g new) r
  cause call old new rises same (Ok x) failed c = record { later = rises; reliable = same; failed = failed; memory = λ h. absurd (let w : ⊥ = cc in w) }
  cause call old new rises same (Err Failed) failed c = record { later = rises; reliable = same; failed = failed; memory = λ h. absurd (let w : ⊥ = cc in w) }
  cause call old new rises same (Err Memory) failed c = record {
    later = rises;
    reliable = same;
    failed = failed;
    memory = λ h. (ap bytes_of c, ap (λ (t : Trace). length t.calls) c);
  }

leaves_same : (t : Trace) (P : List ℕ → Type 0) → ((bytes : List ℕ) → IsImage (held t) bytes → P bytes) → LeavesOnly (seen t) (seen t) P
leaves_same t P before k bytes l h i =
    let same : k ≡ length t.calls = omega arith in
    before bytes (subst (λ x. IsImage x bytes) (ap (held_at t) same ∙ held_now t) i)

leaves_then : (t : Trace) (call : Call) (P : List ℕ → Type 0) → ((bytes : List ℕ) → IsImage (held t) bytes → P bytes) → ((bytes : List ℕ) → IsImage (after (held t) call) bytes → P bytes)
    → LeavesOnly (seen t) (seen (with_next t call)) P
leaves_then t call P before next k bytes l h i =
    let long : length (t.calls ++ call ∷ []) ≡ length t.calls + 1 = length-append t.calls (call ∷ []) in
    elim (either (length t.calls) k l (omega arith)) [
      | inl low ↦
          let same : k ≡ length t.calls = omega arith in
          before bytes (subst (λ x. IsImage x bytes) (held_before t call k low ∙ ap (held_at t) same ∙ held_now t) i)
      | inr high ↦
          let same : k ≡ length (t.calls ++ call ∷ []) = omega arith in
          next bytes (subst (λ x. IsImage x bytes) (ap (held_at (with_next t call)) same ∙ held_last t call) i)
    ]

pub images : {T : Type 0} (call : Bool → Call) (old new : Trace) (P : List ℕ → Type 0) → ((bytes : List ℕ) → IsImage (held old) bytes → P bytes)
    → ((fault : Bool) (bytes : List ℕ) → IsImage (after (held old) (call fault)) bytes → P bytes)
    → (r : Result T DiskRefusal) → IsMade call old new r → LeavesOnly (seen old) (seen new) P
images call old new P before next (Ok x) c = subst (λ t. LeavesOnly (seen old) (seen t) P) (sym c) (leaves_then old (call false) P before (next false))
images call old new P before next (Err Failed) c = subst (λ t. LeavesOnly (seen old) (seen t) P) (sym c) (leaves_then old (call true) P before (next true))
images call old new P before next (Err Memory) c = subst (λ t. LeavesOnly (seen old) (seen t) P) (sym c) (leaves_same old P before)

-- ---- the bytes after a call

-- after a call that changes none
pub still : {T : Type 0} (call : Bool → Call) (old new : Trace) → ((fault : Bool) (h : Held) → (after h (call fault)).bytes ≡ h.bytes) → (r : Result T DiskRefusal) → IsMade call old new r → bytes_of new ≡ bytes_of old
still call old new same (Ok x) c = bytes_then old new (call false) c ∙ same false (held old)
still call old new same (Err Failed) c = bytes_then old new (call true) c ∙ same true (held old)
still call old new same (Err Memory) c = ap bytes_of c

-- after one that changes none where it fails
pub failed_bytes : {T : Type 0} (call : Bool → Call) (old new : Trace) → ((h : Held) → (after h (call true)).bytes ≡ h.bytes) → (r : Result T DiskRefusal) (e : DiskRefusal) → r ≡ Err e → IsMade call old new r
    → bytes_of new ≡ bytes_of old
failed_bytes call old new same (Ok x) e was c = absurd (let w : ⊥ = cc in w)
failed_bytes call old new same (Err Failed) e was c = bytes_then old new (call true) c ∙ same (held old)
failed_bytes call old new same (Err Memory) e was c = ap bytes_of c

-- after one that does not fail
pub made_bytes : {T : Type 0} (call : Bool → Call) (old new : Trace) (r : Result T DiskRefusal) (x : T) → r ≡ Ok x → IsMade call old new r → bytes_of new ≡ (after (held old) (call false)).bytes
made_bytes call old new (Ok y) x was c = bytes_then old new (call false) c
made_bytes call old new (Err e) x was c = absurd (let w : ⊥ = cc in w)

pub still_load : (fault : Bool) (h : Held) → (after h (Load fault)).bytes ≡ h.bytes
still_load fault h = refl

pub still_sync : (fault : Bool) (h : Held) → (after h (Sync fault)).bytes ≡ h.bytes
still_sync true h = refl
still_sync false h = refl

-- after a sync that does not fail nothing is pending
pub settled : {T : Type 0} (old new : Trace) (r : Result T DiskRefusal) → IsMade Sync old new r → OnOk r (IsSettled (seen new))
settled old new (Ok x) c = subst (λ t. IsSettled (seen t)) (sym c) at
  where
    at : IsSettled (seen (with_next old (Sync false)))
    at bytes i = subst (λ h. IsImage h bytes) (held_last old (Sync false)) i ∙ sym (bytes_then old (with_next old (Sync false)) (Sync false) refl)
settled old new (Err e) c = tt

-- the bytes after a write
pub wrote : {T : Type 0} (at : ℕ) (bytes : List ℕ) (old new : Trace) (r : Result T DiskRefusal) → IsMade (Write at bytes) old new r → OnOk r (bytes_of new ≡ written at bytes (bytes_of old))
wrote at bytes old new (Ok x) c = bytes_then old new (Write at bytes false) c
wrote at bytes old new (Err e) c = tt

-- ---- what a crash leaves of each call

module _ (t : Trace) where
  pub now_left : (bytes : List ℕ) → IsImage (held t) bytes → IsLeft (seen t) bytes
  now_left bytes i = subst (λ h. IsImage h bytes) (sym (held_now t)) i

  pub load_left : (fault : Bool) (bytes : List ℕ) → IsImage (after (held t) (Load fault)) bytes → IsLeft (seen t) bytes
  load_left fault bytes i = now_left bytes i

  pub sync_left : (fault : Bool) (bytes : List ℕ) → IsImage (after (held t) (Sync fault)) bytes → IsLeft (seen t) bytes
  sync_left true bytes i = now_left bytes i
  sync_left false bytes i = subst (λ x. IsLeft (seen t) x) (sym i) (read_now t)

  pub write_left : (at : ℕ) (text : List ℕ) (fault : Bool) (bytes : List ℕ) → IsImage (after (held t) (Write at text fault)) bytes → IsLeftTorn (seen t) (range_of at text) bytes
  write_left at text fault bytes i =
      let torn = left_torn (held t).open_ (held t).stable (range_of at text) bytes i in
      (torn.0, now_left torn.0 torn.1, torn.2)

  pub unwritten_left : (r : Range) (bytes : List ℕ) → IsImage (held t) bytes → IsLeftTorn (seen t) r bytes
  unwritten_left r bytes i = (bytes, now_left bytes i, not_torn r bytes)
