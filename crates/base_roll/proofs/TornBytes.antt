-- What a torn write leaves of bytes that it does not reach.
use Rattle.std.specs.Prelude.{slice_get, Some}
use Rattle.std.proofs.Common.{◌≡◌, ℕ, zero, suc, ◌+◌, ◌-◌, ◌<◌, ◌≤◌, ap, refl, ◌∙◌, sym, subst, List, [], ◌∷◌, ◌++◌, length, take, drop, false, arith, append_assoc, append-nil}
use Rattle.std.proofs.lemmas.List.{take-append-drop, length-take-le}
use Rattle.base_devices.specs.Torn.{Range, covers, range_of, written, IsTorn}
use Rattle.base_devices.proofs.Places.{before_range, after_range}
use Rattle.base_roll.specs.Logging.{KeepsGate}

-- the bytes from place k on, outside a range
record TornFrom (r : Range) (k : ℕ) (old new : List ℕ) : Type 0 where
  no_shorter : length old ≤ length new
  elsewhere : (i j : ℕ) → j ≡ k + i → i < length old → covers r j ≡ false → slice_get new i ≡ slice_get old i

torn_from : (r : Range) (old new : List ℕ) → IsTorn r old new → TornFrom r 0 old new
torn_from r old new t = record {
  no_shorter = t.no_shorter;
  elsewhere = λ i j e l c. t.elsewhere i l (let same : j ≡ i = omega arith in subst (λ n. covers r n ≡ false) same c);
}

one_x : (x y : ℕ) → Some x ≡ Some y → x ≡ y
one_x x y e = cc

split_one : (r : Range) (k x : ℕ) (xs ys : List ℕ) → TornFrom r k (x ∷ xs) ys → covers r k ≡ false → (zs : List ℕ) × (ys ≡ x ∷ zs) × TornFrom r (suc k) xs zs
split_one r k x xs [] t c = absurd (let long : suc (length xs) ≤ 0 = t.no_shorter in omega arith)
split_one r k x xs (y ∷ ys) t c = (
  ys,
  ap (λ z. z ∷ ys) (one_x y x (t.elsewhere 0 k (omega arith) (omega arith) c)),
  record {
    no_shorter = let long : suc (length xs) ≤ suc (length ys) = t.no_shorter in omega arith;
    elsewhere = λ i j e l d. t.elsewhere (suc i) j (omega arith) (omega arith) d;
  },
)

split : (r : Range) (k : ℕ) (fs xs ys : List ℕ) → TornFrom r k (fs ++ xs) ys → ((j : ℕ) → k ≤ j → j < k + length fs → covers r j ≡ false)
    → (zs : List ℕ) × (ys ≡ fs ++ zs) × TornFrom r (k + length fs) xs zs
split r k [] xs ys t free = (ys, refl, let same : k ≡ k + 0 = omega arith in subst (λ n. TornFrom r n xs ys) same t)
split r k (f ∷ fs) xs ys t free =
    let one = split_one r k f (fs ++ xs) ys t (free k (omega arith) (omega arith)) in
    let more = split r (suc k) fs xs one.0 one.2 (λ j l m. free j (omega arith) (omega arith)) in
    let same : suc k + length fs ≡ k + length (f ∷ fs) = omega arith in
    (more.0, one.1 ∙ ap (λ zs. f ∷ zs) more.1, subst (λ n. TornFrom r n xs more.0) same more.2)

whole : (r : Range) (k : ℕ) (xs ys : List ℕ) → TornFrom r k xs ys → ((j : ℕ) → k ≤ j → covers r j ≡ false) → (zs : List ℕ) × (ys ≡ xs ++ zs)
whole r k xs ys t free =
    let s = split r k xs [] ys (subst (λ zs. TornFrom r k zs ys) (sym (append-nil xs)) t) (λ j l m. free j l) in
    (s.0, s.1)

-- a write after the gate keeps it
pub keeps_gate : (gate : ℕ) (record_ old new : List ℕ) → gate < length old → IsTorn (range_of (gate + 1) record_) old new → KeepsGate gate old new
keeps_gate gate record_ old new l t =
    let long : length (take (gate + 1) old) ≡ gate + 1 = length-take-le (gate + 1) old (omega arith) in
    let s = split (range_of (gate + 1) record_) 0 (take (gate + 1) old) (drop (gate + 1) old) new
    (subst (λ zs. TornFrom (range_of (gate + 1) record_) 0 zs new) (sym (take-append-drop (gate + 1) old)) (torn_from (range_of (gate + 1) record_) old new t))
    (λ j m n. before_range (range_of (gate + 1) record_) j (omega arith)) in
    (s.0, s.1)

-- a write of one byte in the place of the gate keeps what stands before and after it
pub tears_gate : (gate byte : ℕ) (fs record_ rest new : List ℕ) → length fs ≡ gate → IsTorn (range_of gate (1 ∷ [])) (fs ++ (byte ∷ (record_ ++ rest))) new
    → (torn : ℕ) × (more : List ℕ) × (new ≡ fs ++ (torn ∷ (record_ ++ more)))
tears_gate gate byte fs record_ rest new e t =
    let s = split (range_of gate (1 ∷ [])) 0 fs (byte ∷ (record_ ++ rest)) new (torn_from (range_of gate (1 ∷ [])) (fs ++ (byte ∷ (record_ ++ rest))) new t)
    (λ j m n. before_range (range_of gate (1 ∷ [])) j (omega arith)) in
    at s.0 s.1 s.2
  where
    at : (zs : List ℕ) → new ≡ fs ++ zs → TornFrom (range_of gate (1 ∷ [])) (0 + length fs) (byte ∷ (record_ ++ rest)) zs → (torn : ℕ) × (more : List ℕ) × (new ≡ fs ++ (torn ∷ (record_ ++ more)))
    at [] is u = absurd (let long : suc (length (record_ ++ rest)) ≤ 0 = u.no_shorter in omega arith)
    at (z ∷ zs) is u =
        let tail : TornFrom (range_of gate (1 ∷ [])) (suc gate) (record_ ++ rest) zs = record {
          no_shorter = let long : suc (length (record_ ++ rest)) ≤ suc (length zs) = u.no_shorter in omega arith;
          elsewhere = λ i j f l c. u.elsewhere (suc i) j (omega arith) (omega arith) c;
        } in
        let w = whole (range_of gate (1 ∷ [])) (suc gate) (record_ ++ rest) zs tail (λ j l. after_range (range_of gate (1 ∷ [])) j (omega arith)) in
        (z, rest ++ w.0, is ∙ ap (λ ys. fs ++ (z ∷ ys)) (w.1 ∙ append_assoc record_ rest w.0))

-- ---- the bytes after the writes

take_short : (gate : ℕ) (old : List ℕ) → gate < length old → (byte : ℕ) × (take (gate + 1) old ≡ take gate old ++ byte ∷ [])
take_short gate old l = by gate old l
  where
    by : (n : ℕ) (xs : List ℕ) → n < length xs → (byte : ℕ) × (take (n + 1) xs ≡ take n xs ++ byte ∷ [])
    by n [] l = absurd (omega arith)
    by zero (x ∷ xs) l = (x, refl)
    by (suc n) (x ∷ xs) l =
        let more = by n xs (omega arith) in
        let same : suc n + 1 ≡ suc (n + 1) = omega arith in
        (more.0, ap (λ k. take k (x ∷ xs)) same ∙ ap (λ zs. x ∷ zs) more.1)

-- after the first write the record stands after the old gate
pub record_after : (gate : ℕ) (record_ old : List ℕ) → gate < length old
    → (byte : ℕ) × (written (gate + 1) record_ old ≡ take gate old ++ (byte ∷ (record_ ++ drop (gate + 1 + length record_) old)))
record_after gate record_ old l =
    let t = take_short gate old l in
    (t.0, ap (λ xs. xs ++ (record_ ++ drop (gate + 1 + length record_) old)) t.1 ∙ append_assoc (take gate old) (t.0 ∷ []) (record_ ++ drop (gate + 1 + length record_) old))

-- after the second the gate is open
pub gate_opened : (gate byte : ℕ) (fs more : List ℕ) → length fs ≡ gate → written gate (1 ∷ []) (fs ++ (byte ∷ more)) ≡ fs ++ (1 ∷ more)
gate_opened gate byte fs more e =
    ap (λ xs. xs ++ (1 ∷ drop (gate + 1) (fs ++ (byte ∷ more)))) (front gate fs e) ∙ ap (λ xs. fs ++ (1 ∷ xs)) (back gate fs e)
  where
    front : (n : ℕ) (xs : List ℕ) → length xs ≡ n → take n (xs ++ (byte ∷ more)) ≡ xs
    front zero [] f = refl
    front (suc n) [] f = absurd (omega arith)
    front zero (x ∷ xs) f = absurd (omega arith)
    front (suc n) (x ∷ xs) f = ap (λ ys. x ∷ ys) (front n xs (omega arith))

    back : (n : ℕ) (xs : List ℕ) → length xs ≡ n → drop (n + 1) (xs ++ (byte ∷ more)) ≡ more
    back zero [] f = refl
    back (suc n) [] f = absurd (omega arith)
    back zero (x ∷ xs) f = absurd (omega arith)
    back (suc n) (x ∷ xs) f = let same : suc n + 1 ≡ suc (n + 1) = omega arith in ap (λ k. drop k (x ∷ (xs ++ (byte ∷ more)))) same ∙ back n xs (omega arith)
