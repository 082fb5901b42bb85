-- What reading a changed log shows.
use Rattle.std.proofs.Common.{◌≡◌, ℕ, zero, suc, ◌+◌, ◌-◌, ◌<◌, ◌≤◌, ◌^◌, ◌==◌, ◌⊎◌, inl, inr, ap, refl, ◌∙◌, sym, subst, List, [], ◌∷◌, ◌++◌, length, take, drop, get_or, Bool, true, false, arith, append_assoc, length-append}
use Rattle.std.specs.Int.{w32, to_be_bytes, from_be_bytes}
use Rattle.std.proofs.lemmas.Nat.{from_be_bytes-to_be_bytes_4}
use Rattle.std.proofs.lemmas.List.{take-append-le}
use Rattle.std.proofs.lemmas.Bool.{both_ways, eqb-true, eq-eqb}
use Rattle.base_roll.specs.Format.{framed, opened, records, front, AreShort}
use Rattle.base_roll.specs.Rolls.{BeginsWith, IsClosed, gate_of}
use Rattle.base_roll.proofs.Frames.{frames_apart, length_framed, same_parts}
use Rattle.ws_seal.specs.Seals.{mark, sealed, payloads, last_mark}
use Rattle.ws_seal.specs.Logs.{BeginsSealed, HasTexts, IsHidden, IsLog, IsLogRead, IsRead, opening}
use Rattle.ws_seal.specs.Changes.{Collision, IsLastGate, IsOtherAt}
use Rattle.ws_seal.proofs.Sealing.{length_mark, length_sealed, text_of_sealed}

-- ---- lists are the same or not

same_number : (x y : ℕ) → (x ≡ y) ⊎ (x ≡ y → ⊥)
same_number x y = by (x == y) refl
  where
    by : (b : Bool) → (x == y) ≡ b → (x ≡ y) ⊎ (x ≡ y → ⊥)
    by true e = inl (eqb-true x y e)
    by false e = inr (λ f. both_ways (x == y) e (eq-eqb x y f))

same_list : (xs ys : List ℕ) → (xs ≡ ys) ⊎ (xs ≡ ys → ⊥)
same_list [] [] = inl refl
same_list [] (y ∷ ys) = inr (λ e. cc)
same_list (x ∷ xs) [] = inr (λ e. cc)
same_list (x ∷ xs) (y ∷ ys) = elim (same_number x y) [
  | inl first ↦ elim (same_list xs ys) [
    | inl rest ↦ inl (λ i. first i ∷ rest i)
    | inr apart ↦ inr (λ e. apart (ap (drop 1) e))
  ]
  | inr apart ↦ inr (λ e. apart (ap (λ zs. get_or zs 0 0) e))
]

-- ---- one mark of two inputs

collide : (before text other_before other_text : List ℕ) → (before ++ text ≡ other_before ++ other_text → ⊥) → mark before text ≡ mark other_before other_text → Collision
collide before text other_before other_text apart same = record { before = before; text = text; other_before = other_before; other_text = other_text; apart = apart; same = same }

vouched : (m n : List ℕ) (texts others : List (List ℕ)) → length m ≡ length n → length texts ≡ length others → last_mark m texts ≡ last_mark n others → ((m ≡ n) × (texts ≡ others)) ⊎ Collision
vouched m n [] [] l k e = inl (e, refl)
vouched m n [] (u ∷ others) l k e = absurd (omega arith)
vouched m n (t ∷ texts) [] l k e = absurd (omega arith)
vouched m n (t ∷ texts) (u ∷ others) l k e = elim (vouched (mark m t) (mark n u) texts others (length_mark m t ∙ sym (length_mark n u)) (omega arith) e) [
  | inl (marks, rest) ↦ elim (same_list (m ++ t) (n ++ u)) [
    | inl input ↦
        let apart = same_parts m n t u l input in
        inl (apart.0, λ i. apart.1 i ∷ rest i)
    | inr apart ↦ inr (collide m t n u apart marks)
  ]
  | inr c ↦ inr c
]

pub last_tells : (m : List ℕ) (texts others : List (List ℕ)) → length texts ≡ length others → last_mark m texts ≡ last_mark m others → (texts ≡ others) ⊎ Collision
last_tells m texts others k e = elim (vouched m m texts others refl k e) [
  | inl (marks, same) ↦ inl same
  | inr c ↦ inr c
]

-- ---- a change within a frame

same_front : (n : ℕ) (front xs ys : List ℕ) → n ≤ length front → take n (front ++ xs) ≡ take n (front ++ ys)
same_front n front xs ys l = take-append-le n front xs l ∙ sym (take-append-le n front ys l)

same_back : (n : ℕ) (front back : List ℕ) (was is : ℕ) → length front < n → drop n (front ++ (was ∷ back)) ≡ drop n (front ++ (is ∷ back))
same_back zero front back was is l = absurd (omega arith)
same_back (suc n) [] back was is l = refl
same_back (suc n) (f ∷ front) back was is l = same_back n front back was is (omega arith)

-- where both have the same bytes at the place
clash : (fs xs ys front back : List ℕ) (was is : ℕ) → fs ++ xs ≡ front ++ (was ∷ back) → front ++ (is ∷ back) ≡ fs ++ ys → length front < length fs → was ≡ is
clash [] xs ys front back was is e f l = absurd (omega arith)
clash (g ∷ fs) xs ys [] back was is e f l = sym (ap (λ zs. get_or zs 0 0) e) ∙ sym (ap (λ zs. get_or zs 0 0) f)
clash (g ∷ fs) xs ys (h ∷ front) back was is e f l = clash fs xs ys front back was is (ap (drop 1) e) (ap (drop 1) f) (omega arith)

all_of : (n : ℕ) (xs : List ℕ) → length xs ≡ n → take n xs ≡ xs
all_of zero [] e = refl
all_of zero (x ∷ xs) e = absurd (omega arith)
all_of (suc n) [] e = absurd (omega arith)
all_of (suc n) (x ∷ xs) e = ap (λ zs. x ∷ zs) (all_of n xs (omega arith))

none_of : (n : ℕ) (xs ys : List ℕ) → length xs ≡ n → drop n (xs ++ ys) ≡ ys
none_of zero [] ys e = refl
none_of zero (x ∷ xs) ys e = absurd (omega arith)
none_of (suc n) [] ys e = absurd (omega arith)
none_of (suc n) (x ∷ xs) ys e = none_of n xs ys (omega arith)

-- the mark in a frame, and what stands after it
mark_in : (m t rest : List ℕ) → take 16 (drop 4 (framed (sealed m t) ++ rest)) ≡ mark m t
unfolding framed
mark_in m t rest =
    ap (take 16) (append_assoc (mark m t) (10 ∷ t) rest) ∙ take-append-le 16 (mark m t) ((10 ∷ t) ++ rest) (omega (arith, length_mark m t)) ∙ all_of 16 (mark m t) (length_mark m t)

after_mark : (m t rest : List ℕ) → drop 20 (framed (sealed m t) ++ rest) ≡ (10 ∷ t) ++ rest
unfolding framed
after_mark m t rest = ap (drop 16) (append_assoc (mark m t) (10 ∷ t) rest) ∙ none_of 16 (mark m t) ((10 ∷ t) ++ rest) (length_mark m t)

length_in : (p q x y : List ℕ) → length p < 2 ^ 32 → length q < 2 ^ 32 → take 4 (framed p ++ x) ≡ take 4 (framed q ++ y) → length p ≡ length q
unfolding framed
length_in p q x y l k e =
    let heads : to_be_bytes w32 (length p) ≡ to_be_bytes w32 (length q) = e in
    sym (from_be_bytes-to_be_bytes_4 (length p) l) ∙ ap (from_be_bytes w32) heads ∙ from_be_bytes-to_be_bytes_4 (length q) k

middle : (xs : List ℕ) → drop 4 (take 20 xs) ≡ take 16 (drop 4 xs)
middle [] = refl
middle (a ∷ []) = refl
middle (a ∷ b ∷ []) = refl
middle (a ∷ b ∷ c ∷ []) = refl
middle (a ∷ b ∷ c ∷ d ∷ xs) = refl

either : (k n : ℕ) → (k < n) ⊎ (n ≤ k)
either k n = grind arith

module _ (m t xs front back : List ℕ) (was is : ℕ) (u ys : List ℕ) (e : framed (sealed m t) ++ xs ≡ front ++ (was ∷ back)) (f : front ++ (is ∷ back) ≡ framed (sealed m u) ++ ys)
    (small : length (sealed m t) < 2 ^ 32) (short : length (sealed m u) < 2 ^ 32) where
  -- in the length
  marks_low : length front < 4 → mark m t ≡ mark m u
  marks_low l = sym (mark_in m t xs) ∙ ap (take 16) (ap (drop 4) e ∙ same_back 4 front back was is l ∙ ap (drop 4) f) ∙ mark_in m u ys

  -- after the mark
  marks_high : 20 ≤ length front → mark m t ≡ mark m u
  marks_high l =
      let both : take 20 (framed (sealed m t) ++ xs) ≡ take 20 (framed (sealed m u) ++ ys) = ap (take 20) e ∙ same_front 20 front (was ∷ back) (is ∷ back) l ∙ ap (take 20) f in
      sym (mark_in m t xs) ∙ sym (middle (framed (sealed m t) ++ xs)) ∙ ap (drop 4) both ∙ middle (framed (sealed m u) ++ ys) ∙ mark_in m u ys

  -- in the mark
  texts_mid : 4 ≤ length front → length front < 20 → t ≡ u
  texts_mid l h =
      let heads : take 4 (framed (sealed m t) ++ xs) ≡ take 4 (framed (sealed m u) ++ ys) = ap (take 4) e ∙ same_front 4 front (was ∷ back) (is ∷ back) l ∙ ap (take 4) f in
      let lengths : length (sealed m t) ≡ length (sealed m u) = length_in (sealed m t) (sealed m u) xs ys small short heads in
      let long : length (10 ∷ t) ≡ length (10 ∷ u) = omega (arith, lengths, length_sealed m t, length_sealed m u) in
      let tails : (10 ∷ t) ++ xs ≡ (10 ∷ u) ++ ys = sym (after_mark m t xs) ∙ ap (drop 20) e ∙ same_back 20 front back was is h ∙ ap (drop 20) f ∙ after_mark m u ys in
      ap (drop 1) (same_parts (10 ∷ t) (10 ∷ u) xs ys long tails).0

  frame_change : (was ≡ is → ⊥) → length front < length (framed (sealed m t)) → Collision
  frame_change changed l = elim (same_list t u) [
    | inl same ↦ absurd (changed (clash (framed (sealed m t)) xs ys front back was is e (f ∙ ap (λ x. framed (sealed m x) ++ ys) (sym same)) l))
    | inr apart ↦
        let inputs : m ++ t ≡ m ++ u → ⊥ = λ i. apart (same_parts m m t u refl i).1 in
        elim (either (length front) 4) [
          | inl low ↦ collide m t m u inputs (marks_low low)
          | inr past ↦ elim (either (length front) 20) [
            | inl mid ↦ absurd (apart (texts_mid past mid))
            | inr high ↦ collide m t m u inputs (marks_high high)
          ]
        ]
  ]

-- ---- a change within the records

after : (xs ys front back : List ℕ) (was : ℕ) → xs ++ ys ≡ front ++ (was ∷ back) → length xs ≤ length front → (more : List ℕ) × (front ≡ xs ++ more) × (ys ≡ more ++ (was ∷ back))
after [] ys front back was e l = (front, refl, e)
after (x ∷ xs) ys [] back was e l = absurd (omega arith)
after (x ∷ xs) ys (f ∷ front) back was e l =
    let r = after xs ys front back was (ap (drop 1) e) (omega arith) in
    let first : f ≡ x = sym (ap (λ zs. get_or zs 0 0) e) in
    (r.0, (λ i. first i ∷ r.1 i), r.2)

first_of : (x y : ℕ) (xs ys : List ℕ) → x ∷ xs ≡ y ∷ ys → x ≡ y
first_of x y xs ys e = ap (λ zs. get_or zs 0 0) e

not_open : (r xs : List ℕ) → IsClosed r → r ≡ 1 ∷ xs → ⊥
not_open r xs (gate, others, e, off) o = off (first_of gate 1 others xs (sym e ∙ o))

told : (m : List ℕ) (texts : List (List ℕ)) (rest front back : List ℕ) (was is : ℕ) (others : List (List ℕ)) (r : List ℕ) → records (payloads m texts) ++ rest ≡ front ++ (was ∷ back) → front ++ (is ∷ back) ≡ records (payloads m others) ++ r → (was ≡ is → ⊥)
    → length front < length (records (payloads m texts)) → ((earlier : List (List ℕ)) (text : List ℕ) → texts ≡ earlier ++ text ∷ [] → length front ≡ length (records (payloads m earlier)) → ⊥)
    → AreShort (payloads m texts) → AreShort (payloads m others) → IsClosed r → (IsHidden (last_mark m others) r → ⊥) → Collision
told m [] rest front back was is others r e f changed l not_last small short closed free = absurd (omega arith)
told m (t ∷ []) rest [] back was is [] r e f changed l not_last small short closed free = absurd (not_last [] t refl refl)
told m (t ∷ v ∷ texts) rest [] back was is [] r e f changed l not_last small short closed free =
    let gate : 1 ≡ was = first_of 1 was ((framed (sealed m t) ++ records (payloads (mark m t) (v ∷ texts))) ++ rest) back e in
    let others_ : (framed (sealed m t) ++ records (payloads (mark m t) (v ∷ texts))) ++ rest ≡ back = ap (drop 1) e in
    let tail : List ℕ = records (payloads (mark (mark m t) v) texts) in
    let stands : back ≡ framed (sealed m t) ++ (1 ∷ ((framed (sealed (mark m t) v) ++ tail) ++ rest)) = sym others_ ∙ append_assoc (framed (sealed m t)) (records (payloads (mark m t) (v ∷ texts))) rest in
    let next : BeginsSealed (mark m t) ((framed (sealed (mark m t) v) ++ tail) ++ rest) = record { text = v; more = tail ++ rest; short = small.1.0; stands = append_assoc (framed (sealed (mark m t) v)) tail rest } in
    absurd (free (is, back, sym f, (λ i. changed (sym gate ∙ sym i)), record { text = t; more = (framed (sealed (mark m t) v) ++ tail) ++ rest; short = small.0; stands = stands; next = next }))
told m (t ∷ texts) rest [] back was is (u ∷ others) r e f changed l not_last small short closed free =
    absurd (changed (sym (first_of 1 was ((framed (sealed m t) ++ records (payloads (mark m t) texts)) ++ rest) back e) ∙ sym (first_of is 1 back ((framed (sealed m u) ++ records (payloads (mark m u) others)) ++ r) f)))
told m (t ∷ texts) rest (g ∷ front) back was is [] r e f changed l not_last small short closed free =
    let one : 1 ≡ g = first_of 1 g ((framed (sealed m t) ++ records (payloads (mark m t) texts)) ++ rest) (front ++ (was ∷ back)) e in
    absurd (not_open r (front ++ (is ∷ back)) closed (sym f ∙ ap (λ x. x ∷ (front ++ (is ∷ back))) (sym one)))
told m (t ∷ texts) rest (g ∷ front) back was is (u ∷ others) r e f changed l not_last small short closed free =
    let later : List ℕ = records (payloads (mark m t) texts) in
    let here : framed (sealed m t) ++ (later ++ rest) ≡ front ++ (was ∷ back) = sym (append_assoc (framed (sealed m t)) later rest) ∙ ap (drop 1) e in
    let there : front ++ (is ∷ back) ≡ framed (sealed m u) ++ (records (payloads (mark m u) others) ++ r) = ap (drop 1) f ∙ append_assoc (framed (sealed m u)) (records (payloads (mark m u) others)) r in
    elim (either (length front) (length (framed (sealed m t)))) [
      | inl within ↦ frame_change m t (later ++ rest) front back was is u (records (payloads (mark m u) others) ++ r) here there small.0 short.0 changed within
      | inr past ↦
          let cut = after (framed (sealed m t)) (records (payloads (mark m t) texts) ++ rest) front back was here past in
          let joined : framed (sealed m t) ++ (cut.0 ++ (is ∷ back)) ≡ framed (sealed m u) ++ (records (payloads (mark m u) others) ++ r) = sym (append_assoc (framed (sealed m t)) cut.0 (is ∷ back)) ∙ ap (λ xs. xs ++ (is ∷ back)) (sym cut.1) ∙ there in
          let apart = frames_apart (sealed m t) (sealed m u) (cut.0 ++ (is ∷ back)) (records (payloads (mark m u) others) ++ r) small.0 short.0 joined in
          let same : u ≡ t = sym (text_of_sealed m u) ∙ ap (drop 17) (sym apart.0) ∙ text_of_sealed m t in
          let long : length front ≡ length (framed (sealed m t)) + length cut.0 = ap length cut.1 ∙ length-append (framed (sealed m t)) cut.0 in
          told (mark m t) texts rest cut.0 back was is others r cut.2 (apart.1 ∙ ap (λ x. records (payloads (mark m x) others) ++ r) same) changed
          (omega (arith, long, length-append (framed (sealed m t)) (records (payloads (mark m t) texts))))
          (λ earlier text is_ place. not_last (t ∷ earlier) text (λ i. t ∷ is_ i) (omega (arith, long, place, length-append (framed (sealed m t)) (records (payloads (mark m t) earlier)))))
          small.1 (subst (λ x. AreShort (payloads (mark m x) others)) same short.1) closed (λ h. free (subst (λ x. IsHidden (last_mark (mark m x) others) r) (sym same) h))
    ]

-- ---- of a whole log

pub records_changed : (before m : List ℕ) (texts : List (List ℕ)) (bytes other : List ℕ) (place : ℕ) → HasTexts before m texts bytes → IsOtherAt place bytes other → length before ≤ place → place < gate_of before (payloads m texts)
    → (IsLastGate before m texts place → ⊥) → (others : List (List ℕ)) (gate : ℕ) (last : List ℕ) → IsRead before m other others gate last → Collision
records_changed before m texts bytes other place (rest, b, c) o from until not_last others gate last r =
    let whole : before ++ (records (payloads m texts) ++ rest) ≡ o.front ++ (o.was ∷ o.back) = sym (append_assoc before (records (payloads m texts)) rest) ∙ sym b.bytes ∙ o.bytes_are in
    let cut = after before (records (payloads m texts) ++ rest) o.front o.back o.was whole (omega (arith, o.place_is)) in
    let long : length o.front ≡ length before + length cut.0 = ap length cut.1 ∙ length-append before cut.0 in
    let joined : before ++ (cut.0 ++ (o.is ∷ o.back)) ≡ before ++ (records (payloads m others) ++ r.rest) =
    sym (append_assoc before cut.0 (o.is ∷ o.back)) ∙ ap (λ xs. xs ++ (o.is ∷ o.back)) (sym cut.1) ∙ sym o.other_are ∙ r.begins.bytes ∙ append_assoc before (records (payloads m others)) r.rest in
    told m texts rest cut.0 o.back o.was o.is others r.rest cut.2 (same_parts before before (cut.0 ++ (o.is ∷ o.back)) (records (payloads m others) ++ r.rest) refl joined).1 o.changed
    (omega (arith, long, o.place_is, length-append before (records (payloads m texts))))
    (λ earlier text is place_. not_last (record { earlier = earlier; text = text; texts_are = is; place_is = omega (arith, long, o.place_is, place_, length-append before (records (payloads m earlier))) }))
    b.short r.begins.short r.closed r.not_hidden

pub head_changed : (texts : List (List ℕ)) (bytes other : List ℕ) (place : ℕ) → IsLog texts bytes → IsOtherAt place bytes other → (head : List ℕ) (records_ : List (List ℕ)) → texts ≡ head ∷ records_ → place < length (opening head)
    → (others : List (List ℕ)) (gate : ℕ) (last : List ℕ) → IsLogRead other others gate last → Collision
head_changed texts bytes other place log o head records_ e l [] gate last r = absurd r
head_changed texts bytes other place log o head records_ e l (u ∷ others) gate last r = of_log (subst (λ ts. IsLog ts bytes) e log)
  where
    of_log : IsLog (head ∷ records_) bytes → Collision
    of_log (small, (rest, b, c)) =
        let whole : framed (sealed [] head) ++ (records (payloads (mark [] head) records_) ++ rest) ≡ o.front ++ (o.was ∷ o.back) = sym (append_assoc (opening head) (records (payloads (mark [] head) records_)) rest) ∙ sym b.bytes ∙ o.bytes_are in
        let found : o.front ++ (o.is ∷ o.back) ≡ framed (sealed [] u) ++ (records (payloads (mark [] u) others) ++ r.1.rest) = sym o.other_are ∙ r.1.begins.bytes ∙ append_assoc (opening u) (records (payloads (mark [] u) others)) r.1.rest in
        frame_change [] head (records (payloads (mark [] head) records_) ++ rest) o.front o.back o.was o.is u (records (payloads (mark [] u) others) ++ r.1.rest) whole found small r.0 o.changed (omega (arith, o.place_is))
