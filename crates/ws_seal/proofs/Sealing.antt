-- What a payload tells of its text.
use Rattle.std.specs.Prelude.{slice_index}
use Rattle.std.proofs.Common.{◌≡◌, ℕ, zero, suc, ◌+◌, ◌*◌, ◌-◌, ◌<◌, ◌≤◌, ap, refl, ◌∙◌, sym, subst, List, [], ◌∷◌, ◌++◌, length, take, drop, get_or, arith, append_assoc, append-nil, length-append}
use Rattle.std.proofs.lemmas.List.{length-take-le, take-append-drop}
use Rattle.sha2.specs.Sha256.{sha256}
use Rattle.sha2.proofs.Facts256.{length-sha256}
use Rattle.hex.specs.Hex.{lower_digits}
use Rattle.hex.proofs.HexLemmas.{length-encode_with}
use Rattle.ws_seal.specs.Seals.{mark, sealed, payloads, last_mark, HasNoSeal}

pub length_mark : (before text : List ℕ) → length (mark before text) ≡ 16
unfolding mark
length_mark before text =
    let whole : length (sha256 (before ++ text)) ≡ 32 = length-sha256 (before ++ text) in
    let eight : length (take 8 (sha256 (before ++ text))) ≡ 8 = length-take-le 8 (sha256 (before ++ text)) (omega arith) in
    omega (arith, eight, length-encode_with lower_digits (take 8 (sha256 (before ++ text))))

take_front : (n : ℕ) (xs ys : List ℕ) → length xs ≡ n → take n (xs ++ ys) ≡ xs
take_front zero [] ys e = refl
take_front zero (x ∷ xs) ys e = absurd (omega arith)
take_front (suc n) [] ys e = absurd (omega arith)
take_front (suc n) (x ∷ xs) ys e = ap (λ zs. x ∷ zs) (take_front n xs ys (omega arith))

drop_front : (n : ℕ) (xs ys : List ℕ) → length xs ≡ n → drop n (xs ++ ys) ≡ ys
drop_front zero [] ys e = refl
drop_front zero (x ∷ xs) ys e = absurd (omega arith)
drop_front (suc n) [] ys e = absurd (omega arith)
drop_front (suc n) (x ∷ xs) ys e = drop_front n xs ys (omega arith)

pub length_sealed : (before text : List ℕ) → length (sealed before text) ≡ 17 + length text
length_sealed before text = omega (arith, length-append (mark before text) (10 ∷ text), length_mark before text)

-- its text stands after 17 bytes
pub text_of_sealed : (before text : List ℕ) → drop 17 (sealed before text) ≡ text
text_of_sealed before text =
    let one : (mark before text ++ (10 ∷ [])) ++ text ≡ sealed before text = append_assoc (mark before text) (10 ∷ []) text in
    ap (drop 17) (sym one) ∙ drop_front 17 (mark before text ++ (10 ∷ [])) text (omega (arith, length-append (mark before text) (10 ∷ []), length_mark before text))

front_of_sealed : (before text : List ℕ) → take 17 (sealed before text) ≡ mark before text ++ (10 ∷ [])
front_of_sealed before text =
    let one : (mark before text ++ (10 ∷ [])) ++ text ≡ sealed before text = append_assoc (mark before text) (10 ∷ []) text in
    ap (take 17) (sym one) ∙ take_front 17 (mark before text ++ (10 ∷ [])) text (omega (arith, length-append (mark before text) (10 ∷ []), length_mark before text))

last_of : (n : ℕ) (xs : List ℕ) (x : ℕ) → length xs ≡ n → get_or (xs ++ (x ∷ [])) n 0 ≡ x
last_of zero [] x e = refl
last_of zero (y ∷ xs) x e = absurd (omega arith)
last_of (suc n) [] x e = absurd (omega arith)
last_of (suc n) (y ∷ xs) x e = last_of n xs x (omega arith)

split_last : (n : ℕ) (xs : List ℕ) → length xs ≡ n + 1 → xs ≡ take n xs ++ (get_or xs n 0 ∷ [])
split_last zero [] e = absurd (omega arith)
split_last zero (x ∷ []) e = refl
split_last zero (x ∷ y ∷ xs) e = absurd (omega arith)
split_last (suc n) [] e = absurd (omega arith)
split_last (suc n) (x ∷ xs) e = ap (λ zs. x ∷ zs) (split_last n xs (omega arith))

-- a payload in its parts
pub parts : (payload front text m : List ℕ) → front ≡ take 17 payload → text ≡ drop 17 payload → 17 ≤ length payload → get_or front 16 0 ≡ 10 → take 16 front ≡ m → payload ≡ m ++ (10 ∷ text)
parts payload front text m f t l feed same =
    let long : length front ≡ 16 + 1 = ap length f ∙ length-take-le 17 payload l in
    sym (take-append-drop 17 payload) ∙ ap (λ xs. xs ++ drop 17 payload) (sym f) ∙ ap (λ xs. front ++ xs) (sym t)
    ∙ ap (λ xs. xs ++ text) (split_last 16 front long) ∙ ap (λ x. (take 16 front ++ (x ∷ [])) ++ text) feed ∙ ap (λ xs. (xs ++ (10 ∷ [])) ++ text) same ∙ append_assoc m (10 ∷ []) text

-- ---- what is no payload of a text

module _ (before payload : List ℕ) where
  pub too_short : length payload < 17 → HasNoSeal before payload
  too_short l text e = omega (arith, ap length e, length_sealed before text)

  pub no_feed : (front : List ℕ) → front ≡ take 17 payload → (get_or front 16 0 ≡ 10 → ⊥) → HasNoSeal before payload
  no_feed front f off text e =
      off (ap (λ xs. get_or xs 16 0) (f ∙ ap (take 17) e ∙ front_of_sealed before text) ∙ last_of 16 (mark before text) 10 (length_mark before text))

  pub other_mark : (front after m : List ℕ) → front ≡ take 17 payload → after ≡ drop 17 payload → m ≡ mark before after → (take 16 front ≡ m → ⊥) → HasNoSeal before payload
  other_mark front after m f b is off text e =
      let same : after ≡ text = b ∙ ap (drop 17) e ∙ text_of_sealed before text in
      let here : take 16 front ≡ mark before text = ap (take 16) (f ∙ ap (take 17) e ∙ front_of_sealed before text) ∙ take_front 16 (mark before text) (10 ∷ []) (length_mark before text) in
      off (here ∙ ap (mark before) (sym same) ∙ sym is)

-- ---- texts in a row

pub payloads_more : (m : List ℕ) (texts : List (List ℕ)) (text : List ℕ) → payloads m (texts ++ text ∷ []) ≡ payloads m texts ++ sealed (last_mark m texts) text ∷ []
payloads_more m [] text = refl
payloads_more m (t ∷ texts) text = ap (λ ps. sealed m t ∷ ps) (payloads_more (mark m t) texts text)

pub last_more : (m : List ℕ) (texts : List (List ℕ)) (text : List ℕ) → last_mark m (texts ++ text ∷ []) ≡ mark (last_mark m texts) text
last_more m [] text = refl
last_more m (t ∷ texts) text = last_more (mark m t) texts text

-- payloads after one mark are those of one list of texts
pub same_texts : (m : List ℕ) (texts others : List (List ℕ)) → payloads m texts ≡ payloads m others → texts ≡ others
same_texts m [] [] e = refl
same_texts m [] (u ∷ others) e = absurd (let w : ⊥ = cc in w)
same_texts m (t ∷ texts) [] e = absurd (let w : ⊥ = cc in w)
same_texts m (t ∷ texts) (u ∷ others) e =
    let first : sealed m t ≡ sealed m u = cc in
    let same : t ≡ u = sym (text_of_sealed m t) ∙ ap (drop 17) first ∙ text_of_sealed m u in
    let later : payloads (mark m t) texts ≡ payloads (mark m u) others = cc in
    let rest : texts ≡ others = same_texts (mark m t) texts others (later ∙ ap (λ x. payloads (mark m x) others) (sym same)) in
    λ i. same i ∷ rest i
