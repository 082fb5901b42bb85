-- A length in 4 bytes tells where a payload ends.
use Rattle.std.proofs.Common.{◌≡◌, ℕ, zero, suc, ◌+◌, ◌<◌, ◌≤◌, ◌^◌, ap, refl, ◌∙◌, sym, subst, List, [], ◌∷◌, ◌++◌, length, take, drop, arith, get_or, append_assoc, length-append}
use Rattle.std.specs.Int.{w32, to_be_bytes, from_be_bytes}
use Rattle.std.proofs.lemmas.Nat.{be_bytes_4, from_be_bytes-to_be_bytes_4}
use Rattle.std.proofs.lemmas.List.{take-append-drop, length-take-le}
use Rattle.base_roll.specs.Format.{framed}

-- two joined lists whose fronts are as long
pub same_parts : (p q x y : List ℕ) → length p ≡ length q → p ++ x ≡ q ++ y → (p ≡ q) × (x ≡ y)
same_parts [] [] x y e f = (refl, f)
same_parts [] (b ∷ q) x y e f = absurd (omega arith)
same_parts (a ∷ p) [] x y e f = absurd (omega arith)
same_parts (a ∷ p) (b ∷ q) x y e f =
    let rest : (p ≡ q) × (x ≡ y) = same_parts p q x y (omega arith) (ap (drop 1) f) in
    let first : a ≡ b = ap (λ xs. get_or xs 0 0) f in
    ((λ i. first i ∷ rest.0 i), rest.1)

pub frames_apart : (p q x y : List ℕ) → length p < 2 ^ 32 → length q < 2 ^ 32 → framed p ++ x ≡ framed q ++ y → (p ≡ q) × (x ≡ y)
unfolding framed
frames_apart p q x y l m e =
    let heads : to_be_bytes w32 (length p) ≡ to_be_bytes w32 (length q) = ap (take 4) e in
    let lengths : length p ≡ length q = sym (from_be_bytes-to_be_bytes_4 (length p) l) ∙ ap (from_be_bytes w32) heads ∙ from_be_bytes-to_be_bytes_4 (length q) m in
    let tails : p ++ x ≡ q ++ y = ap (drop 4) e in
    same_parts p q x y lengths tails

pub length_framed : (p : List ℕ) → length (framed p) ≡ 4 + length p
unfolding framed
length_framed p = omega (arith, length-append (to_be_bytes w32 (length p)) p)

-- bytes that begin with a length, and have so many bytes after it, begin with a frame
pub frame_there : (bytes front rest : List ℕ) (count : ℕ) → bytes ≡ front ++ rest → length front ≡ 4 → ((i : ℕ) → get_or front i 0 < 256) → count ≡ from_be_bytes w32 front → count ≤ length rest
    → bytes ≡ framed (take count rest) ++ drop count rest
unfolding framed
frame_there bytes front rest count e four small is l =
    let head : to_be_bytes w32 count ≡ front = be_bytes_4 front count four small is in
    let long : length (take count rest) ≡ count = length-take-le count rest l in
    e ∙ ap (λ xs. xs ++ rest) (sym head) ∙ ap (λ n. to_be_bytes w32 n ++ rest) (sym long)
    ∙ ap (λ xs. to_be_bytes w32 (length (take count rest)) ++ xs) (sym (take-append-drop count rest))
    ∙ sym (append_assoc (to_be_bytes w32 (length (take count rest))) (take count rest) (drop count rest))

-- a frame at the front has its length in the first 4 bytes
pub frame_tells : (bytes front rest payload more : List ℕ) (count : ℕ) → bytes ≡ front ++ rest → length front ≡ 4 → count ≡ from_be_bytes w32 front → length payload < 2 ^ 32
    → bytes ≡ framed payload ++ more → (count ≡ length payload) × (rest ≡ payload ++ more)
unfolding framed
frame_tells bytes front rest payload more count e four is l f =
    let g : front ++ rest ≡ to_be_bytes w32 (length payload) ++ (payload ++ more) = sym e ∙ f ∙ append_assoc (to_be_bytes w32 (length payload)) payload more in
    let s = same_parts front (to_be_bytes w32 (length payload)) rest (payload ++ more) four g in
    (is ∙ ap (from_be_bytes w32) s.0 ∙ from_be_bytes-to_be_bytes_4 (length payload) l, s.1)

-- no frame is shorter than its length
pub frame_long : (bytes payload more : List ℕ) → bytes ≡ framed payload ++ more → 4 + length payload ≤ length bytes
frame_long bytes payload more e = omega (arith, ap length e, length-append (framed payload) more, length_framed payload)

small_taken : (n : ℕ) (bytes : List ℕ) (i : ℕ) → ((j : ℕ) → get_or bytes j 0 < 256) → get_or (take n bytes) i 0 < 256
small_taken zero bytes i h = omega arith
small_taken (suc n) [] i h = omega arith
small_taken (suc n) (b ∷ bytes) zero h = h 0
small_taken (suc n) (b ∷ bytes) (suc i) h = small_taken n bytes i (λ j. h (suc j))

four_first : (bytes front rest : List ℕ) → front ≡ take 4 bytes → rest ≡ drop 4 bytes → bytes ≡ front ++ rest
four_first bytes front rest f r = sym (take-append-drop 4 bytes) ∙ ap (λ xs. xs ++ drop 4 bytes) (sym f) ∙ ap (λ xs. front ++ xs) (sym r)

-- the payload after a length of so many bytes, and what stands after it
pub frame_split : (bytes front rest p q : List ℕ) (count : ℕ) → front ≡ take 4 bytes → rest ≡ drop 4 bytes → 4 ≤ length bytes → ((i : ℕ) → get_or bytes i 0 < 256) → count ≡ from_be_bytes w32 front → count ≤ length rest
    → p ≡ take count rest → q ≡ drop count rest → bytes ≡ framed p ++ q
frame_split bytes front rest p q count f r l bounded is within a b =
    let four : length front ≡ 4 = ap length f ∙ length-take-le 4 bytes l in
    let small : (i : ℕ) → get_or front i 0 < 256 = λ i. subst (λ xs. get_or xs i 0 < 256) (sym f) (small_taken 4 bytes i bounded) in
    frame_there bytes front rest count (four_first bytes front rest f r) four small is within ∙ ap (λ xs. framed xs ++ drop count rest) (sym a) ∙ ap (λ xs. framed p ++ xs) (sym b)

-- if fewer bytes are left than the length tells, no frame stands there
pub no_frame : (bytes front rest : List ℕ) (count : ℕ) → front ≡ take 4 bytes → rest ≡ drop 4 bytes → 4 ≤ length bytes → count ≡ from_be_bytes w32 front → length rest < count
    → (payload more : List ℕ) → length payload < 2 ^ 32 → bytes ≡ framed payload ++ more → ⊥
no_frame bytes front rest count f r l is few payload more small e =
    let told = frame_tells bytes front rest payload more count (four_first bytes front rest f r) (ap length f ∙ length-take-le 4 bytes l) is small e in
    omega (arith, told.0, ap length told.1, length-append payload more)

pub too_short : (bytes payload more : List ℕ) → length bytes < 4 → bytes ≡ framed payload ++ more → ⊥
too_short bytes payload more few e = let long : 4 + length payload ≤ length bytes = frame_long bytes payload more e in omega arith
