-- What a sink took: some bytes and then others, or a prefix of them.
use Rattle.std.proofs.Common.{◌≡◌, ℕ, zero, suc, ◌+◌, List, [], ◌∷◌, ◌++◌, length, take, refl, sym, ap, subst, ◌∙◌, arith, append-nil}
use Rattle.std.specs.Prelude.{Option, Some, None}
use Rattle.std.specs.Io.KnownBytes.{Appends, Keeps}
use Rattle.std.proofs.KnownBytes.{Appends-trans}
use Rattle.base_devices.specs.Writing.{TakesPrefix}

-- the front, and then some of what follows
take_after : (front ys : List ℕ) (k : ℕ) → take (length front + k) (front ++ ys) ≡ front ++ take k ys
take_after [] ys k = ap (λ n. take n ys) (let z : 0 + k ≡ k = omega arith in z)
take_after (x ∷ front) ys k =
    ap (λ n. take n (x ∷ front ++ ys)) (let z : suc (length front) + k ≡ suc (length front + k) = omega arith in z)
    ∙ ap (λ l. x ∷ l) (take_after front ys k)

-- a prefix of the reply is one of the reply and more
take_less : (reply rest : List ℕ) (count : ℕ) → (k : ℕ) × (take count reply ≡ take k (reply ++ rest))
take_less reply rest zero = (0, refl)
take_less [] rest (suc count) = (0, refl)
take_less (x ∷ reply) rest (suc count) =
    let shorter = take_less reply rest count in
    (suc shorter.0, ap (λ l. x ∷ l) shorter.1)

-- after the front the sink took a prefix, so it took one of all
pub takes_after : (a b c : Option (List ℕ)) (front bytes : List ℕ) → Appends a b front → TakesPrefix b c bytes → TakesPrefix a c (front ++ bytes)
takes_after a b c front bytes first next =
    (length front + next.0, subst (Appends a c) (sym (take_after front bytes next.0)) (Appends-trans a b c front (take next.0 bytes) first next.1))

-- it took a prefix of the reply
pub takes_less : (a b : Option (List ℕ)) (reply rest : List ℕ) → TakesPrefix a b reply → TakesPrefix a b (reply ++ rest)
takes_less a b reply rest part =
    let less = take_less reply rest part.0 in
    (less.0, subst (Appends a b) less.1 part.1)

-- it took nothing
pub keeps_all : (a b : Option (List ℕ)) → Keeps a b → Appends a b []
keeps_all None b keeps = tt
keeps_all (Some xs) None keeps = keeps
keeps_all (Some xs) (Some ys) keeps = keeps ∙ sym (append-nil xs)

pub takes_none : (a b : Option (List ℕ)) (bytes : List ℕ) → Keeps a b → TakesPrefix a b bytes
takes_none a b bytes keeps = (0, keeps_all a b keeps)
