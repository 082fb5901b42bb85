-- Items one after the other, as a loop reads them.
use Rattle.std.proofs.Common.{◌≡◌, ℕ, zero, suc, ◌<◌, ◌≤◌, arith, Bool, true, false, List, [], ◌∷◌, ◌++◌, refl, sym, ap, ◌∙◌, append_assoc}
use Rattle.std.specs.Prelude.{Result, Ok, Err}
use Rattle.def_language.specs.Words.{Word}
use Rattle.def_language.specs.Faults.{Kind, BadHeader, Expected}
use Rattle.def_language.specs.Reading.{with_front, many}
use Rattle.lang_forms.specs.declared.faults.FormRefusal.{FormRefusal}
use Rattle.lang_forms.specs.declared.faults.FormRefusal.TheVariants as refusal
use Rattle.lang_forms.specs.Views.{Refuses}

none_before : {A R : Type 0} (front : List A) (read : Result (List A × R) Kind) → front ≡ [] → with_front front read ≡ read
none_before front (Ok x) e = rw e refl
none_before front (Err f) e = refl

more_before : {A R : Type 0} (front : List A) (x : A) (read : Result (List A × R) Kind) → with_front front (with_front (x ∷ []) read) ≡ with_front (front ++ x ∷ []) read
more_before {A} {R} front x (Ok y) = ap (λ (ts : List A). let r : Result (List A × R) Kind = Ok (ts, y.1) in r) (sym (append_assoc front (x ∷ []) y.0))
more_before front x (Err f) = refl

-- The items of `front`, and then what `many` reads with fuel enough, are the total.
pub record Keeps {A : Type 0} (one : List Word → Result (A × Bool × List Word) Kind) (front : List A) (words : List Word) (left : ℕ) (total : Result (List A × List Word) Kind) : Type 0 where
  pub fuel : ℕ
  pub enough : left ≤ fuel
  pub same : with_front front (many fuel one words) ≡ total

pub begins : {A : Type 0} (one : List Word → Result (A × Bool × List Word) Kind) (front : List A) (words : List Word) (left : ℕ) → front ≡ [] → Keeps one front words left (many left one words)
begins one front words left e = record { fuel = left; enough = omega arith; same = none_before front (many left one words) e }

more_with : {A : Type 0} (fuel : ℕ) (one : List Word → Result (A × Bool × List Word) Kind) (front : List A) (words : List Word) (total : Result (List A × List Word) Kind) (x : A) (rest : List Word) (after : ℕ)
    → after < fuel → with_front front (many fuel one words) ≡ total → one words ≡ Ok (x, true, rest) → Keeps one (front ++ x ∷ []) rest after total
unfolding many
more_with zero one front words total x rest after lt same found = absurd (omega arith)
more_with (suc n) one front words total x rest after lt same found =
    let f : with_front front (with_front (x ∷ []) (many n one rest)) ≡ total = rw found at same in
    record { fuel = n; enough = omega arith; same = sym (more_before front x (many n one rest)) ∙ f }

pub more : {A : Type 0} (one : List Word → Result (A × Bool × List Word) Kind) (front : List A) (words : List Word) (left : ℕ) (total : Result (List A × List Word) Kind) (x : A) (rest : List Word) (after : ℕ)
    → Keeps one front words left total → after < left → one words ≡ Ok (x, true, rest) → Keeps one (front ++ x ∷ []) rest after total
more one front words left total x rest after k lt found = more_with k.fuel one front words total x rest after (omega (arith, k.enough)) k.same found

last_with : {A : Type 0} (fuel : ℕ) (one : List Word → Result (A × Bool × List Word) Kind) (front : List A) (words : List Word) (total : Result (List A × List Word) Kind) (x : A) (rest : List Word)
    → with_front front (many fuel one words) ≡ total → one words ≡ Ok (x, false, rest) → total ≡ Ok (front ++ x ∷ [], rest)
unfolding many
last_with zero one front words total x rest same found = sym (rw found at same)
last_with (suc n) one front words total x rest same found = sym (rw found at same)

pub last : {A : Type 0} (one : List Word → Result (A × Bool × List Word) Kind) (front : List A) (words : List Word) (left : ℕ) (total : Result (List A × List Word) Kind) (x : A) (rest : List Word)
    → Keeps one front words left total → one words ≡ Ok (x, false, rest) → total ≡ Ok (front ++ x ∷ [], rest)
last one front words left total x rest k found = last_with k.fuel one front words total x rest k.same found

fault_with : {A : Type 0} (fuel : ℕ) (one : List Word → Result (A × Bool × List Word) Kind) (front : List A) (words : List Word) (total : Result (List A × List Word) Kind) (f : Kind)
    → with_front front (many fuel one words) ≡ total → one words ≡ Err f → total ≡ Err f
unfolding many
fault_with zero one front words total f same found = sym (rw found at same)
fault_with (suc n) one front words total f same found = sym (rw found at same)

pub fails : {A : Type 0} (e : FormRefusal) (one : List Word → Result (A × Bool × List Word) Kind) (front : List A) (words : List Word) (left : ℕ) (total : Result (List A × List Word) Kind)
    → Keeps one front words left total → Refuses e (one words) → Refuses e total
fails refusal.BadHeader one front words left total k found = fault_with k.fuel one front words total BadHeader k.same found
fails (refusal.Expected wanted) one front words left total k found = fault_with k.fuel one front words total (Expected wanted) k.same found
fails refusal.Memory one front words left total k found = tt
