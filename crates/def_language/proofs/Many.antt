-- Items with commas between, as they are read one after the other.
use Rattle.std.proofs.Common.{◌≡◌, ℕ, zero, suc, ◌≤◌, Bool, true, false, List, [], ◌∷◌, ◌++◌, length, refl, sym, ap, subst, ◌∙◌, append_assoc, arith, length-append}
use Rattle.std.specs.Prelude.{Result, Ok, Err, if◌then◌else◌}
use Rattle.std.specs.List.{AllByRecursion}
use Rattle.def_language.specs.Words.{Word, comma}
use Rattle.def_language.specs.Faults.{Kind}
use Rattle.def_language.specs.Reading.{◌>>=◌, with_front, many}
use Rattle.def_language.specs.Grammar.{separated}

-- what `one` reads of an item that stands before a comma, and of the last one
pub record Reads {A : Type 0} (one : List Word → Result (A × Bool × List Word) Kind) (words : A → List Word) (Good : A → Type 0) (end left : List Word) : Type 0 where
  pub next : (x : A) (rest : List Word) → Good x → one (words x ++ comma ∷ rest) ≡ Ok (x, true, rest)
  pub last : (x : A) → Good x → one (words x ++ end) ≡ Ok (x, false, left)

pub many_again : {A : Type 0} (one : List Word → Result (A × Bool × List Word) Kind) (words : A → List Word) (Good : A → Type 0) (end left : List Word) → Reads one words Good end left
    → (n : ℕ) (x : A) (xs : List A) → length xs ≤ n → AllByRecursion Good (x ∷ xs) → many n one (separated words (x ∷ xs) ++ end) ≡ Ok (x ∷ xs, left)
unfolding many
many_again one words Good end left r zero x [] le all = rw (r.last x all.0) refl
many_again one words Good end left r (suc n) x [] le all = rw (r.last x all.0) refl
many_again one words Good end left r zero x (y ∷ xs) le all = absurd (omega arith)
many_again one words Good end left r (suc n) x (y ∷ xs) le all =
    let e : (words x ++ comma ∷ separated words (y ∷ xs)) ++ end ≡ words x ++ comma ∷ (separated words (y ∷ xs) ++ end) = append_assoc (words x) (comma ∷ separated words (y ∷ xs)) end in
    ap (many (suc n) one) e ∙ rw (r.next x (separated words (y ∷ xs) ++ end) all.0, many_again one words Good end left r n y xs (omega arith) all.1) refl

-- each item has a word, but the last may have none
pub enough : {A : Type 0} (words : A → List Word) (x : A) (xs : List A) (end : List Word) → length xs ≤ length (separated words (x ∷ xs) ++ end)
enough words x [] end = omega arith
enough words x (y ∷ xs) end =
    let e : (words x ++ comma ∷ separated words (y ∷ xs)) ++ end ≡ words x ++ comma ∷ (separated words (y ∷ xs) ++ end) = append_assoc (words x) (comma ∷ separated words (y ∷ xs)) end in
    omega (arith, enough words y xs end, length-append (words x) (comma ∷ (separated words (y ∷ xs) ++ end)), ap length e)

-- with as much fuel as there are words
pub all_again : {A : Type 0} (one : List Word → Result (A × Bool × List Word) Kind) (words : A → List Word) (Good : A → Type 0) (end left : List Word) → Reads one words Good end left
    → (xs : List A) → 1 ≤ length xs → AllByRecursion Good xs → many (length (separated words xs ++ end)) one (separated words xs ++ end) ≡ Ok (xs, left)
all_again one words Good end left r [] some all = absurd (omega arith)
all_again one words Good end left r (x ∷ xs) some all = many_again one words Good end left r (length (separated words (x ∷ xs) ++ end)) x xs (enough words x xs end) all

-- What `one` reads is an item, and then a comma or what ends the list.
abbrev pub Only : {A : Type 0} → (List Word → Result (A × Bool × List Word) Kind) → (A → List Word) → (A → Type 0) → (List Word → List Word → Type 0) → Type 0
Only {A} one words Good Ends = (ws : List Word) (x : A) (rest : List Word)
    → (one ws ≡ Ok (x, true, rest) → Good x × (ws ≡ words x ++ comma ∷ rest))
    × (one ws ≡ Ok (x, false, rest) → Good x × ((tail : List Word) × (ws ≡ words x ++ tail) × Ends tail rest))

-- the words of these items, and what ends them
pub record Items {A : Type 0} (words : A → List Word) (Good : A → Type 0) (Ends : List Word → List Word → Type 0) (ws : List Word) (xs : List A) (rest : List Word) : Type 0 where
  pub some : 1 ≤ length xs
  pub good : AllByRecursion Good xs
  pub tail : List Word
  pub is : ws ≡ separated words xs ++ tail
  pub ends : Ends tail rest

abbrev pub Listed : {A : Type 0} → List A × List Word → Result (List A × List Word) Kind
Listed x = Ok x

abbrev Bound : {A B : Type 0} → Result A Kind → (A → Result B Kind) → B → Type 0
Bound {A} r f y = (x : A) × (r ≡ Ok x) × (f x ≡ Ok y)

pub bind_ok : {A B : Type 0} (r : Result A Kind) (f : A → Result B Kind) (y : B) → (r >>= f) ≡ Ok y → Bound r f y
bind_ok (Ok x) f y e = (x, refl, e)
bind_ok (Err k) f y e = let g : ⊥ = cc in absurd g

abbrev pub SameOk : {A : Type 0} → A → A → Type 0
SameOk {A} x y = let f : A → Result A Kind = λ z. Ok z in f x ≡ f y

pub ok_is : {A : Type 0} (x y : A) → SameOk x y → x ≡ y
ok_is x y e = cc

abbrev SameList : {A : Type 0} → List A × List Word → List A × List Word → Type 0
SameList {A} x y = SameOk {A = List A × List Word} x y

last_item : {A : Type 0} (words : A → List Word) (Good : A → Type 0) (Ends : List Word → List Word → Type 0) (ws : List Word) (xs : List A) (rest : List Word) (x : A) (after : List Word)
    → Good x × ((tail : List Word) × (ws ≡ words x ++ tail) × Ends tail after) → SameList (x ∷ [], after) (xs, rest) → Items words Good Ends ws xs rest
last_item {A} words Good Ends ws xs rest x after found e =
    let read : List A × List Word = (x ∷ [], after) in
    let wanted : List A × List Word = (xs, rest) in
    let p : read ≡ wanted = ok_is read wanted e in
    let a : x ∷ [] ≡ xs = ap (λ (q : List A × List Word). q.0) p in
    let b : after ≡ rest = ap (λ (q : List A × List Word). q.1) p in
    let whole : Items words Good Ends ws (x ∷ []) after = record { some = omega arith; good = (found.0, tt); tail = found.1.0; is = found.1.1; ends = found.1.2 } in
    subst (λ (ys : List A). Items words Good Ends ws ys rest) a (subst (λ (r : List Word). Items words Good Ends ws (x ∷ []) r) b whole)

more_items : {A : Type 0} (words : A → List Word) (Good : A → Type 0) (Ends : List Word → List Word → Type 0) (ws : List Word) (xs : List A) (rest : List Word) (x : A) (after : List Word) (ys : List A) (left : List Word)
    → Good x × (ws ≡ words x ++ comma ∷ after) → Items words Good Ends after ys left → SameList (x ∷ ys, left) (xs, rest) → Items words Good Ends ws xs rest
more_items {A} words Good Ends ws xs rest x after ys left found l e =
    let read : List A × List Word = (x ∷ ys, left) in
    let wanted : List A × List Word = (xs, rest) in
    let p : read ≡ wanted = ok_is read wanted e in
    let a : x ∷ ys ≡ xs = ap (λ (q : List A × List Word). q.0) p in
    let b : left ≡ rest = ap (λ (q : List A × List Word). q.1) p in
    let whole : Items words Good Ends ws (x ∷ ys) left = by ys l.some l.is l.good in
    subst (λ (zs : List A). Items words Good Ends ws zs rest) a (subst (λ (r : List Word). Items words Good Ends ws (x ∷ ys) r) b whole) where
      by : (ys : List A) → 1 ≤ length ys → after ≡ separated words ys ++ l.tail → AllByRecursion Good ys → Items words Good Ends ws (x ∷ ys) left
      by [] some is good = absurd (omega arith)
      by (y ∷ zs) some is good = record {
        some = omega arith;
        good = (found.0, good);
        tail = l.tail;
        ends = l.ends;
        is = found.1 ∙ ap (λ (vs : List Word). words x ++ comma ∷ vs) is ∙ sym (append_assoc (words x) (comma ∷ separated words (y ∷ zs)) l.tail);
      }

abbrev More : {A : Type 0} → (List Word → Result (A × Bool × List Word) Kind) → (A → List Word) → (A → Type 0) → (List Word → List Word → Type 0) → ℕ → Type 0
More {A} one words Good Ends n = (ws : List Word) (xs : List A) (rest : List Word) → length ws ≤ n → many n one ws ≡ Ok (xs, rest) → Items words Good Ends ws xs rest

no_more : {A : Type 0} (one : List Word → Result (A × Bool × List Word) Kind) (words : A → List Word) (Good : A → Type 0) (Ends : List Word → List Word → Type 0) → Only one words Good Ends
    → (ws : List Word) (xs : List A) (rest : List Word) → length ws ≤ 0 → (x : A) (m : Bool) (after : List Word) → one ws ≡ Ok (x, m, after) → SameList (x ∷ [], after) (xs, rest) → Items words Good Ends ws xs rest
no_more one words Good Ends only ws xs rest le x true after found e =
    let is = ((only ws x after).0 found).1 in
    absurd (omega (arith, ap length is, length-append (words x) (comma ∷ after)))
no_more one words Good Ends only ws xs rest le x false after found e = last_item words Good Ends ws xs rest x after ((only ws x after).1 found) e

one_more : {A : Type 0} (one : List Word → Result (A × Bool × List Word) Kind) (words : A → List Word) (Good : A → Type 0) (Ends : List Word → List Word → Type 0) → Only one words Good Ends
    → (n : ℕ) → More one words Good Ends n → (ws : List Word) (xs : List A) (rest : List Word) → length ws ≤ suc n → (x : A) (m : Bool) (after : List Word) → one ws ≡ Ok (x, m, after)
    → (if m then with_front (x ∷ []) (many n one after) else Ok (x ∷ [], after)) ≡ Listed (xs, rest) → Items words Good Ends ws xs rest
one_more one words Good Ends only n others ws xs rest le x true after found e =
    let is = (only ws x after).0 found in
    let b = bind_ok (many n one after) _ (xs, rest) e in
    let short : length after ≤ n = omega (arith, ap length is.1, length-append (words x) (comma ∷ after)) in
    more_items words Good Ends ws xs rest x after b.0.0 b.0.1 is (others after b.0.0 b.0.1 short b.1) b.2
one_more one words Good Ends only n others ws xs rest le x false after found e = last_item words Good Ends ws xs rest x after ((only ws x after).1 found) e

pub many_only : {A : Type 0} (one : List Word → Result (A × Bool × List Word) Kind) (words : A → List Word) (Good : A → Type 0) (Ends : List Word → List Word → Type 0) → Only one words Good Ends
    → (n : ℕ) → More one words Good Ends n
unfolding many
many_only one words Good Ends only zero ws xs rest le e =
    let b = bind_ok (one ws) _ (xs, rest) e in
    no_more one words Good Ends only ws xs rest le b.0.0 b.0.1 b.0.2 b.1 b.2
many_only one words Good Ends only (suc n) ws xs rest le e =
    let b = bind_ok (one ws) _ (xs, rest) e in
    one_more one words Good Ends only n (many_only one words Good Ends only n) ws xs rest le b.0.0 b.0.1 b.0.2 b.1 b.2
