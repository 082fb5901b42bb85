-- Lines that are each ended by a line feed, and how many they are.
use Rattle.std.specs.Prelude.{◌≡◌, ◌+◌, ◌-◌, ◌<◌, ◌≤◌, ◌^◌, ◌%◌, ℕ, suc, Bool, true, false, List, [], ◌∷◌, ◌++◌, length, codes, drop}
use Rattle.std.proofs.Common.{refl, sym, ap, subst, ◌∙◌, arith, cond}
use Rattle.std.proofs.lemmas.Bool.Decides.{nat_tests, Decides-eqb}
use Rattle.std.proofs.lemmas.List.{append_assoc, length-append}
use Rattle.std.proofs.lemmas.List.Elements.{All-cons, All-nil, recursion_from_All}
use Rattle.std.proofs.lemmas.List.Prefix.{end_rest}
use Rattle.std.proofs.lemmas.List.Sums.{sum_by-append, sum_by-cons}
use Rattle.std.proofs.lemmas.Fmt.{decimal_by_steps}
use Rattle.std.specs.Fmt.{decimal}
use Rattle.std.specs.List.{AllByRecursion, count_by}
use Rattle.def_language.specs.Bytes.{is_line_feed}
use Rattle.lang_reader.specs.Places.{IsOneLine}
use Rattle.audit_claims.specs.Forms.{IsOf, HasLines, counted, ended}

abbrev pub feeds : List ℕ → ℕ
feeds bs = count_by is_line_feed bs

abbrev one : ℕ → ℕ
one b = cond (is_line_feed b) 1 0

joined : (xs ys : List ℕ) → feeds (xs ++ ys) ≡ feeds xs + feeds ys
joined xs ys = sum_by-append one xs ys

further : (x : ℕ) (xs : List ℕ) → feeds (x ∷ xs) ≡ one x + feeds xs
further x xs = sum_by-cons one x xs

after_feed : (xs : List ℕ) → feeds (10 ∷ xs) ≡ suc (feeds xs)
after_feed xs = let e = further 10 xs in omega (arith, e)

none_in : (xs : List ℕ) → AllByRecursion (λ b. is_line_feed b ≡ false) xs → feeds xs ≡ 0
none_in [] none = refl
none_in (x ∷ xs) none =
    let e : feeds (x ∷ xs) ≡ one x + feeds xs = further x xs in
    let no : one x ≡ 0 = ap (λ b. cond b 1 0) none.0 in
    omega (arith, e, no, none_in xs none.1)

single_none : (line : List ℕ) → IsOneLine line → feeds line ≡ 0
single_none line single = none_in line (recursion_from_All (λ b. is_line_feed b ≡ false) line single)

-- Each line brings one line feed.
pub feeds_ended : (lines : List (List ℕ)) → AllByRecursion IsOneLine lines → feeds (ended lines) ≡ length lines
feeds_ended [] single = refl
feeds_ended (l ∷ ls) single =
    let a = joined (l ++ 10 ∷ []) (ended ls) in
    let b = joined l (10 ∷ []) in
    let one_more : feeds (10 ∷ []) ≡ 1 = refl in
    omega (arith, a, b, one_more, single_none l single.0, feeds_ended ls single.1)

digit : (n : ℕ) → n < 10 → feeds ((48 + n) ∷ []) ≡ 0
digit n low =
    let e : feeds ((48 + n) ∷ []) ≡ one (48 + n) + feeds [] = further (48 + n) [] in
    let apart : is_line_feed (48 + n) ≡ false = grind (arith, nat_tests) in
    let no : one (48 + n) ≡ 0 = ap (λ b. cond b 1 0) apart in
    let nil : feeds [] ≡ 0 = refl in
    omega (arith, e, no, nil)

digits : (n : ℕ) → n < 2 ^ 64 → feeds (decimal n) ≡ 0
digits n low =
    decimal_by_steps (λ k ds. feeds ds ≡ 0) digit
    (λ k ds more e. let j = joined ds ((48 + k % 10) ∷ []) in let d = digit (k % 10) (omega arith) in omega (arith, j, d, e)) n low

-- The first line brings one more.
pub feeds_counted : (n : ℕ) (rest : List ℕ) → n < 2 ^ 64 → feeds (counted n rest) ≡ suc (feeds rest)
feeds_counted n rest low =
    let a = joined (codes "trace ") (decimal n ++ 10 ∷ rest) in
    let b = joined (decimal n) (10 ∷ rest) in
    let word : feeds (codes "trace ") ≡ 0 = refl in
    omega (arith, a, b, word, digits n low, after_feed rest)

-- ---- what ends with a line feed is lines

pub record Cut (bs : List ℕ) : Type 0 where
  pub first : List ℕ
  pub others : List (List ℕ)
  pub of : IsOf bs (first ∷ others)
  pub count : feeds bs ≡ suc (length others)

longer : (b : ℕ) (bs : List ℕ) (c : Bool) → is_line_feed b ≡ c → Cut bs → Cut (b ∷ bs)
longer b bs true e rest =
    let is : b ≡ 10 = (Decides-eqb b 10).0 e in
    record {
      first = [];
      others = rest.first ∷ rest.others;
      of = record { same = ap (λ x. x ∷ bs) is ∙ ap (λ t. 10 ∷ t) rest.of.same; single = (All-nil (λ b. is_line_feed b ≡ false), rest.of.single) };
      count = let f = further b bs in let one_more : one b ≡ 1 = ap (λ b. cond b 1 0) e in omega (arith, f, one_more, rest.count);
    }
longer b bs false e rest =
    record {
      first = b ∷ rest.first;
      others = rest.others;
      of = record { same = ap (λ t. b ∷ t) rest.of.same; single = (All-cons (λ b. is_line_feed b ≡ false) b rest.first e rest.of.single.0, rest.of.single.1) };
      count = let f = further b bs in let no : one b ≡ 0 = ap (λ b. cond b 1 0) e in omega (arith, f, no, rest.count);
    }

cut : (front : List ℕ) → Cut (front ++ 10 ∷ [])
cut [] = record { first = []; others = []; of = record { same = refl; single = (All-nil (λ b. is_line_feed b ≡ false), tt) }; count = refl }
cut (b ∷ front) = longer b (front ++ 10 ∷ []) (is_line_feed b) refl (cut front)

pub record Lines (bs : List ℕ) : Type 0 where
  pub lines : List (List ℕ)
  pub of : IsOf bs lines
  pub count : feeds bs ≡ length lines

-- the last byte
record Last (bs : List ℕ) : Type 0 where
  front : List ℕ
  byte : ℕ
  is : bs ≡ front ++ byte ∷ []

last_of : (b : ℕ) (bs : List ℕ) → Last (b ∷ bs)
last_of b [] = record { front = []; byte = b; is = refl }
last_of b (x ∷ xs) = let l = last_of x xs in record { front = b ∷ l.front; byte = l.byte; is = ap (λ t. b ∷ t) l.is }

same_last : (x y : ℕ) (xs ys : List ℕ) → xs ++ x ∷ [] ≡ ys ++ y ∷ [] → x ≡ y
same_last x y xs ys e =
    let a : drop (length (xs ++ x ∷ []) - 1) (xs ++ x ∷ []) ≡ x ∷ [] = end_rest (xs ++ x ∷ []) (x ∷ []) xs refl in
    let b : drop (length (xs ++ x ∷ []) - 1) (xs ++ x ∷ []) ≡ y ∷ [] = end_rest (xs ++ x ∷ []) (y ∷ []) ys e in
    cc

-- What stands at the end of a text that ends with a line feed is lines.
pub lines_at_end : (head rest front : List ℕ) → head ++ rest ≡ front ++ 10 ∷ [] → Lines rest
lines_at_end head [] front e = record { lines = []; of = record { same = refl; single = tt }; count = refl }
lines_at_end head (b ∷ bs) front e =
    let l = last_of b bs in
    let whole : (head ++ l.front) ++ l.byte ∷ [] ≡ front ++ 10 ∷ [] = append_assoc head l.front (l.byte ∷ []) ∙ ap (λ t. head ++ t) (sym l.is) ∙ e in
    let feed : l.byte ≡ 10 = same_last l.byte 10 (head ++ l.front) front whole in
    let is : b ∷ bs ≡ l.front ++ 10 ∷ [] = l.is ∙ ap (λ x. l.front ++ x ∷ []) feed in
    let it = cut l.front in
    subst Lines (sym is) (record { lines = it.first ∷ it.others; of = it.of; count = it.count })

-- ---- and lines end with one

record Feed (bs : List ℕ) : Type 0 where
  front : List ℕ
  is : bs ≡ front ++ 10 ∷ []

feed_last : (lines : List (List ℕ)) → Feed (10 ∷ ended lines)
feed_last [] = record { front = []; is = refl }
feed_last (l ∷ ls) =
    let f = feed_last ls in
    record {
      front = 10 ∷ (l ++ f.front);
      is = ap (λ t. 10 ∷ t) (append_assoc l (10 ∷ []) (ended ls) ∙ ap (λ t. l ++ t) f.is ∙ sym (append_assoc l f.front (10 ∷ [])));
    }

pub counted_ends : (n : ℕ) (lines : List (List ℕ)) → (front : List ℕ) × (counted n (ended lines) ≡ front ++ 10 ∷ [])
counted_ends n lines =
    let f = feed_last lines in
    (codes "trace " ++ (decimal n ++ f.front), ap (λ t. codes "trace " ++ t) (ap (λ t. decimal n ++ t) f.is ∙ sym (append_assoc (decimal n) f.front (10 ∷ []))))

-- The first line, and what follows it.
pub counted_apart : (n : ℕ) (rest : List ℕ) → counted n [] ++ rest ≡ counted n rest
counted_apart n rest = ap (λ t. codes "trace " ++ t) (append_assoc (decimal n) (10 ∷ []) rest)

long : (lines : List (List ℕ)) → length lines ≤ length (ended lines)
long [] = omega arith
long (l ∷ ls) = let a = length-append (l ++ 10 ∷ []) (ended ls) in let b = length-append l (10 ∷ []) in let c = long ls in omega (arith, a, b, c)

-- A text with such lines has one line feed more than lines.
pub feeds_lines : (text : List ℕ) (lines : List (List ℕ)) → length text < 2 ^ 64 → HasLines text lines → feeds text ≡ suc (length lines)
feeds_lines text lines low has =
    let a = length-append (codes "trace ") (decimal (length lines) ++ 10 ∷ ended lines) in
    let b = length-append (decimal (length lines)) (10 ∷ ended lines) in
    let whole : length text ≡ length (counted (length lines) (ended lines)) = ap length has.head in
    let few : length lines < 2 ^ 64 = omega (arith, a, b, whole, long lines, low) in
    ap feeds has.head ∙ feeds_counted (length lines) (ended lines) few ∙ ap (λ n. suc n) (feeds_ended lines has.of.single)

-- A text that ends with a line feed has one.
pub feeds_past : (text front : List ℕ) → text ≡ front ++ 10 ∷ [] → 1 ≤ feeds text
feeds_past text front e =
    let a = joined front (10 ∷ []) in
    let b : feeds (10 ∷ []) ≡ 1 = refl in
    let whole : feeds text ≡ feeds (front ++ 10 ∷ []) = ap feeds e in
    omega (arith, a, b, whole)
