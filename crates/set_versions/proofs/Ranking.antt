-- Ranks never fall along the order of tuples, so they may be compared first.
use Rattle.std.proofs.Common.{◌≡◌, ℕ, zero, suc, ◌<◌, ◌≤◌, ◌+◌, ◌-◌, ◌*◌, min, ap, refl, sym, ◌∙◌, subst, Bool, true, false, cond, List, [], ◌∷◌, slice_get, ℤ, pos, negsuc, Option, Some, None, arith}
use Rattle.std.proofs.lemmas.Bool.{le-ltb, ltb-true, ltb-false}
use Rattle.std.proofs.lemmas.Cmp.{ranked}
use Rattle.std.proofs.lemmas.Nat.{mul-le}
use Rattle.std.specs.Prelude.{nat_lt}
use Rattle.std.specs.Cmp.Lexicographic.{slice_cmp}
use Rattle.std.specs.Ordering.{int_cmp, nat_cmp, ordering_then, MatchOrdering}
use Rattle.std.specs.declared.cmp.Ordering.{Ordering}
use Rattle.std.specs.declared.cmp.Ordering.TheVariants.{Less, Equal, Greater}
use Rattle.def_chase.specs.Values.{Datum, Number, Text, Unknown, Fact, datum_cmp, fact_cmp, null_cmp, NullName}
use Rattle.set_versions.specs.Cells.{value_in, values_cmp}
use Rattle.set_versions.specs.Ranks.{after_byte, bytes_after, first_byte, kind_span, middle, null_rank, number_rank, rank_at, rank_of, value_rank, value_span, word_rank}
use Rattle.set_versions.specs.Zones.{place_beyond, place_lead}

-- Numbers x and y that do not fall along the answer o.
abbrev pub Follow : Ordering → ℕ → ℕ → Type 0
Follow o x y = MatchOrdering o (x ≤ y) (x ≡ y) (y ≤ x)

-- They may be compared first.
pub first_told : (o : Ordering) (x y : ℕ) → Follow o x y → ordering_then (nat_cmp x y) o ≡ o
first_told o x y h = by o (nat_cmp x y) (ranked x y (nat_cmp x y) refl) h
  where
    by : (o a : Ordering) → MatchOrdering a (x < y) (x ≡ y) (y < x) → Follow o x y → ordering_then a o ≡ o
    by Less Less m h = refl
    by Less Equal m h = refl
    by Less Greater m h = absurd (omega arith)
    by Equal Less m h = absurd (omega arith)
    by Equal Equal m h = refl
    by Equal Greater m h = absurd (omega arith)
    by Greater Less m h = absurd (omega arith)
    by Greater Equal m h = refl
    by Greater Greater m h = refl

-- What follows a first answer follows both.
first_only : (a o : Ordering) (x y : ℕ) → Follow a x y → Follow (ordering_then a o) x y
first_only Less o x y h = h
first_only Equal o x y h = tied o h
  where
    tied : (o : Ordering) → x ≡ y → Follow o x y
    tied Less h = omega arith
    tied Equal h = h
    tied Greater h = omega arith
first_only Greater o x y h = h

-- With a number in front that is compared first, where those after it stay below r.
after : (r a b x y : ℕ) → x < r → a < b → a * r + x ≤ b * r + y
after r a b x y h k =
    let e : suc a * r ≤ b * r = mul-le (suc a) r b r k (omega arith) in
    let f : suc a * r ≡ a * r + r = grind arith in
    omega arith

both : (r a b x y : ℕ) (o : Ordering) → x < r → y < r → Follow o x y → Follow (ordering_then (nat_cmp a b) o) (a * r + x) (b * r + y)
both r a b x y o h k f = by (nat_cmp a b) (ranked a b (nat_cmp a b) refl) o f
  where
    by : (c : Ordering) → MatchOrdering c (a < b) (a ≡ b) (b < a) → (o : Ordering) → Follow o x y → Follow (ordering_then c o) (a * r + x) (b * r + y)
    by Less m o f = after r a b x y h m
    by Equal m Less f = subst (λ c. a * r + x ≤ c * r + y) m (omega arith)
    by Equal m Equal f = subst (λ c. a * r + x ≡ c * r + y) m (ap (λ z. a * r + z) f)
    by Equal m Greater f = subst (λ c. c * r + y ≤ a * r + x) m (omega arith)
    by Greater m o f = after r b a y x k m

capped : (x y m : ℕ) → Follow (nat_cmp x y) (min x m) (min y m)
capped x y m = by (nat_cmp x y) (ranked x y (nat_cmp x y) refl)
  where
    by : (c : Ordering) → MatchOrdering c (x < y) (x ≡ y) (y < x) → Follow c (min x m) (min y m)
    by Less k = omega arith
    by Equal k = ap (λ z. min z m) k
    by Greater k = omega arith

-- ---- values

-- Of two numbers neither of which is less.
level : {a b : ℕ} → nat_lt a b ≡ false → nat_lt b a ≡ false → a ≡ b
level {a} {b} h k =
    let p : b ≤ a = ltb-false a b h in
    let q : a ≤ b = ltb-false b a k in
    omega arith

numbers : (i j : ℤ) → Follow (int_cmp i j) (number_rank i) (number_rank j)
numbers (pos a) (pos b) = by (nat_lt a b) refl (nat_lt b a) refl
  where
    by : (p : Bool) → nat_lt a b ≡ p → (q : Bool) → nat_lt b a ≡ q → Follow (cond p Less (cond q Greater Equal)) (number_rank (pos a)) (number_rank (pos b))
    by true h q k = let l : a < b = ltb-true a b h in omega arith
    by false h true k = let l : b < a = ltb-true b a k in omega arith
    by false h false k = let e : a ≡ b = level h k in ap (λ z. middle + min z (middle - 1)) e
numbers (pos a) (negsuc b) = omega arith
numbers (negsuc a) (pos b) = omega arith
numbers (negsuc a) (negsuc b) = by (nat_lt b a) refl (nat_lt a b) refl
  where
    by : (p : Bool) → nat_lt b a ≡ p → (q : Bool) → nat_lt a b ≡ q → Follow (cond p Less (cond q Greater Equal)) (number_rank (negsuc a)) (number_rank (negsuc b))
    by true h q k = let l : b < a = ltb-true b a h in omega arith
    by false h true k = let l : a < b = ltb-true a b k in omega arith
    by false h false k = let e : a ≡ b = level k h in ap (λ z. middle - min (suc z) (middle - 1)) e

-- ---- words

byte_small : (v : List ℕ) → first_byte v ≤ 255
byte_small [] = omega arith
byte_small (b ∷ bs) = omega arith

bytes_above : (n k l : ℕ) (v w : List ℕ) → k < l → bytes_after n k v ≤ bytes_after n l w
bytes_above zero k l v w h = omega arith
bytes_above (suc n) k l v w h =
    let small : first_byte v ≤ 255 = byte_small v in
    bytes_above n (k * 256 + first_byte v) (l * 256 + first_byte w) (after_byte v) (after_byte w) (omega arith)

same : (o : Ordering) (x : ℕ) → Follow o x x
same Less x = omega arith
same Equal x = refl
same Greater x = omega arith

-- After a byte of 255 or more nothing is compared.
last_byte : (b : ℕ) (bs : List ℕ) → 255 ≤ b → after_byte (b ∷ bs) ≡ []
last_byte b bs h = ap (λ t. cond t bs []) (le-ltb b 255 h)

-- A lower byte in front.
lower_byte : (n k b c : ℕ) (bs cs : List ℕ) → b < c → bytes_after (suc n) k (b ∷ bs) ≤ bytes_after (suc n) k (c ∷ cs)
lower_byte n k b c bs cs h = by (nat_lt b 255) refl
  where
    by : (p : Bool) → nat_lt b 255 ≡ p → bytes_after (suc n) k (b ∷ bs) ≤ bytes_after (suc n) k (c ∷ cs)
    by true e =
        let l : b < 255 = ltb-true b 255 e in
        bytes_above n (k * 256 + min b 255) (k * 256 + min c 255) (after_byte (b ∷ bs)) (after_byte (c ∷ cs)) (omega arith)
    by false e =
        let l : 255 ≤ b = ltb-false b 255 e in
        let d : min b 255 ≡ min c 255 = omega arith in
        rw (last_byte b bs l, last_byte c cs (omega arith), d) (same Less (bytes_after n (k * 256 + min c 255) []))

-- No word comes before the empty one.
least : (w : List ℕ) {x y : ℕ} → Follow (slice_cmp nat_cmp [] w) x y → x ≤ y
least [] f = omega (arith, f)
least (b ∷ bs) f = f

greatest : (w : List ℕ) {x y : ℕ} → Follow (slice_cmp nat_cmp w []) x y → y ≤ x
greatest [] f = omega (arith, f)
greatest (b ∷ bs) f = f

bytes : (n k : ℕ) (v w : List ℕ) → Follow (slice_cmp nat_cmp v w) (bytes_after n k v) (bytes_after n k w)
bytes zero k v w = same (slice_cmp nat_cmp v w) k
bytes (suc n) k [] [] = refl
bytes (suc n) k [] (c ∷ cs) = first c (least cs (bytes n (k * 256 + 0) [] cs))
  where
    first : (c : ℕ) → bytes_after n (k * 256 + 0) [] ≤ bytes_after n (k * 256 + 0) cs → bytes_after n (k * 256 + 0) [] ≤ bytes_after n (k * 256 + min c 255) (after_byte (c ∷ cs))
    first zero f = f
    first (suc c) f = bytes_above n (k * 256 + 0) (k * 256 + min (suc c) 255) [] (after_byte (suc c ∷ cs)) (omega arith)
bytes (suc n) k (b ∷ bs) [] = first b (greatest bs (bytes n (k * 256 + 0) bs []))
  where
    first : (b : ℕ) → bytes_after n (k * 256 + 0) [] ≤ bytes_after n (k * 256 + 0) bs → bytes_after n (k * 256 + 0) [] ≤ bytes_after n (k * 256 + min b 255) (after_byte (b ∷ bs))
    first zero f = f
    first (suc b) f = bytes_above n (k * 256 + 0) (k * 256 + min (suc b) 255) [] (after_byte (suc b ∷ bs)) (omega arith)
bytes (suc n) k (b ∷ bs) (c ∷ cs) = by (nat_cmp b c) (ranked b c (nat_cmp b c) refl) (bytes n (k * 256 + min b 255) bs cs)
  where
    alike : (p : Bool) → Follow (slice_cmp nat_cmp bs cs) (bytes_after n (k * 256 + min b 255) bs) (bytes_after n (k * 256 + min b 255) cs)
        → Follow (slice_cmp nat_cmp bs cs) (bytes_after n (k * 256 + min b 255) (cond p bs [])) (bytes_after n (k * 256 + min b 255) (cond p cs []))
    alike true f = f
    alike false f = same (slice_cmp nat_cmp bs cs) (bytes_after n (k * 256 + min b 255) [])

    by : (o : Ordering) → MatchOrdering o (b < c) (b ≡ c) (c < b) → Follow (slice_cmp nat_cmp bs cs) (bytes_after n (k * 256 + min b 255) bs) (bytes_after n (k * 256 + min b 255) cs)
        → Follow (ordering_then o (slice_cmp nat_cmp bs cs)) (bytes_after (suc n) k (b ∷ bs)) (bytes_after (suc n) k (c ∷ cs))
    by Less m f = lower_byte n k b c bs cs m
    by Equal m f = subst (λ d. Follow (slice_cmp nat_cmp bs cs) (bytes_after (suc n) k (b ∷ bs)) (bytes_after (suc n) k (d ∷ cs))) m (alike (nat_lt b 255) f)
    by Greater m f = lower_byte n k c b cs bs m

-- What numbers below m stay below with n bytes after them.
abbrev room : ℕ → ℕ → ℕ
room zero m = m
room (suc n) m = room n (m * 256)

-- Bytes of a word stay below what there is room for.
pub bytes_small : (n k m : ℕ) (w : List ℕ) → k < m → bytes_after n k w < room n m
bytes_small zero k m w h = h
bytes_small (suc n) k m w h =
    let small : first_byte w ≤ 255 = byte_small w in
    bytes_small n (k * 256 + first_byte w) (m * 256) (after_byte w) (omega arith)

five_bytes : (w : List ℕ) → bytes_after 5 0 w ≡ word_rank w
five_bytes w = let e : 0 + first_byte w ≡ first_byte w = omega arith in ap (λ k. bytes_after 4 k (after_byte w)) e

words : (v w : List ℕ) → Follow (slice_cmp nat_cmp v w) (word_rank v) (word_rank w)
words v w = rw (sym (five_bytes v), sym (five_bytes w)) (bytes 5 0 v w)

word_small : (w : List ℕ) → word_rank w < kind_span
word_small w =
    let e = five_bytes w in
    let h : bytes_after 5 0 w < 1099511627776 = bytes_small 5 0 1 w (omega arith) in
    omega (arith, e, h)

number_small : (i : ℤ) → number_rank i < kind_span
number_small (pos n) = omega arith
number_small (negsuc n) = omega arith

-- ---- nulls

null_small : (u p : ℕ) → null_rank u p < kind_span
null_small u p = omega arith

nulls : (m n : NullName) → Follow (null_cmp m n) (null_rank m.update m.place) (null_rank n.update n.place)
nulls m n = by (nat_cmp m.update n.update) (ranked m.update n.update (nat_cmp m.update n.update) refl)
  where
    places : Follow (ordering_then (nat_cmp m.place n.place) (nat_cmp m.attempt n.attempt)) (min m.place 8191) (min n.place 8191)
    places = first_only (nat_cmp m.place n.place) (nat_cmp m.attempt n.attempt) (min m.place 8191) (min n.place 8191) (capped m.place n.place 8191)

    level_then : (o : Ordering) (x y : ℕ) → Follow o x y → (k l : ℕ) → k ≡ l → Follow o (min (k * 8192 + x) (kind_span - 1)) (min (l * 8192 + y) (kind_span - 1))
    level_then Less x y f k l e = omega arith
    level_then Equal x y f k l e = omega arith
    level_then Greater x y f k l e = omega arith

    by : (o : Ordering) → MatchOrdering o (m.update < n.update) (m.update ≡ n.update) (n.update < m.update)
        → Follow (ordering_then o (ordering_then (nat_cmp m.place n.place) (nat_cmp m.attempt n.attempt))) (null_rank m.update m.place) (null_rank n.update n.place)
    by Less h = omega arith
    by Equal h = level_then (ordering_then (nat_cmp m.place n.place) (nat_cmp m.attempt n.attempt)) (min m.place 8191) (min n.place 8191) places m.update n.update h
    by Greater h = omega arith

-- ---- all

pub value_small : (o : Option Datum) → value_rank o < value_span
value_small None = omega arith
value_small (Some (Number i)) = let h = number_small i in omega (arith, h)
value_small (Some (Text w)) = let h = word_small w in omega (arith, h)
value_small (Some (Unknown n)) = let h = null_small n.update n.place in omega (arith, h)

shifted : (o : Ordering) (k x y : ℕ) → Follow o x y → Follow o (k + x) (k + y)
shifted Less k x y f = omega arith
shifted Equal k x y f = ap (λ z. k + z) f
shifted Greater k x y f = omega arith

values : (o p : Option Datum) → Follow (values_cmp o p) (value_rank o) (value_rank p)
values None None = refl
values None (Some e) = omega arith
values (Some d) None = omega arith
values (Some (Number i)) (Some (Number j)) = numbers i j
values (Some (Number i)) (Some (Text w)) = let h = number_small i in omega (arith, h)
values (Some (Number i)) (Some (Unknown n)) = let h = number_small i in omega (arith, h)
values (Some (Text v)) (Some (Number j)) = let h = number_small j in omega (arith, h)
values (Some (Text v)) (Some (Text w)) = shifted (slice_cmp nat_cmp v w) kind_span (word_rank v) (word_rank w) (words v w)
values (Some (Text v)) (Some (Unknown n)) = let h = word_small v in omega (arith, h)
values (Some (Unknown m)) (Some (Number j)) = let h = number_small j in omega (arith, h)
values (Some (Unknown m)) (Some (Text w)) = let h = word_small w in omega (arith, h)
values (Some (Unknown m)) (Some (Unknown n)) = shifted (null_cmp m n) (2 * kind_span) (null_rank m.update m.place) (null_rank n.update n.place) (nulls m n)

lists : (xs ys : List Datum) → Follow (slice_cmp datum_cmp xs ys) (value_rank (slice_get xs 0)) (value_rank (slice_get ys 0))
lists [] [] = refl
lists [] (y ∷ ys) = omega arith
lists (x ∷ xs) [] = omega arith
lists (x ∷ xs) (y ∷ ys) = first_only (datum_cmp x y) (slice_cmp datum_cmp xs ys) (value_rank (Some x)) (value_rank (Some y)) (values (Some x) (Some y))

facts : (s t : Fact) → Follow (fact_cmp s t) (rank_of s) (rank_of t)
facts s t =
    both value_span s.relation t.relation (value_rank (slice_get s.values 0)) (value_rank (slice_get t.values 0)) (slice_cmp datum_cmp s.values t.values)
    (value_small (slice_get s.values 0)) (value_small (slice_get t.values 0)) (lists s.values t.values)

-- Of two tuples the ranks may be compared first.
pub ranks_first : (s t : Fact) → ordering_then (nat_cmp (rank_of s) (rank_of t)) (fact_cmp s t) ≡ fact_cmp s t
ranks_first s t = first_told (fact_cmp s t) (rank_of s) (rank_of t) (facts s t)

-- What two ranks answer, where they differ.
pub ranks_tell : (s t : Fact) {x y : ℕ} → x ≡ rank_of s → y ≡ rank_of t → (o : Ordering) → nat_cmp x y ≡ o → ordering_then o (fact_cmp s t) ≡ fact_cmp s t
ranks_tell s t {x} {y} p q o e = ap (λ a. ordering_then a (fact_cmp s t)) (sym e ∙ (λ i. nat_cmp (p i) (q i))) ∙ ranks_first s t

-- ---- searches

-- Of a tuple and the tuples that are looked for by a first value the ranks may be compared first.
pub leads_first : (r : ℕ) (d : Datum) (past : Option Fact) (u : Fact) → ordering_then (nat_cmp (rank_of u) (rank_at r (Some d))) (place_lead r d past u) ≡ place_lead r d past u
leads_first r d past u = first_told (place_lead r d past u) (rank_of u) (rank_at r (Some d)) leads
  where
    leads : Follow (place_lead r d past u) (rank_of u) (rank_at r (Some d))
    leads =
        both value_span u.relation r (value_rank (slice_get u.values 0)) (value_rank (Some d)) (ordering_then (values_cmp (value_in (0, u)) (Some d)) (place_beyond past u))
        (value_small (slice_get u.values 0)) (value_small (Some d))
        (first_only (values_cmp (value_in (0, u)) (Some d)) (place_beyond past u) (value_rank (slice_get u.values 0)) (value_rank (Some d)) (values (slice_get u.values 0) (Some d)))

pub leads_tell : (r : ℕ) (d : Datum) (past : Option Fact) (u : Fact) {x y : ℕ} → x ≡ rank_of u → y ≡ rank_at r (Some d) → (o : Ordering) → nat_cmp x y ≡ o → ordering_then o (place_lead r d past u) ≡ place_lead r d past u
leads_tell r d past u {x} {y} p q o e = ap (λ a. ordering_then a (place_lead r d past u)) (sym e ∙ (λ i. nat_cmp (p i) (q i))) ∙ leads_first r d past u
