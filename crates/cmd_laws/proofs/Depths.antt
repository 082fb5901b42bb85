-- How many questions a step asks at most.
use Rattle.std.specs.Prelude.{◌*◌, ◌==◌, nat_lt, if◌then◌else◌, filter}
use Rattle.std.proofs.Common.{ℕ, zero, suc, ◌+◌, ◌≤◌, List, [], ◌∷◌, ◌++◌, length, Bool, true, false, Option, Some, None, not, arith}
use Rattle.std.specs.BTreeSet.{insert_key}
use Rattle.std.specs.Ordering.{match_ordering}
use Rattle.std.specs.declared.cmp.Ordering.{Ordering}
use Rattle.std.specs.declared.cmp.Ordering.TheVariants.{Less, Equal, Greater}
use Rattle.std.specs.List.{list_any, flat_map}
use Rattle.def_machine.specs.Trees.{Tree, Leaf, Node, log_of}
use Rattle.def_chase.specs.Mappings.{Rule}
use Rattle.def_chase.specs.Updates.{Operation, Adds, Removes, Replaces, Enacts, Choice, Expand, Unify, Drop, direction_of}
use Rattle.def_chase.specs.Values.{Datum, Number, Text, Unknown, Fact, NullName, null_cmp, same_datum}
use Rattle.def_chase.specs.Unifier.{unifier}
use Rattle.def_chase.specs.Violations.{Direction, Forward, Backward}
use Rattle.def_steps.specs.Attempts.{Attempt, Phase, Start, Look, Generate, Asked, Ended, Question, Positive, Negative, Repair}
use Rattle.def_steps.specs.Questions.{candidate}
use Rattle.def_steps.specs.Rewriting.{distinct_from, generated, in_order, moved_nulls, null_of, nulls_in, same_null, sorted_nulls}
use Rattle.def_steps.specs.Steps.{Asking, Holders, by_answer, compared, find_nulls, gather, generate, image_in, is_yes, look_at, look_from, negative, repair, repair_or, start, step_in, tuples_of, unless_none}

-- ---- trees

-- It asks at most n questions, whatever is answered.
abbrev pub AtMost : {Q R A : Type 0} → ℕ → Tree Q R A → Type 0
AtMost n (Leaf a) = Unit {0}
AtMost zero (Node q k) = ⊥
AtMost {Q} {R} (suc n) (Node q k) = (r : R) → AtMost n (k r)

module _ {Q R A : Type 0} where
  pub few_asked : (val : Q → R) (n : ℕ) (t : Tree Q R A) → AtMost n t → length (log_of val t) ≤ n
  few_asked val n (Leaf a) h = omega arith
  few_asked val zero (Node q k) h = absurd h
  few_asked val (suc n) (Node q k) h = let b = few_asked val n (k (val q)) (h (val q)) in omega (arith, b)

  wider : (n m : ℕ) → n ≤ m → (t : Tree Q R A) → AtMost n t → AtMost m t
  wider n m l (Leaf a) h = tt
  wider zero m l (Node q k) h = absurd h
  wider (suc n) zero l (Node q k) h = absurd (omega (arith, l))
  wider (suc n) (suc m) l (Node q k) h = λ r. wider n m (omega (arith, l)) (k r) (h r)

  either : (n : ℕ) (b : Bool) (s t : Tree Q R A) → AtMost n s → AtMost n t → AtMost n (if b then s else t)
  either n true s t x y = x
  either n false s t x y = y

-- ---- lists

module _ {A : Type 0} where
  filter_few : (p : A → Bool) (xs : List A) → length (filter p xs) ≤ length xs
  filter_few p [] = omega arith
  filter_few p (x ∷ xs) = by (p x) (filter_few p xs)
    where
      by : (b : Bool) → length (filter p xs) ≤ length xs → length (if b then x ∷ filter p xs else filter p xs) ≤ suc (length xs)
      by true h = omega (arith, h)
      by false h = omega (arith, h)

insert_few : (ns : List NullName) (n : NullName) → length (insert_key null_cmp ns n) ≤ suc (length ns)
insert_few [] n = omega arith
insert_few (x ∷ ns) n = by (null_cmp n x) (insert_few ns n)
  where
    by : (o : Ordering) → length (insert_key null_cmp ns n) ≤ suc (length ns) → length (match_ordering o (n ∷ x ∷ ns) (x ∷ ns) (x ∷ insert_key null_cmp ns n)) ≤ suc (suc (length ns))
    by Less h = omega arith
    by Equal h = omega arith
    by Greater h = omega (arith, h)

sorted_few : (ns : List NullName) → length (sorted_nulls ns) ≤ length ns
sorted_few [] = omega arith
sorted_few (n ∷ ns) = let a = insert_few (sorted_nulls ns) n in let b = sorted_few ns in omega (arith, a, b)

distinct_few : (seen ns : List NullName) → length (distinct_from seen ns) ≤ length ns
distinct_few seen [] = omega arith
distinct_few seen (n ∷ ns) = by (list_any (same_null n) seen) (distinct_few seen ns) (distinct_few (n ∷ seen) ns)
  where
    by : (b : Bool) → length (distinct_from seen ns) ≤ length ns → length (distinct_from (n ∷ seen) ns) ≤ length ns → length (if b then distinct_from seen ns else n ∷ distinct_from (n ∷ seen) ns) ≤ suc (length ns)
    by true g h = omega (arith, g)
    by false g h = omega (arith, h)

nulls_few : (ds : List Datum) → length (flat_map null_of ds) ≤ length ds
nulls_few [] = omega arith
nulls_few (Number z ∷ ds) = let b = nulls_few ds in omega (arith, b)
nulls_few (Text w ∷ ds) = let b = nulls_few ds in omega (arith, b)
nulls_few (Unknown n ∷ ds) = let b = nulls_few ds in omega (arith, b)

in_few : (ds : List Datum) → length (nulls_in ds) ≤ length ds
in_few ds = let a = distinct_few [] (flat_map null_of ds) in let b = nulls_few ds in omega (arith, a, b)

one_null : (d : Datum) → length (null_of d) ≤ 1
one_null (Number z) = omega arith
one_null (Text w) = omega arith
one_null (Unknown n) = omega arith

moved_few : (t c : Fact) → length (moved_nulls t c) ≤ length t.values
moved_few t c =
    let a = filter_few (λ n. not (same_datum (unifier t c (Unknown n)) (Unknown n))) (sorted_nulls (nulls_in t.values)) in
    let b = sorted_few (nulls_in t.values) in
    let d = in_few t.values in
    omega (arith, a, b, d)

-- ---- the start

unless_few : (n : ℕ) (x : NullName) (ts : List Fact) (rest : Asking) → AtMost n rest → AtMost n (unless_none x ts rest)
unless_few n x [] rest h = tt
unless_few n x (t ∷ ts) rest h = h

find_few : (ns : List NullName) (go : Holders → Asking) (n m : ℕ) → length ns + n ≤ m → ((hs : Holders) → AtMost n (go hs)) → AtMost m (find_nulls ns go)
find_few [] go n m l h = wider n m (omega (arith, l)) (go []) (h [])
find_few (x ∷ ns) go n zero l h = absurd (omega (arith, l))
find_few (x ∷ ns) go n (suc m) l h = λ a. unless_few m x (tuples_of a) (find_nulls ns (λ hs. go ((x, tuples_of a) ∷ hs))) (find_few ns (λ hs. go ((x, tuples_of a) ∷ hs)) n m (omega (arith, l)) (λ hs. h ((x, tuples_of a) ∷ hs)))

-- at most 8 values
abbrev pub IsNarrow : Operation → Type 0
IsNarrow (Adds t) = length t.values ≤ 8
IsNarrow (Removes t) = length t.values ≤ 8
IsNarrow (Replaces n d) = Unit {0}
IsNarrow (Enacts n) = Unit {0}

start_few : (op : Operation) → IsNarrow op → AtMost 128 (start op)
start_few (Adds t) few = find_few (nulls_in t.values) _ 1 128 (let b = in_few t.values in omega (arith, b, few)) (λ hs. λ a. either 0 (is_yes a) _ _ tt tt)
start_few (Removes t) few = find_few (nulls_in t.values) _ 1 128 (let b = in_few t.values in omega (arith, b, few)) (λ hs. λ a. either 0 (is_yes a) _ _ tt tt)
start_few (Replaces n d) few = λ a. unless_few 127 n (tuples_of a) _ (find_few (null_of d) _ 0 127 (let b = one_null d in omega (arith, b)) (λ hs. tt))
start_few (Enacts n) few = tt

-- ---- a look

negative_few : (n m : ℕ) (ts : List Fact) → AtMost n (negative m ts)
negative_few n m [] = tt
negative_few n m (t ∷ []) = tt
negative_few n m (t ∷ s ∷ ts) = tt

repair_few : (n m : ℕ) (P : Attempt) (d : Direction) (r : Rule) (image : List Fact) → AtMost n (repair P d m r image)
repair_few n m P Forward r image = tt
repair_few n m P Backward r image = negative_few n m (in_order image)

or_few : (n m : ℕ) (P : Attempt) (r : Rule) (o : Option (List Fact)) (rest : Asking) → AtMost n rest → AtMost n (repair_or P m r o rest)
or_few n m P r None rest h = h
or_few n m P r (Some image) rest h = repair_few n m P (direction_of P.operation) r image

at_few : (n m : ℕ) (P : Attempt) (r : Rule) (rest : Asking) → AtMost n rest → AtMost (suc n) (look_at P m r rest)
at_few n m P r rest h = λ a. or_few n m P r (image_in a) rest h

look_few : (P : Attempt) (n m : ℕ) (ms : List Rule) → 2 * length ms ≤ n → AtMost n (look_from P m ms)
look_few P n m [] l = tt
look_few P zero m (r ∷ ms) l = absurd (omega (arith, l))
look_few P (suc zero) m (r ∷ ms) l = absurd (omega (arith, l))
look_few P (suc (suc n)) m (r ∷ ms) l =
    let rest = look_few P n (suc m) ms (omega (arith, l)) in
    let one : AtMost (suc n) (look_from P (suc m) ms) = wider n (suc n) (omega arith) (look_from P (suc m) ms) rest in
    let two : AtMost (suc (suc n)) (look_from P (suc m) ms) = wider n (suc (suc n)) (omega arith) (look_from P (suc m) ms) rest in
    either (suc (suc n)) (r.since == 0) _ _ (at_few (suc n) m P r (look_from P (suc m) ms) one)
    (either (suc (suc n)) (nat_lt P.number r.since) _ _ two
    (λ a. either (suc n) (is_yes a) _ _ (at_few n m P r (look_from P (suc m) ms) rest) one))

-- ---- the other phases

generate_few : (ms : List Rule) (r : Repair) (t : Fact) → AtMost 128 (generate ms r t)
generate_few ms r t = λ a. either 127 (is_yes a) _ _ tt (λ b. compared_few (tuples_of b))
  where
    compared_few : (cs : List Fact) → AtMost 126 (compared ms r t cs)
    compared_few [] = tt
    compared_few (c ∷ cs) = tt

gather_few : (ns : List NullName) (go : List Fact → Asking) (m : ℕ) → length ns ≤ m → ((ts : List Fact) (n : ℕ) → AtMost n (go ts)) → AtMost m (gather ns go)
gather_few [] go m l h = h [] m
gather_few (x ∷ ns) go zero l h = absurd (omega (arith, l))
gather_few (x ∷ ns) go (suc m) l h = λ a. gather_few ns (λ ts. go (tuples_of a ++ ts)) m (omega (arith, l)) (λ ts n. h (tuples_of a ++ ts) n)

-- The tuple in question has at most 8 values.
abbrev pub IsNarrowPhase : Phase → Type 0
IsNarrowPhase Start = Unit {0}
IsNarrowPhase Look = Unit {0}
IsNarrowPhase (Generate r) = Unit {0}
IsNarrowPhase (Asked (Positive r t cs)) = length t.values ≤ 8
IsNarrowPhase (Asked (Negative n ts)) = Unit {0}
IsNarrowPhase (Ended o) = Unit {0}

answer_few : (ms : List Rule) (q : Question) (c : Option Choice) → IsNarrowPhase (Asked q) → AtMost 128 (by_answer ms q c)
answer_few ms q None few = tt
answer_few ms (Positive r t cs) (Some Expand) few = tt
answer_few ms (Positive r t cs) (Some (Unify o)) few = gather_few (moved_nulls t (candidate t cs o)) _ 128 (let b = moved_few t (candidate t cs o) in omega (arith, b, few)) (λ ts n. tt)
answer_few ms (Positive r t cs) (Some (Drop os)) few = tt
answer_few ms (Negative n ts) (Some Expand) few = tt
answer_few ms (Negative n ts) (Some (Unify o)) few = tt
answer_few ms (Negative n ts) (Some (Drop os)) few = tt

-- With at most 64 mappings a step asks at most 128 questions.
pub step_few : (ms : List Rule) (P : Attempt) (c : Option Choice) (ph : Phase) → length ms ≤ 64 → IsNarrow P.operation → IsNarrowPhase ph → AtMost 128 (step_in ms P c ph)
step_few ms P c Start few op narrow = start_few P.operation op
step_few ms P c Look few op narrow = look_few P 128 0 ms (omega (arith, few))
step_few ms P c (Generate r) few op narrow = generate_few ms r (generated ms r)
step_few ms P c (Asked q) few op narrow = answer_few ms q c narrow
step_few ms P c (Ended o) few op narrow = tt
