-- Small values of the definitions, written out, so that a wrong definition shows.
use Rattle.std.specs.Prelude.{◌≡◌, ℕ, pos, negsuc, true, false, List, [], ◌∷◌, Some, None, codes}
use Rattle.std.specs.declared.cmp.Ordering.TheVariants.{Less, Greater}
use Rattle.def_chase.specs.Values.{Datum, Number, Text, Unknown, Fact, datum_cmp, fact_cmp, outer, under}
use Rattle.def_chase.specs.Repository.{Insert, Delete, apply, inserted_after}
use Rattle.def_chase.specs.Mappings.{Slot, Var, Pattern, Rule, listed, image_under, force, in_force}
use Rattle.def_chase.specs.Matching.{nothing_known, learn, extends}
use Rattle.def_chase.specs.Specific.{more_specific}
use Rattle.def_chase.specs.Unifier.{unifier}
use Rattle.def_chase.specs.Violations.{Forward, Backward, Every, Caused, first_violation}
use Rattle.def_chase.specs.Queries.{Present, Violation, Specific, Occurs, Yes, No, Image, Nothing, Tuples, value}
use Rattle.def_chase.specs.Mentions.{mentions}
use Rattle.def_chase.specs.Cursors.{first_of, next_of, scan_of}
use Rattle.def_chase.specs.Shifts.{shift_fact}

-- ---- words

abbrev pub num : ℕ → Datum
num n = Number (pos n)

-- The null `?u.k` of attempt a.
abbrev pub null_by : ℕ → ℕ → ℕ → Datum
null_by a u k = Unknown record { update = u; attempt = a; place = k }

abbrev pub null : ℕ → ℕ → Datum
null u k = null_by 0 u k

abbrev pub fact : ℕ → List Datum → Fact
fact r ds = record { relation = r; values = ds }

abbrev pub atom : ℕ → List Slot → Pattern
atom r ps = record { relation = r; terms = ps }

-- The tuples A(d), B(d, e) and R(d, e), of relations 0, 1 and 2.
abbrev pub A : Datum → Fact
A d = fact 0 (d ∷ [])

abbrev pub B : Datum → Datum → Fact
B d e = fact 1 (d ∷ e ∷ [])

abbrev pub R : Datum → Datum → Fact
R d e = fact 2 (d ∷ e ∷ [])

-- The mapping m: A(x) -> B(x, z).
abbrev pub one : Rule
one = record { since = 0; universal = 1; existential = 1; left = atom 0 (Var 0 ∷ []) ∷ []; right = atom 1 (Var 0 ∷ Var 1 ∷ []) ∷ [] }

-- The mapping m: R(x, y), R(y, x) -> A(x).
abbrev pub turned : Rule
turned =
    record {
      since = 7;
      universal = 2;
      existential = 0;
      left = atom 2 (Var 0 ∷ Var 1 ∷ []) ∷ atom 2 (Var 1 ∷ Var 0 ∷ []) ∷ [];
      right = atom 0 (Var 0 ∷ []) ∷ [];
    }

-- ---- values and repositories

pub record ValuesWorked : Type 0 where
  pub below_zero : datum_cmp (Number (negsuc 0)) (num 0) ≡ Less
  pub words_last : datum_cmp (Text []) (num 9) ≡ Greater
  pub by_bytes : datum_cmp (Text (codes "ab")) (Text (codes "b")) ≡ Less
  pub nulls_last : datum_cmp (Text (codes "z")) (null 0 1) ≡ Less
  -- An earlier place comes first, even if its attempt is later.
  pub place_first : datum_cmp (null_by 5 1 1) (null_by 0 1 2) ≡ Less
  pub attempts_count : datum_cmp (null_by 1 1 1) (null_by 0 1 1) ≡ Greater
  pub relation_first : fact_cmp (A (null 3 3)) (B (num 0) (num 0)) ≡ Less
  pub outer_form : outer (R (null_by 4 1 2) (num 1)) ≡ R (null 1 2) (num 1)

pub record WritesWorked : Type 0 where
  pub in_order : apply [] (Insert (B (num 1) (num 1)) ∷ Insert (A (num 2)) ∷ Insert (A (num 1)) ∷ Insert (A (num 2)) ∷ []) ≡ A (num 1) ∷ A (num 2) ∷ B (num 1) (num 1) ∷ []
  pub last_counts : apply (A (num 1) ∷ []) (Delete (A (num 1)) ∷ Insert (A (num 1)) ∷ Insert (A (num 2)) ∷ Delete (A (num 2)) ∷ []) ≡ A (num 1) ∷ []
  pub not_there : apply (A (num 1) ∷ []) (Delete (A (null 0 1)) ∷ []) ≡ A (num 1) ∷ []
  pub written : inserted_after false (Insert (A (num 1)) ∷ Delete (A (num 2)) ∷ []) (A (num 1)) ≡ true
  pub rewritten : inserted_after true (Insert (A (num 1)) ∷ Delete (A (num 1)) ∷ []) (A (num 1)) ≡ false

-- ---- mappings

pub record MappingsWorked : Type 0 where
  pub image : image_under (listed (num 4 ∷ num 5 ∷ [])) turned.left ≡ R (num 4) (num 5) ∷ R (num 5) (num 4) ∷ []
  pub least : first_violation Every [] one (A (num 1) ∷ A (num 2) ∷ A (num 3) ∷ B (num 1) (null 1 1) ∷ []) ≡ Some (A (num 2) ∷ [])
  pub none : first_violation Every [] one (A (num 1) ∷ B (num 1) (num 9) ∷ []) ≡ None
  -- One tuple may stand for two atoms.
  pub twice : first_violation Every [] turned (R (num 1) (num 1) ∷ []) ≡ Some (R (num 1) (num 1) ∷ R (num 1) (num 1) ∷ [])
  -- Nulls are compared as values.
  pub other_nulls : first_violation Every [] turned (R (null 0 1) (null 0 2) ∷ R (null 0 2) (null_by 1 0 1) ∷ []) ≡ None
  pub caused_forward : first_violation (Caused Forward) (Insert (A (num 2)) ∷ []) one (A (num 1) ∷ A (num 2) ∷ []) ≡ Some (A (num 2) ∷ [])
  pub not_caused : first_violation (Caused Forward) (Insert (A (num 1)) ∷ Delete (A (num 1)) ∷ []) one (A (num 1) ∷ A (num 2) ∷ []) ≡ None
  -- A deletion of a B(2, ..) causes only the violation of 2.
  pub caused_backward : first_violation (Caused Backward) (Delete (B (num 2) (num 8)) ∷ []) one (A (num 1) ∷ A (num 2) ∷ []) ≡ Some (A (num 2) ∷ [])
  pub extension : extends (learn nothing_known 0 (num 1)) one.right (B (num 1) (num 9) ∷ []) ≡ true
  pub no_extension : extends (learn nothing_known 0 (num 2)) one.right (B (num 1) (num 9) ∷ []) ≡ false
  pub from_start : in_force 0 one [] ≡ true
  pub not_yet : in_force 1 turned (force 0 ∷ []) ≡ false
  pub in_force_now : in_force 1 turned (force 1 ∷ []) ≡ true

-- ---- more specific, unifier

-- A tuple of three values, of relation 3.
abbrev pub T : Datum → Datum → Datum → Fact
T d e f = fact 3 (d ∷ e ∷ f ∷ [])

pub record UnifierWorked : Type 0 where
  pub specific : more_specific (R (num 1) (num 1)) (R (null 0 1) (null 0 2)) ≡ true
  pub not_two : more_specific (R (num 1) (num 2)) (R (null 0 1) (null 0 1)) ≡ false
  pub constants_stay : more_specific (R (num 2) (num 2)) (R (num 1) (null 0 1)) ≡ false
  pub to_null : more_specific (R (null 0 3) (num 2)) (R (null 0 1) (num 2)) ≡ true
  -- A cycle of two nulls ends at the lesser.
  pub cycle : under (unifier (R (null 0 1) (null 0 2)) (R (null 0 2) (null 0 1))) (R (null 0 2) (null 0 1)) ≡ R (null 0 1) (null 0 1)
  -- A walk is followed to its end.
  pub chain : under (unifier (T (null 0 1) (null 0 2) (null 0 3)) (T (null 0 2) (null 0 3) (num 5))) (T (null 0 1) (null 0 2) (null 0 3)) ≡ T (num 5) (num 5) (num 5)
  -- A walk into a cycle ends at the least null of the cycle, not of the walk.
  pub into_cycle : under (unifier (T (null 0 1) (null 0 2) (null 0 3)) (T (null 0 3) (null 0 3) (null 0 2))) (T (null 0 1) (null 0 2) (null 0 3)) ≡ T (null 0 2) (null 0 2) (null 0 2)
  -- Also if the walk goes a long way to the cycle.
  pub long_way : unifier (fact 4 (null 0 1 ∷ null 0 2 ∷ null 0 3 ∷ null 0 4 ∷ [])) (fact 4 (null 0 2 ∷ null 0 3 ∷ null 0 4 ∷ null 0 3 ∷ [])) (null 0 1) ≡ null 0 3
  pub others_stay : unifier (R (null 0 1) (num 2)) (R (num 1) (num 2)) (null 0 7) ≡ null 0 7

-- ---- queries

pub record QueriesWorked : Type 0 where
  pub present : value [] (Present (A (num 1))) [] (Insert (A (num 1)) ∷ []) Every ≡ Yes
  pub absent : value [] (Present (A (num 1))) (A (null_by 1 0 1) ∷ []) [] Every ≡ No
  pub specifics : value [] (Specific (R (num 1) (null 1 1))) (A (num 1) ∷ R (num 1) (num 2) ∷ R (num 1) (null 0 1) ∷ R (num 2) (num 2) ∷ []) [] Every ≡ Tuples (R (num 1) (num 2) ∷ R (num 1) (null 0 1) ∷ [])
  -- The attempt of a null does not count.
  pub occurrences : value [] (Occurs 1 2) (A (null_by 3 1 2) ∷ R (num 1) (null 1 1) ∷ R (null 0 2) (num 1) ∷ R (null 1 2) (num 1) ∷ []) [] Every ≡ Tuples (A (null_by 3 1 2) ∷ R (null 1 2) (num 1) ∷ [])
  pub violation : value (one ∷ []) (Violation 0) (A (num 1) ∷ []) [] Every ≡ Image (A (num 1) ∷ [])
  pub none_caused : value (one ∷ []) (Violation 0) (A (num 1) ∷ []) [] (Caused Forward) ≡ Nothing
  -- If the own writes put a mapping in force, all its violations count.
  pub looked_whole : value (one ∷ []) (Violation 0) (A (num 1) ∷ []) (Insert (force 0) ∷ []) (Caused Forward) ≡ Image (A (num 1) ∷ [])
  pub no_mapping : value (one ∷ []) (Violation 1) (A (num 1) ∷ []) [] Every ≡ Nothing
  pub mentions_right : mentions (one ∷ []) (Violation 0) 1 ≡ true
  pub mentions_no_more : mentions (one ∷ []) (Violation 0) 2 ≡ false
  pub mentions_all : mentions [] (Occurs 1 1) 9 ≡ true

-- ---- cursors, shifts

-- Two tuples of A and three of B.
abbrev pub few : List Fact
few = A (num 1) ∷ A (num 2) ∷ B (num 1) (num 5) ∷ B (num 2) (num 6) ∷ B (num 3) (num 5) ∷ []

pub record CursorsWorked : Type 0 where
  pub first : first_of few 1 ≡ Some (B (num 1) (num 5))
  pub no_first : first_of few 2 ≡ None
  pub next : next_of few (A (num 1)) ≡ Some (A (num 2))
  -- The next tuple of another relation does not count.
  pub no_next : next_of few (A (num 2)) ≡ None
  pub next_of_absent : next_of few (B (num 1) (num 9)) ≡ Some (B (num 2) (num 6))
  pub scanned : scan_of few 1 1 (num 5) None ≡ Some (B (num 1) (num 5))
  pub scanned_past : scan_of few 1 1 (num 5) (Some (B (num 1) (num 5))) ≡ Some (B (num 3) (num 5))
  pub no_column : scan_of few 1 2 (num 5) None ≡ None
  pub shifted : shift_fact (λ u. u) (R (null_by 1 3 2) (num 4)) ≡ R (null_by 4 3 2) (num 4)

-- ---- all

pub record WorkedValues : Type 0 where
  pub values : ValuesWorked
  pub writes : WritesWorked
  pub mappings : MappingsWorked
  pub unifiers : UnifierWorked
  pub queries : QueriesWorked
  pub cursors : CursorsWorked
