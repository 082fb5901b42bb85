-- A drilled session is one that the grammar accepts.
use Rattle.std.proofs.Common.{◌≡◌, ap, refl, ℕ, zero, suc, ◌+◌, ◌*◌, ◌<◌, ◌≤◌, ◌/◌, ◌^◌, Bool, true, false, [], ◌∷◌, ◌++◌, length, arith, None, Some, inl}
use Rattle.std.specs.Prelude.{pos, nat_lt, ◌==◌, if◌then◌else◌, List, Decides}
use Rattle.std.specs.List.{slice_get}
use Rattle.std.specs.List.Sorted.{IsStrictlySortedBy}
use Rattle.def_chase.specs.Repository.{IsRepository}
use Rattle.std.proofs.lemmas.Bool.{false≢true}
use Rattle.std.proofs.lemmas.Nat.{mod_below}
use Rattle.std.proofs.lemmas.List.Sums.{sum_by-cons}
use Rattle.def_chase.specs.Values.{Number}
use Rattle.def_language.specs.Sessions.{RelationSchema, SessionUpdate, answer_count}
use Rattle.def_language.specs.Validity.{IsValue, IsFact, IsOperation, IsMapping, AreUpdates, IsSession, enactments, enacted}
use Rattle.def_chase.specs.Mappings.{Rule}
use Rattle.def_language.specs.Cycles.{HasPlainCycle, has_plain_cycle}
use Rattle.def_language.specs.Checks.{rules_of}
use Rattle.lang_session.specs.Base.{base_violation}
use Rattle.run_drill.specs.Draws.{next, drawn}
use Rattle.run_drill.specs.Columns.{columns}
use Rattle.run_drill.specs.Drilled.{Kind, Inserts, Deletes, kind_of, kind_at, fact, operation_of, after_update, update_at, updates_from, m1, m2, m3, relations, with_updates, drilled}
use Rattle.run_drill.proofs.Called.{curator_named, labels_are_names}
use Rattle.run_drill.proofs.Curators.{few_curators}

value_ok : (most m x : ℕ) → 0 < m → m ≤ 200 → IsValue most (Number (pos (drawn m x)))
value_ok most m x some few = omega (arith, few, mod_below (x / 2 ^ 33) m some)

-- A tuple of a relation of two or three columns.
pair_ok : (most r a b x : ℕ) (s : RelationSchema) → slice_get relations r ≡ Some s → s.arity ≡ 2 → 0 < a → a ≤ 200 → 0 < b → b ≤ 200
    → IsFact relations most (fact r (columns (a ∷ b ∷ []) x))
pair_ok most r a b x s at two a0 a1 b0 b1 = ((s, at, two), (value_ok most a (next x) a0 a1, (value_ok most b (next (next x)) b0 b1, tt)))

triple_ok : (most r a b c x : ℕ) (s : RelationSchema) → slice_get relations r ≡ Some s → s.arity ≡ 3 → 0 < a → a ≤ 200 → 0 < b → b ≤ 200 → 0 < c → c ≤ 200
    → IsFact relations most (fact r (columns (a ∷ b ∷ c ∷ []) x))
triple_ok most r a b c x s at three a0 a1 b0 b1 c0 c1 =
    ((s, at, three), (value_ok most a (next x) a0 a1, (value_ok most b (next (next x)) b0 b1, (value_ok most c (next (next (next x))) c0 c1, tt))))

-- What an operation of each kind does.
operation_ok : (most k x : ℕ) → IsOperation relations most (operation_of (kind_of k) x)
operation_ok most k x = first (nat_lt k 4)
  where
    last : (d : Bool) → IsOperation relations most (operation_of (if d then Deletes 0 (50 ∷ 20 ∷ []) else Inserts 1 (20 ∷ 20 ∷ [])) x)
    last true = pair_ok most 0 50 20 x _ refl refl (omega arith) (omega arith) (omega arith) (omega arith)
    last false = pair_ok most 1 20 20 x _ refl refl (omega arith) (omega arith) (omega arith) (omega arith)

    third : (c : Bool) → IsOperation relations most (operation_of (if c then Inserts 3 (100 ∷ 50 ∷ 50 ∷ []) else if k == 8 then Deletes 0 (50 ∷ 20 ∷ []) else Inserts 1 (20 ∷ 20 ∷ [])) x)
    third true = triple_ok most 3 100 50 50 x _ refl refl (omega arith) (omega arith) (omega arith) (omega arith) (omega arith) (omega arith)
    third false = last (k == 8)

    second : (b : Bool)
        → IsOperation relations most (operation_of (if b then Inserts 2 (200 ∷ 50 ∷ []) else if nat_lt k 8 then Inserts 3 (100 ∷ 50 ∷ 50 ∷ []) else if k == 8 then Deletes 0 (50 ∷ 20 ∷ []) else Inserts 1 (20 ∷ 20 ∷ [])) x)
    second true = pair_ok most 2 200 50 x _ refl refl (omega arith) (omega arith) (omega arith) (omega arith)
    second false = third (nat_lt k 8)

    first : (a : Bool)
        → IsOperation relations most
        (operation_of
        (if a then Inserts 0 (50 ∷ 20 ∷ [])
        else if nat_lt k 6 then Inserts 2 (200 ∷ 50 ∷ [])
        else if nat_lt k 8 then Inserts 3 (100 ∷ 50 ∷ 50 ∷ [])
        else if k == 8 then Deletes 0 (50 ∷ 20 ∷ [])
        else Inserts 1 (20 ∷ 20 ∷ [])) x)
    first true = pair_ok most 0 50 20 x _ refl refl (omega arith) (omega arith) (omega arith) (omega arith)
    first false = second (nat_lt k 6)

updates_ok : (before k n x : ℕ) → AreUpdates relations before (updates_from n k x)
updates_ok before zero n x = tt
updates_ok before (suc k) n x =
    ((curator_named n, operation_ok before (drawn 10 (next x)) (next x), (tt, (tt, (tt, (tt, tt))))), updates_ok (before + 1) k (n + 1) (after_update x))

-- No update adds a mapping.
none_enacted : (number k n x : ℕ) → enactments number (updates_from n k x) ≡ []
none_enacted number zero n x = refl
none_enacted number (suc k) n x = by (kind_at x) (none_enacted (number + 1) k (n + 1) (after_update x))
  where
    by : (kind : Kind) → enactments (number + 1) (updates_from (n + 1) k (after_update x)) ≡ [] → enacted number (operation_of kind (next x)) ++ enactments (number + 1) (updates_from (n + 1) k (after_update x)) ≡ []
    by (Inserts r ms) rest = rest
    by (Deletes r ms) rest = rest

updates_count : (k n x : ℕ) → length (updates_from n k x) ≡ k
updates_count zero n x = refl
updates_count (suc k) n x = ap suc (updates_count k (n + 1) (after_update x))

-- Four answers each.
answers_cons : (u : SessionUpdate) (us : List SessionUpdate) → answer_count (u ∷ us) ≡ length u.answers + answer_count us
answers_cons u us = sum_by-cons (λ u. length u.answers) u us

one_more : (rest all k : ℕ) → all ≡ 4 + rest → rest ≡ 4 * k → all ≡ 4 * suc k
one_more rest all k e f = omega (arith, e, f)

answers_count : (k n x : ℕ) → answer_count (updates_from n k x) ≡ 4 * k
answers_count zero n x = refl
answers_count (suc k) n x =
    let rest : answer_count (updates_from (n + 1) k (after_update x)) ≡ 4 * k = answers_count k (n + 1) (after_update x) in
    one_more (answer_count (updates_from (n + 1) k (after_update x))) (answer_count (updates_from n (suc k) x)) k (answers_cons (update_at n x) (updates_from (n + 1) k (after_update x))) rest

-- The test for a plain cycle decides whether there is one.
abbrev pub CyclesDecided : Type 0
CyclesDecided = (n : ℕ) (ms : List Rule) → Decides (has_plain_cycle n ms) (HasPlainCycle n ms)

no_cycle : CyclesDecided → HasPlainCycle 4 (rules_of (with_updates []).mappings) → ⊥
no_cycle decided c = false≢true ((decided 4 (rules_of (with_updates []).mappings)).1 c)

base_in_order : IsRepository []
unfolding IsStrictlySortedBy
base_in_order = tt

m1_ok : IsMapping relations m1
m1_ok =
    record {
      names = (refl, refl, (refl, refl, (refl, refl, tt)));
      count = refl;
      left = (omega arith, omega arith, (((_, refl, refl), (omega arith, (omega arith, tt))), tt));
      right = (omega arith, omega arith, (((_, refl, refl), (omega arith, (omega arith, tt))), tt));
      universal = refl;
      all = refl;
    }

m2_ok : IsMapping relations m2
m2_ok =
    record {
      names = (refl, refl, (refl, refl, (refl, refl, tt)));
      count = refl;
      left = (omega arith, omega arith, (((_, refl, refl), (omega arith, (omega arith, tt))), tt));
      right = (omega arith, omega arith, (((_, refl, refl), (omega arith, (omega arith, tt))), tt));
      universal = refl;
      all = refl;
    }

m3_ok : IsMapping relations m3
m3_ok =
    record {
      names = (refl, refl, (refl, refl, (refl, refl, (refl, refl, (refl, refl, tt)))));
      count = refl;
      left = (omega arith, omega arith, (((_, refl, refl), (omega arith, (omega arith, (omega arith, tt)))), tt));
      right = (omega arith, omega arith, (((_, refl, refl), (omega arith, (omega arith, tt))), (((_, refl, refl), (omega arith, (omega arith, tt))), tt)));
      universal = refl;
      all = refl;
    }

pub drilled_valid : CyclesDecided → (count seed : ℕ) → count ≤ 1000 → IsSession (drilled count seed)
drilled_valid decided count seed few =
    record {
      format = inl refl;
      relation_names = (refl, refl, (refl, refl, (refl, refl, (refl, refl, tt))));
      relations = ((omega arith, omega arith), ((omega arith, omega arith), ((omega arith, omega arith), ((omega arith, omega arith), tt))));
      relation_count = omega arith;
      mapping_names = (refl, refl, (refl, refl, (refl, refl, tt)));
      mappings = (m1_ok, (m2_ok, (m3_ok, tt)));
      mapping_count = omega arith;
      added_count = omega arith;
      added_last = refl;
      added_by_updates = none_enacted 1 count 1 seed;
      added_format = λ e. refl;
      no_cycle = no_cycle decided;
      base_order = base_in_order;
      base = tt;
      base_count = omega arith;
      labels = labels_are_names count seed few;
      updates = updates_ok 0 count 1 seed;
      update_count = omega (arith, few, updates_count count 1 seed);
      curator_count = few_curators count 1 seed;
      answers = omega (arith, few, answers_count count 1 seed);
    }

pub drilled_met : (count seed : ℕ) → base_violation (drilled count seed) ≡ None
drilled_met count seed = refl
