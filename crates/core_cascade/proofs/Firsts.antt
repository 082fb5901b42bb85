-- The first reads of the program's logs are those of histories.
use Rattle.std.proofs.Common.{◌≡◌, ◌∙◌, ap, refl, sym, ℕ, suc, ◌+◌, Bool, true, false, ◌||◌, List, [], ◌∷◌, ◌++◌, length, map, Option, Some, None, arith}
use Rattle.std.specs.Prelude.{if◌then◌else◌}
use Rattle.std.specs.List.{list_any}
use Rattle.std.specs.Option.{option_map}
use Rattle.core_conflict.specs.Changes.{Numbered, first_from}
use Rattle.core_conflict.proofs.Firsts.{first_after, first_among}
use Rattle.def_machine.specs.Cascade.{reads_of, writer_for}
use Rattle.def_machine.specs.Reads.{first_that}
use Rattle.def_machine.specs.Updates.{Read as ReadOfHistory}
use Rattle.def_chase.specs.Mappings.{Rule}
use Rattle.chase_query.specs.Meanings.{Read}
use Rattle.core_queue.specs.Queues.{logged}
use Rattle.def_steps.specs.Chase.{caused_chase}
use Rattle.core_conflict.specs.Trails.{writes_of, trails_of}
use Rattle.core_conflict.specs.declared.concerns.Trail.{Trail}
use Rattle.core_cascade.specs.Meanings.{members_of}
use Rattle.core_cascade.specs.Reached.{is_reached, any_reached, least_writer}

module _ (ms : List Rule) (B : ℕ) where
  -- The numbered read, as a history has it.
  abbrev pub paired : Numbered → ℕ × ReadOfHistory (caused_chase ms B)
  paired t = (t.number, logged ms B t.read)

  abbrev raised : ℕ → ℕ × ReadOfHistory (caused_chase ms B) → ℕ × ReadOfHistory (caused_chase ms B)
  raised k t = (k + t.0, t.1)

  abbrev some_at : ℕ → ReadOfHistory (caused_chase ms B) → Option (ℕ × ReadOfHistory (caused_chase ms B))
  some_at n r = Some (n, r)

  raised_more : (k : ℕ) (o : Option (ℕ × ReadOfHistory (caused_chase ms B))) → option_map (raised (suc k)) o ≡ option_map (raised k) (option_map (λ (t : ℕ × ReadOfHistory (caused_chase ms B)). (suc t.0, t.1)) o)
  raised_more k None = refl
  raised_more k (Some t) = let e : suc k + t.0 ≡ k + suc t.0 = omega arith in ap (λ n. some_at n t.1) e

  raised_none : (o : Option (ℕ × ReadOfHistory (caused_chase ms B))) → option_map (raised 0) o ≡ o
  raised_none None = refl
  raised_none (Some t) = let e : 0 + t.0 ≡ t.0 = omega arith in ap (λ n. some_at n t.1) e

  from_step : (k : ℕ) (r : Read) (x : Option Numbered) (y : Option (ℕ × ReadOfHistory (caused_chase ms B))) → option_map paired x ≡ option_map (raised (suc k)) y → (b c : Bool) → b ≡ c
      → option_map paired (if b then Some (record { number = suc k; read = r }) else x)
      ≡ option_map (raised k) (if c then Some (1, logged ms B r) else option_map (λ (t : ℕ × ReadOfHistory (caused_chase ms B)). (suc t.0, t.1)) y)
  from_step k r x y h true true e = let f : suc k ≡ k + 1 = omega arith in ap (λ n. some_at n (logged ms B r)) f
  from_step k r x y h true false e = absurd (cc)
  from_step k r x y h false true e = absurd (cc)
  from_step k r x y h false false e = h ∙ raised_more k y

  from_that : (p : Read → Bool) (q : ReadOfHistory (caused_chase ms B) → Bool) → ((r : Read) → p r ≡ q (logged ms B r)) → (k : ℕ) (rs : List Read)
      → option_map paired (first_from p (suc k) rs) ≡ option_map (raised k) (first_that q (map (logged ms B) rs))
  from_that p q h k [] = refl
  from_that p q h k (r ∷ rs) = from_step k r (first_from p (suc (suc k)) rs) (first_that q (map (logged ms B) rs)) (from_that p q h (suc k) rs) (p r) (q (logged ms B r)) (h r)

  -- The first read that passes, of which both ask the same.
  pub first_is : (p : Read → Bool) (q : ReadOfHistory (caused_chase ms B) → Bool) → ((r : Read) → p r ≡ q (logged ms B r)) → (rs : List Read)
      → option_map paired (first_from p 1 rs) ≡ first_that q (map (logged ms B) rs)
  first_is p q h rs = from_that p q h 0 rs ∙ raised_none (first_that q (map (logged ms B) rs))

  -- The read is reached by one of the members' trails just where it is by one of the history's members.
  pub reached_is : (ks : List Trail) (r : Read) → any_reached ms (trails_of ks) r ≡ list_any (λ m. reads_of (caused_chase ms B) (logged ms B r) m.trail) (members_of ms B ks)
  reached_is [] r = refl
  reached_is (m ∷ ks) r = ap (λ b. is_reached ms r (writes_of m) || b) (reached_is ks r)

  -- The least member that wrote a relation which the read mentions.
  pub writer_is : (ks : List Trail) (r : Read) → writer_for (caused_chase ms B) (logged ms B r) (members_of ms B ks) ≡ least_writer ms r ks
  writer_is [] r = refl
  writer_is (m ∷ ks) r = ap (λ n. if is_reached ms r (writes_of m) then m.update else n) (writer_is ks r)

-- The first among these reads is that of all.
pub found_among : (p : Read → Bool) (n : ℕ) (rs qs : List Read) (all o : Option Numbered) (x : Numbered) → all ≡ first_from p n (rs ++ qs) → o ≡ first_from p n rs → o ≡ Some x → Some x ≡ all
found_among p n rs qs all o x e f i = sym (e ∙ first_among p n rs qs x (sym f ∙ i))

-- Where there is none it is that of those after them.
pub none_among : (p : Read → Bool) (n m : ℕ) (rs qs : List Read) (all o : Option Numbered) → all ≡ first_from p n (rs ++ qs) → o ≡ first_from p n rs → o ≡ None → m ≡ n + length rs → all ≡ first_from p m qs
none_among p n m rs qs all o e f i j = e ∙ first_after p n rs qs (sym f ∙ i) ∙ ap (λ k. first_from p k qs) (sym j)

-- One read alone, by the test.
pub one_by : (p : Read → Bool) (n : ℕ) (r : Read) (b : Bool) → p r ≡ b → (if b then Some (record { number = n; read = r }) else None) ≡ first_from p n (r ∷ [])
one_by p n r b e = ap (λ c. if c then Some (record { number = n; read = r }) else None) (sym e)
