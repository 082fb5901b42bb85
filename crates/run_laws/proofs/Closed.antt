-- Tests of values and of tuples that the chase keeps: what they have to meet, and what then passes of writes and phases.
-- Those of def_steps let every constant pass; these ask of each where it comes from, and follow what is deleted too.
use Rattle.std.specs.Prelude.{slice_get, pos}
use Rattle.std.proofs.Common.{◌≡◌, ℕ, ◌+◌, ◌≤◌, ◌==◌, ◌&&◌, List, Bool, true, not, Some, is_some}
use Rattle.std.specs.List.{list_all}
use Rattle.def_chase.specs.Values.{NullName, Datum, Number, Unknown, Fact, under}
use Rattle.def_chase.specs.Repository.{Change, Insert, Delete}
use Rattle.def_chase.specs.Mappings.{Rule, Pattern, fact_under, listed, force_relation, force}
use Rattle.def_chase.specs.Queries.{holds_null}
use Rattle.def_chase.specs.Specific.{more_specific}
use Rattle.def_chase.specs.Caused.{KeepsConstants}
use Rattle.def_chase.specs.Updates.{Operation, Adds, Removes, Replaces, Enacts}
use Rattle.def_steps.specs.Attempts.{Repair, Positive, Negative, Phase, Start, Look, Generate, Asked, Ended}
use Rattle.def_steps.specs.Rewriting.{right_atoms}
use Rattle.def_steps.specs.Timely.{is_plain_atom}

-- The tuple is none that says which mappings are in force.
abbrev pub is_plain : Fact → Bool
is_plain t = not (t.relation == force_relation)

-- A substitution that moves nulls alone, to values that pass.
abbrev pub Resolves : (Datum → Bool) → (Datum → Datum) → Type 0
Resolves p f = KeepsConstants f × ((n : NullName) → p (f (Unknown n)) ≡ true)

-- Tests of values and of tuples, by how many nulls are drawn: more pass the more are drawn. They are closed for attempt a
-- of update u at the operation: what it makes of what passes passes. No mapping draws more than 128 nulls at once.
pub record Closed (ms : List Rule) (op : Operation) (u a : ℕ) (p : ℕ → Datum → Bool) (q : ℕ → Fact → Bool) : Type 0 where
  -- values
  pub nought : (k : ℕ) → p k (Number (pos 0)) ≡ true
  pub later : (k j : ℕ) (d : Datum) → p k d ≡ true → p (k + j) d ≡ true
  pub drawn : (k j i : ℕ) → 1 ≤ i → i ≤ j → p (k + j) (Unknown record { update = u; attempt = a; place = k + i }) ≡ true
  -- tuples
  pub values : (k : ℕ) (t : Fact) → q k t ≡ true → list_all (p k) t.values ≡ true
  pub tuples_later : (k j : ℕ) (t : Fact) → q k t ≡ true → q (k + j) t ≡ true
  pub substituted : (k : ℕ) (f : Datum → Datum) → KeepsConstants f → ((d : Datum) → p k d ≡ true → p k (f d) ≡ true) → (t : Fact) → q k t ≡ true → q k (under f t) ≡ true
  pub null_plain : (k v j : ℕ) (t : Fact) → q k t ≡ true → holds_null v j t ≡ true → is_plain t ≡ true
  -- mappings
  pub draws : (n : ℕ) (m : Rule) → slice_get ms n ≡ Some m → m.existential ≤ 128
  pub left_plain : (n : ℕ) (m : Rule) → slice_get ms n ≡ Some m → list_all is_plain_atom m.left ≡ true
  pub some_right : (n : ℕ) (m : Rule) → slice_get ms n ≡ Some m → is_some (slice_get m.right 0) ≡ true
  pub generated : (k n i : ℕ) (m : Rule) (b : Pattern) → slice_get ms n ≡ Some m → slice_get m.right i ≡ Some b → (ds : List Datum) → list_all (p k) ds ≡ true → q k (fact_under (listed ds) b) ≡ true
  -- the operation, its nulls resolved
  pub added : (t : Fact) → op ≡ Adds t → (k : ℕ) (f : Datum → Datum) → Resolves (p k) f → q k (under f t) ≡ true
  pub removed : (t : Fact) → op ≡ Removes t → (k : ℕ) (f : Datum → Datum) → Resolves (p k) f → (q k (under f t) && is_plain (under f t)) ≡ true
  pub replaced : (n : NullName) (d : Datum) → op ≡ Replaces n d → (k : ℕ) (f : Datum → Datum) → Resolves (p k) f → p k (f d) ≡ true
  pub enacted : (n : ℕ) → op ≡ Enacts n → (k : ℕ) → q k (force n) ≡ true

-- A tuple that may be deleted: it passes, and says of no mapping that it is in force.
abbrev pub goes : (ℕ → Fact → Bool) → ℕ → Fact → Bool
goes q k t = q k t && is_plain t

-- A write passes.
abbrev pub write_passes : (ℕ → Fact → Bool) → ℕ → Change → Bool
write_passes q k (Insert t) = q k t
write_passes q k (Delete t) = goes q k t

-- The repair is at a right atom of its mapping.
abbrev pub is_placed : List Rule → Repair → Bool
is_placed ms r = is_some (slice_get (right_atoms (slice_get ms r.mapping)) r.atom)

-- What a phase holds passes.
abbrev pub PhasePasses : List Rule → (ℕ → Datum → Bool) → (ℕ → Fact → Bool) → ℕ → Phase → Type 0
PhasePasses ms p q k Start = Unit {0}
PhasePasses ms p q k Look = Unit {0}
PhasePasses ms p q k (Generate r) = (list_all (p k) r.binding ≡ true) × (is_placed ms r ≡ true)
PhasePasses ms p q k (Asked (Positive r t cs)) = (list_all (p k) r.binding ≡ true) × (q k t ≡ true) × (list_all (q k) cs ≡ true) × (list_all (λ s. more_specific s t) cs ≡ true)
PhasePasses ms p q k (Asked (Negative n ts)) = list_all (goes q k) ts ≡ true
PhasePasses ms p q k (Ended o) = Unit {0}
