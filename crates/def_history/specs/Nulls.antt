-- The nulls in the repositories of a history: those of the base, and those that the present attempts of lower updates drew.
use Rattle.std.specs.Prelude.{◌≡◌, ℕ, zero, suc, ◌≤◌, ◌==◌, nat_lt, Bool, true, false, not, ◌&&◌, ◌||◌, List, length, Option, Some, None, slice_get}
use Rattle.std.specs.List.{list_all}
use Rattle.def_machine.specs.Machine.{Machine}
use Rattle.def_machine.specs.Updates.{Update, Session, Settings, hides, trail, below}
use Rattle.def_machine.specs.Effects.{Entry}
use Rattle.def_chase.specs.Values.{NullName, Datum, Number, Text, Unknown, Fact, outer}
use Rattle.def_chase.specs.Repository.{has}
use Rattle.def_chase.specs.Mappings.{Rule}
use Rattle.def_steps.specs.Chase.{caused_chase}
use Rattle.def_steps.specs.Origins.{written}
use Rattle.def_history.specs.Histories.{IsLegalHistory}
use Rattle.def_history.specs.Admissible.{IsAdmissible}

-- The update with this number, if there is one.
abbrev pub numbered : {A : Type 0} → List A → ℕ → Option A
numbered us zero = None
numbered us (suc k) = slice_get us k

module _ (ms : List Rule) (B : ℕ) where
  -- The machine of the chase with these mappings and this budget, whose attempts look at the violations that they caused.
  abbrev M : Machine
  M = caused_chase ms B

  -- The update is neither withdrawn nor spent nor refused, and its present attempt drew the null.
  abbrev pub drew : Option (Update M) → NullName → Bool
  drew None m = false
  drew (Some u) m =
      not u.withdrawn && (not (hides (M.outcome u.state)) && ((m.attempt == u.attempt) && (nat_lt 0 m.place && not (nat_lt u.state.nulls m.place))))

  -- The value is no null, or a null of update 0 and attempt 0, as in the base, or one that `drew` holds of for an update with a
  -- number of at most n.
  abbrev pub is_present : List (Update M) → ℕ → Datum → Bool
  is_present us n (Number i) = true
  is_present us n (Text w) = true
  is_present us n (Unknown m) = ((m.update == 0) && (m.attempt == 0)) || (not (nat_lt n m.update) && drew (numbered us m.update) m)

  -- All values of the tuple are present in this sense.
  abbrev pub are_present : List (Update M) → ℕ → Fact → Bool
  are_present us n t = list_all (is_present us n) t.values

  -- The nulls in the trails, and in the repositories below each update and after the last one, are present.
  pub record ArePresent (S : Session M) (us : List (Update M)) : Type 0 where
    pub trails : (k : ℕ) (u : Update M) → slice_get us k ≡ Some u → list_all (λ w. are_present us (suc k) (written w)) (trail M u) ≡ true
    pub views : (k : ℕ) → k ≤ length us → list_all (are_present us k) (below M S.base us k) ≡ true
    -- so each update has only one attempt among the nulls, and different tuples have different outer forms
    pub apart : (k : ℕ) (s t : Fact) → k ≤ length us → has (below M S.base us k) s ≡ true → has (below M S.base us k) t ≡ true → outer s ≡ outer t → s ≡ t

  -- This holds after every legal history.
  abbrev pub HaveNullsPresent : Type 0
  HaveNullsPresent =
      (s : Settings) (S : Session M) (H : List (Entry M)) (us : List (Update M)) → IsAdmissible ms B S → IsLegalHistory ms B s S H us
      → ArePresent S us

-- This holds for any mappings and any budget.
abbrev pub NullsArePresent : Type 0
NullsArePresent = (ms : List Rule) (B : ℕ) → HaveNullsPresent ms B
