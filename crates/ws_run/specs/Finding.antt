-- Values of an update, as they stand in the tuples of a ground.
use Rattle.std.specs.Prelude.{◌≡◌, ℕ, List}
use Rattle.base_types.specs.Meanings.{null_of}
use Rattle.def_chase.specs.Values.{NullName, Fact}
use Rattle.def_workspace.specs.Ops.{Found, Lost, AllFound, OneLost, Course, Going, Halted}
use Rattle.def_workspace.specs.Runs.{NotThere}
use Rattle.ws_ground.specs.declared.grounds.Ground.{Ground}
use Rattle.ws_run.specs.declared.halts.Halt.{Halt}
use Rattle.ws_run.specs.declared.halts.Halt.TheVariants.{Memory, Left}
use Rattle.ws_run.specs.declared.halts.Reason.{Reason}
use Rattle.ws_run.specs.declared.halts.Reason.TheVariants.{Asks as AsksQuestion, NotThere as NullNotThere, TooLong, Violated, Gone}

-- The reason is that this null is not there, for which the fact holds.
abbrev pub IsNotThere : (NullName → Type 0) → Reason → Type 0
IsNotThere P (AsksQuestion told) = ⊥
IsNotThere P (NullNotThere n) = P (null_of n)
IsNotThere P (TooLong made) = ⊥
IsNotThere P (Violated m) = ⊥
IsNotThere P (Gone m) = ⊥

-- The program wants memory, or halts since this null is not there, for which the fact holds.
abbrev pub Misses : (NullName → Type 0) → Halt → Type 0
Misses P Memory = Unit {0}
Misses P (Left r) = IsNotThere P r

-- The value has no null that is there.
abbrev pub Loses : Found → Halt → Type 0
Loses f = Misses (λ u. f ≡ Lost u)

-- One of the values has none.
abbrev pub LosesOne : AllFound → Halt → Type 0
LosesOne f = Misses (λ u. f ≡ OneLost u)

-- The course is over the tuples of the ground, with its names.
pub record IsOver (g : Ground) (c : Course) : Type 0 where
  pub facts : c.facts ≡ g.facts
  pub names : c.thread.names ≡ g.names

-- What goes on with tuples goes on with these.
abbrev pub GoesOnWith : ((List Fact → Going) → Going) → List Fact → Type 0
GoesOnWith w ts = (f : List Fact → Going) → w f ≡ f ts

-- It halts, since one of the nulls is not there.
abbrev pub HaltsFirst : ((List Fact → Going) → Going) → Course → Halt → Type 0
HaltsFirst w c = Misses (λ u. (f : List Fact → Going) → w f ≡ Halted (NotThere u) c.thread)
