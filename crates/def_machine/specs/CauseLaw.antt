-- Each restart has a cause that holds: the meaning of the causes in an entry.
use Rattle.std.specs.Prelude.{◌≡◌, ℕ, zero, suc, ◌<◌, Bool, true, false, not, if◌then◌else◌, List, [], ◌∷◌, ◌++◌, take, drop, Option, Some, None, slice_get}
use Rattle.std.specs.List.{AllByRecursion}
use Rattle.def_machine.specs.Machine.{Machine}
use Rattle.def_machine.specs.Updates.{Read, Update, Session, Settings, Deps, trail, below}
use Rattle.def_machine.specs.Reads.{is_valid, value_now}
use Rattle.def_machine.specs.Cascade.{Cause, Conflict, Depends, readers, Member, reads_of, read_depends, has_number, begun_again}
use Rattle.def_machine.specs.Steps.{stepped}
use Rattle.def_machine.specs.Effects.{Event, Admits, Steps, Delivers, Answers, Withdraws, Effect, is_spent, effect}
use Rattle.def_machine.specs.Local.{acts_on}
use Rattle.def_machine.specs.Histories.{Log, empty_log, after, causes_in}

-- Element x at place i is the first that passes.
pub record IsFirst {A : Type 0} (p : A → Bool) (xs : List A) (i : ℕ) (x : A) : Type 0 where
  pub found : slice_get xs i ≡ Some x
  pub passes : p x ≡ true
  pub earlier : (k : ℕ) (y : A) → k < i → slice_get xs k ≡ Some y → p y ≡ false

-- The trails of the updates whose numbers are not among these; the first is update n.
abbrev pub trails_without : (M : Machine) → List ℕ → ℕ → List (Update M) → List M.Write
trails_without M ns n [] = []
trails_without M ns n (u ∷ us) = (if has_number ns n then [] else trail M u) ++ trails_without M ns (suc n) us

-- The repository below update k + 1, without the trails of the updates of these numbers.
abbrev pub below_without : (M : Machine) → M.Repository → List ℕ → List (Update M) → ℕ → M.Repository
below_without M D ns us k = M.apply D (trails_without M ns 1 (take k us))

-- The updates of these numbers, with their trails; the first of the list is update n.
abbrev pub members_of : (M : Machine) → List ℕ → ℕ → List (Update M) → List (Member M)
members_of M ns n [] = []
members_of M ns n (u ∷ us) = (if has_number ns n then record { number = n; trail = trail M u } ∷ [] else []) ++ members_of M ns (suc n) us

-- A conflict: the reader's first read that is not valid, before any trail is taken away, has the old answer and would now have
-- the new one. The reader stands above update j, the writer.
pub record IsConflict (M : Machine) (D : M.Repository) (j : ℕ) (us : List (Update M)) (reader number writer : ℕ) (old new : M.Reply) : Type 0 where
  pub place : ℕ
  pub update : Update M
  pub is_reader : reader ≡ suc place
  pub there : slice_get us place ≡ Some update
  pub present : update.withdrawn ≡ false
  pub above : j < reader
  pub is_writer : writer ≡ j
  pub at : ℕ
  pub read : Read M
  pub is_number : number ≡ suc at
  pub first : IsFirst (λ r. not (is_valid M update.operation (below M D us place) (M.own update.state) r)) update.log at read
  pub was : old ≡ read.answer
  pub is : new ≡ value_now M update.operation (below M D us place) (M.own update.state) read

-- The least member below that wrote a relation which the read mentions is update `on`.
pub record IsWriter (M : Machine) (members : List (Member M)) (read : Read M) (on : ℕ) : Type 0 where
  pub place : ℕ
  pub member : Member M
  pub first : IsFirst (λ (m : Member M). reads_of M read m.trail) members place member
  pub is_on : on ≡ member.number

-- A dependence: the reader's first read that depends on the members below it, whose numbers are among `members`, and the member
-- on which it depends.
pub record IsDependence (M : Machine) (deps : Deps) (D : M.Repository) (j : ℕ) (members : List ℕ) (us : List (Update M)) (reader number on : ℕ) : Type 0 where
  pub place : ℕ
  pub update : Update M
  pub is_reader : reader ≡ suc place
  pub there : slice_get us place ≡ Some update
  pub present : update.withdrawn ≡ false
  pub above : j < reader
  pub at : ℕ
  pub read : Read M
  pub is_number : number ≡ suc at
  pub first : IsFirst (read_depends M deps update.operation (below_without M D members us place) (M.own update.state) (members_of M members 1 (take place us))) update.log at read
  pub wrote : IsWriter M (members_of M members 1 (take place us)) read on

-- The cause holds for these updates, of which those among `members` lose their trails.
abbrev pub Holds : (M : Machine) → Deps → M.Repository → ℕ → List ℕ → List (Update M) → Cause M → Type 0
Holds M deps D j members us (Conflict reader read writer old new) = IsConflict M D j us reader read writer old new
Holds M deps D j members us (Depends reader read on) = IsDependence M deps D j members us reader read on

-- No number stands twice.
abbrev pub IsDistinct : List ℕ → Type 0
IsDistinct [] = Unit {0}
IsDistinct (n ∷ ns) = (has_number ns n ≡ false) × IsDistinct ns

-- The updates after the step of the one at place k, which becomes v, without any restart; unchanged if v ends spent.
abbrev pub after_own_step : (M : Machine) → List (Update M) → ℕ → Update M → List (Update M)
after_own_step M us k v = if is_spent (M.outcome v.state) then us else take k us ++ v ∷ drop (suc k) us

-- The updates after the step of the one at place k, if there is one, without any restart.
abbrev pub stepped_at : (M : Machine) → M.Repository → List (Update M) → ℕ → Option (Update M) → List (Update M)
stepped_at M D us k None = us
stepped_at M D us k (Some u) = after_own_step M us k (stepped M (below M D us k) u)

-- The updates after the event's own change, before it takes any trail away.
abbrev pub before_loss : (M : Machine) → M.Repository → List (Update M) → Event M → List (Update M)
before_loss M D us Admits = us
before_loss M D us (Steps zero) = us
before_loss M D us (Steps (suc k)) = stepped_at M D us k (slice_get us k)
before_loss M D us (Delivers i) = us
before_loss M D us (Answers i c) = us
before_loss M D us (Withdraws i) = us

-- The number of the update at place k, if its step ends spent.
abbrev pub lost_by : (M : Machine) → M.Repository → List (Update M) → ℕ → Option (Update M) → List ℕ
lost_by M D us k None = []
lost_by M D us k (Some u) = if is_spent (M.outcome (stepped M (below M D us k) u).state) then suc k ∷ [] else []

-- The number of the update whose own trail the event takes away, if there is one.
abbrev pub first_lost : (M : Machine) → M.Repository → List (Update M) → Event M → List ℕ
first_lost M D us Admits = []
first_lost M D us (Steps zero) = []
first_lost M D us (Steps (suc k)) = lost_by M D us k (slice_get us k)
first_lost M D us (Delivers i) = []
first_lost M D us (Answers i c) = []
first_lost M D us (Withdraws i) = i ∷ []

-- The causes in the entry of an event hold, and name exactly the updates that restart.
pub record AreCauses (M : Machine) (s : Settings) (S : Session M) (us : List (Update M)) (e : Event M) (x : Effect M) : Type 0 where
  -- every cause holds
  pub hold : AllByRecursion (Holds M s.deps S.base (acts_on us e) (first_lost M S.base us e ++ readers (causes_in x.entry)) (before_loss M S.base us e)) (causes_in x.entry)
  -- no update is named twice
  pub once : IsDistinct (readers (causes_in x.entry))
  -- an update that is named stands above the one that the event acts on
  pub above : (i : ℕ) → has_number (readers (causes_in x.entry)) i ≡ true → acts_on us e < i
  -- an update that is named is restarted; any other, except the one that the event acts on, is unchanged
  pub restarts : (k : ℕ) (u : Update M) → slice_get us k ≡ Some u
      → has_number (readers (causes_in x.entry)) (suc k) ≡ true → slice_get x.updates k ≡ Some (begun_again M (suc k) u)
  pub others : (k : ℕ) (u : Update M) → slice_get us k ≡ Some u
      → has_number (readers (causes_in x.entry)) (suc k) ≡ false → (suc k ≡ acts_on us e → ⊥)
      → slice_get x.updates k ≡ Some u
  -- the update that the event acts on keeps its attempt
  pub own : (k : ℕ) (u : Update M) → slice_get us k ≡ Some u → suc k ≡ acts_on us e
      → (v : Update M) × (slice_get x.updates k ≡ Some v) × (v.attempt ≡ u.attempt)

-- This holds after any history.
abbrev pub CauseLaw : Machine → Type 0
CauseLaw M =
    (s : Settings) (S : Session M) (es : List (Event M)) (l : Log M) (e : Event M) (x : Effect M) → M.Sound S.base
    → after M s S (empty_log M) es ≡ Some l → effect M s S l.updates e ≡ Some x
    → AreCauses M s S l.updates e x
