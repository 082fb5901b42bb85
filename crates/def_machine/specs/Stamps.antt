-- The relations that an event touches below an update: queries that mention none of them keep their values over the repository
-- below the update.
use Rattle.std.specs.Prelude.{◌≡◌, ℕ, zero, suc, ◌≤◌, Bool, if◌then◌else◌, List, [], ◌∷◌, ◌++◌, take, Option, Some, None, slice_get}
use Rattle.std.specs.List.{AllByRecursion}
use Rattle.def_machine.specs.Machine.{Machine, Avoids}
use Rattle.def_machine.specs.Updates.{Update, Session, Settings, hides, below}
use Rattle.def_machine.specs.Cascade.{readers, Member}
use Rattle.def_machine.specs.Steps.{stepped}
use Rattle.def_machine.specs.Effects.{Event, Admits, Steps, Delivers, Answers, Withdraws, Entry, Admitted, Stepped, Delivered, Answered, Withdrew, Effect, effect}
use Rattle.def_machine.specs.Histories.{causes_in}
use Rattle.def_machine.specs.Local.{acts_on}
use Rattle.def_machine.specs.CauseLaw.{members_of}

-- Agreement on relations is symmetric.
abbrev pub AlikeSwaps : Machine → Type 0
AlikeSwaps M = (p : ℕ → Bool) (D E : M.Repository) → M.Alike p D E → M.Alike p E D

-- The writes that an entry shows.
abbrev pub writes_in : {M : Machine} → Entry M → List M.Write
writes_in (Admitted i) = []
writes_in (Stepped e) = e.writes
writes_in (Delivered i s) = []
writes_in (Answered i c s) = []
writes_in (Withdrew i cs n) = []

-- The number of the update at place k, if its step ends spent or refused.
abbrev pub hidden_by : (M : Machine) → M.Repository → List (Update M) → ℕ → Option (Update M) → List ℕ
hidden_by M D us k None = []
hidden_by M D us k (Some u) = if hides (M.outcome (stepped M (below M D us k) u).state) then suc k ∷ [] else []

-- The number of the update whose own trail the event takes away: it ends spent or refused, or is withdrawn.
abbrev pub loses : (M : Machine) → M.Repository → List (Update M) → Event M → List ℕ
loses M D us Admits = []
loses M D us (Steps zero) = []
loses M D us (Steps (suc k)) = hidden_by M D us k (slice_get us k)
loses M D us (Delivers i) = []
loses M D us (Answers i c) = []
loses M D us (Withdraws i) = i ∷ []

-- The updates below update k + 1 whose trails the event takes away, with these trails.
abbrev pub gone_below : (M : Machine) → M.Repository → List (Update M) → Event M → Effect M → ℕ → List (Member M)
gone_below M D us e x k = members_of M (loses M D us e ++ readers (causes_in x.entry)) 1 (take k us)

-- No write that the event adds or takes away below update k + 1 is of a relation that passes the test.
pub record IsUntouched (M : Machine) (D : M.Repository) (us : List (Update M)) (e : Event M) (x : Effect M) (k : ℕ) (p : ℕ → Bool) : Type 0 where
  pub added : acts_on us e ≤ k → Avoids M p (writes_in x.entry)
  pub removed : AllByRecursion (λ (m : Member M). Avoids M p m.trail) (gone_below M D us e x k)

-- The repositories below update k + 1 before and after the event agree on the relations that it does not touch, so a query that
-- mentions no touched relation has the same value.
pub record IsStamped (M : Machine) (D : M.Repository) (us : List (Update M)) (e : Event M) (x : Effect M) (k : ℕ) : Type 0 where
  pub alike : (p : ℕ → Bool) → IsUntouched M D us e x k p → M.Alike p (below M D us k) (below M D x.updates k)
  pub value : (op : M.Operation) (q : M.Query) (own : List M.Write) → IsUntouched M D us e x k (M.mentions q)
      → M.value op q (below M D us k) own ≡ M.value op q (below M D x.updates k) own

-- This holds for every allowed event and every update.
abbrev pub StampLaw : Machine → Type 0
StampLaw M =
    (s : Settings) (S : Session M) (us : List (Update M)) (e : Event M) (x : Effect M) → M.Sound S.base
    → effect M s S us e ≡ Some x
    → (k : ℕ) (u : Update M) → slice_get us k ≡ Some u → IsStamped M S.base us e x k
