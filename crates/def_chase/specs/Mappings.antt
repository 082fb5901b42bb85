-- Mappings (tuple-generating dependencies) as pure data, bindings and images, violations, and the mappings in force.
use Rattle.std.specs.Prelude.{◌≡◌, ℕ, suc, zero, ◌==◌, Bool, true, false, ◌||◌, List, [], ◌∷◌, map, pos}
use Rattle.std.specs.List.{list_all, slice_index_or}
use Rattle.def_chase.specs.Values.{Datum, Number, Fact}
use Rattle.def_chase.specs.Repository.{has}

-- A term of an atom: a variable by its number, or a constant.
pub data Slot : Type 0 where
  Var : ℕ → Slot
  Const : Datum → Slot

-- An atom: the number of its relation and its terms by column.
pub record Pattern : Type 0 where
  pub relation : ℕ
  pub terms : List Slot

-- A mapping. Its variables are numbered by first occurrence, the left side first: `universal` of them stand on the left,
-- `existential` only on the right. If `since` is 0, the mapping is in force from the start, otherwise once the update of that
-- number has put it in force.
pub record Rule : Type 0 where
  pub since : ℕ
  pub universal : ℕ
  pub existential : ℕ
  pub left : List Pattern
  pub right : List Pattern

-- A binding gives each variable a value.
abbrev pub Binding : Type 0
Binding = ℕ → Datum

-- The value of a term under a binding.
abbrev pub value_under : Binding → Slot → Datum
value_under b (Var v) = b v
value_under b (Const d) = d

-- The tuple of an atom under a binding.
abbrev pub fact_under : Binding → Pattern → Fact
fact_under b p = record { relation = p.relation; values = map (value_under b) p.terms }

-- The image of a list of atoms under a binding: their tuples, in the order of the atoms.
abbrev pub image_under : Binding → List Pattern → List Fact
image_under b ps = map (fact_under b) ps

-- The binding that gives the first variable the first value, and so on. A variable without a value in the list gets the number 0.
abbrev pub listed : List Datum → Binding
listed ds v = slice_index_or ds v (Number (pos 0))

-- All the tuples are in the repository.
abbrev pub all_in : List Fact → List Fact → Bool
all_in D ts = list_all (has D) ts

-- The tuples are the image of a violation of the mapping in D: they are the left side under some binding, they are in D, and no
-- binding with this image puts every right atom in D.
pub record IsViolation (m : Rule) (D : List Fact) (image : List Fact) : Type 0 where
  pub binding : Binding
  pub is_image : image_under binding m.left ≡ image
  pub present : all_in D image ≡ true
  pub unmet : (b : Binding) → image_under b m.left ≡ image → all_in D (image_under b m.right) ≡ false

-- The mapping holds in D: it has no violation there.
abbrev pub Holds : Rule → List Fact → Type 0
Holds m D = (image : List Fact) → IsViolation m D image → ⊥

-- The relation whose tuples say which mappings were put in force. No session can spell it.
abbrev pub force_relation : ℕ
force_relation = 65535

-- The tuple which says that mapping n has been put in force.
abbrev pub force : ℕ → Fact
force n = record { relation = force_relation; values = Number (pos n) ∷ [] }

-- Mapping n, which is m, is in force in D: from the start, or because an update has put it in force.
abbrev pub in_force : ℕ → Rule → List Fact → Bool
in_force n m D = (m.since == 0) || has D (force n)

-- Every mapping in force in D holds there; the first mapping of the list has number n.
abbrev pub HoldFrom : ℕ → List Rule → List Fact → Type 0
HoldFrom n [] D = Unit {0}
HoldFrom n (m ∷ ms) D = (in_force n m D ≡ true → Holds m D) × HoldFrom (suc n) ms D

-- Every mapping in force in D holds there.
abbrev pub AllHold : List Rule → List Fact → Type 0
AllHold ms D = HoldFrom zero ms D
