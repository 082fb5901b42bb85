-- Writes that changed something, and what was there before them.
use Rattle.std.specs.Prelude.{◌≡◌, ℕ, ◌<◌, List, [], ◌∷◌, ◌++◌, map, length, drop, take}
use Rattle.base_types.specs.Meanings.{change_of}
use Rattle.base_types.specs.declared.updates.Write.{Write}
use Rattle.def_chase.specs.Values.{Fact}
use Rattle.def_chase.specs.Repository.{Change, Insert, Delete, change}
use Rattle.ws_ground.specs.declared.grounds.Ground.{Ground}

-- The write that takes another one back.
abbrev pub undoing : Change → Change
undoing (Insert t) = Delete t
undoing (Delete t) = Insert t

-- What was there before the writes, if each of them changed something: they are taken back, the last of them first.
abbrev pub before : List Change → List Fact → List Fact
before [] D = D
before (w ∷ ws) D = change (before ws D) (undoing w)

-- The trail has grown from ws to vs, and what was there before its new writes is D.
pub record HasMade (ws : List Write) (D : List Fact) (vs : List Write) (E : List Fact) : Type 0 where
  pub more : List Write
  pub longer : vs ≡ ws ++ more
  pub undone : before (map change_of more) E ≡ D

-- The write is the last of more than k, and is taken from the trail.
pub record IsPopped (k : ℕ) (ws : List Write) (vs : List Write) (w : Write) : Type 0 where
  pub many : k < length ws
  pub last : ws ≡ vs ++ w ∷ []

-- What was there before all that is in the trail.
abbrev pub first_facts : Ground → List Fact
first_facts g = before (map change_of g.trail.items) g.facts

-- The ground h has grown from g: if what it wrote since then is taken back, the tuples of g are left.
abbrev pub HasGrown : Ground → Ground → Type 0
HasGrown g h = HasMade g.trail.items g.facts h.trail.items h.facts

-- The ground h has the tuples and the trail of g.
pub record IsSame (g : Ground) (h : Ground) : Type 0 where
  pub facts : h.facts ≡ g.facts
  pub trail : h.trail.items ≡ g.trail.items

-- The ground h is g after all writes but the first k are taken back.
pub record IsBackTo (k : ℕ) (g : Ground) (h : Ground) : Type 0 where
  pub facts : h.facts ≡ before (map change_of (drop k g.trail.items)) g.facts
  pub trail : h.trail.items ≡ take k g.trail.items
