-- The place of an unknown in its update: the table of an update, from the cause of an unknown to its place.
use Rattle.std.specs.Prelude.{ℕ, suc, ◌==◌, nat_lt, Bool, true, false, not, ◌&&◌, if◌then◌else◌, List, [], ◌∷◌, ◌++◌, Option, Some, None, find}
use Rattle.std.specs.List.{list_any}
use Rattle.std.specs.Cmp.Lexicographic.{pointwise}
use Rattle.def_chase.specs.Values.{Fact, same_fact}
use Rattle.def_workspace.specs.Lines.{Source, By, Fix, Draw}

-- The cause of an unknown: a mapping draws it for its variable of this number, when its left side has this image, by names.
pub record Cause : Type 0 where
  pub source : Source
  pub variable : ℕ
  pub image : List Fact

-- A cause with its place.
pub record Place : Type 0 where
  pub cause : Cause
  pub number : ℕ

-- The table of an update. It only grows, so that the same cause has the same place in every run.
abbrev pub Places : Type 0
Places = List Place

-- The two sources are the same.
abbrev pub same_source : Source → Source → Bool
same_source (By m) (By n) = m == n
same_source (By m) (Fix n) = false
same_source (By m) Draw = false
same_source (Fix m) (By n) = false
same_source (Fix m) (Fix n) = m == n
same_source (Fix m) Draw = false
same_source Draw (By n) = false
same_source Draw (Fix n) = false
same_source Draw Draw = true

-- The two causes are the same.
abbrev pub same_cause : Cause → Cause → Bool
same_cause c d = same_source c.source d.source && (c.variable == d.variable) && pointwise same_fact c.image d.image

-- The number is in the list.
abbrev pub among : List ℕ → ℕ → Bool
among ns n = list_any (λ k. k == n) ns

-- The first place of the cause that was not given yet in this run.
abbrev pub place_found : Places → List ℕ → Cause → Option Place
place_found ps used c = find (λ (p : Place). same_cause p.cause c && not (among used p.number)) ps

-- The greater of two numbers.
abbrev pub greater : ℕ → ℕ → ℕ
greater m n = if nat_lt m n then n else m

-- The greatest place of the table.
abbrev pub greatest : Places → ℕ
greatest [] = 0
greatest (p ∷ ps) = greater p.number (greatest ps)

-- The place that a cause gets in a run, and the table after that. The place is the cause's old one, or else one more than the
-- greatest.
pub record Giving : Type 0 where
  pub number : ℕ
  pub places : Places

abbrev pub found_or_more : Option Place → Places → Cause → Giving
found_or_more (Some p) ps c = record { number = p.number; places = ps }
found_or_more None ps c =
    record {
      number = suc (greatest ps);
      places = ps ++ record { cause = c; number = suc (greatest ps) } ∷ [];
    }

abbrev pub giving : Places → List ℕ → Cause → Giving
giving ps used c = found_or_more (place_found ps used c) ps c
