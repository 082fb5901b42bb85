-- Whether the base of a session meets the mappings that are in force from the start.
use Rattle.std.specs.Prelude.{List, [], ◌∷◌, Option, None, option_map, if◌then◌else◌}
use Rattle.std.specs.Option.{option_or}
use Rattle.def_chase.specs.Values.{Fact}
use Rattle.def_chase.specs.Violations.{Every, first_violation}
use Rattle.def_language.specs.Names.{Name}
use Rattle.def_language.specs.Sessions.{SessionMapping, SessionData, is_initial}

-- a violated mapping, by its name, and the image of its first violation
pub record Violated : Type 0 where
  pub name : Name
  pub image : List Fact

-- the first violation of a mapping in the base, if the mapping is in force from the start
abbrev pub violated_by : List Fact → SessionMapping → Option Violated
violated_by base m =
    if is_initial m then option_map (λ image. record { name = m.name; image = image }) (first_violation Every [] m.rule base) else None

-- the first violation of the first mapping that has one
abbrev pub first_violated : List Fact → List SessionMapping → Option Violated
first_violated base [] = None
first_violated base (m ∷ ms) = option_or (violated_by base m) (first_violated base ms)

-- the first violation of a session's base
abbrev pub base_violation : SessionData → Option Violated
base_violation s = first_violated s.base s.mappings
