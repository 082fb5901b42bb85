-- When no write meets a read of an attempt.
use Rattle.std.specs.Prelude.{◌≡◌, true, false, List}
use Rattle.def_chase.specs.Mappings.{Rule}
use Rattle.def_chase.specs.Repository.{Change}
use Rattle.def_chase.specs.Violations.{Direction, Forward, Backward}
use Rattle.chase_query.specs.Meanings.{Read}
use Rattle.core_conflict.specs.Changes.{meets_any}
use Rattle.core_conflict.specs.Footprints.{Covers}
use Rattle.core_conflict.specs.Impacts.{has_trails}
use Rattle.core_conflict.specs.Signatures.{AreApart}
use Rattle.core_conflict.specs.declared.concerns.Sense.{Sense}
use Rattle.core_conflict.specs.declared.footprints.Footprint.{Footprint}
use Rattle.core_conflict.specs.declared.impacts.Impact.{Impact}
use Rattle.core_conflict.specs.declared.impacts.Reach.{Reach}
use Rattle.core_conflict.specs.declared.signatures.Signature.{Signature}

-- None of these own writes is in the reach.
pub record IsOutside (s : Signature) (v : Reach) : Type 0 where
  pub apart : AreApart s v.own
  pub some : v.every ≡ false

-- No own write joins with one of the writes; backward the attempt has not found a violation either.
abbrev pub IsJoinless : Direction → Footprint → Impact → Type 0
IsJoinless Forward f v = IsOutside f.own v.forward
IsJoinless Backward f v = IsOutside f.own v.backward × (f.found ≡ false)

-- No write of the impact meets a read of an attempt in this direction with the footprint.
abbrev pub IsNoneMet : Direction → Footprint → Impact → Type 0
IsNoneMet h f v =
    (ms : List Rule) (g : Sense) (own : List Change) (trails : List (List Change)) (rs : List Read)
    → Covers f own rs → has_trails v ms g trails ≡ true → meets_any ms h own g trails rs ≡ false
