-- What the program's record of a violation stands for.
use Rattle.std.specs.Prelude.{map}
use Rattle.base_types.specs.Meanings.{fact_of}
use Rattle.run_base.specs.declared.base.Violated.{Violated}
use Rattle.lang_session.specs.Base as meant

-- the name of the violated mapping, and the image
abbrev pub violated_of : Violated → meant.Violated
violated_of v = record { name = v.mapping.now.name.items; image = map fact_of v.image.items }
