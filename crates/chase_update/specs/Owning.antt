-- The writes of an attempt as they are held.
use Rattle.base_types.specs.Listed.{Listed}
use Rattle.base_types.specs.declared.updates.Write.{Write}
use Rattle.chase_update.specs.declared.own.Held.{Held}
use Rattle.chase_update.specs.declared.own.Held.TheVariants.{Alone, Shared}

-- The list of the writes, alone or shared.
abbrev pub held_in : Held → Listed Write
held_in (Alone writes) = writes
held_in (Shared writes) = writes
