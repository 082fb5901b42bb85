-- What the types of a step mean.
use Rattle.std.specs.Option.{option_map, option_copied}
use Rattle.base_types.specs.Meanings.{choice_of}
use Rattle.chase_update.specs.Results.{lack_of}
use Rattle.run_step.specs.Turns as turns
use Rattle.run_step.specs.declared.turns.Next.{Next}
use Rattle.run_step.specs.declared.turns.Next.TheVariants.{Step, Rest}

-- What a `Next` says comes next.
abbrev pub next_of : Next → turns.Next
next_of (Step c) = turns.Steps (option_map choice_of (option_copied c))
next_of (Rest l) = turns.Rests (option_map lack_of l)
