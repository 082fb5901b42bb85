-- What contracts see of a crew.
use Rattle.std.specs.Prelude.{ℕ}
use Rattle.core_queue.specs.declared.settings.Settings.{Settings}

-- the number of workers, and their settings
pub record CrewView : Type 0 where
  pub workers : ℕ
  pub settings : Settings
