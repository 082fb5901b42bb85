-- A device over a stream of std, as contracts see it.
use Rattle.std.specs.Prelude.{ℕ}

-- the reader or writer, and the number of its faults
pub record Adapter (T : Type 0) : Type 0 where
  pub stream : T
  pub faults : ℕ
