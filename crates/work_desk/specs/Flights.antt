-- The updates in flight.
use Rattle.std.specs.Prelude.{ℕ, List, filter, not, ◌==◌}

-- The updates in us without u.
abbrev pub left_of : ℕ → List ℕ → List ℕ
left_of u us = filter (λ v. not (v == u)) us
