-- Workers, their seats, and what a worker leaves.
use Rattle.std.specs.Prelude.{◌≡◌, ℕ, ◌<◌, Bool, List, map, length, slice_index_or, OnOk, is_ok}
use Rattle.std.specs.List.{list_all}
use Rattle.work_loop.specs.declared.workers.Worker.{Worker}

-- The workers' seats, in order.
abbrev pub seats_of : {S : Type 0} → List (Worker S) → List S
seats_of workers = map (λ w. w.seat) workers

-- Each of the workers returned Ok.
abbrev pub all_ok : {S : Type 0} → List (Worker S) → Bool
all_ok workers = list_all (λ w. is_ok w.result) workers

-- A worker before and after its work: its seat still belongs to the bench, has its lock and its number, and is at rest if the
-- worker returned Ok.
pub record Leaves {S L : Type 0} (owns : S → Type 0) (lock : S → L) (number : S → ℕ) (rests : S → Type 0) (before after : Worker S) : Type 0 where
  pub own : owns after.seat
  pub same_lock : lock after.seat ≡ lock before.seat
  pub same_number : number after.seat ≡ number before.seat
  pub rest : OnOk after.result (rests after.seat)

-- `Leaves` for each of the workers.
abbrev pub EachLeaves : {S L : Type 0} → (S → Type 0) → (S → L) → (S → ℕ) → (S → Type 0) → List (Worker S) → List (Worker S) → Type 0
EachLeaves {S} owns lock number rests before after = (k : ℕ) (d : Worker S) → k < length before → Leaves owns lock number rests (slice_index_or before k d) (slice_index_or after k d)
