-- What a fold keeps of the updates that wait.
use Rattle.std.specs.Prelude.{◌≡◌, ℕ, List, map, Option, Some}
use Rattle.std.specs.List.{slice_get}
use Rattle.std.specs.Option.{option_map}
use Rattle.ws_state.specs.declared.states.Held.{Held}
use Rattle.ws_state.specs.declared.worlds.Waiting.{Waiting}
use Rattle.ws_state.specs.declared.heads.HeadWaiting.{HeadWaiting}

-- The number of the update that waits, by its place among the held updates.
abbrev pub number_at : List Held → Waiting → Option ℕ
number_at held w = option_map (λ (h : Held). h.update.number) (slice_get held w.held)

-- Each update that waits is kept, in its order.
abbrev pub Keeps : List Held → List Waiting → List HeadWaiting → Type 0
Keeps held ws heads = map (λ (k : HeadWaiting). Some k.update.number) heads ≡ map (number_at held) ws
