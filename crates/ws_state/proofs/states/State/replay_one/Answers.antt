use Rattle.std.proofs.Common.{◌≡◌, ℕ, List}
use Rattle.ws_ground.specs.Trails.{first_facts}
use Rattle.ws_ground.proofs.Trailing.{grown_first}
use Rattle.ws_state.specs.declared.worlds.World.{World}
use Rattle.ws_state.specs.Stands.{WhatStood, GoesOn}
use Rattle.ws_state.proofs.states.State.replay_one.Goals as goal

stood_in : (v w : World) (ms : List ℕ) (n : ℕ) → GoesOn v w
    → ◌≡◌ {A = WhatStood} record { facts = first_facts w.ground; in_force = ms; names = n } record { facts = first_facts v.ground; in_force = ms; names = n }
stood_in v w ms n g = λ i. record { facts = grown_first v.ground w.ground g.grown i; in_force = ms; names = n }

-- What was done again goes on.
pub returns : goal.returns
returns c = record { fold = stood_in _ _ _ _ c.in_ok-do_again.ensures.goes_on }
