-- What is replied to an event that a core made.
use Rattle.std.proofs.Common.{◌≡◌, false, List, sym, ap, ◌∙◌}
use Rattle.std.specs.Prelude.{ℕ, Option, Some}
use Rattle.core_engine.specs.Events.{HasMade}
use Rattle.core_engine.specs.States.{State}
use Rattle.def_language.specs.Names.{Name}
use Rattle.def_history.specs.Cores.{Ground, grown, machine}
use Rattle.def_history.specs.PlainEntries.{PlainEntry}
use Rattle.def_machine.specs.Effects.{Event}
use Rattle.live_replies.specs.Meanings.{IsTold}
use Rattle.live_replies.specs.Texts.{last_line}
use Rattle.live_replies.specs.Turns.{Live, event, made}

-- the session with another core and other labels
abbrev pub with_core : Live → State → List Name → Live
with_core L core names = record { session = L.session; core = core; labels = names }

-- the entries that an event led to are those of the core now
pub made_turn : (L : Live) (g : Ground) (core : State) (names : List Name) (text : List ℕ) (H : Option (List PlainEntry)) → H ≡ Some core.history → core.over ≡ g → core.relations ≡ L.core.relations
    → text ≡ last_line L.session.relations core.history → IsTold (made L g names H) text (with_core L core names)
made_turn L g core names text H grows over relations told =
    ap (made L g names) grows ∙ (λ i. record { reply = sym told i; next = record { session = L.session; core = record { over = sym over i; history = core.history; relations = sym relations i }; labels = names }; last = false })

-- an event over the same updates
pub event_turn : (L : Live) (core : State) (e : Event (machine L.core.over)) (text : List ℕ) → HasMade L.core e core → text ≡ last_line L.session.relations core.history
    → IsTold (event L (grown L.core.over L.core.history e)) text (with_core L core L.labels)
event_turn L core e text m told = made_turn L L.core.over core L.labels text (grown L.core.over L.core.history e) m.grows m.over m.relations told
