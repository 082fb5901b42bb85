-- The small machine doesn't show its attempts: its serial runs go alike with others.
use Rattle.std.proofs.Common.{◌≡◌, ℕ, ap, sym, refl, ◌∙◌, List, [], ◌∷◌, map, Some, None}
use Rattle.std.specs.Prelude.{Option, is_some, take}
use Rattle.def_machine.specs.Updates.{shown}
use Rattle.def_machine.specs.Standings.{lack}
use Rattle.def_machine.specs.Steps.{next_state}
use Rattle.def_machine.specs.Serial.{Turn, Finish, Stop, serial, all_turns, session_turns}
use Rattle.def_machine.specs.Recorded.{by_first_attempt}
use Rattle.def_machine.specs.Simulation.{Simulation, AreFinishes, AreStops, AreResults}
use Rattle.def_machine.specs.Small.{small}
use Rattle.def_machine.specs.SmallSessions.{small_result, SmallSessions}
use Rattle.def_machine.proofs.Recorded.{recorded_law}
use Rattle.def_machine.proofs.Sessions.{quiet_alike, taken_whole}
use Rattle.def_machine.proofs.SmallLaws.{small_laws}

-- a turn beside itself by attempt 0, over equal repositories, comes to equal states
abbrev pub forgets : (B : ℕ) → Simulation (small B) (small B)
forgets B =
    record {
      Turns = λ t s. s ≡ by_first_attempt t;
      Repositories = λ n D E. D ≡ E;
      States = λ t s D E P Q. (s ≡ by_first_attempt t) × (D ≡ E) × (P ≡ Q);
      budget = refl;
      number = λ t s h. ap (λ (x : Turn (small B)). x.number) (sym h);
      begin = λ t s D E h r. (h, r, ap (λ (x : Turn (small B)). (small B).begin x.number x.attempt x.operation) (sym h));
      ended = λ t s D E P Q q. ap (λ S. is_some ((small B).outcome S)) q.2;
      lacks = λ t s D E P Q q o. (λ i. lack (small B) (sym q.0 i).answers (q.2 i));
      step = λ t s D E P Q q o l. (q.0, q.1, λ i. next_state (small B) (sym q.0 i).operation (q.1 i) (sym q.0 i).answers (q.2 i));
      leave = λ t s D E P Q r q o. (λ i. (small B).apply (r i) (shown (small B) (q.2 i)));
      later = λ n m D E l r. r;
    }

module _ (B : ℕ) where
  finishes_same : (ps qs : List (Finish (small B))) → AreFinishes (forgets B) ps qs → ps ≡ qs
  finishes_same [] [] h = refl
  finishes_same [] (q ∷ qs) h = absurd h
  finishes_same (p ∷ ps) [] h = absurd h
  finishes_same (p ∷ ps) (q ∷ qs) h = let rest : ps ≡ qs = finishes_same ps qs h.2 in λ i. record { number = h.0 i; state = h.1.states.2 i } ∷ rest i

  stop_same : (p q : Option (Stop (small B))) → AreStops (forgets B) p q → p ≡ q
  stop_same None None h = refl
  stop_same None (Some q) h = absurd h
  stop_same (Some p) None h = absurd h
  stop_same (Some p) (Some q) h = λ i. Some (record { number = h.0 i; state = h.1.states.2 i; lack = h.2 i })

pub small_sessions : SmallSessions
small_sessions B s S es l some h p e q =
    let kept = recorded_law (small B) s S es l h in
    let turns : map by_first_attempt (all_turns (small B) 1 l.updates) ≡ session_turns (small B) 1 S.submissions =
    kept.turns p ∙ ap (λ n. session_turns (small B) 1 (take n S.submissions)) e ∙ ap (session_turns (small B) 1) (taken_whole S.submissions) in
    let r : AreResults (forgets B) (small_result B S l) (serial (small B) S.base (map by_first_attempt (all_turns (small B) 1 l.updates))) =
    quiet_alike (small B) (small B) (small_laws B some) (forgets B) by_first_attempt s S S.base es l tt h q refl (λ k m u e f. refl) in
    sym
    ((λ i. record {
      finishes = finishes_same B (small_result B S l).finishes (serial (small B) S.base (map by_first_attempt (all_turns (small B) 1 l.updates))).finishes r.finishes i;
      stop = stop_same B (small_result B S l).stop (serial (small B) S.base (map by_first_attempt (all_turns (small B) 1 l.updates))).stop r.stop i;
      repository = r.repository i;
    })
    ∙ ap (serial (small B) S.base) turns)
