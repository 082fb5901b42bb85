-- What is undone and then done again is as it was.
use Rattle.std.proofs.Common.{◌≡◌, ◌∙◌, ap, sym, refl, ℕ, true, false, Bool, not, ◌&&◌, ◌||◌, List, [], ◌∷◌, ◌++◌, filter, length, arith}
use Rattle.def_chase.specs.Violations.{Scope}
use Rattle.def_chase.specs.Updates.{Operation}
use Rattle.def_workspace.specs.Lines.{Undoes, Redoes}
use Rattle.def_workspace.specs.Places.{among}
use Rattle.def_workspace.specs.Worlds.{with_waiting}
use Rattle.def_workspace.specs.States.{Table, Live, State, counting, first_live, done_by_all, replayed, logged, with_undone, taken}
use Rattle.ws_laws.specs.Logs.{state_of}
use Rattle.ws_laws.specs.Replays.{RedosBringBack}
use Rattle.ws_laws.proofs.Growing.{takes}
use Rattle.ws_laws.proofs.Replaying.{Covers, Again}
use Rattle.ws_laws.proofs.Logging.{counting_end, done_end, settled_logs}
use Rattle.ws_laws.proofs.Marking.{among_join, among_without, same_waited, same_counting}

module _ (scope : Operation → Scope) (S : State) (ns : List ℕ) (none : (m : ℕ) → among ns m ≡ true → among S.undone m ≡ false) where
  -- The state with both lines, before the replay of the second.
  abbrev back : State
  back = with_undone (logged (taken scope S (Undoes ns)) (Redoes ns)) (filter (λ n. not (among ns n)) (ns ++ S.undone))

  same_undone : (m : ℕ) → among back.undone m ≡ among S.undone m
  same_undone m =
      among_without ns (ns ++ S.undone) m ∙ (ap (λ b. not (among ns m) && b) (among_join ns S.undone m) ∙ by (among ns m) (none m))
    where
      by : (b : Bool) → (b ≡ true → among S.undone m ≡ false) → (not b && (b || among S.undone m)) ≡ among S.undone m
      by true h = sym (h refl)
      by false h = refl

  same_start : (first_live back).world ≡ (first_live S).world
  same_start = ap (with_waiting S.base) (same_waited [] back S (λ m e. same_undone m) (λ m e. refl) S.base.waiting tt)

  front : counting back 0 S.lines ≡ counting S 0 S.lines
  front = same_counting [] back S (length S.lines) (λ m e. same_undone m) (λ i l. refl) 0 (length S.lines) S.lines (omega arith) refl tt

  counted : counting back 0 back.lines ≡ (counting S 0 S.lines ++ Undoes ns ∷ []) ++ Redoes ns ∷ []
  counted =
      counting_end back 0 (length (S.lines ++ Undoes ns ∷ [])) (S.lines ++ Undoes ns ∷ []) (Redoes ns) (omega arith) refl
      ∙ ap (λ xs. xs ++ Redoes ns ∷ [])
      (counting_end back 0 (length S.lines) S.lines (Undoes ns) (omega arith) refl ∙ ap (λ xs. xs ++ Undoes ns ∷ []) front)

  -- What the replay begins with, and what it comes to.
  abbrev start : Live
  start = record { world = (first_live S).world; tables = back.live.tables }

  same_replay : replayed scope back ≡ done_by_all scope S.declared start (counting S 0 S.lines)
  same_replay =
      (λ i. done_by_all scope S.declared record { world = same_start i; tables = back.live.tables } (counted i))
      ∙ (done_end scope S.declared start (counting S 0 S.lines ++ Undoes ns ∷ []) (Redoes ns) ∙ done_end scope S.declared start (counting S 0 S.lines) (Undoes ns))

  brought : ((us : List Table) → Covers S.live.tables us
      → Again S.live.world us (done_by_all scope S.declared record { world = (first_live S).world; tables = us } (counting S 0 S.lines)))
      → (replayed scope back).world ≡ S.live.world
  brought settled = ap (λ (l : Live). l.world) same_replay ∙ (settled back.live.tables (λ n. (takes scope S (Undoes ns) n).grows)).world

pub redos_bring_back : RedosBringBack
redos_bring_back scope ds n l xs ns d t none = brought scope (state_of scope ds n l xs) ns none (settled_logs scope ds n l xs d t)
