-- What is told of one line.
use Rattle.std.specs.Prelude.{◌≡◌, ℕ, List, [], ◌∷◌, ◌++◌, Option, Some, None}
use Rattle.std.proofs.Common.{sym, ap, subst, ◌∙◌}
use Rattle.core_entries.specs.Meanings.{entry_of}
use Rattle.core_entries.specs.declared.entries.Entry.{Entry}
use Rattle.def_language.specs.Sessions.{RelationSchema}
use Rattle.def_history.specs.Cores.{machine, effect_after, grown}
use Rattle.def_history.specs.PlainEntries.{PlainEntry}
use Rattle.def_machine.specs.History.{HistoryLaw}
use Rattle.audit_replay.specs.Replays.{HasMade, IsReplay, IsReplayOf}
use Rattle.audit_replay.specs.declared.events.Event.{Event}
use Rattle.audit_replay.specs.declared.replays.Replay.{Replay}
use Rattle.audit_trace.specs.Traces.{entry_line}
use Rattle.audit_claims.specs.Claims.{Tells, TellsNothing}
use Rattle.audit_claims.specs.Told.{Told}
use Rattle.audit_verdict.specs.Judging.{HasEvent, HasJudged}
use Rattle.audit_claims.specs.Verdicts.{Trial}
use Rattle.audit_verdict.specs.declared.verdicts.Why.TheVariants as whys
use Rattle.audit_verdict.proofs.Growing.{entry_tells, grows}
use Rattle.audit_verdict.proofs.Lined.{line_more}

module _ (relations : List RelationSchema) (line : List ℕ) (old new : Replay) where
  pub formless : TellsNothing relations line → HasJudged relations line old new (Some whys.Form)
  formless none t lines same stands = (stands.H, stands.replays.history, stands.told, subst (λ rs. TellsNothing rs line) (sym same) none)

  module _ (e : Told) (tells : Tells relations line e) where
    tells_of : (t : Trial) → t.relations ≡ relations → Tells t.relations line e
    tells_of t same = subst (λ rs. Tells rs line e) (sym same) tells

    module _ (event : Event) (due : HasEvent old e (Some event)) where
      pub not_allowed : HasMade event old new None → HasJudged relations line old new (Some whys.Event)
      not_allowed made t lines same stands =
          let is = due t.over stands.H stands.replays in
          (stands.H, stands.replays.history, stands.told, (e, tells_of t same, λ d. ap (effect_after t.over stands.H) (sym is.1) ∙ (made t.over stands.H stands.replays.replay).0))

      pub another : (entry : Entry) → HasMade event old new (Some entry) → (line ++ 10 ∷ [] ≡ entry_line relations (entry_of entry) → ⊥) → HasJudged relations line old new (Some whys.Effect)
      another entry made other t lines same stands =
          let is = due t.over stands.H stands.replays in
          let more = made t.over stands.H stands.replays.replay in (
            stands.H,
            stands.replays.history,
            stands.told,
            (
              e,
              entry_of entry,
              tells_of t same,
              is.0,
              ap (grown t.over stands.H) (sym is.1) ∙ more.0,
              λ own. other (own ∙ ap (λ rs. entry_line rs (entry_of entry)) same),
            ),
          )

      pub goes_on : (entry : Entry) → ((t : Trial) (H : List PlainEntry) → IsReplayOf t.over H old → HistoryLaw (machine t.over)) → HasMade event old new (Some entry)
          → line ++ 10 ∷ [] ≡ entry_line relations (entry_of entry) → HasJudged relations line old new None
      goes_on entry law made own t lines same stands =
          let is = due t.over stands.H stands.replays in
          let more = made t.over stands.H stands.replays.replay in
          record {
            H = stands.H ++ entry_of entry ∷ [];
            replays = grows t.over (law t stands.H stands.replays.replay) stands.H old new (entry_of entry) e stands.replays is.0 (ap (grown t.over stands.H) (sym is.1) ∙ more.0) more.1;
            told = line_more t.relations lines stands.H line (entry_of entry) stands.told (record {
              text = own ∙ ap (λ rs. entry_line rs (entry_of entry)) (sym same);
              tells = subst (Tells t.relations line) (sym (entry_tells t.over stands.H e (entry_of entry) stands.replays.admitted is.0 (ap (grown t.over stands.H) (sym is.1) ∙ more.0))) (tells_of t same);
            });
          }

-- It stays a replay.
pub still : (event : Event) (old new : Replay) (made : Option Entry) → IsReplay old → HasMade event old new made → IsReplay new
still event old new None is has = record { over = is.over; history = is.history; replays = (has is.over is.history is.replays).1 }
still event old new (Some entry) is has = record { over = is.over; history = is.history ++ entry_of entry ∷ []; replays = (has is.over is.history is.replays).1 }
