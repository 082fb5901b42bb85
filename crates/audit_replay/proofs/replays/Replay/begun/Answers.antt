use Rattle.std.proofs.Common.{◌∙◌, ap, refl, List, ◌∷◌, [], map}
use Rattle.def_chase.specs.Values.{Fact}
use Rattle.audit_updates.specs.Settings.{settings_of}
use Rattle.lang_session.specs.Meanings.{session_of, update_of}
use Rattle.audit_replay.proofs.Done.{begun_is}
use Rattle.audit_replay.proofs.replays.Replay.begun.Goals as goal

pub base_of-requires : goal.base_of-requires
base_of-requires c = record { sorted = c.requires.valid.base_order }

pub returns : goal.returns
returns c = record {
  begun =
      begun_is (session_of c.args.session.now) c.args.budget (settings_of c.args.settings) _ c.is_within.ensures.some c.requires.retries c.requires.valid.update_count c.requires.valid.base_order c.mappings_of-mappings.ensures.rules refl refl
      (ap (map update_of) c.as_slice-handed.ensures.items) c.new-updates.ensures.items (c.new-levels.ensures.one ∙ ap (λ (D : List Fact). D ∷ []) c.in_ok-base.ensures.same);
}
