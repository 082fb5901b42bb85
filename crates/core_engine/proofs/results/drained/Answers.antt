use Rattle.std.proofs.Common.{sym}
use Rattle.std.proofs.lemmas.List.{length-map}
use Rattle.core_queue.specs.Settings.{settings_of}
use Rattle.lang_session.specs.Meanings.{session_of, update_of}
use Rattle.core_engine.proofs.Resulting.{drained_serially, if_ok_both}
use Rattle.core_engine.proofs.results.drained.Goals as goal

pub returns : goal.returns
returns c = record {
  told = if_ok_both c.came_to.result _ _ _
      (λ told quiet is. drained_serially (session_of c.args.session.now) c.args.budget (settings_of c.args.settings) _ _ _ told c.requires.valid c.requires.met (sym (length-map c.args.session.now.updates.items update_of)) c.in_ok-core.ensures.opened
      c.is_legal.ensures.budget c.is_legal.ensures.sorted c.is_legal.ensures.legal c.came_to.ensures.turned quiet is)
      c.came_to.ensures.quiet c.came_to.ensures.told;
}
