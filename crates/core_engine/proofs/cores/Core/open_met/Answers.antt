use Rattle.std.proofs.Common.{◌∙◌, sym, subst, refl}
use Rattle.base_limits.specs.Within.{AreWithin}
use Rattle.core_queue.specs.Settings.{settings_of}
use Rattle.run_serial.proofs.Limits.{session_within}
use Rattle.lang_session.specs.Meanings.{session_of}
use Rattle.core_engine.proofs.Making.{opened_by, opened_is, opened_came, few_updates}
use Rattle.core_engine.proofs.Unread.{with_nothing_noted, with_origin}
use Rattle.core_engine.proofs.cores.Core.open_met.Goals as goal

pub admitted-requires : goal.admitted-requires
admitted-requires c = record { few = few_updates c.args.session.now.updates.items c.as_slice-updates.result.now c.as_slice-updates.ensures.items c.requires.valid.update_count }

pub admissions-requires : goal.admissions-requires
admissions-requires c = record { few = few_updates c.args.session.now.updates.items c.as_slice-updates.result.now c.as_slice-updates.ensures.items c.requires.valid.update_count }

pub invariant_of-result : goal.invariant_of-result
invariant_of-result c =
    with_origin (with_nothing_noted _ _ _ _ c.in_ok-known.known c.in_ok-known.ensures.none
    (opened_by c.in_ok-mappings.mappings c.args.budget (settings_of c.args.settings) c.args.session.now.base c.args.session.now.updates c.new-later.result c.args.base c.as_slice-updates.result.now c.in_ok-versions.versions c.in_ok-queue.queue.items
    c.in_ok-history.history.items c.new-later.ensures.empty c.is_within.ensures.some c.requires.retries
    (subst AreWithin (sym (c.in_ok-mappings.ensures.rules ∙ c.mappings_of.ensures.rules)) (session_within (session_of c.args.session.now) c.requires.valid)) c.requires.valid.base_order
    (few_updates c.args.session.now.updates.items c.as_slice-updates.result.now c.as_slice-updates.ensures.items c.requires.valid.update_count) c.requires.base c.as_slice-updates.ensures.items c.in_ok-queue.ensures.admitted c.in_ok-queue.ensures.numbers
    c.in_ok-queue.ensures.long c.in_ok-history.ensures.entries c.in_ok-versions.ensures.base))
    (opened_came (session_of c.args.session.now) c.in_ok-mappings.mappings c.args.budget (settings_of c.args.settings) c.args.session.now.base c.args.session.now.updates c.new-later.result c.new-later.ensures.empty
    (c.in_ok-mappings.ensures.rules ∙ c.mappings_of.ensures.rules) refl refl c.requires.valid c.requires.met c.is_within.ensures.some)

pub returns : goal.returns
returns c =
    record {
      opened =
          opened_is (session_of c.args.session.now) c.in_ok-mappings.mappings c.args.budget (settings_of c.args.settings) c.args.session.now.base c.args.session.now.updates c.new-later.result c.as_slice-updates.result.now c.in_ok-history.history.items c.new-later.ensures.empty
          (c.in_ok-mappings.ensures.rules ∙ c.mappings_of.ensures.rules) c.as_slice-updates.ensures.items c.in_ok-history.ensures.entries refl refl;
    }
