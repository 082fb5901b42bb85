use Rattle.std.proofs.Common.{◌∙◌, ap, refl, sym, subst, ℕ, suc, ◌<◌}
use Rattle.core_queue.specs.Settings.{settings_of}
use Rattle.core_engine.proofs.Arriving.{admission_came, admission_kept, has_admitted, unchanged_came, unchanged_kept}
use Rattle.core_engine.proofs.Telling.{count_told}
use Rattle.core_engine.proofs.Unread.{with_nothing_noted, with_origin}
use Rattle.core_engine.proofs.cores.Core.make_admission.Goals as goal

pub admit_at-requires-clause-few : goal.admit_at-requires-clause-few
admit_at-requires-clause-few c = subst (λ (n : ℕ). n < 1000) (sym (count_told _ _ c.self.inside.queue.items _ c.self.invariant.0.left c.self.view_is)) c.requires.few

pub invariant_of-self : goal.invariant_of-self
invariant_of-self c =
    with_origin (with_nothing_noted _ _ _ _ (record { update = 0; made = c.self.inside.known.made; marks = c.self.inside.known.marks }) refl
    (unchanged_kept c.self.inside.mappings c.self.inside.budget (settings_of c.self.inside.settings) c.self.inside.base.now c.self.inside.updates.now c.self.inside.later c.admit_at.new.later c.in_err-number.ensures.kept c.self.inside.versions
    c.self.inside.queue.items c.admit_at.new.queue.items c.self.inside.history.items c.admit_at.new.history.items c.self.invariant.0 c.in_err-number.ensures.queue c.in_err-number.ensures.history))
    (unchanged_came c.self.inside.mappings c.self.inside.budget (settings_of c.self.inside.settings) c.self.inside.base.now c.self.inside.updates.now c.self.inside.later c.admit_at.new.later c.in_err-number.ensures.kept c.self.inside.schema.now
    c.self.invariant.5)

pub invariant_of-self-2 : goal.invariant_of-self-2
invariant_of-self-2 c =
    with_origin (with_nothing_noted _ _ _ _ (record { update = 0; made = c.self.inside.known.made; marks = c.self.inside.known.marks }) refl
    (admission_kept c.self.inside.mappings c.self.inside.budget (settings_of c.self.inside.settings) c.self.inside.base.now c.self.inside.updates.now c.self.inside.later c.admit_at.new.later c.self.inside.versions
    c.self.inside.queue.items c.admit_at.new.queue.items c.self.inside.history.items c.admit_at.new.history.items c.args.update c.self.invariant.0 c.in_ok-number.ensures.later c.in_ok-number.ensures.made))
    (admission_came c.self.inside.mappings c.self.inside.budget (settings_of c.self.inside.settings) c.self.inside.base.now c.self.inside.updates.now c.self.inside.later c.admit_at.new.later c.self.inside.versions
    c.self.inside.queue.items c.admit_at.new.queue.items c.self.inside.history.items c.admit_at.new.history.items c.args.update c.self.invariant.0 c.in_ok-number.ensures.later c.in_ok-number.ensures.made c.args.self.now c.self.view_is c.requires.fits c.self.invariant.5)

pub returns-clause-made : goal.returns-clause-made
returns-clause-made c =
    has_admitted c.self.inside.mappings c.self.inside.budget (settings_of c.self.inside.settings) c.self.inside.base.now c.self.inside.updates.now c.self.inside.later c.admit_at.new.later c.self.inside.versions
    c.self.inside.queue.items c.admit_at.new.queue.items c.self.inside.history.items c.admit_at.new.history.items c.args.update c.self.invariant.0 c.in_ok-number.ensures.later c.in_ok-number.ensures.made c.args.self.now _ c.self.view_is refl c.requires.fits

pub returns-clause-number : goal.returns-clause-number
returns-clause-number c = c.in_ok-number.ensures.number ∙ ap suc (count_told _ _ c.self.inside.queue.items _ c.self.invariant.0.left c.self.view_is)
