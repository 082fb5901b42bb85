use Rattle.std.proofs.Common.{refl, arith, length, drop, map}
use Rattle.base_types.specs.Meanings.{choice_of}
use Rattle.core_entries.specs.Meanings.{entry_of}
use Rattle.def_machine.specs.Effects.{Answers}
use Rattle.core_engine.proofs.Making.{some_number, kept_ok, kept_err, has_made}
use Rattle.core_engine.proofs.Replying.{paused_number, paused_within, paused_numbers, core_answers}
use Rattle.core_engine.proofs.Unread.{with_nothing_noted, with_origin}
use Rattle.core_engine.proofs.cores.Core.make_answer.Goals as goal

pub place_of-place-requires : goal.place_of-place-requires
place_of-place-requires c = let x = paused_number c.args.self.now c.args.update c.requires.paused in some_number c.args.self.now c.args.update x.0 x.1

pub answer_at-requires-clause-place : goal.answer_at-requires-clause-place
answer_at-requires-clause-place c =
    paused_within _ c.self.inside.versions c.self.inside.queue.items c.self.inside.history.items _ c.self.invariant.0 c.self.view_is c.args.update c.requires.paused c.place_of-place.result c.place_of-place.ensures c.deref_mut.result.now
    c.deref_mut.ensures.value

pub answer_at-requires-clause-numbers : goal.answer_at-requires-clause-numbers
answer_at-requires-clause-numbers c =
    paused_numbers _ c.self.inside.versions c.self.inside.queue.items c.self.inside.history.items _ c.self.invariant.0 c.self.view_is c.args.update c.requires.paused c.place_of-place.result c.place_of-place.ensures c.deref_mut.result.now
    c.deref_mut.ensures.value

pub invariant_of-self : goal.invariant_of-self
invariant_of-self c =
    with_origin (with_nothing_noted _ _ _ _ (record { update = 0; made = c.self.inside.known.made; marks = c.self.inside.known.marks }) refl
    (kept_err _ c.self.inside.versions c.self.inside.versions c.self.inside.queue.items c.deref_mut.result.now c.answer_at.new.queue (drop (length c.answer_at.new.queue) c.self.inside.queue.items) c.self.inside.queue.len
    c.self.inside.history.items c.answer_at.new.history.items (omega arith) c.self.invariant.0 c.deref_mut.ensures.value refl c.in_err-answer_at.ensures.queue c.answer_at.ensures.long c.in_err-answer_at.ensures.history)) c.self.invariant.5

pub invariant_of-self-2 : goal.invariant_of-self-2
invariant_of-self-2 c =
    with_origin (with_nothing_noted _ _ _ _ (record { update = 0; made = c.self.inside.known.made; marks = c.self.inside.known.marks }) refl
    (kept_ok _ c.self.inside.versions c.answer_at.new.queue (drop (length c.answer_at.new.queue) c.self.inside.queue.items) c.self.inside.queue.len (map entry_of c.answer_at.new.history.items) (omega arith)
    (core_answers _ c.self.inside.versions c.self.inside.queue.items c.self.inside.history.items _ c.self.invariant.0 c.self.view_is c.args.update c.requires.paused c.place_of-place.result c.place_of-place.ensures c.deref_mut.result.now
    c.deref_mut.ensures.value c.answer_at.new.queue c.answer_at.new.history.items (choice_of c.args.choice) c.requires.fits c.in_ok-answer_at.ensures.made).kept)) c.self.invariant.5

pub returns-clause-made : goal.returns-clause-made
returns-clause-made c =
    has_made (λ g. Answers c.args.update (choice_of c.args.choice)) _ c.self.inside.versions c.answer_at.new.queue (map entry_of c.self.inside.history.items) (map entry_of c.answer_at.new.history.items) c.args.self.now _ c.self.view_is refl
    (core_answers _ c.self.inside.versions c.self.inside.queue.items c.self.inside.history.items _ c.self.invariant.0 c.self.view_is c.args.update c.requires.paused c.place_of-place.result c.place_of-place.ensures c.deref_mut.result.now
    c.deref_mut.ensures.value c.answer_at.new.queue c.answer_at.new.history.items (choice_of c.args.choice) c.requires.fits c.in_ok-answer_at.ensures.made)
