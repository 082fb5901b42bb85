use Rattle.std.proofs.Common.{subst, sym, ap, ◌∙◌, refl, arith, length, ◌≤◌, ℕ, drop, map, List}
use Rattle.core_entries.specs.Meanings.{entry_of}
use Rattle.chase_query.specs.Meanings.{reads_in}
use Rattle.core_queue.specs.Queues.{AreFrom}
use Rattle.core_queue.specs.Renewals.{AllHaveOneMore}
use Rattle.core_queue.specs.Order.{CommitsAtLeast, ReadsAtMost, UnreadyUpTo}
use Rattle.core_queue.specs.declared.updates.QueuedUpdate.{QueuedUpdate}
use Rattle.def_chase.specs.Mappings.{Rule}
use Rattle.core_queue.specs.Settings.{settings_of}
use Rattle.core_engine.specs.Follows.{StepsTo}
use Rattle.core_engine.specs.Planned.{PlanMeant}
use Rattle.core_engine.proofs.Making.{some_number, ready_within, all_one_more, plan_ready, plan_between, core_steps, kept_ok, kept_err, has_stepped}
use Rattle.core_engine.proofs.Committing.{least_ok, fewer_unready, unready_ok}
use Rattle.core_engine.proofs.Marking.{known_after, known_ok}
use Rattle.core_engine.proofs.Unread.{with_nothing_noted, with_origin, most_ok, more_read}
use Rattle.core_engine.proofs.cores.Core.install.Goals as goal

pub place_of-place-requires : goal.place_of-place-requires
place_of-place-requires c = subst (λ (n : ℕ). 1 ≤ n) (sym (ap (λ (p : PlanMeant). p.update) c.plan.view_is)) (some_number c.args.self.now c.args.plan.update _ c.requires.ready)

pub step_at-requires-clause-place : goal.step_at-requires-clause-place
step_at-requires-clause-place c =
    ready_within _ c.self.inside.versions c.self.inside.queue.items _ _ c.self.invariant.0 c.self.view_is c.args.plan.update c.requires.ready c.place_of-place.result (c.place_of-place.ensures ∙ ap (λ (p : PlanMeant). p.update) c.plan.view_is)
    c.deref_mut.result.now c.deref_mut.ensures.value

pub step_at-requires-clause-least : goal.step_at-requires-clause-least
step_at-requires-clause-least c = subst (λ (rs : List QueuedUpdate). CommitsAtLeast rs c.self.inside.least) (sym c.deref_mut.ensures.value) c.self.invariant.1

pub reads_at_most-most-requires : goal.reads_at_most-most-requires
reads_at_most-most-requires c = record { most = subst (λ (rs : List QueuedUpdate). ReadsAtMost rs c.self.inside.most) (sym c.deref.ensures.value) c.self.invariant.2 }

pub step_at-requires-clause-most : goal.step_at-requires-clause-most
step_at-requires-clause-most c = subst (λ (rs : List QueuedUpdate). ReadsAtMost rs c.reads_at_most-most.result) (c.deref.ensures.value ∙ sym c.deref_mut.ensures.value) c.reads_at_most-most.ensures.most

pub step_at-requires-clause-few : goal.step_at-requires-clause-few
step_at-requires-clause-few c = subst (λ (rs : List QueuedUpdate). c.reads_at_most-most.result ≤ length rs) (c.deref.ensures.value ∙ sym c.deref_mut.ensures.value) c.reads_at_most-most.ensures.within

pub step_at-requires-clause-numbers : goal.step_at-requires-clause-numbers
step_at-requires-clause-numbers c = subst (λ (rs : List QueuedUpdate). AreFrom 1 rs) (sym c.deref_mut.ensures.value) c.self.invariant.0.numbers

pub step_at-requires-clause-more : goal.step_at-requires-clause-more
step_at-requires-clause-more c =
    subst (λ (rs : List QueuedUpdate). AllHaveOneMore rs) (sym c.deref_mut.ensures.value) (all_one_more _ c.self.inside.versions c.self.inside.queue.items _ c.self.invariant.0)

pub step_at-requires-clause-plan : goal.step_at-requires-clause-plan
step_at-requires-clause-plan c =
    plan_ready _ c.self.inside.versions c.self.inside.queue.items c.self.inside.history.items _ c.self.invariant.0 c.self.view_is c.args.plan.update c.requires.ready c.place_of-place.result
    (c.place_of-place.ensures ∙ ap (λ (p : PlanMeant). p.update) c.plan.view_is) c.deref_mut.result.now c.deref_mut.ensures.value c.plan.inside.step c.args.plan
    (ap (λ (n : ℕ). record { update = n; program = c.plan.inside.step.program; reads = reads_in c.plan.inside.step.reads.items }) (sym (ap (λ (p : PlanMeant). p.update) c.plan.view_is)) ∙ c.plan.view_is) c.requires.step

pub step_at-requires-clause-after : goal.step_at-requires-clause-after
step_at-requires-clause-after c =
    plan_between _ c.self.inside.versions c.self.inside.queue.items c.self.inside.history.items _ c.self.invariant.0 c.self.view_is c.args.plan.update c.requires.ready c.place_of-place.result
    (c.place_of-place.ensures ∙ ap (λ (p : PlanMeant). p.update) c.plan.view_is) c.deref_mut.result.now c.deref_mut.ensures.value c.plan.inside.step c.args.plan
    (ap (λ (n : ℕ). record { update = n; program = c.plan.inside.step.program; reads = reads_in c.plan.inside.step.reads.items }) (sym (ap (λ (p : PlanMeant). p.update) c.plan.view_is)) ∙ c.plan.view_is) c.requires.step

pub invariant_of-self : goal.invariant_of-self
invariant_of-self c =
    with_origin (with_nothing_noted _ _ _ _ (record { update = 0; made = c.self.inside.known.made; marks = c.self.inside.known.marks }) refl
    (kept_err _ c.self.inside.versions c.step_at.new.versions c.self.inside.queue.items c.deref_mut.result.now c.step_at.new.queue (drop (length c.step_at.new.queue) c.self.inside.queue.items) c.self.inside.queue.len
    c.self.inside.history.items c.step_at.new.history.items (omega arith) c.self.invariant.0 c.deref_mut.ensures.value c.in_err-committed.ensures.versions c.in_err-committed.ensures.queue c.step_at.ensures.long
    c.in_err-committed.ensures.history)) c.self.invariant.5

pub invariant_of-self-2 : goal.invariant_of-self-2
invariant_of-self-2 c = (
  kept_ok _ c.step_at.new.versions c.step_at.new.queue (drop (length c.step_at.new.queue) c.self.inside.queue.items) c.self.inside.queue.len (map entry_of c.step_at.new.history.items) (omega arith)
      (core_steps _ c.self.inside.versions c.self.inside.queue.items c.self.inside.history.items _ c.self.invariant.0 c.self.view_is c.args.plan.update c.requires.ready c.place_of-place.result
      (c.place_of-place.ensures ∙ ap (λ (p : PlanMeant). p.update) c.plan.view_is) c.deref_mut.result.now c.deref_mut.ensures.value c.plan.inside.step c.args.plan
      (ap (λ (n : ℕ). record { update = n; program = c.plan.inside.step.program; reads = reads_in c.plan.inside.step.reads.items }) (sym (ap (λ (p : PlanMeant). p.update) c.plan.view_is)) ∙ c.plan.view_is) c.requires.step
      c.step_at.new.versions c.step_at.new.queue c.step_at.new.history.items (subst (λ (ms : List Rule). StepsTo ms (settings_of c.self.inside.settings) c.place_of-place.result c.plan.inside.step c.self.inside.versions c.deref_mut.result.now c.self.inside.history.items
      c.step_at.new.versions c.step_at.new.queue c.step_at.new.history.items) c.all.ensures.rules c.in_ok-committed.ensures.made)).kept,
  least_ok c.step_at.new.queue (drop (length c.step_at.new.queue) c.self.inside.queue.items) c.self.inside.queue.len c.in_ok-committed.committed (omega arith) c.in_ok-committed.ensures.committed,
  most_ok c.step_at.new.queue (drop (length c.step_at.new.queue) c.self.inside.queue.items) c.self.inside.queue.len c.raised-self-inside.result (omega arith)
      (c.in_ok-committed.ensures.most c.raised-self-inside.result (let u = c.raised-self-inside.ensures.update in let p = c.place_of-place.ensures in omega (arith, u, p))
      (more_read c.deref_mut.result.now c.reads_at_most-most.result c.raised-self-inside.result c.raised-self-inside.ensures.most
      (subst (λ (rs : List QueuedUpdate). ReadsAtMost rs c.reads_at_most-most.result) (c.deref.ensures.value ∙ sym c.deref_mut.ensures.value) c.reads_at_most-most.ensures.most))),
  subst (λ (rs : List QueuedUpdate). UnreadyUpTo rs c.unready_from-self-inside.result) c.deref-2.ensures.value c.unready_from-self-inside.ensures.unready,
  known_ok _ c.step_at.new.versions c.step_at.new.queue (drop (length c.step_at.new.queue) c.self.inside.queue.items) c.self.inside.queue.len _ (omega arith)
      (known_after _ c.self.inside.versions c.step_at.new.versions c.self.inside.queue.items c.deref_mut.result.now c.step_at.new.queue _ _ c.place_of-place.result c.self.inside.known c.number_of-known.result c.plan.inside.update
      c.deref_mut.ensures.value c.self.invariant.0
      (core_steps _ c.self.inside.versions c.self.inside.queue.items c.self.inside.history.items _ c.self.invariant.0 c.self.view_is c.args.plan.update c.requires.ready c.place_of-place.result
      (c.place_of-place.ensures ∙ ap (λ (p : PlanMeant). p.update) c.plan.view_is) c.deref_mut.result.now c.deref_mut.ensures.value c.plan.inside.step c.args.plan
      (ap (λ (n : ℕ). record { update = n; program = c.plan.inside.step.program; reads = reads_in c.plan.inside.step.reads.items }) (sym (ap (λ (p : PlanMeant). p.update) c.plan.view_is)) ∙ c.plan.view_is) c.requires.step
      c.step_at.new.versions c.step_at.new.queue c.step_at.new.history.items (subst (λ (ms : List Rule). StepsTo ms (settings_of c.self.inside.settings) c.place_of-place.result c.plan.inside.step c.self.inside.versions c.deref_mut.result.now c.self.inside.history.items
      c.step_at.new.versions c.step_at.new.queue c.step_at.new.history.items) c.all.ensures.rules c.in_ok-committed.ensures.made)).kept
      c.in_ok-committed.ensures.grows
      (ready_within _ c.self.inside.versions c.self.inside.queue.items _ _ c.self.invariant.0 c.self.view_is c.args.plan.update c.requires.ready c.place_of-place.result (c.place_of-place.ensures ∙ ap (λ (p : PlanMeant). p.update) c.plan.view_is)
      c.deref_mut.result.now c.deref_mut.ensures.value)
      c.place_of-place.ensures c.number_of-known.ensures.known c.number_of-known.ensures.update c.self.invariant.4),
  c.self.invariant.5,
)

pub returns-clause-made : goal.returns-clause-made
returns-clause-made c =
    has_stepped _ c.step_at.new.versions c.step_at.new.queue (map entry_of c.self.inside.history.items) (map entry_of c.step_at.new.history.items) c.args.self.now _ c.args.plan.update c.self.view_is refl
    (core_steps _ c.self.inside.versions c.self.inside.queue.items c.self.inside.history.items _ c.self.invariant.0 c.self.view_is c.args.plan.update c.requires.ready c.place_of-place.result
    (c.place_of-place.ensures ∙ ap (λ (p : PlanMeant). p.update) c.plan.view_is) c.deref_mut.result.now c.deref_mut.ensures.value c.plan.inside.step c.args.plan
    (ap (λ (n : ℕ). record { update = n; program = c.plan.inside.step.program; reads = reads_in c.plan.inside.step.reads.items }) (sym (ap (λ (p : PlanMeant). p.update) c.plan.view_is)) ∙ c.plan.view_is) c.requires.step
    c.step_at.new.versions c.step_at.new.queue c.step_at.new.history.items (subst (λ (ms : List Rule). StepsTo ms (settings_of c.self.inside.settings) c.place_of-place.result c.plan.inside.step c.self.inside.versions c.deref_mut.result.now c.self.inside.history.items
    c.step_at.new.versions c.step_at.new.queue c.step_at.new.history.items) c.all.ensures.rules c.in_ok-committed.ensures.made))

pub unready_from-self-inside-requires-clause-from : goal.unready_from-self-inside-requires-clause-from
unready_from-self-inside-requires-clause-from c =
    subst (λ (rs : List QueuedUpdate). AreFrom 1 rs) (sym c.deref-2.ensures.value) (kept_ok _ c.step_at.new.versions c.step_at.new.queue (drop (length c.step_at.new.queue) c.self.inside.queue.items) c.self.inside.queue.len (map entry_of c.step_at.new.history.items) (omega arith)
    (core_steps _ c.self.inside.versions c.self.inside.queue.items c.self.inside.history.items _ c.self.invariant.0 c.self.view_is c.args.plan.update c.requires.ready c.place_of-place.result
    (c.place_of-place.ensures ∙ ap (λ (p : PlanMeant). p.update) c.plan.view_is) c.deref_mut.result.now c.deref_mut.ensures.value c.plan.inside.step c.args.plan
    (ap (λ (n : ℕ). record { update = n; program = c.plan.inside.step.program; reads = reads_in c.plan.inside.step.reads.items }) (sym (ap (λ (p : PlanMeant). p.update) c.plan.view_is)) ∙ c.plan.view_is) c.requires.step
    c.step_at.new.versions c.step_at.new.queue c.step_at.new.history.items (subst (λ (ms : List Rule). StepsTo ms (settings_of c.self.inside.settings) c.place_of-place.result c.plan.inside.step c.self.inside.versions c.deref_mut.result.now c.self.inside.history.items
    c.step_at.new.versions c.step_at.new.queue c.step_at.new.history.items) c.all.ensures.rules c.in_ok-committed.ensures.made)).kept).numbers

pub unready_from-self-inside-requires-clause-first : goal.unready_from-self-inside-requires-clause-first
unready_from-self-inside-requires-clause-first c =
    subst (λ (rs : List QueuedUpdate). UnreadyUpTo rs c.lesser-below.result) (sym c.deref-2.ensures.value)
    (unready_ok c.step_at.new.queue (drop (length c.step_at.new.queue) c.self.inside.queue.items) c.self.inside.queue.len c.lesser-below.result (omega arith)
    (c.in_ok-committed.ensures.unready c.lesser-below.result c.lesser-below.ensures.other
    (fewer_unready c.deref_mut.result.now c.self.inside.unready c.lesser-below.result c.lesser-below.ensures.one (subst (λ (rs : List QueuedUpdate). UnreadyUpTo rs c.self.inside.unready) (sym c.deref_mut.ensures.value) c.self.invariant.3))))
