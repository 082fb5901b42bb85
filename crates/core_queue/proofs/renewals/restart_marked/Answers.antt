use Rattle.std.proofs.Common.{◌≡◌, ◌∙◌, ap, sym, subst, ℕ, suc, ◌+◌, List, [], ◌∷◌, ◌++◌, map, length, take, drop, Option, arith, add-one}
use Rattle.std.specs.Prelude.{is_some}
use Rattle.std.specs.Vec.Iter.{into_iter_items}
use Rattle.std.proofs.Math.ListN.{set}
use Rattle.std.proofs.lemmas.List.{nil_from_length}
use Rattle.chase_update.specs.Courses.{State}
use Rattle.def_steps.specs.Chase.{caused_chase}
use Rattle.core_queue.specs.Queues.{updates_of}
use Rattle.core_queue.specs.Events.{KeepsPlace}
use Rattle.core_queue.specs.Renewals.{AreFresh, HasRestartedIf}
use Rattle.core_queue.specs.declared.updates.QueuedUpdate.{QueuedUpdate}
use Rattle.core_queue.proofs.Restarting.{restart_by, put_there, fresh_within, fresh_rest, turned, restarted}
use Rattle.core_queue.proofs.renewals.restart_marked.Goals as goal

pub loop-program-preserved : goal.loop-program-preserved
loop-program-preserved c =
    let q = c.loop-program.queue in
    let k = c.loop-program.place in
    let v = c.restart_if.new.self in
    let r = c.index-queue-place.result in
    let stays : KeepsPlace r v = subst (λ (x : QueuedUpdate). KeepsPlace x v) (sym c.index-queue-place.is) c.restart_if.ensures.place in
    let made : HasRestartedIf c.in-Some.program r v = subst (λ (x : QueuedUpdate). HasRestartedIf c.in-Some.program x v) (sym c.index-queue-place.is) c.restart_if.ensures.restarted in
    let rest = into_iter_items c.next.new.self in
    let here : into_iter_items c.loop-program.program-iterator ≡ c.in-Some.program ∷ rest = c.in-Some.ensures.steps.0 in
    let fresh : AreFresh (drop k q) (c.in-Some.program ∷ rest) = subst (AreFresh (drop k q)) here c.loop-program.invariant.fresh in
    let within = fresh_within q k c.in-Some.program rest fresh in
    record {
      from = put_there q 1 k r v c.loop-program.invariant.from within (sym c.index-queue-place.is) stays;
      fresh = subst (λ (n : ℕ). AreFresh (drop n (set q k v)) rest) (sym (add-one k)) (fresh_rest q k c.in-Some.program rest v fresh);
      long =
          let fewer = c.in-Some.ensures.steps.1 in
          let all = c.loop-program.invariant.long in
          let first : length (into_iter_items c.loop-program.program-iterator) ≡ suc (length rest) = ap length here in
          omega (arith, fewer, all, first);
      done = λ ms B.
          turned ms B q k (k + 1) r v c.in-Some.program (map is_some rest) c.loop-program.invariant.from within (sym c.index-queue-place.is) made (add-one k)
          ∙ (ap (λ (fs : List (Option State)). take k (updates_of ms B q) ++ restart_by (caused_chase ms B) (suc k) (map is_some fs) (drop k (updates_of ms B q))) (sym here) ∙ c.loop-program.invariant.done ms B);
    }

pub returns-clause-restarted : goal.returns-clause-restarted
returns-clause-restarted c =
    let none : into_iter_items c.loop-program.program-iterator ≡ [] = nil_from_length (into_iter_items c.loop-program.program-iterator) (sym c.loop-program.invariant.long ∙ c.in-None.ensures.steps.0) in
    λ ms B xs same.
    restarted ms B (updates_of ms B c.loop-program.queue) (updates_of ms B c.args.queue.now) c.loop-program.place c.args.from xs c.args.fresh.items (into_iter_items c.loop-program.program-iterator) none same (c.loop-program.invariant.done ms B)
