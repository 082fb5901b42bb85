use Rattle.std.proofs.Common.{rules, ◌≡◌, ◌∙◌, ◌++◌, ◌∷◌, ap, map, sym, List}
use Rattle.std.proofs.lemmas.List.{map_push, map-append}
use Rattle.std.specs.Vec.Iter.{into_iter_items}
use Rattle.def_chase.specs.Values.{Fact}
use Rattle.def_chase.specs.Repository.{apply, change}
use Rattle.base_types.specs.Meanings.{change_of}
use Rattle.base_types.specs.declared.updates.Write.{Write}
use Rattle.chase_eval.proofs.Written.{apply_one_more}
use Rattle.set_facts.proofs.Groups.{held_err}
use Rattle.run_serial.proofs.Making.{taken_front}
use Rattle.run_serial.proofs.repositories.make.Goals as goal

pub returns-in_err-make_one-clause-err : goal.returns-in_err-make_one-clause-err
returns-in_err-make_one-clause-err c =
    let front = taken_front c.into_iter-write-iterator.result c.loop-write.yielded c.loop-write.write-iterator c.loop-write.yielded_by in
    let items : c.args.writes.items ≡ c.loop-write.yielded ++ c.in-Some.write ∷ into_iter_items c.next.new.self =
    sym c.into_vec-write-items.ensures.same ∙ (sym c.into_iter-write-iterator.ensures.into_iter_gives.0 ∙ (front ∙ ap (λ (rest : List Write). c.loop-write.yielded ++ rest) c.in-Some.ensures.steps.0)) in
    held_err c.from_residual.result (
      map change_of c.loop-write.yielded,
      change_of c.in-Some.write ∷ map change_of (into_iter_items c.next.new.self),
      ap (map change_of) items ∙ map-append change_of c.loop-write.yielded (c.in-Some.write ∷ into_iter_items c.next.new.self),
      c.in_err-make_one.ensures.err ∙ c.loop-write.invariant.made,
    )

pub loop-write-preserved : goal.loop-write-preserved
loop-write-preserved c = record {
  left = search (rules);
  made =
      c.in_ok-make_one.ensures.made
      ∙ ap (λ (D : List Fact). change D (change_of c.in-Some.write)) c.loop-write.invariant.made
      ∙ sym (apply_one_more c.args.facts.now (map change_of c.loop-write.yielded) (change_of c.in-Some.write))
      ∙ ap (apply c.args.facts.now) (sym (map_push change_of c.loop-write.yielded c.in-Some.write));
}
