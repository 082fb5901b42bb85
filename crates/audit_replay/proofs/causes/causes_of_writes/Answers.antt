use Rattle.std.proofs.Common.{◌≡◌, ◌∙◌, ap, subst, sym, ℕ, List, map, length, arith, rules}
use Rattle.std.proofs.lemmas.Grind.{common_steps}
use Rattle.std.proofs.lemmas.List.{nil_from_length}
use Rattle.base_types.specs.Meanings.{change_of, rule_of}
use Rattle.audit_updates.specs.Settings.{deps_of}
use Rattle.audit_replay.specs.Levels.{top}
use Rattle.audit_replay.specs.Relations.{AreRelationsOf}
use Rattle.audit_replay.proofs.Causing.{of_no_writes, of_writes}
use Rattle.audit_replay.proofs.Risen.{raised_long, sunk_one}
use Rattle.audit_replay.proofs.causes.causes_of_writes.Goals as goal

pub returns-then-is_empty : goal.returns-then-is_empty
returns-then-is_empty c =
    let none : length c.args.writes.now ≡ 0 = grind (arith, common_steps) in record {
      causes =
          of_no_writes (map rule_of c.args.scene.mappings.now.items) (deps_of c.args.scene.deps) c.args.scene.committed c.args.number (map change_of c.args.trail.now) (map change_of c.args.writes.now) (top c.args.levels.now) c.args.upper.now c.new.result.items
          (ap (map change_of) (nil_from_length c.args.writes.now none)) c.new.ensures.empty;
      levels = search rules;
    }

pub sink-requires : goal.sink-requires
sink-requires c =
    record {
      above = raised_long c.args.levels.now c.dependences_on.new.levels (map change_of c.args.trail.now) c.height-height.result c.height-height.ensures.height (c.in_ok-more.ensures.levels ∙ c.in_ok-causes.ensures.levels ∙ c.in_ok-rise.ensures.raised);
    }

pub returns : goal.returns
returns c = record {
  causes =
      of_writes (map rule_of c.args.scene.mappings.now.items) (deps_of c.args.scene.deps) c.args.scene.committed c.args.number (map change_of c.args.trail.now) (map change_of c.args.writes.now) c.args.levels.now c.rise.new.self c.conflicts.new.levels c.args.upper.now
      c.as_slice.result.now c.in_ok-causes.causes.items c.in_ok-more.more.items c.put_all.new.causes.items
      (subst (λ (ks : List ℕ). AreRelationsOf (map change_of c.args.writes.now) ks) (sym c.as_slice.ensures.value) c.in_ok-relations.ensures.same) c.in_ok-rise.ensures.raised c.in_ok-causes.ensures.levels c.in_ok-causes.ensures.causes
      c.in_ok-more.ensures.causes c.in_ok-put_all.ensures.all;
  levels =
      sunk_one c.args.levels.now c.dependences_on.new.levels c.sink.new.self (map change_of c.args.trail.now) (c.in_ok-more.ensures.levels ∙ c.in_ok-causes.ensures.levels ∙ c.in_ok-rise.ensures.raised) c.in_ok-sink.ensures.sunk;
}
