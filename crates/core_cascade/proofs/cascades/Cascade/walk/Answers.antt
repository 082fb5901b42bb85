use Rattle.std.proofs.Common.{ap, map, subst, sym, ◌∙◌, ◌+◌, ℕ, suc, ◌<◌, ◌≤◌, ◌≡◌, refl, true, false, List, [], None, add-one, length, arith}
use Rattle.base_types.specs.Meanings.{change_of}
use Rattle.std.specs.List.{list_all}
use Rattle.core_conflict.specs.Impacts.{has_change}
use Rattle.def_chase.proofs.Bools.{both}
use Rattle.def_chase.specs.Mappings.{Rule}
use Rattle.core_queue.specs.Order.{ReadsAtMost}
use Rattle.core_cascade.specs.Walks.{HasLostImpact, padded}
use Rattle.core_cascade.proofs.Padding.{found_padded, padded_full, padded_long, padded_none}
use Rattle.core_cascade.specs.Meanings.{above_of, found_for}
use Rattle.core_cascade.proofs.Holding.{kept_where}
use Rattle.core_cascade.proofs.Turns.{all_of, none_found, at_start, next_in, at_end, later_from}
use Rattle.core_cascade.proofs.cascades.Cascade.walk.Goals as goal

pub returns-then-readers-eq0-clause-found : goal.returns-then-readers-eq0-clause-found
returns-then-readers-eq0-clause-found c =
    let none : c.args.readers ≡ 0 = cc in
    λ B conflicting few looks s.
    (λ i. found_for (above_of c.args.self.now).rules B c.args.upper.now (c.new-found.ensures.items i))
    ∙ at_end (above_of c.args.self.now) conflicting B (map change_of c.args.written.now) (all_of (above_of c.args.self.now) conflicting B c.args.lost c.args.upper.now) c.args.lost 0 c.args.upper.now [] refl
    (subst (λ (k : ℕ). ReadsAtMost c.args.upper.now k) none c.requires.read)
    (at_start (above_of c.args.self.now) conflicting B (map change_of c.args.written.now) c.args.lost c.args.upper.now [] refl c.requires.from s)

pub returns-then-leaves_all-clause-found : goal.returns-then-leaves_all-clause-found
returns-then-leaves_all-clause-found c =
    let none : length c.new-found.result.items ≡ 0 = ap length c.new-found.ensures.items in
    let e = c.leaves_all.ensures.written c.if-leaves_all.true in
    let k = c.leaves_all.ensures.lost c.if-leaves_all.true in
    λ B conflicting few looks s.
    (λ i. found_for (above_of c.args.self.now).rules B c.args.upper.now (c.new-found.ensures.items i))
    ∙ none_found (above_of c.args.self.now) conflicting B (map change_of c.args.written.now) few looks (all_of (above_of c.args.self.now) conflicting B c.args.lost c.args.upper.now) c.args.lost c.args.upper.now [] e k
    (at_start (above_of c.args.self.now) conflicting B (map change_of c.args.written.now) c.args.lost c.args.upper.now [] refl c.requires.from s)

pub loop-i-init : goal.loop-i-init
loop-i-init c =
    let none : length c.new-found.result.items ≡ 0 = ap length c.new-found.ensures.items in record {
      long = omega (arith, none);
      from = (suc c.args.self.now.update, c.requires.from);
      lost = c.requires.lost;
      turns = λ B conflicting few looks s. at_start (above_of c.args.self.now) conflicting B (map change_of c.args.written.now) c.args.lost c.args.upper.now (padded 0 c.new-found.result.items) (padded_full 0 c.new-found.result.items none ∙ c.new-found.ensures.items) c.requires.from s;
    }

pub lose_where-requires : goal.lose_where-requires
lose_where-requires c =
    let l : c.loop-i.i < length c.args.upper.now = omega arith in
    record {
      between = (later_from c.loop-i.invariant.from.0 c.loop-i.i c.args.upper.now c.index-upper-i.result l c.index-upper-i.is c.loop-i.invariant.from.1).0.between;
      impact = subst (λ (ms : List Rule). HasLostImpact ms c.loop-i.lost) (sym c.list-mappings.ensures.rules) c.loop-i.invariant.lost;
    }

pub cause_for-requires : goal.cause_for-requires
cause_for-requires c =
    let l : c.loop-i.i < length c.args.upper.now = omega arith in
    record {
      covers = (later_from c.loop-i.invariant.from.0 c.loop-i.i c.args.upper.now c.index-upper-i.result l c.index-upper-i.is c.loop-i.invariant.from.1).0.covers;
      impact = both (list_all (has_change c.with-impact.result (above_of c.args.self.now).rules c.args.self.now.sense) (map change_of c.args.written.now)) true (subst (λ (ms : List Rule). list_all (has_change c.with-impact.result ms c.args.self.now.sense) (map change_of c.args.written.now) ≡ true) c.list-mappings.ensures.rules c.with-impact.ensures.has) refl;
      lost = c.loop-i.invariant.lost;
    }

pub passes-requires : goal.passes-requires
passes-requires c =
    let l : c.loop-i.i < length c.args.upper.now = omega arith in
    record { covers = (later_from c.loop-i.invariant.from.0 c.loop-i.i c.args.upper.now c.index-upper-i.result l c.index-upper-i.is c.loop-i.invariant.from.1).0.covers }

pub loop-i-preserved-then-passes : goal.loop-i-preserved-then-passes
loop-i-preserved-then-passes c =
    let l : c.loop-i.i < length c.args.upper.now = omega arith in
    record {
      long = omega (arith, c.loop-i.invariant.long);
      from = (suc c.loop-i.invariant.from.0, (later_from c.loop-i.invariant.from.0 c.loop-i.i c.args.upper.now c.index-upper-i.result l c.index-upper-i.is c.loop-i.invariant.from.1).1);
      lost = c.loop-i.invariant.lost;
      turns =
          λ B conflicting few looks s.
          next_in (above_of c.args.self.now) conflicting B (map change_of c.args.written.now) few looks (all_of (above_of c.args.self.now) conflicting B c.args.lost c.args.upper.now) c.loop-i.lost c.loop-i.lost c.loop-i.i c.args.upper.now c.index-upper-i.result
          (padded c.loop-i.i c.loop-i.found.items) (padded (c.loop-i.i + 1) c.loop-i.found.items) None false l c.index-upper-i.is
          (ap (λ (n : ℕ). padded n c.loop-i.found.items) (add-one c.loop-i.i) ∙ padded_none c.loop-i.i c.loop-i.found.items c.loop-i.invariant.long) refl
          (c.passes.ensures.passed c.if-passes.true (above_of c.args.self.now) (map change_of c.args.written.now)
          (both (list_all (has_change c.with-impact.result (above_of c.args.self.now).rules c.args.self.now.sense) (map change_of c.args.written.now)) true (subst (λ (ms : List Rule). list_all (has_change c.with-impact.result ms c.args.self.now.sense) (map change_of c.args.written.now) ≡ true) c.list-mappings.ensures.rules c.with-impact.ensures.has) refl))
          (kept_where c.index-upper-i.result false c.loop-i.lost refl) (c.loop-i.invariant.turns B conflicting few looks s);
    }

pub loop-i-preserved : goal.loop-i-preserved
loop-i-preserved c =
    let l : c.loop-i.i < length c.args.upper.now = omega arith in record {
      long = subst (λ (n : ℕ). length c.put_where.new.found.items ≤ n) (sym (add-one c.loop-i.i)) c.in_ok-put_where.ensures.few;
      from = (suc c.loop-i.invariant.from.0, (later_from c.loop-i.invariant.from.0 c.loop-i.i c.args.upper.now c.index-upper-i.result l c.index-upper-i.is c.loop-i.invariant.from.1).1);
      lost = subst (λ (ms : List Rule). HasLostImpact ms c.lose_where.new.self) c.list-mappings.ensures.rules c.in_ok-lose_where.ensures.impact;
      turns =
          λ B conflicting few looks s.
          next_in (above_of c.args.self.now) conflicting B (map change_of c.args.written.now) few looks (all_of (above_of c.args.self.now) conflicting B c.args.lost c.args.upper.now) c.loop-i.lost c.lose_where.new.self c.loop-i.i c.args.upper.now c.index-upper-i.result
          (padded c.loop-i.i c.loop-i.found.items) (padded (c.loop-i.i + 1) c.put_where.new.found.items) c.in_ok-cause.cause c.is_some.result l c.index-upper-i.is
          (ap (λ (n : ℕ). padded n c.put_where.new.found.items) (add-one c.loop-i.i) ∙ c.in_ok-put_where.ensures.put) c.is_some.ensures c.in_ok-cause.ensures.cause c.in_ok-lose_where.ensures.lost (c.loop-i.invariant.turns B conflicting few looks s);
    }

pub returns-clause-found : goal.returns-clause-found
returns-clause-found c =
    let all : c.args.readers ≡ c.loop-i.i = omega arith in
    let within : c.loop-i.i ≤ length c.args.upper.now = omega (arith, all, c.requires.within) in
    λ B conflicting few looks s.
    sym (found_padded (above_of c.args.self.now).rules B c.loop-i.i c.args.upper.now c.loop-i.found.items c.loop-i.invariant.long within)
    ∙ at_end (above_of c.args.self.now) conflicting B (map change_of c.args.written.now) (all_of (above_of c.args.self.now) conflicting B c.args.lost c.args.upper.now) c.loop-i.lost c.loop-i.i c.args.upper.now (padded c.loop-i.i c.loop-i.found.items) (padded_long c.loop-i.i c.loop-i.found.items c.loop-i.invariant.long)
    (subst (λ (k : ℕ). ReadsAtMost c.args.upper.now k) all c.requires.read)
    (c.loop-i.invariant.turns B conflicting few looks s)
