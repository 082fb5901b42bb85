use Rattle.std.proofs.Common.{◌≡◌, ◌∙◌, ◌<◌, ◌++◌, ap, get_or, sym, subst, refl, [], ◌∷◌, false, List, drop, length, append-nil, arith}
use Rattle.std.proofs.lemmas.Grind.{common_steps}
use Rattle.core_conflict.specs.Meetings.{IsNoneMet}
use Rattle.core_conflict.specs.Trails.{trails_of, writes_of}
use Rattle.core_conflict.specs.declared.concerns.Sense.TheVariants.{Went}
use Rattle.core_conflict.specs.declared.concerns.Trail.{Trail}
use Rattle.core_conflict.proofs.Gathering.{all_gone}
use Rattle.def_chase.specs.Updates.{direction_of}
use Rattle.def_chase.specs.Violations.{Direction}
use Rattle.chase_query.specs.Meanings.{reads_in}
use Rattle.core_cascade.specs.Reached.{MeetAlike}
use Rattle.core_cascade.specs.Walks.{has_own_impact}
use Rattle.core_cascade.proofs.Meeting.{alike_itself, left_out, one_of, put_in}
use Rattle.core_cascade.proofs.cascades.Cascade.trails_met.Goals as goal

pub loop-member-init : goal.loop-member-init
loop-member-init c =
    let r = c.args.reader.now in record {
      left = c.requires.lost;
      alike =
          subst (λ (ts : List Trail). MeetAlike c.args.self.now.mappings.now (trails_of (ts ++ c.args.lost.now.members.items)) (trails_of c.args.lost.now.members.items) r) (sym c.new-met.ensures.items)
          (alike_itself c.args.self.now.mappings.now (direction_of r.program.attempt.operation) r.program.attempt.own (trails_of c.args.lost.now.members.items) (reads_in r.log.items));
    }

pub loop-member-preserved-then-not-may_be_met : goal.loop-member-preserved-then-not-may_be_met
loop-member-preserved-then-not-may_be_met c =
    let ms = c.args.self.now.mappings.now in
    let r = c.args.reader.now in
    let all = c.args.lost.now.members.items in
    let l : c.loop-member.member-index < length all = omega arith in
    let is : c.member-item.result ≡ get_or all c.loop-member.member-index c.member-item.result = c.member-item.is ∙ ap (λ xs. get_or xs c.loop-member.member-index c.member-item.result) c.deref-member-items.ensures.value in
    let m : c.may_be_met.result ≡ false = grind (arith, common_steps) in
    let one = one_of (has_own_impact ms) all c.loop-member.member-index c.member-item.result l is c.loop-member.invariant.left in
    let none = subst (λ (h : Direction). IsNoneMet h r.footprint c.member-item.result.impact) c.direction-direction.ensures.heading (c.may_be_met.ensures.unmet m) in
    record {
      left = one.1;
      alike =
          left_out ms (direction_of r.program.attempt.operation) r.program.attempt.own c.loop-member.met.items all c.loop-member.member-index c.member-item.result (reads_in r.log.items) l is
          (none ms Went r.program.attempt.own (writes_of c.member-item.result ∷ []) (reads_in r.log.items) c.requires.covers one.0) c.loop-member.invariant.alike;
    }

pub loop-member-preserved : goal.loop-member-preserved
loop-member-preserved c =
    let ms = c.args.self.now.mappings.now in
    let r = c.args.reader.now in
    let all = c.args.lost.now.members.items in
    let l : c.loop-member.member-index < length all = omega arith in
    let is : c.member-item.result ≡ get_or all c.loop-member.member-index c.member-item.result = c.member-item.is ∙ ap (λ xs. get_or xs c.loop-member.member-index c.member-item.result) c.deref-member-items.ensures.value in
    let one = one_of (has_own_impact ms) all c.loop-member.member-index c.member-item.result l is c.loop-member.invariant.left in
    record {
      left = one.1;
      alike =
          put_in ms (direction_of r.program.attempt.operation) r.program.attempt.own c.loop-member.met.items c.push.new.self.items all c.loop-member.member-index c.member-item.result _ (reads_in r.log.items) l is refl c.in_ok-push.ensures.items c.loop-member.invariant.alike;
    }

pub returns : goal.returns
returns c =
    let ms = c.args.self.now.mappings.now in
    let r = c.args.reader.now in
    let all = c.args.lost.now.members.items in
    let ended : c.loop-member.member-index ≡ length all = omega arith in
    record {
      alike =
          subst (λ (ts : List Trail). MeetAlike ms (trails_of ts) (trails_of all) r) (ap (λ k. c.loop-member.met.items ++ drop k all) ended ∙ ap (λ ys. c.loop-member.met.items ++ ys) (all_gone all) ∙ append-nil c.loop-member.met.items) c.loop-member.invariant.alike;
    }
