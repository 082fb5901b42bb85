use Rattle.std.proofs.Common.{◌∙◌, ap, sym, subst, ℕ, ◌++◌}
use Rattle.work_lock.specs.Seats.{Place, seen_of, number_of}
use Rattle.def_record.specs.Makers.{Extends}
use Rattle.def_history.specs.Cores.{Ground}
use Rattle.work_desk.specs.Shared.{Items, items_of}
use Rattle.work_desk.specs.Stretches.{HasStretched}
use Rattle.work_desk.proofs.Passing.{same_over, saw_more}
use Rattle.work_desk.proofs.Stretching.{moves_extend}
use Rattle.work_desk.proofs.desk.Desk.stretch.Goals as goal

pub close_turn-requires-clause-extends : goal.close_turn-requires-clause-extends
close_turn-requires-clause-extends g c =
    let b = c.open-turn.result.1 in
    let s = c.stretch-stretch.ensures.stretch in
    subst (λ (y : ℕ × Items). Extends y.0 y.1 (items_of c.stretch-stretch.new.self)) (λ k. (c.number.ensures k, sym c.open-turn.ensures.seen k))
    (moves_extend s.count c.number.result b.over (items_of c.stretch-stretch.new.self) (items_of b) s.moves)

pub returns-clause-own : goal.returns-clause-own
returns-clause-own g c =
    let b = c.open-turn.result.1 in
    let s = c.stretch-stretch.ensures.stretch in
    let e = moves_extend s.count c.number.result b.over (items_of c.stretch-stretch.new.self) (items_of b) s.moves in
    let own = c.requires.own in
    let follows = c.open-turn.ensures.follows in
    let saw = saw_more _ _ own.later (seen_of c.args.seat.now) follows.0 e.0 (seen_of c.close_turn.new.seat) own.saw (c.close_turn.ensures.seen ∙ (sym e.1 ∙ ap (λ (l : Items). l ++ e.0) (sym follows.1))) in
    record { lock = ap (λ (z : Place). z.lock) (c.close_turn.ensures.place ∙ c.open-turn.ensures.place) ∙ own.lock; rest = c.close_turn.ensures.rest; later = saw.0; saw = saw.1 }

pub returns-clause-stretch : goal.returns-clause-stretch
returns-clause-stretch g c =
    let b = c.open-turn.result.1 in
    let s = c.args.seat.now in
    let follows = c.open-turn.ensures.follows in
    let over = same_over _ _ c.requires.own.later (seen_of s) (number_of s) b c.requires.own.saw follows in
    let number = c.number.ensures ∙ ap (λ (z : Place). z.number) c.open-turn.ensures.place in
    record {
      others = follows.0;
      unmade = follows.2;
      then = subst (λ (y : ℕ × Ground × Items × Items). HasStretched y.0 y.1 c.stretch-stretch.result y.2 y.3)
          (λ k. (number k, over k, sym c.close_turn.ensures.seen k, sym follows.1 k)) c.stretch-stretch.ensures.stretch;
    }
