use Rattle.std.proofs.Common.{◌≡◌, ◌∙◌, ◌≤◌, suc, sym, ap, length, arith}
use Rattle.std.proofs.lemmas.List.{length_push}
use Rattle.core_cascade.proofs.Padding.{padded_full, padded_more}
use Rattle.core_cascade.proofs.cascades.pad.Goals as goal

pub gaps-preserved : goal.gaps-preserved
gaps-preserved c =
    let l : suc (length c.gaps.found.items) ≤ c.args.place = omega arith in
    let more = ap length c.in_ok-push.ensures.items ∙ length_push c.gaps.found.items _ in
    record {
      few = omega (arith, more, l);
      same = padded_more c.args.place c.gaps.found.items c.push.new.self.items l c.in_ok-push.ensures.items ∙ c.gaps.invariant.same;
    }

pub returns : goal.returns
returns c =
    let all : length c.gaps.found.items ≡ c.args.place = omega arith in
    record { padded = sym (padded_full c.args.place c.gaps.found.items all) ∙ c.gaps.invariant.same }
