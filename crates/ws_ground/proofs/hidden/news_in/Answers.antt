use Rattle.std.proofs.Common.{◌∙◌, ap, sym, ℕ, ◌+◌, map, drop}
use Rattle.def_workspace.specs.Ops.{new_in}
use Rattle.def_workspace.specs.Places.{greater}
use Rattle.ws_lines.specs.Meanings.{spelled_of}
use Rattle.ws_ground.proofs.Counting.{none_greater, one_value_more, no_value_left}
use Rattle.ws_ground.proofs.hidden.news_in.Goals as goal

pub loop-value-init : goal.loop-value-init
loop-value-init c = none_greater (new_in (map spelled_of c.args.values.now))

pub loop-value-preserved : goal.loop-value-preserved
loop-value-preserved c =
    ap (λ (n : ℕ). greater n (new_in (map spelled_of (drop (c.loop-value.value-index + 1) c.args.values.now)))) (c.greater-most.ensures.greater ∙ ap (greater c.loop-value.most) c.news_at.ensures.news)
    ∙ one_value_more c.args.values.now c.loop-value.value-index c.loop-value.most c.value-item.result c.loop-value-test.true c.value-item.is
    ∙ c.loop-value.invariant

pub returns : goal.returns
returns c =
    record { news = sym (no_value_left c.args.values.now c.loop-value.value-index c.loop-value.most c.loop-value-test.false) ∙ c.loop-value.invariant }
