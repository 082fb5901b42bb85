use Rattle.std.proofs.Common.{◌∙◌, ap, sym, ℕ, ◌+◌, List, map, drop}
use Rattle.def_workspace.specs.Ops.{new_among, new_in}
use Rattle.def_workspace.specs.Places.{greater}
use Rattle.ws_lines.specs.Meanings.{spelled_fact_of, spelled_of}
use Rattle.ws_lines.specs.declared.spelled.Spelled.{Spelled}
use Rattle.ws_ground.proofs.Counting.{none_greater, one_tuple_more, no_tuple_left}
use Rattle.ws_ground.proofs.hidden.news_among.Goals as goal

pub loop-tuple-init : goal.loop-tuple-init
loop-tuple-init c = none_greater (new_among (map spelled_fact_of c.args.tuples.now))

pub loop-tuple-preserved : goal.loop-tuple-preserved
loop-tuple-preserved c =
    ap (λ (n : ℕ). greater n (new_among (map spelled_fact_of (drop (c.loop-tuple.tuple-index + 1) c.args.tuples.now)))) (c.greater-most.ensures.greater ∙ ap (greater c.loop-tuple.most) (c.news_in.ensures.news ∙ ap (λ (vs : List Spelled). new_in (map spelled_of vs)) c.as_slice.ensures.items))
    ∙ one_tuple_more c.args.tuples.now c.loop-tuple.tuple-index c.loop-tuple.most c.tuple-item.result c.loop-tuple-test.true c.tuple-item.is
    ∙ c.loop-tuple.invariant

pub returns : goal.returns
returns c =
    record { news = sym (no_tuple_left c.args.tuples.now c.loop-tuple.tuple-index c.loop-tuple.most c.loop-tuple-test.false) ∙ c.loop-tuple.invariant }
