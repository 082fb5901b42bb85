use Rattle.std.proofs.Common.{◌∙◌, ap, sym, ℕ, ◌+◌, map, drop}
use Rattle.def_workspace.specs.Places.{greater, greatest as greatest_of}
use Rattle.ws_names.specs.Meanings.{place_of}
use Rattle.ws_names.proofs.Greatest.{none_greater, one_more, none_left}
use Rattle.ws_names.proofs.places.greatest.Goals as goal

pub loop-place-init : goal.loop-place-init
loop-place-init c = none_greater (greatest_of (map place_of c.args.places.now))

pub loop-place-preserved : goal.loop-place-preserved
loop-place-preserved c =
    ap (λ (n : ℕ). greater n (greatest_of (map place_of (drop (c.loop-place.place-index + 1) c.args.places.now)))) c.greater-most.ensures.greater
    ∙ one_more c.args.places.now c.loop-place.place-index c.loop-place.most c.place-item.result c.loop-place-test.true c.place-item.is
    ∙ c.loop-place.invariant

pub returns : goal.returns
returns c =
    record { greatest = sym (none_left c.args.places.now c.loop-place.place-index c.loop-place.most c.loop-place-test.false) ∙ c.loop-place.invariant }
