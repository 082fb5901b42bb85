use Rattle.ws_names.proofs.Kept.{kept_on, names_left, nulls_left}
use Rattle.ws_names.proofs.names.keep_first.Goals as goal

pub pairs-preserved : goal.pairs-preserved
pairs-preserved c = record {
  names =
      names_left c.pairs.drawn.items c.pop_after.new.drawn.items c.in-Some.pair c.args.count c.len-place.result c.pairs.names c.forget.new.firsts
      c.pairs.invariant.names c.in-Some.ensures.some c.len-place.ensures.length c.forget.ensures.rest;
  nulls =
      nulls_left c.pairs.drawn.items c.pop_after.new.drawn.items c.in-Some.pair c.args.count c.len-place.result c.pairs.nulls c.forget-in-Some.new.firsts
      c.pairs.invariant.nulls c.in-Some.ensures.some c.len-place.ensures.length c.forget-in-Some.ensures.rest;
  kept = kept_on c.args.drawn.now.items c.pairs.drawn.items c.pop_after.new.drawn.items c.in-Some.pair c.args.count c.pairs.invariant.kept c.in-Some.ensures.some;
}
