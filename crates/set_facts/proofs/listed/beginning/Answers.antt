use Rattle.std.proofs.Common.{◌≡◌, map, subst, true, Option, Bor}
use Rattle.std.specs.Option.{option_map, option_copied}
use Rattle.def_chase.specs.Cursors.{is_beyond}
use Rattle.base_types.specs.Meanings.{fact_of}
use Rattle.base_types.specs.declared.tuples.Tuple.{Tuple}
use Rattle.set_facts.proofs.Ahead.{has_all_that, beyond_from}
use Rattle.set_facts.proofs.listed.beginning.Goals as goal

pub returns-in-Some : goal.returns-in-Some
returns-in-Some c =
    let t = fact_of c.in-Some.before.now in
    record {
      all = has_all_that (is_beyond (option_map fact_of (option_copied c.args.past))) t (map fact_of c.args.tuples.now) (map fact_of c.from.result.now)
          (λ u h. beyond_from t u (subst (λ (o : Option (Bor Tuple)). is_beyond (option_map fact_of (option_copied o)) u ≡ true) c.in-Some.is h)) c.from.ensures.rest;
    }
