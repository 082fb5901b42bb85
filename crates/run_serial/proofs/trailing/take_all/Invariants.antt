use Rattle.std.proofs.Common.{◌≡◌, suc, drop, map}
use Rattle.def_chase.specs.Repository.{IsRepository}
use Rattle.lang_session.specs.Meanings.{request_of, update_of}
use Rattle.run_serial.specs.Trails.{after, trailed_from, trails_of}
use Rattle.run_serial.proofs.trailing.take_all.Given as goal

-- What is left by the whole is what is left so far and then by the updates to come.
abbrev pub invariant-loop-update : goal.invariant-loop-update
invariant-loop-update l = record {
  sorted : IsRepository l.facts;
  number : l.number ≡ suc l.update-index;
  together :
      after (trails_of l.fn.trails) (trailed_from l.mappings l.budget l.fn.facts 1 (map request_of (map update_of l.updates)))
      ≡ after (trails_of l.trails) (trailed_from l.mappings l.budget l.facts l.number (map request_of (map update_of (drop l.update-index l.updates))));
}
