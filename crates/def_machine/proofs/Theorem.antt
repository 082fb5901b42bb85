-- The history law of every machine that meets the laws.
use Rattle.std.proofs.Common.{◌≡◌, suc, ◌+◌, ◌*◌, ap, subst, arith, length}
use Rattle.def_machine.specs.Machine.{Machine, Laws}
use Rattle.def_machine.specs.Updates.{below, committed}
use Rattle.def_machine.specs.Histories.{empty_log}
use Rattle.def_machine.specs.Runs.{IsRun, AreRuns}
use Rattle.def_machine.specs.Bounds.{admissions_in}
use Rattle.def_machine.specs.History.{HistoryLaw}
use Rattle.def_machine.proofs.Places.{runs_at, valid_at}
use Rattle.def_machine.proofs.Events.{after_runs}
use Rattle.def_machine.proofs.Serials.{serial_is}
use Rattle.def_machine.proofs.Quiet.{quiet_is}
use Rattle.def_machine.proofs.Bounds.{tried_at, bounded_after}
use Rattle.def_machine.proofs.Legal.{legal_is, admissions_are}

pub history_law : (M : Machine) → Laws M → HistoryLaw M
history_law M L s S es l z h =
    let runs : AreRuns M S.base 1 l.updates = after_runs M L s S (empty_log M) l es z tt h in
    let kept = bounded_after M L s S (empty_log M) es l z tt (tt, omega arith) h in
    let admitted : admissions_in l.entries ≡ length l.updates = admissions_are M L s S (empty_log M) es l (omega arith) h in
    let all : admissions_in l.entries * ((2 + s.retries) * M.budget) ≡ length l.updates * ((2 + s.retries) * M.budget) = ap (λ n. n * ((2 + s.retries) * M.budget)) admitted in
    record {
      legal = legal_is M L s S es l h;
      valid = λ k u e. valid_at M L S.base 1 k l.updates u runs e;
      runs = λ k u e w. let f : 1 + k ≡ suc k = omega arith in (subst (λ n. IsRun M (below M S.base l.updates k) n u) f (runs_at M L S.base 1 k l.updates u runs e)).present w;
      as_serial = serial_is M L S.base 1 l.updates runs;
      quiet = λ q. quiet_is M L s S.base l.updates runs q;
      attempts = λ k u e. (tried_at M s.retries (committed M l.updates) 1 k l.updates u kept.0 e).0;
      admissions = admitted;
      steps = omega (arith, kept.1, all);
    }
