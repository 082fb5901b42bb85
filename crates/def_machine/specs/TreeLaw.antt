-- The law of replay: the answers in its log determine a program's run.
use Rattle.std.specs.Prelude.{◌≡◌, List}
use Rattle.def_machine.specs.Trees.{Tree, result_of, log_of, AreAnswers, Leads}

-- A log leads a program to only one result, and if the questions get its answers, the program comes to that result with that log.
pub record IsReplay {Q R A : Type 0} (t : Tree Q R A) : Type 0 where
  -- the log made with any answers leads to the result made with them
  pub made : (val : Q → R) → Leads (log_of val t) t (result_of val t)
  -- if a log leads to a result, and the questions get its answers, the program comes to that result, with that log
  pub result : (val : Q → R) (log : List (Q × R)) (a : A) → AreAnswers val log → Leads log t a → result_of val t ≡ a
  pub log : (val : Q → R) (log : List (Q × R)) (a : A) → AreAnswers val log → Leads log t a → log_of val t ≡ log
