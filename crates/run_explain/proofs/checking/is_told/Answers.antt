use Rattle.std.proofs.Common.{◌∙◌, ap, sym, option_map}
use Rattle.run_explain.specs.ReasonMeanings.{reasons_in}
use Rattle.run_explain.proofs.Comparing.{told_alike}
use Rattle.run_explain.proofs.checking.is_told.Goals as goal

pub returns-in-Some : goal.returns-in-Some
returns-in-Some c = record { exact = told_alike c.same_reasons.result _ _ _ (ap (option_map reasons_in) (sym c.in-Some.is) ∙ c.in_ok-told.ensures.explained) c.same_reasons.ensures.same }
