use Rattle.std.proofs.Common.{◌∙◌}
use Rattle.base_types.specs.Meanings.{fact_of}
use Rattle.def_language.specs.Checks.{rules_of}
use Rattle.run_explain.specs.NoteMeanings.{notes_in}
use Rattle.lang_session.specs.Meanings.{requests_in, session_of}
use Rattle.run_explain.proofs.Told.{told_where}
use Rattle.run_explain.proofs.explaining.explain_over.Goals as goal

pub returns-clause-explained : goal.returns-clause-explained
returns-clause-explained c =
    let s = session_of c.args.session.now in
    c.in_ok-explanation.ensures.told
    ∙ told_where (rules_of s.mappings) c.args.budget s.base (requests_in s) (fact_of c.args.tuple.now) c.in_ok-run.run'.result (notes_in c.in_ok-run.run'.notes)
    c.notes_tell.ensures c.in_ok-run.ensures.told c.in_ok-run.ensures.noted
