use Rattle.std.proofs.Common.{◌∙◌, [], ◌∷◌, ap}
use Rattle.std.specs.Prelude.{codes, pos}
use Rattle.def_language.specs.Words.{name, number}
use Rattle.lang_schema.specs.Pages.{Written}
use Rattle.lang_session.specs.Meanings.{session_of}
use Rattle.chase_update.specs.Results.{result_of}
use Rattle.lang_print.specs.Lines.{with_line}
use Rattle.lang_report.proofs.Told.{told_text}
use Rattle.lang_report.proofs.results.result_text.Goals as goal

pub returns : goal.returns
returns c = record {
  text = c.into_text.ensures.text
      ∙ told_text (session_of c.args.session.now) (result_of c.args.told.now) c.in_ok-title.title c.in_ok-finished.finished c.in_ok-stopped.stopped c.in_ok-held.held c.in_ok-whole.whole
      (c.in_ok-title.ensures ∙ ap (λ (p : Written). with_line p (name (codes "youtopia") ∷ name (codes "result") ∷ number (pos 1) ∷ [])) c.new.ensures.blank)
      (rw c.as_slice-finishes.ensures.items at c.in_ok-finished.ensures)
      c.in_ok-stopped.ensures
      (rw c.as_slice-tuples.ensures.items at c.in_ok-held.ensures)
      (rw (c.as_slice-finishes.ensures.items, c.as_slice.ensures.items) at c.in_ok-whole.ensures);
}
