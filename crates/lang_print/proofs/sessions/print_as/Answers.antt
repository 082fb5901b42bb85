use Rattle.std.proofs.Common.{◌∙◌, ap}
use Rattle.def_language.specs.Grammar.{statement_words}
use Rattle.def_language.specs.Statements.{Header}
use Rattle.lang_schema.specs.Pages.{Written}
use Rattle.lang_session.specs.Meanings.{session_of}
use Rattle.lang_print.specs.Lines.{with_line}
use Rattle.lang_print.proofs.Sheets.{session_text}
use Rattle.lang_print.proofs.sessions.print_as.Goals as goal

pub returns : goal.returns
returns c =
    c.into_text.ensures.text
    ∙ session_text (record (session_of c.args.session.now) { format = c.args.format }) c.in_ok-header.header c.in_ok-relations.relations c.in_ok-mappings.mappings c.in_ok-base.base c.in_ok-updates.updates c.in_ok-whole.whole
    (c.in_ok-header.ensures ∙ ap (λ (p : Written). with_line p (statement_words (Header c.args.format))) c.new.ensures.blank)
    c.in_ok-relations.ensures
    (rw c.as_slice.ensures.items at c.in_ok-mappings.ensures)
    (rw c.as_slice-2.ensures.items at c.in_ok-base.ensures)
    c.in_ok-updates.ensures c.in_ok-whole.ensures
