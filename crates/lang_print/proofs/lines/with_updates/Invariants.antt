use Rattle.std.proofs.Common.{◌≡◌, map, take}
use Rattle.std.specs.Prelude.{flat_map}
use Rattle.def_language.specs.Printing.{update_statements}
use Rattle.lang_session.specs.Meanings.{session_of, update_of}
use Rattle.def_language.specs.Grammar.{statement_words}
use Rattle.lang_print.specs.Lines.{with_lines}
use Rattle.lang_print.proofs.lines.with_updates.Given as goal

abbrev pub invariant-loop-update : goal.invariant-loop-update
invariant-loop-update l = l.page ≡ with_lines statement_words l.initial.page (flat_map (update_statements (session_of l.session)) (map update_of (take l.update-index l.session.updates.items)))
