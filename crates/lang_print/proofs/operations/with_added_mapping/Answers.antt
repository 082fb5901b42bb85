use Rattle.std.proofs.Common.{◌≡◌, sym, subst, IfOk}
use Rattle.def_language.specs.Statements.{AddMapping}
use Rattle.def_language.specs.Grammar.{operation_words}
use Rattle.def_language.specs.Printing.{no_mapping, written_mapping}
use Rattle.def_language.specs.Sessions.{SessionMapping}
use Rattle.lang_schema.specs.Meanings.{session_mapping_of}
use Rattle.lang_schema.specs.Pages.{with_words}
use Rattle.lang_print.proofs.Onward.{image_at, no_image_at}
use Rattle.lang_print.proofs.operations.with_added_mapping.Goals as goal

pub returns-in-Some : goal.returns-in-Some
returns-in-Some c = subst (λ (m : SessionMapping). IfOk c.with_mapping.result (λ p. p ≡ with_words c.args.page (operation_words (AddMapping (written_mapping c.args.schema.now m)))))
    (sym (image_at session_mapping_of c.args.mappings.now.items c.args.number c.in-Some.mapping.now no_mapping (sym c.in-Some.ensures.item)))
    c.with_mapping.ensures.words

pub returns-in-None : goal.returns-in-None
returns-in-None c = subst (λ (m : SessionMapping). IfOk c.with_no_mapping.result (λ p. p ≡ with_words c.args.page (operation_words (AddMapping (written_mapping c.args.schema.now m)))))
    (sym (no_image_at session_mapping_of c.args.mappings.now.items c.args.number no_mapping (sym c.in-None.ensures.item)))
    (c.with_no_mapping.ensures c.args.schema.now)
