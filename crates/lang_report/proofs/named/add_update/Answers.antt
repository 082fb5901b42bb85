use Rattle.std.proofs.Common.{◌≡◌, ◌∙◌, ◌-◌, [], ◌∷◌, ap, sym, subst, OnOk}
use Rattle.std.specs.Prelude.{pos, slice_get}
use Rattle.def_language.specs.Words.{name, number}
use Rattle.def_language.specs.Sessions.{SessionUpdate}
use Rattle.lang_schema.specs.Pages.{with_words}
use Rattle.lang_session.specs.Meanings.{update_of}
use Rattle.lang_print.proofs.Onward.{no_image_at}
use Rattle.lang_report.specs.Results.{no_update}
use Rattle.lang_report.proofs.named.add_update.Goals as goal

pub returns-in-None : goal.returns-in-None
returns-in-None c = subst (λ (u : SessionUpdate). OnOk c.add_names-in-None.result (c.add_names-in-None.new.page ≡ with_words c.args.page.now (number (pos c.args.number) ∷ name u.label ∷ name u.curator ∷ [])))
    (sym (no_image_at update_of c.args.updates.now.items (c.args.number - 1) no_update (ap (slice_get c.args.updates.now.items) (sym c.saturating_sub.ensures) ∙ sym c.in-None.ensures.item)))
    c.add_names-in-None.ensures
