use Rattle.std.proofs.Common.{◌∙◌, sym, arith}
use Rattle.std.proofs.lemmas.Bool.Decides.{Decides-eqb}
use Rattle.std.proofs.lemmas.Slice.Eq.{slice_eq-Decides}
use Rattle.lang_session.specs.Meanings.{update_of}
use Rattle.run_journal.proofs.Heads.{no_items}
use Rattle.run_journal.proofs.reading.is_opening.Goals as goal

pub returns-then-eq-clause-yes : goal.returns-then-eq-clause-yes
returns-then-eq-clause-yes c =
    let same = (slice_eq-Decides Decides-eqb _ _ _ c.eq.ensures).0 c.if-eq.true in
    λ _. (no_items update_of c.args.session.now.updates.items (omega arith), sym (sym c.in_ok-form.ensures.printed ∙ sym c.as_slice.ensures.value ∙ same))
