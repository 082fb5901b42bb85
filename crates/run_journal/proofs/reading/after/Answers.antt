use Rattle.std.proofs.Common.{◌≡◌, ◌∙◌, sym, true, false, arith}
use Rattle.std.proofs.lemmas.Bool.{false≢true}
use Rattle.std.proofs.lemmas.Bool.Decides.{Decides-eqb}
use Rattle.std.proofs.lemmas.Slice.Eq.{slice_eq-Decides}
use Rattle.run_journal.proofs.Heads.{head_taken}
use Rattle.run_journal.proofs.reading.after.Goals as goal

pub returns-else-eq-clause-none : goal.returns-else-eq-clause-none
returns-else-eq-clause-none c = λ rest e.
    let yes : c.eq.result ≡ true = (slice_eq-Decides Decides-eqb _ _ _ c.eq.ensures).1 (head_taken c.args.text.now _ c.args.head.now rest _ c.split_at.ensures.front (omega arith) e) in
    let no : c.eq.result ≡ false = c.if-eq.false in
    absurd (false≢true (sym no ∙ yes))
