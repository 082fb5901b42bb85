use Rattle.std.proofs.Common.{◌∙◌, sym}
use Rattle.std.specs.Cmp.Lexicographic.{texts_ties}
use Rattle.std.specs.Ordering.{on, eq_by_cmp}
use Rattle.def_chase.specs.Values.{datum_cmp}
use Rattle.base_types.specs.Meanings.{datum_of}
use Rattle.base_types.proofs.values.ValuePartialEq.eq.Goals as goal

pub returns-in-Word-Word : goal.returns-in-Word-Word
returns-in-Word-Word c =
    c.eq.ensures ∙ texts_ties c.in-Word-Word.v.items c.in-Word-Word.w.items
    ∙ sym (λ i. eq_by_cmp (on datum_of datum_cmp) (c.in-Word-Word.is-0 i) (c.in-Word-Word.is-1 i))
