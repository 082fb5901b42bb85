use Rattle.std.proofs.Common.{◌∙◌, sym, ap, ◌++◌, ◌∷◌, []}
use Rattle.base_types.specs.Meanings.{fact_of}
use Rattle.run_journal.proofs.Heads.{line_added, tuple_outer}
use Rattle.run_journal.proofs.printing.push_tuple.Goals as goal

pub returns : goal.returns
returns c =
    c.in_ok-push-2.ensures.items
    ∙ ap (λ xs. xs ++ 10 ∷ []) (c.in_ok-extend_from_slice.ensures.items ∙ ap (λ xs. xs ++ c.deref.result.now) c.in_ok-push.ensures.items)
    ∙ line_added c.args.text.now.items c.deref.result.now _ c.args.sign (c.deref.ensures.value ∙ c.in_ok-fact.ensures.printed ∙ sym (tuple_outer c.args.schema.now (fact_of c.args.tuple.now)))
