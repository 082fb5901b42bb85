use Rattle.std.proofs.Common.{◌∙◌, ap, sym, List, [], ◌∷◌, ◌++◌}
use Rattle.ws_names.specs.declared.names.Pair.{Pair}
use Rattle.ws_names.proofs.Kept.{erred, passed, names_added, nulls_added, names_undone, nulls_same}
use Rattle.ws_names.proofs.names.Names.give.Goals as goal

pub invariant_of-self-then-is_err : goal.invariant_of-self-then-is_err
invariant_of-self-then-is_err c = (
  names_undone c.self.inside.drawn.items c.reserve.new.self.items c.args.null c.len-place.result c.self.inside.names c.note.new.firsts c.forget.new.firsts
      c.self.invariant.0 c.in_ok-note.ensures.ok c.forget.ensures.rest c.len-place.ensures.length c.in_ok-reserve.ensures.same,
  nulls_same c.self.inside.drawn.items c.reserve.new.self.items c.self.inside.nulls c.note-2.new.firsts
      c.self.invariant.1 (erred c.note-2.result _ c.note-2.ensures.err (sym c.if-is_err.ensures.value)) c.in_ok-reserve.ensures.same,
)

pub invariant_of-self-2 : goal.invariant_of-self-2
invariant_of-self-2 c = (
  names_added c.self.inside.drawn.items c.push.new.self.items record { null = c.args.null; name = c.args.name } c.len-place.result c.self.inside.names c.note.new.firsts
      c.self.invariant.0 c.in_ok-note.ensures.ok c.len-place.ensures.length
      (c.in_ok-push.ensures.ok ∙ ap (λ (ps : List Pair). ps ++ record { null = c.args.null; name = c.args.name } ∷ []) c.in_ok-reserve.ensures.same),
  nulls_added c.self.inside.drawn.items c.push.new.self.items record { null = c.args.null; name = c.args.name } c.len-place.result c.self.inside.nulls c.note-2.new.firsts
      c.self.invariant.1 (passed c.note-2.result _ c.note-2.ensures.ok (sym c.if-is_err.ensures.value)) c.len-place.ensures.length
      (c.in_ok-push.ensures.ok ∙ ap (λ (ps : List Pair). ps ++ record { null = c.args.null; name = c.args.name } ∷ []) c.in_ok-reserve.ensures.same),
)
