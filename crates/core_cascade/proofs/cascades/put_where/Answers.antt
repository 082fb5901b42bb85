use Rattle.std.proofs.Common.{◌∙◌, ◌++◌, ◌∷◌, [], sym, ap, arith}
use Rattle.core_cascade.proofs.Padding.{padded_still, padded_put, put_long}
use Rattle.core_cascade.proofs.cascades.put_where.Goals as goal

pub returns-then-is_some-clause-few : goal.returns-then-is_some-clause-few
returns-then-is_some-clause-few c =
    let long = put_long c.args.place c.args.found.now.items c.push.new.self.items c.args.cause c.requires.few (c.in_ok-push.ensures.items ∙ ap (λ xs. xs ++ c.args.cause ∷ []) c.in_ok-pad.ensures.padded) in
    omega (arith, long)

pub returns-then-is_some-clause-put : goal.returns-then-is_some-clause-put
returns-then-is_some-clause-put c =
    padded_put c.args.place c.args.found.now.items c.push.new.self.items c.args.cause c.requires.few (c.in_ok-push.ensures.items ∙ ap (λ xs. xs ++ c.args.cause ∷ []) c.in_ok-pad.ensures.padded)

pub returns-clause-put : goal.returns-clause-put
returns-clause-put c = padded_still c.args.place c.args.found.now.items c.args.cause c.requires.few (sym c.is_some.ensures ∙ c.if-is_some.false)
