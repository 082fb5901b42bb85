use Rattle.std.proofs.Common.{◌≡◌, ◌++◌, ◌∷◌, ap, ◌∙◌, sym, take, arith}
use Rattle.ws_seal.proofs.Sealing.{parts, too_short, no_feed, other_mark}
use Rattle.ws_seal.proofs.seals.unseal.Goals as goal

pub returns-then-payload-lt17-clause-none : goal.returns-then-payload-lt17-clause-none
returns-then-payload-lt17-clause-none c = too_short c.args.before.now c.args.payload.now (omega arith)

pub returns-then-front-ne10-clause-none : goal.returns-then-front-ne10-clause-none
returns-then-front-ne10-clause-none c = no_feed c.args.before.now c.args.payload.now _ c.split_at.ensures.front c.if-front-ne10.true

pub returns-then-not-are_same-clause-none : goal.returns-then-not-are_same-clause-none
returns-then-not-are_same-clause-none c =
    other_mark c.args.before.now c.args.payload.now _ _ _ c.split_at.ensures.front c.split_at.ensures.back c.mark_of-mark.ensures (λ e. let h = c.are_same.ensures.1 e in absurd (cc))

pub returns-clause-payload : goal.returns-clause-payload
returns-clause-payload c =
    parts c.args.payload.now _ _ _ c.split_at.ensures.front c.split_at.ensures.back (omega arith) c.if-front-ne10.false (c.are_same.ensures.0 (cc)) ∙ ap (λ m. m ++ (10 ∷ c.split_at.result.1.now)) c.mark_of-mark.ensures
