use Rattle.std.proofs.Common.{◌≡◌, sym, subst, map, [], ◌∷◌, pos}
use Rattle.std.specs.Bool.{Decides}
use Rattle.def_chase.specs.Values.{Number}
use Rattle.base_types.specs.Meanings.{datum_of}
use Rattle.chase_eval.proofs.Tuples.{alone_decides}
use Rattle.chase_eval.proofs.scopes.is_alone.Goals as goal

pub returns : goal.returns
returns c = record {
  decides = subst (λ b. Decides b (map datum_of c.args.values.now ≡ Number (pos c.args.number) ∷ [])) (sym c.eq.ensures) (alone_decides c.args.values.now c.as_slice.result.now c.from.result c.args.number c.ranges.number.fits c.from.ensures c.as_slice.ensures);
}
