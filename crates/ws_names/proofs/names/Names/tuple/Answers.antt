use Rattle.std.proofs.Common.{◌≡◌, subst, List, map}
use Rattle.base_types.specs.Meanings.{datum_of}
use Rattle.base_types.specs.declared.values.Value.{Value}
use Rattle.def_workspace.specs.Names.{datum_named}
use Rattle.ws_names.proofs.Kept.{shared_named}
use Rattle.ws_names.proofs.names.Names.tuple.Goals as goal

pub returns-then-has_no_null : goal.returns-then-has_no_null
returns-then-has_no_null c = record {
  named =
      shared_named c.args.self.now c.args.tuple.now c.in_ok-same.same c.has_no_null.result c.if-has_no_null.true
      (λ t ms. subst (λ (vs : List Value). map (datum_named ms) (map datum_of vs) ≡ map datum_of vs) c.as_slice.ensures.items (c.has_no_null.ensures.same t ms))
      c.in_ok-same.ensures.same;
}
