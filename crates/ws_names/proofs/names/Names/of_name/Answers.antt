use Rattle.std.proofs.Common.{◌∙◌, ap, refl, sym}
use Rattle.std.specs.Option.{option_copied}
use Rattle.def_chase.specs.Values.{NullName}
use Rattle.def_steps.specs.Rewriting.{same_null}
use Rattle.base_types.specs.Meanings.{null_of}
use Rattle.ws_names.specs.Meanings.{name_in}
use Rattle.ws_names.proofs.Kept.{pair_found}
use Rattle.ws_names.proofs.names.Names.of_name.Goals as goal

pub returns-in-Some : goal.returns-in-Some
returns-in-Some c = record {
  found =
      pair_found name_in (λ (p : NullName × NullName). same_null p.1 (null_of c.args.name)) c.self.inside.drawn.items _ c.self.inside.nulls c.args.name _ _
      c.self.invariant.1 (λ x. refl) c.self.view_is (sym c.get.ensures.value ∙ ap option_copied c.in-Some.is) c.get-in-Some.ensures.item;
}

pub returns-in-None : goal.returns-in-None
returns-in-None c = record {
  found =
      pair_found name_in (λ (p : NullName × NullName). same_null p.1 (null_of c.args.name)) c.self.inside.drawn.items _ c.self.inside.nulls c.args.name _ _
      c.self.invariant.1 (λ x. refl) c.self.view_is (sym c.get.ensures.value ∙ ap option_copied c.in-None.is) refl;
}
