use Rattle.std.proofs.Common.{refl}
use Rattle.def_provenance.proofs.laws.worked_explanations.Goals as goal

pub returns : goal.returns
returns c =
    record {
      capital_generated = refl;
      capital_absent = refl;
      put_twice = refl;
      image_unified = refl;
      base_rewritten = refl;
      excursion_generated = refl;
      review_rewritten = refl;
      airport_rewritten = refl;
      attraction_rooted = refl;
    }
