-- More specific is reflexive and transitive.
use Rattle.std.proofs.Common.{ap, refl, ◌∙◌, map}
use Rattle.def_chase.specs.Values.{Fact}
use Rattle.def_chase.specs.Specific.{IsMoreSpecific}
use Rattle.def_chase.proofs.Substitutions.{map_same, map_twice}

pub specific_itself : (t : Fact) → IsMoreSpecific t t
specific_itself t = record { one_relation = refl; to = λ d. d; numbers = λ _. refl; words = λ _. refl; moves = map_same t.values }

pub specific_chain : (r s t : Fact) → IsMoreSpecific r s → IsMoreSpecific s t → IsMoreSpecific r t
specific_chain r s t p q =
    record {
      one_relation = p.one_relation ∙ q.one_relation;
      to = λ d. p.to (q.to d);
      numbers = λ i. ap p.to (q.numbers i) ∙ p.numbers i;
      words = λ w. ap p.to (q.words w) ∙ p.words w;
      moves = map_twice q.to p.to t.values ∙ ap (map p.to) q.moves ∙ p.moves;
    }
