use Rattle.std.proofs.Common.{List, None, Some, subst, sym}
use Rattle.base_types.specs.Candidates.{further_candidates, Begin}
use Rattle.base_types.specs.Meanings.{fact_of}
use Rattle.def_chase.specs.Values.{Fact}
use Rattle.set_versions.specs.Standing.{seen}
use Rattle.set_versions.proofs.Both.{seen_ordered}
use Rattle.set_versions.proofs.versions.Versions.onwards.Goals as goal

pub returns-in-Some : goal.returns-in-Some
returns-in-Some c =
    let D = seen c.args.number c.args.self.now in
    record {
      all = (
        seen_ordered c.args.number c.args.self.now c.base.ensures.kept,
        subst (λ (E : List Fact). Begin c.in-Some.opening E) (λ i. further_candidates D (c.if-past-relation.true i) None (Some (fact_of c.args.past.now))) c.in-Some.ensures.first,
      );
    }
