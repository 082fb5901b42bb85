use Rattle.std.proofs.Common.{◌∙◌, List, subst}
use Rattle.std.proofs.IntoIterSteps.{All-taken}
use Rattle.std.specs.BTreeSet.{IsFromIterResult}
use Rattle.base_types.specs.declared.tuples.Tuple.{Tuple}
use Rattle.set_facts.proofs.Held.{tuple_cmp, sorted_mapped}
use Rattle.set_facts.proofs.Taking.{same_members}
use Rattle.set_facts.proofs.plain.PlainFacts.of_owned.Goals as goal

pub invariant_of-result : goal.invariant_of-result
invariant_of-result c = sorted_mapped c.in-Ok.tuples.keys c.in-Ok.ensures.ran.4.1

pub returns-in-Ok-clause-members : goal.returns-in-Ok-clause-members
returns-in-Ok-clause-members c =
    let h = c.in-Ok.ensures.ran in
    let made = subst (λ (l : List Tuple). IsFromIterResult tuple_cmp l c.in-Ok.tuples) (All-taken h.0 h.1 ((h.3.2 tt).0, (h.3.0, h.3.1, (h.3.2 tt).1)) ∙ h.2.0 ∙ c.into_vec.ensures.same) h.4 in
    same_members c.in-Ok.tuples.keys c.args.tuples.items made.0

pub returns-in-Ok-clause-in_order : goal.returns-in-Ok-clause-in_order
returns-in-Ok-clause-in_order c = sorted_mapped c.in-Ok.tuples.keys c.in-Ok.ensures.ran.4.1
