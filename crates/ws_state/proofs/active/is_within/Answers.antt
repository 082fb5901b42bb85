use Rattle.std.proofs.Common.{◌≤◌, subst, List, map, length, arith}
use Rattle.std.proofs.lemmas.List.{length-map}
use Rattle.std.specs.List.{AllByRecursion}
use Rattle.def_chase.specs.Mappings.{Rule}
use Rattle.def_chase.proofs.Searches.{all_at}
use Rattle.base_types.specs.Meanings.{rule_of}
use Rattle.base_types.specs.declared.mappings.Mapping.{Mapping}
use Rattle.ws_state.proofs.active.is_within.Goals as goal

pub returns : goal.returns
returns c =
    let few : length (map rule_of c.args.list.now.items) ≤ 65536 = omega (arith, c.if-len-gt65536.false, c.len.ensures.length, length-map c.args.list.now.items rule_of) in
    record {
      within = λ e. record {
        count = few;
        each = λ n m there. all_at (λ (r : Rule). r.existential ≤ 64) (map rule_of c.args.list.now.items) n m
            (subst (λ (ms : List Mapping). AllByRecursion (λ (r : Rule). r.existential ≤ 64) (map rule_of ms)) c.as_slice.ensures.items (c.are_small.ensures.small e)) there;
      };
    }
