use Rattle.std.proofs.Common.{◌≡◌, ap, sym, subst, map}
use Rattle.std.specs.Prelude.{IfOk}
use Rattle.std.specs.Option.{option_map}
use Rattle.def_chase.specs.Violations.{Forward, Backward, first_violation}
use Rattle.base_types.specs.Meanings.{rule_of, change_of}
use Rattle.chase_match.specs.Partial.{Partial, known_at}
use Rattle.chase_violation.specs.Scopes.{scope_of, own_of}
use Rattle.chase_violation.specs.declared.scope.Scope.{Scope as ScopeOfProgram}
use Rattle.chase_violation.proofs.Firsts.{all_answered, all_known, caused_answered}
use Rattle.chase_violation.proofs.first.first_in_scope.Goals as goal

pub returns-in-All-clause-image : goal.returns-in-All-clause-image
returns-in-All-clause-image g c =
    let m = rule_of c.args.mapping.now in
    let E = g.F.Facts.tuples c.args.facts.now in
    subst (λ (s : ScopeOfProgram). IfOk c.first_unmet.result (λ found. option_map (λ (q : Partial). q.image) found ≡ first_violation (scope_of s) (own_of s) m E)) (sym c.in-All.is)
    (all_answered m E c.new.result c.first_unmet.result (ap known_at c.new.ensures.empty) c.first_unmet.ensures.image)

pub returns-in-All-clause-known : goal.returns-in-All-clause-known
returns-in-All-clause-known g c = all_known (rule_of c.args.mapping.now) c.new.result c.first_unmet.result (ap known_at c.new.ensures.empty) c.first_unmet.ensures.known

pub returns-in-Forward-clause-image : goal.returns-in-Forward-clause-image
returns-in-Forward-clause-image g c =
    let m = rule_of c.args.mapping.now in
    let E = g.F.Facts.tuples c.args.facts.now in
    subst (λ (s : ScopeOfProgram). IfOk c.first_caused.result (λ found. option_map (λ (q : Partial). q.image) found ≡ first_violation (scope_of s) (own_of s) m E)) (sym c.in-Forward.is)
    (caused_answered Forward (map change_of c.in-Forward.own.now.items) m E c.first_caused.result c.first_caused.ensures.first)

pub returns-in-Backward-clause-image : goal.returns-in-Backward-clause-image
returns-in-Backward-clause-image g c =
    let m = rule_of c.args.mapping.now in
    let E = g.F.Facts.tuples c.args.facts.now in
    subst (λ (s : ScopeOfProgram). IfOk c.first_caused-in-Backward.result (λ found. option_map (λ (q : Partial). q.image) found ≡ first_violation (scope_of s) (own_of s) m E)) (sym c.in-Backward.is)
    (caused_answered Backward (map change_of c.in-Backward.own.now.items) m E c.first_caused-in-Backward.result c.first_caused-in-Backward.ensures.first)
