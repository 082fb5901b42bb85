use Rattle.std.proofs.Common.{◌≡◌, ◌∙◌, ◌==◌, ap, sym, true, List, ℕ, rules}
use Rattle.std.specs.List.{list_any}
use Rattle.std.proofs.lemmas.Bool.{eqb-true}
use Rattle.audit_replay.proofs.Gathered.{one_again}
use Rattle.audit_replay.proofs.relations.put_relation.Goals as goal

pub returns-then-has : goal.returns-then-has
returns-then-has c =
    let there : c.has.result ≡ true = search rules in record {
      more = λ p. one_again (λ k. k == c.args.relation) c.args.relation (λ k t. eqb-true k c.args.relation t) p c.args.relations.now.items (ap (λ (ks : List ℕ). list_any (λ k. k == c.args.relation) ks) (sym c.as_slice.ensures.value) ∙ sym c.has.ensures.there ∙ there);
    }
