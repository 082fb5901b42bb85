-- Reasons that are the same part by part are those that mean the same.
use Rattle.std.proofs.Common.{◌≡◌, ◌∙◌, ap, subst, sym, Bool, true, ◌↔◌, List, map, Option, Some}
use Rattle.std.specs.Bool.{Decides}
use Rattle.std.specs.Cmp.Lexicographic.{pointwise}
use Rattle.std.proofs.lemmas.Bool.Decides.{Decides-and, Decides-eqb}
use Rattle.base_types.specs.Meanings.{fact_of}
use Rattle.base_types.proofs.Exact.{same_fact_decides, pointwise_decides}
use Rattle.def_provenance.specs.Reasons as meant
use Rattle.base_types.specs.Listed.{Listed}
use Rattle.run_explain.specs.ReasonMeanings.{how_of, reason_of, reasons_in}
use Rattle.run_explain.specs.declared.reasons.How.{How}
use Rattle.run_explain.specs.declared.reasons.How.TheVariants.{Base, Inserted, Generated, Rewritten}
use Rattle.run_explain.specs.declared.reasons.Reason.{Reason}
use Rattle.run_explain.specs.contracts.reasons.HowPartialEq.TheImpl as hows
use Rattle.run_explain.specs.contracts.reasons.ReasonPartialEq.TheImpl as reasons

-- What decides one of two facts that are as good as each other decides the other.
rephrased : {P Q : Type 0} (b : Bool) → (P → Q) → (Q → P) → Decides b P → Decides b Q
rephrased b on back d = (λ e. on (d.0 e), λ q. d.1 (back q))

how_decides : (h g : How) → Decides (hows.eq-value.it h g) (how_of h ≡ how_of g)
how_decides Base Base = (λ e. cc, λ e. cc)
how_decides (Inserted u s) (Inserted v t) =
    rephrased _ (λ e. λ i. meant.Inserted (e.0 i) (e.1 i)) (λ e. (cc, cc)) (Decides-and _ _ (Decides-eqb u v) (Decides-eqb s t))
how_decides (Generated u s n image) (Generated v t m other) =
    rephrased _ (λ e. λ i. meant.Generated (e.0 i) (e.1.0 i) (e.1.1.0 i) (e.1.1.1 i)) (λ e. (cc, (cc, (cc, cc))))
    (Decides-and _ _ (Decides-eqb u v) (Decides-and _ _ (Decides-eqb s t) (Decides-and _ _ (Decides-eqb n m)
    (pointwise_decides fact_of _ (λ x y. same_fact_decides (fact_of x) (fact_of y)) image.items other.items))))
how_decides (Rewritten u s x) (Rewritten v t y) =
    rephrased _ (λ e. λ i. meant.Rewritten (e.0 i) (e.1.0 i) (e.1.1 i)) (λ e. (cc, (cc, cc)))
    (Decides-and _ _ (Decides-eqb u v) (Decides-and _ _ (Decides-eqb s t) (same_fact_decides (fact_of x) (fact_of y))))
how_decides h g = (λ e. cc, λ e. cc)

reason_decides : (r s : Reason) → Decides (reasons.eq-value.it r s) (reason_of r ≡ reason_of s)
reason_decides r s =
    rephrased _ (λ e. λ i. record { tuple = e.0 i; how = e.1 i }) (λ e. (ap (λ (r : meant.Reason). r.tuple) e, ap (λ (r : meant.Reason). r.how) e))
    (Decides-and _ _ (same_fact_decides (fact_of r.tuple) (fact_of s.tuple)) (how_decides r.how s.how))

reasons_decide : (rs ss : List Reason) → Decides (pointwise reasons.eq-value.it rs ss) (map reason_of rs ≡ map reason_of ss)
reasons_decide = pointwise_decides reason_of _ reason_decides

-- Two lists are the same exactly where they mean the same.
pub alike : (b : Bool) (rs ss : Listed Reason) → b ≡ pointwise reasons.eq-value.it rs.items ss.items → (b ≡ true) ↔ (reasons_in rs ≡ reasons_in ss)
alike b rs ss is = subst (λ x. Decides x (reasons_in rs ≡ reasons_in ss)) (sym is) (reasons_decide rs.items ss.items)
