use Rattle.std.proofs.Common.{◌∙◌, ◌++◌, ◌∷◌, [], ap, subst, sym, List}
use Rattle.def_chase.specs.Values.{Fact}
use Rattle.lang_checks.specs.Bases.{gathered, AreApart}
use Rattle.lang_checks.proofs.Apart.{gathered_more, apart_more}
use Rattle.lang_checks.proofs.bases.reach.Goals as goal

pub loop-alloc-preserved : goal.loop-alloc-preserved
loop-alloc-preserved c =
    let Ds = c.loop-alloc.relations.items in
    let more = c.in_ok-push.ensures.items ∙ ap (λ (D : List Fact). Ds ++ D ∷ []) c.new.ensures.empty in
    record {
      same = ap gathered more ∙ gathered_more Ds ∙ c.loop-alloc.invariant.same;
      apart = subst (AreApart 0) (sym more) (apart_more 0 Ds c.loop-alloc.invariant.apart);
    }
