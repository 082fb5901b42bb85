use Rattle.std.specs.Prelude.{◌≡◌, ℕ, List, [], ◌∷◌, ◌++◌, length, Some}
use Rattle.std.proofs.Common.{refl, sym, ap, ◌∙◌, arith}
use Rattle.std.proofs.lemmas.Bool.Decides.{Decides-eqb}
use Rattle.std.proofs.lemmas.List.{length-append}
use Rattle.std.proofs.lemmas.Slice.Eq.{slice_eq-Decides, strip_suffix_is}
use Rattle.audit_verdict.proofs.judging.tells.Goals as goal

cancel : (xs ys : List ℕ) → xs ++ 10 ∷ [] ≡ ys ++ 10 ∷ [] → xs ≡ ys
cancel [] [] e = refl
cancel [] (y ∷ ys) e = absurd (omega (arith, ap length e, length-append ys (10 ∷ [])))
cancel (x ∷ xs) [] e = absurd (omega (arith, ap length e, length-append xs (10 ∷ [])))
cancel (x ∷ xs) (y ∷ ys) e =
    let head : x ≡ y = cc in
    let rest : xs ++ 10 ∷ [] ≡ ys ++ 10 ∷ [] = cc in
    let same = cancel xs ys rest in
    λ i. head i ∷ same i

pub returns-in-Some : goal.returns-in-Some
returns-in-Some c =
    let cut = strip_suffix_is Decides-eqb c.as_slice.result.now (10 ∷ []) (Some c.in-Some.told) c.in-Some.ensures.cases in
    let text = sym c.in_ok-text.ensures.line ∙ sym c.as_slice.ensures.value ∙ cut in
    let same = slice_eq-Decides Decides-eqb c.in-Some.told.now c.args.line.now c.eq.result c.eq.ensures in
    record {
      tells = (λ yes_. ap (λ l. l ++ 10 ∷ []) (sym (same.0 yes_)) ∙ sym text, λ own. same.1 (cancel c.in-Some.told.now c.args.line.now (sym text ∙ sym own)));
    }
