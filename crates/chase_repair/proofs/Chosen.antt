-- The candidate that an answer names is more specific.
use Rattle.std.proofs.Common.{◌≡◌, List, [], ◌∷◌, Bool, true, false, ◌&&◌, Some, find, unwrap_or, cond, refl}
use Rattle.std.specs.List.{list_all}
use Rattle.def_chase.specs.Values.{Fact, outer, same_fact}
use Rattle.def_chase.specs.Specific.{more_specific}
use Rattle.def_chase.proofs.Bools.{differ}
use Rattle.def_chase.proofs.SpecificLaws.{specific_itself}
use Rattle.def_chase.proofs.Unified.{specific_decides}
use Rattle.def_steps.specs.Questions.{candidate}

-- What is found passes a test that all pass, and so does what stands for it where nothing is.
found_or : {K : Type 0} (p q : K → Bool) (xs : List K) (x : K) → list_all p xs ≡ true → p x ≡ true → p (unwrap_or (find q xs) x) ≡ true
found_or p q [] x a e = e
found_or p q (y ∷ ys) x a e = by (q y) (p y) refl a (λ b. found_or p q ys x b e)
  where
    by : (b c : Bool) → p y ≡ c → (c && list_all p ys) ≡ true → (list_all p ys ≡ true → p (unwrap_or (find q ys) x) ≡ true) → p (unwrap_or (cond b (Some y) (find q ys)) x) ≡ true
    by true true h a rec = h
    by false true h a rec = rec a
    by b false h a rec = differ a

pub candidate_specific : (t : Fact) (cs : List Fact) (o : Fact) → list_all (λ s. more_specific s t) cs ≡ true → more_specific (candidate t cs o) t ≡ true
candidate_specific t cs o a = found_or (λ s. more_specific s t) (λ s. same_fact (outer s) o) cs t a ((specific_decides t t).1 (specific_itself t))
