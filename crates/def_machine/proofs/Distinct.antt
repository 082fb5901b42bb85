-- No update is named by two causes of an entry.
use Rattle.std.proofs.Common.{◌≡◌, ℕ, suc, ◌==◌, ap, sym, refl, ◌∙◌, List, [], ◌∷◌, ◌++◌, Bool, true, false, not, ◌&&◌, ◌||◌, arith, Some, None, subst}
use Rattle.std.specs.Prelude.{if◌then◌else◌, Option, is_some, option_map, option_to_list}
use Rattle.std.specs.List.{list_any}
use Rattle.std.proofs.lemmas.Bool.{or_from, eqb-true, both_ways, and_right, eq-eqb, or_right}
use Rattle.std.proofs.lemmas.List.Folds.{list_any-append}
use Rattle.def_machine.specs.Machine.{Machine}
use Rattle.def_machine.specs.Updates.{Update, Deps, trail}
use Rattle.def_machine.specs.Reads.{Changed, changed_read, first_that}
use Rattle.def_machine.specs.Standings.{is_nil}
use Rattle.def_machine.specs.Cascade.{Cause, Conflict, Depends, reader, readers, Member, conflicts, dependence_of, cascade, has_number, is_live, read_depends, writer_for, with_member, without_member}
use Rattle.def_machine.specs.Effects.{causes_of_writes}
use Rattle.def_machine.specs.CauseLaw.{IsDistinct}
use Rattle.def_machine.proofs.Walks.{joining, further, conflicts_above, cascade_above, cascade_at}

any_join : {A : Type 0} (p : A → Bool) (xs ys : List A) → list_any p (xs ++ ys) ≡ (list_any p xs || list_any p ys)
any_join p xs ys = list_any-append p xs ys

pub distinct_join : (xs ys : List ℕ) → IsDistinct xs → IsDistinct ys → ((k : ℕ) → has_number xs k ≡ true → has_number ys k ≡ false) → IsDistinct (xs ++ ys)
distinct_join [] ys a b h = b
distinct_join (x ∷ xs) ys a b h = (
  any_join (λ k. k == x) xs ys ∙ or_from _ _ a.0 (h x (ap (λ b. b || has_number xs x) (eq-eqb x x refl))),
  distinct_join xs ys a.1 b (λ k g. h k (or_right _ _ g)),
)

readers_map : (M : Machine) (cs ds : List (Cause M)) → readers (cs ++ ds) ≡ readers cs ++ readers ds
readers_map M [] ds = refl
readers_map M (c ∷ cs) ds = ap (λ ns. reader c ∷ ns) (readers_map M cs ds)

module _ (M : Machine) (deps : Deps) (c j : ℕ) where
  -- a cause that names n, before others that don't
  one_more : {A : Type 0} (b : Bool) (f : A → Cause M) (o : Option A) (n : ℕ) (cs : List (Cause M)) → ((x : A) → reader (f x) ≡ n) → has_number (readers cs) n ≡ false → IsDistinct (readers cs)
      → IsDistinct (readers (option_to_list (if b then option_map f o else None) ++ cs))
  one_more false f o n cs h g d = d
  one_more true f None n cs h g d = d
  one_more true f (Some x) n cs h g d = (ap (λ k. has_number (readers cs) k) (h x) ∙ g, d)

  conflicts_distinct : (E : M.Repository) (n : ℕ) (us : List (Update M)) → IsDistinct (readers (conflicts M c j E n us))
  conflicts_distinct E n [] = tt
  conflicts_distinct E n (u ∷ us) =
      one_more (is_live M c n u) (λ (x : Changed M). Conflict n x.read j x.old x.new) (changed_read M E u) n (conflicts M c j (M.apply E (trail M u)) (suc n) us) (λ x. refl)
      (conflicts_above M deps c j (M.apply E (trail M u)) (suc n) n us (omega arith)) (conflicts_distinct (M.apply E (trail M u)) (suc n) us)

  pub cascade_distinct : (fs : List ℕ) (N : M.Repository) (ms : List (Member M)) (n : ℕ) (us : List (Update M)) → IsDistinct (readers (cascade M deps c fs N ms n us))
  cascade_distinct fs N ms n [] = tt
  cascade_distinct fs N ms n (u ∷ us) =
      let z : Bool = has_number fs n || is_some (joining M deps c j fs N ms n u) in
      by (has_number fs n) (further M deps c j fs N ms n u us z) (cascade_above M deps c j fs (without_member M z N u) (with_member M z ms n u) (suc n) n us (omega arith)) (cascade_distinct fs (without_member M z N u) (with_member M z ms n u) (suc n) us)
    where
      by : (b : Bool) (cs : List (Cause M)) → has_number (readers cs) n ≡ false → IsDistinct (readers cs) → IsDistinct (readers (option_to_list (if b then None else dependence_of M deps c N ms n u) ++ cs))
      by true cs g d = d
      by false cs g d = one_more (is_live M c n u && not (is_nil ms)) (λ (t : ℕ × _). Depends n t.0 (writer_for M t.1 ms)) (first_that (read_depends M deps u.operation N (M.own u.state) ms) u.log) n cs (λ x. refl) g d

  -- a first member doesn't join
  cascade_others : (fs : List ℕ) (N : M.Repository) (ms : List (Member M)) (n k : ℕ) (us : List (Update M)) → has_number fs k ≡ true → has_number (readers (cascade M deps c fs N ms n us)) k ≡ false
  cascade_others fs N ms n k [] h = refl
  cascade_others fs N ms n k (u ∷ us) h =
      let z : Bool = has_number fs n || is_some (joining M deps c j fs N ms n u) in
      cascade_at M deps c j fs N ms n k u us ∙ or_from _ _ (by (n == k) refl) (cascade_others fs (without_member M z N u) (with_member M z ms n u) (suc n) k us h)
    where
      none : (b : Bool) → b ≡ true → is_some (if b then None else dependence_of M deps c N ms n u) ≡ false
      none true e = refl
      none false e = absurd (both_ways false refl e)

      by : (b : Bool) → (n == k) ≡ b → (is_some (joining M deps c j fs N ms n u) && b) ≡ false
      by false e = and_right _ false refl
      by true e = ap (λ b. b && true) (none (has_number fs n) (ap (λ m. has_number fs m) (eqb-true n k e) ∙ h))

  pub writes_distinct : (E : M.Repository) (us : List (Update M)) → IsDistinct (readers (causes_of_writes M deps c j E us))
  writes_distinct E us =
      let first : List (Cause M) = conflicts M c j E (suc j) us in
      let joined : List (Cause M) = cascade M deps c (readers first) E [] (suc j) us in
      subst IsDistinct (sym (readers_map M first joined))
      (distinct_join (readers first) (readers joined) (conflicts_distinct E (suc j) us) (cascade_distinct (readers first) E [] (suc j) us) (λ k h. cascade_others (readers first) E [] (suc j) k us h))
