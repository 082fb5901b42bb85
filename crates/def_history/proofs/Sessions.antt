-- Timely sessions are admissible.
use Rattle.std.proofs.Common.{◌≡◌, ℕ, zero, suc, ◌+◌, ◌≤◌, ap, refl, sym, ◌∙◌, subst, List, [], ◌∷◌, ◌++◌, length, true, Some, arith}
use Rattle.std.specs.Prelude.{slice_get}
use Rattle.std.specs.List.{list_all}
use Rattle.std.specs.List.Sorted.{IsStrictlySortedBy}
use Rattle.std.proofs.lemmas.Bool.{false≢true}
use Rattle.def_machine.specs.Updates.{Submission, Session}
use Rattle.def_machine.specs.Recorded.{with_more}
use Rattle.def_chase.specs.Values.{Fact}
use Rattle.def_chase.specs.Repository.{IsRepository}
use Rattle.def_chase.specs.Mappings.{Rule, AllHold}
use Rattle.def_chase.specs.Laws.{are_by, HaveNoNulls}
use Rattle.def_chase.proofs.Bools.{none_some, some_same}
use Rattle.def_chase.proofs.Violations.{none_violates}
use Rattle.def_steps.specs.Chase.{caused_chase}
use Rattle.def_steps.specs.Serial.{Request}
use Rattle.def_steps.specs.Shifting.{IsBase}
use Rattle.def_steps.specs.Timely.{repairs_plainly, acts_in_time, ActInTime}
use Rattle.def_steps.specs.Rows.{copying, one_in}
use Rattle.def_steps.specs.SessionRows.{insert_delete, taking, taken_null, added_copying, added_mapping}
use Rattle.def_history.specs.Histories.{submissions, session_of}
use Rattle.def_history.specs.Admissible.{is_plain, IsAdmissible, requests}
use Rattle.def_history.specs.CascadeRows.{joining, four_updates, joining_twice, four_insertions}
use Rattle.def_history.specs.Sessions.{SessionsAreAdmissible}

module _ (ms : List Rule) (B : ℕ) where
  -- each of the updates acts in time; the first is update n + 1
  each_in_time : (n : ℕ) (rs : List Request) → ActInTime ms (suc n) rs → (k : ℕ) (x : Submission (caused_chase ms B)) → slice_get (submissions ms B rs) k ≡ Some x → acts_in_time ms (suc (n + k)) x.operation ≡ true
  each_in_time n [] a k x e = absurd (none_some x e)
  each_in_time n (r ∷ rs) a zero x e =
      let i : suc (n + 0) ≡ suc n = omega arith in
      ap (λ j. acts_in_time ms j x.operation) i ∙ ap (λ (y : Submission (caused_chase ms B)). acts_in_time ms (suc n) y.operation) (sym (some_same (record { operation = r.operation; answers = r.answers }) x e)) ∙ a.0
  each_in_time n (r ∷ rs) a (suc k) x e = let i : suc (n + suc k) ≡ suc (suc n + k) = omega arith in ap (λ j. acts_in_time ms j x.operation) i ∙ each_in_time (suc n) rs a.1 k x e

  joined_nothing : (rs : List Request) → rs ++ [] ≡ rs
  joined_nothing [] = refl
  joined_nothing (r ∷ rs) = ap (λ ss. r ∷ ss) (joined_nothing rs)

  pub same_requests : (D : List Fact) (rs : List Request) → requests ms B (session_of ms B D rs []) ≡ rs
  same_requests D [] = refl
  same_requests D (r ∷ rs) = ap (λ ss. r ∷ ss) (same_requests D rs)

  pub timely_admissible : (D : List Fact) (rs : List Request) → 1 ≤ B → IsRepository D → AllHold ms D → list_all is_plain D ≡ true → IsBase D → list_all (are_by (λ u. 0)) D ≡ true → HaveNoNulls ms
      → repairs_plainly ms ≡ true → ActInTime ms 1 rs → IsAdmissible ms B (session_of ms B D rs [])
  timely_admissible D rs few order hold plain base first nulls repairs acts =
      record {
        some_step = few;
        in_order = order;
        hold = hold;
        plain = plain;
        base = base;
        first = first;
        constants = nulls;
        repairs = repairs;
        timely = λ k x e.
            let i : suc k ≡ suc (0 + k) = omega arith in
            ap (λ j. acts_in_time ms j x.operation) i ∙ each_in_time 0 rs acts k x (ap (λ ss. slice_get (submissions ms B ss) k) (sym (joined_nothing rs)) ∙ e);
      }

  -- the element is among the first ones, or it is the last
  last_or : (P : ℕ → Submission (caused_chase ms B) → Type 0) (xs : List (Submission (caused_chase ms B))) (y : Submission (caused_chase ms B))
      → ((k : ℕ) (x : Submission (caused_chase ms B)) → slice_get xs k ≡ Some x → P k x) → P (length xs) y → (k : ℕ) (x : Submission (caused_chase ms B)) → slice_get (xs ++ y ∷ []) k ≡ Some x → P k x
  last_or P [] y f g zero x e = subst (P 0) (some_same y x e) g
  last_or P [] y f g (suc k) x e = absurd (none_some x e)
  last_or P (z ∷ xs) y f g zero x e = f 0 x e
  last_or P (z ∷ xs) y f g (suc k) x e = last_or (λ j. P (suc j)) xs y (λ j w h. f (suc j) w h) g k x e

  pub admissible_grows : (S : Session (caused_chase ms B)) (x : Submission (caused_chase ms B)) → IsAdmissible ms B S → acts_in_time ms (suc (length S.submissions)) x.operation ≡ true → IsAdmissible ms B (with_more S (x ∷ []))
  admissible_grows S x fit acts =
      record {
        some_step = fit.some_step;
        in_order = fit.in_order;
        hold = fit.hold;
        plain = fit.plain;
        base = fit.base;
        first = fit.first;
        constants = fit.constants;
        repairs = fit.repairs;
        timely = last_or (λ k y. acts_in_time ms (suc k) y.operation ≡ true) S.submissions x fit.timely acts;
      }

none_in_order : IsRepository []
unfolding IsStrictlySortedBy
none_in_order = tt

one_in_order : (t : Fact) → IsRepository (t ∷ [])
unfolding IsStrictlySortedBy
one_in_order t = (tt, tt)

pub sessions_are_admissible : SessionsAreAdmissible
sessions_are_admissible =
    record {
      timely = λ ms B D rs. timely_admissible ms B D rs;
      grows = λ ms B S x. admissible_grows ms B S x;
      same = λ ms B D rs. same_requests ms B D rs;
      conflict = timely_admissible copying 100 [] insert_delete (omega arith) none_in_order (λ f. none_violates _ [] [] refl, tt) refl refl refl (refl, tt) refl (refl, (refl, tt));
      taken = timely_admissible taking 100 [] taken_null (omega arith) none_in_order (λ f. none_violates _ [] [] refl, (λ f. none_violates _ [] [] refl, tt)) refl refl refl (refl, (refl, tt)) refl (refl, (refl, (refl, tt)));
      added = timely_admissible added_copying 100 (one_in 0 ∷ []) added_mapping (omega arith) (one_in_order (one_in 0)) (λ f. absurd (false≢true f), tt) refl refl refl (refl, tt) refl (refl, (refl, tt));
      cascade = timely_admissible joining 100 [] four_updates (omega arith) none_in_order (λ f. none_violates _ [] [] refl, tt) refl refl refl (refl, tt) refl (refl, (refl, (refl, (refl, tt))));
      two_levels = timely_admissible joining_twice 100 [] four_insertions (omega arith) none_in_order (λ f. none_violates _ [] [] refl, (λ f. none_violates _ [] [] refl, tt)) refl refl refl (refl, (refl, tt)) refl (refl, (refl, (refl, (refl, tt))));
    }
