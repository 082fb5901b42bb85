-- What is kept over the lives of many processes.
use Rattle.std.proofs.Common.{◌≡◌, ℕ, refl, ap, sym, subst, List, [], ◌∷◌, ◌++◌, ◌∙◌, drop, append_assoc, append-nil}
use Rattle.base_devices.specs.States.{State}
use Rattle.base_roll.specs.Histories.{IsKept}
use Rattle.base_roll.specs.Lives.{Life, HasAfter, AreLives, AreKept}
use Rattle.base_roll.proofs.Turns.{all_kept}

same_rest : {R : Type 0} (ahead xs ys : List R) → ahead ++ xs ≡ ahead ++ ys → xs ≡ ys
same_rest [] xs ys e = e
same_rest (a ∷ ahead) xs ys e = same_rest ahead xs ys (ap (drop 1) e)

module _ {R D : Type 0} (has : List R → List ℕ → Type 0) (state : D → State) (one : (records others : List R) (bytes : List ℕ) → has records bytes → has others bytes → records ≡ others) where
  -- the records after those that stand ahead are one list too
  one_after : (life : Life R D) (records others : List R) (bytes : List ℕ) → HasAfter has life records bytes → HasAfter has life others bytes → records ≡ others
  one_after life records others bytes a b = same_rest life.ahead records others (one (life.ahead ++ records) (life.ahead ++ others) (life.before ++ bytes) a b)

  pub over_lives : (records : List R) (found : List ℕ) (lives : List (Life R D)) (left : List ℕ) → has records found → AreLives has state found lives left → AreKept has state records lives left
  over_lives records found [] left all is = record {
    later = [];
    has_them = subst (λ rs. has rs left) (sym (append-nil records)) (subst (λ b. has records b) (sym is) all);
    kept = refl;
  }
  over_lives records found (life ∷ lives) left all is =
      let split = is.0.ahead records all in
      let here : has (life.ahead ++ split.0) found = subst (λ rs. has rs found) split.1 all in
      let own : IsKept (HasAfter has life) life.moment state split.0 life.turns life.left =
      all_kept (HasAfter has life) state (one_after life) life.moment life.left life.start split.0 life.turns (subst (λ b. has (life.ahead ++ split.0) b) (sym is.0.opened) here, is.0.settled)
      (is.0.history split.0 here) is.0.first is.0.last is.0.image in
      let joined : life.ahead ++ (split.0 ++ own.later) ≡ records ++ own.later = sym (append_assoc life.ahead split.0 own.later) ∙ ap (λ rs. rs ++ own.later) (sym split.1) in
      let more : AreKept has state (records ++ own.later) lives left = over_lives (records ++ own.later) (life.before ++ life.left) lives left (subst (λ rs. has rs (life.before ++ life.left)) joined own.has_them) is.1 in
      record {
        later = own.later ++ more.later;
        has_them = subst (λ rs. has rs left) (append_assoc records own.later more.later) more.has_them;
        kept = (own.later, more.later, refl, own.kept, more.kept);
      }
