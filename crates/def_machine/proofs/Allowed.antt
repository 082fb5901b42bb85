-- Where each event is allowed, and what is asked of people.
use Rattle.std.proofs.Common.{◌≡◌, ℕ, suc, ap, sym, refl, ◌∙◌, List, Bool, true, false, Some, None}
use Rattle.std.specs.Prelude.{if◌then◌else◌, Option, is_some, slice_get, option_and_then}
use Rattle.std.proofs.lemmas.Option.{same_Some, none-some}
use Rattle.def_machine.specs.Machine.{Machine}
use Rattle.def_machine.specs.Updates.{Update, Settings, committed}
use Rattle.def_machine.specs.Standings.{Lack, lack, lack_for, unless_fits, standing, is_paused, question_of, Misfit}
use Rattle.def_machine.specs.Effects.{step_effect, deliver_effect, answer_effect, withdraw_effect, may_step, may_deliver, may_answer, may_withdraw, where_allowed}
use Rattle.def_machine.specs.Allowed.{AllowedLaw}
use Rattle.def_machine.proofs.Standing.{paused_parts}

here_allowed : {A B : Type 0} (us : List A) (k : ℕ) (u : A) (allowed : ℕ → A → Bool) (f : ℕ → A → B) → slice_get us k ≡ Some u → is_some (where_allowed us (suc k) allowed f) ≡ allowed k u
here_allowed us k u allowed f h = ap (λ o. is_some (option_and_then (λ u. if allowed k u then Some (f k u) else None) o)) h ∙ by (allowed k u)
  where
    by : (b : Bool) → is_some (if b then Some (f k u) else None) ≡ b
    by true = refl
    by false = refl

nowhere : {A B : Type 0} (us : List A) (k : ℕ) (allowed : ℕ → A → Bool) (f : ℕ → A → B) → slice_get us k ≡ None → where_allowed us (suc k) allowed f ≡ None
nowhere us k allowed f h = ap (option_and_then (λ u. if allowed k u then Some (f k u) else None)) h

module _ (M : Machine) where
  -- what lacks an answer has a question
  lack_asks : (answers : List M.Choice) (P : M.State) (x : Lack) → lack M answers P ≡ Some x → is_some (M.question P) ≡ true
  lack_asks answers P x h = by (M.question P) h
    where
      by : (o : Option M.Question) → lack_for M answers P o ≡ Some x → is_some o ≡ true
      by None g = absurd (none-some x g)
      by (Some q) g = refl

  asked : (s : Settings) (c n : ℕ) (u : Update M) → is_some (question_of M s c n u) ≡ is_paused (standing M s c n u)
  asked s c n u = by (is_paused (standing M s c n u)) refl
    where
      by : (b : Bool) → is_paused (standing M s c n u) ≡ b → is_some (if b then M.question u.state else None) ≡ b
      by false e = refl
      by true e = let p = paused_parts M s c n u e in lack_asks u.answers u.state p.1.0 p.1.1

  misfits : (s : Settings) (c n : ℕ) (u : Update M) (q : M.Question) (d : M.Choice) → question_of M s c n u ≡ Some q → slice_get u.answers (M.taken u.state) ≡ Some d → M.fits q d ≡ false
  misfits s c n u q d h f = by (is_paused (standing M s c n u)) refl h
    where
      fit : (x : Lack) (o : Option M.Question) → o ≡ Some q → lack_for M u.answers u.state o ≡ Some x → M.fits q d ≡ false
      fit x None e g = absurd (none-some q e)
      fit x (Some r) e g = no (M.fits r d) refl (ap (unless_fits M r) (sym f) ∙ g)
        where
          no : (b : Bool) → M.fits r d ≡ b → unless_fits M r (Some d) ≡ Some x → M.fits q d ≡ false
          no false k m = ap (λ z. M.fits z d) (sym (same_Some r q e)) ∙ k
          no true k m = absurd (none-some x (ap (λ b. if b then None else Some Misfit) (sym k) ∙ m))

      by : (b : Bool) → is_paused (standing M s c n u) ≡ b → (if b then M.question u.state else None) ≡ Some q → M.fits q d ≡ false
      by false e g = absurd (none-some q g)
      by true e g = let p = paused_parts M s c n u e in fit p.1.0 (M.question u.state) g p.1.1

  pub allowed_law : AllowedLaw M
  allowed_law s S us k = (
    λ u h. record {
      steps = here_allowed us k u (may_step M s us) (step_effect M s S us) h;
      delivers = here_allowed us k u (may_deliver M s us) (deliver_effect M s us) h;
      answers = λ c. here_allowed us k u (may_answer M s us c) (answer_effect M s us c) h;
      withdraws = here_allowed us k u (may_withdraw M us) (withdraw_effect M s S us) h;
      question = asked s (committed M us) (suc k) u;
      unfit = λ q c g f. misfits s (committed M us) (suc k) u q c g f;
    },
    λ h. record {
      steps = nowhere us k (may_step M s us) (step_effect M s S us) h;
      delivers = nowhere us k (may_deliver M s us) (deliver_effect M s us) h;
      answers = λ c. nowhere us k (may_answer M s us c) (answer_effect M s us c) h;
      withdraws = nowhere us k (may_withdraw M us) (withdraw_effect M s S us) h;
    },
  )
