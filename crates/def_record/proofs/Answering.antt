-- The answer Quiet is rest.
use Rattle.std.proofs.Common.{◌≡◌, ℕ, suc, min, sym, refl, ap, ◌∙◌, List, [], ◌∷◌, Option, Some, None, Bool, true, false, not, ◌&&◌, is_none}
use Rattle.std.specs.Prelude.{if◌then◌else◌}
use Rattle.std.proofs.lemmas.Bool.{both_ways, and_parts}
use Rattle.std.proofs.lemmas.Option.{none-some}
use Rattle.def_machine.specs.Machine.{Machine}
use Rattle.def_machine.specs.Updates.{Update, committed}
use Rattle.def_machine.specs.Standings.{standing, is_ready, lowest_that, lowest_ready, lowest_deliverable}
use Rattle.def_record.specs.Tickets.{Ticket, in_flight}
use Rattle.def_record.specs.Records.{Now, lowest_free}
use Rattle.def_record.specs.Answers.{Answer, Gives, Moves, Waits, Quiet, lowest_out, first_of_these, next_answer, IsAtRest, QuietAnswer}

is_end : Answer → Bool
is_end (Gives u) = false
is_end (Moves u) = false
is_end (Waits u) = false
is_end Quiet = true

all_none : (a d o : Option ℕ) → first_of_these a d o ≡ Quiet → (a ≡ None) × (d ≡ None) × (o ≡ None)
unfolding is_end
all_none None None None h = (refl, refl, refl)
all_none None None (Some u) h = absurd (both_ways (is_end (Waits u)) refl (ap is_end h))
all_none None (Some u) o h = absurd (both_ways (is_end (Moves u)) refl (ap is_end h))
all_none (Some u) d o h = absurd (both_ways (is_end (Gives u)) refl (ap is_end h))

some_out : (n : ℕ) (ts : List Ticket) → lowest_out (Some n) ts ≡ None → ⊥
some_out n [] h = none-some n (sym h)
some_out n (t ∷ ts) h = some_out (min n t.update) ts h

none_out : (ts : List Ticket) → lowest_out None ts ≡ None → ts ≡ []
none_out [] h = refl
none_out (t ∷ ts) h = absurd (some_out t.update ts h)

same_test : {M : Machine} (p q : ℕ → Update M → Bool) → ((i : ℕ) (u : Update M) → p i u ≡ q i u) → (k : ℕ) (us : List (Update M)) → lowest_that p k us ≡ lowest_that q k us
same_test p q e k [] = refl
same_test p q e k (u ∷ us) = λ j. if e k u j then Some k else same_test p q e (suc k) us j

and_not : (a b : Bool) → b ≡ false → (a && not b) ≡ a
and_not true b e = ap not e
and_not false b e = refl

is_none_of : {A : Type 0} (o : Option A) → is_none o ≡ true → o ≡ None
is_none_of None h = refl
is_none_of (Some x) h = absurd (both_ways (is_none (Some x)) refl h)

module _ (M : Machine) where
  all_free : (n : Now M) → n.out ≡ [] → lowest_free n ≡ lowest_ready M n.settings n.updates
  all_free n e =
      same_test (λ i u. is_ready (standing M n.settings (committed M n.updates) i u) && not (in_flight i n.out)) (λ i u. is_ready (standing M n.settings (committed M n.updates) i u))
      (λ i u. and_not (is_ready (standing M n.settings (committed M n.updates) i u)) (in_flight i n.out) (ap (in_flight i) e)) 1 n.updates

  rests : (n : Now M) → next_answer n ≡ Quiet → IsAtRest M n
  rests n h =
      let a = all_none (lowest_free n) (lowest_deliverable M n.settings n.updates) (lowest_out None n.out) h in
      let none = none_out n.out a.2 in
      let ready : lowest_ready M n.settings n.updates ≡ None = sym (all_free n none) ∙ a.0 in
      record { quiet = λ i. is_none (ready i) && is_none (a.1 i); none = none }

  answers : (n : Now M) → IsAtRest M n → next_answer n ≡ Quiet
  answers n h =
      let p = and_parts _ _ h.quiet in
      let free : lowest_free n ≡ None = all_free n h.none ∙ is_none_of (lowest_ready M n.settings n.updates) p.0 in
      let deliverable : lowest_deliverable M n.settings n.updates ≡ None = is_none_of (lowest_deliverable M n.settings n.updates) p.1 in
      λ i. first_of_these (free i) (deliverable i) (lowest_out None (h.none i))

  pub quiet_answer : QuietAnswer M
  quiet_answer n = (rests n, answers n)
