-- The effect of each event: when it is allowed, the updates after it, and its entry.
use Rattle.std.specs.Prelude.{ℕ, zero, suc, nat_lt, Bool, true, false, not, ◌&&◌, if◌then◌else◌, List, [], ◌∷◌, ◌++◌, take, drop, length, Option, Some, None, slice_get, option_map, option_and_then}
use Rattle.def_machine.specs.Machine.{Machine, Outcome, Done, Spent, Refused}
use Rattle.def_machine.specs.Updates.{Update, Submission, Session, Settings, Deps, trail, below, committed}
use Rattle.def_machine.specs.Standings.{Standing, standing, is_ready, is_paused, is_deliverable}
use Rattle.def_machine.specs.Cascade.{Cause, readers, conflicts, cascade, restarted}
use Rattle.def_machine.specs.Steps.{stepped, step_writes}

-- An event: the admission of the next update handed in, a step, a delivery, an answer by a person, or a withdrawal.
pub data Event (M : Machine) : Type 0 where
  Admits : Event M
  Steps : ℕ → Event M
  Delivers : ℕ → Event M
  Answers : ℕ → M.Choice → Event M
  Withdraws : ℕ → Event M

-- The entry of a step: the update and the attempt that made it, the standing after it, the writes that it shows, the causes of
-- restarts (conflicts, then dependences, each in number order), and the number of updates committed after it.
pub record StepEntry (M : Machine) : Type 0 where
  pub update : ℕ
  pub attempt : ℕ
  pub standing : Standing
  pub writes : List M.Write
  pub causes : List (Cause M)
  pub committed : ℕ

-- The entry of an event: the update's number, and then
pub data Entry (M : Machine) : Type 0 where
  Admitted : ℕ → Entry M
  Stepped : StepEntry M → Entry M
  -- the standing after it
  Delivered : ℕ → Standing → Entry M
  -- the choice and the standing after it
  Answered : ℕ → M.Choice → Standing → Entry M
  -- the causes, and the number of updates committed after it
  Withdrew : ℕ → List (Cause M) → ℕ → Entry M

-- The effect of an event: the updates after it, and its entry.
pub record Effect (M : Machine) : Type 0 where
  pub updates : List (Update M)
  pub entry : Entry M

-- The attempt ended because its budget ran out.
abbrev pub is_spent : Option Outcome → Bool
is_spent None = false
is_spent (Some Done) = false
is_spent (Some Spent) = true
is_spent (Some Refused) = false

-- The causes of restarts above update j if j loses its trail: j is the only first member. D is the repository below j, and c
-- updates were committed when the event began.
abbrev pub causes_of_loss : (M : Machine) → Deps → ℕ → ℕ → M.Repository → Update M → List (Update M) → List (Cause M)
causes_of_loss M deps c j D u upper = cascade M deps c [] D (record { number = j; trail = trail M u } ∷ []) (suc j) upper

-- The causes of restarts above update j if j wrote: the first members are the updates in conflict. D is the repository below the
-- first update above j, with the new writes.
abbrev pub causes_of_writes : (M : Machine) → Deps → ℕ → ℕ → M.Repository → List (Update M) → List (Cause M)
causes_of_writes M deps c j D upper =
    let first = conflicts M c j D (suc j) upper in first ++ cascade M deps c (readers first) D [] (suc j) upper

-- The causes of a step that takes update j from u to v.
abbrev pub causes_of_step : (M : Machine) → Deps → ℕ → ℕ → M.Repository → Update M → Update M → List (Update M)
    → List (Cause M)
causes_of_step M deps c j D u v upper =
    if is_spent (M.outcome v.state) then causes_of_loss M deps c j D u upper else causes_of_writes M deps c j (M.apply D (trail M v)) upper

-- The list with v in place of update k + 1, and with the updates above it that the causes name restarted.
abbrev pub put : (M : Machine) → List (Update M) → ℕ → Update M → List (Cause M) → List (Update M)
put M us k v causes = take k us ++ v ∷ restarted M (readers causes) (suc (suc k)) (drop (suc k) us)

-- The update loses its trail and its log, and is withdrawn.
abbrev pub withdrawn_now : (M : Machine) → Update M → Update M
withdrawn_now M u =
    record { operation = u.operation; attempt = u.attempt; state = u.state; log = []; withdrawn = true; answers = u.answers; inbox = u.inbox }

-- The update with these answers delivered and these recorded.
abbrev pub with_answers : (M : Machine) → Update M → List M.Choice → List M.Choice → Update M
with_answers M u answers inbox =
    record { operation = u.operation; attempt = u.attempt; state = u.state; log = u.log; withdrawn = u.withdrawn; answers = answers; inbox = inbox }

-- The first answer of the inbox goes to the end of the delivered ones.
abbrev pub delivered : (M : Machine) → Update M → Update M
delivered M u = with_answers M u (u.answers ++ take 1 u.inbox) (drop 1 u.inbox)

-- The choice becomes the next answer of the attempt; later answers that were delivered are dropped.
abbrev pub answered : (M : Machine) → Update M → M.Choice → Update M
answered M u c = with_answers M u (take (M.taken u.state) u.answers ++ c ∷ []) u.inbox

-- There is a question, and the choice answers it.
abbrev pub fits_question : (M : Machine) → Option M.Question → M.Choice → Bool
fits_question M None c = false
fits_question M (Some q) c = M.fits q c

-- The effect of a step of update k + 1, which is u.
abbrev pub step_effect : (M : Machine) → Settings → Session M → List (Update M) → ℕ → Update M → Effect M
step_effect M s S us k u =
    let D = below M S.base us k in
    let v = stepped M D u in
    let causes = causes_of_step M s.deps (committed M us) (suc k) D u v (drop (suc k) us) in
    let vs = put M us k v causes in
    record {
      updates = vs;
      entry = Stepped (record {
        update = suc k;
        attempt = u.attempt;
        standing = standing M s (committed M vs) (suc k) v;
        writes = step_writes M D u;
        causes = causes;
        committed = committed M vs;
      });
    }

-- The effect of a withdrawal: the update loses its trail.
abbrev pub withdraw_effect : (M : Machine) → Settings → Session M → List (Update M) → ℕ → Update M → Effect M
withdraw_effect M s S us k u =
    let causes = causes_of_loss M s.deps (committed M us) (suc k) (below M S.base us k) u (drop (suc k) us) in
    let vs = put M us k (withdrawn_now M u) causes in
    record { updates = vs; entry = Withdrew (suc k) causes (committed M vs) }

-- The effect of a delivery: the first recorded answer is delivered.
abbrev pub deliver_effect : (M : Machine) → Settings → List (Update M) → ℕ → Update M → Effect M
deliver_effect M s us k u =
    let v = delivered M u in
    let vs = take k us ++ v ∷ drop (suc k) us in
    record { updates = vs; entry = Delivered (suc k) (standing M s (committed M vs) (suc k) v) }

-- The effect of an answer by a person.
abbrev pub answer_effect : (M : Machine) → Settings → List (Update M) → M.Choice → ℕ → Update M → Effect M
answer_effect M s us c k u =
    let v = answered M u c in
    let vs = take k us ++ v ∷ drop (suc k) us in
    record { updates = vs; entry = Answered (suc k) c (standing M s (committed M vs) (suc k) v) }

-- Update n when it is admitted: attempt 0 at its beginning, with the recorded answers in the inbox.
abbrev pub admitted : (M : Machine) → ℕ → Submission M → Update M
admitted M n x = record { operation = x.operation; attempt = 0; state = M.begin n 0 x.operation; log = []; withdrawn = false; answers = []; inbox = x.answers }

-- The effect of an admission: the update takes the next number.
abbrev pub admit_effect : (M : Machine) → List (Update M) → Submission M → Effect M
admit_effect M us x =
    record { updates = us ++ admitted M (suc (length us)) x ∷ []; entry = Admitted (suc (length us)) }

-- The result of f at the update with this number, if there is one and `allowed` holds there.
abbrev pub where_allowed : {A B : Type 0} → List A → ℕ → (ℕ → A → Bool) → (ℕ → A → B) → Option B
where_allowed us zero allowed f = None
where_allowed us (suc k) allowed f = option_and_then (λ u. if allowed k u then Some (f k u) else None) (slice_get us k)

-- The update is ready.
abbrev pub may_step : (M : Machine) → Settings → List (Update M) → ℕ → Update M → Bool
may_step M s us k u = is_ready (standing M s (committed M us) (suc k) u)

-- The update is pending, with an answer in its inbox.
abbrev pub may_deliver : (M : Machine) → Settings → List (Update M) → ℕ → Update M → Bool
may_deliver M s us k u = is_deliverable M s (committed M us) (suc k) u

-- The update is paused, and the choice answers its question.
abbrev pub may_answer : (M : Machine) → Settings → List (Update M) → M.Choice → ℕ → Update M → Bool
may_answer M s us c k u = is_paused (standing M s (committed M us) (suc k) u) && fits_question M (M.question u.state) c

-- The update is neither committed nor withdrawn.
abbrev pub may_withdraw : (M : Machine) → List (Update M) → ℕ → Update M → Bool
may_withdraw M us k u = nat_lt (committed M us) (suc k) && not u.withdrawn

-- The effect of an event at these updates, if it is allowed. An update may step if it is ready, get a delivery if it is pending
-- with an answer in its inbox, be answered if it is paused and the choice fits, and be withdrawn if it is neither committed nor
-- withdrawn. An update is admitted if one more was handed in.
abbrev pub effect : (M : Machine) → Settings → Session M → List (Update M) → Event M → Option (Effect M)
effect M s S us Admits = option_map (admit_effect M us) (slice_get S.submissions (length us))
effect M s S us (Steps i) = where_allowed us i (may_step M s us) (step_effect M s S us)
effect M s S us (Delivers i) = where_allowed us i (may_deliver M s us) (deliver_effect M s us)
effect M s S us (Answers i c) = where_allowed us i (may_answer M s us c) (answer_effect M s us c)
effect M s S us (Withdraws i) = where_allowed us i (may_withdraw M us) (withdraw_effect M s S us)
