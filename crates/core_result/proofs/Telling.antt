-- What is told of a queue, update by update.
use Rattle.std.proofs.Common.{◌≡◌, ◌∙◌, ap, sym, refl, ℕ, suc, ◌≤◌, ◌<◌, ◌+◌, Bool, true, false, Option, Some, None, List, [], ◌∷◌, ◌++◌, append_assoc, append-nil, map, length, get_or, drop, add-one}
use Rattle.std.specs.List.{flat_map}
use Rattle.std.specs.Option.{option_map, option_and_then}
use Rattle.std.specs.Prelude.{Result, Ok, Err, IfOk, if◌then◌else◌}
use Rattle.std.proofs.lemmas.List.{drop_more, drop_all}
use Rattle.base_types.specs.Listed.{Listed}
use Rattle.def_machine.specs.Serial.{Finish, Stop, committed_finishes, stop_at, first_stop}
use Rattle.def_machine.specs.Standings.{Lack, lack}
use Rattle.def_machine.specs.Updates.{Update, is_over}
use Rattle.def_chase.specs.Mappings.{Rule}
use Rattle.def_steps.specs.Chase.{caused_chase}
use Rattle.def_steps.specs.Attempts.{Attempt}
use Rattle.def_steps.specs.Serial.{Finished, Stopped, finished, stopped}
use Rattle.chase_update.specs.Results.{finish_in, finish_of, stop_in}
use Rattle.chase_update.specs.declared.results.Stop.{Stop as StopOfProgram}
use Rattle.chase_update.specs.declared.results.Finish.{Finish as FinishOfProgram}
use Rattle.core_queue.specs.Queues.{update_of, updates_of, AreFrom}
use Rattle.core_queue.specs.Updates.{IsOver}
use Rattle.core_queue.specs.Wants.{HasLack}
use Rattle.core_queue.proofs.Walking.{stands_here}
use Rattle.core_queue.specs.declared.updates.QueuedUpdate.{QueuedUpdate}
use Rattle.core_result.specs.Told.{finishes_told, end_told, HasToldOne, outer_stop, stop_told, IsStopAt, IsStop}

-- What is left of a queue is the queued update at the place, and what is left after it.
pub left_of : (rs : List QueuedUpdate) (i : ℕ) (r : QueuedUpdate) → i < length rs → r ≡ get_or rs i r → drop i rs ≡ r ∷ drop (i + 1) rs
left_of rs i r h e = drop_more rs i r h ∙ ap (λ (x : QueuedUpdate). x ∷ drop (i + 1) rs) (sym e)

map_join : {A B : Type 0} (f : A → B) (xs ys : List A) → map f (xs ++ ys) ≡ map f xs ++ map f ys
map_join f [] ys = refl
map_join f (x ∷ xs) ys = ap (λ zs. f x ∷ zs) (map_join f xs ys)

module _ (ms : List Rule) (B : ℕ) where
  abbrev told_of : Finish (caused_chase ms B) → List Finished
  told_of f = finished f.number f.state

  by_withdrawn : (w : Bool) (n : ℕ) (u : Update (caused_chase ms B)) (fs : List (Finish (caused_chase ms B)))
      → map finish_in (flat_map told_of (if w then fs else record { number = n; state = u.state } ∷ fs)) ≡ (if w then [] else map finish_in (finished n u.state)) ++ map finish_in (flat_map told_of fs)
  by_withdrawn true n u fs = refl
  by_withdrawn false n u fs = map_join finish_in (finished n u.state) (flat_map told_of fs)

  -- of one that is over, and those after it
  one_told : (n : ℕ) (u : Update (caused_chase ms B)) (us : List (Update (caused_chase ms B))) → is_over (caused_chase ms B) u ≡ true
      → finishes_told ms B n (u ∷ us) ≡ end_told ms B n u ++ finishes_told ms B (suc n) us
  one_told n u us e =
      ap (λ b. map finish_in (flat_map told_of (if b then (if u.withdrawn then committed_finishes (caused_chase ms B) (suc n) us else record { number = n; state = u.state } ∷ committed_finishes (caused_chase ms B) (suc n) us) else []))) e
      ∙ by_withdrawn u.withdrawn n u (committed_finishes (caused_chase ms B) (suc n) us)

  -- of one that is not
  none_told : (n : ℕ) (u : Update (caused_chase ms B)) (us : List (Update (caused_chase ms B))) → is_over (caused_chase ms B) u ≡ false → finishes_told ms B n (u ∷ us) ≡ []
  none_told n u us e =
      ap (λ b. map finish_in (flat_map told_of (if b then (if u.withdrawn then committed_finishes (caused_chase ms B) (suc n) us else record { number = n; state = u.state } ∷ committed_finishes (caused_chase ms B) (suc n) us) else []))) e

  -- ---- walks

  pub finishes_on : (rs : List QueuedUpdate) (i : ℕ) (r : QueuedUpdate) (b : Bool) (fs gs : Listed FinishOfProgram) → i < length rs → r ≡ get_or rs i r → IsOver r b → b ≡ true → HasToldOne r fs gs
      → map finish_of fs.items ++ finishes_told ms B (i + 1) (updates_of ms B (drop i rs)) ≡ finishes_told ms B 1 (updates_of ms B rs)
      → map finish_of gs.items ++ finishes_told ms B (i + 1 + 1) (updates_of ms B (drop (i + 1) rs)) ≡ finishes_told ms B 1 (updates_of ms B rs)
  finishes_on rs i r b fs gs h e over on one all =
      let u : Update (caused_chase ms B) = update_of ms B r in
      let rest : List (Update (caused_chase ms B)) = updates_of ms B (drop (i + 1) rs) in
      ap (λ xs. xs ++ finishes_told ms B (i + 1 + 1) rest) (one ms B (i + 1))
      ∙ append_assoc (map finish_of fs.items) (end_told ms B (i + 1) u) (finishes_told ms B (i + 1 + 1) rest)
      ∙ ap (λ (k : ℕ). map finish_of fs.items ++ (end_told ms B (i + 1) u ++ finishes_told ms B k rest)) (add-one (i + 1))
      ∙ ap (λ xs. map finish_of fs.items ++ xs) (sym (one_told (i + 1) u rest (sym (over ms B) ∙ on)))
      ∙ ap (λ (xs : List QueuedUpdate). map finish_of fs.items ++ finishes_told ms B (i + 1) (updates_of ms B xs)) (sym (left_of rs i r h e))
      ∙ all

  pub finishes_end : (rs : List QueuedUpdate) (i : ℕ) (r : QueuedUpdate) (b : Bool) (fs : Listed FinishOfProgram) → i < length rs → r ≡ get_or rs i r → IsOver r b → b ≡ false
      → map finish_of fs.items ++ finishes_told ms B (i + 1) (updates_of ms B (drop i rs)) ≡ finishes_told ms B 1 (updates_of ms B rs)
      → map finish_of fs.items ≡ finishes_told ms B 1 (updates_of ms B rs)
  finishes_end rs i r b fs h e over off all =
      sym (append-nil (map finish_of fs.items))
      ∙ ap (λ xs. map finish_of fs.items ++ xs) (sym (none_told (i + 1) (update_of ms B r) (updates_of ms B (drop (i + 1) rs)) (sym (over ms B) ∙ off)))
      ∙ ap (λ (xs : List QueuedUpdate). map finish_of fs.items ++ finishes_told ms B (i + 1) (updates_of ms B xs)) (sym (left_of rs i r h e))
      ∙ all

  pub finishes_all : (rs : List QueuedUpdate) (i : ℕ) (fs : Listed FinishOfProgram) → length rs ≤ i
      → map finish_of fs.items ++ finishes_told ms B (i + 1) (updates_of ms B (drop i rs)) ≡ finishes_told ms B 1 (updates_of ms B rs)
      → map finish_of fs.items ≡ finishes_told ms B 1 (updates_of ms B rs)
  finishes_all rs i fs h all =
      sym (append-nil (map finish_of fs.items))
      ∙ ap (λ (xs : List QueuedUpdate). map finish_of fs.items ++ finishes_told ms B (i + 1) (updates_of ms B xs)) (sym (drop_all i rs h))
      ∙ all

  pub stop_on : (rs : List QueuedUpdate) (i : ℕ) (r : QueuedUpdate) (b : Bool) → i < length rs → r ≡ get_or rs i r → IsOver r b → b ≡ true
      → first_stop (caused_chase ms B) (i + 1) (updates_of ms B (drop i rs)) ≡ first_stop (caused_chase ms B) 1 (updates_of ms B rs)
      → first_stop (caused_chase ms B) (i + 1 + 1) (updates_of ms B (drop (i + 1) rs)) ≡ first_stop (caused_chase ms B) 1 (updates_of ms B rs)
  stop_on rs i r b h e over on all =
      let u : Update (caused_chase ms B) = update_of ms B r in
      let rest : List (Update (caused_chase ms B)) = updates_of ms B (drop (i + 1) rs) in
      ap (λ (k : ℕ). first_stop (caused_chase ms B) k rest) (add-one (i + 1))
      ∙ ap (λ c. if c then first_stop (caused_chase ms B) (suc (i + 1)) rest else stop_at (caused_chase ms B) (i + 1) u.state (lack (caused_chase ms B) u.answers u.state)) (sym (sym (over ms B) ∙ on))
      ∙ ap (λ (xs : List QueuedUpdate). first_stop (caused_chase ms B) (i + 1) (updates_of ms B xs)) (sym (left_of rs i r h e))
      ∙ all

  pub stop_here : (rs : List QueuedUpdate) (i : ℕ) (r : QueuedUpdate) (b : Bool) → i < length rs → r ≡ get_or rs i r → IsOver r b → b ≡ false
      → first_stop (caused_chase ms B) (i + 1) (updates_of ms B (drop i rs)) ≡ first_stop (caused_chase ms B) 1 (updates_of ms B rs)
      → stop_at (caused_chase ms B) (i + 1) (update_of ms B r).state (lack (caused_chase ms B) (update_of ms B r).answers (update_of ms B r).state) ≡ first_stop (caused_chase ms B) 1 (updates_of ms B rs)
  stop_here rs i r b h e over off all =
      let u : Update (caused_chase ms B) = update_of ms B r in
      let rest : List (Update (caused_chase ms B)) = updates_of ms B (drop (i + 1) rs) in
      ap (λ c. if c then first_stop (caused_chase ms B) (suc (i + 1)) rest else stop_at (caused_chase ms B) (i + 1) u.state (lack (caused_chase ms B) u.answers u.state)) (sym (sym (over ms B) ∙ off))
      ∙ ap (λ (xs : List QueuedUpdate). first_stop (caused_chase ms B) (i + 1) (updates_of ms B xs)) (sym (left_of rs i r h e))
      ∙ all

  pub stop_none : (rs : List QueuedUpdate) (i : ℕ) → length rs ≤ i
      → first_stop (caused_chase ms B) (i + 1) (updates_of ms B (drop i rs)) ≡ first_stop (caused_chase ms B) 1 (updates_of ms B rs)
      → None ≡ first_stop (caused_chase ms B) 1 (updates_of ms B rs)
  stop_none rs i h all = ap (λ (xs : List QueuedUpdate). first_stop (caused_chase ms B) (i + 1) (updates_of ms B xs)) (sym (drop_all i rs h)) ∙ all

-- ---- the stop that is told

if_ok : {A E : Type 0} (r : Result A E) (P Q : A → Type 0) → ((x : A) → P x → Q x) → IfOk r P → IfOk r Q
if_ok (Ok x) P Q f p = f x p
if_ok (Err e) P Q f p = p

stopped_at : (ms : List Rule) (B n : ℕ) (P : Attempt) (o : Option Lack) → option_and_then (λ (x : Stop (caused_chase ms B)). stopped x.number x.state x.lack) (stop_at (caused_chase ms B) n P o) ≡ option_and_then (stopped n P) o
stopped_at ms B n P None = refl
stopped_at ms B n P (Some l) = refl

stop_is : (rs : List QueuedUpdate) (i n : ℕ) (r : QueuedUpdate) (b : Bool) (o : Option Lack) (s : Option StopOfProgram) → i < length rs → r ≡ get_or rs i r → AreFrom (i + 1) (drop i rs) → n ≡ r.program.attempt.number
    → IsOver r b → b ≡ false → HasLack r o
    → ((ms : List Rule) (B : ℕ) → first_stop (caused_chase ms B) (i + 1) (updates_of ms B (drop i rs)) ≡ first_stop (caused_chase ms B) 1 (updates_of ms B rs))
    → IsStopAt n r.program.attempt o s → IsStop rs s
stop_is rs i n r b o s h e from number over off lacks all here ms B =
    let P : Attempt = r.program.attempt in
    let place : n ≡ i + 1 = number ∙ (stands_here rs i (i + 1) r h e from).number in
    let first = stop_here ms B rs i r b h e over off (all ms B) in
    here
    ∙ ap (λ (k : ℕ). option_map stop_in (option_map outer_stop (option_and_then (stopped k P) o))) place
    ∙ ap (λ (x : Option Stopped). option_map stop_in (option_map outer_stop x)) (sym (stopped_at ms B (i + 1) P o))
    ∙ ap (λ (l : Option Lack). stop_told ms B (stop_at (caused_chase ms B) (i + 1) P l)) (lacks ms B)
    ∙ ap (stop_told ms B) first

pub stop_told_here : {E : Type 0} (res : Result (Option StopOfProgram) E) (rs : List QueuedUpdate) (i n : ℕ) (r : QueuedUpdate) (b : Bool) (o : Option Lack) → i < length rs → r ≡ get_or rs i r → AreFrom (i + 1) (drop i rs)
    → n ≡ r.program.attempt.number → IsOver r b → b ≡ false → HasLack r o
    → ((ms : List Rule) (B : ℕ) → first_stop (caused_chase ms B) (i + 1) (updates_of ms B (drop i rs)) ≡ first_stop (caused_chase ms B) 1 (updates_of ms B rs))
    → IfOk res (IsStopAt n r.program.attempt o) → IfOk res (IsStop rs)
stop_told_here res rs i n r b o h e from number over off lacks all told =
    if_ok res (IsStopAt n r.program.attempt o) (IsStop rs) (λ s here. stop_is rs i n r b o s h e from number over off lacks all here) told
