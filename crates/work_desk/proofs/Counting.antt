-- How many tickets a seat's items give and return, and when it rests.
use Rattle.std.proofs.Common.{◌≡◌, ◌∙◌, ap, sym, refl, subst, arith, ℕ, suc, ◌+◌, List, [], ◌∷◌, ◌++◌, append-nil, append_assoc, Option, Some, None, Result, Ok, Err}
use Rattle.std.specs.Prelude.{IfOk}
use mathlib.Core.List.{IsPrefix}
use Rattle.def_machine.specs.Machine.{Machine}
use Rattle.def_machine.specs.Effects.{Entry, Effect, Steps, Delivers, effect}
use Rattle.def_record.specs.Makers.{weight_for, sum_made_by}
use Rattle.work_lock.proofs.Histories.{weight_for-own, weight_for-zero, sum_made_by-append, sum_made_by-follows}
use Rattle.def_record.specs.declared.item.Item.{Item}
use Rattle.def_record.specs.declared.item.Item.TheVariants.{Opened, Entered, Gave, Returned}
use Rattle.def_record.specs.Items.{ItemOf, Record, made}
use Rattle.def_record.specs.Tickets as record_tickets
use Rattle.def_record.specs.Records.{Now}
use Rattle.work_lock.specs.Seats.{seen_of}
use Rattle.def_record.specs.Answers as answers
use Rattle.def_record.specs.Calls.{delivery_items, entry_by, items_of_answer, next_items, back_items, step_items}
use Rattle.def_record.proofs.Answering.{quiet_answer}
use Rattle.def_history.specs.Cores.{Ground, machine}
use Rattle.def_history.specs.PlainEntries.{PlainEntry}
use Rattle.work_desk.specs.declared.tickets.Ticket.{Ticket}
use Rattle.work_desk.specs.declared.tickets.Next.{Next as Answer}
use Rattle.work_desk.specs.declared.tickets.Next.TheVariants as next
use Rattle.work_desk.specs.declared.tickets.Finished.{Finished}
use Rattle.work_desk.specs.declared.tickets.Finished.TheVariants.{Stepped, Stale}
use Rattle.work_desk.specs.Shared.{Items, StandsAt, item_over, record_over}
use Rattle.work_desk.specs.Turns.{Adds, AfterOthers, gifts, returns}
use Rattle.work_desk.specs.Tickets.{ticket_for, IsAnswer, next_added, HasNext, finish_added, HasFinished, HasGivenBack}
use Rattle.work_desk.specs.Seats.{DeskSeat, first_over, IsResting}

-- ---- counts of what is added

pub gifts_meant : (g : Ground) (i : Item Ground PlainEntry) → gifts (item_over g i) ≡ gifts i
gifts_meant g (Opened o n) = refl
gifts_meant g (Entered e) = refl
gifts_meant g (Gave t u) = refl
gifts_meant g (Returned t) = refl

pub returns_meant : (g : Ground) (i : Item Ground PlainEntry) → returns (item_over g i) ≡ returns i
returns_meant g (Opened o n) = refl
returns_meant g (Entered e) = refl
returns_meant g (Gave t u) = refl
returns_meant g (Returned t) = refl

module _ (g : Ground) (v : Item Ground PlainEntry → ℕ) (w : ItemOf (machine g) → ℕ) (same : (i : Item Ground PlainEntry) → w (item_over g i) ≡ v i) where
  sum_meant : (j : ℕ) (xs : Items) → sum_made_by w j (record_over g xs) ≡ sum_made_by v j xs
  sum_meant j [] = refl
  sum_meant j (x ∷ xs) = λ i. weight_for j x.maker (same x.entry i) + sum_meant j xs i

  pub sum_added : (j : ℕ) (xs ys : Items) (n : Now (machine g)) (added : Record (machine g)) → Adds j g xs ys n added → sum_made_by v j ys ≡ sum_made_by v j xs + sum_made_by w j added
  sum_added j xs ys n added a =
      ap (sum_made_by v j) a.joined ∙ (sum_made_by-append v j xs a.items ∙ ap (λ m. sum_made_by v j xs + m) (sym (sum_meant j a.items) ∙ ap (sum_made_by w j) a.meant))

-- a ticket given
abbrev pub gave : (M : Machine) → ℕ → ℕ → ℕ → Record M
gave M j t u = made (Gave t u) (Some j) ∷ []

pub one_gift : (M : Machine) (j t u : ℕ) → (sum_made_by gifts j (gave M j t u) ≡ 1) × (sum_made_by returns j (gave M j t u) ≡ 0)
one_gift M j t u = (let own = weight_for-own j 1 in let none = weight_for-zero j (Some j) in (omega (arith, own), omega (arith, none)))

-- a ticket returned
one_back : (M : Machine) (t : record_tickets.Ticket) → (sum_made_by gifts t.maker (back_items {M = M} t) ≡ 0) × (sum_made_by returns t.maker (back_items {M = M} t) ≡ 1)
one_back M t = (let own = weight_for-own t.maker 1 in let none = weight_for-zero t.maker (Some t.maker) in (omega (arith, none), omega (arith, own)))

module _ {M : Machine} where
  none_of_entry : (w : ItemOf M → ℕ) → ((e : Entry M) → w (Entered e) ≡ 0) → (j : ℕ) (x : Option (Effect M)) → sum_made_by w j (entry_by j x) ≡ 0
  none_of_entry w z j None = refl
  none_of_entry w z j (Some x) = (let a : weight_for j (Some j) (w (Entered x.entry)) ≡ 0 = ap (weight_for j (Some j)) (z x.entry) ∙ weight_for-zero j (Some j) in omega (arith, a))

  pub one_step : (n : Now M) (t : record_tickets.Ticket) → (sum_made_by gifts t.maker (step_items n t) ≡ 0) × (sum_made_by returns t.maker (step_items n t) ≡ 1)
  one_step n t =
      let x = effect M n.settings n.session n.updates (Steps t.update) in
      let b = one_back M t in (
        sum_made_by-append gifts t.maker (entry_by t.maker x) (back_items t) ∙ (λ i. none_of_entry gifts (λ e. refl) t.maker x i + b.0 i),
        sum_made_by-append returns t.maker (entry_by t.maker x) (back_items t) ∙ (λ i. none_of_entry returns (λ e. refl) t.maker x i + b.1 i),
      )

  pub no_ticket : (n : Now M) (j u : ℕ) → (sum_made_by gifts j (delivery_items n j u) ≡ 0) × (sum_made_by returns j (delivery_items n j u) ≡ 0)
  no_ticket n j u = (let x = effect M n.settings n.session n.updates (Delivers u) in (none_of_entry gifts (λ e. refl) j x, none_of_entry returns (λ e. refl) j x))

  pub next_counts : (n : Now M) (j : ℕ) (a : answers.Answer) (k : ℕ) → (sum_made_by gifts j (items_of_answer n j a) ≡ k) → answers.next_answer n ≡ a → sum_made_by gifts j (next_items n j) ≡ k
  next_counts n j a k e h = ap (λ b. sum_made_by gifts j (items_of_answer n j b)) h ∙ e

  pub next_returns : (n : Now M) (j : ℕ) (a : answers.Answer) → sum_made_by returns j (items_of_answer n j a) ≡ 0
  next_returns n j (answers.Gives u) = (one_gift M j (suc n.given) u).1
  next_returns n j (answers.Moves u) = none_of_entry returns (λ e. refl) j (effect M n.settings n.session n.updates (Delivers u))
  next_returns n j (answers.Waits u) = refl
  next_returns n j answers.Quiet = refl

-- how many `finish` returns
abbrev pub returned_by : {E : Type 0} → Result Finished E → ℕ
returned_by (Ok f) = 1
returned_by (Err e) = 0

module _ {S E : Type 0} where
  -- how many tickets `next` gives
  abbrev pub given_by : Result (Answer (Ticket S)) E → ℕ
  given_by (Ok (next.Ticket t)) = 1
  given_by (Ok (next.Delivered u)) = 0
  given_by (Ok (next.Idle u)) = 0
  given_by (Ok next.Quiet) = 0
  given_by (Err e) = 0

  gifts_added : {M : Machine} (n : Now M) (j : ℕ) (r : Result (Answer (Ticket S)) E) → IfOk r (IsAnswer n) → sum_made_by gifts j (next_added j n r) ≡ given_by r
  gifts_added {M} n j (Ok (next.Ticket t)) h = next_counts n j (answers.Gives t.update) 1 (one_gift M j (suc n.given) t.update).0 h.0
  gifts_added {M} n j (Ok (next.Delivered u)) h = next_counts n j (answers.Moves u) 0 (none_of_entry gifts (λ e. refl) j (effect M n.settings n.session n.updates (Delivers u))) h
  gifts_added n j (Ok (next.Idle u)) h = next_counts n j (answers.Waits u) 0 refl h
  gifts_added n j (Ok next.Quiet) h = next_counts n j answers.Quiet 0 refl h
  gifts_added n j (Err e) h = refl

  returns_added : {M : Machine} (n : Now M) (j : ℕ) (r : Result (Answer (Ticket S)) E) → sum_made_by returns j (next_added j n r) ≡ 0
  returns_added n j (Ok a) = next_returns n j (answers.next_answer n)
  returns_added n j (Err e) = refl

  finish_gifts : {M : Machine} (n : Now M) (j : ℕ) (t : Ticket S) (r : Result Finished E) → (sum_made_by gifts j (finish_added j t n r) ≡ 0) × (sum_made_by returns j (finish_added j t n r) ≡ returned_by r)
  finish_gifts n j t (Ok (Stepped e)) = one_step n (ticket_for j t)
  finish_gifts {M} n j t (Ok (Stale e)) = one_back M (ticket_for j t)
  finish_gifts n j t (Err e) = (refl, refl)

  -- ---- over a turn

  -- `next` gives as many tickets as its answer says, and returns none
  next_turn : (j now : ℕ) (g : Ground) (r q : Result (Answer (Ticket S)) E) (before after : Items) → now ≡ j → r ≡ q → AfterOthers j before (HasNext j g r after)
      → (sum_made_by gifts now after ≡ sum_made_by gifts j before + given_by q) × (sum_made_by returns now after ≡ sum_made_by returns j before)
  next_turn j now g r q before after same is a =
      let h = a.then in
      let others : ((w : Item Ground PlainEntry → ℕ) → sum_made_by w j (before ++ a.others) ≡ sum_made_by w j before) = λ w. sum_made_by-follows w j before (before ++ a.others) (a.others, refl, a.unmade) in (
        ap (λ i. sum_made_by gifts i after) same ∙ (sum_added g gifts gifts (gifts_meant g) j (before ++ a.others) after h.now (next_added j h.now r) h.adds ∙ (λ i. others gifts i + (gifts_added h.now j r h.answer ∙ ap given_by is) i)),
        ap (λ i. sum_made_by returns i after) same ∙ (sum_added g returns returns (returns_meant g) j (before ++ a.others) after h.now (next_added j h.now r) h.adds ∙ ((λ i. others returns i + returns_added h.now j r i) ∙ plus_none (sum_made_by returns j before))),
      )
    where
      plus_none : (m : ℕ) → m + 0 ≡ m
      plus_none m = omega arith

  -- so much more is held
  pub next_held : (j now : ℕ) (g : Ground) (r q : Result (Answer (Ticket S)) E) (before after : Items) → now ≡ j → r ≡ q → AfterOthers j before (HasNext j g r after)
      → sum_made_by gifts now after + sum_made_by returns j before ≡ sum_made_by gifts j before + sum_made_by returns now after + given_by q
  next_held j now g r q before after same is a = let c = next_turn j now g r q before after same is a in omega (arith, c.0, c.1)

  pub finish_turn : (question : List PlainEntry → Option ℕ) (planned : Ground → List PlainEntry → ℕ → Type 0) (j now : ℕ) (g : Ground) (t : Ticket S) (r q : Result Finished E) (before after : Items) → now ≡ j → r ≡ q → AfterOthers j before (HasFinished question planned j g t r after)
      → (sum_made_by gifts now after ≡ sum_made_by gifts j before) × (sum_made_by returns now after ≡ sum_made_by returns j before + returned_by q)
  finish_turn question planned j now g t r q before after same is a =
      let h = a.then in
      let c = finish_gifts h.now j t r in
      let others : ((w : Item Ground PlainEntry → ℕ) → sum_made_by w j (before ++ a.others) ≡ sum_made_by w j before) = λ w. sum_made_by-follows w j before (before ++ a.others) (a.others, refl, a.unmade) in (
        ap (λ i. sum_made_by gifts i after) same ∙ (sum_added g gifts gifts (gifts_meant g) j (before ++ a.others) after h.now (finish_added j t h.now r) h.adds ∙ ((λ i. others gifts i + c.0 i) ∙ plus_none (sum_made_by gifts j before))),
        ap (λ i. sum_made_by returns i after) same ∙ (sum_added g returns returns (returns_meant g) j (before ++ a.others) after h.now (finish_added j t h.now r) h.adds ∙ (λ i. others returns i + (c.1 ∙ ap returned_by is) i)),
      )
    where
      plus_none : (m : ℕ) → m + 0 ≡ m
      plus_none m = omega arith

module _ {S : Type 0} where
  pub back_turn : (j now : ℕ) (g : Ground) (t : Ticket S) (before after : Items) → now ≡ j → AfterOthers j before (HasGivenBack j g t after)
      → (sum_made_by gifts now after ≡ sum_made_by gifts j before) × (sum_made_by returns now after ≡ sum_made_by returns j before + 1)
  back_turn j now g t before after same a =
      let h = a.then in
      let c = one_back (machine g) (ticket_for j t) in
      let others : ((w : Item Ground PlainEntry → ℕ) → sum_made_by w j (before ++ a.others) ≡ sum_made_by w j before) = λ w. sum_made_by-follows w j before (before ++ a.others) (a.others, refl, a.unmade) in (
        ap (λ i. sum_made_by gifts i after) same ∙ (sum_added g gifts gifts (gifts_meant g) j (before ++ a.others) after h.now (back_items (ticket_for j t)) h.adds ∙ ((λ i. others gifts i + c.0 i) ∙ plus_none (sum_made_by gifts j before))),
        ap (λ i. sum_made_by returns i after) same ∙ (sum_added g returns returns (returns_meant g) j (before ++ a.others) after h.now (back_items (ticket_for j t)) h.adds ∙ (λ i. others returns i + c.1 i)),
      )
    where
      plus_none : (m : ℕ) → m + 0 ≡ m
      plus_none m = omega arith

-- what was seen is a prefix of what is seen then
pub turn_prefix : (j : ℕ) (g : Ground) (n : Now (machine g)) (before others after : Items) (added : Record (machine g)) → Adds j g (before ++ others) after n added → IsPrefix before after
turn_prefix j g n before others after added a = (others ++ a.items, sym (append_assoc before others a.items) ∙ sym a.joined)

-- ---- rest

nothing_meant : (g : Ground) (xs : Items) → record_over g xs ≡ [] → xs ≡ []
nothing_meant g [] e = refl
nothing_meant g (x ∷ xs) e = absurd (cc e)

-- after the answer Quiet the seat is at rest
pub quiet_rests : {S E : Type 0} (j : ℕ) (g : Ground) (r : Result (Answer (Ticket S)) E) (before : Items) (s : DeskSeat) → r ≡ Ok next.Quiet → first_over (seen_of s) ≡ Some g → AfterOthers j before (HasNext j g r (seen_of s)) → IsResting s
quiet_rests {S} {E} j g r before s is over a =
    let seen = seen_of s in
    let h : HasNext {S = S} {E = E} j g (Ok next.Quiet) seen (before ++ a.others) = subst (λ (q : Result (Answer (Ticket S)) E). HasNext j g q seen (before ++ a.others)) is a.then in
    let none : next_items h.now j ≡ [] = ap (items_of_answer h.now j) h.answer in
    let items : h.adds.items ≡ [] = nothing_meant g h.adds.items (h.adds.meant ∙ none) in
    let same : before ++ a.others ≡ seen = sym (h.adds.joined ∙ (ap (λ l. (before ++ a.others) ++ l) items ∙ append-nil (before ++ a.others))) in
    let stands : StandsAt g seen h.now = subst (λ (xs : Items). StandsAt g xs h.now) same h.adds.stands in
    (g, over, record { now = h.now; left = stands.left; open_now = stands.open_now; rest = (quiet_answer (machine g) h.now).0 h.answer })
