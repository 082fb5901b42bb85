-- What each call makes of a board, by its fields.
use Rattle.std.proofs.Common.{◌≡◌, ◌∙◌, ap, sym, refl, subst, arith, ℕ, suc, ◌+◌, ◌<◌, ◌≤◌, add-one, List, [], ◌∷◌, ◌++◌, append-nil, take, take_all, map, length, Option, Some, None, Bool, true, false, not, ◌||◌, ◌==◌, Result, Ok, Err}
use Rattle.std.specs.Prelude.{if◌then◌else◌, ◌^◌, is_some}
use Rattle.std.proofs.lemmas.Bool.{both_ways}
use Rattle.std.proofs.lemmas.Option.{same_Some}
use mathlib.Core.List.{map-append}
use Rattle.def_machine.specs.Cascade.{has_number}
use Rattle.def_record.specs.declared.item.Mark.TheVariants.{Opening, Next, Giving, Returning}
use Rattle.def_record.specs.declared.item.Item.TheVariants.{Opened}
use Rattle.def_record.specs.Marks.{record_of, entered}
use Rattle.std.proofs.lemmas.List.{length-map}
use Rattle.def_record.specs.Items.{made, entries_in}
use Rattle.def_record.specs.Tickets as record_tickets
use Rattle.def_record.specs.Records.{Now, next_ticket, now_of, IsRecord}
use Rattle.def_record.specs.Stays.{IsOut}
use Rattle.def_record.specs.Answers as answers
use Rattle.def_record.specs.Openings.{opening, opened_now}
use Rattle.def_record.specs.Calls.{items_of_answer, next_items}
use Rattle.def_record.proofs.Beginning.{opening_law}
use Rattle.def_record.proofs.Marking.{meant_record}
use Rattle.def_history.specs.Cores.{Ground, machine, session_over, entries_over, updates_after, IsLegalOver}
use Rattle.def_history.specs.PlainEntries.{PlainEntry, entry_kept}
use Rattle.work_desk.specs.declared.board.Marked.{Marked}
use Rattle.work_desk.specs.declared.tickets.Ticket.{Ticket}
use Rattle.work_desk.specs.declared.tickets.Next.{Next as Answer}
use Rattle.work_desk.specs.declared.tickets.Next.TheVariants as next
use Rattle.work_desk.specs.declared.tickets.Finished.TheVariants.{Stepped, Stale}
use Rattle.work_desk.specs.Shared.{Items, Shared, record_over, marks_of, items_of, now_at, opening_items, IsShared}
use Rattle.work_desk.specs.Flights.{left_of}
use Rattle.work_desk.specs.Marks.{made_of, shared}
use Rattle.work_desk.specs.Turns.{least}
use Rattle.work_desk.specs.Cores.{lowest_idle, lowest_waiting, IsDelivery, IsStep, HoldsSince}
use Rattle.work_desk.specs.Tickets.{ticket_for, IsOutFor, IsPlanFor, HasNext, HasFinished, HasStepped, HasGivenBack}
use Rattle.work_desk.proofs.Joining.{more}
use Rattle.work_desk.proofs.Flights.{flight_is}
use Rattle.work_desk.proofs.Growing.{here, gives, delivers, waits_for, gives_back, steps, adds_none, stands_for, told_history}

-- with further marks
pub shared_more : (g g' : Ground) (H H' : List PlainEntry) (k : ℕ) (ms ms' ns : List Marked) (busy busy' : List ℕ) (n n' : ℕ) → g' ≡ g → ms' ≡ ms ++ ns
    → shared g' H' k ms' busy' n' ≡ more (shared g H k ms busy n) (map made_of ns) H' busy' n'
shared_more g g' H H' k ms ms' ns busy busy' n n' over marks i = record { over = over i; history = H'; opened = k; marks = (ap (map made_of) marks ∙ map-append made_of ms ns) i; busy = busy'; given = n' }

-- with no change
pub shared_same : (g g' : Ground) (H H' : List PlainEntry) (k : ℕ) (ms ms' : List Marked) (busy busy' : List ℕ) (n : ℕ) → g' ≡ g → H' ≡ H → ms' ≡ ms → busy' ≡ busy → shared g' H' k ms' busy' n ≡ shared g H k ms busy n
shared_same g g' H H' k ms ms' busy busy' n over history marks flights i = record { over = over i; history = history i; opened = k; marks = map made_of (marks i); busy = flights i; given = n }

-- ---- the opening

pub opens : (g : Ground) (H : List PlainEntry) (k : ℕ) (ms : List Marked) (busy : List ℕ) → 1 ≤ g.budget → IsLegalOver g H → length H < 2 ^ 63 → k ≡ length H → ms ≡ [] → busy ≡ []
    → IsShared (shared g H k ms busy 0) × (items_of (shared g H k ms busy 0) ≡ opening_items g H)
opens g H k ms busy budget legal few count no_marks none =
    let same : shared g H k ms busy 0 ≡ shared g H (length H) [] [] 0 = λ i. shared g H (count i) (no_marks i) (none i) 0 in
    let long : length (entries_over g H) ≡ length H = length-map H (entry_kept g.rules g.budget) in
    let o = opening_law (machine g) g.settings (session_over g) (entries_over g H) (updates_after g H) legal in
    let items : items_of (shared g H (length H) [] [] 0) ≡ opening_items g H = (opening_mark g H) in
    let means : record_over g (items_of (shared g H (length H) [] [] 0)) ≡ opening g.settings (session_over g) (entries_over g H) =
    meant_record (λ (w : Ground). (g.settings, session_over g)) (entry_kept g.rules g.budget) g (marks_of (shared g H (length H) [] [] 0)) H
    ∙ (ap (λ n. record_of (g.settings, session_over g) (made (Opening n) None ∷ []) (entries_over g H)) (sym long) ∙ o.mark) in
    let now : ◌≡◌ {A = Now (machine g)} (opened_now g.settings (session_over g) (entries_over g H) (updates_after g H)) (now_at (shared g H (length H) [] [] 0) []) =
    λ i. record { settings = g.settings; session = session_over g; opening = long i; updates = updates_after g H; history = entries_over g H; out = []; given = 0 } in
    let done : IsShared (shared g H (length H) [] [] 0) = record {
      budget = budget;
      out = [];
      stands = record { is = subst IsRecord (sym means) o.is; left = ap now_of means ∙ (o.now ∙ ap Some now); open_now = omega (arith, long) };
      busy = refl;
      counted = omega arith;
      few = omega arith;
      single = refl;
      short = few;
    } in
    (subst IsShared (sym same) done, ap items_of same ∙ items)
  where
    opening_mark : (g : Ground) (H : List PlainEntry) → items_of (shared g H (length H) [] [] 0) ≡ opening_items g H
    opening_mark g H = append-nil (made (Opened g (length H)) None ∷ entered None (take (length H) H)) ∙ ap (λ es. made (Opened g (length H)) None ∷ entered None es) (take_all (length H) H (omega arith))

abbrev pub idle_or_quiet : {T : Type 0} → Option ℕ → Answer T
idle_or_quiet None = next.Quiet
idle_or_quiet (Some u) = next.Idle u

module _ {S E : Type 0} where
  -- ---- next

  -- nothing is added for want of memory
  pub next_none : (b b' old : Shared) (r : Result (Answer (Ticket S)) E) (j : ℕ) (e : E) → IsShared b → b' ≡ b → b ≡ old → r ≡ Err e → HasNext j old.over r (items_of b') (items_of old)
  next_none b b' old r j e h same view is =
      let q : HasNext j b.over (Err e) (items_of b) (items_of b) = record { now = here b h; adds = adds_none b h j [] refl; answer = tt } in
      let p : HasNext j b.over r (items_of b') (items_of b) = subst (λ (y : Result (Answer (Ticket S)) E × Shared). HasNext j b.over y.0 (items_of y.1) (items_of b)) (λ i. (sym is i, sym same i)) q in
      subst (λ (o : Shared). HasNext j o.over r (items_of b') (items_of o)) view p

  pub next_gives : (holds : S → Ground → List PlainEntry → ℕ → Type 0) (b b' old : Shared) (j : ℕ) (t : Ticket S) → IsShared b → b ≡ old → lowest_idle b.over b.history b.busy ≡ Some t.update
      → t.number ≡ b.given + 1 → t.stamp ≡ length b.history → holds t.snapshot b.over b.history t.update
      → b' ≡ more b (made (Giving t.number t.update) (Some j) ∷ []) b.history (b.busy ++ t.update ∷ []) t.number
      → IsShared b' × HasNext {E = E} j old.over (Ok (next.Ticket t)) (items_of b') (items_of old) × IsOutFor holds b'.over (items_of b') j t
  next_gives holds b b' old j t h view idle number stamp stands same =
      let P : Shared → Type 0 = λ z. IsShared z × HasNext {E = E} j b.over (Ok (next.Ticket t)) (items_of z) (items_of b) × IsOutFor holds z.over (items_of z) j t in
      let m : ℕ → Shared = λ n. more b (made (Giving n t.update) (Some j) ∷ []) b.history (b.busy ++ t.update ∷ []) n in
      let next_number : t.number ≡ suc b.given = number ∙ add-one b.given in
      let g = gives b h j t.update idle in
      let told : entries_in (items_of (m (suc b.given))) ≡ b.history = told_history (m (suc b.given)) g.0 in
      let all : take t.stamp (entries_in (items_of (m (suc b.given)))) ≡ b.history = ap₂' t.stamp (entries_in (items_of (m (suc b.given)))) b.history stamp told in
      let ticket : next_ticket (here b h) (suc b.given) t.update j ≡ ticket_for j t =
      λ i. record { number = sym next_number i; update = t.update; maker = j; stamp = (length-map b.history (entry_kept b.over.rules b.over.budget) ∙ sym stamp) i; used = false } in
      let out : IsOutFor holds b.over (items_of (m (suc b.given))) j t = record {
        now = now_at (m (suc b.given)) (h.out ++ next_ticket (here b h) (suc b.given) t.update j ∷ []);
        stands = g.3;
        out = subst (λ (x : record_tickets.Ticket). IsOut x (now_at (m (suc b.given)) (h.out ++ next_ticket (here b h) (suc b.given) t.update j ∷ []))) ticket g.4;
        stamped = (let long = ap length told in omega (arith, long, stamp));
        snapshot = subst (λ (H : List PlainEntry). holds t.snapshot b.over H t.update) (sym all) stands;
      } in
      let has : HasNext {E = E} j b.over (Ok (next.Ticket t)) (items_of (m (suc b.given))) (items_of b) = record {
        now = here b h;
        adds = g.1;
        answer = (g.2, next_number, stamp ∙ sym (length-map b.history (entry_kept b.over.rules b.over.budget)));
      } in
      let p : P b' = subst P (ap m (sym next_number) ∙ sym same) (g.0, has, out) in
      (p.0, subst (λ (o : Shared). HasNext {E = E} j o.over (Ok (next.Ticket t)) (items_of b') (items_of o)) view p.1, p.2)
    where
      ap₂' : (n : ℕ) (xs H : List PlainEntry) → n ≡ length H → xs ≡ H → take n xs ≡ H
      ap₂' n xs H e same = (λ i. take (e i) (same i)) ∙ take_all (length H) H (omega arith)

  pub next_delivers : (b b' old : Shared) (j u : ℕ) (H : List PlainEntry) → IsShared b → b ≡ old → lowest_idle b.over b.history b.busy ≡ None → lowest_waiting b.over b.history ≡ Some u → IsDelivery b.over b.history u H
      → b' ≡ more b (made Next (Some j) ∷ []) H b.busy b.given
      → IsShared b' × HasNext {S = S} {E = E} j old.over (Ok (next.Delivered u)) (items_of b') (items_of old)
  next_delivers b b' old j u H h view none waits made_it same =
      let P : Shared → Type 0 = λ z. IsShared z × HasNext {S = S} {E = E} j b.over (Ok (next.Delivered u)) (items_of z) (items_of b) in
      let g = delivers b h j u H none waits made_it in
      let p : P b' = subst P (sym same) (g.0, record { now = here b h; adds = g.1; answer = g.2 }) in
      (p.0, subst (λ (o : Shared). HasNext {S = S} {E = E} j o.over (Ok (next.Delivered u)) (items_of b') (items_of o)) view p.1)

  pub next_waits : (b old : Shared) (j : ℕ) (low : Option ℕ) (a : Answer (Ticket S)) → IsShared b → b ≡ old → lowest_idle b.over b.history b.busy ≡ None → lowest_waiting b.over b.history ≡ None → low ≡ least None b.busy
      → a ≡ idle_or_quiet low → HasNext {S = S} {E = E} j old.over (Ok a) (items_of old) (items_of old)
  next_waits b old j low a h view none quiet is answer = go low (waits_for b h j none quiet ∙ ap (answers.first_of_these None None) (sym is)) answer
    where
      go : (low : Option ℕ) → answers.next_answer (here b h) ≡ answers.first_of_these None None low → a ≡ idle_or_quiet low → HasNext {S = S} {E = E} j old.over (Ok a) (items_of old) (items_of old)
      go None e f = subst (λ (y : Shared × Answer (Ticket S)). HasNext {S = S} {E = E} j y.0.over (Ok y.1) (items_of y.0) (items_of y.0)) (λ i. (view i, sym f i))
          record { now = here b h; adds = adds_none b h j (next_items (here b h) j) (ap (items_of_answer (here b h) j) e); answer = e }
      go (Some u) e f = subst (λ (y : Shared × Answer (Ticket S)). HasNext {S = S} {E = E} j y.0.over (Ok y.1) (items_of y.0) (items_of y.0)) (λ i. (view i, sym f i))
          record { now = here b h; adds = adds_none b h j (next_items (here b h) j) (ap (items_of_answer (here b h) j) e); answer = e }

-- ---- the end of a ticket

-- one update less is in flight
pub fewer_left : (u : ℕ) (us : List ℕ) → length (left_of u us) ≤ length us
fewer_left u [] = omega arith
fewer_left u (v ∷ us) = by (v == u) (fewer_left u us)
  where
    by : (b : Bool) → length (left_of u us) ≤ length us → length (if not b then v ∷ left_of u us else left_of u us) ≤ suc (length us)
    by true k = omega (arith, k)
    by false k = omega (arith, k)

pub one_left : (u : ℕ) (us : List ℕ) → has_number us u ≡ true → length (left_of u us) + 1 ≤ length us
one_left u [] h = absurd (both_ways false refl h)
one_left u (v ∷ us) h = by (v == u) h (one_left u us) (fewer_left u us)
  where
    by : (b : Bool) → (b || has_number us u) ≡ true → (has_number us u ≡ true → length (left_of u us) + 1 ≤ length us) → length (left_of u us) ≤ length us → length (if not b then v ∷ left_of u us else left_of u us) + 1 ≤ suc (length us)
    by true e k few = omega (arith, few)
    by false e k few = (let less = k e in omega (arith, less))

module _ {S : Type 0} (holds : S → Ground → List PlainEntry → ℕ → Type 0) (b : Shared) (h : IsShared b) (j : ℕ) (t : Ticket S) (o : IsOutFor holds b.over (items_of b) j t) where
  pub out_here : IsOut (ticket_for j t) (here b h)
  out_here = subst (λ (n : Now (machine b.over)). IsOut (ticket_for j t) n) (same_Some _ _ (sym o.stands.left ∙ h.stands.left)) o.out

  pub one_less : length (left_of t.update b.busy) + 1 ≤ length b.busy
  one_less =
      one_left t.update b.busy (ap (λ us. has_number us t.update) (sym h.busy) ∙ (sym (flight_is t.update h.out) ∙ ap (λ (q : Option record_tickets.Ticket). is_some q) out_here))

  pub holds_since : {P : Type 0} (plan_holds : P → Ground → List PlainEntry → ℕ → Type 0) (p : P) → IsPlanFor holds plan_holds t p → HoldsSince (plan_holds p) b.over b.history t.stamp t.update
  holds_since plan_holds p plan = record {
    stamped = subst (λ (H : List PlainEntry). t.stamp ≤ length H) (told_history b h) o.stamped;
    then = plan b.over (take t.stamp b.history) t.update (subst (λ (H : List PlainEntry). holds t.snapshot b.over (take t.stamp H) t.update) (told_history b h) o.snapshot);
    spared = (stands_for b h (ticket_for j t) out_here refl).spared;
  }

module _ {S : Type 0} (holds : S → Ground → List PlainEntry → ℕ → Type 0) where
  pub back_is : (b b' old : Shared) (j : ℕ) (t : Ticket S) → IsShared b → b ≡ old → IsOutFor holds old.over (items_of old) j t
      → b' ≡ more b (made (Returning t.number) (Some j) ∷ []) b.history (left_of t.update b.busy) b.given → IsShared b' × HasGivenBack j old.over t (items_of b') (items_of old)
  back_is b b' old j t h view out same =
      let P : Shared → Type 0 = λ z. IsShared z × HasGivenBack j b.over t (items_of z) (items_of b) in
      let o : IsOutFor holds b.over (items_of b) j t = subst (λ (z : Shared). IsOutFor holds z.over (items_of z) j t) (sym view) out in
      let g = gives_back b h (ticket_for j t) (out_here holds b h j t o) in
      let p : P b' = subst P (sym same) (g.0, record { now = here b h; adds = g.1 }) in
      (p.0, subst (λ (z : Shared). HasGivenBack j z.over t (items_of b') (items_of z)) view p.1)

  pub step_is : {E : Type 0} (b b' old : Shared) (j : ℕ) (t : Ticket S) (H : List PlainEntry) (e : ℕ) → IsShared b → b ≡ old → IsOutFor holds old.over (items_of old) j t → IsStep b.over b.history t.update H
      → b' ≡ more b (made Next (Some j) ∷ made (Returning t.number) (Some j) ∷ []) H (left_of t.update b.busy) b.given → e ≡ length H
      → IsShared b' × HasStepped {S = S} {E = E} j old.over t (Ok e) (items_of b') (items_of old)
  step_is {E} b b' old j t H e h view out step same number =
      let P : Shared → Type 0 = λ z. IsShared z × HasStepped {S = S} {E = E} j b.over t (Ok e) (items_of z) (items_of b) in
      let o : IsOutFor holds b.over (items_of b) j t = subst (λ (z : Shared). IsOutFor holds z.over (items_of z) j t) (sym view) out in
      let g = steps b h (ticket_for j t) H (out_here holds b h j t o) refl step in
      let p : P b' = subst P (sym same) (g.0, record { now = here b h; adds = g.1; answer = number ∙ sym (ap length (told_history (more b (made Next (Some j) ∷ made (Returning t.number) (Some j) ∷ []) H (left_of t.update b.busy) b.given) g.0)) }) in
      (p.0, subst (λ (z : Shared). HasStepped {S = S} {E = E} j z.over t (Ok e) (items_of b') (items_of z)) view p.1)

module _ {S E : Type 0} where
  pub finish_stale : (question : List PlainEntry → Option ℕ) (planned : Ground → List PlainEntry → ℕ → Type 0) (b old : Shared) (ys : Items) (j : ℕ) (t : Ticket S) (e : ℕ) → IsShared b → b ≡ old → question b.history ≡ Some e → HasGivenBack j old.over t ys (items_of old)
      → HasFinished {S = S} {E = E} question planned j old.over t (Ok (Stale e)) ys (items_of old)
  finish_stale question planned b old ys j t e h view is back = record {
    now = back.now;
    adds = back.adds;
    answer = ap question (ap (λ (z : Shared). entries_in (items_of z)) (sym view) ∙ told_history b h) ∙ is;
    valid = tt;
  }

  pub finish_stepped : {F : Type 0} (question : List PlainEntry → Option ℕ) (planned : Ground → List PlainEntry → ℕ → Type 0) (b old : Shared) (ys : Items) (j : ℕ) (t : Ticket S) (e : ℕ) → IsShared b → b ≡ old → question b.history ≡ None → planned b.over b.history t.update
      → HasStepped {S = S} {E = F} j old.over t (Ok e) ys (items_of old) → HasFinished {S = S} {E = E} question planned j old.over t (Ok (Stepped e)) ys (items_of old)
  finish_stepped question planned b old ys j t e h view is plan step =
      let told : entries_in (items_of old) ≡ b.history = ap (λ (z : Shared). entries_in (items_of z)) (sym view) ∙ told_history b h in
      record {
        now = step.now;
        adds = step.adds;
        answer = (ap question told ∙ is, step.answer);
        valid = subst (λ (y : Ground × List PlainEntry). planned y.0 y.1 t.update) (λ k. ((view k).over, sym told k)) plan;
      }
