-- What each call makes of what the seats share.
use Rattle.std.proofs.Common.{◌≡◌, ◌∙◌, ap, sym, refl, subst, arith, ℕ, suc, ◌+◌, ◌≤◌, List, [], ◌∷◌, ◌++◌, append-nil, length, length-append, Option, Some, None, false}
use Rattle.def_machine.specs.Machine.{Machine, Laws}
use Rattle.def_machine.specs.Effects.{Event, Steps, Delivers, Entry, Admitted, Stepped, Delivered, Answered, Withdrew, Effect, effect}
use Rattle.def_machine.specs.Histories.{event_of}
use Rattle.def_machine.specs.Standings.{standing, is_ready, lowest_that}
use Rattle.def_machine.specs.Updates.{committed}
use Rattle.def_machine.specs.Cascade.{has_number}
use Rattle.std.specs.Prelude.{◌&&◌, not, min}
use mathlib.Core.List.{map-append}
use Rattle.def_machine.proofs.Basics.{some_of}
use Rattle.def_machine.proofs.Legal.{effect_records}
use Rattle.def_steps.specs.Chase.{caused}
use Rattle.def_steps.proofs.ChaseLaws.{chase_laws}
use Rattle.def_record.specs.declared.made.Made.{Made}
use Rattle.def_record.specs.Makers.{MadeBy}
use Rattle.def_record.specs.declared.item.Item.TheVariants.{Entered, Gave}
use Rattle.def_record.specs.declared.item.Mark.{Mark}
use Rattle.def_record.specs.declared.item.Mark.TheVariants.{Next, Giving, Returning}
use Rattle.def_record.specs.Items.{Record, made, entries_in}
use Rattle.def_record.specs.Marks.{entries_for_all, count_for_all, record_of}
use Rattle.def_record.specs.Tickets.{Ticket, without, using, tickets_after}
use Rattle.def_record.specs.Records.{Now, next_ticket, after_items, lowest_free, entered_on, AllFollow}
use Rattle.def_record.specs.Records as records
use Rattle.def_record.specs.Stays.{IsOut}
use Rattle.def_record.specs.Apart.{HasTickets}
use Rattle.def_record.specs.Given.{StandsFor}
use Rattle.def_record.specs.Answers.{Gives, Moves, lowest_out, first_of_these, next_answer}
use Rattle.def_record.specs.Calls.{entry_by, delivery_items, items_of_answer, next_items, back_items, step_items, AreCalls}
use Rattle.def_record.proofs.Calling.{call_law, given_now, free_is}
use Rattle.def_record.proofs.Legality.{record_law}
use Rattle.def_record.proofs.Marking.{mark_law}
use Rattle.def_record.proofs.Parting.{apart_law}
use Rattle.def_record.proofs.Giving.{given_law}
use Rattle.def_history.specs.Cores.{Ground, machine, entries_over, updates_after, IsLegalOver, effect_after}
use Rattle.def_history.specs.PlainEntries.{PlainEntry, plain_entry, entry_kept}
use Rattle.def_history.proofs.Keeping.{entry_there, histories_are_kept}
use Rattle.work_desk.specs.Shared.{Items, Shared, StandsAt, record_over, marks_of, items_of, now_at, updates_of, IsShared}
use Rattle.work_desk.specs.Cores.{lowest_idle, lowest_waiting, IsDelivery, IsStep}
use Rattle.work_desk.specs.Flights.{left_of}
use Rattle.work_desk.specs.Turns.{Adds, least}
use Rattle.work_desk.proofs.Joining.{stands_more, entries_for_more, count_for_more, more, items_more}
use Rattle.work_desk.proofs.Flights.{flight_is, returned, used_updates}

pub entries_one_more : (g : Ground) (H : List PlainEntry) (e : Entry (machine g)) → entries_over g (H ++ plain_entry g.rules g.budget e ∷ []) ≡ entries_over g H ++ e ∷ []
entries_one_more g [] e = ap (λ d. d ∷ []) (entry_there g.rules g.budget e)
entries_one_more g (h ∷ H) e = ap (λ es. entry_kept g.rules g.budget h ∷ es) (entries_one_more g H e)

-- the least of the updates that tickets are out for
pub least_out : (low : Option ℕ) (ts : List Ticket) → lowest_out low ts ≡ least low (updates_of ts)
least_out low [] = refl
least_out None (t ∷ ts) = least_out (Some t.update) ts
least_out (Some n) (t ∷ ts) = least_out (Some (min n t.update)) ts

module _ {M : Machine} where
  -- a delivery changes no ticket
  delivery_tickets : (u j : ℕ) (e : Entry M) (ts : List Ticket) → event_of e ≡ Delivers u → tickets_after j e ts ≡ ts
  delivery_tickets u j (Admitted i) ts h = absurd (cc h)
  delivery_tickets u j (Stepped d) ts h = absurd (cc h)
  delivery_tickets u j (Delivered i s) ts h = refl
  delivery_tickets u j (Answered i c s) ts h = refl
  delivery_tickets u j (Withdrew i cs n) ts h = refl

  -- a step uses the ticket of its update
  step_tickets : (u j : ℕ) (e : Entry M) (ts : List Ticket) → event_of e ≡ Steps u → tickets_after j e ts ≡ using u j ts
  step_tickets u j (Admitted i) ts h = absurd (cc h)
  step_tickets u j (Stepped d) ts h = ap (λ v. using v j ts) (cc h)
  step_tickets u j (Delivered i s) ts h = absurd (cc h)
  step_tickets u j (Answered i c s) ts h = absurd (cc h)
  step_tickets u j (Withdrew i cs n) ts h = absurd (cc h)

module _ (b : Shared) (h : IsShared b) where
  abbrev pub here : Now (machine b.over)
  here = now_at b h.out

  laws : Laws (machine b.over)
  laws = chase_laws caused b.over.rules b.over.budget h.budget

  calls : AreCalls (machine b.over) here
  calls = call_law (machine b.over) laws here h.stands.open_now

  legal : IsLegalOver b.over b.history
  legal = record_law (machine b.over) laws (record_over b.over (items_of b)) here h.stands.is h.stands.left

  pub idle_is : lowest_free here ≡ lowest_idle b.over b.history b.busy
  idle_is k =
      lowest_that (λ i u. is_ready (standing (machine b.over) b.over.settings (committed (machine b.over) (updates_after b.over b.history)) i u) && not ((flight_is i h.out ∙ ap (λ us. has_number us i) h.busy) k)) 1
      (updates_after b.over b.history)

  -- further marks and entries, whose items may follow
  pub grows : (j : ℕ) (ns : List (Made Mark)) (J H : List PlainEntry) (busy : List ℕ) (given : ℕ) (out : List Ticket) (added : Record (machine b.over))
      → H ≡ b.history ++ J → entries_for_all ns ≡ length J → record_over b.over (record_of b.over ns J) ≡ added → AllFollow here added
      → after_items here added ≡ now_at (more b ns H busy given) out → updates_of out ≡ busy → given ≤ length b.marks + length ns → count_for_all ns ≡ length ns → MadeBy j (record_of b.over ns J)
      → IsShared (more b ns H busy given) × Adds j b.over (items_of b) (items_of (more b ns H busy given)) here added × StandsAt b.over (items_of (more b ns H busy given)) (now_at (more b ns H busy given) out)
  grows j ns J H busy given out added same count means follows left flights few single made =
      let joined : items_of (more b ns H busy given) ≡ items_of b ++ record_of b.over ns J = items_more b ns J H busy given h.counted same in
      let s : StandsAt b.over (items_of b ++ record_of b.over ns J) (after_items here added) = stands_more b.over (items_of b) (record_of b.over ns J) here added h.stands means follows in
      let t : StandsAt b.over (items_of (more b ns H busy given)) (now_at (more b ns H busy given) out) = subst (λ (y : Items × Now (machine b.over)). StandsAt b.over y.0 y.1) (λ k. (sym joined k, left k)) s in (
        record {
          budget = h.budget;
          out = out;
          stands = t;
          busy = flights;
          counted = (let long = ap length same ∙ length-append b.history J in omega (arith, long, entries_for_more (marks_of b) ns, h.counted, count));
          few = (let long = length-append b.marks ns in omega (arith, few, long));
          single = (let long = length-append b.marks ns in omega (arith, single, long, count_for_more b.marks ns, h.single));
          short = h.short;
        },
        record { stands = h.stands; items = record_of b.over ns J; joined = joined; meant = means; made = made },
        t,
      )

  -- nothing is added
  pub adds_none : (j : ℕ) (added : Record (machine b.over)) → added ≡ [] → Adds j b.over (items_of b) (items_of b) here added
  adds_none j added e = record { stands = h.stands; items = []; joined = sym (append-nil (items_of b)); meant = sym e; made = tt }

  -- what an entry leaves
  entered_here : (e : Event (machine b.over)) (x : Effect (machine b.over)) (ns : List (Made Mark)) (H : List PlainEntry) (busy : List ℕ) (out now_out : List Ticket)
      → effect_after b.over b.history e ≡ Some x → b.history ++ plain_entry b.over.rules b.over.budget x.entry ∷ [] ≡ H → out ≡ now_out
      → entered_on here x.entry out ≡ now_at (more b ns H busy b.given) now_out
  entered_here e x ns H busy out now_out f same outs =
      let r = (effect_records (machine b.over) laws b.over.settings here.session here.updates e x f).0 in
      let there : records.updates_in here.updates (effect (machine b.over) here.settings here.session here.updates (event_of x.entry)) ≡ x.updates =
      ap (records.updates_in here.updates) (ap (λ d. effect (machine b.over) here.settings here.session here.updates d) r ∙ f) in
      let leaves = ((histories_are_kept b.over h.budget).grows b.history e x legal f).leaves in
      let p : records.updates_in here.updates (effect (machine b.over) here.settings here.session here.updates (event_of x.entry)) ≡ updates_after b.over H = there ∙ (sym leaves ∙ ap (updates_after b.over) same) in
      let q : entries_over b.over b.history ++ x.entry ∷ [] ≡ entries_over b.over H = sym (entries_one_more b.over b.history x.entry) ∙ ap (entries_over b.over) same in
      λ k. record { settings = b.over.settings; session = here.session; opening = b.opened; updates = p k; history = q k; out = outs k; given = b.given }

  -- ---- next

  pub gives : (j u : ℕ) → lowest_idle b.over b.history b.busy ≡ Some u
      → IsShared (more b (made (Giving (suc b.given) u) (Some j) ∷ []) b.history (b.busy ++ u ∷ []) (suc b.given))
      × Adds j b.over (items_of b) (items_of (more b (made (Giving (suc b.given) u) (Some j) ∷ []) b.history (b.busy ++ u ∷ []) (suc b.given))) here (next_items here j)
      × (next_answer here ≡ Gives u)
      × StandsAt b.over (items_of (more b (made (Giving (suc b.given) u) (Some j) ∷ []) b.history (b.busy ++ u ∷ []) (suc b.given))) (now_at (more b (made (Giving (suc b.given) u) (Some j) ∷ []) b.history (b.busy ++ u ∷ []) (suc b.given)) (h.out ++ next_ticket here (suc b.given) u j ∷ []))
      × IsOut (next_ticket here (suc b.given) u j) (now_at (more b (made (Giving (suc b.given) u) (Some j) ∷ []) b.history (b.busy ++ u ∷ []) (suc b.given)) (h.out ++ next_ticket here (suc b.given) u j ∷ []))
  gives j u e =
      let free : lowest_free here ≡ Some u = idle_is ∙ e in
      let answer : next_answer here ≡ Gives u = ap (λ a. first_of_these a (lowest_waiting b.over b.history) (lowest_out None h.out)) free in
      let items : next_items here j ≡ made (Gave (suc b.given) u) (Some j) ∷ [] = ap (items_of_answer here j) answer in
      let g = grows j (made (Giving (suc b.given) u) (Some j) ∷ []) [] b.history (b.busy ++ u ∷ []) (suc b.given) (h.out ++ next_ticket here (suc b.given) u j ∷ []) (next_items here j)
      (sym (append-nil b.history)) refl (sym items) (calls.next j) (ap (after_items here) items)
      (map-append (λ t. t.update) h.out (next_ticket here (suc b.given) u j ∷ []) ∙ ap (λ us. us ++ u ∷ []) h.busy)
      (let few = h.few in omega arith) refl (refl, tt) in
      (g.0, g.1, answer, g.2, given_now u (next_ticket here (suc b.given) u j) h.out refl (free_is (machine b.over) laws here h.stands.open_now u free))

  pub delivers_at : (j u : ℕ) (H : List PlainEntry) → lowest_waiting b.over b.history ≡ Some u → IsDelivery b.over b.history u H
      → IsShared (more b (made Next (Some j) ∷ []) H b.busy b.given) × Adds j b.over (items_of b) (items_of (more b (made Next (Some j) ∷ []) H b.busy b.given)) here (delivery_items here j u)
  delivers_at j u H waits d =
      let x = some_of (λ x. b.history ++ plain_entry b.over.rules b.over.budget x.entry ∷ []) (effect_after b.over b.history (Delivers u)) H d in
      let items : delivery_items here j u ≡ made (Entered x.0.entry) (Some j) ∷ [] = ap (entry_by j) x.1 in
      let event = (effect_records (machine b.over) laws b.over.settings here.session here.updates (Delivers u) x.0 x.1).0 in
      let g = grows j (made Next (Some j) ∷ []) (plain_entry b.over.rules b.over.budget x.0.entry ∷ []) H b.busy b.given h.out (delivery_items here j u)
      (sym x.2) refl (ap (λ e. made (Entered e) (Some j) ∷ []) (entry_there b.over.rules b.over.budget x.0.entry) ∙ sym items) (calls.delivers j u waits)
      (ap (after_items here) items ∙ entered_here (Delivers u) x.0 (made Next (Some j) ∷ []) H b.busy (tickets_after j x.0.entry h.out) h.out x.1 x.2 (delivery_tickets u j x.0.entry h.out event))
      h.busy (let few = h.few in omega arith) refl (refl, tt) in
      (g.0, g.1)

  pub delivers : (j u : ℕ) (H : List PlainEntry) → lowest_idle b.over b.history b.busy ≡ None → lowest_waiting b.over b.history ≡ Some u → IsDelivery b.over b.history u H
      → IsShared (more b (made Next (Some j) ∷ []) H b.busy b.given) × Adds j b.over (items_of b) (items_of (more b (made Next (Some j) ∷ []) H b.busy b.given)) here (next_items here j) × (next_answer here ≡ Moves u)
  delivers j u H none waits d =
      let free : lowest_free here ≡ None = idle_is ∙ none in
      let answer : next_answer here ≡ Moves u = λ k. first_of_these (free k) (waits k) (lowest_out None h.out) in
      let g = delivers_at j u H waits d in
      (g.0, subst (λ (r : Record (machine b.over)). Adds j b.over (items_of b) (items_of (more b (made Next (Some j) ∷ []) H b.busy b.given)) here r) (sym (ap (items_of_answer here j) answer)) g.1, answer)

  pub waits_for : (j : ℕ) → lowest_idle b.over b.history b.busy ≡ None → lowest_waiting b.over b.history ≡ None → next_answer here ≡ first_of_these None None (least None b.busy)
  waits_for j none quiet = λ k. first_of_these ((idle_is ∙ none) k) (quiet k) ((least_out None h.out ∙ ap (least None) h.busy) k)

  -- ---- the end of a ticket

  pub gives_back : (t : Ticket) → IsOut t here
      → IsShared (more b (made (Returning t.number) (Some t.maker) ∷ []) b.history (left_of t.update b.busy) b.given)
      × Adds t.maker b.over (items_of b) (items_of (more b (made (Returning t.number) (Some t.maker) ∷ []) b.history (left_of t.update b.busy) b.given)) here (back_items t)
  gives_back t is =
      let tidy : HasTickets (machine b.over) here (record_over b.over (items_of b)) = apart_law (machine b.over) laws (record_over b.over (items_of b)) here h.stands.is h.stands.left in
      let g = grows t.maker (made (Returning t.number) (Some t.maker) ∷ []) [] b.history (left_of t.update b.busy) b.given (without t.number t.maker h.out) (back_items t)
      (sym (append-nil b.history)) refl refl (calls.back t is) refl
      (returned 0 t h.out tidy.apart is ∙ ap (left_of t.update) h.busy)
      (let few = h.few in omega arith) refl (refl, tt) in
      (g.0, g.1)

  pub steps : (t : Ticket) (H : List PlainEntry) → IsOut t here → t.used ≡ false → IsStep b.over b.history t.update H
      → IsShared (more b (made Next (Some t.maker) ∷ made (Returning t.number) (Some t.maker) ∷ []) H (left_of t.update b.busy) b.given)
      × Adds t.maker b.over (items_of b) (items_of (more b (made Next (Some t.maker) ∷ made (Returning t.number) (Some t.maker) ∷ []) H (left_of t.update b.busy) b.given)) here (step_items here t)
  steps t H is free d =
      let x = some_of (λ x. b.history ++ plain_entry b.over.rules b.over.budget x.entry ∷ []) (effect_after b.over b.history (Steps t.update)) H d in
      let items : step_items here t ≡ made (Entered x.0.entry) (Some t.maker) ∷ back_items t = ap (λ q. entry_by t.maker q ++ back_items t) x.1 in
      let event = (effect_records (machine b.over) laws b.over.settings here.session here.updates (Steps t.update) x.0 x.1).0 in
      let tidy : HasTickets (machine b.over) here (record_over b.over (items_of b)) = apart_law (machine b.over) laws (record_over b.over (items_of b)) here h.stands.is h.stands.left in
      let entered : entered_on here x.0.entry (tickets_after t.maker x.0.entry h.out) ≡ now_at (more b (made Next (Some t.maker) ∷ made (Returning t.number) (Some t.maker) ∷ []) H (left_of t.update b.busy) b.given) (using t.update t.maker h.out) =
      entered_here (Steps t.update) x.0 (made Next (Some t.maker) ∷ made (Returning t.number) (Some t.maker) ∷ []) H (left_of t.update b.busy) (tickets_after t.maker x.0.entry h.out) (using t.update t.maker h.out) x.1 x.2 (step_tickets t.update t.maker x.0.entry h.out event) in
      let g = grows t.maker (made Next (Some t.maker) ∷ made (Returning t.number) (Some t.maker) ∷ []) (plain_entry b.over.rules b.over.budget x.0.entry ∷ []) H (left_of t.update b.busy) b.given
      (without t.number t.maker (using t.update t.maker h.out)) (step_items here t)
      (sym x.2) refl (ap (λ e. made (Entered e) (Some t.maker) ∷ back_items t) (entry_there b.over.rules b.over.budget x.0.entry) ∙ sym items) (calls.step t is free x.0 x.1)
      (ap (after_items here) items ∙ ap (λ m. after_items m (back_items t)) entered)
      (used_updates t.number t.maker t.update h.out ∙ (returned 0 t h.out tidy.apart is ∙ ap (left_of t.update) h.busy))
      (let few = h.few in omega arith) refl (refl, (refl, tt)) in
      (g.0, g.1)

  pub stands_for : (t : Ticket) → IsOut t here → t.used ≡ false → StandsFor (machine b.over) here t
  stands_for t is free = given_law (machine b.over) laws (record_over b.over (items_of b)) here t h.stands.is h.stands.left is free

  -- the entries among the items are the history
  pub told_history : entries_in (items_of b) ≡ b.history
  told_history = ((mark_law Ground PlainEntry Ground PlainEntry).marks b.over (marks_of b) b.history h.counted).history

  -- how many items there are
  pub items_count : length (items_of b) ≡ suc b.opened + length b.marks
  items_count = (let all = ((mark_law Ground PlainEntry Ground PlainEntry).marks b.over (marks_of b) b.history h.counted).count in omega (arith, all, h.single))
