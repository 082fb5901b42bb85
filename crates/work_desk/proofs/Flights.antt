-- The tickets out, and the updates that they are for.
use Rattle.std.proofs.Common.{◌≡◌, ◌∙◌, ap, sym, refl, arith, ℕ, suc, ◌<◌, ◌≤◌, List, [], ◌∷◌, Some, None, Bool, true, false, not, ◌&&◌, ◌||◌, ◌==◌, eq-eqb, eqb-true, ne_eqb, is_some}
use Rattle.std.specs.Prelude.{if◌then◌else◌}
use Rattle.std.proofs.lemmas.Bool.{both_ways, and_parts, and_from}
use Rattle.std.proofs.lemmas.Option.{none-some, same_Some}
use Rattle.def_machine.specs.Machine.{Machine}
use Rattle.def_machine.specs.Updates.{Update, committed}
use Rattle.def_machine.specs.Standings.{standing, is_ready}
use Rattle.def_machine.specs.Cascade.{has_number}
use Rattle.def_record.proofs.Lowest.{lowest_passes}
use Rattle.def_history.specs.Cores.{Ground, machine, updates_after}
use Rattle.def_history.specs.PlainEntries.{PlainEntry}
use Rattle.work_desk.specs.Cores.{lowest_idle, IsReady}
use Rattle.def_record.specs.Tickets.{Ticket, ticket_of, in_flight, without, with_step, using}
use Rattle.def_record.specs.Apart.{AreApart}
use Rattle.work_desk.specs.Shared.{updates_of}
use Rattle.work_desk.specs.Flights.{left_of}

-- an update is in flight where it is among those of the tickets
pub flight_is : (u : ℕ) (ts : List Ticket) → in_flight u ts ≡ has_number (updates_of ts) u
flight_is u [] = refl
flight_is u (t ∷ ts) = by (t.update == u) (flight_is u ts)
  where
    by : (b : Bool) → in_flight u ts ≡ has_number (updates_of ts) u → is_some (if b then Some t else ticket_of u ts) ≡ (b || has_number (updates_of ts) u)
    by true h = refl
    by false h = h

none_left : (u : ℕ) (ts : List Ticket) → ticket_of u ts ≡ None → left_of u (updates_of ts) ≡ updates_of ts
none_left u [] h = refl
none_left u (x ∷ ts) h = by (x.update == u) h (none_left u ts)
  where
    by : (b : Bool) → (if b then Some x else ticket_of u ts) ≡ None → (ticket_of u ts ≡ None → left_of u (updates_of ts) ≡ updates_of ts)
        → (if not b then x.update ∷ left_of u (updates_of ts) else left_of u (updates_of ts)) ≡ x.update ∷ updates_of ts
    by true g k = absurd (none-some x (sym g))
    by false g k = ap (λ l. x.update ∷ l) (k g)

-- numbers that rise leave a lower one out
none_lower : (m number j : ℕ) (ts : List Ticket) → number ≤ m → AreApart m ts → without number j ts ≡ ts
none_lower m number j [] l a = refl
none_lower m number j (x ∷ ts) l a =
    let above = a.0 in
    let other : (x.number == number) ≡ false = ne_eqb x.number number (λ e. absurd (omega (arith, e, above, l))) in
    let rest = none_lower x.number number j ts (omega (arith, above, l)) a.2 in
    by (x.number == number) other rest
  where
    by : (b : Bool) → b ≡ false → without number j ts ≡ ts → (if b && (x.maker == j) then without number j ts else x ∷ without number j ts) ≡ x ∷ ts
    by true e k = absurd (both_ways true e refl)
    by false e k = ap (λ l. x ∷ l) k

-- a ticket that is out has a number above m
out_above : (m u : ℕ) (t : Ticket) (ts : List Ticket) → AreApart m ts → ticket_of u ts ≡ Some t → m < t.number
out_above m u t [] a h = absurd (none-some t h)
out_above m u t (x ∷ ts) a h = by (x.update == u) h (λ g. out_above x.number u t ts a.2 g)
  where
    by : (b : Bool) → (if b then Some x else ticket_of u ts) ≡ Some t → (ticket_of u ts ≡ Some t → x.number < t.number) → m < t.number
    by true g k = let same = ap (λ (y : Ticket). y.number) (same_Some x t g) in omega (arith, same, a.0)
    by false g k = let more = k g in omega (arith, more, a.0)

-- where a ticket is returned, its update is in flight no more, and all others are
pub returned : (m : ℕ) (t : Ticket) (ts : List Ticket) → AreApart m ts → ticket_of t.update ts ≡ Some t → updates_of (without t.number t.maker ts) ≡ left_of t.update (updates_of ts)
returned m t [] a h = absurd (none-some t h)
returned m t (x ∷ ts) a h = by (x.update == t.update) refl ((x.number == t.number) && (x.maker == t.maker)) refl h (returned x.number t ts a.2)
  where
    by : (b : Bool) → (x.update == t.update) ≡ b → (d : Bool) → ((x.number == t.number) && (x.maker == t.maker)) ≡ d → (if b then Some x else ticket_of t.update ts) ≡ Some t
        → (ticket_of t.update ts ≡ Some t → updates_of (without t.number t.maker ts) ≡ left_of t.update (updates_of ts))
        → updates_of (if d then without t.number t.maker ts else x ∷ without t.number t.maker ts) ≡ (if not b then x.update ∷ left_of t.update (updates_of ts) else left_of t.update (updates_of ts))
    by true e true f g k =
        let number : t.number ≤ x.number = (let same = ap (λ (y : Ticket). y.number) (same_Some x t g) in omega (arith, same)) in
        let free : ticket_of t.update ts ≡ None = ap (λ v. ticket_of v ts) (sym (eqb-true x.update t.update e)) ∙ a.1 in
        ap updates_of (none_lower x.number t.number t.maker ts number a.2) ∙ sym (none_left t.update ts free)
    by true e false f g k =
        let same : x ≡ t = same_Some x t g in
        absurd (both_ways _ f (and_from _ _ (eq-eqb x.number t.number (ap (λ (y : Ticket). y.number) same)) (eq-eqb x.maker t.maker (ap (λ (y : Ticket). y.maker) same))))
    by false e true f g k = (let same = eqb-true x.number t.number (and_parts _ _ f).0 in let above = out_above x.number t.update t ts a.2 g in absurd (omega (arith, same, above)))
    by false e false f g k = ap (λ l. x.update ∷ l) (k g)

-- a step that a ticket is used for changes no number and no update
pub used_updates : (n j u : ℕ) (ts : List Ticket) → updates_of (without n j (using u j ts)) ≡ updates_of (without n j ts)
used_updates n j u [] = refl
used_updates n j u (x ∷ ts) = by ((x.update == u) && (x.maker == j)) (used_updates n j u ts)
  where
    go : (d : Bool) (y : Ticket) → y.update ≡ x.update → updates_of (without n j (using u j ts)) ≡ updates_of (without n j ts)
        → updates_of (if d then without n j (using u j ts) else y ∷ without n j (using u j ts)) ≡ updates_of (if d then without n j ts else x ∷ without n j ts)
    go true y e k = k
    go false y e k = λ i. e i ∷ k i

    by : (b : Bool) → updates_of (without n j (using u j ts)) ≡ updates_of (without n j ts) → updates_of (without n j ((if b then with_step x else x) ∷ using u j ts)) ≡ updates_of (without n j (x ∷ ts))
    by true k = go ((x.number == n) && (x.maker == j)) (with_step x) refl k
    by false k = go ((x.number == n) && (x.maker == j)) x refl k

-- the lowest ready update that is not in flight is ready
pub ready_is : (g : Ground) (H : List PlainEntry) (busy : List ℕ) (u : ℕ) → lowest_idle g H busy ≡ Some u → IsReady g H u
ready_is g H busy u e =
    let M : Machine = machine g in
    let p : ℕ → Update M → Bool = λ i v. is_ready (standing M g.settings (committed M (updates_after g H)) i v) && not (has_number busy i) in
    let r = lowest_passes M p 1 (updates_after g H) u e in
    let number : u ≡ suc r.place = omega (arith, r.number) in
    record {
      place = r.place;
      number = number;
      update = r.update;
      ready = record { there = r.there; ready = ap (λ i. is_ready (standing M g.settings (committed M (updates_after g H)) i r.update)) (sym number) ∙ (and_parts _ _ r.passes).0 };
    }
