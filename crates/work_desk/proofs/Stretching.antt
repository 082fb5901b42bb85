-- Moves in one turn: each makes a longer record, in which no ticket more is out.
use Rattle.std.proofs.Common.{◌≡◌, ◌∙◌, ap, sym, refl, subst, arith, ℕ, zero, suc, ◌+◌, add-one, add-zero, List, [], ◌∷◌, ◌++◌, append-nil, append_assoc, Some, Bool, true, false, not, ◌||◌, ◌==◌, eq-eqb, Result}
use Rattle.std.specs.Prelude.{if◌then◌else◌, ◌&&◌}
use Rattle.std.proofs.lemmas.Bool.{both_ways, and_parts}
use Rattle.std.proofs.lemmas.Option.{same_Some}
use mathlib.Core.List.{IsPrefix}
use Rattle.def_machine.specs.Machine.{Machine}
use Rattle.def_machine.specs.Updates.{Update, committed}
use Rattle.def_machine.specs.Standings.{standing, is_ready}
use Rattle.def_machine.specs.Cascade.{has_number}
use Rattle.def_record.specs.declared.made.Made.{Made}
use Rattle.def_record.specs.Makers.{MadeBy, Extends, sum_made_by}
use Rattle.work_lock.proofs.Histories.{sum_made_by-append, sum_made_by-follows}
use Rattle.def_record.specs.declared.item.Item.{Item}
use Rattle.def_record.specs.declared.item.Mark.{Mark}
use Rattle.def_record.specs.declared.item.Mark.TheVariants.{Next, Giving, Returning}
use Rattle.def_record.specs.Items.{Record, made}
use Rattle.def_record.specs.Tickets.{Ticket}
use Rattle.def_record.specs.Records.{Now, next_ticket, after_items}
use Rattle.def_record.specs.Stays.{IsOut}
use Rattle.def_record.specs.Answers.{Gives, next_answer}
use Rattle.def_record.specs.Calls.{delivery_items, items_of_answer, next_items, step_items}
use Rattle.def_record.proofs.Lowest.{lowest_passes}
use Rattle.def_record.proofs.Marking.{meant_join}
use Rattle.def_history.specs.Cores.{Ground, machine, updates_after}
use Rattle.def_history.specs.PlainEntries.{PlainEntry}
use Rattle.work_desk.specs.declared.tickets.Stretch.{Stretch}
use Rattle.work_desk.specs.Shared.{Items, Shared, item_over, items_of, now_at, IsShared}
use Rattle.work_desk.specs.Cores.{lowest_idle, lowest_waiting, IsDelivery, IsStep}
use Rattle.work_desk.specs.Flights.{left_of}
use Rattle.work_desk.specs.Turns.{Adds, AfterOthers, gifts, returns}
use Rattle.work_desk.specs.Stretches.{whole_step, HasMadeStep, HasMadeDelivery, HasMoved, Stepping, Delivering, HasMadeMoves, HasStretched}
use Rattle.work_desk.proofs.Joining.{more}
use Rattle.work_desk.proofs.Growing.{here, gives, delivers_at, steps}
use Rattle.work_desk.proofs.Counting.{gifts_meant, returns_meant, sum_added, one_gift, one_step, no_ticket, next_counts, next_returns}

-- ---- two additions in a row

made_both : {E : Type 0} (j : ℕ) (xs ys : List (Made E)) → MadeBy j xs → MadeBy j ys → MadeBy j (xs ++ ys)
made_both j [] ys p q = q
made_both j (x ∷ xs) ys p q = (p.0, made_both j xs ys p.1 q)

adds_both : (j : ℕ) (g : Ground) (xs ys zs : Items) (n m : Now (machine g)) (a b : Record (machine g)) → Adds j g xs ys n a → Adds j g ys zs m b → Adds j g xs zs n (a ++ b)
adds_both j g xs ys zs n m a b p q = record {
  stands = p.stands;
  items = p.items ++ q.items;
  joined = q.joined ∙ (ap (λ l. l ++ q.items) p.joined ∙ append_assoc xs p.items q.items);
  meant = meant_join (item_over g) p.items q.items ∙ (λ i. p.meant i ++ q.meant i);
  made = made_both j p.items q.items p.made q.made;
}

-- ---- one step

-- an update that was put in flight last and is in flight no more
left_last : (u : ℕ) (us : List ℕ) → has_number us u ≡ false → left_of u (us ++ u ∷ []) ≡ us
left_last u [] h = ap (λ b. if not b then u ∷ [] else []) (eq-eqb u u refl)
left_last u (v ∷ us) h = by (v == u) h (left_last u us)
  where
    by : (b : Bool) → (b || has_number us u) ≡ false → (has_number us u ≡ false → left_of u (us ++ u ∷ []) ≡ us) → (if not b then v ∷ left_of u (us ++ u ∷ []) else left_of u (us ++ u ∷ [])) ≡ v ∷ us
    by true e k = absurd (both_ways true e refl)
    by false e k = ap (λ l. v ∷ l) (k e)

not_busy : (g : Ground) (H : List PlainEntry) (busy : List ℕ) (u : ℕ) → lowest_idle g H busy ≡ Some u → has_number busy u ≡ false
not_busy g H busy u e =
    let M : Machine = machine g in
    let p : ℕ → Update M → Bool = λ i v. is_ready (standing M g.settings (committed M (updates_after g H)) i v) && not (has_number busy i) in
    let r = lowest_passes M p 1 (updates_after g H) u e in
    denied (has_number busy u) (and_parts _ _ r.passes).1
  where
    denied : (b : Bool) → not b ≡ true → b ≡ false
    denied true e = absurd (both_ways false refl e)
    denied false e = refl

-- the marks of a step by the seat j
abbrev pub step_marks : ℕ → ℕ → ℕ → List (Made Mark)
step_marks j n u = made (Giving n u) (Some j) ∷ made Next (Some j) ∷ made (Returning n) (Some j) ∷ []

pub whole : (b : Shared) (h : IsShared b) (j u : ℕ) (H : List PlainEntry) → lowest_idle b.over b.history b.busy ≡ Some u → IsStep b.over b.history u H
    → IsShared (more b (step_marks j (suc b.given) u) H b.busy (suc b.given))
    × Adds j b.over (items_of b) (items_of (more b (step_marks j (suc b.given) u) H b.busy (suc b.given))) (here b h) (whole_step (here b h) j u) × (next_answer (here b h) ≡ Gives u)
whole b h j u H idle step =
    let t : Ticket = next_ticket (here b h) (suc b.given) u j in
    let m : Shared = more b (made (Giving (suc b.given) u) (Some j) ∷ []) b.history (b.busy ++ u ∷ []) (suc b.given) in
    let g = gives b h j u idle in
    let same : now_at m (h.out ++ t ∷ []) ≡ here m g.0 = same_Some _ _ (sym g.3.left ∙ g.0.stands.left) in
    let out : IsOut t (here m g.0) = subst (λ (n : Now (machine b.over)). IsOut t n) same g.4 in
    let s = steps m g.0 t H out refl step in
    let after : after_items (here b h) (next_items (here b h) j) ≡ here m g.0 = ap (after_items (here b h)) (ap (items_of_answer (here b h) j) g.2) ∙ same in
    let both = adds_both j b.over (items_of b) (items_of m) _ (here b h) (here m g.0) (next_items (here b h) j) (step_items (here m g.0) t) g.1 s.1 in
    let left : more m (made Next (Some j) ∷ made (Returning (suc b.given)) (Some j) ∷ []) H (left_of u (b.busy ++ u ∷ [])) (suc b.given) ≡ more b (step_marks j (suc b.given) u) H b.busy (suc b.given) =
    λ i. record {
      over = b.over;
      history = H;
      opened = b.opened;
      marks = append_assoc b.marks (made (Giving (suc b.given) u) (Some j) ∷ []) (made Next (Some j) ∷ made (Returning (suc b.given)) (Some j) ∷ []) i;
      busy = left_last u b.busy (not_busy b.over b.history b.busy u idle) i;
      given = suc b.given;
    } in
    let p = subst (λ (z : Shared). IsShared z × Adds j b.over (items_of b) (items_of z) (here b h) (next_items (here b h) j ++ step_items (here m g.0) t)) left (s.0, both) in
    (p.0, subst (λ (n : Now (machine b.over)). Adds j b.over (items_of b) (items_of (more b (step_marks j (suc b.given) u) H b.busy (suc b.given))) (here b h) (next_items (here b h) j ++ step_items n t)) (sym after) p.1, g.2)

-- the same by the fields of a board
pub step_made : (b b' old : Shared) (j u n : ℕ) (H : List PlainEntry) → IsShared b → b ≡ old → lowest_idle b.over b.history b.busy ≡ Some u → n ≡ b.given + 1 → IsStep b.over b.history u H
    → b' ≡ more b (step_marks j n u) H b.busy n → IsShared b' × HasMadeStep j old.over (items_of b') (items_of old)
step_made b b' old j u n H h view idle number step same =
    let P : Shared → Type 0 = λ z. IsShared z × HasMadeStep j b.over (items_of z) (items_of b) in
    let w = whole b h j u H idle step in
    let p : P b' = subst P (ap (λ (k : ℕ). more b (step_marks j k u) H b.busy k) (sym (number ∙ add-one b.given)) ∙ sym same) (w.0, record { now = here b h; update = u; lowest = w.2; adds = w.1 }) in
    (p.0, subst (λ (o : Shared). HasMadeStep j o.over (items_of b') (items_of o)) view p.1)

-- ---- one delivery

-- by the fields of a board
pub delivery_made : (b b' old : Shared) (j u : ℕ) (H : List PlainEntry) → IsShared b → b ≡ old → lowest_waiting b.over b.history ≡ Some u → IsDelivery b.over b.history u H
    → b' ≡ more b (made Next (Some j) ∷ []) H b.busy b.given → IsShared b' × HasMadeDelivery j old.over (items_of b') (items_of old)
delivery_made b b' old j u H h view waits made_it same =
    let P : Shared → Type 0 = λ z. IsShared z × HasMadeDelivery j b.over (items_of z) (items_of b) in
    let g = delivers_at b h j u H waits made_it in
    let p : P b' = subst P (sym same) (g.0, record { now = here b h; update = u; lowest = waits; adds = g.1 }) in
    (p.0, subst (λ (o : Shared). HasMadeDelivery j o.over (items_of b') (items_of o)) view p.1)

-- ---- moves in a row

move_extends : (j : ℕ) (g : Ground) (ys xs : Items) → HasMoved j g ys xs → Extends j xs ys
move_extends j g ys xs (Stepping s) = (s.adds.items, sym s.adds.joined, s.adds.made)
move_extends j g ys xs (Delivering s) = (s.adds.items, sym s.adds.joined, s.adds.made)

pub moves_extend : (k j : ℕ) (g : Ground) (ys xs : Items) → HasMadeMoves k j g ys xs → Extends j xs ys
moves_extend zero j g ys xs e = ([], append-nil xs ∙ sym e, tt)
moves_extend (suc k) j g ys xs s =
    let a = moves_extend k j g s.0 xs s.1 in
    let b = move_extends j g ys s.0 s.2 in
    (a.0 ++ b.0, sym (append_assoc xs a.0 b.0) ∙ (ap (λ l. l ++ b.0) a.1 ∙ b.1), made_both j a.0 b.0 a.2 b.2)

-- a step gives one ticket and returns one
step_counts : (j : ℕ) (g : Ground) (ys xs : Items) → HasMadeStep j g ys xs
    → (sum_made_by gifts j ys ≡ sum_made_by gifts j xs + 1) × (sum_made_by returns j ys ≡ sum_made_by returns j xs + 1)
step_counts j g ys xs s =
    let n = s.now in
    let t : Ticket = next_ticket n (suc n.given) s.update j in
    let first : Record (machine g) = next_items n j in
    let rest : Record (machine g) = step_items (after_items n first) t in
    let c = one_step (after_items n first) t in
    let given : sum_made_by gifts j (first ++ rest) ≡ 1 = sum_made_by-append gifts j first rest ∙ (λ i. next_counts n j (Gives s.update) 1 (one_gift (machine g) j (suc n.given) s.update).0 s.lowest i + c.0 i) in
    let back : sum_made_by returns j (first ++ rest) ≡ 1 = sum_made_by-append returns j first rest ∙ (λ i. next_returns n j (next_answer n) i + c.1 i) in (
      sum_added g gifts gifts (gifts_meant g) j xs ys n (first ++ rest) s.adds ∙ ap (λ m. sum_made_by gifts j xs + m) given,
      sum_added g returns returns (returns_meant g) j xs ys n (first ++ rest) s.adds ∙ ap (λ m. sum_made_by returns j xs + m) back,
    )

-- a delivery does neither
delivery_counts : (j : ℕ) (g : Ground) (ys xs : Items) → HasMadeDelivery j g ys xs
    → (sum_made_by gifts j ys ≡ sum_made_by gifts j xs) × (sum_made_by returns j ys ≡ sum_made_by returns j xs)
delivery_counts j g ys xs s =
    let n = s.now in
    let d : Record (machine g) = delivery_items n j s.update in
    let c = no_ticket n j s.update in (
      sum_added g gifts gifts (gifts_meant g) j xs ys n d s.adds ∙ (ap (λ m. sum_made_by gifts j xs + m) c.0 ∙ add-zero _),
      sum_added g returns returns (returns_meant g) j xs ys n d s.adds ∙ (ap (λ m. sum_made_by returns j xs + m) c.1 ∙ add-zero _),
    )

-- a move returns as many as it gives
move_counts : (j : ℕ) (g : Ground) (ys xs : Items) → HasMoved j g ys xs → sum_made_by gifts j ys + sum_made_by returns j xs ≡ sum_made_by gifts j xs + sum_made_by returns j ys
move_counts j g ys xs (Stepping s) = let c = step_counts j g ys xs s in omega (arith, c.0, c.1)
move_counts j g ys xs (Delivering s) = let c = delivery_counts j g ys xs s in omega (arith, c.0, c.1)

moves_count : (k j : ℕ) (g : Ground) (ys xs : Items) → HasMadeMoves k j g ys xs → sum_made_by gifts j ys + sum_made_by returns j xs ≡ sum_made_by gifts j xs + sum_made_by returns j ys
moves_count zero j g ys xs e = λ i. sum_made_by gifts j (e i) + sum_made_by returns j (sym e i)
moves_count (suc k) j g ys xs s =
    let a = moves_count k j g s.0 xs s.1 in
    let b = move_counts j g ys s.0 s.2 in
    omega (arith, a, b)

-- a stretch returns each ticket that it gives
pub stretch_turn : {E : Type 0} (j now : ℕ) (g : Ground) (r : Result Stretch E) (before after : Items) → now ≡ j → AfterOthers j before (HasStretched j g r after)
    → sum_made_by gifts now after + sum_made_by returns j before ≡ sum_made_by gifts j before + sum_made_by returns now after
stretch_turn j now g r before after same a =
    let others : ((w : Item Ground PlainEntry → ℕ) → sum_made_by w j (before ++ a.others) ≡ sum_made_by w j before) = λ w. sum_made_by-follows w j before (before ++ a.others) (a.others, refl, a.unmade) in
    let c = moves_count a.then.count j g after (before ++ a.others) a.then.moves in
    let given = others gifts in
    let back = others returns in
    let g' = ap (λ i. sum_made_by gifts i after) same in
    let b' = ap (λ i. sum_made_by returns i after) same in
    omega (arith, c, given, back, g', b')

-- what was seen is a prefix of what is seen then
pub stretch_seen : {E : Type 0} (j : ℕ) (g : Ground) (r : Result Stretch E) (before after : Items) → AfterOthers j before (HasStretched j g r after) → IsPrefix before after
stretch_seen j g r before after a =
    let e = moves_extend a.then.count j g after (before ++ a.others) a.then.moves in
    (a.others ++ e.0, sym (append_assoc before a.others e.0) ∙ e.1)
