-- What the end of a lock says of a desk.
use Rattle.std.proofs.Common.{◌≡◌, ◌∙◌, ap, sym, refl, subst, ℕ, zero, suc, ◌<◌, List, [], ◌∷◌, ◌++◌, append_assoc, map, length, None}
use Rattle.std.proofs.lemmas.List.{length-map}
use Rattle.std.proofs.lemmas.Option.{same_Some}
use mathlib.Core.Option.{some, some-injective, some-ne-none}
use lib.ListN.{get_elem?}
use Rattle.def_machine.specs.Machine.{Machine}
use Rattle.def_record.specs.Makers.{FollowsAmong}
use Rattle.work_lock.specs.Seats.{seen_of, AllWithin}
use Rattle.def_record.specs.declared.item.Item.{Item}
use Rattle.def_machine.specs.Effects.{Entry}
use Rattle.def_record.specs.declared.item.Item.TheVariants.{Opened, Entered, Gave, Returned}
use Rattle.def_record.specs.Items.{Record, entry_in, entries_in, made}
use Rattle.def_record.specs.Marks.{meant, entered}
use Rattle.def_record.specs.Records.{Now, IsRecord}
use Rattle.def_record.specs.Openings.{opening}
use Rattle.def_record.specs.Rests.{SeesRest}
use Rattle.def_record.specs.Results.{EndsWithResult}
use Rattle.def_record.proofs.Marking.{meant_join}
use Rattle.work_desk.proofs.Closed.{follows_meant}
use Rattle.def_record.proofs.Told.{result_law}
use Rattle.def_history.specs.Cores.{Ground, machine, session_over, entries_over, updates_after, IsLegalOver}
use Rattle.def_history.specs.PlainEntries.{PlainEntry, entry_kept}
use Rattle.work_desk.specs.Shared.{Items, Shared, StandsAt, item_over, record_over, items_of, now_at, opening_items, IsShared}
use Rattle.work_desk.specs.Seats.{DeskSeat, first_over, IsResting}
use Rattle.work_desk.specs.Closing.{AllResting, HasClosed, IsWhole, Ends}
use Rattle.work_desk.proofs.Passing.{first_more, saw_over}
use Rattle.work_desk.proofs.Growing.{told_history}

-- the board that comes back from the lock, whose first seat has seen the opening
pub closes : (g : Ground) (H : List PlainEntry) (b : Shared) (seats : List DeskSeat) (s : DeskSeat) (later : Items) → IsShared b → AllWithin (length seats) (items_of b) seats → get_elem? seats 0 ≡ some s → opening_items g H ++ later ≡ seen_of s
    → (b.over ≡ g) × HasClosed g H b.history seats
closes g H b seats s later h within first saw =
    let f = within 0 s first in
    let over : b.over ≡ g = same_Some b.over g (ap first_over (sym f.1) ∙ first_more (seen_of s) f.0 g (saw_over g H later (seen_of s) saw)) in
    let items : opening_items g H ++ (later ++ f.0) ≡ items_of b = sym (append_assoc (opening_items g H) later f.0) ∙ (ap (λ l. l ++ f.0) saw ∙ f.1) in
    let there : (n : Now (machine g)) × StandsAt g (items_of b) n = subst (λ (o : Ground). (n : Now (machine o)) × StandsAt o (items_of b) n) over (now_at b h.out, h.stands) in (
      over,
      record {
        later = later ++ f.0;
        now = there.0;
        stands = subst (λ (xs : Items). StandsAt g xs there.0) (sym items) there.1;
        entries = ap entries_in items ∙ told_history b h;
        within = subst (λ (xs : Items). AllWithin (length seats) xs seats) (sym items) within;
      },
    )

-- the opening over the machine
pub opening_over : (g : Ground) (H : List PlainEntry) → record_over g (opening_items g H) ≡ opening g.settings (session_over g) (entries_over g H)
opening_over g H = λ i. made (Opened (g.settings, session_over g) (sym (length-map H (entry_kept g.rules g.budget)) i)) None ∷ entries i
  where
    entries_meant : (es : List PlainEntry) → meant (item_over g) (entered None es) ≡ entered None (entries_over g es)
    entries_meant [] = refl
    entries_meant (e ∷ es) = ap (λ r. made (Entered (entry_kept g.rules g.budget e)) None ∷ r) (entries_meant es)

    entries : meant (item_over g) (entered None H) ≡ entered None (entries_over g H)
    entries = entries_meant H

mapped_at : {A B : Type 0} (f : A → B) (xs : List A) (k : ℕ) (y : B) → get_elem? (map f xs) k ≡ some y → (x : A) × (get_elem? xs k ≡ some x) × (f x ≡ y)
mapped_at f [] k y e = absurd (some-ne-none y (sym e))
mapped_at f (x ∷ xs) zero y e = (x, refl, some-injective (f x) y e)
mapped_at f (x ∷ xs) (suc k) y e = mapped_at f xs k y e

entries_meant_all : (g : Ground) (xs : Items) → entries_in (record_over g xs) ≡ entries_over g (entries_in xs)
entries_meant_all g [] = refl
entries_meant_all g (x ∷ xs) = by x.entry (entries_meant_all g xs)
  where
    by : (i : Item Ground PlainEntry) → entries_in (record_over g xs) ≡ entries_over g (entries_in xs) → entry_in (item_over g i) ++ entries_in (record_over g xs) ≡ entries_over g (entry_in i ++ entries_in xs)
    by (Opened o n) k = k
    by (Entered e) k = ap (λ es. entry_kept g.rules g.budget e ∷ es) k
    by (Gave t u) k = k
    by (Returned t) k = k

-- a seat at rest sees rest over what its first item says
rests_over : (g : Ground) (H : List PlainEntry) (s : DeskSeat) (later : Items) → opening_items g H ++ later ≡ seen_of s → IsResting s → SeesRest (machine g) (record_over g (seen_of s))
rests_over g H s later saw r = subst (λ (o : Ground). SeesRest (machine o) (record_over o (seen_of s))) (same_Some r.0 g (sym r.1 ∙ saw_over g H later (seen_of s) saw)) r.2

-- seats at rest, each of which has seen the opening
pub ends : (g : Ground) (H K : List PlainEntry) (seats : List DeskSeat) → 0 < length seats → HasClosed g H K seats → IsLegalOver g H → IsWhole g H
    → ((k : ℕ) (s : DeskSeat) → get_elem? seats k ≡ some s → (later : Items) × (opening_items g H ++ later ≡ seen_of s)) → AllResting seats → Ends g H K
ends g H K seats some_seat closed legal whole saw rests =
    let M : Machine = machine g in
    let f : DeskSeat → Record M = λ s. record_over g (seen_of s) in
    let count : length (map f seats) ≡ length seats = length-map seats f in
    let whole_record : record_over g (opening_items g H ++ closed.later) ≡ opening g.settings (session_over g) (entries_over g H) ++ record_over g closed.later =
    meant_join (item_over g) (opening_items g H) closed.later ∙ ap (λ r. r ++ record_over g closed.later) (opening_over g H) in
    let told : entries_in (opening g.settings (session_over g) (entries_over g H) ++ record_over g closed.later) ≡ entries_over g K =
    ap entries_in (sym whole_record) ∙ (entries_meant_all g (opening_items g H ++ closed.later) ∙ ap (entries_over g) closed.entries) in
    let e = result_law g.rules g.budget g.settings (session_over g) (entries_over g H) (updates_after g H) (record_over g closed.later) (map f seats) whole.fit legal whole.recorded whole.all
    (subst IsRecord whole_record closed.stands.is) (subst (λ n. 0 < n) (sym count) some_seat)
    (λ k xs at. let s = mapped_at f seats k xs at in
    subst (λ (y : ℕ × Record M × Record M). FollowsAmong y.0 k y.1 y.2) (λ i. (sym count i, s.2 i, whole_record i)) (follows_meant (item_over g) (length seats) k (seen_of s.0) (opening_items g H ++ closed.later) (closed.within k s.0 s.1)))
    (λ k xs at. let s = mapped_at f seats k xs at in subst (λ (r : Record M). SeesRest M r) s.2 (rests_over g H s.0 (saw k s.0 s.1).0 (saw k s.0 s.1).1 (rests k s.0 s.1))) in
    subst (λ (es : List (Entry M)). EndsWithResult g.rules g.budget g.settings (session_over g) (entries_over g H) es) told e
