-- From a seat to the board of its turn, and back.
use Rattle.std.proofs.Common.{◌≡◌, ◌∙◌, ap, sym, refl, subst, arith, ℕ, zero, suc, ◌+◌, ◌≤◌, List, [], ◌∷◌, ◌++◌, append_assoc, take, length, length-append, Some}
use Rattle.std.proofs.lemmas.Option.{none-some, same_Some}
use Rattle.def_record.specs.declared.made.Made.{Made}
use Rattle.def_record.specs.Makers.{Unmade, Follows}
use Rattle.def_record.specs.Items.{entries_in}
use Rattle.def_record.specs.Marks.{meant}
use Rattle.def_record.specs.Records.{Now, after_items, now_of, IsOpen, IsRecord}
use Rattle.def_record.proofs.Staying.{stay_law}
use Rattle.def_record.proofs.Marking.{meant_join, entries_join}
use Rattle.def_history.specs.Cores.{Ground, machine}
use Rattle.def_history.specs.PlainEntries.{PlainEntry}
use Rattle.work_desk.specs.declared.tickets.Ticket.{Ticket}
use Rattle.work_desk.specs.Shared.{Items, Shared, StandsAt, item_over, record_over, items_of, opening_items}
use Rattle.work_desk.specs.Seats.{first_over}
use Rattle.work_desk.specs.Tickets.{ticket_for, IsOutFor}

-- a prefix says what the core is over
pub first_more : (xs ys : Items) (g : Ground) → first_over xs ≡ Some g → first_over (xs ++ ys) ≡ Some g
first_more [] ys g e = absurd (none-some g e)
first_more (x ∷ xs) ys g e = e

pub saw_over : (g : Ground) (H : List PlainEntry) (later seen : Items) → opening_items g H ++ later ≡ seen → first_over seen ≡ Some g
saw_over g H later seen e = ap first_over (sym e)

-- the board of a turn is over what the seat has seen that the core is over
pub same_over : (g : Ground) (H : List PlainEntry) (later seen : Items) (j : ℕ) (b : Shared) → opening_items g H ++ later ≡ seen → Follows j seen (items_of b) → b.over ≡ g
same_over g H later seen j b saw f = same_Some b.over g (ap first_over (sym f.1) ∙ first_more seen f.0 g (saw_over g H later seen saw))

-- what was seen at the opening is seen still
pub saw_more : (g : Ground) (H : List PlainEntry) (later seen others items after : Items) → opening_items g H ++ later ≡ seen → after ≡ (seen ++ others) ++ items → (more : Items) × (opening_items g H ++ more ≡ after)
saw_more g H later seen others items after saw e = (
  (later ++ others) ++ items,
  sym (append_assoc (opening_items g H) (later ++ others) items) ∙ (ap (λ l. l ++ items) (sym (append_assoc (opening_items g H) later others) ∙ ap (λ l. l ++ others) saw) ∙ sym e),
)

unmade_meant : {E F : Type 0} (item : E → F) (j : ℕ) (xs : List (Made E)) → Unmade j xs → Unmade j (meant item xs)
unmade_meant item j [] h = tt
unmade_meant item j (x ∷ xs) h = (h.0, unmade_meant item j xs h.1)

take_within : {A : Type 0} (n : ℕ) (xs ys : List A) → n ≤ length xs → take n (xs ++ ys) ≡ take n xs
take_within zero xs ys h = refl
take_within (suc n) [] ys h = absurd (omega arith)
take_within (suc n) (x ∷ xs) ys h = ap (λ l. x ∷ l) (take_within n xs ys (omega arith))

-- a ticket that is out for a seat stays out while others go on
pub out_stays : {S : Type 0} (holds : S → Ground → List PlainEntry → ℕ → Type 0) (g : Ground) (xs ys : Items) (j : ℕ) (t : Ticket S) (m : Now (machine g)) → IsOutFor holds g xs j t → Follows j xs ys → StandsAt g ys m → IsOutFor holds g ys j t
out_stays holds g xs ys j t m o f s =
    let rest = record_over g f.0 in
    let same : record_over g ys ≡ record_over g xs ++ rest = ap (record_over g) (sym f.1) ∙ meant_join (item_over g) xs f.0 in
    let stay = stay_law (machine g) (record_over g xs) rest o.now (ticket_for j t) (subst IsRecord same s.is) o.stands.left o.stands.open_now o.out (unmade_meant (item_over g) j f.0 f.2) in
    let left : now_of (record_over g ys) ≡ Some (after_items o.now rest) = ap now_of same ∙ stay.0 in
    let entries : entries_in ys ≡ entries_in xs ++ entries_in f.0 = ap entries_in (sym f.1) ∙ entries_join xs f.0 in
    let long : length (entries_in ys) ≡ length (entries_in xs) + length (entries_in f.0) = ap length entries ∙ length-append (entries_in xs) (entries_in f.0) in
    record {
      now = after_items o.now rest;
      stands = record { is = s.is; left = left; open_now = subst (λ (n : Now (machine g)). IsOpen n) (same_Some _ _ (sym s.left ∙ left)) s.open_now };
      out = stay.1.out;
      stamped = (let old = o.stamped in omega (arith, old, long));
      snapshot = subst (λ (H : List PlainEntry). holds t.snapshot g H t.update) (sym (ap (take t.stamp) entries ∙ take_within t.stamp (entries_in xs) (entries_in f.0) o.stamped)) o.snapshot;
    }
