-- Items that may follow make the record of a desk longer, and marks stand for them.
use Rattle.std.proofs.Common.{◌≡◌, ◌∙◌, ap, sym, subst, arith, ℕ, ◌+◌, List, [], ◌∷◌, ◌++◌, length, Some}
use Rattle.std.specs.Prelude.{option_map}
use Rattle.std.proofs.lemmas.Option.{same_Some}
use Rattle.def_machine.specs.Machine.{Machine}
use Rattle.def_record.specs.declared.made.Made.{Made}
use Rattle.def_record.specs.declared.item.Mark.{Mark}
use Rattle.def_record.specs.Items.{Record}
use Rattle.def_record.specs.Marks.{entries_for_all, count_for_all, record_of}
use Rattle.def_record.specs.Records.{Now, after_items, now_of, AllFollow, IsRecord}
use Rattle.def_record.proofs.Follows.{follow_join, after_join, open_after}
use Rattle.def_record.proofs.Marking.{meant_join, mark_law}
use Rattle.def_history.specs.Cores.{Ground, machine}
use Rattle.def_history.specs.PlainEntries.{PlainEntry}
use Rattle.work_desk.specs.Shared.{Items, item_over, record_over, StandsAt, Shared, marks_of, items_of}

module _ {M : Machine} where
  pub record_join : (xs ys : Record M) (n : Now M) → IsRecord xs → now_of xs ≡ Some n → AllFollow n ys → IsRecord (xs ++ ys) × (now_of (xs ++ ys) ≡ Some (after_items n ys))
  record_join [] ys n r h f = absurd r
  record_join (i ∷ xs) ys n r h f =
      let left : after_items r.0 xs ≡ n = same_Some _ _ (ap (option_map (λ m. after_items m xs)) (sym r.1) ∙ h) in (
        (r.0, r.1, r.2, follow_join r.0 xs ys r.3 (subst (λ m. AllFollow m ys) (sym left) f)),
        ap (option_map (λ m. after_items m (xs ++ ys))) r.1 ∙ ap Some (after_join r.0 xs ys ∙ ap (λ m. after_items m ys) left),
      )

pub stands_more : (g : Ground) (xs mine : Items) (n : Now (machine g)) (added : Record (machine g)) → StandsAt g xs n → record_over g mine ≡ added → AllFollow n added → StandsAt g (xs ++ mine) (after_items n added)
stands_more g xs mine n added s e f =
    let j = record_join (record_over g xs) added n s.is s.left f in
    let same : record_over g (xs ++ mine) ≡ record_over g xs ++ added = meant_join (item_over g) xs mine ∙ ap (λ r. record_over g xs ++ r) e in
    record { is = subst IsRecord (sym same) j.0; left = ap now_of same ∙ j.1; open_now = open_after n added s.open_now f }

pub count_for_more : (ms ns : List (Made Mark)) → count_for_all (ms ++ ns) ≡ count_for_all ms + count_for_all ns
count_for_more [] ns = omega arith
count_for_more (m ∷ ms) ns = let more = count_for_more ms ns in omega (arith, more)

pub entries_for_more : (ms ns : List (Made Mark)) → entries_for_all (ms ++ ns) ≡ entries_for_all ms + entries_for_all ns
entries_for_more [] ns = omega arith
entries_for_more (m ∷ ms) ns = let more = entries_for_more ms ns in omega (arith, more)

-- What is shared with further marks, this history, these updates in flight, and so many tickets given.
abbrev pub more : Shared → List (Made Mark) → List PlainEntry → List ℕ → ℕ → Shared
more b ns H busy given = record { over = b.over; history = H; opened = b.opened; marks = b.marks ++ ns; busy = busy; given = given }

pub items_more : (b : Shared) (ns : List (Made Mark)) (J H : List PlainEntry) (busy : List ℕ) (given : ℕ) → entries_for_all (marks_of b) ≡ length b.history → H ≡ b.history ++ J → items_of (more b ns H busy given) ≡ items_of b ++ record_of b.over ns J
items_more b ns J H busy given e same =
    ap (record_of b.over (marks_of b ++ ns)) same ∙ ((mark_law Ground PlainEntry Ground PlainEntry).marks b.over (marks_of b) b.history e).more ns J
