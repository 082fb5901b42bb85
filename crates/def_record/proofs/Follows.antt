-- Records in two parts, and what stays along the items.
use Rattle.std.proofs.Common.{◌≡◌, ℕ, sym, refl, ap, subst, ◌∙◌, arith, [], ◌∷◌, ◌++◌, append_assoc, append-nil, Option, Some, None}
use Rattle.std.specs.Prelude.{option_map}
use Rattle.std.proofs.lemmas.Option.{none-some, same_Some}
use Rattle.def_machine.specs.Machine.{Machine}
use Rattle.def_machine.proofs.Basics.{length_more}
use Rattle.def_record.specs.declared.item.Item.TheVariants.{Opened, Entered, Gave, Returned}
use Rattle.def_record.specs.Items.{ItemOf, Record, entry_in, entries_in}
use Rattle.def_record.specs.Records.{Now, IsOpen, moved, after_items, now_of, MayFollow, AllFollow, IsRecord}

module _ {M : Machine} where
  pub follow_split : (n : Now M) (xs ys : Record M) → AllFollow n (xs ++ ys) → AllFollow n xs × AllFollow (after_items n xs) ys
  follow_split n [] ys h = (tt, h)
  follow_split n (i ∷ xs) ys h = let r = follow_split (moved n i.entry i.maker) xs ys h.1 in ((h.0, r.0), r.1)

  pub follow_join : (n : Now M) (xs ys : Record M) → AllFollow n xs → AllFollow (after_items n xs) ys → AllFollow n (xs ++ ys)
  follow_join n [] ys f g = g
  follow_join n (i ∷ xs) ys f g = (f.0, follow_join (moved n i.entry i.maker) xs ys f.1 g)

  pub after_join : (n : Now M) (xs ys : Record M) → after_items n (xs ++ ys) ≡ after_items (after_items n xs) ys
  after_join n [] ys = refl
  after_join n (i ∷ xs) ys = after_join (moved n i.entry i.maker) xs ys

  -- the second part of a record goes on from what the first leaves
  pub record_split : (xs ys : Record M) (n : Now M) → IsRecord (xs ++ ys) → now_of xs ≡ Some n → AllFollow n ys × (now_of (xs ++ ys) ≡ Some (after_items n ys))
  record_split [] ys n r h = absurd (none-some n h)
  record_split (i ∷ xs) ys n r h =
      let left : after_items r.0 xs ≡ n = same_Some _ _ (ap (option_map (λ m. after_items m xs)) (sym r.1) ∙ h) in
      let parts = follow_split r.0 xs ys r.3 in (
        subst (λ m. AllFollow m ys) left parts.1,
        ap (option_map (λ m. after_items m (xs ++ ys))) r.1 ∙ ap Some (after_join r.0 xs ys ∙ ap (λ m. after_items m ys) left),
      )

  -- the first part is a record
  pub record_first : (xs ys : Record M) (n : Now M) → IsRecord (xs ++ ys) → now_of xs ≡ Some n → IsRecord xs
  record_first [] ys n r h = absurd (none-some n h)
  record_first (i ∷ xs) ys n r h = (r.0, r.1, r.2, (follow_split r.0 xs ys r.3).0)

  -- an open desk stays open
  pub open_moved : (n : Now M) (x : ItemOf M) (maker : Option ℕ) → IsOpen n → IsOpen (moved n x maker)
  open_moved n (Opened w k) maker h = h
  open_moved n (Entered e) None h = omega (arith, h, length_more n.history e)
  open_moved n (Entered e) (Some j) h = omega (arith, h, length_more n.history e)
  open_moved n (Gave t u) None h = h
  open_moved n (Gave t u) (Some j) h = h
  open_moved n (Returned t) None h = h
  open_moved n (Returned t) (Some j) h = h

  pub open_after : (n : Now M) (is : Record M) → IsOpen n → AllFollow n is → IsOpen (after_items n is)
  open_after n [] o f = o
  open_after n (i ∷ is) o f = open_after (moved n i.entry i.maker) is (open_moved n i.entry i.maker o) f.1

  -- what is added on an open desk has a maker
  pub has_maker : (n : Now M) (x : ItemOf M) (maker : Option ℕ) → IsOpen n → MayFollow n x maker → (j : ℕ) × (maker ≡ Some j)
  has_maker n (Opened w k) maker o h = absurd h
  has_maker n (Entered e) None o h = absurd (omega (arith, o, h.1))
  has_maker n (Entered e) (Some j) o h = (j, refl)
  has_maker n (Gave t u) None o h = absurd h
  has_maker n (Gave t u) (Some j) o h = (j, refl)
  has_maker n (Returned t) None o h = absurd h
  has_maker n (Returned t) (Some j) o h = (j, refl)

  pub history_moved : (n : Now M) (x : ItemOf M) (maker : Option ℕ) → (moved n x maker).history ≡ n.history ++ entry_in x
  history_moved n (Opened w k) maker = sym (append-nil n.history)
  history_moved n (Entered e) None = refl
  history_moved n (Entered e) (Some j) = refl
  history_moved n (Gave t u) None = sym (append-nil n.history)
  history_moved n (Gave t u) (Some j) = sym (append-nil n.history)
  history_moved n (Returned t) None = sym (append-nil n.history)
  history_moved n (Returned t) (Some j) = sym (append-nil n.history)

  pub history_after : (n : Now M) (is : Record M) → (after_items n is).history ≡ n.history ++ entries_in is
  history_after n [] = sym (append-nil n.history)
  history_after n (i ∷ is) =
      history_after (moved n i.entry i.maker) is ∙ (ap (λ es. es ++ entries_in is) (history_moved n i.entry i.maker) ∙ append_assoc n.history (entry_in i.entry) (entries_in is))
