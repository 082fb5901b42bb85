-- The marks that are kept inside the lock, and the record that they stand for.
use Rattle.std.specs.Prelude.{◌≡◌, ℕ, suc, ◌+◌, List, [], ◌∷◌, ◌++◌, map, take, drop, length, Option}
use Rattle.def_record.specs.declared.made.Made.{Made}
use Rattle.def_record.specs.declared.item.Item.{Item}
use Rattle.def_record.specs.declared.item.Item.TheVariants.{Opened, Entered, Gave, Returned}
use Rattle.def_record.specs.declared.item.Mark.{Mark}
use Rattle.def_record.specs.declared.item.Mark.TheVariants.{Opening, Next, Giving, Returning}
use Rattle.def_record.specs.Items.{made, entries_in, item_meant}

-- The number of entries of the history that a mark stands for.
abbrev pub entries_for : Mark → ℕ
entries_for (Opening n) = n
entries_for Next = 1
entries_for (Giving t u) = 0
entries_for (Returning t) = 0

abbrev pub entries_for_all : List (Made Mark) → ℕ
entries_for_all [] = 0
entries_for_all (m ∷ ms) = entries_for m.entry + entries_for_all ms

-- The items of entries of one maker.
abbrev pub entered : {O E : Type 0} → Option ℕ → List E → List (Made (Item O E))
entered maker es = map (λ e. made (Entered e) maker) es

-- The items that a mark stands for, if `es` are the entries of the history from it on.
abbrev pub items_for : {O E : Type 0} → O → Mark → Option ℕ → List E → List (Made (Item O E))
items_for o (Opening n) maker es = made (Opened o n) maker ∷ entered maker (take n es)
items_for o Next maker es = entered maker (take 1 es)
items_for o (Giving t u) maker es = made (Gave t u) maker ∷ []
items_for o (Returning t) maker es = made (Returned t) maker ∷ []

-- The record of a core with the ground o and the history es: the marks, with the entries of the history put in.
abbrev pub record_of : {O E : Type 0} → O → List (Made Mark) → List E → List (Made (Item O E))
record_of o [] es = []
record_of o (m ∷ ms) es = items_for o m.entry m.maker es ++ record_of o ms (drop (entries_for m.entry) es)

-- The number of items that a mark stands for.
abbrev pub count_for : Mark → ℕ
count_for (Opening n) = suc n
count_for Next = 1
count_for (Giving t u) = 1
count_for (Returning t) = 1

abbrev pub count_for_all : List (Made Mark) → ℕ
count_for_all [] = 0
count_for_all (m ∷ ms) = count_for m.entry + count_for_all ms

-- The entries of a history translated, each with its maker.
abbrev pub meant : {E F : Type 0} → (E → F) → List (Made E) → List (Made F)
meant item xs = map (λ x. made (item x.entry) x.maker) xs

-- The properties of marks that stand for exactly the entries of a history.
pub record AreMarks {O E : Type 0} (o : O) (ms : List (Made Mark)) (H : List E) : Type 0 where
  -- the entries of the record are the history
  pub history : entries_in (record_of o ms H) ≡ H
  -- the marks determine the length of the record
  pub count : length (record_of o ms H) ≡ count_for_all ms
  -- further marks, with further entries, are further items
  pub more : (ns : List (Made Mark)) (J : List E) → record_of o (ms ++ ns) (H ++ J) ≡ record_of o ms H ++ record_of o ns J

-- This holds for all marks. If the entries are translated, the record is the record of the same marks with the translated
-- entries.
pub record MarkLaw (O E P F : Type 0) : Type 0 where
  pub marks : (o : O) (ms : List (Made Mark)) (H : List E) → entries_for_all ms ≡ length H → AreMarks o ms H
  pub meaning : (over : O → P) (entry : E → F) (o : O) (ms : List (Made Mark)) (H : List E)
      → meant (item_meant over entry) (record_of o ms H) ≡ record_of (over o) ms (map entry H)
