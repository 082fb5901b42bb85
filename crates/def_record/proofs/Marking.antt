-- Marks stand for items.
use Rattle.std.proofs.Common.{◌≡◌, ℕ, zero, suc, ◌+◌, ◌≤◌, sym, refl, ap, ap₂, ◌∙◌, arith, List, [], ◌∷◌, ◌++◌, map, append_assoc, take, drop, length, length-append, length-drop, take-append-drop, Option}
use Rattle.def_record.specs.declared.made.Made.{Made}
use Rattle.def_record.specs.declared.item.Item.{Item}
use Rattle.def_record.specs.declared.item.Item.TheVariants.{Opened, Entered}
use Rattle.def_record.specs.Items.{made, entry_in, entries_in, item_meant}
use Rattle.def_record.specs.declared.item.Mark.{Mark}
use Rattle.def_record.specs.declared.item.Mark.TheVariants.{Opening, Next, Giving, Returning}
use Rattle.def_record.specs.Marks.{entries_for, entries_for_all, count_for, count_for_all, entered, items_for, record_of, meant, MarkLaw}

take_front : {A : Type 0} (n : ℕ) (xs ys : List A) → n ≤ length xs → take n (xs ++ ys) ≡ take n xs
take_front zero xs ys h = refl
take_front (suc n) [] ys h = absurd (omega arith)
take_front (suc n) (x ∷ xs) ys h = ap (λ l. x ∷ l) (take_front n xs ys (omega arith))

drop_front : {A : Type 0} (n : ℕ) (xs ys : List A) → n ≤ length xs → drop n (xs ++ ys) ≡ drop n xs ++ ys
drop_front zero xs ys h = refl
drop_front (suc n) [] ys h = absurd (omega arith)
drop_front (suc n) (x ∷ xs) ys h = drop_front n xs ys (omega arith)

length_taken : {A : Type 0} (n : ℕ) (xs : List A) → n ≤ length xs → length (take n xs) ≡ n
length_taken zero xs h = refl
length_taken (suc n) [] h = absurd (omega arith)
length_taken (suc n) (x ∷ xs) h = ap suc (length_taken n xs (omega arith))

pub entries_entered : (O : Type 0) {E : Type 0} (maker : Option ℕ) (es : List E) → entries_in (entered {O = O} maker es) ≡ es
entries_entered O maker [] = refl
entries_entered O maker (e ∷ es) = ap (λ l. e ∷ l) (entries_entered O maker es)

length_entered : (O : Type 0) {E : Type 0} (maker : Option ℕ) (es : List E) → length (entered {O = O} maker es) ≡ length es
length_entered O maker [] = refl
length_entered O maker (e ∷ es) = ap suc (length_entered O maker es)

module _ {O E : Type 0} where
  pub entries_join : (xs ys : List (Made (Item O E))) → entries_in (xs ++ ys) ≡ entries_in xs ++ entries_in ys
  entries_join [] ys = refl
  entries_join (i ∷ xs) ys = ap (λ es. entry_in i.entry ++ es) (entries_join xs ys) ∙ sym (append_assoc (entry_in i.entry) (entries_in xs) (entries_in ys))

  module _ (o : O) where
    items_history : (m : Mark) (maker : Option ℕ) (es : List E) → entries_in (items_for o m maker es) ≡ take (entries_for m) es
    items_history (Opening n) maker es = entries_entered O maker (take n es)
    items_history Next maker es = entries_entered O maker (take 1 es)
    items_history (Giving t u) maker es = refl
    items_history (Returning t) maker es = refl

    items_front : (m : Mark) (maker : Option ℕ) (es fs : List E) → entries_for m ≤ length es → items_for o m maker (es ++ fs) ≡ items_for o m maker es
    items_front (Opening n) maker es fs h = ap (λ l. made (Opened o n) maker ∷ entered maker l) (take_front n es fs h)
    items_front Next maker es fs h = ap (entered maker) (take_front 1 es fs h)
    items_front (Giving t u) maker es fs h = refl
    items_front (Returning t) maker es fs h = refl

    marks_history : (ms : List (Made Mark)) (H : List E) → entries_for_all ms ≡ length H → entries_in (record_of o ms H) ≡ H
    marks_history [] [] e = refl
    marks_history [] (d ∷ H) e = absurd (omega (arith, e))
    marks_history (m ∷ ms) H e =
        entries_join (items_for o m.entry m.maker H) (record_of o ms (drop (entries_for m.entry) H))
        ∙ (ap₂ (λ a b. a ++ b) (items_history m.entry m.maker H) (marks_history ms (drop (entries_for m.entry) H) (omega (arith, e, length-drop (entries_for m.entry) H)))
        ∙ take-append-drop (entries_for m.entry) H)

    items_count : (m : Mark) (maker : Option ℕ) (es : List E) → entries_for m ≤ length es → length (items_for o m maker es) ≡ count_for m
    items_count (Opening n) maker es h = ap suc (length_entered O maker (take n es) ∙ length_taken n es h)
    items_count Next maker es h = length_entered O maker (take 1 es) ∙ length_taken 1 es h
    items_count (Giving t u) maker es h = refl
    items_count (Returning t) maker es h = refl

    marks_count : (ms : List (Made Mark)) (H : List E) → entries_for_all ms ≡ length H → length (record_of o ms H) ≡ count_for_all ms
    marks_count [] H e = refl
    marks_count (m ∷ ms) H e =
        let rest = marks_count ms (drop (entries_for m.entry) H) (omega (arith, e, length-drop (entries_for m.entry) H)) in
        let here = items_count m.entry m.maker H (omega (arith, e)) in
        length-append (items_for o m.entry m.maker H) (record_of o ms (drop (entries_for m.entry) H)) ∙ ap₂ (λ a b. a + b) here rest

    marks_more : (ms : List (Made Mark)) (H : List E) → entries_for_all ms ≡ length H → (ns : List (Made Mark)) (J : List E)
        → record_of o (ms ++ ns) (H ++ J) ≡ record_of o ms H ++ record_of o ns J
    marks_more [] [] e ns J = refl
    marks_more [] (d ∷ H) e ns J = absurd (omega (arith, e))
    marks_more (m ∷ ms) H e ns J =
        let few : entries_for m.entry ≤ length H = omega (arith, e) in
        ap₂ (λ a b. a ++ b) (items_front m.entry m.maker H J few)
        (ap (record_of o (ms ++ ns)) (drop_front (entries_for m.entry) H J few)
        ∙ marks_more ms (drop (entries_for m.entry) H) (omega (arith, e, length-drop (entries_for m.entry) H)) ns J)
        ∙ sym (append_assoc (items_for o m.entry m.maker H) (record_of o ms (drop (entries_for m.entry) H)) (record_of o ns J))

map_taken : {A B : Type 0} (f : A → B) (n : ℕ) (xs : List A) → map f (take n xs) ≡ take n (map f xs)
map_taken f zero xs = refl
map_taken f (suc n) [] = refl
map_taken f (suc n) (x ∷ xs) = ap (λ l. f x ∷ l) (map_taken f n xs)

map_dropped : {A B : Type 0} (f : A → B) (n : ℕ) (xs : List A) → map f (drop n xs) ≡ drop n (map f xs)
map_dropped f zero xs = refl
map_dropped f (suc n) [] = refl
map_dropped f (suc n) (x ∷ xs) = map_dropped f n xs

-- what two histories mean, one after the other
pub meant_join : {E F : Type 0} (item : E → F) (xs ys : List (Made E)) → meant item (xs ++ ys) ≡ meant item xs ++ meant item ys
meant_join item [] ys = refl
meant_join item (x ∷ xs) ys = ap (λ r. made (item x.entry) x.maker ∷ r) (meant_join item xs ys)

module _ {O E P F : Type 0} (over : O → P) (entry : E → F) where
  meant_entered : (maker : Option ℕ) (es : List E) → meant (item_meant over entry) (entered maker es) ≡ entered maker (map entry es)
  meant_entered maker [] = refl
  meant_entered maker (e ∷ es) = ap (λ r. made (Entered (entry e)) maker ∷ r) (meant_entered maker es)

  meant_items : (o : O) (m : Mark) (maker : Option ℕ) (es : List E) → meant (item_meant over entry) (items_for o m maker es) ≡ items_for (over o) m maker (map entry es)
  meant_items o (Opening n) maker es = ap (λ r. made (Opened (over o) n) maker ∷ r) (meant_entered maker (take n es) ∙ ap (entered maker) (map_taken entry n es))
  meant_items o Next maker es = meant_entered maker (take 1 es) ∙ ap (entered maker) (map_taken entry 1 es)
  meant_items o (Giving t u) maker es = refl
  meant_items o (Returning t) maker es = refl

  pub meant_record : (o : O) (ms : List (Made Mark)) (H : List E) → meant (item_meant over entry) (record_of o ms H) ≡ record_of (over o) ms (map entry H)
  meant_record o [] H = refl
  meant_record o (m ∷ ms) H =
      meant_join (item_meant over entry) (items_for o m.entry m.maker H) (record_of o ms (drop (entries_for m.entry) H))
      ∙ ap₂ (λ a b. a ++ b) (meant_items o m.entry m.maker H) (meant_record o ms (drop (entries_for m.entry) H) ∙ ap (record_of (over o) ms) (map_dropped entry (entries_for m.entry) H))

pub mark_law : (O E P F : Type 0) → MarkLaw O E P F
mark_law O E P F = record {
  marks = λ o ms H e. record { history = marks_history o ms H e; count = marks_count o ms H e; more = marks_more o ms H e };
  meaning = λ over entry o ms H. meant_record over entry o ms H;
}
