-- The objects that are printed of entries.
use Rattle.std.specs.Prelude.{◌≡◌, ◌≤◌, ℕ, List, [], ◌∷◌, map, codes, Some, IsUtf8, option_and_then, option_map}
use Rattle.std.proofs.Common.{refl, ap, ◌∙◌, arith}
use Rattle.std.specs.Fmt.{decimal}
use Rattle.std.specs.List.{AllByRecursion}
use Rattle.std.proofs.lemmas.Fmt.{IsAscii-decimal}
use Rattle.std.proofs.lemmas.Str.{IsUtf8-from_ascii}
use Rattle.json.specs.Json.{Json}
use Rattle.json.specs.Tree.{depth, items_depth, HasNumbers, ItemsHaveNumbers}
use Rattle.json.proofs.Printed.Decimals.{IsNumber-decimal}
use Rattle.json.proofs.Printed.Utf8.{IsUtf8-are_ascii}
use Rattle.serde_json.specs.Data as values
use Rattle.serde_json.specs.Data.{Data}
use Rattle.serde_json.specs.Read.{of_json, of_items}
use Rattle.serde_json.proofs.Numbers.{number_of-decimal}
use Rattle.def_language.specs.Sessions.{RelationSchema}
use Rattle.def_history.specs.PlainEntries.{PlainCause, InConflict, Dependent}
use Rattle.base_json.specs.Lines.{items_of}
use Rattle.def_machine.specs.Machine.{Done, Spent, Refused}
use Rattle.def_machine.specs.Standings.{Standing, Ready, Held, Paused, Missing, Misfit, Ended, Withdrawn}
use Rattle.def_chase.specs.Repository.{Change}
use Rattle.audit_trace.specs.Traces.{cause_json, standing_name, write_json}
use Rattle.audit_claims.specs.Claimed.{HasWords, IsText, IsWord}
use Rattle.audit_claims.proofs.Texts.{HasTexts, ItemsHaveTexts}

-- ---- numbers and words

pub word_text : (n : ℕ) → IsWord n → IsUtf8 (decimal n)
word_text n low = IsUtf8-from_ascii (decimal n) (IsAscii-decimal n low)

pub status_text : (s : Standing) → IsUtf8 (standing_name s)
status_text Ready = IsUtf8-are_ascii (codes "ready") refl
status_text (Held c) = IsUtf8-are_ascii (codes "held") refl
status_text (Paused Missing) = IsUtf8-are_ascii (codes "pending") refl
status_text (Paused Misfit) = IsUtf8-are_ascii (codes "misfit") refl
status_text (Ended Done) = IsUtf8-are_ascii (codes "done") refl
status_text (Ended Spent) = IsUtf8-are_ascii (codes "spent") refl
status_text (Ended Refused) = IsUtf8-are_ascii (codes "refused") refl
status_text Withdrawn = IsUtf8-are_ascii (codes "withdrawn") refl

-- ---- lists of values that are no deeper than one level

module _ {A : Type 0} (f : A → Json) where
  pub shallow : ((x : A) → depth (f x) ≤ 1) → (xs : List A) → items_depth (items_of (map f xs)) ≤ 1
  shallow each [] = omega arith
  shallow each (x ∷ xs) = let a = each x in let b = shallow each xs in omega (arith, a, b)

  module _ (P : A → Type 0) where
    pub texts : ((x : A) → P x → HasTexts (f x)) → (xs : List A) → AllByRecursion P xs → ItemsHaveTexts (items_of (map f xs))
    texts each [] all = tt
    texts each (x ∷ xs) all = (each x all.0, texts each xs all.1)

    pub numbers : ((x : A) → P x → HasNumbers (f x)) → (xs : List A) → AllByRecursion P xs → ItemsHaveNumbers (items_of (map f xs))
    numbers each [] all = tt
    numbers each (x ∷ xs) all = (each x all.0, numbers each xs all.1)

    pub read : ((x : A) → P x → (d : Data) × (of_json (f x) ≡ Some d)) → (xs : List A) → AllByRecursion P xs → (ds : values.Items) × (of_items (items_of (map f xs)) ≡ Some ds)
    read each [] all = (values.no_items, refl)
    read each (x ∷ xs) all =
        let d = each x all.0 in
        let ds = read each xs all.1 in
        (values.item d.0 ds.0, ap (option_and_then (λ e. option_map (values.item e) (of_items (items_of (map f xs))))) d.1 ∙ ap (option_map (values.item d.0)) ds.1)

-- ---- causes and writes

pub cause_depth : (c : PlainCause) → depth (cause_json c) ≤ 1
cause_depth (InConflict c) = omega arith
cause_depth (Dependent c) = omega arith

pub cause_texts : (c : PlainCause) → HasWords c → HasTexts (cause_json c)
cause_texts (InConflict c) w =
    (IsUtf8-are_ascii _ refl, (IsUtf8-are_ascii _ refl, (IsUtf8-are_ascii _ refl, (word_text c.read w.1, (IsUtf8-are_ascii _ refl, (word_text c.reader w.0, (IsUtf8-are_ascii _ refl, (word_text c.writer w.2, tt))))))))
cause_texts (Dependent c) w =
    (IsUtf8-are_ascii _ refl, (IsUtf8-are_ascii _ refl, (IsUtf8-are_ascii _ refl, (word_text c.on w.2, (IsUtf8-are_ascii _ refl, (word_text c.read w.1, (IsUtf8-are_ascii _ refl, (word_text c.reader w.0, tt))))))))

pub cause_numbers : (c : PlainCause) → HasWords c → HasNumbers (cause_json c)
cause_numbers (InConflict c) w = (tt, (IsNumber-decimal c.read w.1, (IsNumber-decimal c.reader w.0, (IsNumber-decimal c.writer w.2, tt))))
cause_numbers (Dependent c) w = (tt, (IsNumber-decimal c.on w.2, (IsNumber-decimal c.read w.1, (IsNumber-decimal c.reader w.0, tt))))

abbrev pub unsigned : ℕ → Data
unsigned n = values.number (values.unsigned n)

abbrev member_of : List ℕ → Data → values.Members → values.Members
member_of k d ms = values.member k d ms

pub cause_read : (c : PlainCause) → HasWords c → (d : Data) × (of_json (cause_json c) ≡ Some d)
cause_read (InConflict c) w = (
  values.object (member_of (codes "kind") (values.string (codes "conflict")) (member_of (codes "read") (unsigned c.read) (member_of (codes "reader") (unsigned c.reader) (member_of (codes "writer") (unsigned c.writer) values.no_members)))),
  rw (number_of-decimal c.read w.1, number_of-decimal c.reader w.0, number_of-decimal c.writer w.2) refl,
)
cause_read (Dependent c) w = (
  values.object (member_of (codes "kind") (values.string (codes "depends")) (member_of (codes "on") (unsigned c.on) (member_of (codes "read") (unsigned c.read) (member_of (codes "reader") (unsigned c.reader) values.no_members)))),
  rw (number_of-decimal c.on w.2, number_of-decimal c.read w.1, number_of-decimal c.reader w.0) refl,
)

module _ (relations : List RelationSchema) where
  pub write_texts : (w : Change) → IsText relations w → HasTexts (write_json relations w)
  write_texts w text = text

  pub write_numbers : (w : Change) → IsText relations w → HasNumbers (write_json relations w)
  write_numbers w text = tt

  pub write_depth : (w : Change) → depth (write_json relations w) ≤ 1
  write_depth w = omega arith

  pub write_read : (w : Change) → IsText relations w → (d : Data) × (of_json (write_json relations w) ≡ Some d)
  write_read w text = (values.string _, refl)
