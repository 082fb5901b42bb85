-- What is printed of a tuple with texts of UTF-8 is UTF-8.
use Rattle.std.specs.Prelude.{◌≡◌, ◌+◌, ◌/◌, ◌%◌, ◌<◌, ◌≤◌, ◌==◌, nat_lt, ℕ, zero, suc, pos, negsuc, Bool, true, false, cond, if◌then◌else◌, List, [], ◌∷◌, ◌++◌, flat_map, IsUtf8}
use Rattle.std.proofs.Common.{refl, sym, ap, ◌∙◌, subst, arith, append-nil}
use Rattle.std.specs.Fmt.{decimal, signed_decimal, digit_glyph, digits, digits_onto}
use Rattle.std.specs.List.{AllByRecursion, list_all}
use Rattle.std.specs.Str.{is_utf8, encode_utf8_all, all_scalars}
use Rattle.std.proofs.Math.Utf8.{encode, scalar, next}
use Rattle.std.proofs.lemmas.Bool.{and_parts}
use Rattle.std.proofs.lemmas.Bool.Decides.{nat_tests}
use Rattle.std.proofs.lemmas.Grind.{flat_map-append}
use Rattle.std.proofs.lemmas.Nat.{mod_below}
use Rattle.std.proofs.lemmas.Str.{IsUtf8-append, IsUtf8-from_is_utf8, IsUtf8-nil}
use Rattle.json.proofs.Printed.Utf8.{are_ascii, IsUtf8-are_ascii}
use Rattle.def_language.specs.Bytes.{begins_name, continues_name}
use Rattle.def_chase.specs.Mappings.{force_relation}
use Rattle.def_chase.specs.Values.{Datum, Number, Text, Unknown, Fact, NullName}
use Rattle.def_chase.proofs.Bools.{both}
use Rattle.def_language.specs.Layout.{is_name, null_text, quoted, written_byte}
use Rattle.def_language.specs.Names.{Name}
use Rattle.def_language.specs.Printing.{joined_text, name_of, null_name_text, tuple_text, value_text}
use Rattle.def_language.specs.Sessions.{RelationSchema, relation_names}
use Rattle.def_language.specs.Validity.{AreNew}
use Rattle.def_language.proofs.Utf.{text_written as text_within}

-- ---- texts in quotes

text_written : (t : List ℕ) → IsUtf8 t → IsUtf8 (quoted t)
text_written t u =
    IsUtf8-append (34 ∷ []) (flat_map written_byte t ++ 34 ∷ []) (IsUtf8-are_ascii (34 ∷ []) refl)
    (IsUtf8-append (flat_map written_byte t) (34 ∷ []) (text_within t u) (IsUtf8-are_ascii (34 ∷ []) refl))

-- ---- numbers

glyph : (d : ℕ) → d < 10 → nat_lt (digit_glyph false d) 128 ≡ true
glyph d low = let e : nat_lt d 10 ≡ true = grind (arith, nat_tests) in rw e (let f : nat_lt (48 + d) 128 ≡ true = grind (arith, nat_tests) in f)

either : (b : Bool) (xs ys : List ℕ) → are_ascii xs ≡ true → are_ascii ys ≡ true → are_ascii (if b then xs else ys) ≡ true
either true xs ys one other = one
either false xs ys one other = other

spelled : (k n : ℕ) (rest : List ℕ) → are_ascii rest ≡ true → are_ascii (digits_onto k 10 false n rest) ≡ true
spelled zero n rest none = none
spelled (suc k) n rest none =
    let low : n % 10 < 10 = mod_below n 10 (omega arith) in
    let more : are_ascii (digit_glyph false (n % 10) ∷ rest) ≡ true = both (nat_lt (digit_glyph false (n % 10)) 128) (are_ascii rest) (glyph (n % 10) low) none in
    either (n / 10 == 0) (digit_glyph false (n % 10) ∷ rest) (digits_onto k 10 false (n / 10) (digit_glyph false (n % 10) ∷ rest)) more
    (spelled k (n / 10) (digit_glyph false (n % 10) ∷ rest) more)

decimal_text : (n : ℕ) → IsUtf8 (decimal n)
unfolding digits
decimal_text n = IsUtf8-are_ascii (decimal n) (spelled 64 n [] refl)

signed : (n : ℕ) → IsUtf8 (signed_decimal (negsuc n))
signed n = IsUtf8-append (45 ∷ []) (decimal (suc n)) (IsUtf8-are_ascii (45 ∷ []) refl) (decimal_text (suc n))

null : (n : NullName) → IsUtf8 (null_name_text true n)
null n =
    IsUtf8-append (null_text n.update n.place) (64 ∷ decimal n.attempt)
    (IsUtf8-append (63 ∷ []) (decimal n.update ++ 46 ∷ decimal n.place) (IsUtf8-are_ascii (63 ∷ []) refl)
    (IsUtf8-append (decimal n.update) (46 ∷ decimal n.place) (decimal_text n.update) (IsUtf8-append (46 ∷ []) (decimal n.place) (IsUtf8-are_ascii (46 ∷ []) refl) (decimal_text n.place))))
    (IsUtf8-append (64 ∷ []) (decimal n.attempt) (IsUtf8-are_ascii (64 ∷ []) refl) (decimal_text n.attempt))

-- ---- values

-- The value is no text, or one of UTF-8.
abbrev pub is_textual : Datum → Bool
is_textual (Number z) = true
is_textual (Text t) = is_utf8 t
is_textual (Unknown n) = true

value : (d : Datum) → is_textual d ≡ true → IsUtf8 (value_text true d)
value (Number (pos n)) e = decimal_text n
value (Number (negsuc n)) e = signed n
value (Text t) e = text_written t (IsUtf8-from_is_utf8 t e)
value (Unknown n) e = null n

others : (ds : List Datum) → list_all is_textual ds ≡ true → IsUtf8 (flat_map (λ d. 44 ∷ 32 ∷ value_text true d) ds)
others [] e = IsUtf8-nil
others (d ∷ ds) e =
    let p = and_parts (is_textual d) (list_all is_textual ds) e in
    IsUtf8-append (44 ∷ 32 ∷ value_text true d) (flat_map (λ x. 44 ∷ 32 ∷ value_text true x) ds)
    (IsUtf8-append (44 ∷ 32 ∷ []) (value_text true d) (IsUtf8-are_ascii (44 ∷ 32 ∷ []) refl) (value d p.0)) (others ds p.1)

values : (ds : List Datum) → list_all is_textual ds ≡ true → IsUtf8 (joined_text (value_text true) ds)
values [] e = IsUtf8-nil
values (d ∷ ds) e =
    let p = and_parts (is_textual d) (list_all is_textual ds) e in
    IsUtf8-append (value_text true d) (flat_map (λ x. 44 ∷ 32 ∷ value_text true x) ds) (value d p.0) (others ds p.1)

-- ---- names

name_low : (b : ℕ) → continues_name b ≡ true → nat_lt b 128 ≡ true
name_low b e = grind (arith, nat_tests)

first_low : (b : ℕ) → begins_name b ≡ true → nat_lt b 128 ≡ true
first_low b e = grind (arith, nat_tests)

rest_low : (bs : List ℕ) → list_all continues_name bs ≡ true → are_ascii bs ≡ true
rest_low [] e = refl
rest_low (b ∷ bs) e = let p = and_parts (continues_name b) (list_all continues_name bs) e in both (nat_lt b 128) (are_ascii bs) (name_low b p.0) (rest_low bs p.1)

name_text : (n : List ℕ) → is_name n ≡ true → IsUtf8 n
name_text [] e = IsUtf8-nil
name_text (b ∷ n) e =
    let p = and_parts (begins_name b) (list_all continues_name n) e in
    IsUtf8-are_ascii (b ∷ n) (both (nat_lt b 128) (are_ascii n) (first_low b p.0) (rest_low n p.1))

named : (before names : List Name) (r : ℕ) → AreNew before names → IsUtf8 (name_of names r)
named before [] r new = IsUtf8-nil
named before (n ∷ names) zero new = name_text n new.0
named before (n ∷ names) (suc r) new = named (before ++ n ∷ []) names r new.2

-- ---- tuples

tuple : (relations : List RelationSchema) (t : Fact) → AreNew [] (relation_names relations) → list_all is_textual t.values ≡ true → IsUtf8 (tuple_text relations true t)
tuple relations t names e = by (t.relation == force_relation)
  where
    by : (b : Bool) → IsUtf8 (if b then 42 ∷ joined_text (value_text true) t.values else name_of (relation_names relations) t.relation ++ (40 ∷ (joined_text (value_text true) t.values ++ 41 ∷ [])))
    by true = IsUtf8-append (42 ∷ []) (joined_text (value_text true) t.values) (IsUtf8-are_ascii (42 ∷ []) refl) (values t.values e)
    by false =
        IsUtf8-append (name_of (relation_names relations) t.relation) (40 ∷ (joined_text (value_text true) t.values ++ 41 ∷ [])) (named [] (relation_names relations) t.relation names)
        (IsUtf8-append (40 ∷ []) (joined_text (value_text true) t.values ++ 41 ∷ []) (IsUtf8-are_ascii (40 ∷ []) refl)
        (IsUtf8-append (joined_text (value_text true) t.values) (41 ∷ []) (values t.values e) (IsUtf8-are_ascii (41 ∷ []) refl)))

-- The tuple with its sign before it is UTF-8.
pub signed_tuple : (relations : List RelationSchema) (sign : ℕ) (t : Fact) → nat_lt sign 128 ≡ true → AreNew [] (relation_names relations) → list_all is_textual t.values ≡ true → IsUtf8 (sign ∷ tuple_text relations true t)
signed_tuple relations sign t low names e = IsUtf8-append (sign ∷ []) (tuple_text relations true t) (IsUtf8-are_ascii (sign ∷ []) (rw low refl)) (tuple relations t names e)
