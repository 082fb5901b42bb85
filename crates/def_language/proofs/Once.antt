-- Every input has one answer.
use Rattle.std.proofs.Common.{◌≡◌, ℕ, ◌<◌, ◌⊎◌, inl, inr, false, List, [], ◌∷◌, ◌++◌, length, refl, sym, ap, ◌∙◌, arith}
use Rattle.std.specs.Prelude.{Result, Ok, Err, pos, ◌==◌, nat_le}
use Rattle.std.specs.Str.{IsValidUpTo}
use Rattle.std.specs.Str.Lossy.{utf8_valid_len}
use Rattle.std.proofs.lemmas.Bool.Decides.{nat_tests}
use Rattle.std.proofs.lemmas.Str.{utf8_valid_len-IsValidUpTo}
use Rattle.def_language.specs.declared.Which.TheVariants as limit
use Rattle.def_language.specs.Faults.{Wrong, BadByte, LimitReached}
use Rattle.def_language.specs.Names.{Name, is_one_of}
use Rattle.def_language.specs.Sessions.{SessionData, relation_names, most_relations}
use Rattle.def_language.specs.Checks.{add_relation}
use Rattle.def_language.specs.Lines.{read, Spells, IsFirstFault, line_number}
use Rattle.def_language.specs.Printing.{printed}
use Rattle.def_language.proofs.Held.{spelled_valid}
use Rattle.def_language.proofs.Round.{session_again}

abbrev Answer : Type 0
Answer = Result SessionData Wrong

either : (answer : Answer) → ((s : SessionData) × (answer ≡ Ok s)) ⊎ ((wrong : Wrong) × (answer ≡ Err wrong))
either (Ok s) = inl (s, refl)
either (Err wrong) = inr (wrong, refl)

pub some_answer : (bytes : List ℕ) → ((s : SessionData) × Spells bytes s) ⊎ ((wrong : Wrong) × IsFirstFault bytes wrong)
some_answer bytes = either (read bytes)

pub one_session : (bytes : List ℕ) (s t : SessionData) → Spells bytes s → Spells bytes t → s ≡ t
one_session bytes s t a b = let e : (let r : SessionData → Answer = λ x. Ok x in r s ≡ r t) = sym a ∙ b in cc

pub one_fault : (bytes : List ℕ) (v w : Wrong) → IsFirstFault bytes v → IsFirstFault bytes w → v ≡ w
one_fault bytes v w a b = let e : (let r : Wrong → Answer = λ x. Err x in r v ≡ r w) = sym a ∙ b in cc

pub apart : (bytes : List ℕ) (s : SessionData) (wrong : Wrong) → Spells bytes s → IsFirstFault bytes wrong → ⊥
apart bytes s wrong a b = let e : (let r : SessionData → Answer = λ x. Ok x in let q : Wrong → Answer = λ x. Err x in r s ≡ q wrong) = sym a ∙ b in cc

pub printed_again : (bytes : List ℕ) (s : SessionData) → Spells bytes s → Spells (printed s) s
printed_again bytes s a = session_again s (spelled_valid bytes s a)

pub text_first : (bytes : List ℕ) (place : ℕ) → IsValidUpTo bytes place → IsFirstFault bytes (record { line = line_number bytes place; kind = BadByte place })
unfolding read
text_first bytes place v =
    let is : utf8_valid_len bytes ≡ place = utf8_valid_len-IsValidUpTo bytes place v in
    let lt : place < length bytes = v.short in
    let not_all : (utf8_valid_len bytes == length bytes) ≡ false = ap (λ (n : ℕ). n == length bytes) is ∙ (let f : (place == length bytes) ≡ false = grind (arith, nat_tests) in f) in
    let wrong : ℕ → Answer = λ n. Err (record { line = line_number bytes n; kind = BadByte n }) in
    rw not_all (ap wrong is)

pub few_relations : (s : SessionData) (n : Name) → s.format ≡ 1 → length s.relations ≡ 64 → is_one_of (relation_names s.relations) n ≡ false → add_relation s n (pos 1) ≡ Err (LimitReached limit.Relations)
unfolding add_relation
few_relations s n one full new = rw (new, one, full) refl

pub more_relations : (s : SessionData) (n : Name) → s.format ≡ 2 → length s.relations ≡ 64 → is_one_of (relation_names s.relations) n ≡ false
    → add_relation s n (pos 1) ≡ Ok (record s { relations = s.relations ++ record { name = n; arity = 1 } ∷ [] })
unfolding add_relation
more_relations s n two full new =
    let room : nat_le (most_relations s.format) (length s.relations) ≡ false = rw (two, full) refl in
    rw (new, room) refl
