-- Each input is a journal, or damaged at some place: of each part of the format, it stands there or it does not.
use Rattle.std.specs.Prelude.{Result, Ok, Err, IsUtf8, ◌==◌}
use Rattle.std.specs.Int.{w32, to_be_bytes, from_be_bytes}
use Rattle.std.specs.List.{AllByRecursion}
use Rattle.std.specs.Str.{is_utf8, bytes_eq}
use Rattle.std.proofs.Common.{◌≡◌, ◌⊎◌, inl, inr, ℕ, zero, suc, ◌+◌, ◌<◌, ◌≤◌, ◌^◌, ap, refl, ◌∙◌, sym, subst, Bool, true, false, List, [], ◌∷◌, ◌++◌, length, take, drop, arith, append-nil, length-append}
use Rattle.std.proofs.Math.Seq.{take-append_seam, drop-append_seam}
use Rattle.std.proofs.lemmas.Bool.{both_ways, cases_lt, eqb-true, eq-eqb}
use Rattle.std.proofs.lemmas.List.Elements.{All-from_recursion}
use Rattle.std.proofs.lemmas.Nat.{from_be_bytes-to_be_bytes_4}
use Rattle.std.proofs.lemmas.Slice.Eq.{bytes_eq-Decides}
use Rattle.std.proofs.lemmas.Str.{IsUtf8-from_is_utf8, is_utf8-from_IsUtf8}
use Rattle.def_chase.specs.Values.{Fact}
use Rattle.def_chase.specs.Repository.{Change, Insert, Delete}
use Rattle.def_language.specs.Bytes.{is_line_feed}
use Rattle.def_language.specs.Faults.{Kind, Wrong}
use Rattle.def_language.specs.Lines.{Spells, IsFirstFault}
use Rattle.def_language.specs.Lone.{IsTuple, IsReadAgain, lone_fact}
use Rattle.def_language.specs.Meaning.{fact_of}
use Rattle.def_language.specs.Printing.{printed, tuple_text, written_fact}
use Rattle.def_language.specs.Sessions.{RelationSchema, SessionData, SessionUpdate}
use Rattle.def_language.specs.Statements.{WrittenFact}
use Rattle.def_language.specs.Validity.{IsSession}
use Rattle.base_roll.specs.Format.{framed, opened}
use Rattle.base_roll.specs.Rolls.{HasNoRecord}
use Rattle.base_roll.proofs.Frames.{length_framed}
use Rattle.base_roll.proofs.Gates.{decided}
use Rattle.run_journal.specs.Format.{commit_line, commit_text, front, write_lines, write_text, IsCommit, IsOpening, IsWrite}
use Rattle.run_journal.specs.Journals.{BeginsWith, IsWhole, gate_of}
use Rattle.run_journal.specs.Damage.{HasNoCommit, IsDamaged}
use Rattle.run_journal.proofs.Absent.{no_commit_there, no_opening_there, no_writes_after}
use Rattle.run_journal.proofs.Texts.{begins_more}
use Rattle.run_journal.proofs.WriteLines.{AreReadAgain, NoFeeds, left_lines, first_write, no_line_left, no_tuple_after, no_write_next, one_write}

same_or_not : (xs ys : List ℕ) → (xs ≡ ys) ⊎ (xs ≡ ys → ⊥)
same_or_not xs ys = by (bytes_eq xs ys) refl where
  by : (b : Bool) → bytes_eq xs ys ≡ b → (xs ≡ ys) ⊎ (xs ≡ ys → ⊥)
  by true e = inl ((bytes_eq-Decides xs ys).0 e)
  by false e = inr (λ same. both_ways (bytes_eq xs ys) e ((bytes_eq-Decides xs ys).1 same))

byte_or_not : (b k : ℕ) → (b ≡ k) ⊎ ((b == k) ≡ false)
byte_or_not b k = by (b == k) refl where
  by : (r : Bool) → (b == k) ≡ r → (b ≡ k) ⊎ ((b == k) ≡ false)
  by true e = inl (eqb-true b k e)
  by false e = inr e

-- ---- a frame

there : List ℕ → List ℕ
there bytes = take (from_be_bytes w32 (take 4 bytes)) (drop 4 bytes)

after : List ℕ → List ℕ
after bytes = drop (from_be_bytes w32 (take 4 bytes)) (drop 4 bytes)

told : (bytes payload rest : List ℕ) → length payload < 2 ^ 32 → bytes ≡ framed payload ++ rest → (there bytes ≡ payload) × (after bytes ≡ rest)
unfolding framed there after
told bytes payload rest small e =
    let head : take 4 bytes ≡ to_be_bytes w32 (length payload) = ap (take 4) e in
    let tail : drop 4 bytes ≡ payload ++ rest = ap (drop 4) e in
    let count : from_be_bytes w32 (take 4 bytes) ≡ length payload = ap (from_be_bytes w32) head ∙ from_be_bytes-to_be_bytes_4 (length payload) small in (
      (λ i. take (count i) (tail i)) ∙ take-append_seam payload rest,
      (λ i. drop (count i) (tail i)) ∙ drop-append_seam payload rest,
    )

abbrev HasFrame : List ℕ → Type 0
HasFrame bytes = (payload : List ℕ) × (rest : List ℕ) × (length payload < 2 ^ 32) × (bytes ≡ framed payload ++ rest)

frame_or_none : (bytes : List ℕ) → HasFrame bytes ⊎ HasNoRecord bytes
frame_or_none bytes = by (cases_lt (length (there bytes)) (2 ^ 32)) (same_or_not bytes (framed (there bytes) ++ after bytes)) where
  by : (length (there bytes) < 2 ^ 32) ⊎ (2 ^ 32 ≤ length (there bytes)) → (bytes ≡ framed (there bytes) ++ after bytes) ⊎ (bytes ≡ framed (there bytes) ++ after bytes → ⊥) → HasFrame bytes ⊎ HasNoRecord bytes
  by (inl small) (inl is) = inl (there bytes, after bytes, small, is)
  by (inr large) same = inr (λ payload rest small e. let t = told bytes payload rest small e in omega (arith, large, small, ap length t.0))
  by (inl small) (inr other) = inr (λ payload rest short e. let t = told bytes payload rest short e in other (e ∙ sym (λ i. framed (t.0 i) ++ t.1 i)))

-- ---- a session

module _ (some : (bytes : List ℕ) → ((s : SessionData) × Spells bytes s) ⊎ ((wrong : Wrong) × IsFirstFault bytes wrong)) (one : (bytes : List ℕ) (s t : SessionData) → Spells bytes s → Spells bytes t → s ≡ t)
    (apart : (bytes : List ℕ) (s : SessionData) (wrong : Wrong) → Spells bytes s → IsFirstFault bytes wrong → ⊥)
    (again : (s : SessionData) → IsSession s → Spells (printed s) s) (valid : (bytes : List ℕ) (s : SessionData) → Spells bytes s → IsSession s) where
  abbrev IsOpened : List ℕ → Type 0
  IsOpened payload = (s : SessionData) × IsOpening s × (payload ≡ printed s)

  abbrev IsNotOpened : List ℕ → Type 0
  IsNotOpened payload = (s : SessionData) → IsOpening s → payload ≡ printed s → ⊥

  spelled : (payload : List ℕ) (s : SessionData) → IsOpening s → payload ≡ printed s → Spells payload s
  spelled payload s opening e = subst (λ text. Spells text s) (sym e) (again s opening.session)

  some_update : (u : SessionUpdate) (us : List SessionUpdate) → u ∷ us ≡ [] → ⊥
  some_update u us e = cc

  opening_or_none : (payload : List ℕ) → length payload < 2 ^ 32 → IsOpened payload ⊎ IsNotOpened payload
  opening_or_none payload small = by (some payload) where
    read : (s : SessionData) → Spells payload s → (us : List SessionUpdate) → s.updates ≡ us → (payload ≡ printed s) ⊎ (payload ≡ printed s → ⊥) → IsOpened payload ⊎ IsNotOpened payload
    read s e [] none (inl is) = inl (s, record { session = valid payload s e; no_updates = none; short = subst (λ text. length text < 2 ^ 32) is small }, is)
    read s e [] none (inr other) = inr (λ t opening is. other (is ∙ ap printed (one payload t s (spelled payload t opening is) e)))
    read s e (u ∷ us) more same = inr (λ t opening is. some_update u us (sym more ∙ ap (λ (x : SessionData). x.updates) (one payload s t e (spelled payload t opening is)) ∙ opening.no_updates))

    by : ((s : SessionData) × Spells payload s) ⊎ ((wrong : Wrong) × IsFirstFault payload wrong) → IsOpened payload ⊎ IsNotOpened payload
    by (inl (s, e)) = read s e s.updates refl (same_or_not payload (printed s))
    by (inr (wrong, fault)) = inr (λ t opening is. apart payload t wrong (spelled payload t opening is) fault)

-- ---- writes

ok_is : {A : Type 0} (x y : A) → let p : Result A Kind = Ok x in let q : Result A Kind = Ok y in p ≡ q → x ≡ y
ok_is x y e = cc

err_ok : {A : Type 0} (x : A) (k : Kind) → let p : Result A Kind = Err k in let q : Result A Kind = Ok x in p ≡ q → ⊥
err_ok x k e = cc

-- the line at the front, or there is none
cut_or_none : (text : List ℕ) → ((line : List ℕ) × (more : List ℕ) × NoFeeds line × (text ≡ line ++ (10 ∷ more))) ⊎ NoFeeds text
cut_or_none [] = inr tt
cut_or_none (b ∷ text) = by (byte_or_not b 10) (cut_or_none text) where
  by : (b ≡ 10) ⊎ ((b == 10) ≡ false) → ((line : List ℕ) × (more : List ℕ) × NoFeeds line × (text ≡ line ++ (10 ∷ more))) ⊎ NoFeeds text
      → ((line : List ℕ) × (more : List ℕ) × NoFeeds line × (b ∷ text ≡ line ++ (10 ∷ more))) ⊎ NoFeeds (b ∷ text)
  by (inl feed) cut = inl ([], text, tt, ap (λ x. x ∷ text) feed)
  by (inr other) (inl (line, more, clean, e)) = inl (b ∷ line, more, (other, clean), ap (λ xs. b ∷ xs) e)
  by (inr other) (inr clean) = inr (other, clean)

module _ (relations : List RelationSchema) (again : AreReadAgain relations)
    (says : (line : List ℕ) (fact : WrittenFact) (t : Fact) → IsUtf8 line → lone_fact line ≡ Ok fact → fact_of relations fact ≡ Ok t → IsTuple relations t) where
  abbrev IsTupleText : List ℕ → Type 0
  IsTupleText text = (t : Fact) × IsTuple relations t × (text ≡ tuple_text relations false t)

  abbrev IsNoTuple : List ℕ → Type 0
  IsNoTuple text = (t : Fact) → IsTuple relations t → text ≡ tuple_text relations false t → ⊥

  tuple_or_none : (text : List ℕ) → IsTupleText text ⊎ IsNoTuple text
  tuple_or_none text = by (lone_fact text) refl where
    same : (fact : WrittenFact) → lone_fact text ≡ Ok fact → (t : Fact) → IsTuple relations t → text ≡ tuple_text relations false t → fact ≡ written_fact relations t
    same fact e t fits is = ok_is fact (written_fact relations t) (sym e ∙ ap lone_fact is ∙ (again t fits).read)

    meant : (fact : WrittenFact) → lone_fact text ≡ Ok fact → (t u : Fact) → fact_of relations fact ≡ Ok t → IsTuple relations u → text ≡ tuple_text relations false u → t ≡ u
    meant fact e t u f fits is = ok_is t u (sym f ∙ ap (fact_of relations) (same fact e u fits is) ∙ (again u fits).meant)

    at : (fact : WrittenFact) → lone_fact text ≡ Ok fact → (t : Fact) → fact_of relations fact ≡ Ok t → (text ≡ tuple_text relations false t) ⊎ (text ≡ tuple_text relations false t → ⊥)
        → (b : Bool) → is_utf8 text ≡ b → IsTupleText text ⊎ IsNoTuple text
    at fact e t f (inl is) true u = inl (t, says text fact t (IsUtf8-from_is_utf8 text u) e f, is)
    at fact e t f (inl is) false u = inr (λ v fits w. both_ways (is_utf8 text) u (is_utf8-from_IsUtf8 text (subst IsUtf8 (sym w) (again v fits).text)))
    at fact e t f (inr other) b u = inr (λ v fits w. other (w ∙ ap (tuple_text relations false) (sym (meant fact e t v f fits w))))

    known : (fact : WrittenFact) → lone_fact text ≡ Ok fact → (r : Result Fact Kind) → fact_of relations fact ≡ r → IsTupleText text ⊎ IsNoTuple text
    known fact e (Ok t) f = at fact e t f (same_or_not text (tuple_text relations false t)) (is_utf8 text) refl
    known fact e (Err kind) f = inr (λ t fits is. err_ok t kind (sym f ∙ ap (fact_of relations) (same fact e t fits is) ∙ (again t fits).meant))

    by : (r : Result WrittenFact Kind) → lone_fact text ≡ r → IsTupleText text ⊎ IsNoTuple text
    by (Ok fact) e = known fact e (fact_of relations fact) refl
    by (Err kind) e = inr (λ t fits is. err_ok (written_fact relations t) kind (sym e ∙ ap lone_fact is ∙ (again t fits).read))

  abbrev IsWriteText : List ℕ → Type 0
  IsWriteText line = (w : Change) × IsWrite relations w × (line ≡ write_text relations w)

  abbrev IsNoWrite : List ℕ → Type 0
  IsNoWrite line = (w : Change) → IsWrite relations w → line ≡ write_text relations w → ⊥

  no_sign : (w : Change) → ◌≡◌ {A = List ℕ} [] (write_text relations w) → ⊥
  no_sign (Insert t) e = cc
  no_sign (Delete t) e = cc

  first_same : (b c : ℕ) (xs ys : List ℕ) → b ∷ xs ≡ c ∷ ys → b ≡ c
  first_same b c xs ys e = cc

  write_or_none : (line : List ℕ) → IsWriteText line ⊎ IsNoWrite line
  write_or_none [] = inr (λ w good e. no_sign w e)
  write_or_none (sign ∷ text) = by (tuple_or_none text) (byte_or_not sign 43) (byte_or_not sign 45) where
    other : (sign == 43) ≡ false → (sign == 45) ≡ false → IsNoWrite (sign ∷ text)
    other plus minus (Insert t) good e = both_ways (sign == 43) plus (eq-eqb sign 43 (first_same sign 43 text (tuple_text relations false t) e))
    other plus minus (Delete t) good e = both_ways (sign == 45) minus (eq-eqb sign 45 (first_same sign 45 text (tuple_text relations false t) e))

    by : IsTupleText text ⊎ IsNoTuple text → (sign ≡ 43) ⊎ ((sign == 43) ≡ false) → (sign ≡ 45) ⊎ ((sign == 45) ≡ false) → IsWriteText (sign ∷ text) ⊎ IsNoWrite (sign ∷ text)
    by (inr none) plus minus = inr (no_tuple_after relations sign text none)
    by (inl (t, fits, is)) (inl plus) minus = inl (Insert t, fits, (λ i. plus i ∷ is i))
    by (inl (t, fits, is)) (inr plus) (inl minus) = inl (Delete t, fits, (λ i. minus i ∷ is i))
    by (inl (t, fits, is)) (inr plus) (inr minus) = inr (other plus minus)

  abbrev AreWriteLines : List ℕ → Type 0
  AreWriteLines text = (ws : List Change) × AllByRecursion (IsWrite relations) ws × (text ≡ write_lines relations ws)

  abbrev AreNoWrites : List ℕ → Type 0
  AreNoWrites text = (ws : List Change) → AllByRecursion (IsWrite relations) ws → text ≡ write_lines relations ws → ⊥

  writes_or_none : (most : ℕ) (text : List ℕ) → length text ≤ most → AreWriteLines text ⊎ AreNoWrites text
  writes_or_none most [] few = inl ([], tt, refl)
  writes_or_none zero (b ∷ text) few = absurd (omega arith)
  writes_or_none (suc most) (b ∷ text) few = by (writes_or_none most) (cut_or_none (b ∷ text)) where
    rest : (line more : List ℕ) → NoFeeds line → b ∷ text ≡ line ++ (10 ∷ more) → IsWriteText line → AreWriteLines more ⊎ AreNoWrites more → AreWriteLines (b ∷ text) ⊎ AreNoWrites (b ∷ text)
    rest line more clean is (w, good, same) (inl (ws, all, e)) = inl (w ∷ ws, (good, all), is ∙ (λ i. same i ++ (10 ∷ e i)) ∙ sym (one_write relations w ws))
    rest line more clean is (w, good, same) (inr none) = inr (λ vs all e.
        let first : write_lines relations (w ∷ []) ++ more ≡ write_lines relations vs = first_write relations w [] more ∙ (λ i. sym same i ++ (10 ∷ more)) ∙ sym is ∙ e in
        let left = left_lines relations again (w ∷ []) vs more (good, tt) all first in
        none left.0 left.1 left.2)

    line : ((more : List ℕ) → length more ≤ most → AreWriteLines more ⊎ AreNoWrites more) → (begun more : List ℕ) → NoFeeds begun → b ∷ text ≡ begun ++ (10 ∷ more) → IsWriteText begun ⊎ IsNoWrite begun → AreWriteLines (b ∷ text) ⊎ AreNoWrites (b ∷ text)
    line shorter begun more clean is (inl write) = rest begun more clean is write (shorter more (omega (arith, few, ap length is, length-append begun (10 ∷ more))))
    line shorter begun more clean is (inr none) = inr (λ vs all e. no_write_next relations again [] vs (b ∷ text) (b ∷ text) begun more tt refl is (All-from_recursion (λ c. is_line_feed c ≡ false) begun clean) none all e)

    by : ((more : List ℕ) → length more ≤ most → AreWriteLines more ⊎ AreNoWrites more) → ((begun : List ℕ) × (more : List ℕ) × NoFeeds begun × (b ∷ text ≡ begun ++ (10 ∷ more))) ⊎ NoFeeds (b ∷ text) → AreWriteLines (b ∷ text) ⊎ AreNoWrites (b ∷ text)
    by shorter (inl (begun, more, clean, is)) = line shorter begun more clean is (write_or_none begun)
    by shorter (inr clean) = inr (λ vs all e. no_line_left relations again [] vs (b ∷ text) (b ∷ text) tt refl (All-from_recursion (λ c. is_line_feed c ≡ false) (b ∷ text) clean) (omega arith) all e)

  -- ---- a commit

  abbrev HasCommit : ℕ → List ℕ → Type 0
  HasCommit n bytes = (writes : List Change) × (rest : List ℕ) × IsCommit relations n writes × (bytes ≡ framed (commit_text relations n writes) ++ rest)

  module _ (n : ℕ) (bytes payload rest : List ℕ) (small : length payload < 2 ^ 32) (is : bytes ≡ framed payload ++ rest) where
    text : List ℕ
    text = drop (length (commit_line n)) payload

    text_of : (writes : List Change) → payload ≡ commit_text relations n writes → text ≡ write_lines relations writes
    unfolding text
    text_of writes e = ap (drop (length (commit_line n))) e ∙ drop-append_seam (commit_line n) (write_lines relations writes)

    commit_in : (n < 2 ^ 32) ⊎ (2 ^ 32 ≤ n) → (payload ≡ commit_line n ++ text) ⊎ (payload ≡ commit_line n ++ text → ⊥) → AreWriteLines text ⊎ AreNoWrites text → HasCommit n bytes ⊎ HasNoCommit relations n bytes
    commit_in (inr large) head lines = inr (λ writes more one e. let few : n < 2 ^ 32 = one.number in omega arith)
    commit_in (inl few) (inr other) lines = inr (no_commit_there relations n bytes payload rest is small (λ writes good e. other (e ∙ ap (λ xs. commit_line n ++ xs) (sym (text_of writes e)))))
    commit_in (inl few) (inl head) (inr none) = inr (no_commit_there relations n bytes payload rest is small (no_writes_after relations n payload (commit_line n) text head refl none))
    commit_in (inl few) (inl head) (inl (writes, good, e)) =
        let whole : payload ≡ commit_text relations n writes = head ∙ ap (λ xs. commit_line n ++ xs) e in
        inl (writes, rest, record { number = few; writes = good; short = subst (λ xs. length xs < 2 ^ 32) whole small }, is ∙ ap (λ xs. framed xs ++ rest) whole)

  commit_or_none : (n : ℕ) (bytes : List ℕ) → HasCommit n bytes ⊎ HasNoCommit relations n bytes
  commit_or_none n bytes = by (frame_or_none bytes) where
    by : HasFrame bytes ⊎ HasNoRecord bytes → HasCommit n bytes ⊎ HasNoCommit relations n bytes
    by (inl (payload, rest, small, is)) =
        let tail = text n bytes payload rest small is in
        commit_in n bytes payload rest small is (cases_lt n (2 ^ 32)) (same_or_not payload (commit_line n ++ tail)) (writes_or_none (length tail) tail (omega arith))
    by (inr none) = inr (λ writes rest one e. none (commit_text relations n writes) rest one.short e)

-- ---- commits

module _ (bytes : List ℕ) (s : SessionData) (again : AreReadAgain s.relations)
    (says : (line : List ℕ) (fact : WrittenFact) (t : Fact) → IsUtf8 line → lone_fact line ≡ Ok fact → fact_of s.relations fact ≡ Ok t → IsTuple s.relations t) where
  commits_or_damage : (most : ℕ) (commits : List (List Change)) (rest : List ℕ) → length rest ≤ most → BeginsWith bytes s commits rest → IsWhole bytes ⊎ IsDamaged bytes
  commits_or_damage most commits [] few b = inr (gate_of s commits, inr (record { session = s; commits = commits; rest = []; begins = b; place = refl; broken = inl refl }))
  commits_or_damage zero commits (gate ∷ tail) few b = absurd (omega arith)
  commits_or_damage (suc most) commits (gate ∷ tail) few b = by (commits_or_damage most) (decided gate) where
    next : ((more : List (List Change)) (left : List ℕ) → length left ≤ most → BeginsWith bytes s more left → IsWhole bytes ⊎ IsDamaged bytes)
        → gate ≡ 1 → HasCommit s.relations again says (length commits + 1) tail ⊎ HasNoCommit s.relations (length commits + 1) tail → IsWhole bytes ⊎ IsDamaged bytes
    next shorter open_ (inr none) =
        inr (gate_of s commits, inr (record { session = s; commits = commits; rest = gate ∷ tail; begins = b; place = refl; broken = inr (tail, ap (λ x. x ∷ tail) open_, none) }))
    next shorter open_ (inl (writes, more, one, e)) =
        let is : gate ∷ tail ≡ opened (commit_text s.relations (length commits + 1) writes) ++ more = λ i. open_ i ∷ e i in
        shorter (commits ++ writes ∷ []) more
        (omega (arith, few, ap length e, length-append (framed (commit_text s.relations (length commits + 1) writes)) more, length_framed (commit_text s.relations (length commits + 1) writes)))
        (begins_more s (length commits + 1) commits writes refl bytes more one (record { opening = b.opening; commits = b.commits; bytes = b.bytes ∙ ap (λ xs. front s commits ++ xs) is }))

    by : ((more : List (List Change)) (left : List ℕ) → length left ≤ most → BeginsWith bytes s more left → IsWhole bytes ⊎ IsDamaged bytes)
        → (gate ≡ 1) ⊎ (gate ≡ 1 → ⊥) → IsWhole bytes ⊎ IsDamaged bytes
    by shorter (inl open_) = next shorter open_ (commit_or_none s.relations again says (length commits + 1) tail)
    by shorter (inr closed) = inl (s, commits, (gate ∷ tail, b, (gate, tail, refl, closed)))

pub journal_or_damage : ((bytes : List ℕ) → ((s : SessionData) × Spells bytes s) ⊎ ((wrong : Wrong) × IsFirstFault bytes wrong)) → ((bytes : List ℕ) (s t : SessionData) → Spells bytes s → Spells bytes t → s ≡ t)
    → ((bytes : List ℕ) (s : SessionData) (wrong : Wrong) → Spells bytes s → IsFirstFault bytes wrong → ⊥) → ((s : SessionData) → IsSession s → Spells (printed s) s)
    → ((bytes : List ℕ) (s : SessionData) → Spells bytes s → IsSession s) → ((s : SessionData) (t : Fact) → IsSession s → IsTuple s.relations t → IsReadAgain s.relations t)
    → ((relations : List RelationSchema) (line : List ℕ) (fact : WrittenFact) (t : Fact) → IsUtf8 line → lone_fact line ≡ Ok fact → fact_of relations fact ≡ Ok t → IsTuple relations t)
    → (bytes : List ℕ) → IsWhole bytes ⊎ IsDamaged bytes
journal_or_damage some one apart again valid tuples says bytes = by (frame_or_none bytes) where
  opened_at : (payload rest : List ℕ) → length payload < 2 ^ 32 → bytes ≡ framed payload ++ rest → IsOpened some one apart again valid payload ⊎ IsNotOpened some one apart again valid payload → IsWhole bytes ⊎ IsDamaged bytes
  opened_at payload rest small is (inr none) = inr (0, inl (refl, no_opening_there bytes payload rest is small none))
  opened_at payload rest small is (inl (s, opening, e)) =
      commits_or_damage bytes s (λ t fits. tuples s t opening.session fits) (says s.relations) (length rest) [] rest (omega arith)
      (record { opening = opening; commits = tt; bytes = is ∙ ap (λ xs. framed xs ++ rest) e ∙ ap (λ xs. xs ++ rest) (sym (append-nil (framed (printed s)))) })

  by : HasFrame bytes ⊎ HasNoRecord bytes → IsWhole bytes ⊎ IsDamaged bytes
  by (inl (payload, rest, small, is)) = opened_at payload rest small is (opening_or_none some one apart again valid payload small)
  by (inr none) = inr (0, inl (refl, λ s rest opening e. none (printed s) rest opening.short e))
