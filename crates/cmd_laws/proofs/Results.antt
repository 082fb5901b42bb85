-- No line of a result text is the head of a trace, and a result text is known by its first line.
use Rattle.std.specs.Prelude.{◌≡◌, ◌+◌, ◌-◌, ◌&&◌, ◌||◌, ◌==◌, nat_eq, ℕ, zero, suc, pos, negsuc, Bool, true, false, not, if◌then◌else◌, List, [], ◌∷◌, ◌++◌, map, flat_map, length, take, codes, slice_index_or, Option, Some, None}
use Rattle.std.proofs.Common.{refl, sym, ap, subst, ◌∙◌, arith, append_assoc, append-nil}
use Rattle.std.specs.Fmt.{decimal, digits}
use Rattle.std.specs.List.{AllByRecursion, concat, list_all}
use Rattle.std.specs.Cmp.Lexicographic.{pointwise}
use Rattle.std.proofs.lemmas.Bool.{and_parts}
use Rattle.std.proofs.lemmas.Bool.Decides.{nat_tests}
use Rattle.std.proofs.lemmas.List.Concat.{flat_map-cons}
use Rattle.def_language.specs.Bytes.{begins_name, continues_name, is_line_feed}
use Rattle.audit_claims.specs.Parts.{IsResult, after_result, bare, before, from, is_head, lines_in, result_in}
use Rattle.audit_claims.proofs.Lined.{whole}
use Rattle.chase_question.specs.Inquiries.{Inquiry, PositiveInquiry, NegativeInquiry}
use Rattle.def_language.specs.Grammar.{one_word, separated, value_word}
use Rattle.def_language.specs.Layout.{gap, is_name, is_open, is_tight, laid_out, spelled, written_byte}
use Rattle.def_language.specs.Names.{Name}
use Rattle.def_language.specs.Printing.{name_of}
use Rattle.def_language.specs.Sessions.{RelationSchema, SessionData, SessionUpdate, labels, mapping_names, relation_names}
use Rattle.def_language.specs.Validity.{AreNew, AreUpdates, IsSession}
use Rattle.def_language.specs.Words.{Word, name, number, null, text, opens, closes, comma, colon, arrow}
use Rattle.def_history.specs.PlainEntries.{PlainEntry}
use Rattle.def_machine.specs.Standings.{Lack, Missing, Misfit}
use Rattle.def_chase.specs.Values.{Datum, Number, Text, Unknown, Fact}
use Rattle.def_chase.proofs.Bools.{and-false}
use Rattle.def_chase.proofs.Searches.{all_join}
use Rattle.chase_update.specs.Results.{FinishTold, ResultTold, StopTold}
use Rattle.chase_update.specs.Wishes.{End, IsDone, IsSpent, IsRefused}
use Rattle.lang_report.specs.Results.{committed_words, end_words, finish_lines, finish_words, lack_name, lines_text, no_update, question_lines, repository_lines, result_lines, result_text, stop_lines_in, title_words, tuple_words, update_words}
use Rattle.audit_trace.specs.Traces.{entry_line, trace_text}
use Rattle.audit_claims.proofs.Cuts.{Unfed, digits_unfed, joined}
use Rattle.cmd_laws.proofs.Lines.{bare_cut, before_after, from_after, line_cut, lines_are, text_is}

-- ---- words without a line feed

abbrev pub is_free : List ℕ → Bool
is_free bs = list_all (λ b. not (is_line_feed b)) bs

not_true : (b : Bool) → not b ≡ true → b ≡ false
not_true false e = refl
not_true true e = cc

pub free : (bs : List ℕ) → is_free bs ≡ true → Unfed bs
free [] e = tt
free (b ∷ bs) e = let p = and_parts (not (is_line_feed b)) (is_free bs) e in (not_true (is_line_feed b) p.0, free bs p.1)

-- A name has no line feed; other words have none in any case.
abbrev pub IsFree : Word → Type 0
IsFree (name n) = Unfed n
IsFree (number z) = Unit {0}
IsFree (null u k) = Unit {0}
IsFree (text t) = Unit {0}
IsFree opens = Unit {0}
IsFree closes = Unit {0}
IsFree comma = Unit {0}
IsFree colon = Unit {0}
IsFree arrow = Unit {0}

byte : (b : ℕ) → Unfed (written_byte b)
byte b = by (b == 34) (b == 92) (b == 10) refl refl refl where
  by : (q s f : Bool) → (b == 34) ≡ q → (b == 92) ≡ s → (b == 10) ≡ f → Unfed (written_byte b)
  by true s f e1 e2 e3 = rw e1 (refl, (refl, tt))
  by false true f e1 e2 e3 = rw (e1, e2) (refl, (refl, tt))
  by false false true e1 e2 e3 = rw (e1, e2, e3) (refl, (refl, tt))
  by false false false e1 e2 e3 = rw (e1, e2, e3) (e3, tt)

bytes : (t : List ℕ) → Unfed (flat_map written_byte t)
bytes [] = tt
bytes (b ∷ t) = subst Unfed (sym (flat_map-cons written_byte b t)) (joined (written_byte b) (flat_map written_byte t) (byte b) (bytes t))

spelled_free : (w : Word) → IsFree w → Unfed (spelled w)
spelled_free (name n) e = e
spelled_free (number (pos n)) e = digits_unfed n
spelled_free (number (negsuc n)) e = (refl, digits_unfed (suc n))
spelled_free (null u k) e = (refl, joined (decimal u) (46 ∷ decimal k) (digits_unfed u) (refl, digits_unfed k))
spelled_free (text t) e = (refl, joined (flat_map written_byte t) (34 ∷ []) (bytes t) (refl, tt))
spelled_free opens e = (refl, tt)
spelled_free closes e = (refl, tt)
spelled_free comma e = (refl, tt)
spelled_free colon e = (refl, tt)
spelled_free arrow e = (refl, (refl, tt))

gap_free : (b : Bool) → Unfed (let g : List ℕ = if b then [] else 32 ∷ [] in g)
gap_free true = tt
gap_free false = (refl, tt)

pub laid_free : (ws : List Word) → AllByRecursion IsFree ws → Unfed (laid_out ws)
unfolding laid_out
laid_free [] all = tt
laid_free (w ∷ []) all = spelled_free w all.0
laid_free (w ∷ v ∷ ws) all =
    joined (spelled w) (gap w v ++ laid_out (v ∷ ws)) (spelled_free w all.0) (joined (gap w v) (laid_out (v ∷ ws)) (gap_free (is_open w || is_tight v)) (laid_free (v ∷ ws) all.1))

-- ---- names

-- no line feed and no space
abbrev IsSolid : List ℕ → Type 0
IsSolid bs = AllByRecursion (λ b. (is_line_feed b ≡ false) × (nat_eq 32 b ≡ false)) bs

unfed : (bs : List ℕ) → IsSolid bs → Unfed bs
unfed [] all = tt
unfed (b ∷ bs) all = (all.0.0, unfed bs all.1)

begins_solid : (b : ℕ) → begins_name b ≡ true → (is_line_feed b ≡ false) × (nat_eq 32 b ≡ false)
begins_solid b e = (grind (arith, nat_tests), grind (arith, nat_tests))

continues_solid : (b : ℕ) → continues_name b ≡ true → (is_line_feed b ≡ false) × (nat_eq 32 b ≡ false)
continues_solid b e = (grind (arith, nat_tests), grind (arith, nat_tests))

rest_solid : (bs : List ℕ) → list_all continues_name bs ≡ true → IsSolid bs
rest_solid [] e = tt
rest_solid (b ∷ bs) e = let p = and_parts (continues_name b) (list_all continues_name bs) e in (continues_solid b p.0, rest_solid bs p.1)

solid : (n : List ℕ) → is_name n ≡ true → IsSolid n
solid [] e = tt
solid (b ∷ n) e = let p = and_parts (begins_name b) (list_all continues_name n) e in (begins_solid b p.0, rest_solid n p.1)

named : (earlier names : List Name) (r : ℕ) → AreNew earlier names → IsSolid (name_of names r)
named earlier [] r new = tt
named earlier (n ∷ names) zero new = solid n new.0
named earlier (n ∷ names) (suc r) new = named (earlier ++ n ∷ []) names r new.2

label : (earlier : List Name) (us : List SessionUpdate) (i : ℕ) → AreNew earlier (labels us) → Unfed (slice_index_or us i no_update).label
label earlier [] i new = tt
label earlier (u ∷ us) zero new = unfed u.label (solid u.label new.0)
label earlier (u ∷ us) (suc i) new = label (earlier ++ u.label ∷ []) us i new.2

curator : (rs : List RelationSchema) (n : ℕ) (us : List SessionUpdate) (i : ℕ) → AreUpdates rs n us → Unfed (slice_index_or us i no_update).curator
curator rs n [] i all = tt
curator rs n (u ∷ us) zero all = unfed u.curator (solid u.curator all.0.0)
curator rs n (u ∷ us) (suc i) all = curator rs (n + 1) us i all.1

-- ---- lines that are no head

-- The words of a line are without line feeds, and the line is not the head of a trace.
record IsOther (words : List Word) : Type 0 where
  free : AllByRecursion IsFree words
  other : is_head (laid_out words ++ 10 ∷ []) ≡ false

apart : (ps bs rest : List ℕ) → AllByRecursion (λ p. nat_eq p 40 ≡ false) ps → IsSolid bs → pointwise nat_eq (ps ++ 32 ∷ []) (take (length (ps ++ 32 ∷ [])) (bs ++ 40 ∷ rest)) ≡ false
apart [] [] rest none all = refl
apart [] (b ∷ bs) rest none all = rw all.0.1 refl
apart (p ∷ ps) [] rest none all = rw none.0 refl
apart (p ∷ ps) (b ∷ bs) rest none all =
    ap (λ c. nat_eq p b && c) (apart ps bs rest none.1 all.1) ∙ and-false (nat_eq p b)

named_apart : (n rest : List ℕ) → IsSolid n → is_head (n ++ 40 ∷ rest) ≡ false
named_apart n rest all = apart (codes "trace") n rest (refl, (refl, (refl, (refl, (refl, tt))))) all

opened : (ws : List Word) → (rest : List ℕ) × (laid_out (opens ∷ ws) ≡ 40 ∷ rest)
unfolding laid_out
opened [] = ([], refl)
opened (w ∷ ws) = (gap opens w ++ laid_out (w ∷ ws), refl)

named_line : (n : List ℕ) (ws : List Word) → IsSolid n → is_head (laid_out (name n ∷ opens ∷ ws) ++ 10 ∷ []) ≡ false
unfolding laid_out
named_line n ws all =
    let o = opened ws in
    ap (λ t. is_head ((n ++ t) ++ 10 ∷ [])) o.1 ∙ ap is_head (append_assoc n (40 ∷ o.0) (10 ∷ [])) ∙ named_apart n (o.0 ++ 10 ∷ []) all

-- ---- the words of tuples

value_free : (d : Datum) → AllByRecursion IsFree (one_word value_word d)
value_free (Number z) = (tt, tt)
value_free (Text t) = (tt, tt)
value_free (Unknown n) = (tt, tt)

values_free : (ds : List Datum) → AllByRecursion IsFree (separated (one_word value_word) ds)
values_free [] = tt
values_free (d ∷ []) = value_free d
values_free (d ∷ e ∷ ds) = all_join IsFree (one_word value_word d) (comma ∷ separated (one_word value_word) (e ∷ ds)) (value_free d) (tt, values_free (e ∷ ds))

mapped : {A : Type 0} (words : A → List Word) → ((x : A) → IsOther (words x)) → (xs : List A) → AllByRecursion IsOther (map words xs)
mapped words each [] = tt
mapped words each (x ∷ xs) = (each x, mapped words each xs)

module _ (s : SessionData) (v : IsSession s) where
  tuple_free : (t : Fact) → AllByRecursion IsFree (tuple_words s.relations t)
  tuple_free t = (
    unfed (name_of (relation_names s.relations) t.relation) (named [] (relation_names s.relations) t.relation v.relation_names),
    (tt, all_join IsFree (separated (one_word value_word) t.values) (closes ∷ []) (values_free t.values) (tt, tt)),
  )

  tuple_line : (t : Fact) → IsOther (tuple_words s.relations t)
  tuple_line t = record {
    free = tuple_free t;
    other = named_line (name_of (relation_names s.relations) t.relation) (separated (one_word value_word) t.values ++ closes ∷ []) (named [] (relation_names s.relations) t.relation v.relation_names);
  }

  -- ---- the lines of a result text

  update_free : (n : ℕ) → AllByRecursion IsFree (update_words s.updates n)
  update_free n = (tt, (label [] s.updates (n - 1) v.labels, (curator s.relations 0 s.updates (n - 1) v.updates, tt)))

  end_free : (e : End) → AllByRecursion IsFree (end_words e)
  end_free IsDone = (free (codes "done") refl, tt)
  end_free IsSpent = (free (codes "spent") refl, tt)
  end_free (IsRefused u k) = (free (codes "refused") refl, (tt, tt))

  finish_line : (n : ℕ) (f : FinishTold) → IsOther (finish_words s.updates n f)
  unfolding laid_out
  finish_line n f = record {
    free = (
      free (codes "update") refl,
      all_join IsFree (update_words s.updates n) (end_words f.outcome ++ name (codes "steps") ∷ number (pos f.steps) ∷ name (codes "nulls") ∷ number (pos f.nulls) ∷ []) (update_free n)
          (all_join IsFree (end_words f.outcome) (name (codes "steps") ∷ number (pos f.steps) ∷ name (codes "nulls") ∷ number (pos f.nulls) ∷ []) (end_free f.outcome)
          (free (codes "steps") refl, (tt, (free (codes "nulls") refl, (tt, tt))))),
    );
    other = refl;
  }

  finish_all : (n : ℕ) (fs : List FinishTold) → AllByRecursion IsOther (finish_lines s.updates n fs)
  finish_all n [] = tt
  finish_all n (f ∷ fs) = (finish_line n f, finish_all (n + 1) fs)

  candidate_line : (t : Fact) → IsOther (name (codes "candidate") ∷ tuple_words s.relations t)
  unfolding laid_out
  candidate_line t = record { free = (free (codes "candidate") refl, tuple_free t); other = refl }

  mapping_free : (m : ℕ) → Unfed (name_of (mapping_names s.mappings) m)
  mapping_free m = unfed (name_of (mapping_names s.mappings) m) (named [] (mapping_names s.mappings) m v.mapping_names)

  question_all : (q : Inquiry) → AllByRecursion IsOther (question_lines s q)
  unfolding laid_out
  question_all (PositiveInquiry m t cs) = (
    record { free = (free (codes "question") refl, (free (codes "positive") refl, (mapping_free m, tuple_free t))); other = refl },
    mapped (λ x. name (codes "candidate") ∷ tuple_words s.relations x) candidate_line cs,
  )
  question_all (NegativeInquiry m ts) = (
    record { free = (free (codes "question") refl, (free (codes "negative") refl, (mapping_free m, tt))); other = refl },
    mapped (λ x. name (codes "candidate") ∷ tuple_words s.relations x) candidate_line ts,
  )

  lack_free : (l : Lack) → Unfed (lack_name l)
  lack_free Missing = free (codes "missing") refl
  lack_free Misfit = free (codes "misfit") refl

  stop_all : (o : Option StopTold) → AllByRecursion IsOther (stop_lines_in s o)
  unfolding laid_out
  stop_all None = tt
  stop_all (Some stop) = (
    record { free = (free (codes "stuck") refl, all_join IsFree (update_words s.updates stop.number) (name (lack_name stop.lack) ∷ []) (update_free stop.number) (lack_free stop.lack, tt)); other = refl },
    question_all stop.question,
  )

  repository_all : (ts : List Fact) → AllByRecursion IsOther (repository_lines s.relations ts)
  unfolding laid_out
  repository_all ts = (record { free = (free (codes "repository") refl, (tt, tt)); other = refl }, mapped (tuple_words s.relations) tuple_line ts)

  title_line : IsOther title_words
  unfolding laid_out
  title_line = record { free = (free (codes "youtopia") refl, (free (codes "result") refl, (tt, tt))); other = refl }

  committed_line : (fs : List FinishTold) → IsOther (committed_words fs s.updates)
  unfolding laid_out
  committed_line fs = record { free = (free (codes "committed") refl, (tt, (free (codes "of") refl, (tt, tt)))); other = refl }

  result_all : (r : ResultTold) → AllByRecursion IsOther (result_lines s r)
  result_all r = (
    title_line,
    all_join IsOther (finish_lines s.updates 1 r.finishes) (stop_lines_in s r.stop ++ (repository_lines s.relations r.repository ++ committed_words r.finishes s.updates ∷ [])) (finish_all 1 r.finishes)
        (all_join IsOther (stop_lines_in s r.stop) (repository_lines s.relations r.repository ++ committed_words r.finishes s.updates ∷ []) (stop_all r.stop)
        (all_join IsOther (repository_lines s.relations r.repository) (committed_words r.finishes s.updates ∷ []) (repository_all r.repository) (committed_line r.finishes, tt))),
  )

  -- ---- a result text with a trace after it

  abbrev line : List Word → List ℕ
  line ws = laid_out ws ++ 10 ∷ []

  all_unfed : (ls : List (List Word)) → AllByRecursion IsOther ls → AllByRecursion (λ ws. Unfed (laid_out ws)) ls
  all_unfed [] all = tt
  all_unfed (l ∷ ls) all = (laid_free l all.0.free, all_unfed ls all.1)

  all_others : (ls : List (List Word)) → AllByRecursion IsOther ls → AllByRecursion (λ l. is_head l ≡ false) (map (λ ws. laid_out ws ++ 10 ∷ []) ls)
  all_others [] all = tt
  all_others (l ∷ ls) all = (all.0.other, all_others ls all.1)

  module _ (r : ResultTold) (H : List PlainEntry) where
    lines : lines_in (result_text s r ++ trace_text s.relations H) ≡ map line (result_lines s r) ++ lines_in (trace_text s.relations H)
    lines = lines_are laid_out (result_lines s r) (trace_text s.relations H) (all_unfed (result_lines s r) (result_all r))

    head : lines_in (trace_text s.relations H) ≡ ((codes "trace " ++ decimal (length H)) ++ 10 ∷ []) ∷ lines_in (flat_map (entry_line s.relations) H)
    head =
        ap lines_in (sym (append_assoc (codes "trace ") (decimal (length H)) (10 ∷ flat_map (entry_line s.relations) H)))
        ∙ line_cut (codes "trace " ++ decimal (length H)) (flat_map (entry_line s.relations) H) (joined (codes "trace ") (decimal (length H)) (free (codes "trace ") refl) (digits_unfed (length H)))

    none_before : before is_head (lines_in (trace_text s.relations H)) ≡ []
    none_before = ap (before is_head) head

    all_from : from is_head (lines_in (trace_text s.relations H)) ≡ lines_in (trace_text s.relations H)
    all_from = ap (from is_head) head ∙ sym head

    pub result_is : result_in (result_text s r ++ trace_text s.relations H) ≡ result_text s r
    result_is =
        ap (λ ls. concat (before is_head ls)) lines
        ∙ ap concat (before_after is_head (map line (result_lines s r)) (lines_in (trace_text s.relations H)) (all_others (result_lines s r) (result_all r)))
        ∙ ap (λ ls. concat (map line (result_lines s r) ++ ls)) none_before ∙ ap concat (append-nil (map line (result_lines s r))) ∙ text_is laid_out (result_lines s r)

    pub trace_is : after_result (result_text s r ++ trace_text s.relations H) ≡ trace_text s.relations H
    trace_is =
        ap (λ ls. concat (from is_head ls)) lines
        ∙ ap concat (from_after is_head (map line (result_lines s r)) (lines_in (trace_text s.relations H)) (all_others (result_lines s r) (result_all r)))
        ∙ ap concat all_from ∙ whole (trace_text s.relations H)

    pub known : IsResult (result_text s r ++ trace_text s.relations H)
    unfolding laid_out digits
    known =
        let others = finish_lines s.updates 1 r.finishes ++ (stop_lines_in s r.stop ++ (repository_lines s.relations r.repository ++ committed_words r.finishes s.updates ∷ [])) in
        let rest = lines_text others ++ trace_text s.relations H in
        let parted : result_text s r ++ trace_text s.relations H ≡ laid_out title_words ++ 10 ∷ rest =
        ap (λ t. t ++ trace_text s.relations H) (flat_map-cons line title_words others) ∙ append_assoc (line title_words) (lines_text others) (trace_text s.relations H) ∙ append_assoc (laid_out title_words) (10 ∷ []) rest in
        ap bare parted ∙ bare_cut (laid_out title_words) rest (laid_free title_words title_line.free)
