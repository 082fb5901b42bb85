-- The printed form of a session spells it.
use Rattle.std.proofs.Common.{◌≡◌, ℕ, ◌+◌, ◌≤◌, ◌⊎◌, inl, inr, Bool, true, false, List, [], ◌∷◌, ◌++◌, length, refl, sym, ap, ◌∙◌, subst, arith, append_assoc, append-nil, length-append}
use Rattle.std.specs.Prelude.{pos, map, flat_map, IsUtf8}
use Rattle.std.specs.List.{AllByRecursion}
use Rattle.std.proofs.lemmas.Bool.{eqb-true}
use Rattle.std.proofs.lemmas.List.{map-append}
use Rattle.def_chase.specs.Mappings.{Rule}
use Rattle.def_language.specs.Names.{Name}
use Rattle.def_language.specs.Statements.{Statement, Relation, Mapping, Base, Answer, End}
use Rattle.def_language.specs.Grammar.{statement_words}
use Rattle.def_language.specs.Forms.{Section, Relations, Updates, Ended, rank}
use Rattle.def_language.specs.Sessions.{SessionMapping, SessionUpdate, SessionData, empty_session, mapping_names, is_initial, initial_mappings, added_mappings}
use Rattle.def_language.specs.Cycles.{HasPlainCycle}
use Rattle.def_language.specs.Checks.{rules_of}
use Rattle.def_language.specs.Lines.{lines_from, begun, Spells}
use Rattle.def_language.specs.Printing.{written_fact, written_mapping, update_statements, statements_of, line_text, printed, written_choice}
use Rattle.def_language.specs.Validity.{AreNew, IsMapping, IsSession, enactments}
use Rattle.def_language.proofs.Ascii.{text_read}
use Rattle.def_language.proofs.Closure.{cycle_grows}
use Rattle.def_language.proofs.Paper.{split_lines, laid_line, IsLine}
use Rattle.def_language.proofs.Spoken.{ArePrinted, front_all, back_all}
use Rattle.def_language.proofs.Runs.{Fits, Runs, last_section, last_joined, runs_on, whole_read, runs_printed, runs_members, header_words, printed_line, spoken_words}
use Rattle.def_language.proofs.Build.{so_far, next_names, Within, relations_run, still_relations, mappings_run, mappings_within, base_run, base_within}
use Rattle.def_language.proofs.Whole.{Coming, updates_run, still_updates}
use Rattle.def_language.specs.Texts.{HasMembers, statement_text}
use Rattle.def_language.proofs.Direct.{statement_laid}
use Rattle.def_language.proofs.Utf.{laid_text, lines_text}

-- ---- fronts and backs

front_new : {A : Type 0} (called : A → Name) (before : List Name) (xs ys : List A) → AreNew before (map called (xs ++ ys)) → AreNew before (map called xs)
front_new called before [] ys new = tt
front_new called before (x ∷ xs) ys new = (new.0, new.1, front_new called (before ++ called x ∷ []) xs ys new.2)

back_new : {A : Type 0} (called : A → Name) (before xs ys : List A) → AreNew (map called before) (map called (xs ++ ys)) → AreNew (map called (before ++ xs)) (map called ys)
back_new called before [] ys new = subst (λ (zs : List _). AreNew (map called zs) (map called ys)) (sym (append-nil before)) new
back_new {A} called before (x ∷ xs) ys new =
    subst (λ (zs : List A). AreNew (map called zs) (map called ys)) (append_assoc before (x ∷ []) xs) (back_new called (before ++ x ∷ []) xs ys (next_names called before x (map called (xs ++ ys)) new.2))

-- ---- the mappings of the session, and those that updates add

are_initial : (ms : List SessionMapping) → AllByRecursion (λ m. m.rule.since ≡ 0) (initial_mappings ms)
are_initial [] = tt
are_initial (m ∷ ms) = by (are_initial ms) (is_initial m) refl where
  by : AllByRecursion (λ m. m.rule.since ≡ 0) (initial_mappings ms) → (b : Bool) → is_initial m ≡ b → AllByRecursion (λ m. m.rule.since ≡ 0) (initial_mappings (m ∷ ms))
  by others true e = rw e (eqb-true m.rule.since 0 e, others)
  by others false e = rw e others

none_added : (ms : List SessionMapping) → AllByRecursion (λ m. m.rule.since ≡ 0) ms → added_mappings ms ≡ []
none_added [] all = refl
none_added (m ∷ ms) all = rw (all.0, none_added ms all.1) refl

updates_within : (s : SessionData) (section : Section) (us : List SessionUpdate) → Within section 4 → Within (last_section section (flat_map (update_statements s) us)) 4
updates_within s section [] w = w
updates_within s section (u ∷ us) w =
    let answers : List Statement = map (λ choice. Answer u.label (written_choice s.relations choice)) u.answers in
    let e : last_section section (flat_map (update_statements s) (u ∷ us)) ≡ last_section Updates (flat_map (update_statements s) us) =
    last_joined Updates answers (flat_map (update_statements s) us) ∙ ap (λ (x : Section). last_section x (flat_map (update_statements s) us)) (still_updates u.label s.relations u.answers) in
    subst (λ (x : Section). Within x 4) (sym e) (updates_within s Updates us (record { low = omega arith; high = omega arith }))

end_fits : (f : ℕ) (section : Section) → Within section 4 → Fits section f End
end_fits f section w =
    let high : rank section ≤ 4 = w.high in
    record { after_header = tt; begun = w.low; open_ = omega arith; in_order = omega arith; sayable = tt; words = ((refl, tt), tt); members = tt }

each_directly : (sts : List Statement) → AllByRecursion HasMembers sts → flat_map line_text sts ≡ flat_map (λ st. statement_text st ++ 10 ∷ []) sts
each_directly [] all = refl
each_directly (st ∷ sts) all = rw (statement_laid st all.0, each_directly sts all.1) refl

module _ (s : SessionData) (valid : IsSession s) where
  abbrev parts : (List Statement) × (List Statement) × (List Statement) × (List Statement)
  parts = (
    map (λ r. Relation r.name (pos r.arity)) s.relations,
    map (λ m. Mapping (written_mapping s.relations m)) (initial_mappings s.mappings),
    map (λ t. Base (written_fact s.relations t)) s.base,
    flat_map (update_statements s) s.updates,
  )

  abbrev rest : List Statement
  rest = parts.0 ++ (parts.1 ++ (parts.2 ++ (parts.3 ++ End ∷ [])))

  abbrev section_1 : Section
  section_1 = last_section Relations parts.0

  abbrev section_2 : Section
  section_2 = last_section section_1 parts.1

  abbrev section_3 : Section
  section_3 = last_section section_2 parts.2

  abbrev section_4 : Section
  section_4 = last_section section_3 parts.3

  within_1 : Within section_1 2
  within_1 = subst (λ (x : Section). Within x 2) (sym (still_relations s.relations)) (record { low = omega arith; high = omega arith })

  wider : (section : Section) (n : ℕ) → Within section n → Within section (n + 1)
  wider section n w = record { low = w.low; high = omega (arith, w.high) }

  within_2 : Within section_2 3
  within_2 = wider section_2 2 (mappings_within s.relations section_1 (initial_mappings s.mappings) within_1)

  within_3 : Within section_3 4
  within_3 = wider section_3 3 (base_within s.relations section_2 s.base within_2)

  within_4 : Within section_4 4
  within_4 = updates_within s section_3 s.updates within_3

  abbrev named : SessionMapping → Name
  named m = m.name

  split_names : AreNew [] (mapping_names (initial_mappings s.mappings ++ added_mappings s.mappings))
  split_names = subst (λ (ms : List SessionMapping). AreNew [] (mapping_names ms)) valid.added_last valid.mapping_names

  split_good : AllByRecursion (IsMapping s.relations) (initial_mappings s.mappings ++ added_mappings s.mappings)
  split_good = subst (AllByRecursion (IsMapping s.relations)) valid.added_last valid.mappings

  no_initial_cycle : HasPlainCycle (length s.relations) (rules_of (initial_mappings s.mappings)) → ⊥
  no_initial_cycle c =
      let e : rules_of (initial_mappings s.mappings) ++ rules_of (added_mappings s.mappings) ≡ rules_of s.mappings =
      sym (map-append (λ (x : SessionMapping). x.rule) (initial_mappings s.mappings) (added_mappings s.mappings)) ∙ ap rules_of (sym valid.added_last) in
      valid.no_cycle (subst (λ (ms : List Rule). HasPlainCycle (length s.relations) ms) e (cycle_grows (length s.relations) (rules_of (initial_mappings s.mappings)) (rules_of (added_mappings s.mappings)) c))

  two_or_none : (s.format ≡ 1) ⊎ (s.format ≡ 2) → 1 ≤ length (added_mappings s.mappings) → s.format ≡ 2
  two_or_none (inl one) some = absurd (omega (arith, some, ap length (valid.added_format one)))
  two_or_none (inr two) some = two

  coming : Coming s valid (initial_mappings s.mappings) (added_mappings s.mappings) (enactments 1 s.updates)
  coming = record {
    whole = valid.added_last;
    names = back_new named [] (initial_mappings s.mappings) (added_mappings s.mappings) split_names;
    good = back_all (IsMapping s.relations) (initial_mappings s.mappings) (added_mappings s.mappings) split_good;
    since = valid.added_by_updates;
    few = omega (arith, ap length (none_added (initial_mappings s.mappings) (are_initial s.mappings)), valid.added_count);
    two = two_or_none valid.format;
  }

  runs : Runs Relations (empty_session s.format) rest s
  runs =
      let n : length s.mappings ≡ length (initial_mappings s.mappings) + length (added_mappings s.mappings) = ap length valid.added_last ∙ length-append (initial_mappings s.mappings) (added_mappings s.mappings) in
      let one = relations_run s.format [] s.relations valid.relation_names valid.relations (omega (arith, valid.relation_count)) in
      let two = mappings_run s.format s.relations valid.relation_names valid.relations section_1 [] (initial_mappings s.mappings) within_1.low within_1.high
      (front_new named [] (initial_mappings s.mappings) (added_mappings s.mappings) split_names) (front_all (IsMapping s.relations) (initial_mappings s.mappings) (added_mappings s.mappings) split_good)
      (are_initial s.mappings) (omega (arith, n, valid.mapping_count)) no_initial_cycle in
      let three = base_run s.format s.relations (initial_mappings s.mappings) valid.relation_names valid.relations section_2 [] s.base within_2 valid.base_order valid.base (omega (arith, valid.base_count)) in
      let four = updates_run s valid section_3 (initial_mappings s.mappings) (added_mappings s.mappings) [] s.updates within_3 refl coming valid.labels valid.updates in
      let five : Runs section_4 s (End ∷ []) s = (end_fits s.format section_4 within_4, (s, refl, refl)) in
      let a : SessionData = so_far s.format s.relations [] [] [] in
      let b : SessionData = so_far s.format s.relations (initial_mappings s.mappings) [] [] in
      let c : SessionData = so_far s.format s.relations (initial_mappings s.mappings) s.base [] in
      runs_on Relations (empty_session s.format) a s parts.0 (parts.1 ++ (parts.2 ++ (parts.3 ++ End ∷ []))) one
      (runs_on section_1 a b s parts.1 (parts.2 ++ (parts.3 ++ End ∷ [])) two
      (runs_on section_2 b c s parts.2 (parts.3 ++ End ∷ []) three (runs_on section_3 c s s parts.3 (End ∷ []) four five)))

  ends : last_section Relations rest ≡ Ended
  ends =
      last_joined Relations parts.0 (parts.1 ++ (parts.2 ++ (parts.3 ++ End ∷ []))) ∙ last_joined section_1 parts.1 (parts.2 ++ (parts.3 ++ End ∷ []))
      ∙ last_joined section_2 parts.2 (parts.3 ++ End ∷ []) ∙ last_joined section_3 parts.3 (End ∷ [])

  all_printed : AllByRecursion (λ st. ArePrinted (statement_words st)) (statements_of s)
  all_printed = (header_words s.format valid.format, runs_printed Relations (empty_session s.format) s rest runs)

  line_each : (sts : List Statement) → AllByRecursion (λ st. ArePrinted (statement_words st)) sts → AllByRecursion (λ st. IsLine (printed_line st)) sts
  line_each [] all = tt
  line_each (st ∷ sts) all = (laid_line (statement_words st) (spoken_words (statement_words st) all.0), line_each sts all.1)

  text_each : (sts : List Statement) → AllByRecursion (λ st. ArePrinted (statement_words st)) sts → AllByRecursion (λ st. IsUtf8 (printed_line st)) sts
  text_each [] all = tt
  text_each (st ∷ sts) all = (laid_text (statement_words st) all.0, text_each sts all.1)

  pub printed_is_text : IsUtf8 (printed s)
  printed_is_text = lines_text printed_line (statements_of s) (text_each (statements_of s) all_printed)

  pub session_again : Spells (printed s) s
  session_again =
      text_read (printed s) printed_is_text
      ∙ ap (lines_from 0 0 begun) (split_lines printed_line (statements_of s) (line_each (statements_of s) all_printed))
      ∙ whole_read s.format rest s valid.format runs ends

  all_members : AllByRecursion HasMembers (statements_of s)
  all_members = (tt, runs_members Relations (empty_session s.format) s rest runs)

  -- the lines, written directly
  pub printed_directly : printed s ≡ flat_map (λ st. statement_text st ++ 10 ∷ []) (statements_of s)
  printed_directly = each_directly (statements_of s) all_members
