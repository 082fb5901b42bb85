-- The printed updates of a session, with their answers, build the rest of it.
use Rattle.std.proofs.Common.{◌≡◌, ℕ, ◌+◌, ◌<◌, ◌≤◌, Bool, true, false, List, [], ◌∷◌, ◌++◌, length, refl, sym, ap, ◌∙◌, subst, arith, append_assoc, append-nil, length-append}
use Rattle.std.specs.Prelude.{Ok, Some, map, slice_get, fold, if◌then◌else◌}
use Rattle.std.specs.List.{AllByRecursion}
use Rattle.std.proofs.lemmas.List.{map-append, length-map}
use Rattle.std.proofs.lemmas.List.Sums.{fold-append, sum_by-append}
use Rattle.std.proofs.Math.Seq.{set-append_seam}
use Rattle.def_chase.specs.Values.{Fact}
use Rattle.def_chase.specs.Updates.{Choice, Expand, Unify, Drop}
use Rattle.def_language.specs.Names.{Name, same_name, is_one_of, place_of, with_new, firsts}
use Rattle.def_language.specs.Statements.{Answer}
use Rattle.def_language.specs.Forms.{Updates}
use Rattle.def_language.specs.Sessions.{RelationSchema, SessionMapping, SessionUpdate, relation_names, labels, curators, answer_count, most_answers}
use Rattle.def_language.specs.Meaning.{bounded_fact}
use Rattle.def_language.specs.Checks.{curators_full, choice_of, add_answer}
use Rattle.def_language.specs.Printing.{written_fact, written_choice}
use Rattle.def_language.specs.Validity.{AreNames, IsName, IsRelation, IsFact, IsChoice}
use Rattle.def_language.proofs.Called.{at_seam}
use Rattle.def_language.proofs.Means.{fact_means, each_again}
use Rattle.def_language.proofs.Spoken.{choice_printed, choice_sayable, choice_members}
use Rattle.def_language.proofs.Runs.{Runs}
use Rattle.def_language.proofs.Build.{so_far, room_left}

-- ---- answers

module _ (relations : List RelationSchema) (names : AreNames (relation_names relations)) where
  pub choice_means : (most : ℕ) (choice : Choice) → IsChoice relations most choice → choice_of relations most (written_choice relations choice) ≡ Ok choice
  unfolding choice_of
  choice_means most Expand good = refl
  choice_means most (Unify t) good = rw (fact_means relations most t names good) refl
  choice_means most (Drop ts) good =
      rw (each_again (bounded_fact relations most) (written_fact relations) (IsFact relations most) (λ t g. fact_means relations most t names g) ts good.1) refl

-- what stands after others stands at the place of their number
pub get_seam : {A : Type 0} (xs : List A) (y : A) (ys : List A) → slice_get (xs ++ y ∷ ys) (length xs) ≡ Some y
get_seam [] y ys = refl
get_seam (x ∷ xs) y ys = get_seam xs y ys

-- the update with the answers that were read
abbrev pub answered_so : SessionUpdate → List Choice → SessionUpdate
answered_so u given = record { label = u.label; curator = u.curator; operation = u.operation; answers = given }

module _ (f : ℕ) (relations : List RelationSchema) (mappings : List SessionMapping) (base : List Fact) (names : AreNames (relation_names relations)) (some : AllByRecursion IsRelation relations) (before : List SessionUpdate) (u : SessionUpdate) (called : IsName u.label) (new : is_one_of (labels before) u.label ≡ false) (few : length before < 1000) where
  label_place : (given : List Choice) → place_of (labels (before ++ answered_so u given ∷ [])) u.label ≡ length before
  label_place given =
      let n : length (labels before) ≡ length before = length-map before (λ (x : SessionUpdate). x.label) in
      ap (λ (ns : List Name). place_of ns u.label) (map-append (λ (x : SessionUpdate). x.label) before (answered_so u given ∷ [])) ∙ at_seam (labels before) u.label [] new ∙ n

  answer_added : (given : List Choice) (choice : Choice) → IsChoice relations (length before + 1) choice → answer_count (before ++ answered_so u given ∷ []) < most_answers f
      → add_answer (so_far f relations mappings base (before ++ answered_so u given ∷ [])) u.label (written_choice relations choice) ≡ Ok (so_far f relations mappings base (before ++ answered_so u (given ++ choice ∷ []) ∷ []))
  unfolding add_answer
  answer_added given choice good lt =
      rw (
        label_place given,
        get_seam before (answered_so u given) [],
        room_left (answer_count (before ++ answered_so u given ∷ [])) (most_answers f) lt,
        choice_means relations names (length before + 1) choice good,
        set-append_seam before (answered_so u given) [] (answered_so u (given ++ choice ∷ [])),
      ) refl

  count_of : (given : List Choice) → answer_count (before ++ answered_so u given ∷ []) ≡ answer_count before + (0 + length given)
  count_of given = sum_by-append (λ (x : SessionUpdate). length x.answers) before (answered_so u given ∷ [])

  pub answers_run : (given rest : List Choice) → AllByRecursion (IsChoice relations (length before + 1)) rest → answer_count before + length given + length rest ≤ most_answers f
      → Runs Updates (so_far f relations mappings base (before ++ answered_so u given ∷ [])) (map (λ choice. Answer u.label (written_choice relations choice)) rest) (so_far f relations mappings base (before ++ answered_so u (given ++ rest) ∷ []))
  answers_run given [] all le = ap (λ (cs : List Choice). so_far f relations mappings base (before ++ answered_so u cs ∷ [])) (sym (append-nil given))
  answers_run given (choice ∷ rest) all le =
      let e : (given ++ choice ∷ []) ++ rest ≡ given ++ choice ∷ rest = append_assoc given (choice ∷ []) rest in
      let others = answers_run (given ++ choice ∷ []) rest all.1 (omega (arith, length-append given (choice ∷ []))) in (
        record {
          after_header = tt;
          begun = omega arith;
          open_ = omega arith;
          in_order = omega arith;
          sayable = choice_sayable relations names some (length before + 1) choice all.0;
          words = ((refl, tt), ((called, tt), choice_printed relations names some (length before + 1) (omega arith) choice all.0));
          members = choice_members relations names some (length before + 1) choice all.0;
        },
        (
          so_far f relations mappings base (before ++ answered_so u (given ++ choice ∷ []) ∷ []),
          answer_added given choice all.0 (omega (arith, count_of given)),
          subst (λ (cs : List Choice). Runs Updates (so_far f relations mappings base (before ++ answered_so u (given ++ choice ∷ []) ∷ [])) (map (λ choice. Answer u.label (written_choice relations choice)) rest) (so_far f relations mappings base (before ++ answered_so u cs ∷ []))) e others,
        ),
      )

-- ---- curators

new_longer : (seen : List Name) (n : Name) → length seen ≤ length (with_new same_name seen n)
new_longer seen n = by (is_one_of seen n) where
  by : (b : Bool) → length seen ≤ length (let ns : List Name = if b then seen else seen ++ n ∷ [] in ns)
  by true = omega arith
  by false = omega (arith, length-append seen (n ∷ []))

fold_longer : (names seen : List Name) → length seen ≤ length (fold (with_new same_name) seen names)
fold_longer [] seen = omega arith
fold_longer (n ∷ names) seen = omega (arith, new_longer seen n, fold_longer names (with_new same_name seen n))

-- there is room for the curator of an update of a session
pub curator_room : (before : List SessionUpdate) (u : SessionUpdate) (updates : List SessionUpdate) → length (curators (before ++ u ∷ updates)) ≤ 64 → curators_full before u.curator ≡ false
curator_room before u updates le = by (is_one_of (curators before) u.curator) refl where
  all : curators (before ++ u ∷ updates) ≡ fold (with_new same_name) (with_new same_name (curators before) u.curator) (map (λ (x : SessionUpdate). x.curator) updates)
  all = ap (firsts same_name) (map-append (λ (x : SessionUpdate). x.curator) before (u ∷ updates)) ∙ fold-append (with_new same_name) [] (map (λ (x : SessionUpdate). x.curator) before) (map (λ (x : SessionUpdate). x.curator) (u ∷ updates))

  by : (b : Bool) → is_one_of (curators before) u.curator ≡ b → curators_full before u.curator ≡ false
  by true e = rw e refl
  by false e =
      let longer : with_new same_name (curators before) u.curator ≡ curators before ++ u.curator ∷ [] = rw e refl in
      let more : length (with_new same_name (curators before) u.curator) ≤ length (curators (before ++ u ∷ updates)) = subst (λ (ns : List Name). length (with_new same_name (curators before) u.curator) ≤ length ns) (sym all) (fold_longer (map (λ (x : SessionUpdate). x.curator) updates) (with_new same_name (curators before) u.curator)) in
      let n : length (with_new same_name (curators before) u.curator) ≡ length (curators before) + 1 = ap length longer ∙ length-append (curators before) (u.curator ∷ []) in
      rw (e, room_left (length (curators before)) 64 (omega arith)) refl
