-- A session that is printed is read again: its updates, and then all of it.
use Rattle.std.proofs.Common.{◌≡◌, ℕ, ◌+◌, ◌<◌, ◌≤◌, Bool, true, false, List, [], ◌∷◌, ◌++◌, length, refl, sym, ap, ◌∙◌, subst, arith, append_assoc, append-nil, length-append}
use Rattle.std.specs.Prelude.{Ok, map, not, ◌&&◌, ◌==◌, flat_map, slice_index_or, if◌then◌else◌}
use Rattle.std.specs.List.{AllByRecursion}
use Rattle.std.proofs.lemmas.List.Elements.{filter-append}
use Rattle.std.proofs.lemmas.List.Sums.{sum_by-append}
use Rattle.std.proofs.Math.Seq.{get_or-append_seam}
use Rattle.def_chase.specs.Values.{Unknown}
use Rattle.def_chase.specs.Updates.{Operation, Adds, Removes, Replaces, Enacts, Choice}
use Rattle.def_language.specs.Names.{Name, is_one_of}
use Rattle.def_language.specs.Statements.{AddMapping, Answer}
use Rattle.def_language.specs.Grammar.{operation_words}
use Rattle.def_language.specs.Forms.{Section, Updates, rank}
use Rattle.def_language.specs.Texts.{OperationHasMembers}
use Rattle.def_language.specs.Sayable.{IsWrittenOperation}
use Rattle.def_language.specs.Sessions.{RelationSchema, SessionMapping, SessionUpdate, SessionData, mapping_names, labels, curators, answer_count, is_initial, added_mappings, most_answers}
use Rattle.def_language.specs.Cycles.{HasPlainCycle}
use Rattle.def_language.specs.Checks.{mappings_full, rules_of, add_mapping, operation_of, add_update}
use Rattle.def_language.specs.Printing.{written_mapping, no_mapping, written_operation, written_choice, update_statements}
use Rattle.def_language.specs.Validity.{AreNew, IsValue, IsMapping, IsOperation, AreUpdates, enacted, enactments, sinces, IsSession}
use Rattle.def_language.proofs.Means.{fact_means, nulls_again}
use Rattle.def_language.proofs.Spoken.{ArePrinted, value_printed, value_outer, fact_printed, fact_sayable, mapping_printed, mapping_sayable, mapping_members}
use Rattle.def_language.proofs.Runs.{Runs, last_section, runs_on}
use Rattle.def_language.proofs.Build.{so_far, room_left, next_names, Within, mapping_added, front_acyclic}
use Rattle.def_language.proofs.Acts.{answered_so, answers_run, curator_room}

abbrev Pair : Type 0
Pair = ℕ × ℕ

heads : (x y : Pair) (xs ys : List Pair) → x ∷ xs ≡ y ∷ ys → x ≡ y
heads x y xs ys e = cc

tails : (x y : Pair) (xs ys : List Pair) → x ∷ xs ≡ y ∷ ys → xs ≡ ys
tails x y xs ys e = cc

pub still_updates : (label : Name) (relations : List RelationSchema) (choices : List Choice) → last_section Updates (map (λ choice. Answer label (written_choice relations choice)) choices) ≡ Updates
still_updates label relations [] = refl
still_updates label relations (c ∷ choices) = still_updates label relations choices

pub empty_sinces : (n : ℕ) (more : List SessionMapping) → [] ≡ sinces n more → more ≡ []
empty_sinces n [] e = refl
empty_sinces n (m ∷ more) e = let f : ⊥ = cc in absurd f

module _ (s : SessionData) (valid : IsSession s) where
  -- the mappings that the updates which are left add, with these numbers
  pub record Coming (done more : List SessionMapping) (pairs : List Pair) : Type 0 where
    pub whole : s.mappings ≡ done ++ more
    pub names : AreNew (mapping_names done) (mapping_names more)
    pub good : AllByRecursion (IsMapping s.relations) more
    pub since : pairs ≡ sinces (length done) more
    pub few : length (added_mappings done) + length more ≤ 16
    pub two : 1 ≤ length more → s.format ≡ 2

  -- what an operation does, with the mappings that are there then and those that are left
  record Act (done : List SessionMapping) (before : List SessionUpdate) (op : Operation) (us : List SessionUpdate) : Type 0 where
    after : List SessionMapping
    left : List SessionMapping
    performed : operation_of (so_far s.format s.relations done s.base before) (written_operation s op) ≡ Ok (op, so_far s.format s.relations after s.base before)
    printed : ArePrinted (operation_words (written_operation s op))
    sayable : IsWrittenOperation s.format (written_operation s op)
    members : OperationHasMembers (written_operation s op)
    coming : Coming after left (enactments (length before + 1 + 1) us)

  added_more : (done : List SessionMapping) (m : SessionMapping) → length (added_mappings (done ++ m ∷ [])) ≤ length (added_mappings done) + 1
  added_more done m = by (is_initial m) (filter-append (λ (x : SessionMapping). not (is_initial x)) done (m ∷ [])) where
    by : (b : Bool) → added_mappings (done ++ m ∷ []) ≡ added_mappings done ++ (let ms : List SessionMapping = if not b then m ∷ [] else [] in ms) → length (added_mappings (done ++ m ∷ [])) ≤ length (added_mappings done) + 1
    by true e = omega (arith, ap length e, length-append (added_mappings done) [])
    by false e = omega (arith, ap length e, length-append (added_mappings done) (m ∷ []))

  room_for : (done : List SessionMapping) (since : ℕ) → length done < 64 → length (added_mappings done) < 16 → mappings_full done since ≡ false
  room_for done since lt lt' = rw (room_left (length done) 64 lt, room_left (length (added_mappings done)) 16 lt') (by (since == 0)) where
    by : (b : Bool) → (not b && false) ≡ false
    by true = refl
    by false = refl

  enact : (place : ℕ) (done more : List SessionMapping) (before : List SessionUpdate) (us : List SessionUpdate) → Coming done more ((place, length before + 1) ∷ enactments (length before + 1 + 1) us) → Act done before (Enacts place) us
  unfolding operation_of
  enact place done [] before us coming = let e : (place, length before + 1) ∷ enactments (length before + 1 + 1) us ≡ [] = coming.since in let f : ⊥ = cc in absurd f
  enact place done (m ∷ more) before us coming =
      let now : Pair = (place, length before + 1) in
      let then_ : Pair = (length done, m.rule.since) in
      let first : now ≡ then_ = heads now then_ (enactments (length before + 1 + 1) us) (sinces (length done + 1) more) coming.since in
      let here : place ≡ length done = ap (λ (p : Pair). p.0) first in
      let since : m.rule.since ≡ length before + 1 = sym (ap (λ (p : Pair). p.1) first) in
      let rest : enactments (length before + 1 + 1) us ≡ sinces (length done + 1) more = tails now then_ (enactments (length before + 1 + 1) us) (sinces (length done + 1) more) coming.since in
      let n : length done + 1 ≡ length (done ++ m ∷ []) = omega (arith, length-append done (m ∷ [])) in
      let found : slice_index_or s.mappings place no_mapping ≡ m =
      ap (λ (ms : List SessionMapping). slice_index_or ms place no_mapping) coming.whole ∙ ap (λ k. slice_index_or (done ++ m ∷ more) k no_mapping) here ∙ get_or-append_seam done m more no_mapping in
      let size : length done + length (m ∷ more) ≤ 64 = omega (arith, valid.mapping_count, ap length coming.whole, length-append done (m ∷ more)) in
      let none : HasPlainCycle (length s.relations) (rules_of (done ++ m ∷ more)) → ⊥ = λ c. valid.no_cycle (subst (λ (ms : List SessionMapping). HasPlainCycle (length s.relations) (rules_of ms)) (sym coming.whole) c) in
      let added = mapping_added (so_far s.format s.relations done s.base before) m valid.relation_names coming.good.0 coming.names.1 (room_for done m.rule.since (omega arith) (omega (arith, coming.few))) (front_acyclic (length s.relations) done m more none) in
      let added_then : add_mapping (so_far s.format s.relations done s.base before) (length before + 1) (written_mapping s.relations m) ≡ Ok (so_far s.format s.relations (done ++ m ∷ []) s.base before) =
      subst (λ k. add_mapping (so_far s.format s.relations done s.base before) k (written_mapping s.relations m) ≡ Ok (so_far s.format s.relations (done ++ m ∷ []) s.base before)) since added in
      record {
        after = done ++ m ∷ [];
        left = more;
        performed = rw (found, added_then, here) refl;
        printed = subst (λ (x : SessionMapping). ArePrinted (operation_words (AddMapping (written_mapping s.relations x)))) (sym found) ((refl, tt), mapping_printed s.relations valid.relation_names valid.relations m coming.good.0 coming.names.0);
        sayable = subst (λ (x : SessionMapping). IsWrittenOperation s.format (AddMapping (written_mapping s.relations x))) (sym found) (coming.two (omega arith), mapping_sayable s.relations valid.relation_names valid.relations m coming.good.0);
        members = subst (λ (x : SessionMapping). OperationHasMembers (AddMapping (written_mapping s.relations x))) (sym found) (mapping_members s.relations valid.relation_names valid.relations m coming.good.0);
        coming = record {
          whole = coming.whole ∙ sym (append_assoc done (m ∷ []) more);
          names = next_names (λ (x : SessionMapping). x.name) done m (mapping_names more) coming.names.2;
          good = coming.good.1;
          since = rest ∙ ap (λ k. sinces k more) n;
          few = omega (arith, added_more done m, coming.few);
          two = λ some. coming.two (omega arith);
        };
      }

  act : (op : Operation) (done more : List SessionMapping) (before : List SessionUpdate) (us : List SessionUpdate) → length before < 1000 → Coming done more (enacted (length before + 1) op ++ enactments (length before + 1 + 1) us)
      → IsOperation s.relations (length before) op → Act done before op us
  unfolding operation_of
  act (Adds t) done more before us lt coming good = record {
    after = done;
    left = more;
    coming = coming;
    performed = rw (fact_means s.relations (length before) t valid.relation_names good) refl;
    printed = ((refl, tt), fact_printed s.relations valid.relation_names valid.relations (length before) (omega arith) t good);
    sayable = fact_sayable s.relations valid.relation_names valid.relations (length before) t good;
    members = (fact_sayable s.relations valid.relation_names valid.relations (length before) t good).0;
  }
  act (Removes t) done more before us lt coming good = record {
    after = done;
    left = more;
    coming = coming;
    performed = rw (fact_means s.relations (length before) t valid.relation_names good) refl;
    printed = ((refl, tt), fact_printed s.relations valid.relation_names valid.relations (length before) (omega arith) t good);
    sayable = fact_sayable s.relations valid.relation_names valid.relations (length before) t good;
    members = (fact_sayable s.relations valid.relation_names valid.relations (length before) t good).0;
  }
  act (Replaces n d) done more before us lt coming good =
      let both : AllByRecursion (IsValue (length before)) (Unknown n ∷ d ∷ []) = (good.0, (good.1, tt)) in
      record {
        after = done;
        left = more;
        coming = coming;
        performed = rw (nulls_again (length before) (Unknown n ∷ d ∷ []) both) refl;
        printed = ((refl, tt), (value_printed (length before) (omega arith) (Unknown n) good.0, ((refl, tt), (value_printed (length before) (omega arith) d good.1, tt))));
        sayable = (good.0.0, value_outer (length before) d good.1);
        members = tt;
      }
  act (Enacts place) done more before us lt coming good = enact place done more before us coming

  update_added : (done after : List SessionMapping) (before : List SessionUpdate) (u : SessionUpdate) (us : List SessionUpdate) → is_one_of (labels before) u.label ≡ false → length before < 1000 → length (curators (before ++ u ∷ us)) ≤ 64
      → operation_of (so_far s.format s.relations done s.base before) (written_operation s u.operation) ≡ Ok (u.operation, so_far s.format s.relations after s.base before)
      → add_update (so_far s.format s.relations done s.base before) u.label u.curator (written_operation s u.operation) ≡ Ok (so_far s.format s.relations after s.base (before ++ answered_so u [] ∷ []))
  unfolding add_update
  update_added done after before u us new lt few performed = rw (new, room_left (length before) 1000 lt, curator_room before u us few, performed) refl

  pub updates_run : (section : Section) (done more : List SessionMapping) (before us : List SessionUpdate) → Within section 4 → s.updates ≡ before ++ us → Coming done more (enactments (length before + 1) us)
      → AreNew (labels before) (labels us) → AreUpdates s.relations (length before) us → Runs section (so_far s.format s.relations done s.base before) (flat_map (update_statements s) us) s
  updates_run section done more before [] w whole coming new all =
      let none : more ≡ [] = empty_sinces (length done) more coming.since in
      let mappings : done ≡ s.mappings = sym (append-nil done) ∙ ap (λ (ms : List SessionMapping). done ++ ms) (sym none) ∙ sym coming.whole in
      let updates : before ≡ s.updates = sym (append-nil before) ∙ sym whole in
      ap (λ (ms : List SessionMapping). so_far s.format s.relations ms s.base before) mappings ∙ ap (λ (xs : List SessionUpdate). so_far s.format s.relations s.mappings s.base xs) updates
  updates_run section done more before (u ∷ us) w whole coming new all =
      let high : rank section ≤ 4 = w.high in
      let lt : length before < 1000 = omega (arith, valid.update_count, ap length whole, length-append before (u ∷ us)) in
      let few : length (curators (before ++ u ∷ us)) ≤ 64 = subst (λ (xs : List SessionUpdate). length (curators xs) ≤ 64) whole valid.curator_count in
      let a = act u.operation done more before us lt coming all.0.1 in
      let both : answer_count s.updates ≡ answer_count before + answer_count (u ∷ us) = ap answer_count whole ∙ sum_by-append (λ (x : SessionUpdate). length x.answers) before (u ∷ us) in
      let own : answer_count (u ∷ us) ≡ 0 + length u.answers + answer_count us = sum_by-append (λ (x : SessionUpdate). length x.answers) (u ∷ []) us in
      let fits : answer_count before + 0 + length u.answers ≤ most_answers s.format = omega (arith, valid.answers, both, own) in
      let answers = answers_run s.format s.relations a.after s.base valid.relation_names valid.relations before u new.0 new.1 lt [] u.answers all.0.2 fits in
      let n : length before + 1 ≡ length (before ++ u ∷ []) = omega (arith, length-append before (u ∷ [])) in
      let others = updates_run Updates a.after a.left (before ++ u ∷ []) us (record { low = omega arith; high = omega arith }) (whole ∙ sym (append_assoc before (u ∷ []) us))
      (subst (λ k. Coming a.after a.left (enactments (k + 1) us)) n a.coming) (next_names (λ (x : SessionUpdate). x.label) before u (labels us) new.2) (subst (λ k. AreUpdates s.relations k us) n all.1) in (
        record { after_header = tt; begun = w.low; open_ = omega arith; in_order = high; sayable = a.sayable; words = ((refl, tt), ((new.0, tt), ((all.0.0, tt), a.printed))); members = a.members },
        (
          so_far s.format s.relations a.after s.base (before ++ answered_so u [] ∷ []),
          update_added done a.after before u us new.1 lt few a.performed,
          runs_on Updates (so_far s.format s.relations a.after s.base (before ++ answered_so u [] ∷ [])) (so_far s.format s.relations a.after s.base (before ++ u ∷ [])) s
              (map (λ choice. Answer u.label (written_choice s.relations choice)) u.answers) (flat_map (update_statements s) us) answers
              (subst (λ (x : Section). Runs x (so_far s.format s.relations a.after s.base (before ++ u ∷ [])) (flat_map (update_statements s) us) s) (sym (still_updates u.label s.relations u.answers)) others),
        ),
      )
