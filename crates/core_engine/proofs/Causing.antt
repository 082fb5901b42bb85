-- The causes that a walk found, in order, are those of the event.
use Rattle.std.proofs.Common.{◌≡◌, ◌∙◌, ap, refl, sym, ℕ, suc, Bool, true, false, Option, Some, None, List, [], ◌∷◌, ◌++◌, map, drop, length}
use Rattle.std.specs.Prelude.{if◌then◌else◌, is_some, ◌&&◌, not, option_map}
use Rattle.std.specs.List.{flat_map}
use Rattle.core_entries.specs.Meanings.{cause_of}
use Rattle.core_entries.specs.declared.causes.Cause.{Cause as CauseOfProgram}
use Rattle.core_entries.specs.declared.causes.Cause.TheVariants.{Conflict as ConflictFound, Depends as DependsFound}
use Rattle.def_history.specs.PlainEntries.{cause_kept}
use Rattle.def_machine.specs.Machine.{Machine}
use Rattle.def_machine.specs.Updates.{Update, Deps, Read, trail}
use Rattle.def_machine.specs.Reads.{first_that}
use Rattle.def_machine.specs.Standings.{is_nil}
use Rattle.def_machine.specs.Cascade.{Cause, Member, Depends, begun_again, is_live, read_depends, writer_for, with_member, without_member}
use Rattle.def_machine.specs.Settle.{settle, restart, cause_of as cause_of_update, if_conflict, if_dependence, conflicts_in, dependences_in}
use Rattle.def_chase.specs.Mappings.{Rule}
use Rattle.def_steps.specs.Chase.{caused_chase}
use Rattle.core_cascade.specs.Meanings.{all_found, no_cause, found_for}
use Rattle.core_queue.specs.declared.updates.QueuedUpdate.{QueuedUpdate}
use Rattle.core_engine.specs.Aftermaths.{conflict_in, dependence_in, in_order}

module _ (ms : List Rule) (B : ℕ) where
  abbrev told : List CauseOfProgram → List (Cause (caused_chase ms B))
  told cs = map (cause_kept ms B) (map cause_of cs)

  conflicts_told : (xs : List (Option CauseOfProgram)) → told (flat_map conflict_in xs) ≡ conflicts_in (all_found ms B xs)
  conflicts_told [] = refl
  conflicts_told (None ∷ xs) = conflicts_told xs
  conflicts_told (Some (ConflictFound i r j old new) ∷ xs) = ap (λ cs. cause_kept ms B (cause_of (ConflictFound i r j old new)) ∷ cs) (conflicts_told xs)
  conflicts_told (Some (DependsFound i r on) ∷ xs) = conflicts_told xs

  dependences_told : (xs : List (Option CauseOfProgram)) → told (flat_map dependence_in xs) ≡ dependences_in (all_found ms B xs)
  dependences_told [] = refl
  dependences_told (None ∷ xs) = dependences_told xs
  dependences_told (Some (ConflictFound i r j old new) ∷ xs) = dependences_told xs
  dependences_told (Some (DependsFound i r on) ∷ xs) = ap (λ cs. cause_kept ms B (cause_of (DependsFound i r on)) ∷ cs) (dependences_told xs)

  both_told : (xs ys : List CauseOfProgram) → told (xs ++ ys) ≡ told xs ++ told ys
  both_told [] ys = refl
  both_told (x ∷ xs) ys = ap (λ cs. cause_kept ms B (cause_of x) ∷ cs) (both_told xs ys)

  -- In order they are the conflicts and then the dependences that were found.
  in_order_is : (xs : List (Option CauseOfProgram)) → told (in_order xs) ≡ conflicts_in (all_found ms B xs) ++ dependences_in (all_found ms B xs)
  in_order_is xs = both_told (flat_map conflict_in xs) (flat_map dependence_in xs) ∙ (λ i. conflicts_told xs i ++ dependences_told xs i)

  -- Those of updates for which none was looked for come to nothing.
  no_conflicts_after : (ys : List (Option (Cause (caused_chase ms B)))) (rs : List QueuedUpdate) → conflicts_in (ys ++ map (no_cause ms B) rs) ≡ conflicts_in ys
  no_conflicts_after [] [] = refl
  no_conflicts_after [] (r ∷ rs) = no_conflicts_after [] rs
  no_conflicts_after (None ∷ ys) rs = no_conflicts_after ys rs
  no_conflicts_after (Some x ∷ ys) rs = ap (if_conflict x) (no_conflicts_after ys rs)

  no_dependences_after : (ys : List (Option (Cause (caused_chase ms B)))) (rs : List QueuedUpdate) → dependences_in (ys ++ map (no_cause ms B) rs) ≡ dependences_in ys
  no_dependences_after [] [] = refl
  no_dependences_after [] (r ∷ rs) = no_dependences_after [] rs
  no_dependences_after (None ∷ ys) rs = no_dependences_after ys rs
  no_dependences_after (Some x ∷ ys) rs = ap (if_dependence x) (no_dependences_after ys rs)

  pub no_restarts_after : (n : ℕ) (ys : List (Option (Cause (caused_chase ms B)))) (rs : List QueuedUpdate) (us : List (Update (caused_chase ms B)))
      → restart (caused_chase ms B) n (ys ++ map (no_cause ms B) rs) us ≡ restart (caused_chase ms B) n ys us
  no_restarts_after n ys rs [] = refl
  no_restarts_after n [] [] (u ∷ us) = refl
  no_restarts_after n [] (r ∷ rs) (u ∷ us) = ap (λ (vs : List (Update (caused_chase ms B))). u ∷ vs) (no_restarts_after (suc n) [] rs us ∙ none_restart us)
    where
      none_restart : (vs : List (Update (caused_chase ms B))) → restart (caused_chase ms B) (suc n) [] vs ≡ vs
      none_restart [] = refl
      none_restart (v ∷ vs) = refl
  no_restarts_after n (y ∷ ys) rs (u ∷ us) = ap (λ (vs : List (Update (caused_chase ms B))). (if is_some y then begun_again (caused_chase ms B) n u else u) ∷ vs) (no_restarts_after (suc n) ys rs us)

  -- In order they are the conflicts and then the dependences of all the updates.
  pub in_order_for : (rs : List QueuedUpdate) (xs : List (Option CauseOfProgram)) → told (in_order xs) ≡ conflicts_in (found_for ms B rs xs) ++ dependences_in (found_for ms B rs xs)
  in_order_for rs xs =
      in_order_is xs ∙ sym (λ i. no_conflicts_after (all_found ms B xs) (drop (length xs) rs) i ++ no_dependences_after (all_found ms B xs) (drop (length xs) rs) i)

  pub all_marked : (xs : List (Option CauseOfProgram)) → map is_some (all_found ms B xs) ≡ map is_some xs
  all_marked [] = refl
  all_marked (None ∷ xs) = ap (λ bs. false ∷ bs) (all_marked xs)
  all_marked (Some x ∷ xs) = ap (λ bs. true ∷ bs) (all_marked xs)

module _ (M : Machine) (deps : Deps) (c j : ℕ) where
  no_conflict : (b : Bool) (n : ℕ) (w : Read M → ℕ) (o : Option (ℕ × Read M)) (xs : List (Option (Cause M)))
      → conflicts_in ((if b then option_map (λ t. Depends n t.0 (w t.1)) o else None) ∷ xs) ≡ conflicts_in xs
  no_conflict false n w o xs = refl
  no_conflict true n w None xs = refl
  no_conflict true n w (Some t) xs = refl

  -- Where none are looked for there are no conflicts.
  pub no_conflicts : (E N : M.Repository) (ms : List (Member M)) (n : ℕ) (us : List (Update M)) → conflicts_in (settle M deps false c j E N ms n us) ≡ []
  no_conflicts E N ms n [] = refl
  no_conflicts E N ms n (u ∷ us) =
      let x : Option (Cause M) = cause_of_update M deps false c j E N ms n u in
      no_conflict (is_live M c n u && not (is_nil ms)) n (λ r. writer_for M r ms) (first_that (read_depends M deps u.operation N (M.own u.state) ms) u.log)
      (settle M deps false c j (M.apply E (trail M u)) (without_member M (is_some x) N u) (with_member M (is_some x) ms n u) (suc n) us)
      ∙ no_conflicts (M.apply E (trail M u)) (without_member M (is_some x) N u) (with_member M (is_some x) ms n u) (suc n) us
