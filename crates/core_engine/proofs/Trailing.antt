-- The trails of updates by number, where one of them is another.
use Rattle.std.proofs.Common.{◌≡◌, ◌∙◌, ap, refl, sym, subst, ℕ, zero, suc, Bool, true, false, Option, List, [], ◌∷◌, ◌++◌, map, length}
use Rattle.std.specs.Prelude.{if◌then◌else◌, is_some}
use Rattle.def_machine.specs.Updates.{Update, trail}
use Rattle.def_machine.specs.Cascade.{Cause, begun_again}
use Rattle.def_machine.specs.Settle.{restart}
use Rattle.def_chase.specs.Mappings.{Rule}
use Rattle.def_chase.specs.Values.{Fact}
use Rattle.def_chase.specs.Repository.{Change}
use Rattle.core_entries.specs.declared.causes.Cause.{Cause as CauseOfProgram}
use Rattle.def_steps.specs.Chase.{caused_chase}
use Rattle.core_queue.specs.Queues.{update_of, updates_of, AreFrom}
use Rattle.core_queue.specs.declared.updates.QueuedUpdate.{QueuedUpdate}
use Rattle.set_versions.specs.Standing.{Kept}
use Rattle.set_versions.specs.Trails.{SameBut, numbered}
use Rattle.core_cascade.specs.Held.{AreVersions}
use Rattle.core_engine.specs.Aftermaths.{Cleared, ClearedIf}
use Rattle.core_engine.specs.Steps.{Replaces}

module _ {X : Type 0} (f : X → List Change) where
  -- The trail of the one that stands above so many.
  pub there_is : (lower : List X) (x : X) (upper : List X) → numbered f (lower ++ x ∷ upper) (suc (length lower)) ≡ f x
  there_is [] x upper = refl
  there_is (y ∷ lower) x upper = there_is lower x upper

  -- With another in its place the others keep theirs.
  pub others_are : (lower : List X) (x y : X) (upper : List X) → SameBut (suc (length lower)) (numbered f (lower ++ x ∷ upper)) (numbered f (lower ++ y ∷ upper))
  others_are lower x y upper zero h = refl
  others_are [] x y upper (suc zero) h = absurd (h refl)
  others_are [] x y upper (suc (suc k)) h = refl
  others_are (z ∷ lower) x y upper (suc zero) h = refl
  others_are (z ∷ lower) x y upper (suc (suc k)) h = others_are lower x y upper (suc k) (λ e. h (ap suc e))

module _ (ms : List Rule) (B : ℕ) where
  -- Versions with another trail for the update are those with another update.
  pub versions_with : (n : ℕ) (D : List Fact) (lower : List (Update (caused_chase ms B))) (u v : Update (caused_chase ms B)) (upper : List (Update (caused_chase ms B))) (old new : Kept) → n ≡ suc (length lower)
      → Replaces ms B n (trail (caused_chase ms B) u) (trail (caused_chase ms B) v) old new → AreVersions ms B D (lower ++ u ∷ upper) old → AreVersions ms B D (lower ++ v ∷ upper) new
  versions_with n D lower u v upper old new e r h =
      let r' : Replaces ms B (suc (length lower)) (trail (caused_chase ms B) u) (trail (caused_chase ms B) v) old new = subst (λ (m : ℕ). Replaces ms B m (trail (caused_chase ms B) u) (trail (caused_chase ms B) v) old new) e r in
      record {
        sorted = h.sorted;
        stand = r' D (numbered (trail (caused_chase ms B)) (lower ++ u ∷ upper)) (numbered (trail (caused_chase ms B)) (lower ++ v ∷ upper)) h.stand
            (there_is (trail (caused_chase ms B)) lower u upper) (there_is (trail (caused_chase ms B)) lower v upper) (others_are (trail (caused_chase ms B)) lower u v upper);
      }

  -- ---- restarts

  abbrev nothing : List Change
  nothing = []

  no_writes : (b : Bool) → (if b then nothing else nothing) ≡ nothing
  no_writes true = refl
  no_writes false = refl

  -- What begins again shows no write.
  pub begun_again_shows : (n : ℕ) (u : Update (caused_chase ms B)) → trail (caused_chase ms B) (begun_again (caused_chase ms B) n u) ≡ []
  begun_again_shows n u = no_writes u.withdrawn

  abbrev restarted_if : Bool → ℕ → Update (caused_chase ms B) → Update (caused_chase ms B)
  restarted_if b n u = if b then begun_again (caused_chase ms B) n u else u

  cleared_one : (b : Bool) (D : List Fact) (lower : List (Update (caused_chase ms B))) (r : QueuedUpdate) (upper : List (Update (caused_chase ms B))) (old new : Kept) → r.program.attempt.number ≡ suc (length lower)
      → ClearedIf b r old new → AreVersions ms B D (lower ++ update_of ms B r ∷ upper) old → AreVersions ms B D (lower ++ restarted_if b (suc (length lower)) (update_of ms B r) ∷ upper) new
  cleared_one true D lower r upper old new e c h =
      versions_with r.program.attempt.number D lower (update_of ms B r) (begun_again (caused_chase ms B) (suc (length lower)) (update_of ms B r)) upper old new e
      (λ E before after stand is none same. c E before after stand is (none ∙ begun_again_shows (suc (length lower)) (update_of ms B r)) same) h
  cleared_one false D lower r upper old new e c h = subst (λ (v : Kept). AreVersions ms B D (lower ++ update_of ms B r ∷ upper) v) c h

  longer : (lower : List (Update (caused_chase ms B))) (x : Update (caused_chase ms B)) → suc (length lower) ≡ length (lower ++ x ∷ [])
  longer [] x = refl
  longer (y ∷ lower) x = ap suc (longer lower x)

  pub one_by_one : (lower : List (Update (caused_chase ms B))) (x : Update (caused_chase ms B)) (us : List (Update (caused_chase ms B))) → (lower ++ x ∷ []) ++ us ≡ lower ++ x ∷ us
  one_by_one [] x us = refl
  one_by_one (y ∷ lower) x us = ap (λ ws. y ∷ ws) (one_by_one lower x us)

  -- Versions whose restarted updates lost their trails are those after the restarts.
  pub versions_cleared : (n : ℕ) (D : List Fact) (lower : List (Update (caused_chase ms B))) (rs : List QueuedUpdate) (xs : List (Option CauseOfProgram)) (ys : List (Option (Cause (caused_chase ms B)))) (old new : Kept)
      → n ≡ suc (length lower) → AreFrom n rs → map is_some ys ≡ map is_some xs → Cleared rs xs old new
      → AreVersions ms B D (lower ++ updates_of ms B rs) old → AreVersions ms B D (lower ++ restart (caused_chase ms B) n ys (updates_of ms B rs)) new
  versions_cleared n D lower [] xs ys old new e a s c h = subst (λ (v : Kept). AreVersions ms B D (lower ++ []) v) c h
  versions_cleared n D lower (r ∷ rs) [] [] old new e a s c h = subst (λ (v : Kept). AreVersions ms B D (lower ++ updates_of ms B (r ∷ rs)) v) c h
  versions_cleared n D lower (r ∷ rs) [] (y ∷ ys) old new e a s c h = absurd (cons_nil _ _ s)
    where
      cons_nil : (b : Bool) (bs : List Bool) → (b ∷ bs ≡ []) → ⊥
      cons_nil b bs q = cc
  versions_cleared n D lower (r ∷ rs) (x ∷ xs) [] old new e a s c h = absurd (nil_cons _ _ s)
    where
      nil_cons : (b : Bool) (bs : List Bool) → ([] ≡ b ∷ bs) → ⊥
      nil_cons b bs q = cc
  versions_cleared n D lower (r ∷ rs) (x ∷ xs) (y ∷ ys) old new e a s c h =
      let b : is_some y ≡ is_some x = ap (first_of (is_some x)) s in
      let bs : map is_some ys ≡ map is_some xs = ap rest_of s in
      let w : Update (caused_chase ms B) = restarted_if (is_some y) n (update_of ms B r) in
      let one : AreVersions ms B D (lower ++ restarted_if (is_some x) (suc (length lower)) (update_of ms B r) ∷ updates_of ms B rs) c.0 = cleared_one (is_some x) D lower r (updates_of ms B rs) old c.0 (a.0.number ∙ e) c.1 h in
      let same : restarted_if (is_some x) (suc (length lower)) (update_of ms B r) ≡ w = sym (λ i. restarted_if (b i) (e i) (update_of ms B r)) in
      let mid : AreVersions ms B D ((lower ++ w ∷ []) ++ updates_of ms B rs) c.0 =
      subst (λ (us : List (Update (caused_chase ms B))). AreVersions ms B D us c.0) ((λ i. lower ++ same i ∷ updates_of ms B rs) ∙ sym (one_by_one lower w (updates_of ms B rs))) one in
      subst (λ (us : List (Update (caused_chase ms B))). AreVersions ms B D us new) (one_by_one lower w (restart (caused_chase ms B) (suc n) ys (updates_of ms B rs)))
      (versions_cleared (suc n) D (lower ++ w ∷ []) rs xs ys c.0 new (ap suc e ∙ ap suc (longer lower w)) a.1 bs c.2 mid)
    where
      first_of : Bool → List Bool → Bool
      first_of d [] = d
      first_of d (q ∷ qs) = q

      rest_of : List Bool → List Bool
      rest_of [] = []
      rest_of (q ∷ qs) = qs
