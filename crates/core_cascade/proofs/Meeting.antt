-- Trails of which some meet no read of a log.
use Rattle.std.proofs.Common.{◌≡◌, ◌∙◌, ap, refl, sym, subst, ℕ, suc, ◌+◌, ◌<◌, Bool, true, false, ◌&&◌, ◌||◌, List, [], ◌∷◌, ◌++◌, drop, length, get_or, append_assoc, Some, None}
use Rattle.std.specs.List.{list_any, list_all}
use Rattle.std.specs.Option.{option_map}
use Rattle.std.specs.Prelude.{if◌then◌else◌}
use Rattle.std.proofs.lemmas.Bool.{and_parts, or_parts}
use Rattle.std.proofs.lemmas.List.{map-append}
use Rattle.def_chase.specs.Mappings.{Rule}
use Rattle.def_chase.specs.Repository.{Change}
use Rattle.def_chase.specs.Values.{Fact}
use Rattle.def_chase.specs.Violations.{Direction}
use Rattle.def_chase.proofs.Bools.{both}
use Rattle.chase_query.specs.Meanings.{Read, reads_in}
use Rattle.core_conflict.specs.Changes.{Changed, Numbered, first_from, first_changed, is_changed, is_met_and_changed, meets_any, value_now}
use Rattle.core_conflict.specs.Concerns.{is_hit, is_met, meets}
use Rattle.core_conflict.specs.Trails.{trails_of, writes_of}
use Rattle.core_conflict.specs.declared.concerns.Sense.TheVariants.{Went}
use Rattle.core_conflict.specs.declared.concerns.Trail.{Trail}
use Rattle.core_conflict.proofs.Gathering.{next_drop}
use Rattle.core_conflict.proofs.Unmet.{none_changed}
use Rattle.def_chase.specs.Updates.{direction_of}
use Rattle.core_queue.specs.declared.updates.QueuedUpdate.{QueuedUpdate}
use Rattle.set_versions.specs.Standing.{Kept, seen}
use Rattle.core_cascade.specs.Reached.{AreMetAlike, MeetAlike, first_invalid}

-- All and one more.
pub all_and_one : {K : Type 0} (p : K → Bool) (xs : List K) (x : K) → list_all p xs ≡ true → p x ≡ true → list_all p (xs ++ x ∷ []) ≡ true
all_and_one p [] x e h = both (p x) true h refl
all_and_one p (y ∷ xs) x e h = let parts = and_parts (p y) (list_all p xs) e in both (p y) (list_all p (xs ++ x ∷ [])) parts.0 (all_and_one p xs x parts.1 h)

-- Each of those that are left.
pub one_of : {K : Type 0} (p : K → Bool) (xs : List K) (i : ℕ) (x : K) → i < length xs → x ≡ get_or xs i x → list_all p (drop i xs) ≡ true → (p x ≡ true) × (list_all p (drop (i + 1) xs) ≡ true)
one_of p xs i x l e h = and_parts (p x) (list_all p (drop (i + 1) xs)) (sym (ap (list_all p) (next_drop xs i x l e)) ∙ h)

between : (p : Change → Bool) (xs : List (List Change)) (ws : List Change) (ys : List (List Change)) → list_any p ws ≡ false → is_hit p (xs ++ ws ∷ ys) ≡ is_hit p (xs ++ ys)
between p [] ws ys e = ap (λ b. b || is_hit p ys) e
between p (vs ∷ xs) ws ys e = ap (λ b. list_any p vs || b) (between p xs ws ys e)

module _ (ms : List Rule) (h : Direction) (own : List Change) where
  pub alike_itself : (ts : List (List Change)) (qs : List Read) → AreMetAlike ms h own ts ts qs
  alike_itself ts [] = tt
  alike_itself ts (q ∷ qs) = (refl, alike_itself ts qs)

  skip : (xs : List (List Change)) (ws : List Change) (ys us : List (List Change)) (qs : List Read) → meets_any ms h own Went (ws ∷ []) qs ≡ false → AreMetAlike ms h own (xs ++ ws ∷ ys) us qs → AreMetAlike ms h own (xs ++ ys) us qs
  skip xs ws ys us [] e a = tt
  skip xs ws ys us (q ∷ qs) e a =
      let parts = or_parts (is_met ms h own Went (ws ∷ []) q) (meets_any ms h own Went (ws ∷ []) qs) e in
      let none = or_parts (list_any (meets ms h own Went q) ws) false parts.0 in
      (sym (between (meets ms h own Went q) xs ws ys none.0) ∙ a.0, skip xs ws ys us qs parts.1 a.1)

  -- A trail that meets none is left out.
  pub left_out : (found members : List Trail) (i : ℕ) (t : Trail) (qs : List Read) → i < length members → t ≡ get_or members i t → meets_any ms h own Went (writes_of t ∷ []) qs ≡ false
      → AreMetAlike ms h own (trails_of (found ++ drop i members)) (trails_of members) qs → AreMetAlike ms h own (trails_of (found ++ drop (i + 1) members)) (trails_of members) qs
  left_out found members i t qs l e n a =
      subst (λ ts. AreMetAlike ms h own ts (trails_of members) qs) (sym (map-append writes_of found (drop (i + 1) members)))
      (skip (trails_of found) (writes_of t) (trails_of (drop (i + 1) members)) (trails_of members) qs n
      (subst (λ ts. AreMetAlike ms h own ts (trails_of members) qs) (ap (λ ys. trails_of (found ++ ys)) (next_drop members i t l e) ∙ map-append writes_of found (t ∷ drop (i + 1) members)) a))

  -- Another is put in.
  pub put_in : (found more members : List Trail) (i : ℕ) (t s : Trail) (qs : List Read) → i < length members → t ≡ get_or members i t → s ≡ t → more ≡ found ++ s ∷ []
      → AreMetAlike ms h own (trails_of (found ++ drop i members)) (trails_of members) qs → AreMetAlike ms h own (trails_of (more ++ drop (i + 1) members)) (trails_of members) qs
  put_in found more members i t s qs l e same m a =
      subst (λ (ts : List Trail). AreMetAlike ms h own (trails_of ts) (trails_of members) qs)
      (ap (λ ys. found ++ ys) (next_drop members i t l e) ∙ sym (append_assoc found (t ∷ []) (drop (i + 1) members)) ∙ ap (λ x. (found ++ x ∷ []) ++ drop (i + 1) members) (sym same) ∙ ap (λ xs. xs ++ drop (i + 1) members) (sym m)) a

  firsts : (D : List Fact) (ts us : List (List Change)) (n : ℕ) (qs : List Read) → AreMetAlike ms h own ts us qs → first_from (is_met_and_changed ms h D own Went ts) n qs ≡ first_from (is_met_and_changed ms h D own Went us) n qs
  firsts D ts us n [] a = refl
  firsts D ts us n (q ∷ qs) a =
      λ i. if a.0 i && is_changed ms h D own q then Some (record { number = n; read = q }) else firsts D ts us (suc n) qs a.1 i

  -- So the first changed read is the same.
  pub same_first : (D : List Fact) (ts us : List (List Change)) (qs : List Read) → AreMetAlike ms h own ts us qs → first_changed ms h D own Went ts qs ≡ first_changed ms h D own Went us qs
  same_first D ts us qs a = ap (option_map (λ (r : Numbered). record { number = r.number; read = r.read; now = value_now ms h D own r.read })) (firsts D ts us 1 qs a)

  -- No trail meets none.
  none_meets : (qs : List Read) → meets_any ms h own Went [] qs ≡ false
  none_meets [] = refl
  none_meets (q ∷ qs) = none_meets qs

  pub none_first : (D : List Fact) (qs : List Read) → first_changed ms h D own Went [] qs ≡ None
  none_first D qs = sym (none_changed ms h D own Went [] qs (none_meets qs))

module _ (ms : List Rule) (v : Kept) (r : QueuedUpdate) where
  -- The first read that is invalid without the ones is the first without the others.
  pub same_invalid : (ts us : List Trail) → MeetAlike ms (trails_of ts) (trails_of us) r → first_invalid ms v ts r ≡ first_invalid ms v us r
  same_invalid ts us a =
      ap (option_map (λ (c : Changed). record { number = c.number; read = c.read }))
      (same_first ms (direction_of r.program.attempt.operation) r.program.attempt.own (seen r.program.attempt.number v) (trails_of ts) (trails_of us) (reads_in r.log.items) a)

  -- Without a trail none is.
  pub none_invalid : first_invalid ms v [] r ≡ None
  none_invalid =
      ap (option_map (λ (c : Changed). record { number = c.number; read = c.read }))
      (none_first ms (direction_of r.program.attempt.operation) r.program.attempt.own (seen r.program.attempt.number v) (reads_in r.log.items))
