-- What versions hold from one number on, and from the next.
use Rattle.std.proofs.Common.{◌≡◌, ◌∙◌, ap, refl, sym, subst, ℕ, zero, suc, ◌<◌, ◌≤◌, ◌==◌, Bool, true, false, List, [], ◌∷◌, ◌++◌, map, take, length, append-nil, arith}
use Rattle.std.proofs.lemmas.Bool.{eq-eqb, ne_eqb}
use Rattle.std.specs.Prelude.{if◌then◌else◌}
use Rattle.std.specs.List.{flat_map}
use Rattle.base_types.specs.Meanings.{change_of}
use Rattle.base_types.specs.declared.updates.Write.{Write}
use Rattle.def_machine.specs.Updates.{Update, trail}
use Rattle.def_chase.specs.Mappings.{Rule}
use Rattle.def_chase.specs.Repository.{Change, apply}
use Rattle.core_queue.specs.Queues.{update_of}
use Rattle.core_queue.specs.Updates.{HasTrail}
use Rattle.core_queue.specs.declared.updates.QueuedUpdate.{QueuedUpdate}
use Rattle.def_steps.proofs.Steady.{apply_join}
use Rattle.def_steps.specs.Chase.{caused_chase, caused}
use Rattle.set_versions.proofs.Numbered.{below_is_seen}
use Rattle.set_versions.proofs.Seen.{seen_is_applied}
use Rattle.set_versions.specs.Standing.{Kept, StandFor, Retracted, seen}
use Rattle.set_versions.specs.Trails.{writes_below, numbered}
use Rattle.core_cascade.specs.declared.lost.Lost.{Lost}
use Rattle.core_cascade.specs.Held.{AreTrails, HoldFrom, TrailsAreHeld}
use Rattle.core_cascade.specs.Meanings.{members_of}
use Rattle.core_cascade.specs.Walks.{Loses, LosesWhere, number_of}

-- The trails without that of update n.
abbrev emptied : ℕ → (ℕ → List Change) → ℕ → List Change
emptied n trails k = if k == n then [] else trails k

emptied_there : (n : ℕ) (trails : ℕ → List Change) → emptied n trails n ≡ []
emptied_there n trails = ap (λ b. if b then [] else trails n) (eq-eqb n n refl)

emptied_else : (n : ℕ) (trails : ℕ → List Change) (k : ℕ) → (k ≡ n → ⊥) → emptied n trails k ≡ trails k
emptied_else n trails k h = ap (λ b. if b then [] else trails k) (ne_eqb k n h)

-- Below it nothing is changed.
emptied_below : (n : ℕ) (trails : ℕ → List Change) (k : ℕ) → k ≤ n → writes_below (emptied n trails) k ≡ writes_below trails k
emptied_below n trails zero h = refl
emptied_below n trails (suc k) h =
    let l : k ≤ n = omega (arith, h) in
    (λ i. emptied_below n trails k l i ++ emptied_else n trails k (λ e. absurd (omega (arith, h, e))) i)

module _ (ms : List Rule) (B : ℕ) where
  above_emptied : (n k : ℕ) (trails : ℕ → List Change) (us : List (Update (caused_chase ms B))) → n < k → AreTrails ms B trails k us → AreTrails ms B (emptied n trails) k us
  above_emptied n k trails [] l a = tt
  above_emptied n k trails (u ∷ us) l a = (
    emptied_else n trails k (λ e. absurd (omega (arith, l, e))) ∙ a.0,
    above_emptied n (suc k) trails us (omega (arith, l)) a.1,
  )

  -- The next one sees the trail of this one too.
  pub below_next : (n : ℕ) (u : Update (caused_chase ms B)) (us : List (Update (caused_chase ms B))) (v : Kept) → HoldFrom ms B n (u ∷ us) v
      → seen (suc n) v ≡ apply (seen n v) (trail (caused_chase ms B) u)
  below_next n u us v h =
      seen_is_applied v h.base h.trails h.sorted h.stand (suc n)
      ∙ apply_join h.base (writes_below h.trails n) (h.trails n)
      ∙ ap (λ E. apply E (h.trails n)) (sym (seen_is_applied v h.base h.trails h.sorted h.stand n))
      ∙ ap (apply (seen n v)) h.above.0

  -- The trails of those above it are held too.
  pub hold_next : (n : ℕ) (u : Update (caused_chase ms B)) (us : List (Update (caused_chase ms B))) (v : Kept) → HoldFrom ms B n (u ∷ us) v → HoldFrom ms B (suc n) us v
  hold_next n u us v h = record { base = h.base; trails = h.trails; sorted = h.sorted; stand = h.stand; above = h.above.1 }

  stand_without : (n : ℕ) (u : Update (caused_chase ms B)) (us : List (Update (caused_chase ms B))) (v w : Kept) (h : HoldFrom ms B n (u ∷ us) v) → Retracted n (trail (caused_chase ms B) u) v w → StandFor w h.base (emptied n h.trails)
  stand_without n u us v w h r = r h.base h.trails (emptied n h.trails) h.stand h.above.0 (emptied_there n h.trails) (λ k e. emptied_else n h.trails k e)

  -- Once it has lost its trail, those of the others are held.
  pub hold_without : (n : ℕ) (u : Update (caused_chase ms B)) (us : List (Update (caused_chase ms B))) (v w : Kept) → HoldFrom ms B n (u ∷ us) v → Retracted n (trail (caused_chase ms B) u) v w → HoldFrom ms B (suc n) us w
  hold_without n u us v w h r =
      record {
        base = h.base;
        trails = emptied n h.trails;
        sorted = h.sorted;
        stand = stand_without n u us v w h r;
        above = above_emptied n (suc n) h.trails us (omega arith) h.above.1;
      }

  -- And the next one sees what it saw.
  pub below_without : (n : ℕ) (u : Update (caused_chase ms B)) (us : List (Update (caused_chase ms B))) (v w : Kept) → HoldFrom ms B n (u ∷ us) v → Retracted n (trail (caused_chase ms B) u) v w → seen (suc n) w ≡ seen n v
  below_without n u us v w h r =
      seen_is_applied w h.base (emptied n h.trails) h.sorted (stand_without n u us v w h r) (suc n)
      ∙ (λ i. apply h.base (emptied_below n h.trails n (omega arith) i ++ emptied_there n h.trails i))
      ∙ ap (apply h.base) (append-nil (writes_below h.trails n))
      ∙ sym (seen_is_applied v h.base h.trails h.sorted h.stand n)

  -- ---- all the updates of a history

  one_on : (u : Update (caused_chase ms B)) (ws : List (Update (caused_chase ms B))) (n : ℕ) (us : List (Update (caused_chase ms B))) → AreTrails ms B (numbered (trail (caused_chase ms B)) ws) (suc n) us
      → AreTrails ms B (numbered (trail (caused_chase ms B)) (u ∷ ws)) (suc (suc n)) us
  one_on u ws n [] a = tt
  one_on u ws n (x ∷ us) a = (a.0, one_on u ws (suc n) us a.1)

  from_one : (us : List (Update (caused_chase ms B))) → AreTrails ms B (numbered (trail (caused_chase ms B)) us) 1 us
  from_one [] = tt
  from_one (u ∷ us) = (refl, one_on u us 0 us (from_one us))

  from_above : (lower upper : List (Update (caused_chase ms B))) → AreTrails ms B (numbered (trail (caused_chase ms B)) (lower ++ upper)) (suc (length lower)) upper
  from_above [] upper = from_one upper
  from_above (u ∷ lower) upper = one_on u (lower ++ upper) (length lower) upper (from_above lower upper)

  all_lower : (lower upper : List (Update (caused_chase ms B))) → take (length lower) (lower ++ upper) ≡ lower
  all_lower [] upper = refl
  all_lower (u ∷ lower) upper = ap (λ us. u ∷ us) (all_lower lower upper)

pub trails_held : TrailsAreHeld
trails_held ms B D lower upper v h = record {
  held = record { base = D; trails = numbered (trail (caused_chase ms B)) (lower ++ upper); sorted = h.sorted; stand = h.stand; above = from_above ms B lower upper };
  below = below_is_seen caused ms B v D (lower ++ upper) h.sorted h.stand (length lower) ∙ ap (λ us. apply D (flat_map (trail (caused_chase ms B)) us)) (all_lower ms B lower upper);
}

-- ---- what a turn of the walk leaves

-- The reader keeps its trail.
kept_on : (r : QueuedUpdate) (lost : Lost) → LosesWhere false r lost lost
kept_on r lost ms B us h = record {
  held = hold_next ms B (number_of r) (update_of ms B r) us lost.without h;
  below = below_next ms B (number_of r) (update_of ms B r) us lost.without h;
  members = refl;
}

-- The reader loses it.
lost_on : (r : QueuedUpdate) (ws : List Change) (old new : Lost) → ((ms : List Rule) (B : ℕ) → ws ≡ trail (caused_chase ms B) (update_of ms B r)) → Loses (number_of r) ws old new → LosesWhere true r old new
lost_on r ws old new e l ms B us h =
    let gone : Retracted (number_of r) (trail (caused_chase ms B) (update_of ms B r)) old.without new.without = subst (λ ts. Retracted (number_of r) ts old.without new.without) (e ms B) l.retracted in record {
      held = hold_without ms B (number_of r) (update_of ms B r) us old.without new.without h gone;
      below = below_without ms B (number_of r) (update_of ms B r) us old.without new.without h gone;
      members = l.joined ms B ∙ ap (λ ts. members_of ms B old.members.items ++ record { number = number_of r; trail = ts } ∷ []) (e ms B);
    }

-- It keeps it where it isn't restarted.
pub kept_where : (r : QueuedUpdate) (b : Bool) (lost : Lost) → b ≡ false → LosesWhere b r lost lost
kept_where r true lost e = absurd (cc)
kept_where r false lost e = kept_on r lost

-- It loses it where it is.
pub lost_where : (r : QueuedUpdate) (n : ℕ) (ws : List Write) (b : Bool) (old new : Lost) → b ≡ true → n ≡ number_of r → HasTrail r ws → Loses n (map change_of ws) old new → LosesWhere b r old new
lost_where r n ws true old new e same t l = lost_on r (map change_of ws) old new t (subst (λ k. Loses k (map change_of ws) old new) same l)
lost_where r n ws false old new e same t l = absurd (cc)
