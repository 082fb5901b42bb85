-- What stands, and what stood at the last fold, over several calls.
use Rattle.std.proofs.Common.{◌≡◌, ◌∙◌, ap, refl, sym, ℕ, List, [], ◌∷◌, ◌++◌, map, length, drop, take, ◌≤◌, arith}
use Rattle.std.proofs.lemmas.List.{append-nil, take-append-le, take_all, take-take, length-take}
use Rattle.base_types.specs.Meanings.{change_of}
use Rattle.ws_ground.specs.declared.grounds.Ground.{Ground}
use Rattle.ws_ground.specs.Trails.{HasGrown, IsSame, IsBackTo, before}
use Rattle.ws_ground.proofs.Trailing.{none_made, more_made, grown_first, back_first, back_same}
use Rattle.ws_state.specs.declared.worlds.Standing.{Standing}
use Rattle.ws_state.specs.declared.worlds.World.{World}
use Rattle.ws_state.specs.declared.states.State.{State}
use Rattle.ws_state.specs.Stands.{WhatStands, what_stands, what_stood, HasRun, IsTakenBack, GoesOn, HasGoneOn}

-- Nothing was run.
pub none_run : (w : World) → HasRun w w
none_run w = record { grown = none_made w.ground.trail.items w.ground.facts; in_force = refl; gone = refl; order = refl; waiting = refl }

-- The same stands, if each part is the same.
pub stands_by_parts : (v w : World) → w.ground.facts ≡ v.ground.facts → w.ground.trail.items ≡ v.ground.trail.items
    → w.in_force.items ≡ v.in_force.items → w.gone.items ≡ v.gone.items → w.order.items ≡ v.order.items → what_stands w ≡ what_stands v
stands_by_parts v w facts trail in_force gone order =
    λ i. record { facts = facts i; trail = trail i; in_force = in_force i; gone = gone i; order = order i }

-- An update that was run, and is taken back, leaves what stood.
pub looked : (k : ℕ) (u v w : World) → k ≡ length u.ground.trail.items → HasRun u v → IsTakenBack k v w → what_stands w ≡ what_stands u
looked k u v w e r b =
    let back : IsBackTo (length u.ground.trail.items) v.ground w.ground =
    record {
      facts = b.facts ∙ ap (λ (n : ℕ). before (map change_of (drop n v.ground.trail.items)) v.ground.facts) e;
      trail = b.trail ∙ ap (λ (n : ℕ). take n v.ground.trail.items) e;
    } in
    let same : IsSame u.ground w.ground = back_same u.ground v.ground w.ground r.grown back in
    stands_by_parts u w same.facts same.trail (b.in_force ∙ r.in_force) (b.gone ∙ r.gone) (b.order ∙ r.order)

-- ---- what goes on

none_more : (ss : List Standing) → take (length ss) ss ≡ ss
none_more ss = take_all (length ss) ss (omega arith)

one_more : (ss ts : List Standing) → take (length ss) (ss ++ ts) ≡ ss
one_more ss ts = take-append-le (length ss) ss ts (omega arith) ∙ none_more ss

same_grown : (g h : Ground) → h.facts ≡ g.facts → h.trail.items ≡ g.trail.items → HasGrown g h
same_grown g h facts trail = record { more = []; longer = trail ∙ sym (append-nil g.trail.items); undone = facts }

-- The same stands.
pub same_on : (v w : World) → what_stands w ≡ what_stands v → GoesOn v w
same_on v w s = record {
  grown = same_grown v.ground w.ground (ap (λ (a : WhatStands). a.facts) s) (ap (λ (a : WhatStands). a.trail) s);
  order = ap (λ (a : WhatStands). take (length v.order.items) a.order) s ∙ none_more v.order.items;
}

-- One more stands.
pub more_stands : (v w : World) (s : Standing) → w.ground ≡ v.ground → w.order.items ≡ v.order.items ++ s ∷ [] → GoesOn v w
more_stands v w s same more = record {
  grown = same_grown v.ground w.ground (ap (λ (g : Ground). g.facts) same) (ap (λ (g : Ground). g.trail.items) same);
  order = ap (λ (l : List Standing). take (length v.order.items) l) more ∙ one_more v.order.items (s ∷ []);
}

-- A run goes on.
run_goes_on : (v w : World) → HasRun v w → GoesOn v w
run_goes_on v w r = record { grown = r.grown; order = ap (λ (l : List Standing). take (length v.order.items) l) r.order ∙ none_more v.order.items }

-- It goes on from where it had gone on to,
pub goes_on_more : (u v w : World) → GoesOn u v → GoesOn v w → GoesOn u w
goes_on_more u v w p q =
    let long : length (take (length u.order.items) v.order.items) ≡ length u.order.items = ap (λ (l : List Standing). length l) p.order in
    let within : length u.order.items ≤ length v.order.items = omega (arith, long, length-take (length u.order.items) v.order.items) in
    record {
      grown = more_made u.ground.trail.items v.ground.trail.items w.ground.trail.items u.ground.facts v.ground.facts w.ground.facts p.grown q.grown;
      order =
          sym (take-take (length u.order.items) (length v.order.items) w.order.items within)
          ∙ ap (λ (l : List Standing). take (length u.order.items) l) q.order
          ∙ p.order;
    }

-- after a run,
pub run_on : (u v w : World) → HasRun u v → GoesOn v w → GoesOn u w
run_on u v w r g = goes_on_more u v w (run_goes_on u v r) g

-- and where the same stood.
pub same_then_on : (u v w : World) → what_stands v ≡ what_stands u → GoesOn v w → GoesOn u w
same_then_on u v w s g = goes_on_more u v w (same_on u v s) g

-- ---- what stood at the fold

stood_by_parts : (s t : State)
    → before (map change_of t.world.ground.trail.items) t.world.ground.facts ≡ before (map change_of s.world.ground.trail.items) s.world.ground.facts
    → t.first_in_force.items ≡ s.first_in_force.items → t.first_names ≡ s.first_names → what_stood t ≡ what_stood s
stood_by_parts s t facts in_force names = λ i. record { facts = facts i; in_force = in_force i; names = names i }

-- It stays as what stands goes on,
stood_on : (s t : State) → GoesOn s.world t.world → t.first_in_force.items ≡ s.first_in_force.items → t.first_names ≡ s.first_names
    → what_stood t ≡ what_stood s
stood_on s t g in_force names = stood_by_parts s t (grown_first s.world.ground t.world.ground g.grown) in_force names

pub gone_on : (s t : State) → GoesOn s.world t.world → t.first_in_force.items ≡ s.first_in_force.items → t.first_names ≡ s.first_names
    → t.replays ≡ s.replays → HasGoneOn s t
gone_on s t g in_force names replays = record { world = g; fold = stood_on s t g in_force names; replays = replays }

-- and as what was written last is taken back.
pub stood_at_start : (k : ℕ) (s t : State) → IsBackTo k s.world.ground t.world.ground → t.first_in_force.items ≡ s.first_in_force.items
    → t.first_names ≡ s.first_names → what_stood t ≡ what_stood s
stood_at_start k s t b in_force names = stood_by_parts s t (back_first k s.world.ground t.world.ground b) in_force names
