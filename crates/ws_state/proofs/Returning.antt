-- The way back to a point, and to what stood before the update that was said last.
use Rattle.std.proofs.Common.{◌≡◌, ◌∙◌, ap, refl, sym, subst, ℕ, ◌<◌, ◌≤◌, Bool, true, false, List, [], ◌∷◌, map, length, drop, take, Option, Some, None, ◌&&◌, arith}
use Rattle.std.specs.Prelude.{nat_eq}
use Rattle.std.specs.Cmp.Lexicographic.{pointwise}
use Rattle.std.proofs.lemmas.Bool.{eq-eqb}
use Rattle.std.proofs.lemmas.List.{map-append, take-append-drop}
use Rattle.base_types.specs.Meanings.{change_of}
use Rattle.base_types.specs.declared.updates.Write.{Write}
use Rattle.def_chase.specs.Repository.{Change}
use Rattle.def_chase.specs.Values.{Fact}
use Rattle.def_chase.proofs.Bools.{differ, none_some, some_same}
use Rattle.ws_ground.specs.Trails.{IsBackTo, before}
use Rattle.ws_ground.proofs.Trailing.{back_same, before_both}
use Rattle.ws_state.specs.declared.latest.Latest.{Latest}
use Rattle.ws_state.specs.declared.points.Point.{Point}
use Rattle.ws_state.specs.declared.points.WorldBefore.{WorldBefore}
use Rattle.ws_state.specs.declared.worlds.World.{World}
use Rattle.ws_state.specs.declared.states.State.{State}
use Rattle.ws_state.specs.Stands.{WhatStands, WhatStood, GoesOn, what_stands}
use Rattle.ws_state.specs.Returns.{IsPlaceIn, IsBackAt, LeadsBack, RunsAddUp, IsAnother, TakesBack}
use Rattle.ws_state.proofs.Staying.{stands_by_parts, goes_on_more}

-- What stood when it was kept stands again, if what has gone on since is taken back.
stands_again : (b : WorldBefore) (u v w : World) → IsPlaceIn u b → GoesOn u v → IsBackAt b (what_stands v) (what_stands w) → what_stands w ≡ what_stands u
stands_again b u v w place on back =
    let to : IsBackTo (length u.ground.trail.items) v.ground w.ground =
    record {
      facts = back.facts ∙ ap (λ (n : ℕ). before (map change_of (drop n v.ground.trail.items)) v.ground.facts) place.trail;
      trail = back.trail ∙ ap (λ (n : ℕ). take n v.ground.trail.items) place.trail;
    } in
    let same = back_same u.ground v.ground w.ground on.grown to in
    stands_by_parts u w same.facts same.trail
    (back.in_force ∙ place.in_force)
    (back.gone ∙ place.gone)
    (back.order ∙ ap (λ (n : ℕ). take n v.order.items) place.order ∙ on.order)

-- What stands is taken back to the point.
pub led_back : (p : Point) (t u : State) → IsBackAt p.world (what_stands t.world) (what_stands u.world) → LeadsBack p t u
led_back p t u back = record { stands = λ s point gone_on. stands_again p.world s.world t.world u.world point.world gone_on.world back }

-- Lines were replayed since.
pub replayed_since : (p : Point) (t u : State) → (t.replays ≡ p.replays → ⊥) → LeadsBack p t u
replayed_since p t u other = record { stands = λ s point gone_on. absurd (other (gone_on.replays ∙ sym point.replays)) }

-- Runs add up.
pub adds_up : RunsAddUp
adds_up s t u p q = record {
  world = goes_on_more s.world t.world u.world p.world q.world;
  fold = q.fold ∙ p.fold;
  replays = q.replays ∙ p.replays;
}

-- What stood at the fold stays as what was written last is taken back.
pub stood_back : (b : WorldBefore) (v w : WhatStands) (ms : List ℕ) (n : ℕ) → IsBackAt b v w
    → ◌≡◌ {A = WhatStood} record { facts = before (map change_of w.trail) w.facts; in_force = ms; names = n } record { facts = before (map change_of v.trail) v.facts; in_force = ms; names = n }
stood_back b v w ms n back =
    let first : before (map change_of w.trail) w.facts ≡ before (map change_of v.trail) v.facts =
    ap (λ (D : List Fact). before (map change_of w.trail) D) back.facts
    ∙ ap (λ (l : List Write). before (map change_of l) (before (map change_of (drop b.ground.trail v.trail)) v.facts)) back.trail
    ∙ sym (before_both (map change_of (take b.ground.trail v.trail)) (map change_of (drop b.ground.trail v.trail)) v.facts)
    ∙ sym (ap (λ (l : List Change). before l v.facts) (map-append change_of (take b.ground.trail v.trail) (drop b.ground.trail v.trail)))
    ∙ ap (λ (l : List Write). before (map change_of l) v.facts) (take-append-drop b.ground.trail v.trail) in
    λ i. record { facts = first i; in_force = ms; names = n }

-- ---- the update that was said last

-- What it did is taken back.
pub latest_taken_back : (ns : List ℕ) (t u : State) (l : Latest) → t.latest ≡ Some l → IsBackAt l.world (what_stands t.world) (what_stands u.world)
    → TakesBack ns t u
latest_taken_back ns t u l there back = record {
  stands = λ n s is said few once.
      let same : said.latest ≡ l = some_same said.latest l (sym said.there ∙ there) in
      stands_again l.world s.world t.world u.world (subst (λ (k : Latest). IsPlaceIn s.world k.world) same said.kept.world) said.goes_on back;
}

-- Another one is undone.
pub another_taken_back : (ns : List ℕ) (t u : State) → IsAnother ns (length t.world.waiting.items) t.redeclared t.latest → TakesBack ns t u
another_taken_back ns t u another = record {
  stands = λ n s is said few once.
      absurd (another.other said.latest said.there (is ∙ ap (λ (m : ℕ). m ∷ []) (sym said.kept.number))
      (subst (λ (k : ℕ). k ≤ length t.world.waiting.items) (sym said.kept.waiting) few) once);
}

-- None is kept, or another one is meant.
pub none_kept : (ns : List ℕ) (waiting : ℕ) (again : Bool) (kept : Option Latest) → kept ≡ None → IsAnother ns waiting again kept
none_kept ns waiting again kept none = record { other = λ l there is few once. absurd (none_some l (sym none ∙ there)) }

pub another_kept : (ns : List ℕ) (waiting : ℕ) (again meant : Bool) (kept : Option Latest) (l : Latest) → kept ≡ Some l
    → (ns ≡ l.number ∷ [] → l.waiting ≤ waiting → again ≡ false → meant ≡ true) → meant ≡ false → IsAnother ns waiting again kept
another_kept ns waiting again meant kept l there if_meant isnt = record {
  other = λ k is_there is few once.
      let same : k ≡ l = some_same k l (sym is_there ∙ there) in
      let meant_so : meant ≡ true = if_meant (is ∙ ap (λ (j : Latest). j.number ∷ []) same) (subst (λ (j : Latest). j.waiting ≤ waiting) same few) once in
      differ (sym isnt ∙ meant_so);
}

pub not_again : (again : Bool) → again ≡ true → again ≡ false → false ≡ true
not_again again is isnt = sym isnt ∙ is

pub not_fewer : (waiting before : ℕ) → waiting < before → before ≤ waiting → false ≡ true
not_fewer waiting before fewer few = absurd (omega (arith, fewer, few))

pub same_number : (ns ms : List ℕ) (n : ℕ) → ms ≡ n ∷ [] → ns ≡ n ∷ [] → pointwise nat_eq ns ms ≡ true
same_number ns ms n one is =
    ap (λ (l : List ℕ). pointwise nat_eq l ms) is
    ∙ ap (λ (l : List ℕ). pointwise nat_eq (n ∷ []) l) one
    ∙ ap (λ (b : Bool). b && true) (eq-eqb n n refl)
