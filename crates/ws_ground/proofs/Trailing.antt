-- Trails that grow, and that are taken back.
use Rattle.std.proofs.Common.{◌≡◌, ◌∙◌, ap, refl, sym, Bool, true, false, not, ℕ, ◌+◌, ◌<◌, ◌≤◌, List, [], ◌∷◌, ◌++◌, map, length, drop, take, append_assoc, length-append, arith}
use Rattle.std.proofs.lemmas.List.{append-nil, map-append, take-append-drop, drop-append-le, take-append-le, drop_all, take_all}
use Rattle.base_types.specs.Meanings.{change_of, fact_of}
use Rattle.base_types.specs.declared.tuples.Tuple.{Tuple}
use Rattle.base_types.specs.declared.updates.Write.{Write}
use Rattle.base_types.specs.declared.updates.Write.TheVariants.{Insert as InsertWrite, Delete as DeleteWrite}
use Rattle.def_chase.specs.Values.{Fact}
use Rattle.def_chase.specs.Repository.{Change, Insert, Delete, IsRepository, has, change}
use Rattle.ws_ground.proofs.Undoing.{inserted_again, deleted_again, insertion_undone, deletion_undone}
use Rattle.ws_ground.specs.declared.grounds.Ground.{Ground}
use Rattle.ws_ground.specs.Trails.{HasMade, IsPopped, HasGrown, IsSame, IsBackTo, before, first_facts, undoing}

-- Before writes and more writes.
pub before_both : (ws vs : List Change) (D : List Fact) → before (ws ++ vs) D ≡ before ws (before vs D)
before_both [] vs D = refl
before_both (w ∷ ws) vs D = ap (λ (E : List Fact). change E (undoing w)) (before_both ws vs D)

-- The last write of a trail is taken back.
one_back : (old new : List Write) (w : Write) (k : ℕ) (D : List Fact) → k < length old → old ≡ new ++ w ∷ []
    → before (map change_of (drop k old)) D ≡ before (map change_of (drop k new)) (change D (undoing (change_of w)))
one_back old new w k D h e =
    let long : length old ≡ length new + 1 = ap (λ (l : List Write). length l) e ∙ length-append new (w ∷ []) in
    let within : k ≤ length new = omega (arith, long, h) in
    ap (λ (l : List Write). before (map change_of (drop k l)) D) e
    ∙ ap (λ (l : List Write). before (map change_of l) D) (drop-append-le k new (w ∷ []) within)
    ∙ ap (λ (l : List Change). before l D) (map-append change_of (drop k new) (w ∷ []))
    ∙ before_both (map change_of (drop k new)) (change_of w ∷ []) D

-- What is kept of it stays.
kept_back : (old new : List Write) (w : Write) (k : ℕ) → k < length old → old ≡ new ++ w ∷ [] → take k old ≡ take k new
kept_back old new w k h e =
    let long : length old ≡ length new + 1 = ap (λ (l : List Write). length l) e ∙ length-append new (w ∷ []) in
    let within : k ≤ length new = omega (arith, long, h) in
    ap (λ (l : List Write). take k l) e ∙ take-append-le k new (w ∷ []) within

-- One write less is left to be taken back.
pub back_on : (ws old new : List Write) (w : Write) (k : ℕ) (D E F : List Fact) → before (map change_of (drop k old)) E ≡ before (map change_of (drop k ws)) D
    → IsPopped k old new w → F ≡ change E (undoing (change_of w)) → before (map change_of (drop k new)) F ≡ before (map change_of (drop k ws)) D
back_on ws old new w k D E F so_far p undone =
    ap (λ (G : List Fact). before (map change_of (drop k new)) G) undone ∙ sym (one_back old new w k E p.many p.last) ∙ so_far

pub kept_on : (ws old new : List Write) (w : Write) (k : ℕ) → take k old ≡ take k ws → IsPopped k old new w → take k new ≡ take k ws
kept_on ws old new w k so_far p = sym (kept_back old new w k p.many p.last) ∙ so_far

pub fewer_left : (old new : List Write) (w : Write) (k : ℕ) → IsPopped k old new w → length new < length old
fewer_left old new w k p =
    let long : length old ≡ length new + 1 = ap (λ (l : List Write). length l) p.last ∙ length-append new (w ∷ []) in
    omega (arith, long)

-- All are taken back.
pub back_all : (ws vs : List Write) (k : ℕ) (D E : List Fact) → before (map change_of (drop k vs)) E ≡ before (map change_of (drop k ws)) D → length vs ≤ k
    → E ≡ before (map change_of (drop k ws)) D
back_all ws vs k D E so_far few = sym (ap (λ (l : List Write). before (map change_of l) E) (drop_all k vs few)) ∙ so_far

pub kept_all : (ws vs us : List Write) (k : ℕ) → take k vs ≡ take k ws → length vs ≤ k → us ≡ vs → us ≡ take k ws
kept_all ws vs us k so_far few same = same ∙ sym (take_all k vs few) ∙ so_far

-- Nothing is made.
pub none_made : (ws : List Write) (D : List Fact) → HasMade ws D ws D
none_made ws D = record { more = []; longer = sym (append-nil ws); undone = refl }

-- One write is made, which is taken back by another one.
pub one_made : (ws vs : List Write) (D E : List Fact) (w : Write) → vs ≡ ws ++ w ∷ [] → change E (undoing (change_of w)) ≡ D → HasMade ws D vs E
one_made ws vs D E w e b = record { more = w ∷ []; longer = e; undone = b }

-- More is made after it.
pub more_made : (ws vs us : List Write) (D E F : List Fact) → HasMade ws D vs E → HasMade vs E us F → HasMade ws D us F
more_made ws vs us D E F p q = record {
  more = p.more ++ q.more;
  longer = q.longer ∙ ap (λ (l : List Write). l ++ q.more) p.longer ∙ append_assoc ws p.more q.more;
  undone =
      ap (λ (l : List Change). before l F) (map-append change_of p.more q.more)
      ∙ before_both (map change_of p.more) (map change_of q.more) F
      ∙ ap (λ (G : List Fact). before (map change_of p.more) G) q.undone
      ∙ p.undone;
}

-- ---- grounds

-- What was there before all of the trail stays as it grows,
pub grown_first : (g h : Ground) → HasGrown g h → first_facts h ≡ first_facts g
grown_first g h p =
    ap (λ (l : List Write). before (map change_of l) h.facts) p.longer
    ∙ ap (λ (l : List Change). before l h.facts) (map-append change_of g.trail.items p.more)
    ∙ before_both (map change_of g.trail.items) (map change_of p.more) h.facts
    ∙ ap (λ (D : List Fact). before (map change_of g.trail.items) D) p.undone

-- and as it is taken back.
pub back_first : (k : ℕ) (g h : Ground) → IsBackTo k g h → first_facts h ≡ first_facts g
back_first k g h b =
    ap (λ (D : List Fact). before (map change_of h.trail.items) D) b.facts
    ∙ ap (λ (l : List Write). before (map change_of l) (before (map change_of (drop k g.trail.items)) g.facts)) b.trail
    ∙ sym (before_both (map change_of (take k g.trail.items)) (map change_of (drop k g.trail.items)) g.facts)
    ∙ sym (ap (λ (l : List Change). before l g.facts) (map-append change_of (take k g.trail.items) (drop k g.trail.items)))
    ∙ ap (λ (l : List Write). before (map change_of l) g.facts) (take-append-drop k g.trail.items)

-- A ground that is the same has the same before all of its trail.
pub same_first : (g h : Ground) → IsSame g h → first_facts h ≡ first_facts g
same_first g h s =
    ap (λ (D : List Fact). before (map change_of h.trail.items) D) s.facts
    ∙ ap (λ (l : List Write). before (map change_of l) g.facts) s.trail

-- What follows a list, and the list before it.
following : (ws vs : List Write) → drop (length ws) (ws ++ vs) ≡ vs
following ws vs =
    drop-append-le (length ws) ws vs (omega arith)
    ∙ ap (λ (l : List Write). l ++ vs) (drop_all (length ws) ws (omega arith))

in_front : (ws vs : List Write) → take (length ws) (ws ++ vs) ≡ ws
in_front ws vs = take-append-le (length ws) ws vs (omega arith) ∙ take_all (length ws) ws (omega arith)

-- A ground that has grown, and is taken back to the length that its trail had, is the same.
pub back_same : (g h i : Ground) → HasGrown g h → IsBackTo (length g.trail.items) h i → IsSame g i
back_same g h i p b = record {
  facts =
      b.facts
      ∙ ap (λ (l : List Write). before (map change_of (drop (length g.trail.items) l)) h.facts) p.longer
      ∙ ap (λ (l : List Write). before (map change_of l) h.facts) (following g.trail.items p.more)
      ∙ p.undone;
  trail =
      b.trail
      ∙ ap (λ (l : List Write). take (length g.trail.items) l) p.longer
      ∙ in_front g.trail.items p.more;
}

-- ---- one write, by whether it changed anything

not_true : (b c : Bool) → b ≡ not c → b ≡ true → c ≡ false
not_true b true e t = let never : false ≡ true = sym e ∙ t in cc
not_true b false e t = refl

not_false : (b c : Bool) → b ≡ not c → b ≡ false → c ≡ true
not_false b true e f = refl
not_false b false e f = let never : true ≡ false = sym e ∙ f in cc

-- The tuple came.
pub came : (ws us vs : List Write) (D E : List Fact) (t s : Tuple) (b : Bool) → IsRepository D → b ≡ not (has D (fact_of t)) → b ≡ true
    → E ≡ change D (Insert (fact_of t)) → us ≡ ws → vs ≡ us ++ InsertWrite s ∷ [] → s ≡ t → HasMade ws D vs E
came ws us vs D E t s b r tells is made same longer shared =
    one_made ws vs D E (InsertWrite s) (longer ∙ ap (λ (l : List Write). l ++ InsertWrite s ∷ []) same)
    (ap (λ (F : List Fact). change F (Delete (fact_of s))) made
    ∙ ap (λ (u : Tuple). change (change D (Insert (fact_of t))) (Delete (fact_of u))) shared
    ∙ insertion_undone D (fact_of t) r (not_true b (has D (fact_of t)) tells is))

-- It was there.
pub came_not : (ws us : List Write) (D E : List Fact) (t : Tuple) (b : Bool) → IsRepository D → b ≡ not (has D (fact_of t)) → b ≡ false
    → E ≡ change D (Insert (fact_of t)) → us ≡ ws → HasMade ws D us E
came_not ws us D E t b r tells isnt made same =
    record { more = []; longer = same ∙ sym (append-nil ws); undone = made ∙ inserted_again D (fact_of t) r (not_false b (has D (fact_of t)) tells isnt) }

-- The tuple went.
pub went : (ws us vs : List Write) (D E : List Fact) (t : Tuple) (b : Bool) → IsRepository D → b ≡ has D (fact_of t) → b ≡ true
    → E ≡ change D (Delete (fact_of t)) → us ≡ ws → vs ≡ us ++ DeleteWrite t ∷ [] → HasMade ws D vs E
went ws us vs D E t b r tells is made same longer =
    one_made ws vs D E (DeleteWrite t) (longer ∙ ap (λ (l : List Write). l ++ DeleteWrite t ∷ []) same)
    (ap (λ (F : List Fact). change F (Insert (fact_of t))) made ∙ deletion_undone D (fact_of t) r (sym tells ∙ is))

-- It was not there.
pub went_not : (ws us : List Write) (D E : List Fact) (t : Tuple) (b : Bool) → IsRepository D → b ≡ has D (fact_of t) → b ≡ false
    → E ≡ change D (Delete (fact_of t)) → us ≡ ws → HasMade ws D us E
went_not ws us D E t b r tells isnt made same =
    record { more = []; longer = same ∙ sym (append-nil ws); undone = made ∙ deleted_again D (fact_of t) r (sym tells ∙ isnt) }
