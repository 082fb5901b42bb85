-- What an event touches tells whether it makes a step stale.
use Rattle.std.proofs.Common.{◌≡◌, ℕ, zero, suc, ◌≤◌, ◌+◌, refl, arith, List, [], ◌∷◌, ◌++◌, take, Bool, true, false, ◌||◌, ◌&&◌}
use Rattle.std.specs.Prelude.{if◌then◌else◌, nat_le}
use Rattle.std.specs.List.{AllByRecursion, list_any}
use Rattle.std.proofs.lemmas.Bool.{both_ways, le-leb}
use Rattle.def_machine.specs.Machine.{Machine, Avoids}
use Rattle.def_machine.specs.Updates.{Update, Read, trail}
use Rattle.def_machine.specs.Cascade.{readers, has_number, Member}
use Rattle.def_machine.specs.Effects.{Event, Effect}
use Rattle.def_machine.specs.Histories.{causes_in}
use Rattle.def_machine.specs.Local.{acts_on}
use Rattle.def_machine.specs.CauseLaw.{members_of}
use Rattle.def_machine.specs.Stamps.{writes_in, loses, IsUntouched}
use Rattle.def_history.specs.Touches.{touches_of, touches_lost, touches_by, meets, TouchLaw}

or_parts : (a b : Bool) → (a || b) ≡ false → (a ≡ false) × (b ≡ false)
or_parts true b h = absurd (both_ways true h refl)
or_parts false b h = (refl, h)

and_second : (a b : Bool) → a ≡ true → (a && b) ≡ false → b ≡ false
and_second true b h e = e
and_second false b h e = absurd (both_ways false refl h)

any_parts : {A : Type 0} (p : A → Bool) (xs ys : List A) → list_any p (xs ++ ys) ≡ false → (list_any p xs ≡ false) × (list_any p ys ≡ false)
any_parts p [] ys h = (refl, h)
any_parts p (x ∷ xs) ys h =
    let one = or_parts (p x) (list_any p (xs ++ ys)) h in
    let more = any_parts p xs ys one.1 in
    ((λ i. one.0 i || more.0 i), more.1)

module _ (M : Machine) (k : ℕ) (r : Read M) where
  -- writes of an update among the first k that are not met are of relations that the read doesn't mention
  unmet : (i : ℕ) (ws : List M.Write) → i ≤ k → list_any (meets k r) (touches_of M i ws) ≡ false → Avoids M (M.mentions r.query) ws
  unmet i [] l h = tt
  unmet i (w ∷ ws) l h =
      let one = or_parts (meets k r (record { update = i; relation = M.touches w })) (list_any (meets k r) (touches_of M i ws)) h in
      (and_second (nat_le i k) (M.mentions r.query (M.touches w)) (le-leb i k l) one.0, unmet i ws l one.1)

  abbrev Avoided : Member M → Type 0
  Avoided m = Avoids M (M.mentions r.query) m.trail

  -- with one member in front of the others, or none
  with_first : (n : ℕ) (ws : List M.Write) (ms below : List (Member M)) → n ≤ k → (list_any (meets k r) (touches_lost M ms) ≡ false → AllByRecursion Avoided below)
      → (b : Bool) → list_any (meets k r) (touches_lost M ((if b then record { number = n; trail = ws } ∷ [] else []) ++ ms)) ≡ false
      → AllByRecursion Avoided ((if b then record { number = n; trail = ws } ∷ [] else []) ++ below)
  with_first n ws ms below l more true h =
      let parts = any_parts (meets k r) (touches_of M n ws) (touches_lost M ms) h in (unmet n ws l parts.0, more parts.1)
  with_first n ws ms below l more false h = more h

  unmet_lost : (ns : List ℕ) (n j : ℕ) (us : List (Update M)) → n + j ≡ suc k → list_any (meets k r) (touches_lost M (members_of M ns n us)) ≡ false → AllByRecursion Avoided (members_of M ns n (take j us))
  unmet_lost ns n zero us e h = tt
  unmet_lost ns n (suc j) [] e h = tt
  unmet_lost ns n (suc j) (u ∷ us) e h = with_first n (trail M u) (members_of M ns (suc n) us) (members_of M ns (suc n) (take j us)) (omega (arith, e)) (unmet_lost ns (suc n) j us (omega (arith, e))) (has_number ns n) h

untouched : (M : Machine) (D : M.Repository) (us : List (Update M)) (e : Event M) (x : Effect M) (k : ℕ) (reads : List (Read M))
    → list_any (λ r. list_any (meets k r) (touches_by M D us e x)) reads ≡ false → AllByRecursion (λ (r : Read M). IsUntouched M D us e x k (M.mentions r.query)) reads
untouched M D us e x k [] h = tt
untouched M D us e x k (r ∷ reads) h =
    let one = or_parts (list_any (meets k r) (touches_by M D us e x)) (list_any (λ q. list_any (meets k q) (touches_by M D us e x)) reads) h in
    let ns = loses M D us e ++ readers (causes_in x.entry) in
    let parts = any_parts (meets k r) (touches_of M (acts_on us e) (writes_in x.entry)) (touches_lost M (members_of M ns 1 us)) one.0 in (
      record {
        added = λ l. unmet M k r (acts_on us e) (writes_in x.entry) l parts.0;
        removed = unmet_lost M k r ns 1 k us (omega arith) parts.1;
      },
      untouched M D us e x k reads one.1,
    )

pub touch_law : (M : Machine) → TouchLaw M
touch_law M D us e x k reads h =
    let parts = or_parts (list_any (λ r. list_any (meets k r) (touches_by M D us e x)) reads) (has_number (readers (causes_in x.entry)) (suc k)) h in
    record { untouched = untouched M D us e x k reads parts.0; kept = parts.1 }
