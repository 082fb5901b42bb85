-- Levels that rise over others and sink back, and those of a base and trails.
use Rattle.std.proofs.Common.{◌≡◌, ◌∙◌, ap, refl, sym, subst, ℕ, zero, suc, ◌+◌, ◌-◌, ◌<◌, ◌≤◌, List, [], ◌∷◌, map, take, drop, length, get_or, arith}
use Rattle.std.specs.List.{flat_map}
use Rattle.def_chase.specs.Values.{Fact}
use Rattle.def_chase.specs.Repository.{Change, apply}
use Rattle.def_steps.proofs.Steady.{apply_join}
use Rattle.audit_updates.specs.Programs.{IsBetween}
use Rattle.audit_updates.specs.declared.updates.AuditedUpdate.{AuditedUpdate}
use Rattle.audit_replay.specs.Levels.{RisesFrom, laid, raised, top}
use Rattle.audit_replay.specs.Places.{AreBetween, Stand, StandOn, trail_of}

-- ---- up and down

-- They rise from themselves.
pub risen_none : (Ds : List (List Fact)) → RisesFrom Ds Ds
risen_none Ds = let e : length Ds ≡ 0 + length Ds = omega arith in record { many = 0; down = refl; long = e }

-- And by one level more.
pub risen_more : (Ds Es Fs : List (List Fact)) (ws : List Change) → RisesFrom Ds Es → Fs ≡ raised Es ws → RisesFrom Ds Fs
risen_more Ds Es Fs ws r e =
    let l : length Fs ≡ suc (length Es) = ap (λ (Gs : List (List Fact)). length Gs) e in
    let m : length Fs ≡ suc r.many + length Ds = omega (arith, l, r.long) in
    record { many = suc r.many; down = ap (λ (Gs : List (List Fact)). drop (suc r.many) Gs) e ∙ r.down; long = m }

-- There are more of them.
pub risen_above : (Ds Es : List (List Fact)) (h : ℕ) → RisesFrom Ds Es → length Ds ≡ suc h → h + 1 ≤ length Es
risen_above Ds Es h r e = omega (arith, r.long, e)

-- What rose sinks back.
pub sunk_back : (Ds Es Fs : List (List Fact)) (h : ℕ) → RisesFrom Ds Es → length Ds ≡ suc h → Fs ≡ drop (length Es - (h + 1)) Es → Fs ≡ Ds
sunk_back Ds Es Fs h r e f =
    let m : length Es - (h + 1) ≡ r.many = omega (arith, r.long, e) in
    f ∙ ap (λ n. drop n Es) m ∙ r.down

-- ---- the levels of a base and trails

taken_long : {A : Type 0} (xs : List A) (k : ℕ) → k ≤ length xs → length (take k xs) ≡ k
taken_long xs zero l = refl
taken_long [] (suc k) l = absurd (omega (arith, l))
taken_long (x ∷ xs) (suc k) l = ap suc (taken_long xs k (omega (arith, l)))

pub mapped_long : {A B : Type 0} (f : A → B) (xs : List A) → length (map f xs) ≡ length xs
mapped_long f [] = refl
mapped_long f (x ∷ xs) = ap suc (mapped_long f xs)

laid_long : (Ds : List (List Fact)) (D : List Fact) (wss : List (List Change)) → length (laid Ds D wss) ≡ suc (length Ds + length wss)
laid_long Ds D [] = let e : suc (length Ds) ≡ suc (length Ds + 0) = omega arith in e
laid_long Ds D (ws ∷ wss) =
    let more = laid_long (D ∷ Ds) (apply D ws) wss in
    let e : length (laid (D ∷ Ds) (apply D ws) wss) ≡ suc (length Ds + suc (length wss)) = omega (arith, more) in e

module _ {X : Type 0} (f : X → List Change) where
  laid_more : (Ds : List (List Fact)) (D : List Fact) (rs : List X) (h : ℕ) (r : X) → h < length rs → r ≡ get_or rs h r → raised (laid Ds D (map f (take h rs))) (f r) ≡ laid Ds D (map f (take (suc h) rs))
  laid_more Ds D [] h r l e = absurd (omega (arith, l))
  laid_more Ds D (q ∷ rs) zero r l e = λ i. apply D (f (e i)) ∷ D ∷ Ds
  laid_more Ds D (q ∷ rs) (suc h) r l e = laid_more (D ∷ Ds) (apply D (f q)) rs h r (omega (arith, l)) e

  laid_less : (Ds : List (List Fact)) (D : List Fact) (rs : List X) (h : ℕ) → h < length rs → drop 1 (laid Ds D (map f (take (suc h) rs))) ≡ laid Ds D (map f (take h rs))
  laid_less Ds D [] h l = absurd (omega (arith, l))
  laid_less Ds D (q ∷ rs) zero l = refl
  laid_less Ds D (q ∷ rs) (suc h) l = laid_less (D ∷ Ds) (apply D (f q)) rs h (omega (arith, l))

  pub laid_top : (Ds : List (List Fact)) (D : List Fact) (xs : List X) → top (laid Ds D (map f xs)) ≡ apply D (flat_map f xs)
  laid_top Ds D [] = refl
  laid_top Ds D (x ∷ xs) = laid_top (D ∷ Ds) (apply D (f x)) xs ∙ sym (apply_join D (f x) (flat_map f xs))

-- So many stand above the lowest.
pub stand_long : (D : List Fact) (rs : List AuditedUpdate) (k : ℕ) (levels : List (List Fact)) → k ≤ length rs → StandOn D rs k levels → length levels ≡ suc k
stand_long D rs k levels l s =
    let many = laid_long [] D (map trail_of (take k rs)) in
    let some = mapped_long trail_of (take k rs) in
    let few = taken_long rs k l in
    let e : length (laid [] D (map trail_of (take k rs))) ≡ suc k = omega (arith, many, some, few) in
    ap (λ (Gs : List (List Fact)). length Gs) s ∙ e

-- One more.
pub stand_more : (D : List Fact) (rs : List AuditedUpdate) (k : ℕ) (r : AuditedUpdate) (ws : List Change) (levels levels' : List (List Fact)) → k < length rs → r ≡ get_or rs k r → ws ≡ trail_of r → levels' ≡ raised levels ws → StandOn D rs k levels → StandOn D rs (suc k) levels'
stand_more D rs k r ws levels levels' l e w m s = m ∙ (λ i. raised (s i) (w i)) ∙ laid_more trail_of [] D rs k r l e

-- One less.
pub stand_less : (D : List Fact) (rs : List AuditedUpdate) (h k : ℕ) (levels levels' : List (List Fact)) → length levels ≡ suc h → k < h → levels' ≡ drop 1 levels → Stand D rs levels → Stand D rs levels'
stand_less D rs h k levels levels' l m e s = by s.many refl
  where
    by : (n : ℕ) → s.many ≡ n → Stand D rs levels'
    by zero q = let long = stand_long D rs s.many levels s.within s.stand in absurd (omega (arith, long, l, q, m))
    by (suc n) q =
        let lt : n < length rs = omega (arith, q, s.within) in
        let le : n ≤ length rs = omega (arith, lt) in
        record { many = n; within = le; stand = e ∙ ap (λ (Gs : List (List Fact)). drop 1 Gs) (s.stand ∙ ap (λ j. laid [] D (map trail_of (take j rs))) q) ∙ laid_less trail_of [] D rs n lt }

-- One more, where not so many stand there as there are audited updates.
pub stand_raised : (D : List Fact) (rs : List AuditedUpdate) (h : ℕ) (r : AuditedUpdate) (ws : List Change) (levels levels' : List (List Fact)) → length levels ≡ suc h → h < length rs → r ≡ get_or rs h r → ws ≡ trail_of r → levels' ≡ raised levels ws → Stand D rs levels → Stand D rs levels'
stand_raised D rs h r ws levels levels' l m e w f s =
    let long = stand_long D rs s.many levels s.within s.stand in
    let same : s.many ≡ h = omega (arith, long, l) in
    let le : suc h ≤ length rs = omega (arith, m) in
    record { many = suc h; within = le; stand = stand_more D rs h r ws levels levels' m e w f (subst (λ (n : ℕ). StandOn D rs n levels) same s.stand) }

-- They have come to the place.
pub stand_there : (D : List Fact) (rs : List AuditedUpdate) (k : ℕ) (levels : List (List Fact)) → length levels ≡ suc k → Stand D rs levels → StandOn D rs k levels
stand_there D rs k levels l s =
    let long = stand_long D rs s.many levels s.within s.stand in
    let same : s.many ≡ k = omega (arith, long, l) in
    subst (λ (n : ℕ). StandOn D rs n levels) same s.stand

none_dropped : (n : ℕ) → ◌≡◌ {A = List (List Fact)} [] (drop n [])
none_dropped zero = refl
none_dropped (suc n) = refl

-- Levels that rise over those that rise.
pub left_risen : (Ds Es Fs : List (List Fact)) → RisesFrom Ds Es → RisesFrom Es Fs → RisesFrom Ds Fs
left_risen Ds Es Fs r q =
    let m : length Fs ≡ (q.many + r.many) + length Ds = omega (arith, q.long, r.long) in
    record { many = q.many + r.many; down = dropped q.many Fs ∙ ap (λ (Gs : List (List Fact)). drop r.many Gs) q.down ∙ r.down; long = m }
  where
    dropped : (n : ℕ) (Gs : List (List Fact)) → drop (n + r.many) Gs ≡ drop r.many (drop n Gs)
    dropped zero Gs = let z : 0 + r.many ≡ r.many = omega arith in ap (λ k. drop k Gs) z
    dropped (suc n) [] = let s : suc n + r.many ≡ suc (n + r.many) = omega arith in ap (λ k. drop k []) s ∙ none_dropped r.many
    dropped (suc n) (G ∷ Gs) = let s : suc n + r.many ≡ suc (n + r.many) = omega arith in ap (λ k. drop k (G ∷ Gs)) s ∙ dropped n Gs

-- One level more than some are two at least.
pub raised_long : (Ds Es : List (List Fact)) (ws : List Change) (h : ℕ) → length Ds ≡ suc h → Es ≡ raised Ds ws → 2 ≤ length Es
raised_long Ds Es ws h l e = let m : length Es ≡ suc (length Ds) = ap (λ (Gs : List (List Fact)). length Gs) e in omega (arith, m, l)

-- It sinks back.
pub sunk_one : (Ds Es Fs : List (List Fact)) (ws : List Change) → Es ≡ raised Ds ws → Fs ≡ drop 1 Es → Fs ≡ Ds
sunk_one Ds Es Fs ws e f = f ∙ ap (λ (Gs : List (List Fact)). drop 1 Gs) e

-- The audited update at a place stands between two steps.
pub between_at : (rs : List AuditedUpdate) (k : ℕ) (r : AuditedUpdate) → AreBetween rs → k < length rs → r ≡ get_or rs k r → IsBetween r.program
between_at [] k r b l e = absurd (omega (arith, l))
between_at (q ∷ rs) zero r b l e = subst (λ (x : AuditedUpdate). IsBetween x.program) (sym e) b.0
between_at (q ∷ rs) (suc k) r b l e = between_at rs k r b.1 (omega (arith, l)) e
