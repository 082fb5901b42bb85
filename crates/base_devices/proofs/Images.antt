-- What a crash may leave before and after a call.
use Rattle.std.specs.Prelude.{slice_get}
use Rattle.std.specs.List.{list_any}
use Rattle.std.proofs.Common.{◌≡◌, ℕ, zero, suc, ◌+◌, ◌<◌, ◌≤◌, ap, refl, ◌∙◌, sym, subst, List, [], ◌∷◌, ◌++◌, length, Bool, true, false, ◌||◌, if◌then◌else◌, arith}
use Rattle.std.proofs.lemmas.List.Folds.{list_any-append}
use Rattle.base_devices.specs.Torn.{Range, covers, range_of, written, IsTorn}
use Rattle.base_devices.specs.Logs.{Call, Load, Sync, Write}
use Rattle.base_devices.specs.Traces.{Held, fresh, after, after_all, may_leave, IsImage}
use Rattle.base_devices.proofs.Places.{written_longer, written_elsewhere}

neither : (a b : Bool) → (a || b) ≡ false → (a ≡ false) × (b ≡ false)
neither true b e = absurd (cc)
neither false b e = (refl, e)

-- outside ranges with one more
none_more : (open_ : List Range) (r : Range) (i : ℕ) → list_any (λ q. covers q i) open_ ≡ false → covers r i ≡ false → list_any (λ q. covers q i) (open_ ++ r ∷ []) ≡ false
none_more open_ r i e f = list_any-append (λ q. covers q i) open_ (r ∷ []) ∙ rw (e, f) refl

fewer : (open_ : List Range) (r : Range) (i : ℕ) → list_any (λ q. covers q i) (open_ ++ r ∷ []) ≡ false → (list_any (λ q. covers q i) open_ ≡ false) × (covers r i ≡ false)
fewer open_ r i e =
    let parts = neither (list_any (λ q. covers q i) open_) (covers r i || false) (sym (list_any-append (λ q. covers q i) open_ (r ∷ [])) ∙ e) in
    (parts.0, (neither (covers r i) false parts.1).0)

-- ---- the bytes with those of a range put back

restored : Range → ℕ → List ℕ → List ℕ → List ℕ
restored r i [] ys = ys
restored r i (x ∷ xs) [] = []
restored r i (x ∷ xs) (y ∷ ys) = (if covers r i then x else y) ∷ restored r (suc i) xs ys

restored_long : (r : Range) (i : ℕ) (xs ys : List ℕ) → length (restored r i xs ys) ≡ length ys
unfolding restored
restored_long r i [] ys = refl
restored_long r i (x ∷ xs) [] = refl
restored_long r i (x ∷ xs) (y ∷ ys) = ap suc (restored_long r (suc i) xs ys)

restored_inside : (r : Range) (i : ℕ) (xs ys : List ℕ) (j k : ℕ) → k ≡ i + j → covers r k ≡ true → j < length xs → length xs ≤ length ys → slice_get (restored r i xs ys) j ≡ slice_get xs j
unfolding restored
restored_inside r i [] ys j k e c l long = absurd (omega arith)
restored_inside r i (x ∷ xs) [] j k e c l long = absurd (omega arith)
restored_inside r i (x ∷ xs) (y ∷ ys) zero k e c l long = let same : k ≡ i = omega arith in let here : covers r i ≡ true = subst (λ n. covers r n ≡ true) same c in rw here refl
restored_inside r i (x ∷ xs) (y ∷ ys) (suc j) k e c l long = restored_inside r (suc i) xs ys j k (omega arith) c (omega arith) (omega arith)

restored_outside : (r : Range) (i : ℕ) (xs ys : List ℕ) (j k : ℕ) → k ≡ i + j → covers r k ≡ false → slice_get (restored r i xs ys) j ≡ slice_get ys j
unfolding restored
restored_outside r i [] ys j k e c = refl
restored_outside r i (x ∷ xs) [] j k e c = refl
restored_outside r i (x ∷ xs) (y ∷ ys) zero k e c = let same : k ≡ i = omega arith in let here : covers r i ≡ false = subst (λ n. covers r n ≡ false) same c in rw here refl
restored_outside r i (x ∷ xs) (y ∷ ys) (suc j) k e c = restored_outside r (suc i) xs ys j k (omega arith) c

-- ---- a write

pub not_torn : (r : Range) (bytes : List ℕ) → IsTorn r bytes bytes
not_torn r bytes = record { no_shorter = omega arith; elsewhere = λ i l e. refl }

-- what a crash leaves after a write is what it might have left before, torn
pub left_torn : (open_ : List Range) (stable : List ℕ) (r : Range) (bytes : List ℕ) → may_leave (open_ ++ r ∷ []) stable bytes → (before : List ℕ) × may_leave open_ stable before × IsTorn r before bytes
left_torn [] stable r bytes d =
    (stable, refl, record { no_shorter = d.no_shorter; elsewhere = λ i l e. d.elsewhere i l (rw e refl) })
left_torn (q ∷ open_) stable r bytes d =
    let long : length (restored r 0 stable bytes) ≡ length bytes = restored_long r 0 stable bytes in
    let no_shorter : length stable ≤ length bytes = d.no_shorter in (
      restored r 0 stable bytes,
      record { no_shorter = omega arith; elsewhere = λ i l e. at i l e (covers r i) refl },
      record { no_shorter = omega arith; elsewhere = λ i l e. sym (restored_outside r 0 stable bytes i i (omega arith) e) },
    )
  where
    at : (i : ℕ) → i < length stable → list_any (λ p. covers p i) (q ∷ open_) ≡ false → (b : Bool) → covers r i ≡ b → slice_get (restored r 0 stable bytes) i ≡ slice_get stable i
    at i l e true c = restored_inside r 0 stable bytes i i (omega arith) c l d.no_shorter
    at i l e false c = restored_outside r 0 stable bytes i i (omega arith) c ∙ d.elsewhere i l (none_more (q ∷ open_) r i e c)

-- ---- a read gives what a crash may leave

-- what holds of it, whether or not a write is open
record Reads (h : Held) : Type 0 where
  no_shorter : length h.stable ≤ length h.bytes
  elsewhere : (i : ℕ) → i < length h.stable → list_any (λ r. covers r i) h.open_ ≡ false → slice_get h.bytes i ≡ slice_get h.stable i
  closed : h.open_ ≡ [] → h.bytes ≡ h.stable

some_open : (open_ : List Range) (r : Range) → open_ ++ r ∷ [] ≡ [] → ⊥
some_open [] r e = cc
some_open (q ∷ open_) r e = cc

fresh_reads : (bytes : List ℕ) → Reads (fresh bytes)
fresh_reads bytes = record { no_shorter = omega arith; elsewhere = λ i l e. refl; closed = λ e. refl }

call_reads : (h : Held) (call : Call) → Reads h → Reads (after h call)
call_reads h (Load fault) d = d
call_reads h (Sync true) d = d
call_reads h (Sync false) d = fresh_reads h.bytes
call_reads h (Write at bytes true) d = record {
  no_shorter = d.no_shorter;
  elsewhere = λ i l e. d.elsewhere i l (fewer h.open_ (range_of at bytes) i e).0;
  closed = λ e. absurd (some_open h.open_ (range_of at bytes) e);
}
call_reads h (Write at bytes false) d =
    let longer : length h.bytes ≤ length (written at bytes h.bytes) = written_longer at bytes h.bytes in
    let no_shorter : length h.stable ≤ length h.bytes = d.no_shorter in
    record {
      no_shorter = omega arith;
      elsewhere = λ i l e. let parts = fewer h.open_ (range_of at bytes) i e in written_elsewhere at bytes h.bytes i (omega arith) parts.1 ∙ d.elsewhere i l parts.0;
      closed = λ e. absurd (some_open h.open_ (range_of at bytes) e);
    }

all_read : (h : Held) (calls : List Call) → Reads h → Reads (after_all h calls)
all_read h [] d = d
all_read h (call ∷ calls) d = all_read (after h call) calls (call_reads h call d)

is_left : (open_ : List Range) (h : Held) → h.open_ ≡ open_ → Reads h → may_leave open_ h.stable h.bytes
is_left [] h e d = d.closed e
is_left (r ∷ open_) h e d = record { no_shorter = d.no_shorter; elsewhere = λ i l f. d.elsewhere i l (ap (λ rs. list_any (λ q. covers q i) rs) e ∙ f) }

pub read_left : (bytes : List ℕ) (calls : List Call) → IsImage (after_all (fresh bytes) calls) (after_all (fresh bytes) calls).bytes
read_left bytes calls = let h = after_all (fresh bytes) calls in is_left h.open_ h refl (all_read (fresh bytes) calls (fresh_reads bytes))
