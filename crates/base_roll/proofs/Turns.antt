-- What a crash leaves of a history of appends, whatever a record is.
use Rattle.std.proofs.Common.{◌≡◌, ℕ, ◌+◌, ◌<◌, ◌≤◌, ◌⊎◌, inl, inr, ap, refl, ◌∙◌, sym, subst, List, [], ◌∷◌, ◌++◌, arith, append_assoc, append-nil}
use Rattle.base_devices.specs.States.{State, GoesOn, IsLeft}
use Rattle.base_roll.specs.Histories.{IsBeforeOrAfter, IsAppending, IsReading, Turn, Acknowledged, Broken, Opened, NotOpened, Knowledge, InHand, InDoubt, IsAtRest, IsHistory, last_disk, Keeps, IsKept}
use Rattle.base_roll.proofs.Leaving.{goes_on}

early : (k n : ℕ) → (k < n) ⊎ (n ≤ k)
early k n = grind arith

module _ {R D : Type 0} (has : List R → List ℕ → Type 0) (state : D → State) (one : (payloads others : List R) (bytes : List ℕ) → has payloads bytes → has others bytes → payloads ≡ others) where
  goes_nowhere : (d : D) → GoesOn (state d) (state d)
  goes_nowhere d = record { later = omega arith; nothing_more = λ k bytes l i. i; nothing_less = λ k bytes l i. i }

  -- time goes on over all turns
  all_go : (d : D) (known : Knowledge R) (turns : List (Turn R D)) → IsHistory has state d known turns → GoesOn (state d) (state (last_disk d turns))
  all_go d known [] h = goes_nowhere d
  all_go d (InHand payloads) (Acknowledged w next ∷ turns) h = goes_on (state d) (state next) (state (last_disk next turns)) h.0.goes (all_go next (InHand (payloads ++ w ∷ [])) turns h.2)
  all_go d (InHand payloads) (Broken w next ∷ turns) h = goes_on (state d) (state next) (state (last_disk next turns)) h.0.goes (all_go next (InDoubt payloads w) turns h.2)
  all_go d (InHand payloads) (Opened next ∷ turns) h = goes_on (state d) (state next) (state (last_disk next turns)) h.0.goes (all_go next (InHand payloads) turns h.2)
  all_go d (InHand payloads) (NotOpened next ∷ turns) h = absurd h
  all_go d (InDoubt payloads w) (Acknowledged v next ∷ turns) h = absurd h
  all_go d (InDoubt payloads w) (Broken v next ∷ turns) h = absurd h
  all_go d (InDoubt payloads w) (Opened next ∷ turns) h = goes_on (state d) (state next) (state (last_disk next turns)) h.1.goes (all_go next (InHand h.0) turns h.3)
  all_go d (InDoubt payloads w) (NotOpened next ∷ turns) h = goes_on (state d) (state next) (state (last_disk next turns)) h.0.goes (all_go next (InDoubt payloads w) turns h.1)

  -- before they begin nothing is kept of the turns
  none_kept : (k : ℕ) (d : D) (known : Knowledge R) (turns : List (Turn R D)) → k < (state d).now → IsHistory has state d known turns → Keeps k state turns []
  none_kept k d known [] l h = refl
  none_kept k d (InHand payloads) (Acknowledged w next ∷ turns) l h = let later : (state d).now ≤ (state next).now = h.0.goes.later in inl (refl, omega arith)
  none_kept k d (InHand payloads) (Broken w next ∷ turns) l h = let later : (state d).now ≤ (state next).now = h.0.goes.later in inl (none_kept k next (InDoubt payloads w) turns (omega arith) h.2)
  none_kept k d (InHand payloads) (Opened next ∷ turns) l h = let later : (state d).now ≤ (state next).now = h.0.goes.later in none_kept k next (InHand payloads) turns (omega arith) h.2
  none_kept k d (InHand payloads) (NotOpened next ∷ turns) l h = absurd h
  none_kept k d (InDoubt payloads w) (Acknowledged v next ∷ turns) l h = absurd h
  none_kept k d (InDoubt payloads w) (Broken v next ∷ turns) l h = absurd h
  none_kept k d (InDoubt payloads w) (Opened next ∷ turns) l h = let later : (state d).now ≤ (state next).now = h.1.goes.later in none_kept k next (InHand h.0) turns (omega arith) h.3
  none_kept k d (InDoubt payloads w) (NotOpened next ∷ turns) l h = let later : (state d).now ≤ (state next).now = h.0.goes.later in none_kept k next (InDoubt payloads w) turns (omega arith) h.1

  -- with a record in doubt, of that too
  record IsDoubted (k : ℕ) (payloads : List R) (payload : R) (turns : List (Turn R D)) (bytes : List ℕ) : Type 0 where
    later : List R
    has_them : has (payloads ++ later) bytes
    kept : Keeps k state turns later ⊎ ((more : List R) × (later ≡ payload ∷ more) × Keeps k state turns more)

  same_bytes : (payloads others : List R) (bytes : List ℕ) → payloads ≡ others → has payloads bytes → has others bytes
  same_bytes payloads others bytes e j = subst (λ cs. has cs bytes) e j

  more_after : (payloads : List R) (payload : R) (later : List R) → (payloads ++ payload ∷ []) ++ later ≡ payloads ++ (payload ∷ later)
  more_after payloads payload later = append_assoc payloads (payload ∷ []) later

  -- what is left before the turns begin, with a record in doubt
  doubted_now : (k : ℕ) (payloads : List R) (payload : R) (turns : List (Turn R D)) (bytes : List ℕ) → Keeps k state turns [] → IsBeforeOrAfter has payloads payload bytes
      → IsDoubted k payloads payload turns bytes
  doubted_now k payloads payload turns bytes none (inl j) = record { later = []; has_them = same_bytes payloads (payloads ++ []) bytes (sym (append-nil payloads)) j; kept = inl none }
  doubted_now k payloads payload turns bytes none (inr j) = record { later = payload ∷ []; has_them = j; kept = inr ([], refl, none) }

  -- before a record is acknowledged
  kept_early : (k : ℕ) (payloads : List R) (payload : R) (next : D) (turns : List (Turn R D)) (bytes : List ℕ) → k < (state next).now → IsBeforeOrAfter has payloads payload bytes → Keeps k state turns []
      → IsKept has k state payloads (Acknowledged payload next ∷ turns) bytes
  kept_early k payloads payload next turns bytes l (inl j) none = record { later = []; has_them = same_bytes payloads (payloads ++ []) bytes (sym (append-nil payloads)) j; kept = inl (refl, l) }
  kept_early k payloads payload next turns bytes l (inr j) none = record { later = payload ∷ []; has_them = j; kept = inr ([], refl, none) }

  abbrev Doubt : D → List R → R → Type 0
  Doubt d payloads payload = ((bytes : List ℕ) → IsLeft (state d) bytes → IsBeforeOrAfter has payloads payload bytes) × IsLeft (state d) (state d).bytes

  doubt_after : (d next : D) (payloads : List R) (payload : R) → IsAppending has payloads payload (state d) (state next) → IsLeft (state next) (state next).bytes → Doubt next payloads payload
  doubt_after d next payloads payload a read = ((λ bytes i. a.images (state next).now bytes a.goes.later (omega arith) i), read)

  doubt_stays : (d next : D) (payloads : List R) (payload : R) → IsReading (state d) (state next) → Doubt d payloads payload → Doubt next payloads payload
  doubt_stays d next payloads payload o doubt = ((λ bytes i. doubt.0 bytes (o.images (state next).now bytes o.goes.later (omega arith) i)), o.read)

  -- what is read again is what was there before the record in doubt, or with it
  found_again : (d next : D) (payloads found : List R) (payload : R) → IsReading (state d) (state next) → Doubt d payloads payload → has found (state next).bytes
      → (found ≡ payloads) ⊎ (found ≡ payloads ++ payload ∷ [])
  found_again d next payloads found payload o doubt j = elim (doubt.0 (state d).bytes doubt.1) [
    | inl before ↦ inl (one found payloads (state d).bytes (subst (λ b. has found b) o.same j) before)
    | inr after ↦ inr (one found (payloads ++ payload ∷ []) (state d).bytes (subst (λ b. has found b) o.same j) after)
  ]

  with_doubt : (k : ℕ) (payloads found : List R) (payload : R) (turns : List (Turn R D)) (bytes : List ℕ) → (found ≡ payloads) ⊎ (found ≡ payloads ++ payload ∷ []) → IsKept has k state found turns bytes
      → IsDoubted k payloads payload turns bytes
  with_doubt k payloads found payload turns bytes (inl e) r = record { later = r.later; has_them = same_bytes (found ++ r.later) (payloads ++ r.later) bytes (ap (λ cs. cs ++ r.later) e) r.has_them; kept = inl r.kept }
  with_doubt k payloads found payload turns bytes (inr e) r = record {
    later = payload ∷ r.later;
    has_them = same_bytes (found ++ r.later) (payloads ++ (payload ∷ r.later)) bytes (ap (λ cs. cs ++ r.later) e ∙ more_after payloads payload r.later) r.has_them;
    kept = inr (r.later, refl, r.kept);
  }

  mutual
    pub all_kept : (k : ℕ) (bytes : List ℕ) (d : D) (payloads : List R) (turns : List (Turn R D)) → IsAtRest has (state d) payloads → IsHistory has state d (InHand payloads) turns
        → (state d).now ≤ k → k ≤ (state (last_disk d turns)).now → (state (last_disk d turns)).image k bytes → IsKept has k state payloads turns bytes
    all_kept k bytes d payloads [] rest h l m i =
        let now : k ≡ (state d).now = omega arith in
        let is : bytes ≡ (state d).bytes = rest.1 bytes (subst (λ n. (state d).image n bytes) now i) in
        record { later = []; has_them = same_bytes payloads (payloads ++ []) bytes (sym (append-nil payloads)) (subst (λ b. has payloads b) (sym is) rest.0); kept = refl }
    all_kept k bytes d payloads (Acknowledged w next ∷ turns) rest h l m i = elim (early k (state next).now) [
      | inl before ↦
          let at : (state next).image k bytes = (all_go next (InHand (payloads ++ w ∷ [])) turns h.2).nothing_more k bytes (omega arith) i in
          kept_early k payloads w next turns bytes before (h.0.images k bytes l (omega arith) at) (none_kept k next (InHand (payloads ++ w ∷ [])) turns before h.2)
      | inr after ↦
          let r : IsKept has k state (payloads ++ w ∷ []) turns bytes = all_kept k bytes next (payloads ++ w ∷ []) turns h.1 h.2 after m i in
          record { later = w ∷ r.later; has_them = same_bytes ((payloads ++ w ∷ []) ++ r.later) (payloads ++ (w ∷ r.later)) bytes (more_after payloads w r.later) r.has_them; kept = inr (r.later, refl, r.kept) }
    ]
    all_kept k bytes d payloads (Broken w next ∷ turns) rest h l m i = elim (early k (state next).now) [
      | inl before ↦
          let at : (state next).image k bytes = (all_go next (InDoubt payloads w) turns h.2).nothing_more k bytes (omega arith) i in
          let r : IsDoubted k payloads w turns bytes = doubted_now k payloads w turns bytes (none_kept k next (InDoubt payloads w) turns before h.2) (h.0.images k bytes l (omega arith) at) in
          record { later = r.later; has_them = r.has_them; kept = r.kept }
      | inr after ↦
          let r : IsDoubted k payloads w turns bytes = doubted k bytes next payloads w turns (doubt_after d next payloads w h.0 h.1) h.2 after m i in
          record { later = r.later; has_them = r.has_them; kept = r.kept }
    ]
    all_kept k bytes d payloads (Opened next ∷ turns) rest h l m i = elim (early k (state next).now) [
      | inl before ↦
          let at : (state next).image k bytes = (all_go next (InHand payloads) turns h.2).nothing_more k bytes (omega arith) i in
          let is : bytes ≡ (state d).bytes = rest.1 bytes (h.0.images k bytes l (omega arith) at) in
          record { later = []; has_them = same_bytes payloads (payloads ++ []) bytes (sym (append-nil payloads)) (subst (λ b. has payloads b) (sym is) rest.0); kept = none_kept k next (InHand payloads) turns before h.2 }
      | inr after ↦
          let r : IsKept has k state payloads turns bytes = all_kept k bytes next payloads turns (subst (λ b. has payloads b) (sym h.0.same) rest.0, h.1) h.2 after m i in
          record { later = r.later; has_them = r.has_them; kept = r.kept }
    ]
    all_kept k bytes d payloads (NotOpened next ∷ turns) rest h l m i = absurd h

    doubted : (k : ℕ) (bytes : List ℕ) (d : D) (payloads : List R) (payload : R) (turns : List (Turn R D)) → Doubt d payloads payload → IsHistory has state d (InDoubt payloads payload) turns
        → (state d).now ≤ k → k ≤ (state (last_disk d turns)).now → (state (last_disk d turns)).image k bytes → IsDoubted k payloads payload turns bytes
    doubted k bytes d payloads payload [] doubt h l m i =
        let now : k ≡ (state d).now = omega arith in
        doubted_now k payloads payload [] bytes refl (doubt.0 bytes (subst (λ n. (state d).image n bytes) now i))
    doubted k bytes d payloads payload (Acknowledged v next ∷ turns) doubt h l m i = absurd h
    doubted k bytes d payloads payload (Broken v next ∷ turns) doubt h l m i = absurd h
    doubted k bytes d payloads payload (Opened next ∷ turns) doubt h l m i = elim (early k (state next).now) [
      | inl before ↦
          let at : (state next).image k bytes = (all_go next (InHand h.0) turns h.3).nothing_more k bytes (omega arith) i in
          let r : IsDoubted k payloads payload turns bytes = doubted_now k payloads payload turns bytes (none_kept k next (InHand h.0) turns before h.3) (doubt.0 bytes (h.1.images k bytes l (omega arith) at)) in
          record { later = r.later; has_them = r.has_them; kept = r.kept }
      | inr after ↦
          let r : IsDoubted k payloads payload turns bytes = with_doubt k payloads h.0 payload turns bytes (found_again d next payloads h.0 payload h.1 doubt h.2.0) (all_kept k bytes next h.0 turns h.2 h.3 after m i) in
          record { later = r.later; has_them = r.has_them; kept = r.kept }
    ]
    doubted k bytes d payloads payload (NotOpened next ∷ turns) doubt h l m i = elim (early k (state next).now) [
      | inl before ↦
          let at : (state next).image k bytes = (all_go next (InDoubt payloads payload) turns h.1).nothing_more k bytes (omega arith) i in
          let r : IsDoubted k payloads payload turns bytes = doubted_now k payloads payload turns bytes (none_kept k next (InDoubt payloads payload) turns before h.1) (doubt.0 bytes (h.0.images k bytes l (omega arith) at)) in
          record { later = r.later; has_them = r.has_them; kept = r.kept }
      | inr after ↦
          let r : IsDoubted k payloads payload turns bytes = doubted k bytes next payloads payload turns (doubt_stays d next payloads payload h.0 doubt) h.1 after m i in
          record { later = r.later; has_them = r.has_them; kept = r.kept }
    ]
