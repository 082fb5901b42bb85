-- The conflict set, the cascade and the restarts are those of the one walk.
use Rattle.std.proofs.Common.{◌≡◌, ℕ, suc, ◌<◌, ◌≤◌, ◌==◌, ap, sym, refl, ◌∙◌, subst, List, [], ◌∷◌, ◌++◌, Bool, true, false, not, ◌&&◌, ◌||◌, arith, Some, None}
use Rattle.std.specs.Prelude.{if◌then◌else◌, Option, is_some, option_map, option_to_list}
use Rattle.std.proofs.lemmas.Bool.{or_left, or_from, eq-eqb, ne_eqb}
use Rattle.def_machine.specs.Machine.{Machine}
use Rattle.def_machine.specs.Updates.{Update, Deps, trail}
use Rattle.def_machine.specs.Reads.{changed_read, first_that}
use Rattle.def_machine.specs.Standings.{is_nil}
use Rattle.def_machine.specs.Cascade.{Cause, Conflict, reader, readers, Member, conflict_of, dependence_of, conflicts, cascade, has_number, with_member, without_member, is_live, read_depends, begun_again, restarted}
use Rattle.def_machine.specs.Settle.{or_else, cause_of, settle, restart, if_conflict, if_dependence, conflicts_in, dependences_in}
use Rattle.def_machine.specs.Effects.{causes_of_writes, causes_of_loss}
use Rattle.def_machine.specs.WalkLaw.{WalkLaw}
use Rattle.def_machine.proofs.Basics.{if_both, some_or}

-- ---- numbers

pub here : (n : ℕ) (ns : List ℕ) → has_number (n ∷ ns) n ≡ true
here n ns = or_left _ _ (eq-eqb n n refl)

pub readers_join : (M : Machine) (cs ds : List (Cause M)) (k : ℕ) → has_number (readers (cs ++ ds)) k ≡ (has_number (readers cs) k || has_number (readers ds) k)
readers_join M [] ds k = refl
readers_join M (x ∷ cs) ds k = ap (λ b. (reader x == k) || b) (readers_join M cs ds k) ∙ sym (shift (reader x == k) (has_number (readers cs) k) (has_number (readers ds) k))
  where
    shift : (x y z : Bool) → ((x || y) || z) ≡ (x || (y || z))
    shift true y z = refl
    shift false y z = refl

-- a cause that names n names no other
one_reader : {A : Type 0} (M : Machine) (b : Bool) (f : A → Cause M) (o : Option A) (n k : ℕ) → ((x : A) → reader (f x) ≡ n)
    → has_number (readers (option_to_list (if b then option_map f o else None))) k ≡ (is_some (if b then option_map f o else None) && (n == k))
one_reader M false f o n k h = refl
one_reader M true f None n k h = refl
one_reader M true f (Some x) n k h = or_none (reader (f x) == k) ∙ ap (λ m. m == k) (h x)
  where
    or_none : (b : Bool) → (b || false) ≡ b
    or_none true = refl
    or_none false = refl

pub restarted_none : (M : Machine) (n : ℕ) (us : List (Update M)) → restarted M [] n us ≡ us
restarted_none M n [] = refl
restarted_none M n (u ∷ us) = ap (λ vs. u ∷ vs) (restarted_none M (suc n) us)

module _ (M : Machine) (deps : Deps) (c j : ℕ) where
  conflict_reader : (E : M.Repository) (n k : ℕ) (u : Update M) → has_number (readers (option_to_list (conflict_of M c j E n u))) k ≡ (is_some (conflict_of M c j E n u) && (n == k))
  conflict_reader E n k u = one_reader M (is_live M c n u) (λ x. Conflict n x.read j x.old x.new) (changed_read M E u) n k (λ x. refl)

  dependence_reader : (N : M.Repository) (ms : List (Member M)) (n k : ℕ) (u : Update M) → has_number (readers (option_to_list (dependence_of M deps c N ms n u))) k ≡ (is_some (dependence_of M deps c N ms n u) && (n == k))
  dependence_reader N ms n k u = one_reader M (is_live M c n u && not (is_nil ms)) _ (first_that (read_depends M deps u.operation N (M.own u.state) ms) u.log) n k (λ x. refl)

  -- whether the number is that of the update, or of one above it
  pub conflicts_at : (E : M.Repository) (n k : ℕ) (u : Update M) (us : List (Update M)) → has_number (readers (conflicts M c j E n (u ∷ us))) k ≡ ((is_some (conflict_of M c j E n u) && (n == k)) || has_number (readers (conflicts M c j (M.apply E (trail M u)) (suc n) us)) k)
  conflicts_at E n k u us = readers_join M (option_to_list (conflict_of M c j E n u)) (conflicts M c j (M.apply E (trail M u)) (suc n) us) k ∙ ap (λ b. b || has_number (readers (conflicts M c j (M.apply E (trail M u)) (suc n) us)) k) (conflict_reader E n k u)

  pub and_else : (b : Bool) (n k : ℕ) → k < n → (b && (n == k)) ≡ false
  and_else true n k h = ne_eqb n k (λ e. absurd (omega arith))
  and_else false n k h = refl

  pub conflicts_above : (E : M.Repository) (n k : ℕ) (us : List (Update M)) → k < n → has_number (readers (conflicts M c j E n us)) k ≡ false
  conflicts_above E n k [] h = refl
  conflicts_above E n k (u ∷ us) h = conflicts_at E n k u us ∙ or_from _ _ (and_else (is_some (conflict_of M c j E n u)) n k h) (conflicts_above (M.apply E (trail M u)) (suc n) k us (omega arith))

  -- the cascade without the first update, where it is a member or not
  abbrev pub further : List ℕ → M.Repository → List (Member M) → ℕ → Update M → List (Update M) → Bool → List (Cause M)
  further fs N ms n u us b = cascade M deps c fs (without_member M b N u) (with_member M b ms n u) (suc n) us

  abbrev pub joining : List ℕ → M.Repository → List (Member M) → ℕ → Update M → Option (Cause M)
  joining fs N ms n u = if has_number fs n then None else dependence_of M deps c N ms n u

  joining_reader : (fs : List ℕ) (N : M.Repository) (ms : List (Member M)) (n k : ℕ) (u : Update M) → has_number (readers (option_to_list (joining fs N ms n u))) k ≡ (is_some (joining fs N ms n u) && (n == k))
  joining_reader fs N ms n k u = if_both (λ (o : Option (Cause M)). has_number (readers (option_to_list o)) k ≡ (is_some o && (n == k))) (has_number fs n) None (dependence_of M deps c N ms n u) (λ e. refl) (λ e. dependence_reader N ms n k u)

  pub cascade_at : (fs : List ℕ) (N : M.Repository) (ms : List (Member M)) (n k : ℕ) (u : Update M) (us : List (Update M)) → has_number (readers (cascade M deps c fs N ms n (u ∷ us))) k ≡ ((is_some (joining fs N ms n u) && (n == k)) || has_number (readers (further fs N ms n u us (has_number fs n || is_some (joining fs N ms n u)))) k)
  cascade_at fs N ms n k u us =
      readers_join M (option_to_list (joining fs N ms n u)) (further fs N ms n u us (has_number fs n || is_some (joining fs N ms n u))) k
      ∙ ap (λ b. b || has_number (readers (further fs N ms n u us (has_number fs n || is_some (joining fs N ms n u)))) k) (joining_reader fs N ms n k u)

  pub cascade_above : (fs : List ℕ) (N : M.Repository) (ms : List (Member M)) (n k : ℕ) (us : List (Update M)) → k < n → has_number (readers (cascade M deps c fs N ms n us)) k ≡ false
  cascade_above fs N ms n k [] h = refl
  cascade_above fs N ms n k (u ∷ us) h =
      let b : Bool = has_number fs n || is_some (joining fs N ms n u) in
      cascade_at fs N ms n k u us ∙ or_from _ _ (and_else (is_some (joining fs N ms n u)) n k h) (cascade_above fs (without_member M b N u) (with_member M b ms n u) (suc n) k us (omega arith))

  abbrev pub conflict_if : Bool → M.Repository → ℕ → Update M → Option (Cause M)
  conflict_if conflicting E n u = if conflicting then conflict_of M c j E n u else None

  -- from n on the numbers are those of the updates in conflict
  abbrev pub AreFirst : List ℕ → Bool → M.Repository → ℕ → List (Update M) → Type 0
  AreFirst fs conflicting E n [] = Unit {0}
  AreFirst fs conflicting E n (u ∷ us) = (has_number fs n ≡ is_some (conflict_if conflicting E n u)) × AreFirst fs conflicting (M.apply E (trail M u)) (suc n) us

  and_here : (b : Bool) (n : ℕ) → (b && (n == n)) ≡ b
  and_here true n = eq-eqb n n refl
  and_here false n = refl

  or_right_none : (b x : Bool) → x ≡ false → (b || x) ≡ b
  or_right_none true x h = refl
  or_right_none false x h = h

  pub conflicts_first : (fs : List ℕ) (E : M.Repository) (n : ℕ) (us : List (Update M)) → ((k : ℕ) → n ≤ k → has_number fs k ≡ has_number (readers (conflicts M c j E n us)) k) → AreFirst fs true E n us
  conflicts_first fs E n [] h = tt
  conflicts_first fs E n (u ∷ us) h = (
    h n (omega arith) ∙ conflicts_at E n n u us
        ∙ or_right_none (is_some (conflict_of M c j E n u) && (n == n)) _ (conflicts_above (M.apply E (trail M u)) (suc n) n us (omega arith))
        ∙ and_here (is_some (conflict_of M c j E n u)) n,
    conflicts_first fs (M.apply E (trail M u)) (suc n) us
        (λ k l. h k (omega arith) ∙ conflicts_at E n k u us
        ∙ ap (λ b. b || has_number (readers (conflicts M c j (M.apply E (trail M u)) (suc n) us)) k) (other (is_some (conflict_of M c j E n u)) k l)),
  )
    where
      other : (b : Bool) (k : ℕ) → suc n ≤ k → (b && (n == k)) ≡ false
      other true k l = ne_eqb n k (λ e. absurd (omega arith))
      other false k l = refl

  pub removed_first : (E : M.Repository) (n : ℕ) (us : List (Update M)) → AreFirst [] false E n us
  removed_first E n [] = tt
  removed_first E n (u ∷ us) = (refl, removed_first (M.apply E (trail M u)) (suc n) us)

  -- ---- the walk at one update

  abbrev marked : Bool → M.Repository → M.Repository → List (Member M) → ℕ → Update M → Option (Cause M)
  marked conflicting E N ms n u = cause_of M deps conflicting c j E N ms n u

  -- the update is restarted if it is a first member or joins
  mark_is : (fs : List ℕ) (conflicting : Bool) (E N : M.Repository) (ms : List (Member M)) (n : ℕ) (u : Update M) → has_number fs n ≡ is_some (conflict_if conflicting E n u) → is_some (marked conflicting E N ms n u) ≡ (has_number fs n || is_some (joining fs N ms n u))
  mark_is fs conflicting E N ms n u h = some_or (conflict_if conflicting E n u) (dependence_of M deps c N ms n u) ∙ ap (λ b. b || is_some (dependence_of M deps c N ms n u)) (sym h) ∙ same (has_number fs n)
    where
      same : (b : Bool) → (b || is_some (dependence_of M deps c N ms n u)) ≡ (b || is_some (if b then None else dependence_of M deps c N ms n u))
      same true = refl
      same false = refl

  -- from n on the numbers are those of the updates that have a cause
  abbrev pub AreNumbers : List ℕ → ℕ → List (Option (Cause M)) → Type 0
  AreNumbers ns n [] = Unit {0}
  AreNumbers ns n (x ∷ xs) = (has_number ns n ≡ is_some x) × AreNumbers ns (suc n) xs

  -- the number of the first update is among them where it is a first member or joins
  pub number_here : (fs ns : List ℕ) (N : M.Repository) (ms : List (Member M)) (n : ℕ) (u : Update M) (us : List (Update M)) → has_number ns n ≡ (has_number fs n || has_number (readers (cascade M deps c fs N ms n (u ∷ us))) n) → has_number ns n ≡ (has_number fs n || is_some (joining fs N ms n u))
  number_here fs ns N ms n u us h =
      let b : Bool = has_number fs n || is_some (joining fs N ms n u) in
      h ∙ ap (λ z. has_number fs n || z) (cascade_at fs N ms n n u us
      ∙ or_right_none (is_some (joining fs N ms n u) && (n == n)) _ (cascade_above fs (without_member M b N u) (with_member M b ms n u) (suc n) n us (omega arith))
      ∙ and_here (is_some (joining fs N ms n u)) n)

  -- a later number is among them where a later update has it
  pub number_later : (fs : List ℕ) (N : M.Repository) (ms : List (Member M)) (n k : ℕ) (u : Update M) (us : List (Update M)) → suc n ≤ k
      → has_number (readers (cascade M deps c fs N ms n (u ∷ us))) k ≡ has_number (readers (further fs N ms n u us (has_number fs n || is_some (joining fs N ms n u)))) k
  number_later fs N ms n k u us l = cascade_at fs N ms n k u us ∙ ap (λ z. z || has_number (readers (further fs N ms n u us (has_number fs n || is_some (joining fs N ms n u)))) k) (other (is_some (joining fs N ms n u)))
    where
      other : (b : Bool) → (b && (n == k)) ≡ false
      other true = ne_eqb n k (λ e. absurd (omega (arith, l)))
      other false = refl

  pub numbers_are : (fs ns : List ℕ) (conflicting : Bool) (E N : M.Repository) (ms : List (Member M)) (n : ℕ) (us : List (Update M))
      → ((k : ℕ) → n ≤ k → has_number ns k ≡ (has_number fs k || has_number (readers (cascade M deps c fs N ms n us)) k))
      → AreFirst fs conflicting E n us → AreNumbers ns n (settle M deps conflicting c j E N ms n us)
  numbers_are fs ns conflicting E N ms n [] h a = tt
  numbers_are fs ns conflicting E N ms n (u ∷ us) h a =
      let x : Bool = is_some (marked conflicting E N ms n u) in
      let b : Bool = has_number fs n || is_some (joining fs N ms n u) in
      let same : x ≡ b = mark_is fs conflicting E N ms n u a.0 in (
        number_here fs ns N ms n u us (h n (omega arith)) ∙ sym same,
        subst (λ z. AreNumbers ns (suc n) (settle M deps conflicting c j (M.apply E (trail M u)) (without_member M z N u) (with_member M z ms n u) (suc n) us)) (sym same)
            (numbers_are fs ns conflicting (M.apply E (trail M u)) (without_member M b N u) (with_member M b ms n u) (suc n) us
            (λ k l. h k (omega arith) ∙ ap (λ z. has_number fs k || z) (number_later fs N ms n k u us l)) a.1),
      )

  restarts_from : (ns : List ℕ) (conflicting : Bool) (E N : M.Repository) (ms : List (Member M)) (n : ℕ) (us : List (Update M)) → AreNumbers ns n (settle M deps conflicting c j E N ms n us) → restarted M ns n us ≡ restart M n (settle M deps conflicting c j E N ms n us) us
  restarts_from ns conflicting E N ms n [] a = refl
  restarts_from ns conflicting E N ms n (u ∷ us) a =
      let x : Bool = is_some (marked conflicting E N ms n u) in
      (λ i. (if a.0 i then begun_again M n u else u) ∷ restarts_from ns conflicting (M.apply E (trail M u)) (without_member M x N u) (with_member M x ms n u) (suc n) us a.1 i)

  pub numbers_of_writes : (E : M.Repository) (us : List (Update M)) → AreNumbers (readers (causes_of_writes M deps c j E us)) (suc j) (settle M deps true c j E E [] (suc j) us)
  numbers_of_writes E us =
      let first : List (Cause M) = conflicts M c j E (suc j) us in
      numbers_are (readers first) (readers (causes_of_writes M deps c j E us)) true E E [] (suc j) us
      (λ k l. readers_join M first (cascade M deps c (readers first) E [] (suc j) us) k)
      (conflicts_first (readers first) E (suc j) us (λ k l. refl))

  pub numbers_of_loss : (D : M.Repository) (u : Update M) (us : List (Update M)) → AreNumbers (readers (causes_of_loss M deps c j D u us)) (suc j) (settle M deps false c j (M.apply D (trail M u)) D (record { number = j; trail = trail M u } ∷ []) (suc j) us)
  numbers_of_loss D u us =
      numbers_are [] (readers (causes_of_loss M deps c j D u us)) false (M.apply D (trail M u)) D (record { number = j; trail = trail M u } ∷ []) (suc j) us (λ k l. refl)
      (removed_first (M.apply D (trail M u)) (suc j) us)

  -- above an update that wrote
  pub restarts_of_writes : (E : M.Repository) (us : List (Update M)) → restarted M (readers (causes_of_writes M deps c j E us)) (suc j) us ≡ restart M (suc j) (settle M deps true c j E E [] (suc j) us) us
  restarts_of_writes E us = restarts_from (readers (causes_of_writes M deps c j E us)) true E E [] (suc j) us (numbers_of_writes E us)

  -- above an update that lost its trail
  pub restarts_of_loss : (D : M.Repository) (u : Update M) (us : List (Update M)) → restarted M (readers (causes_of_loss M deps c j D u us)) (suc j) us ≡ restart M (suc j) (settle M deps false c j (M.apply D (trail M u)) D (record { number = j; trail = trail M u } ∷ []) (suc j) us) us
  restarts_of_loss D u us = restarts_from (readers (causes_of_loss M deps c j D u us)) false (M.apply D (trail M u)) D (record { number = j; trail = trail M u } ∷ []) (suc j) us (numbers_of_loss D u us)

  -- ---- the causes are those of the walk

  -- a dependence is no conflict
  no_conflict : (b : Bool) {A : Type 0} (f : A → Cause M) (o : Option A) (rest : List (Option (Cause M))) → ((x : A) (cs : List (Cause M)) → if_conflict (f x) cs ≡ cs) → conflicts_in ((if b then option_map f o else None) ∷ rest) ≡ conflicts_in rest
  no_conflict false f o rest h = refl
  no_conflict true f None rest h = refl
  no_conflict true f (Some x) rest h = h x (conflicts_in rest)

  conflict_listed : (b : Bool) {A : Type 0} (f : A → Cause M) (o : Option A) (d : Option (Cause M)) (rest : List (Option (Cause M))) → ((x : A) (cs : List (Cause M)) → if_conflict (f x) cs ≡ f x ∷ cs) → conflicts_in (d ∷ rest) ≡ conflicts_in rest
      → option_to_list (if b then option_map f o else None) ++ conflicts_in rest ≡ conflicts_in (or_else (if b then option_map f o else None) d ∷ rest)
  conflict_listed false f o d rest h g = sym g
  conflict_listed true f None d rest h g = sym g
  conflict_listed true f (Some x) d rest h g = sym (h x (conflicts_in rest))

  pub conflicts_are : (E N : M.Repository) (ms : List (Member M)) (n : ℕ) (us : List (Update M)) → conflicts M c j E n us ≡ conflicts_in (settle M deps true c j E N ms n us)
  conflicts_are E N ms n [] = refl
  conflicts_are E N ms n (u ∷ us) =
      let b : Bool = is_some (marked true E N ms n u) in
      let rest : List (Option (Cause M)) = settle M deps true c j (M.apply E (trail M u)) (without_member M b N u) (with_member M b ms n u) (suc n) us in
      ap (λ cs. option_to_list (conflict_of M c j E n u) ++ cs) (conflicts_are (M.apply E (trail M u)) (without_member M b N u) (with_member M b ms n u) (suc n) us)
      ∙ conflict_listed (is_live M c n u) (λ x. Conflict n x.read j x.old x.new) (changed_read M E u) (dependence_of M deps c N ms n u) rest (λ x cs. refl)
      (no_conflict (is_live M c n u && not (is_nil ms)) _ (first_that (read_depends M deps u.operation N (M.own u.state) ms) u.log) rest (λ x cs. refl))

  dependence_listed : (b : Bool) {A : Type 0} (f : A → Cause M) (o : Option A) (rest : List (Option (Cause M))) → ((x : A) (cs : List (Cause M)) → if_dependence (f x) cs ≡ f x ∷ cs) → option_to_list (if b then option_map f o else None) ++ dependences_in rest ≡ dependences_in ((if b then option_map f o else None) ∷ rest)
  dependence_listed false f o rest h = refl
  dependence_listed true f None rest h = refl
  dependence_listed true f (Some x) rest h = sym (h x (dependences_in rest))

  -- a conflict is no dependence
  no_dependence : (conflicting b : Bool) {A : Type 0} (f : A → Cause M) (o : Option A) (d : Option (Cause M)) (rest : List (Option (Cause M))) → ((x : A) (cs : List (Cause M)) → if_dependence (f x) cs ≡ cs)
      → option_to_list d ++ dependences_in rest ≡ dependences_in (d ∷ rest)
      → option_to_list (if is_some (if conflicting then (if b then option_map f o else None) else None) then None else d) ++ dependences_in rest ≡ dependences_in (or_else (if conflicting then (if b then option_map f o else None) else None) d ∷ rest)
  no_dependence false b f o d rest h g = g
  no_dependence true false f o d rest h g = g
  no_dependence true true f None d rest h g = g
  no_dependence true true f (Some x) d rest h g = sym (h x (dependences_in rest))

  pub cascade_is : (fs : List ℕ) (conflicting : Bool) (E N : M.Repository) (ms : List (Member M)) (n : ℕ) (us : List (Update M)) → AreFirst fs conflicting E n us → cascade M deps c fs N ms n us ≡ dependences_in (settle M deps conflicting c j E N ms n us)
  cascade_is fs conflicting E N ms n [] a = refl
  cascade_is fs conflicting E N ms n (u ∷ us) a =
      let b : Bool = is_some (marked conflicting E N ms n u) in
      let rest : List (Option (Cause M)) = settle M deps conflicting c j (M.apply E (trail M u)) (without_member M b N u) (with_member M b ms n u) (suc n) us in
      (λ i. option_to_list (joining fs N ms n u) ++ further fs N ms n u us (sym (mark_is fs conflicting E N ms n u a.0) i))
      ∙ ap (λ cs. option_to_list (joining fs N ms n u) ++ cs) (cascade_is fs conflicting (M.apply E (trail M u)) (without_member M b N u) (with_member M b ms n u) (suc n) us a.1)
      ∙ ap (λ z. option_to_list (if z then None else dependence_of M deps c N ms n u) ++ dependences_in rest) a.0
      ∙ no_dependence conflicting (is_live M c n u) (λ x. Conflict n x.read j x.old x.new) (changed_read M E u) (dependence_of M deps c N ms n u) rest (λ x cs. refl)
      (dependence_listed (is_live M c n u && not (is_nil ms)) _ (first_that (read_depends M deps u.operation N (M.own u.state) ms) u.log) rest (λ x cs. refl))

  pub causes_of_writes_are : (E : M.Repository) (us : List (Update M)) → causes_of_writes M deps c j E us ≡ conflicts_in (settle M deps true c j E E [] (suc j) us) ++ dependences_in (settle M deps true c j E E [] (suc j) us)
  causes_of_writes_are E us =
      let first : List (Cause M) = conflicts M c j E (suc j) us in
      ap (λ ds. first ++ ds) (cascade_is (readers first) true E E [] (suc j) us (conflicts_first (readers first) E (suc j) us (λ k l. refl)))
      ∙ ap (λ cs. cs ++ dependences_in (settle M deps true c j E E [] (suc j) us)) (conflicts_are E E [] (suc j) us)

  pub causes_of_loss_are : (D : M.Repository) (u : Update M) (us : List (Update M)) → causes_of_loss M deps c j D u us ≡ dependences_in (settle M deps false c j (M.apply D (trail M u)) D (record { number = j; trail = trail M u } ∷ []) (suc j) us)
  causes_of_loss_are D u us = cascade_is [] false (M.apply D (trail M u)) D (record { number = j; trail = trail M u } ∷ []) (suc j) us (removed_first (M.apply D (trail M u)) (suc j) us)

pub walk_law : (M : Machine) → WalkLaw M
walk_law M deps c j D u us = (
  record { causes = causes_of_writes_are M deps c j D us; restarts = restarts_of_writes M deps c j D us },
  record { causes = causes_of_loss_are M deps c j D u us; restarts = restarts_of_loss M deps c j D u us },
)
