-- There is one verdict on a text.
use Rattle.std.specs.Prelude.{◌≡◌, ◌+◌, ◌≤◌, ℕ, List, [], ◌∷◌, ◌++◌, map, length, Some, None, option_map, slice_get}
use Rattle.std.proofs.Common.{refl, sym, ap, ap₂, subst, ◌∙◌, arith}
use Rattle.std.proofs.lemmas.Option.{none-some, same_Some}
use Rattle.audit_claims.specs.Claimed.{told_by}
use Rattle.audit_claims.specs.Claims.{Tells}
use Rattle.audit_claims.specs.Told.{Told}
use Rattle.def_language.specs.Sessions.{RelationSchema}
use Rattle.def_history.specs.Cores.{effect_after, grown}
use Rattle.def_history.specs.PlainEntries.{EntriesArePlain, PlainEntry, plain_entry}
use Rattle.audit_trace.specs.Traces.{entry_line}
use Rattle.audit_claims.specs.Verdicts.{AreLinesOf, IsDue, IsFault, IsFaultIn, IsHistory, IsLineOf, IsTraceOf, IsVerdict, IsWrong, Trial, Verdict, Why, Yes, No, Form, NotAllowed, Effect, at, counted, early, event_told, is_quiet_after, uncounted}
use Rattle.audit_claims.proofs.Cuts.{one_lines}
use Rattle.audit_claims.proofs.Histories.{grows, one_history}

-- a line tells one event
abbrev pub OneEvent : Type 0
OneEvent = (relations : List RelationSchema) (line : List ℕ) (d e : Told) → Tells relations line d → Tells relations line e → d ≡ e

-- ---- lists

item_at : {A : Type 0} (xs : List A) (x : A) (ys : List A) → slice_get (xs ++ x ∷ ys) (length xs) ≡ Some x
item_at [] x ys = refl
item_at (w ∷ xs) x ys = item_at xs x ys

same_item : {A : Type 0} (xs : List A) (x y : A) → xs ++ x ∷ [] ≡ xs ++ y ∷ [] → x ≡ y
same_item xs x y e = same_Some x y (sym (item_at xs x []) ∙ ap (λ zs. slice_get zs (length xs)) e ∙ item_at xs y [])

-- how two places in a list lie to each other
data Lie {A : Type 0} (xs : List A) (x : A) (us : List A) (u : A) : Type 0 where
  alike : xs ≡ us → x ≡ u → Lie xs x us u
  sooner : (zs : List A) → us ≡ xs ++ x ∷ zs → Lie xs x us u
  later : (zs : List A) → xs ≡ us ++ u ∷ zs → Lie xs x us u

lies : {A : Type 0} (xs : List A) (x : A) (ys us : List A) (u : A) (vs : List A) → xs ++ x ∷ ys ≡ us ++ u ∷ vs → Lie xs x us u
lies [] x ys [] u vs e = alike refl (same_Some x u (ap (λ zs. slice_get zs 0) e))
lies [] x ys (w ∷ us) u vs e = sooner us (λ i. same_Some w x (ap (λ zs. slice_get zs 0) (sym e)) i ∷ us)
lies (z ∷ xs) x ys [] u vs e = later xs (λ i. same_Some z u (ap (λ zs. slice_get zs 0) e) i ∷ xs)
lies {A} (z ∷ xs) x ys (w ∷ us) u vs e =
    let head : z ≡ w = cc in
    let rest : xs ++ x ∷ ys ≡ us ++ u ∷ vs = cc in
    by (lies xs x ys us u vs rest) head
  where
    by : Lie xs x us u → z ≡ w → Lie (z ∷ xs) x (w ∷ us) u
    by (alike front item) head = alike (λ i. head i ∷ front i) item
    by (sooner zs is) head = sooner zs (λ i. sym head i ∷ is i)
    by (later zs is) head = later zs (λ i. head i ∷ is i)

module _ (one_event : OneEvent) (plain : EntriesArePlain) (t : Trial) where
  abbrev Lines : List (List ℕ) → List PlainEntry → Type 0
  Lines lines H = AreLinesOf t.relations lines H

  told_same : (lines : List (List ℕ)) (H K : List PlainEntry) → Lines lines H → Lines lines K → map told_by H ≡ map told_by K
  told_same [] [] [] a b = refl
  told_same [] [] (y ∷ K) a b = absurd b
  told_same [] (x ∷ H) K a b = absurd a
  told_same (l ∷ ls) [] K a b = absurd a
  told_same (l ∷ ls) (x ∷ H) [] a b = absurd b
  told_same (l ∷ ls) (x ∷ H) (y ∷ K) a b = λ i. one_event t.relations l (told_by x) (told_by y) a.0.tells b.0.tells i ∷ told_same ls H K a.1 b.1 i

  -- Lines are those of one history.
  one : (lines : List (List ℕ)) (H K : List PlainEntry) → IsHistory t.over H → Lines lines H → IsHistory t.over K → Lines lines K → H ≡ K
  one lines H K history told other others = one_history t.over plain H K history.legal other.legal (told_same lines H K told others)

  record Parted (before : List (List ℕ)) (line : List ℕ) (K : List PlainEntry) : Type 0 where
    front : List PlainEntry
    item : PlainEntry
    back : List PlainEntry
    whole : K ≡ front ++ item ∷ back
    told : Lines before front
    of : IsLineOf t.relations line item

  parted : (before : List (List ℕ)) (line : List ℕ) (rest : List (List ℕ)) (K : List PlainEntry) → Lines (before ++ line ∷ rest) K → Parted before line K
  parted [] line rest [] told = absurd told
  parted [] line rest (x ∷ K) told = record { front = []; item = x; back = K; whole = refl; told = tt; of = told.0 }
  parted (l ∷ before) line rest [] told = absurd told
  parted (l ∷ before) line rest (x ∷ K) told =
      let p = parted before line rest K told.1 in
      record { front = x ∷ p.front; item = p.item; back = p.back; whole = ap (λ J. x ∷ J) p.whole; told = (told.0, p.told); of = p.of }

  -- ---- no line of a history is at fault

  not_wrong : (H : List PlainEntry) (line : List ℕ) (x : PlainEntry) (why : Why) → IsLineOf t.relations line x → IsDue t.over H (told_by x)
      → grown t.over H (event_told t.over (told_by x)) ≡ Some (H ++ x ∷ []) → IsWrong t H line why → ⊥
  not_wrong H line x Form of due more wrong = wrong (told_by x) of.tells
  not_wrong H line x NotAllowed of due more wrong =
      let same : wrong.0 ≡ told_by x = one_event t.relations line wrong.0 (told_by x) wrong.1 of.tells in
      let none : effect_after t.over H (event_told t.over (told_by x)) ≡ None =
      ap (λ e. effect_after t.over H (event_told t.over e)) (sym same) ∙ wrong.2 (subst (IsDue t.over H) (sym same) due) in
      none-some (H ++ x ∷ []) (sym (ap (option_map (λ y. H ++ plain_entry t.over.rules t.over.budget y.entry ∷ [])) none) ∙ more)
  not_wrong H line x Effect of due more wrong =
      let same : wrong.0 ≡ told_by x = one_event t.relations line wrong.0 (told_by x) wrong.2 of.tells in
      let entry : x ≡ wrong.1 = same_item H x wrong.1 (same_Some _ _ (sym more ∙ ap (λ e. grown t.over H (event_told t.over e)) (sym same) ∙ wrong.4)) in
      wrong.5 (of.text ∙ ap (entry_line t.relations) entry)

  no_fault : (lines before after : List (List ℕ)) (line : List ℕ) (why : Why) (H K : List PlainEntry) → lines ≡ before ++ line ∷ after → IsHistory t.over K → Lines lines K
      → IsHistory t.over H → Lines before H → IsWrong t H line why → ⊥
  no_fault lines before after line why H K is whole told history front wrong =
      let p = parted before line after K (subst (λ ls. Lines ls K) is told) in
      let its = grows t.over plain p.front p.item p.back (subst (λ J. IsHistory t.over J) p.whole whole).legal in
      let turn : IsDue t.over p.front (told_by p.item) =
      whole.first (length p.front) p.item (ap (λ J. slice_get J (length p.front)) p.whole ∙ item_at p.front p.item p.back) in
      let same : H ≡ p.front = one_history t.over plain H p.front history.legal its.legal (told_same before H p.front front p.told) in
      not_wrong p.front line p.item why p.of turn its.more (subst (λ J. IsWrong t J line why) same wrong)

  -- ---- one fault

  not_allowed_and_other : (H : List PlainEntry) (line : List ℕ) → IsWrong t H line NotAllowed → IsWrong t H line Effect → ⊥
  not_allowed_and_other H line a b =
      let same : a.0 ≡ b.0 = one_event t.relations line a.0 b.0 a.1 b.2 in
      let none : effect_after t.over H (event_told t.over b.0) ≡ None =
      ap (λ e. effect_after t.over H (event_told t.over e)) (sym same) ∙ a.2 (subst (IsDue t.over H) (sym same) b.3) in
      none-some (H ++ b.1 ∷ []) (sym (ap (option_map (λ y. H ++ plain_entry t.over.rules t.over.budget y.entry ∷ [])) none) ∙ b.4)

  one_why : (H : List PlainEntry) (line : List ℕ) (v w : Why) → IsWrong t H line v → IsWrong t H line w → v ≡ w
  one_why H line Form Form a b = refl
  one_why H line Form NotAllowed a b = absurd (a b.0 b.1)
  one_why H line Form Effect a b = absurd (a b.0 b.2)
  one_why H line NotAllowed Form a b = absurd (b a.0 a.1)
  one_why H line NotAllowed NotAllowed a b = refl
  one_why H line NotAllowed Effect a b = absurd (not_allowed_and_other H line a b)
  one_why H line Effect Form a b = absurd (b a.0 a.2)
  one_why H line Effect NotAllowed a b = absurd (not_allowed_and_other H line b a)
  one_why H line Effect Effect a b = refl

  one_fault : (lines : List (List ℕ)) (m n : ℕ) (v w : Why) → IsFaultIn t lines m v → IsFaultIn t lines n w → No m v ≡ No n w
  one_fault lines _ _ _ _ (at H before after line v is history told wrong) (at K others left other w are second lines_of wrong_too) =
      by (lies before line after others other left (sym is ∙ are))
    where
      by : Lie before line others other → No (length before + 2) v ≡ No (length others + 2) w
      by (alike front item) =
          let same : H ≡ K = one others H K history (subst (λ ls. Lines ls H) front told) second lines_of in
          let here : IsWrong t K other v = subst (λ l. IsWrong t K l v) item (subst (λ J. IsWrong t J line v) same wrong) in
          λ i. No (length (front i) + 2) (one_why K other v w here wrong_too i)
      by (sooner zs rest) = absurd (no_fault others before zs line v H K rest second lines_of history told wrong)
      by (later zs rest) = absurd (no_fault before others zs other w K H rest history told second lines_of wrong_too)
  one_fault lines _ _ _ _ (at H before after line v is history told wrong) (early K second lines_of few) =
      absurd (no_fault lines before after line v H K is second lines_of history told wrong)
  one_fault lines _ _ _ _ (early H history told few) (at K before after line w is second lines_of wrong) =
      absurd (no_fault lines before after line w K H is history told second lines_of wrong)
  one_fault lines _ _ _ _ (early H history told few) (early K second lines_of fewer) = refl

  -- ---- one verdict

  -- a text that is a trace has no fault
  no_fault_in : (lines : List (List ℕ)) (H : List PlainEntry) (n : ℕ) (why : Why) → IsHistory t.over H → Lines lines H → length t.over.requests ≤ length H → IsFaultIn t lines n why → ⊥
  no_fault_in lines H n why history told all (at K before after line w is second front wrong) = no_fault lines before after line w K H is history told second front wrong
  no_fault_in lines H n why history told all (early K second lines_of few) = let same = ap length (one lines H K history told second lines_of) in omega (arith, same, all, few)

  not_both : (text : List ℕ) (H : List PlainEntry) (n : ℕ) (why : Why) → IsTraceOf t text H → IsFault t text n why → ⊥
  not_both text H n why trace (uncounted none) = none trace.lines trace.form
  not_both text H n why trace (counted lines line w form fault) =
      let same : trace.lines ≡ lines = one_lines text trace.lines lines trace.form form in
      no_fault_in lines H line w trace.history (subst (λ ls. Lines ls H) same trace.told) trace.all_admitted fault

  one_refusal : (text : List ℕ) (m n : ℕ) (v w : Why) → IsFault t text m v → IsFault t text n w → No m v ≡ No n w
  one_refusal text m n v w (uncounted none) (uncounted other) = refl
  one_refusal text m n v w (uncounted none) (counted lines line why form fault) = absurd (none lines form)
  one_refusal text m n v w (counted lines line why form fault) (uncounted none) = absurd (none lines form)
  one_refusal text m n v w (counted ls line why form fault) (counted lines other reason same faults) =
      one_fault lines line other why reason (subst (λ k. IsFaultIn t k line why) (one_lines text ls lines form same) fault) faults

  pub one_verdict : (text : List ℕ) (v w : Verdict) → IsVerdict t text v → IsVerdict t text w → v ≡ w
  one_verdict text (Yes m quiet) (Yes n still) (H, trace, many, rests) (K, other, as_many, rest) =
      let lines : trace.lines ≡ other.lines = one_lines text trace.lines other.lines trace.form other.form in
      let same : H ≡ K = one other.lines H K trace.history (subst (λ ls. Lines ls H) lines trace.told) other.history other.told in
      ap₂ Yes (many ∙ ap length same ∙ sym as_many) (rests ∙ ap (is_quiet_after t.over) same ∙ sym rest)
  one_verdict text (Yes m quiet) (No line why) (H, trace, many, rests) fault = absurd (not_both text H line why trace fault)
  one_verdict text (No line why) (Yes n still) fault (K, other, as_many, rest) = absurd (not_both text K line why other fault)
  one_verdict text (No m v) (No n w) fault other = one_refusal text m n v w fault other
