-- The four steps of a turn keep the rule: taking a number, looking, counting and passing.
use Rattle.std.proofs.Common.{◌≡◌, ◌≢◌, inl, inr, ⊎_elim, ℕ, ◌+◌, ◌%◌, ◌^◌, ◌<◌, ◌≤◌, eqb, Bool, List, [], ◌∷◌, length, get_or, set, sym, refl, ap, ◌∙◌, subst, arith, eq-eqb, ne_eqb, Some, MatchBool}
use Rattle.std.proofs.Math.Nat.{mod-add-mod}
use Rattle.std.specs.declared.option.Option as rattle
use mathlib.Core.Option.{Option, none, some, some-injective}
use native.Mathlib.Decide.{ℕ_discrete}
use mathlib.Core.Logic.{dite}
use lib.ListN.{get_elem?}
use lib.Seq.{set-get_or}
use prog.Atomic.{either}
use Rattle.def_record.specs.declared.made.Made.{Made}
use Rattle.work_lock.specs.declared.view.View.{View}
use Rattle.work_lock.specs.declared.view.Stage.{Stage}
use Rattle.work_lock.specs.declared.view.Stage.TheVariants.{Resting, Waiting, Opened}
use Rattle.atomic_table.specs.Table.{State, Me, step, keeps, takes as picks, gives, Allows, put_back}
use Rattle.atomic_table.proofs.Lists.{set_here, set_again, one_turn}
use Rattle.def_record.specs.Makers.{Follows, Extends}
use Rattle.work_lock.specs.Rule.{wrap, HasTurn, turns_in, Fits, KeptOf, Kept}
use Rattle.def_record.specs.Makers.{FollowsAmong}
use Rattle.work_lock.specs.Steps.{in_stage, having_seen, takes, passes, Serves, looks, counts}
use Rattle.work_lock.proofs.Lists.{within}
use Rattle.work_lock.proofs.Totals.{total_bound}
use Rattle.work_lock.proofs.Histories.{follows_self, follows_plain, follows_more}
use Rattle.work_lock.proofs.Views.{IsLive, IsOpened, turn_within, other_fits, moved, slot_stays, alone}

module _ {E V : Type 0} (entries : V → List (Made E)) where
  abbrev Rule : State (rattle.Option V) (View E) → Type 0
  Rule = Kept entries

  -- a seat at rest takes a turn number
  pub takes_turn : (slots id : ℕ) (me : Me (rattle.Option V) (View E)) → me.0.stage ≡ Resting → Allows Rule slots id me 0 (λ n. (n + 1) % 2 ^ 64) (takes (step slots 0 1 0 none) me)
  takes_turn slots id me still s r _ at _ =
      let v : View E = me.0 in let g : ℕ = r.given in let p : ℕ = r.passed in
      let mine = subst (Fits entries r.given r.passed r.current s.homes (length s.views) id v) still (r.each id v at) in
      let none_waits : turns_in v.stage ≡ 0 = ap turns_in still in
      let sum = r.counted in (
        in_stage v (Waiting g),
        keeps,
        tt,
        moved entries s.words s.homes s.views r id v (in_stage v (Waiting g)) at (subst IsLive (sym still) tt) refl refl
            (set s.words 0 ((get_or s.words 0 0 + 1) % 2 ^ 64)) s.homes r.current (g + 1) p
            (ap (λ (l : List ℕ). set l 0 ((get_or l 0 0 + 1) % 2 ^ 64)) r.words_are ∙ ap (λ (n : ℕ). n ∷ wrap p ∷ length r.current ∷ []) (mod-add-mod g (2 ^ 64) 1))
            (omega arith)
            (mine.0, mine.1, omega arith, omega arith)
            (λ j d other e f. other_fits entries g p r.current s.homes (g + 1) p r.current s.homes (length s.views) j d d.stage (λ xs x. x) (λ t h a b. (a, omega arith)) (λ t is. (refl, refl, refl)) f)
            (λ k d t other e has had. let w = turn_within entries g p r.current s.homes (length s.views) k d t d.stage (r.each k d e) had in let l = w.1 in absurd (omega arith))
            (λ j xs apart f. f)
            (slot_stays entries r.current p s.homes s.views id v (in_stage v (Waiting g)) at (λ is. subst IsOpened (sym (sym still ∙ is)) tt) r.slot),
        (g, sym (ap (λ (l : List ℕ). get_or l 0 0) r.words_are), refl),
      )

  waited : (t u : ℕ) → Waiting t ≡ Waiting u → t ≡ u
  waited t u e = cc e

  miss : (found t : ℕ) → found ≢ wrap t → (A B : Type 0) → B → MatchBool (eqb found (wrap t)) A B
  miss found t other A B b = subst (λ c. MatchBool c A B) (sym (ne_eqb found (wrap t) other)) b

  hit : (found t : ℕ) → found ≡ wrap t → (A B : Type 0) → A → MatchBool (eqb found (wrap t)) A B
  hit found t same A B a = subst (λ c. MatchBool c A B) (sym (eq-eqb found (wrap t) same)) a

  -- a seat that turns_in looks at the turn that is served
  pub looks_up : (slots id : ℕ) (me : Me (rattle.Option V) (View E)) (t : ℕ) → me.0.stage ≡ Waiting t → Allows Rule slots id me 1 (λ n. n) (looks entries (step slots 1 0 0 none) me)
  looks_up slots id me t stage s r _ at _ =
      let v : View E = me.0 in let g : ℕ = r.given in let p : ℕ = r.passed in
      let mine = subst (Fits entries r.given r.passed r.current s.homes (length s.views) id v) stage (r.each id v at) in
      let found_is : get_or s.words 1 0 ≡ wrap p = ap (λ (l : List ℕ). get_or l 1 0) r.words_are in
      dite (ℕ_discrete (get_or s.words 1 0) (wrap t))
      (λ same.
      let sum = r.counted in let few = r.few in let all = total_bound s.views in
      let after : p ≤ t = mine.2 in let before : t < g = mine.3 in
      let is : p ≡ t = one_turn p t (2 ^ 64) after (omega arith) (sym found_is ∙ same) in
      ⊎_elim
      (λ (h : (x : V) × (s.homes ≡ some (Some x) ∷ []) × (entries x ≡ r.current)).
      let x : V = h.0 in let w : View E = having_seen (in_stage v (Opened t)) (entries x) in
      let out : set s.homes 0 none ≡ none ∷ [] = ap (λ (l : List (Option (rattle.Option V))). set l 0 none) h.1 in (
        w,
        picks 0 (Some x),
        ap (λ (l : List (Option (rattle.Option V))). get_elem? l 0) h.1,
        moved entries s.words s.homes s.views r id v w at (subst IsLive (sym stage) tt) refl refl
            (set s.words 1 (get_or s.words 1 0)) (set s.homes 0 none) r.current g p
            (set-get_or s.words 1 0 ∙ r.words_are)
            (let one : turns_in v.stage ≡ 1 = ap turns_in stage in omega arith)
            (mine.0, h.2, sym is, before, out)
            (λ j d other e f. other_fits entries g p r.current s.homes g p r.current (set s.homes 0 none) (length s.views) j d d.stage (λ xs x. x) (λ u has a b. (a, b))
            (λ u opened. absurd (other (r.apart j d e id v t at (subst (HasTurn t) (sym opened) (sym is ∙ sym (subst (λ (st : Stage). Fits entries g p r.current s.homes (length s.views) j d st) opened f).2)) (subst (HasTurn t) (sym stage) refl)))) f)
            (λ k d u other e has had. other (r.apart k d e id v u at had (subst (HasTurn u) (sym stage) has)))
            (λ j xs apart f. f)
            (inr (out, (id, w, set_here s.views id w (within s.views id v at), ap Opened (sym is)))),
        (λ u again. let same_turn : t ≡ u = waited t u (sym stage ∙ again) in
            hit (get_or s.words 1 0) u (same ∙ ap wrap same_turn) (Serves entries me u (w, (0, Some x) ∷ me.1)) ((w, (0, Some x) ∷ me.1) ≡ me) (
              x,
              ap (λ (k : ℕ). (having_seen (in_stage v (Opened k)) (entries x), (0, Some x) ∷ me.1)) same_turn,
              subst (λ (n : ℕ). Follows n v.seen (entries x)) (sym mine.0) (subst (Follows id v.seen) (sym h.2) (follows_plain (length s.views) id v.seen r.current mine.1)),
            )),
      ))
      (λ (h : (s.homes ≡ none ∷ []) × ((j : ℕ) × (u : View E) × (get_elem? s.views j ≡ some u) × (u.stage ≡ Opened p))).
      let j : ℕ = h.1.0 in let u : View E = h.1.1 in
      let here : j ≡ id = r.apart j u h.1.2 id v t at (subst (HasTurn t) (sym h.1.3) (sym is)) (subst (HasTurn t) (sym stage) refl) in
      let both : u ≡ v = some-injective u v (sym h.1.2 ∙ (ap (get_elem? s.views) here ∙ at)) in
      absurd (subst IsOpened (sym h.1.3 ∙ (ap (λ (z : View E). z.stage) both ∙ stage)) tt))
      r.slot)
      (λ other. (
        v,
        keeps,
        tt,
        subst (λ (l : List ℕ). KeptOf entries l s.homes (set s.views id v)) (sym (set-get_or s.words 1 0)) (subst (KeptOf entries s.words s.homes) (sym (set_again s.views id v at)) r),
        (λ u again. miss (get_or s.words 1 0) u (λ e. other (e ∙ ap wrap (sym (waited t u (sym stage ∙ again))))) (Serves entries me u me) (me ≡ me) refl),
      ))

  -- the seat that has the slot counts a longer history of its own making
  pub counts_more : (slots id : ℕ) (me : Me (rattle.Option V) (View E)) (t old new : ℕ) (x : V) → me.0.stage ≡ Opened t → old ≡ length me.0.seen → new ≡ length (entries x) → Extends me.0.number me.0.seen (entries x)
      → Allows Rule slots id me 2 (λ n. either (eqb n old) new n) (counts entries (step slots 2 old new (some (Some x))) me)
  counts_more slots id me t old new x stage old_is new_is more s r _ at _ =
      let v : View E = me.0 in let g : ℕ = r.given in let p : ℕ = r.passed in let w : View E = having_seen v (entries x) in
      let mine = subst (Fits entries r.given r.passed r.current s.homes (length s.views) id v) stage (r.each id v at) in
      let longer : Extends id r.current (entries x) = subst (λ (z : ℕ × List (Made E)). Extends z.0 z.1 (entries x)) (λ i. (mine.0 i, mine.1 i)) more in
      let count : length r.current ≡ old = ap length (sym mine.1) ∙ sym old_is in
      let sum = r.counted in (
        w,
        keeps,
        tt,
        moved entries s.words s.homes s.views r id v w at (subst IsLive (sym stage) tt) refl refl
            (set s.words 2 (either (eqb (get_or s.words 2 0) old) new (get_or s.words 2 0))) s.homes (entries x) g p
            (ap (λ (l : List ℕ). set l 2 (either (eqb (get_or l 2 0) old) new (get_or l 2 0))) r.words_are
            ∙ (ap (λ (b : Bool). wrap g ∷ wrap p ∷ either b new (length r.current) ∷ []) (eq-eqb (length r.current) old count) ∙ ap (λ (n : ℕ). wrap g ∷ wrap p ∷ n ∷ []) new_is))
            (omega arith)
            (subst (Fits entries g p (entries x) s.homes (length s.views) id w) (sym stage) (mine.0, refl, mine.2, mine.3, mine.4))
            (λ j d other e f. other_fits entries g p r.current s.homes g p (entries x) s.homes (length s.views) j d d.stage
            (λ xs fits. follows_more (length s.views) j id xs r.current (entries x) other (within s.views id v at) fits longer)
            (λ u has a b. (a, b))
            (λ u opened. absurd (alone entries s.words s.homes s.views r id t v at stage mine.2 j d u other e opened)) f)
            (λ k d u other e has had. other (r.apart k d e id v u at had has))
            (λ j xs other f. follows_more (length s.views) j id xs r.current (entries x) other (within s.views id v at) f longer)
            (inr (mine.4, (id, w, set_here s.views id w (within s.views id v at), stage ∙ ap Opened mine.2))),
        (λ y same. ap (λ (z : List (Made E)). (having_seen v z, me.1)) (ap entries (cc same))),
      )

  -- the seat that has the slot gives it back, and passes its turn
  pub passes_turn : (slots id : ℕ) (me : Me (rattle.Option V) (View E)) (t : ℕ) (x : V) → me.0.stage ≡ Opened t → me.1 ≡ (0, Some x) ∷ [] → me.0.seen ≡ entries x
      → Allows Rule slots id me 1 (λ n. (n + 1) % 2 ^ 64) (passes (step slots 1 1 0 none) me)
  passes_turn slots id me t x stage held seen s r _ at _ =
      let v : View E = me.0 in let g : ℕ = r.given in let p : ℕ = r.passed in let w : View E = in_stage v Resting in
      let mine = subst (Fits entries r.given r.passed r.current s.homes (length s.views) id v) stage (r.each id v at) in
      let sum = r.counted in let one : turns_in v.stage ≡ 1 = ap turns_in stage in
      let back : put_back s.homes me.1 ≡ some (Some x) ∷ [] = ap (λ (z : List (Option (rattle.Option V)) × List (ℕ × rattle.Option V)). put_back z.0 z.1) (λ i. (mine.4 i, held i)) in (
        w,
        gives,
        tt,
        moved entries s.words s.homes s.views r id v w at (subst IsLive (sym stage) tt) refl refl
            (set s.words 1 ((get_or s.words 1 0 + 1) % 2 ^ 64)) (put_back s.homes me.1) r.current g (p + 1)
            (ap (λ (l : List ℕ). set l 1 ((get_or l 1 0 + 1) % 2 ^ 64)) r.words_are ∙ ap (λ (n : ℕ). wrap g ∷ n ∷ length r.current ∷ []) (mod-add-mod p (2 ^ 64) 1))
            (omega arith)
            (mine.0, subst (λ (xs : List (Made E)). FollowsAmong (length s.views) id xs r.current) (sym mine.1) (follows_self (length s.views) id r.current))
            (λ j d other e f. other_fits entries g p r.current s.homes g (p + 1) r.current (put_back s.homes me.1) (length s.views) j d d.stage
            (λ xs fits. fits)
            (λ u has a b.
            let apart : u ≢ p = λ same. other (r.apart j d e id v u at has (subst (HasTurn u) (sym stage) (same ∙ sym mine.2))) in
            (omega arith, b))
            (λ u opened. absurd (alone entries s.words s.homes s.views r id t v at stage mine.2 j d u other e opened)) f)
            (λ k d u other e has had. absurd has)
            (λ j xs apart f. f)
            (inl (x, back, sym seen ∙ mine.1)),
        refl,
      )
