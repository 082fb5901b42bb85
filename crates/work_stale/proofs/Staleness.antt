-- A step stays what it was while no entry makes it stale.
use Rattle.std.proofs.Common.{◌≡◌, ℕ, zero, suc, ◌≤◌, ◌+◌, ◌==◌, ap, sym, refl, subst, ◌∙◌, List, [], ◌∷◌, ◌++◌, append_assoc, take, drop, length, map, Bool, true, false, ◌&&◌, ◌||◌, arith, Some, None}
use Rattle.std.specs.Prelude.{if◌then◌else◌, slice_get, nat_lt, Option}
use Rattle.std.specs.List.{AllByRecursion, list_any}
use Rattle.std.proofs.lemmas.Bool.{both_ways, lt-ltb, or_parts, eqb-true}
use Rattle.std.proofs.lemmas.List.{map_push, take-append-drop, take-map, drop-map, same_from_push}
use Rattle.std.proofs.lemmas.Option.{same_Some, none-some}
use Rattle.def_machine.specs.Machine.{Machine, Laws, Avoids}
use Rattle.def_machine.specs.Updates.{Update, Read, Session, Settings, trail, below, committed}
use Rattle.def_machine.specs.Standings.{is_held, lack}
use Rattle.def_machine.specs.Cascade.{readers, has_number, Member}
use Rattle.def_machine.specs.Steps.{stepped, step_log}
use Rattle.def_machine.specs.Effects.{Event, Admits, Steps, Delivers, Answers, Withdraws, Entry, Admitted, Stepped, Delivered, Answered, Withdrew, Effect, step_effect, deliver_effect, answer_effect, withdraw_effect, admit_effect, may_step, may_deliver, may_answer, may_withdraw, effect}
use Rattle.def_machine.specs.Histories.{Log, empty_log, after, event_of, causes_in, IsLegal}
use Rattle.def_machine.specs.Local.{acts_on}
use Rattle.def_machine.specs.CauseLaw.{members_of}
use Rattle.def_machine.specs.Stamps.{writes_in, hidden_by, loses, IsUntouched}
use Rattle.def_machine.proofs.Basics.{some_of}
use Rattle.def_machine.proofs.Standing.{ready_parts}
use Rattle.def_machine.proofs.Places.{allowed_is}
use Rattle.def_machine.proofs.Legal.{events_join, effect_records}
use Rattle.def_machine.proofs.Prefixes.{legal_law}
use Rattle.def_chase.specs.Mappings.{Rule}
use Rattle.def_chase.specs.Mentions.{mentions}
use Rattle.def_chase.specs.Queries.{Query}
use Rattle.def_chase.specs.Repository.{Change, IsRepository}
use Rattle.chase_query.specs.Meanings as query
use Rattle.def_steps.specs.Chase.{caused, caused_chase, relation_of}
use Rattle.def_steps.proofs.ChaseLaws.{chase_laws}
use Rattle.def_history.specs.PlainEntries.{PlainEntry, plain_entry, entry_kept}
use Rattle.def_history.specs.Cores.{machine, session_over, entries_over, updates_after}
use Rattle.def_history.proofs.Keeping.{left_by}
use Rattle.def_history.specs.Stale.{IsClear, AllClear}
use Rattle.def_history.proofs.Staying.{stays_law}
use Rattle.work_stale.specs.Shown.{restarted_in, lost_in, taken_in, trail_by}
use Rattle.work_stale.specs.Stale.{is_read, any_of, adds_below, takes_below, is_stale_by, first_from}
use Rattle.work_stale.specs.Laws.{StepsStayUnlessStale}
use Rattle.work_stale.proofs.Showing.{hidden_is, restarted_plain, plain_kept}
use Rattle.work_stale.proofs.Telling.{legal_tells}

-- a number among those of which none passes doesn't pass
picked : (f : ℕ → Bool) (ns : List ℕ) (n : ℕ) → list_any f ns ≡ false → has_number ns n ≡ true → f n ≡ false
picked f [] n e h = absurd (both_ways false refl h)
picked f (m ∷ ns) n e h = by (m == n) refl (or_parts (f m) (list_any f ns) e).0 (picked f ns n (or_parts (f m) (list_any f ns) e).1) h
  where
    by : (b : Bool) → (m == n) ≡ b → f m ≡ false → (has_number ns n ≡ true → f n ≡ false) → (b || has_number ns n) ≡ true → f n ≡ false
    by true g p more h = ap f (sym (eqb-true m n g)) ∙ p
    by false g p more h = more h

and_second : (a b : Bool) → a ≡ true → (a && b) ≡ false → b ≡ false
and_second true b h e = e
and_second false b h e = absurd (both_ways false refl h)

module _ (ms : List Rule) (B : ℕ) (some : 1 ≤ B) (s : Settings) (S : Session (caused_chase ms B)) (sound : IsRepository S.base) where
  abbrev M : Machine
  M = caused_chase ms B

  L : Laws (caused_chase ms B)
  L = chase_laws caused ms B some

  -- the updates that lose their own trail by the event are those that its entry tells
  lost_plain : (us : List (Update M)) (e : Event M) (x : Effect M) → effect M s S us e ≡ Some x → loses M S.base us e ≡ lost_in (plain_entry ms B x.entry)
  lost_plain us Admits x h =
      let p = some_of (admit_effect M us) (slice_get S.submissions (length us)) x h in
      ap (λ (y : Effect M). lost_in (plain_entry ms B y.entry)) p.2
  lost_plain us (Steps i) x h =
      let a = allowed_is us i (may_step M s us) (step_effect M s S us) x h in
      let v : Update M = stepped M (below M S.base us a.place) a.item in
      let c : ℕ = committed M (step_effect M s S us a.place a.item).updates in
      ap (λ n. loses M S.base us (Steps n)) a.number
      ∙ ap (hidden_by M S.base us a.place) a.found
      ∙ ap (λ b. if b then suc a.place ∷ [] else []) (sym (hidden_is v.withdrawn (M.outcome v.state) (is_held M s c (suc a.place) v) (suc c) (lack M v.answers v.state) (ready_parts M s (committed M us) (suc a.place) a.item a.may).0.present))
      ∙ ap (λ (y : Effect M). lost_in (plain_entry ms B y.entry)) a.made
  lost_plain us (Delivers i) x h =
      let a = allowed_is us i (may_deliver M s us) (deliver_effect M s us) x h in
      ap (λ (y : Effect M). lost_in (plain_entry ms B y.entry)) a.made
  lost_plain us (Answers i c) x h =
      let a = allowed_is us i (may_answer M s us c) (answer_effect M s us c) x h in
      ap (λ (y : Effect M). lost_in (plain_entry ms B y.entry)) a.made
  lost_plain us (Withdraws i) x h =
      let a = allowed_is us i (may_withdraw M us) (withdraw_effect M s S us) x h in
      ap (λ n. n ∷ []) a.number ∙ ap (λ (y : Effect M). lost_in (plain_entry ms B y.entry)) a.made

  module _ (p : ℕ → Bool) (k : ℕ) where
    -- the query mentions no relation but those that pass
    abbrev Within : Query → Type 0
    Within q = (n : ℕ) → p n ≡ false → mentions ms q n ≡ false

    avoided : (q : Query) (ws : List Change) → Within q → any_of p ws ≡ false → Avoids M (mentions ms q) ws
    avoided q [] f h = tt
    avoided q (w ∷ ws) f h = let one = or_parts (p (relation_of w)) (any_of p ws) h in (f (relation_of w) one.0, avoided q ws f one.1)

    abbrev Avoided : Query → Member M → Type 0
    Avoided q m = Avoids M (mentions ms q) m.trail

    with_first : (q : Query) (n : ℕ) (ws : List Change) (below : List (Member M)) (b : Bool) → (b ≡ true → Avoids M (mentions ms q) ws) → AllByRecursion (Avoided q) below
        → AllByRecursion (Avoided q) ((if b then record { number = n; trail = ws } ∷ [] else []) ++ below)
    with_first q n ws below true f h = (f refl, h)
    with_first q n ws below false f h = h

    -- the trails that the event takes away below
    gone : (q : Query) (H : List PlainEntry) (ns : List ℕ) → Within q → list_any (λ i. nat_lt i (suc k) && any_of p (trail_by i H)) ns ≡ false
        → (n j : ℕ) (us : List (Update M)) → n + j ≡ suc k → ((i m : ℕ) (u : Update M) → i ≡ n + m → slice_get us m ≡ Some u → trail M u ≡ trail_by i H)
        → AllByRecursion (Avoided q) (members_of M ns n (take j us))
    gone q H ns f h n zero us e tells = tt
    gone q H ns f h n (suc j) [] e tells = tt
    gone q H ns f h n (suc j) (u ∷ us) e tells =
        with_first q n (trail M u) (members_of M ns (suc n) (take j us)) (has_number ns n)
        (λ g. avoided q (trail M u) f (ap (any_of p) (tells n 0 u (omega arith) refl) ∙ and_second (nat_lt n (suc k)) (any_of p (trail_by n H)) (lt-ltb n (suc k) (omega (arith, e))) (picked (λ i. nat_lt i (suc k) && any_of p (trail_by i H)) ns n h g)))
        (gone q H ns f h (suc n) j us (omega (arith, e)) (λ i m v d g. tells i (suc m) v (omega (arith, d)) g))

    -- the writes that the event adds below
    added : (q : Query) (us : List (Update M)) (d : Entry M) → Within q → adds_below p (suc k) (plain_entry ms B d) ≡ false → acts_on us (event_of d) ≤ k → Avoids M (mentions ms q) (writes_in d)
    added q us (Admitted i) f h l = tt
    added q us (Stepped d) f h l = avoided q d.writes f (and_second (nat_lt d.update (suc k)) (any_of p d.writes) (lt-ltb d.update (suc k) (omega (arith, l))) h)
    added q us (Delivered i c) f h l = tt
    added q us (Answered i c t) f h l = tt
    added q us (Withdrew i cs n) f h l = tt

    all_more : (P Q : Read M → Type 0) → ((r : Read M) → P r → Q r) → (rs : List (Read M)) → AllByRecursion P rs → AllByRecursion Q rs
    all_more P Q f [] h = tt
    all_more P Q f (r ∷ rs) h = (f r h.0, all_more P Q f rs h.1)

    -- an event that does not make the step stale by its entry does not make it stale
    clear : (H : List (Entry M)) (us : List (Update M)) (e : Event M) (x : Effect M) (reads : List (Read M)) → IsLegal M s S H us → effect M s S us e ≡ Some x
        → AllByRecursion (λ (r : Read M). Within r.query) reads → is_stale_by p (suc k) (map (plain_entry ms B) H) (plain_entry ms B x.entry) ≡ false → IsClear M S.base us e x k reads
    clear H us e x reads legal f within h =
        let d : PlainEntry = plain_entry ms B x.entry in
        let one = or_parts (has_number (restarted_in d) (suc k) || adds_below p (suc k) d) (takes_below p (suc k) (map (plain_entry ms B) H) d) h in
        let two = or_parts (has_number (restarted_in d) (suc k)) (adds_below p (suc k) d) one.0 in
        let is : event_of x.entry ≡ e = (effect_records M L s S us e x f).0 in
        let told = legal_tells ms B some s S sound H us legal in
        let taken : loses M S.base us e ++ readers (causes_in x.entry) ≡ taken_in d = (λ i. lost_plain us e x f i ++ restarted_plain ms B x.entry i) in
        let here : (q : Query) → Within q → IsUntouched M S.base us e x k (mentions ms q) = (λ q g. record {
          added = λ l. added q us x.entry g two.1 (subst (λ (t : Event M). acts_on us t ≤ k) (sym is) l);
          removed = subst (λ (ns : List ℕ). AllByRecursion (Avoided q) (members_of M ns 1 (take k us))) (sym taken)
              (gone q (map (plain_entry ms B) H) (taken_in d) g one.1 1 k us (omega arith) (λ i m u a b. told.now m u b ∙ ap (λ n. trail_by n (map (plain_entry ms B) H)) (let t : suc m ≡ i = omega (arith, a) in t)));
        }) in
        record {
          untouched = all_more (λ (r : Read M). Within r.query) (λ (r : Read M). IsUntouched M S.base us e x k (mentions ms r.query)) (λ r g. here r.query g) reads within;
          kept = ap (λ ns. has_number ns (suc k)) (restarted_plain ms B x.entry) ∙ two.0;
        }

    -- where two entries follow one history, and one of them is that of the other's event, they are one
    same_entry : (H : List (Entry M)) (us vs : List (Update M)) (d : Entry M) (x : Effect M) → IsLegal M s S H us → effect M s S us (event_of d) ≡ Some x → IsLegal M s S (H ++ d ∷ []) vs → x.entry ≡ d
    same_entry H us vs d x h f g =
        let more = (legal_law M L s S).grows H us (event_of d) x h f in
        let events : map event_of (H ++ x.entry ∷ []) ≡ map event_of (H ++ d ∷ []) =
        events_join M H x.entry ∙ ap (λ e. map event_of H ++ e ∷ []) (effect_records M L s S us (event_of d) x f).0 ∙ sym (events_join M H d) in
        (same_from_push H H x.entry d (ap (λ (l : Log M). l.entries) (same_Some _ _ (sym more ∙ ap (λ es. after M s S (empty_log M) es) events ∙ g)))).1

    unless : (b : Bool) (n : ℕ) (o : Option ℕ) → (if b then Some n else o) ≡ None → (b ≡ false) × (o ≡ None)
    unless true n o h = absurd (none-some n (sym h))
    unless false n o h = (refl, h)

    all_clear : (H later : List (Entry M)) (us vs : List (Update M)) (n : ℕ) (reads : List (Read M)) → IsLegal M s S H us → IsLegal M s S (H ++ later) vs
        → AllByRecursion (λ (r : Read M). Within r.query) reads → first_from p (suc k) (map (plain_entry ms B) H) n (map (plain_entry ms B) later) ≡ None → AllClear M s S us k reads later
    all_clear H [] us vs n reads h g within none = tt
    all_clear H (d ∷ later) us vs n reads h g within none = λ x f.
        let whole : IsLegal M s S ((H ++ d ∷ []) ++ later) vs = subst (λ (es : List (Entry M)). IsLegal M s S es vs) (sym (append_assoc H (d ∷ []) later)) g in
        let same : x.entry ≡ d = (let front = (legal_law M L s S).prefix (H ++ d ∷ []) later vs whole in same_entry H us front.0 d x h f front.1) in
        let parts = unless (is_stale_by p (suc k) (map (plain_entry ms B) H) (plain_entry ms B d)) n (first_from p (suc k) (map (plain_entry ms B) H ++ plain_entry ms B d ∷ []) (suc n) (map (plain_entry ms B) later)) none in
        let grown : IsLegal M s S (H ++ d ∷ []) x.updates = subst (λ (e : Entry M). IsLegal M s S (H ++ e ∷ []) x.updates) same ((legal_law M L s S).grows H us (event_of d) x h f) in (
          clear H us (event_of d) x reads h f within (ap (λ (e : Entry M). is_stale_by p (suc k) (map (plain_entry ms B) H) (plain_entry ms B e)) same ∙ parts.0),
          all_clear (H ++ d ∷ []) later x.updates vs (suc n) reads grown whole within
              (ap (λ ds. first_from p (suc k) ds (suc n) (map (plain_entry ms B) later)) (map_push (plain_entry ms B) H d) ∙ parts.1),
        )

  -- what reads with the same queries mention
  none_read : (reads : List query.Read) (n : ℕ) → list_any (λ q. mentions ms q n) (map (λ (r : query.Read). r.query) reads) ≡ is_read ms reads n
  none_read [] n = refl
  none_read (r ∷ reads) n = ap (λ b. mentions ms r.query n || b) (none_read reads n)

  all_within : (p : ℕ → Bool) (reads : List (Read M)) → ((n : ℕ) → p n ≡ false → list_any (λ q. mentions ms q n) (map (λ (r : Read M). r.query) reads) ≡ false) → AllByRecursion (λ (r : Read M). Within p 0 r.query) reads
  all_within p [] f = tt
  all_within p (r ∷ reads) f =
      let parts : (n : ℕ) → p n ≡ false → (mentions ms r.query n ≡ false) × (list_any (λ q. mentions ms q n) (map (λ (r : Read M). r.query) reads) ≡ false) = (λ n e. or_parts _ _ (f n e)) in
      (λ n e. (parts n e).0, all_within p reads (λ n e. (parts n e).1))

pub stay_unless_stale : StepsStayUnlessStale
stay_unless_stale g H n k u reads some sorted legal w none =
    let M : Machine = machine g in
    let L : Laws M = chase_laws caused g.rules g.budget some in
    let S = session_over g in
    let early : List (Entry M) = entries_over g (take n H) in
    let later : List (Entry M) = drop n (entries_over g H) in
    let whole : early ++ later ≡ entries_over g H = ap (λ es. es ++ later) (sym (take-map (entry_kept g.rules g.budget) n H)) ∙ take-append-drop n (entries_over g H) in
    let all : IsLegal M g.settings S (early ++ later) (updates_after g H) = subst (λ (es : List (Entry M)). IsLegal M g.settings S es (updates_after g H)) (sym whole) legal in
    let front = (legal_law M L g.settings S).prefix early later (updates_after g H) all in
    let first : IsLegal M g.settings S early (updates_after g (take n H)) = (left_by g (take n H) front.0 front.1).legal in
    let asked : List (Read M) = step_log M u.operation (below M g.base (updates_after g (take n H)) k) u.answers u.state in
    let plain_later : map (plain_entry g.rules g.budget) later ≡ drop n H = ap (map (plain_entry g.rules g.budget)) (drop-map (entry_kept g.rules g.budget) n H) ∙ plain_kept g.rules g.budget (drop n H) in
    let within = all_within g.rules g.budget some g.settings S sorted (is_read g.rules reads) asked
    (λ i e. ap (λ qs. list_any (λ q. mentions g.rules q i) qs) (sym w.asks) ∙ none_read g.rules g.budget some g.settings S sorted reads i ∙ e) in
    let clear = all_clear g.rules g.budget some g.settings S sorted (is_read g.rules reads) k early later (updates_after g (take n H)) (updates_after g H) (suc n) asked first all within
    ((λ i. first_from (is_read g.rules reads) (suc k) (plain_kept g.rules g.budget (take n H) i) (suc n) (plain_later i)) ∙ none) in
    stays_law M L (λ p D E h. record { sorted = h.also; also = h.sorted; same = λ t e. sym (h.same t e) }) g.settings S early later (updates_after g (take n H)) (updates_after g H) k u sorted first all w.ready w.spared clear
