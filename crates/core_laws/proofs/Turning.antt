-- One turn after the other: each is an allowed step or delivery, so it keeps the history and lowers the work.
use Rattle.std.proofs.Common.{◌≡◌, ◌∙◌, ap, sym, refl, subst, ℕ, zero, suc, ◌+◌, ◌≤◌, Bool, true, ◌&&◌, Option, Some, None, List, [], ◌∷◌, ◌++◌, map, length, arith}
use Rattle.std.specs.Prelude.{option_map, option_and_then}
use Rattle.std.specs.List.{list_all}
use Rattle.std.proofs.lemmas.Bool.{and_parts}
use Rattle.std.proofs.lemmas.Option.{same_Some, none-some}
use Rattle.def_machine.specs.Machine.{Machine}
use Rattle.def_machine.specs.Updates.{Update}
use Rattle.def_machine.specs.Bounds.{admissions_of}
use Rattle.def_machine.specs.Drains.{step_or_deliver, next_turn}
use Rattle.def_machine.specs.Effects.{Event, Admits, Steps, Delivers, Answers, Withdraws, Entry, Admitted, Stepped, Delivered, Answered, Withdrew, Effect, effect}
use Rattle.def_machine.specs.Histories.{event_of}
use Rattle.def_machine.specs.Recorded.{is_recorded}
use Rattle.def_machine.specs.Standings.{lowest_ready, lowest_deliverable}
use Rattle.def_machine.specs.Work.{work, IsLess}
use Rattle.def_machine.proofs.Legal.{events_join, effect_records}
use Rattle.def_machine.proofs.Working.{work_law}
use Rattle.def_steps.specs.Chase.{caused}
use Rattle.def_steps.proofs.ChaseLaws.{chase_laws}
use Rattle.def_history.specs.CoreLaws.{Leave}
use Rattle.def_history.specs.PlainEntries.{PlainEntry, plain_entry, entry_kept}
use Rattle.def_history.specs.Cores.{Ground, machine, session_over, entries_over, updates_after, effect_after, grown}
use Rattle.def_history.proofs.Keeping.{entries_are_plain, histories_are_kept}
use Rattle.core_laws.proofs.Checked.{whole_is_serial}
use Rattle.core_laws.specs.Turns.{turned, after_turns}
use Rattle.core_laws.specs.Laws.{AreRecorded, Keeps, TurnLaw, TurnsLaw, DrainedLaw, over}

and_then_some : {A B : Type 0} (f : A → Option B) (o : Option A) (b : B) → option_and_then f o ≡ Some b → (a : A) × (o ≡ Some a) × (f a ≡ Some b)
and_then_some f None b h = absurd (none-some b h)
and_then_some f (Some a) b h = (a, refl, h)

map_some : {A B : Type 0} (f : A → B) (o : Option A) (b : B) → option_map f o ≡ Some b → (a : A) × (o ≡ Some a) × (f a ≡ b)
map_some f None b h = absurd (none-some b h)
map_some f (Some a) b h = (a, refl, same_Some (f a) b h)

-- ---- the events of turns

-- What holds of each step and each delivery holds of the next event.
by_kind : (M : Machine) (P : Event M → Type 0) (r d : Option ℕ) (e : Event M) → ((i : ℕ) → P (Steps i)) → ((i : ℕ) → P (Delivers i)) → step_or_deliver M r d ≡ Some e → P e
by_kind M P (Some i) d e s t g = subst P (same_Some (Steps i) e g) (s i)
by_kind M P None (Some i) e s t g = subst P (same_Some (Delivers i) e g) (t i)
by_kind M P None None e s t g = absurd (none-some e g)

-- Whether the event is an admission, as a number.
abbrev admits : {M : Machine} → Event M → ℕ
admits Admits = 1
admits (Steps i) = 0
admits (Delivers i) = 0
admits (Answers i c) = 0
admits (Withdraws i) = 0

admits_of : (M : Machine) (e : Entry M) → admissions_of e ≡ admits (event_of e)
admits_of M (Admitted i) = refl
admits_of M (Stepped e) = refl
admits_of M (Delivered i s) = refl
admits_of M (Answered i c s) = refl
admits_of M (Withdrew i cs n) = refl

steps_admit_none : (M : Machine) (i : ℕ) → admits {M = M} (Steps i) ≡ 0
steps_admit_none M i = refl

deliveries_admit_none : (M : Machine) (i : ℕ) → admits {M = M} (Delivers i) ≡ 0
deliveries_admit_none M i = refl

-- ---- a turn

record Turns (g : Ground) (H H' : List PlainEntry) : Type 0 where
  event : Event (machine g)
  made : Effect (machine g)
  next : next_turn (machine g) g.settings (updates_after g H) ≡ Some event
  is : effect_after g H event ≡ Some made
  long : H ++ plain_entry g.rules g.budget made.entry ∷ [] ≡ H'

turns : (g : Ground) (H H' : List PlainEntry) → turned g H ≡ Some H' → Turns g H H'
turns g H H' h =
    let a = and_then_some (grown g H) (next_turn (machine g) g.settings (updates_after g H)) H' h in
    let b = map_some (λ (x : Effect (machine g)). H ++ plain_entry g.rules g.budget x.entry ∷ []) (effect_after g H a.0) H' a.2 in
    record { event = a.0; made = b.0; next = a.1; is = b.1; long = b.2 }

entries_more : (g : Ground) (H : List PlainEntry) (e : Entry (machine g)) → entries_over g (H ++ plain_entry g.rules g.budget e ∷ []) ≡ entries_over g H ++ e ∷ []
entries_more g [] e = ap (λ (d : Entry (machine g)). d ∷ []) (entries_are_plain.kept g.rules g.budget e)
entries_more g (h ∷ H) e = ap (λ (es : List (Entry (machine g))). entry_kept g.rules g.budget h ∷ es) (entries_more g H e)

all_more : {A : Type 0} (p : A → Bool) (xs : List A) (x : A) → list_all p xs ≡ true → p x ≡ true → list_all p (xs ++ x ∷ []) ≡ true
all_more p [] x h e = ap (λ b. b && true) e
all_more p (y ∷ ys) x h e = let both = and_parts (p y) (list_all p ys) h in λ i. both.0 i && all_more p ys x both.1 e i

recorded_more : (g : Ground) (H : List PlainEntry) (e : Entry (machine g)) → is_recorded (event_of e) ≡ true → AreRecorded g H → AreRecorded g (H ++ plain_entry g.rules g.budget e ∷ [])
recorded_more g H e r h =
    ap (list_all is_recorded) (ap (map event_of) (entries_more g H e) ∙ events_join (machine g) (entries_over g H) e)
    ∙ all_more is_recorded (map event_of (entries_over g H)) (event_of e) h r

pub turn_law : TurnLaw
turn_law g H H' some sorted legal h =
    let M = machine g in
    let s = g.settings in
    let S = session_over g in
    let us = updates_after g H in
    let L = chase_laws caused g.rules g.budget some in
    let t = turns g H H' h in
    let leave : Leave g H' t.made.updates = subst (λ (G : List PlainEntry). Leave g G t.made.updates) t.long ((histories_are_kept g some).grows H t.event t.made legal t.is) in
    let records = effect_records M L s S us t.event t.made t.is in
    let w : IsLess M s S us = work_law M L s S (map event_of (entries_over g H)) (record { updates = us; entries = entries_over g H }) sorted legal in
    let recorded : is_recorded t.event ≡ true = by_kind M (λ (e : Event M). is_recorded e ≡ true) (lowest_ready M s us) (lowest_deliverable M s us) t.event (λ i. refl) (λ i. refl) t.next in
    let none : admits t.event ≡ 0 = by_kind M (λ (e : Event M). admits e ≡ 0) (lowest_ready M s us) (lowest_deliverable M s us) t.event (steps_admit_none M) (deliveries_admit_none M) t.next in
    let none_admitted : admissions_of t.made.entry ≡ 0 = admits_of M t.made.entry ∙ ap admits records.0 ∙ none in
    let same : length (updates_after g H') ≡ length t.made.updates = ap length leave.leaves in
    let longer : length t.made.updates ≡ length us + admissions_of t.made.entry = records.1 in
    let less : suc (work M s t.made.updates) ≤ work M s us =
    by_kind M (λ (e : Event M). effect M s S us e ≡ Some t.made → suc (work M s t.made.updates) ≤ work M s us) (lowest_ready M s us) (lowest_deliverable M s us) t.event (λ i. w.steps i t.made) (λ i. w.delivers i t.made) t.next t.is in
    record {
      keeps = record {
        legal = leave.legal;
        recorded = λ r. subst (AreRecorded g) t.long (recorded_more g H t.made.entry (ap is_recorded records.0 ∙ recorded) r);
        count = omega (arith, same, longer, none_admitted);
      };
      less = subst (λ (vs : List (Update M)). suc (work M s vs) ≤ work M s us) (sym leave.leaves) less;
    }

-- ---- turn after turn

pub turns_law : TurnsLaw
turns_law g zero H H' some sorted legal h =
    subst (λ (G : List PlainEntry). Keeps g H G) (same_Some H H' h) (record { legal = legal; recorded = λ r. r; count = refl })
turns_law g (suc n) H H' some sorted legal h =
    let a = and_then_some (after_turns g n) (turned g H) H' h in
    let first : Keeps g H a.0 = (turn_law g H a.0 some sorted legal a.1).keeps in
    let others : Keeps g a.0 H' = turns_law g n a.0 H' some sorted first.legal a.2 in
    record { legal = others.legal; recorded = λ r. others.recorded (first.recorded r); count = others.count ∙ first.count }

-- One more turn after the others.
pub turns_more : (g : Ground) (n : ℕ) (H H' H'' : List PlainEntry) → after_turns g n H ≡ Some H' → turned g H' ≡ Some H'' → after_turns g (suc n) H ≡ Some H''
turns_more g zero H H' H'' h t = ap (λ (o : Option (List PlainEntry)). option_and_then (after_turns g zero) o) (ap (turned g) (same_Some H H' h) ∙ t)
turns_more g (suc n) H H' H'' h t =
    let a = and_then_some (after_turns g n) (turned g H) H' h in
    ap (λ (o : Option (List PlainEntry)). option_and_then (after_turns g (suc n)) o) a.1 ∙ turns_more g n a.0 H' H'' a.2 t

-- ---- a whole drain

pub drained_law : DrainedLaw
drained_law s budget c n H H' valid meets sorted some begun turns quiet =
    let g = over s budget c in
    let kept : Keeps g H H' = turns_law g n H H' some sorted begun.legal turns in
    whole_is_serial budget c s (entries_over g H') (updates_after g H') valid meets some kept.legal
    (record { recorded = kept.recorded begun.recorded; admitted = kept.count ∙ begun.all; quiet = quiet })
