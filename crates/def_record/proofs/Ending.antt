-- A desk whose seats are all at rest ends with the serial machine's result.
use Rattle.std.proofs.Common.{◌≡◌, ℕ, ◌≤◌, sym, refl, ap, subst, ◌∙◌, arith, List, [], ◌∷◌, ◌++◌, map, length, Option, Some, None, Bool, true, false}
use Rattle.std.specs.List.{list_all}
use Rattle.std.proofs.lemmas.Option.{same_Some}
use Rattle.std.proofs.lemmas.Bool.{both_ways, and_parts, and_from}
use Rattle.def_machine.specs.Machine.{Machine, Laws}
use Rattle.def_machine.specs.Updates.{Session, Settings}
use Rattle.def_machine.specs.Standings.{is_quiet}
use Rattle.def_machine.specs.Effects.{Entry, Admitted, Stepped, Delivered, Answered, Withdrew, effect}
use Rattle.def_machine.specs.Histories.{event_of, IsLegal}
use Rattle.def_machine.specs.Bounds.{admissions_of}
use Rattle.def_machine.specs.Recorded.{is_recorded}
use Rattle.def_machine.proofs.Legal.{effect_records}
use Rattle.def_machine.proofs.Sessions.{quiet_law}
use Rattle.def_record.specs.declared.item.Item.TheVariants.{Opened, Entered, Gave, Returned}
use Rattle.def_record.specs.Items.{ItemOf, Record, entry_in, entries_in}
use Rattle.def_record.specs.Tickets.{Ticket}
use Rattle.def_record.specs.Records.{Now, IsOpen, updates_in, moved, after_items, MayEnter, MayFollow, AllFollow}
use Rattle.def_record.specs.Openings.{opening, opened_now}
use Rattle.def_record.specs.Headline.{is_move, HeadlineLaw}
use Rattle.def_record.proofs.Follows.{record_split, open_moved, history_after}
use Rattle.def_record.proofs.Marking.{entries_join, entries_entered}
use Rattle.def_record.proofs.Resting.{rest_law}
use Rattle.def_record.proofs.Legality.{record_law}
use Rattle.def_record.proofs.Beginning.{opening_law}

all_join : {A : Type 0} (p : A → Bool) (xs ys : List A) → list_all p xs ≡ true → list_all p ys ≡ true → list_all p (xs ++ ys) ≡ true
all_join p [] ys a b = b
all_join p (x ∷ xs) ys a b = let q = and_parts _ _ a in and_from _ _ q.0 (all_join p xs ys q.1 b)

wrong : false ≡ true → ⊥
wrong e = both_ways false refl e

module _ {M : Machine} where
  entry_moves : (out : List Ticket) (j : ℕ) (e : Entry M) → MayEnter out j e → (is_move e ≡ true) × (admissions_of e ≡ 0)
  entry_moves out j (Admitted i) h = absurd h
  entry_moves out j (Stepped d) h = (refl, refl)
  entry_moves out j (Delivered i s) h = (refl, refl)
  entry_moves out j (Answered i c s) h = absurd h
  entry_moves out j (Withdrew i cs n) h = absurd h

  module _ (L : Laws M) where
    -- what stays along the items
    pub record Keeps (n m : Now M) (es : List (Entry M)) : Type 0 where
      pub settings : m.settings ≡ n.settings
      pub session : m.session ≡ n.session
      pub count : length m.updates ≡ length n.updates
      pub moves : list_all is_move es ≡ true

    keeps_item : (n : Now M) (x : ItemOf M) (maker : Option ℕ) → IsOpen n → MayFollow n x maker → Keeps n (moved n x maker) (entry_in x)
    keeps_item n (Opened w k) maker o f = absurd f
    keeps_item n (Entered e) None o f = absurd (omega (arith, o, f.1))
    keeps_item n (Entered e) (Some j) o f =
        let k = entry_moves n.out j e f.2 in
        let longer = (effect_records M L n.settings n.session n.updates (event_of e) f.0.made f.0.allowed).1 in
        let none : admissions_of f.0.made.entry ≡ 0 = ap admissions_of f.0.told ∙ k.1 in
        let left : length (updates_in n.updates (effect M n.settings n.session n.updates (event_of e))) ≡ length f.0.made.updates = ap (λ q. length (updates_in n.updates q)) f.0.allowed in
        record { settings = refl; session = refl; count = omega (arith, left, longer, none); moves = and_from _ _ k.0 refl }
    keeps_item n (Gave t u) None o f = absurd f
    keeps_item n (Gave t u) (Some j) o f = record { settings = refl; session = refl; count = refl; moves = refl }
    keeps_item n (Returned t) None o f = absurd f
    keeps_item n (Returned t) (Some j) o f = record { settings = refl; session = refl; count = refl; moves = refl }

    pub keeps_items : (n : Now M) (is : Record M) → IsOpen n → AllFollow n is → Keeps n (after_items n is) (entries_in is)
    keeps_items n [] o f = record { settings = refl; session = refl; count = refl; moves = refl }
    keeps_items n (i ∷ is) o f =
        let a = keeps_item n i.entry i.maker o f.0 in
        let b = keeps_items (moved n i.entry i.maker) is (open_moved n i.entry i.maker o) f.1 in
        record { settings = b.settings ∙ a.settings; session = b.session ∙ a.session; count = b.count ∙ a.count; moves = all_join is_move (entry_in i.entry) (entries_in is) a.moves b.moves }

  moves_recorded : (es : List (Entry M)) → list_all is_move es ≡ true → list_all is_recorded (map event_of es) ≡ true
  moves_recorded [] h = refl
  moves_recorded (Admitted i ∷ es) h = absurd (wrong h)
  moves_recorded (Stepped d ∷ es) h = moves_recorded es h
  moves_recorded (Delivered i s ∷ es) h = moves_recorded es h
  moves_recorded (Answered i c s ∷ es) h = absurd (wrong h)
  moves_recorded (Withdrew i cs n ∷ es) h = absurd (wrong h)

  events_join : (xs ys : List (Entry M)) → map event_of (xs ++ ys) ≡ map event_of xs ++ map event_of ys
  events_join [] ys = refl
  events_join (x ∷ xs) ys = ap (λ es. event_of x ∷ es) (events_join xs ys)

pub headline_law : (M : Machine) → Laws M → HeadlineLaw M
headline_law M L s S H us later seen z legal recorded all rec some_seat saw rests =
    let o = opening_law M s S H us legal in
    let n : Now M = opened_now s S H us in
    let split = record_split (opening s S H) later n rec o.now in
    let m : Now M = after_items n later in
    let open_n : length H ≤ length H = omega arith in
    let kept = keeps_items L n later open_n split.0 in
    let r = rest_law M (opening s S H ++ later) seen rec some_seat saw rests in
    let same : r.now ≡ m = same_Some _ _ (sym r.left ∙ split.1) in
    let history : entries_in (opening s S H ++ later) ≡ H ++ entries_in later = entries_join (opening s S H) later ∙ ap (λ es. es ++ entries_in later) (entries_entered (Settings × Session M) None H) in
    let whole : m.history ≡ entries_in (opening s S H ++ later) = history_after n later ∙ sym history in
    let legal_m = record_law M L (opening s S H ++ later) m rec split.1 in
    let legal_r : IsLegal M s S (entries_in (opening s S H ++ later)) m.updates = subst (λ (y : Settings × Session M × List (Entry M)). IsLegal M y.0 y.1 y.2 m.updates) (λ i. (kept.settings i, kept.session i, whole i)) legal_m in
    let quiet : is_quiet M s m.updates ≡ true = (λ i. is_quiet M (sym kept.settings i) m.updates) ∙ (ap (λ (y : Now M). is_quiet M y.settings y.updates) (sym same) ∙ r.rest.quiet) in
    let recorded_all : list_all is_recorded (map event_of (entries_in (opening s S H ++ later))) ≡ true =
    ap (λ es. list_all is_recorded (map event_of es)) history ∙ (ap (list_all is_recorded) (events_join H (entries_in later)) ∙ all_join is_recorded (map event_of H) (map event_of (entries_in later)) recorded (moves_recorded (entries_in later) kept.moves)) in
    let q = quiet_law M L s S (map event_of (entries_in (opening s S H ++ later))) record { updates = m.updates; entries = entries_in (opening s S H ++ later) } z legal_r recorded_all (kept.count ∙ all) quiet in
    record {
      updates = m.updates;
      legal = legal_r;
      quiet = quiet;
      admitted = kept.count ∙ all;
      recorded = recorded_all;
      later = entries_in later;
      begins = history;
      moves = kept.moves;
      turns = q.0;
      whole = q.1;
    }
