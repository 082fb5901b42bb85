-- The mappings in force hold after an update that is done, and what is spent or refused leaves all as it was.
use Rattle.std.specs.Prelude.{if◌then◌else◌, nat_lt, is_some, slice_get}
use Rattle.std.proofs.Common.{◌≡◌, ℕ, suc, ap, refl, sym, ◌∙◌, subst, List, [], ◌∷◌, Bool, true, false, arith}
use Rattle.std.specs.Option.{option_map}
use Rattle.std.specs.List.{list_all}
use Rattle.std.proofs.lemmas.Bool.{both_ways}
use Rattle.def_machine.specs.Updates.{Read, hides, shown}
use Rattle.def_machine.specs.Runs.{Reached}
use Rattle.def_machine.specs.Serial.{Turn}
use Rattle.def_chase.specs.Values.{Fact}
use Rattle.def_chase.specs.Repository.{apply}
use Rattle.def_chase.specs.Mappings.{Rule, Holds, in_force, HoldFrom, AllHold}
use Rattle.def_chase.specs.Violations.{Scope, Every}
use Rattle.def_chase.specs.Updates.{Operation, direction_of, Choice}
use Rattle.def_chase.proofs.Bools.{differ}
use Rattle.def_steps.specs.Attempts.{Done, Spent, Refused, Phase, Start, Look, Generate, Asked, Ended, Attempt, outcome_in}
use Rattle.def_steps.specs.Chase.{ending, chase, every, whole_chase}
use Rattle.def_steps.specs.Looking.{LookedHold, NoneLater}
use Rattle.def_steps.specs.Timely.{in_time, repairs_plainly, acts_in_time}
use Rattle.def_steps.specs.Holding.{Leaves}
use Rattle.def_steps.proofs.Steady.{SoundPhase, SoundEnd}
use Rattle.def_steps.proofs.Reaching.{Steady, reached_steady}
use Rattle.def_steps.proofs.Passing.{all_weaker}
use Rattle.def_steps.proofs.Timely.{in_time_later, none_later, view_in_time}

-- ---- one update

looked_all : (u n : ℕ) (ms : List Rule) (E : List Fact) → LookedHold u n ms E → NoneLater u n ms E → HoldFrom n ms E
looked_all u n [] E h l = tt
looked_all u n (m ∷ ms) E h l = (λ f. by (nat_lt u m.since) refl f, looked_all u (suc n) ms E h.1 l.1)
  where
    by : (b : Bool) → nat_lt u m.since ≡ b → in_force n m E ≡ true → Holds m E
    by true e f = absurd (both_ways (in_force n m E) (l.0 e) f)
    by false e f = h.0 e f

-- what is shown at an end
abbrev pub shows : Phase → Bool
shows p = hides (option_map ending (outcome_in p))

-- What is kept from update to update: the mappings in force hold, and those in force are in time for update u.
pub record Kept (ms : List Rule) (u : ℕ) (D : List Fact) : Type 0 where
  pub hold : AllHold ms D
  pub timely : list_all (in_time ms u) D ≡ true

module _ (ms : List Rule) (B : ℕ) where
  -- After Done the mappings looked at hold, so all in force if none came too late.
  pub done_holds : (D : List Fact) (u a : ℕ) (op : Operation) (answers : List Choice) (P : Attempt) (log : List (Read (whole_chase ms B))) → Reached (whole_chase ms B) D answers u a op P log
      → P.phase ≡ Ended Done → NoneLater u 0 ms (apply D P.own) → AllHold ms (apply D P.own)
  done_holds D u a op answers P log r e l =
      let s : Steady u ms every D op P = reached_steady every ms B D answers u a op r in
      let sound : SoundEnd u ms Every (apply D P.own) Done = subst (λ p. SoundPhase u ms Every (direction_of P.operation) (apply D P.own) p) e s.sound in
      looked_all u 0 ms (apply D P.own) (sound refl) l

  shown_at : (scope : Operation → Scope) (P : Attempt) (p : Phase) → P.phase ≡ p → shown (chase scope ms B) P ≡ (if shows p then [] else P.own)
  shown_at scope P p e = ap (λ p. if shows p then [] else P.own) e

  pub leaves_reached : (D : List Fact) (t : Turn (whole_chase ms B)) (P : Attempt) (log : List (Read (whole_chase ms B))) → Reached (whole_chase ms B) D t.answers t.number t.attempt t.operation P log → Leaves ms B D t P
  leaves_reached D t P log r =
      record {
        done = λ d l. subst (λ ws. AllHold ms (apply D ws)) (sym (shown_at every P (Ended Done) d)) (done_holds D t.number t.attempt t.operation t.answers P log r d l);
        spent = λ d. ap (apply D) (shown_at every P (Ended Spent) d);
        refused = λ n d. ap (apply D) (shown_at every P (Ended (Refused n)) d);
      }

  kept_later : (u : ℕ) (D : List Fact) → Kept ms u D → Kept ms (suc u) D
  kept_later u D k = record { hold = k.hold; timely = all_weaker (in_time ms u) (in_time ms (suc u)) (λ t h. in_time_later ms u (suc u) (omega arith) t h) D k.timely }

  -- An update that has ended over what is kept keeps it for the next one.
  pub kept_reached : (plain : repairs_plainly ms ≡ true) (D : List Fact) (t : Turn (whole_chase ms B)) (P : Attempt) (log : List (Read (whole_chase ms B))) → acts_in_time ms t.number t.operation ≡ true → Kept ms t.number D
      → Reached (whole_chase ms B) D t.answers t.number t.attempt t.operation P log → is_some (option_map ending (outcome_in P.phase)) ≡ true → Kept ms (suc t.number) (apply D (shown (whole_chase ms B) P))
  kept_reached plain D t P log acts k r ended =
      kept_later t.number (apply D (shown (whole_chase ms B) P)) (by P.phase refl ended (leaves_reached D t P log r) (view_in_time every ms B D t.answers t.number t.attempt t.operation plain acts k.timely r))
    where
      same : (F : List Fact) → F ≡ D → Kept ms t.number F
      same F f = subst (λ G. Kept ms t.number G) (sym f) k

      by : (p : Phase) → P.phase ≡ p → is_some (option_map ending (outcome_in p)) ≡ true → Leaves ms B D t P → list_all (in_time ms t.number) (apply D P.own) ≡ true → Kept ms t.number (apply D (shown (whole_chase ms B) P))
      by Start f o l v = differ o
      by Look f o l v = differ o
      by (Generate r) f o l v = differ o
      by (Asked q) f o l v = differ o
      by (Ended Done) f o l v =
          record {
            hold = l.done f (none_later ms t.number (apply D P.own) v 0 ms (λ j. ap (slice_get ms) (omega arith)));
            timely = ap (λ ws. list_all (in_time ms t.number) (apply D ws)) (shown_at every P (Ended Done) f) ∙ v;
          }
      by (Ended Spent) f o l v = same (apply D (shown (whole_chase ms B) P)) (l.spent f)
      by (Ended (Refused n)) f o l v = same (apply D (shown (whole_chase ms B) P)) (l.refused n f)
