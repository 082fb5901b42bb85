-- The table of an update only grows in a run, and its places rise.
use Rattle.std.proofs.Common.{◌≡◌, ◌∙◌, ap, sym, refl, ℕ, zero, suc, ◌<◌, ◌≤◌, true, false, Bool, Option, Some, None, List, [], ◌∷◌, ◌++◌, cond, nat_lt, arith, append_assoc}
use Rattle.std.specs.Prelude.{slice_get}
use Rattle.std.proofs.lemmas.Bool.{ltb-true, ltb-false}
use Rattle.std.proofs.lemmas.List.{append-nil}
use Rattle.def_chase.specs.Values.{Datum, Fact}
use Rattle.def_chase.specs.Updates.{Operation, Choice}
use Rattle.def_chase.specs.Violations.{Scope}
use Rattle.def_steps.specs.Attempts.{Done as EndedDone, Spent, Refused, Repair, Question, Phase, Start, Look, Generate, Asked, Ended, Attempt, begun as begun_attempt}
use Rattle.def_steps.specs.Steps.{Move}
use Rattle.def_workspace.specs.Lines.{Update, Deed, Inserts, Deletes, Fills, Swaps, Fixes, Forces, Drops, Given, Declared, Source}
use Rattle.def_workspace.specs.Places.{Cause, Place, Places, place_found, greater, greatest, found_or_more, giving, among}
use Rattle.def_workspace.specs.Runs.{Active, Setting, Thread, Rested, Rests, Halts, TooLong, Violated, draw_one, draw_from, repair_at, drawn_by, drawn_at, drawn, fitting, answered, move_by, next, by_choice, by_phase, run, run_op, begun_with}
use Rattle.def_workspace.specs.Ops.{Course, Going, Goes, Halted, take_op, after_op, ops_of}
use Rattle.def_workspace.specs.Worlds.{World, Done, Left, places_of, begun, ended, is_met, force_in, enacted, enact_op, with_order, is_of_gone, setting, run_over, run_deed, unless_gone, run_update}
use Rattle.def_workspace.specs.NameLaws.{AreRising, KeepsPlaces, RunsKeepPlaces}
use Rattle.def_workspace.proofs.Keeping.{HoldsAt, ops_keep}

itself : (ps : Places) → KeepsPlaces ps ps
itself ps = record { grows = record { more = []; all = sym (append-nil ps) }; rise = λ r. r }

both : (ps qs rs : Places) → KeepsPlaces ps qs → KeepsPlaces qs rs → KeepsPlaces ps rs
both ps qs rs k l =
    record {
      grows = record {
        more = k.grows.more ++ l.grows.more;
        all = l.grows.all ∙ (ap (λ xs. xs ++ l.grows.more) k.grows.all ∙ append_assoc ps k.grows.more l.grows.more);
      };
      rise = λ r. l.rise (k.rise r);
    }

-- ---- a place

greater_than : (m n : ℕ) → (m ≤ greater m n) × (n ≤ greater m n)
greater_than m n = by (nat_lt m n) refl
  where
    by : (b : Bool) → nat_lt m n ≡ b → (m ≤ cond b n m) × (n ≤ cond b n m)
    by true e = let l : m < n = ltb-true m n e in (omega (arith, l), omega arith)
    by false e = let l : n ≤ m = ltb-false m n e in (omega arith, omega (arith, l))

rising_end : (m : ℕ) (ps : Places) (p : Place) → AreRising m ps → m < p.number → greatest ps < p.number → AreRising m (ps ++ p ∷ [])
rising_end m [] p r l g = (l, tt)
rising_end m (x ∷ xs) p r l g =
    let t : (x.number ≤ greater x.number (greatest xs)) × (greatest xs ≤ greater x.number (greatest xs)) = greater_than x.number (greatest xs) in
    let first : x.number ≤ greater x.number (greatest xs) = t.0 in
    let later : greatest xs ≤ greater x.number (greatest xs) = t.1 in
    (r.0, rising_end x.number xs p r.1 (omega (arith, g, first)) (omega (arith, g, later)))

gives : (ps : Places) (used : List ℕ) (c : Cause) → KeepsPlaces ps (giving ps used c).places
gives ps used c = by (place_found ps used c)
  where
    by : (o : Option Place) → KeepsPlaces ps (found_or_more o ps c).places
    by (Some p) = itself ps
    by None =
        record {
          grows = record { more = record { cause = c; number = suc (greatest ps) } ∷ []; all = refl };
          rise = λ r. rising_end 0 ps record { cause = c; number = suc (greatest ps) } r (omega arith) (omega arith);
        }

-- ---- a step

draws_from : (number seq : ℕ) (source : Source) (image : List Fact) (n k v : ℕ) (t : Thread)
    → KeepsPlaces t.places (draw_from number seq source image n k v t).places
draws_from number seq source image zero k v t = itself t.places
draws_from number seq source image (suc n) k v t =
    both t.places (draw_one number seq source image k v t).places _
    (gives t.places t.given record { source = source; variable = v; image = image })
    (draws_from number seq source image n (suc k) (suc v) (draw_one number seq source image k v t))

draws : (s : Setting) (P : Attempt) (m : Move) (t : Thread) → KeepsPlaces t.places (drawn s P m t).places
draws s P m t = by (repair_at m.phase)
  where
    at : (ds : List Datum) (o : Option Active) → KeepsPlaces t.places (drawn_by s.number P.number m.drawn P.nulls ds o t).places
    at ds None = itself t.places
    at ds (Some a) = draws_from _ _ _ _ m.drawn (suc P.nulls) a.rule.universal t

    by : (o : Option Repair) → KeepsPlaces t.places (drawn_at s P.number m.drawn P.nulls o t).places
    by None = itself t.places
    by (Some r) = at r.binding (slice_get s.active r.mapping)

-- ---- an op

abbrev thread_in : Rested → Thread
thread_in (Rests P cs t) = t
thread_in (Halts r t) = t

module _ (s : Setting) (D : List Fact) (go : Attempt → List Choice → Thread → Rested)
    (later : (Q : Attempt) (ds : List Choice) (u : Thread) → KeepsPlaces u.places (thread_in (go Q ds u)).places) where
  step : (P : Attempt) (cs : List Choice) (t : Thread) → KeepsPlaces t.places (thread_in (go (next s D P None) cs (drawn s P (move_by s D P None) t))).places
  step P cs t = both t.places (drawn s P (move_by s D P None) t).places _ (draws s P (move_by s D P None) t) (later (next s D P None) cs (drawn s P (move_by s D P None) t))

  by_one : (P : Attempt) (q : Question) (cs : List Choice) (t : Thread) (o : Option Choice) → KeepsPlaces t.places (thread_in (by_choice s D go P q cs t o)).places
  by_one P q cs t None = itself t.places
  by_one P q cs t (Some c) =
      both t.places (drawn s P (move_by s D P (Some c)) (answered q c t)).places _ (draws s P (move_by s D P (Some c)) (answered q c t))
      (later (next s D P (Some c)) (cs ++ c ∷ []) (drawn s P (move_by s D P (Some c)) (answered q c t)))

  phase : (P : Attempt) (cs : List Choice) (t : Thread) (f : Phase) → KeepsPlaces t.places (thread_in (by_phase s D go P cs t f)).places
  phase P cs t Start = step P cs t
  phase P cs t Look = step P cs t
  phase P cs t (Generate r) = step P cs t
  phase P cs t (Asked q) = by_one P q cs t (fitting s.active t.names q t.answers)
  phase P cs t (Ended EndedDone) = itself t.places
  phase P cs t (Ended Spent) = itself t.places
  phase P cs t (Ended (Refused n)) = itself t.places

run_keeps : (s : Setting) (D : List Fact) (k : ℕ) (P : Attempt) (cs : List Choice) (t : Thread) → KeepsPlaces t.places (thread_in (run s D k P cs t)).places
run_keeps s D zero P cs t = phase s D (λ Q ds u. Halts TooLong u) (λ Q ds u. itself u.places) P cs t P.phase
run_keeps s D (suc k) P cs t = phase s D (λ Q ds u. run s D k Q ds u) (λ Q ds u. run_keeps s D k Q ds u) P cs t P.phase

module _ (s : Setting) (ps : Places) where
  abbrev Kept : Course → Type 0
  Kept c = KeepsPlaces ps c.thread.places

  abbrev KeptBy : Thread → Type 0
  KeptBy t = KeepsPlaces ps t.places

  op_keeps : (op : Operation) (c : Course) → Kept c → HoldsAt Kept KeptBy (take_op s op c)
  op_keeps op c h = by (run_op s c.facts (suc c.last) op c.thread) (run_keeps s c.facts s.steps (begun_attempt (suc c.last) 0 op) [] (begun_with c.facts op c.thread))
    where
      by : (r : Rested) → KeepsPlaces c.thread.places (thread_in r).places → HoldsAt Kept KeptBy (after_op c op r)
      by (Rests P cs t) k = both ps c.thread.places t.places h k
      by (Halts r t) k = both ps c.thread.places t.places h k

-- ---- a run

module _ (scope : Operation → Scope) (ds : List Declared) (w : World) (ps : Places) (u : Update) (gs : List Given) where
  over : KeepsPlaces ps (places_of (run_over scope ds w ps u gs))
  over =
      by (ops_of (setting scope ds w u) u.deed (begun w ps gs))
      (ops_keep (setting scope ds w u) (Kept (setting scope ds w u) ps) (KeptBy (setting scope ds w u) ps) (λ c h. h) (op_keeps (setting scope ds w u) ps) u.deed (begun w ps gs) (itself ps))
    where
      by : (g : Going) → HoldsAt (Kept (setting scope ds w u) ps) (KeptBy (setting scope ds w u) ps) g → KeepsPlaces ps (places_of (ended w u gs g))
      by (Goes c) h = h
      by (Halted r t) h = h

  forced : (m : ℕ) → KeepsPlaces ps (places_of (force_in ds w ps u m))
  forced m = by (among w.in_force m) (is_met w.facts (slice_get ds m))
    where
      by : (b c : Bool) → KeepsPlaces ps (places_of (cond b (Done (with_order w record { update = u; answers = []; ops = [] }) ps 0)
          (cond c (Done (with_order (enacted w m) record { update = u; answers = []; ops = enact_op w m }) ps 0) (Left (Violated m) ps 0))))
      by true c = itself ps
      by false true = itself ps
      by false false = itself ps

  deeds : (deed : Deed) → KeepsPlaces ps (places_of (run_deed scope ds w ps u gs deed))
  deeds (Inserts ts) = over
  deeds (Deletes ts) = over
  deeds (Fills v d) = over
  deeds (Swaps t v) = over
  deeds (Fixes m vs) = over
  deeds (Forces m) = forced m
  deeds (Drops m) = itself ps

  runs : KeepsPlaces ps (places_of (run_update scope ds w ps u gs))
  runs = by (is_of_gone w u.deed)
    where
      by : (o : Option ℕ) → KeepsPlaces ps (places_of (unless_gone o ps (run_deed scope ds w ps u gs u.deed)))
      by None = deeds u.deed
      by (Some m) = itself ps

pub runs_keep_places : RunsKeepPlaces
runs_keep_places scope ds w ps u gs = runs scope ds w ps u gs
