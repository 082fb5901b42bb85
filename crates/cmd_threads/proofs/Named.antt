-- The nulls of a run are named by their updates and places.
use Rattle.std.specs.Prelude.{◌==◌, nat_lt}
use Rattle.std.proofs.Common.{◌≡◌, ◌∙◌, inl, inr, ap, refl, sym, subst, ℕ, ◌≤◌, Bool, true, false, not, ◌||◌, ◌&&◌, Option, Some, None, List, [], ◌∷◌, length, arith}
use Rattle.std.specs.List.{list_any, list_all}
use Rattle.std.proofs.lemmas.Bool.{and_parts, eqb-true, ltb-true}
use Rattle.std.proofs.lemmas.Bool.Decides.{nat_tests}
use Rattle.def_machine.specs.Updates.{Update, Settings, hides}
use Rattle.def_chase.specs.Values.{NullName, Datum, Unknown, Fact, same_datum}
use Rattle.def_chase.proofs.Bools.{differ, none_some, some_same}
use Rattle.def_chase.proofs.Learning.{same_datum_exact}
use Rattle.def_steps.specs.Origins.{stands_in}
use Rattle.def_steps.specs.Serial.{SerialResult}
use Rattle.def_history.specs.Cores.{Ground, machine, session_over, entries_over, updates_after}
use Rattle.def_history.specs.Nulls.{numbered, drew, is_present, ArePresent}
use Rattle.def_history.specs.PlainEntries.{PlainEntry}
use Rattle.def_history.proofs.Nulls.{nulls_are_present}
use Rattle.def_language.specs.Checks.{rules_of}
use Rattle.def_language.specs.Grammar.{null_word}
use Rattle.def_language.specs.Sessions.{SessionData}
use Rattle.def_language.specs.Validity.{IsSession}
use Rattle.def_language.specs.Words.{null}
use Rattle.lang_session.specs.Base.{base_violation}
use Rattle.core_laws.specs.Laws.{AreRecorded}
use Rattle.core_laws.proofs.Checked.{checked_is_admissible, whole_is_serial}
use Rattle.core_engine.specs.States.{ground_of}
use Rattle.work_session.specs.Runs.{IsRunOf}
use Rattle.work_session.proofs.Running.{all_recorded, updates_left}
use Rattle.cmd_threads.specs.Nulls.{left_after, IsDrawn, HasItsName, NamesNulls}

-- ---- what stands in a repository

value_passes : (p : Datum → Bool) (ds : List Datum) (d : Datum) → list_all p ds ≡ true → list_any (same_datum d) ds ≡ true → p d ≡ true
value_passes p [] d a h = differ h
value_passes p (x ∷ ds) d a h = let q = and_parts (p x) (list_all p ds) a in by (same_datum d x) refl h (value_passes p ds d q.1)
  where
    by : (b : Bool) → same_datum d x ≡ b → (b || list_any (same_datum d) ds) ≡ true → (list_any (same_datum d) ds ≡ true → p d ≡ true) → p d ≡ true
    by true e g rest = ap p (same_datum_exact d x e) ∙ (and_parts (p x) (list_all p ds) a).0
    by false e g rest = rest g

stands_passes : (p : Datum → Bool) (D : List Fact) (d : Datum) → list_all (λ t. list_all p t.values) D ≡ true → stands_in D d ≡ true → p d ≡ true
stands_passes p [] d a h = differ h
stands_passes p (t ∷ D) d a h = let q = and_parts (list_all p t.values) (list_all (λ t. list_all p t.values) D) a in by (list_any (same_datum d) t.values) refl h (stands_passes p D d q.1)
  where
    by : (b : Bool) → list_any (same_datum d) t.values ≡ b → (b || stands_in D d) ≡ true → (stands_in D d ≡ true → p d ≡ true) → p d ≡ true
    by true e g rest = value_passes p t.values d (and_parts (list_all p t.values) (list_all (λ t. list_all p t.values) D) a).0 e
    by false e g rest = rest g

-- ---- names

same_word : (u k v j : ℕ) → null u k ≡ null v j → (u ≡ v) × (k ≡ j)
same_word u k v j e = (cc, cc)

not_above : (k n : ℕ) → not (nat_lt k n) ≡ true → n ≤ k
not_above k n h = grind (arith, nat_tests)

module _ (s : SessionData) (v : IsSession s) (met : base_violation s ≡ None) (steps : ℕ) (some : 1 ≤ steps) (c : Settings) (H : List PlainEntry) (run : IsRunOf s steps c H) where
  abbrev g : Ground
  g = ground_of s steps c

  abbrev us : List (Update (machine (ground_of s steps c)))
  us = updates_after g H

  nulls_present : ArePresent (rules_of s.mappings) steps (session_over (ground_of s steps c)) us
  nulls_present = nulls_are_present (rules_of s.mappings) steps c (session_over g) (entries_over g H) us (checked_is_admissible steps s v met some) run.legal

  drawn_by : (n : NullName) (o : Option (Update (machine (ground_of s steps c)))) → numbered us n.update ≡ o → drew (rules_of s.mappings) steps o n ≡ true → IsDrawn s steps c H n
  drawn_by n None e h = differ h
  drawn_by n (Some u) e h =
      let x = and_parts (not u.withdrawn) _ h in
      let y = and_parts (not (hides ((machine (ground_of s steps c)).outcome u.state))) _ x.1 in
      let z = and_parts (n.attempt == u.attempt) _ y.1 in
      let w = and_parts (nat_lt 0 n.place) _ z.1 in
      record {
        drawer = u;
        number = e;
        present = negated u.withdrawn x.0;
        by_attempt = eqb-true n.attempt u.attempt z.0;
        from_one = ltb-true 0 n.place w.0;
        among_drawn = not_above u.state.nulls n.place w.1;
      }
    where
      negated : (b : Bool) → not b ≡ true → b ≡ false
      negated true f = differ f
      negated false f = refl

  named_by : (k : ℕ) (n : NullName) → is_present (rules_of s.mappings) steps us k (Unknown n) ≡ true → HasItsName s steps c H n
  named_by k n h = by ((n.update == 0) && (n.attempt == 0)) refl h
    where
      by : (b : Bool) → ((n.update == 0) && (n.attempt == 0)) ≡ b → (b || (not (nat_lt k n.update) && drew (rules_of s.mappings) steps (numbered us n.update) n)) ≡ true → HasItsName s steps c H n
      by true e f = let x = and_parts (n.update == 0) (n.attempt == 0) e in inl (eqb-true n.update 0 x.0, eqb-true n.attempt 0 x.1)
      by false e f = inr (drawn_by n (numbered us n.update) refl (and_parts (not (nat_lt k n.update)) _ f).1)

  null_named : (k : ℕ) (n : NullName) → k ≤ length us → stands_in (left_after k s steps c H) (Unknown n) ≡ true → HasItsName s steps c H n
  null_named k n few h = named_by k n (stands_passes (is_present (rules_of s.mappings) steps us k) (left_after k s steps c H) (Unknown n) (nulls_present.views k few) h)

  -- nulls of one update have one attempt
  one_attempt : (m n : NullName) → HasItsName s steps c H m → HasItsName s steps c H n → m.update ≡ n.update → m.attempt ≡ n.attempt
  one_attempt m n (inl a) (inl b) e = a.1 ∙ sym b.1
  one_attempt m n (inl a) (inr b) e = absurd (none_some b.drawer (ap (numbered us) (sym a.0 ∙ e) ∙ b.number))
  one_attempt m n (inr a) (inl b) e = absurd (none_some a.drawer (ap (numbered us) (sym b.0 ∙ sym e) ∙ a.number))
  one_attempt m n (inr a) (inr b) e =
      let same : a.drawer ≡ b.drawer = some_same a.drawer b.drawer (sym a.number ∙ ap (numbered us) e ∙ b.number) in
      a.by_attempt ∙ ap (λ (u : Update (machine (ground_of s steps c))). u.attempt) same ∙ sym b.by_attempt

  nulls_apart : (m n : NullName) → HasItsName s steps c H m → HasItsName s steps c H n → null_word m ≡ null_word n → m ≡ n
  nulls_apart m n a b e =
      let x = same_word m.update m.place n.update n.place e in
      let y = one_attempt m n a b x.0 in
      λ i. record { update = x.0 i; attempt = y i; place = x.1 i }

  pub names_nulls : NamesNulls s steps c H
  names_nulls =
      record {
        written =
            ap (λ (r : SerialResult). r.repository)
            (whole_is_serial steps c s (entries_over g H) (updates_after g H) v met some run.legal record {
              recorded = subst (AreRecorded g) (sym run.begins) (all_recorded g 1 (length s.updates) run.moves run.alone);
              admitted = updates_left g H (length s.updates) run.moves some v.base_order run.legal run.begins run.alone;
              quiet = run.quiet;
            });
        named = null_named;
        apart = λ k m n few a b e. nulls_apart m n (null_named k m few a) (null_named k n few b) e;
      }
