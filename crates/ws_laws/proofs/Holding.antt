-- The mappings in force hold over a whole log.
use Rattle.std.proofs.Common.{◌≡◌, ◌∙◌, ap, sym, refl, subst, ℕ, true, not, ◌||◌, List, [], ◌∷◌, ◌++◌, filter, ◌⊎◌, inl, inr}
use Rattle.std.specs.List.{list_all}
use Rattle.std.proofs.lemmas.Bool.{cases_eq, ne_eqb}
use Rattle.def_machine.proofs.Basics.{longer_keeps}
use Rattle.def_chase.specs.Values.{Fact}
use Rattle.def_chase.proofs.Bools.{differ}
use Rattle.def_steps.specs.Chase.{every}
use Rattle.def_workspace.specs.Lines.{Declared, Line, Says, Answers, Goes, Undoes, Redoes, Forgets, Declares}
use Rattle.def_workspace.specs.Places.{among}
use Rattle.def_workspace.specs.States.{State, with_undone, forgetting, logged, declaring, taken, taken_all}
use Rattle.def_workspace.specs.KeepLaws.{MappingsHold, InForceHold, ArePlain}
use Rattle.def_workspace.proofs.Holding.{lines_keep, replays_keep}
use Rattle.ws_laws.specs.Logs.{Throughout, IsSound, is_declared}
use Rattle.ws_laws.specs.Keeping.{LogsKeepMappings}
use Rattle.ws_laws.proofs.Declaring.{both_parts, new_is_last, same_mapping, AllDeclared, stay_declared}

-- What is among numbers that are declared is declared.
among_declared : (ds : List Declared) (ms : List ℕ) (m : ℕ) → list_all (is_declared ds) ms ≡ true → among ms m ≡ true → is_declared ds m ≡ true
among_declared ds [] m h a = differ a
among_declared ds (k ∷ ks) m h a =
    by (cases_eq k m) (both_parts (is_declared ds k) (list_all (is_declared ds) ks) h).0
    (among_declared ds ks m (both_parts (is_declared ds k) (list_all (is_declared ds) ks) h).1)
  where
    by : (k ≡ m) ⊎ (k ≡ m → ⊥) → is_declared ds k ≡ true → (among ks m ≡ true → is_declared ds m ≡ true) → is_declared ds m ≡ true
    by (inl same) f later = subst (λ j. is_declared ds j ≡ true) same f
    by (inr other) f later = later (ap (λ b. b || among ks m) (sym (ne_eqb k m other)) ∙ a)

hold_still : (ds : List Declared) (d : Declared) (ms : List ℕ) (D : List Fact) → list_all (is_declared ds) ms ≡ true → MappingsHold ds ms D → MappingsHold (ds ++ d ∷ []) ms D
hold_still ds d ms D k h m c a e = h m c a (sym (same_mapping ds d m (among_declared ds ms m k a)) ∙ e)

plain_front : (ds : List Declared) (d : Declared) → ArePlain (ds ++ d ∷ []) → ArePlain ds
plain_front ds d p m c e = p m c (longer_keeps ds (d ∷ []) m c e)

-- The mappings in force hold now, and those at the last fold held then.
record AllHeld (S : State) : Type 0 where
  pub base : InForceHold S.declared S.base
  pub now : InForceHold S.declared S.live.world

plain_before : (S : State) (x : Line) → IsSound S x → ArePlain (taken every S x).declared → ArePlain S.declared
plain_before S (Says u) s p = p
plain_before S (Answers n g) s p = p
plain_before S (Goes n) s p = p
plain_before S (Undoes ns) s p = p
plain_before S (Redoes ns) s p = p
plain_before S (Forgets ns) s p = p
plain_before S (Declares d) s p = plain_front S.declared d (subst ArePlain (new_is_last S.declared d s) p)

plain_first : (S : State) (xs : List Line) → Throughout every IsSound S xs → ArePlain (taken_all every S xs).declared → ArePlain S.declared
plain_first S [] t p = p
plain_first S (x ∷ xs) t p = plain_before S x t.0 (plain_first (taken every S x) xs t.1 p)

stay_held : (S : State) (x : Line) → IsSound S x → ArePlain S.declared → AllDeclared S → AllHeld S → AllHeld (taken every S x)
stay_held S (Says u) s p a h = record { base = h.base; now = lines_keep S.declared S.live (Says u) p h.now }
stay_held S (Answers n g) s p a h = record { base = h.base; now = lines_keep S.declared S.live (Answers n g) p h.now }
stay_held S (Goes n) s p a h = record { base = h.base; now = lines_keep S.declared S.live (Goes n) p h.now }
stay_held S (Undoes ns) s p a h = record { base = h.base; now = replays_keep (with_undone (logged S (Undoes ns)) (ns ++ S.undone)) p h.base }
stay_held S (Redoes ns) s p a h =
    record { base = h.base; now = replays_keep (with_undone (logged S (Redoes ns)) (filter (λ n. not (among ns n)) S.undone)) p h.base }
stay_held S (Forgets ns) s p a h = record { base = h.base; now = replays_keep (forgetting (logged S (Forgets ns)) ns) p h.base }
stay_held S (Declares d) s p a h =
    let e : S.declared ++ d ∷ [] ≡ declaring S.declared d = sym (new_is_last S.declared d s) in
    record {
      base = subst (λ ds. InForceHold ds S.base) e (hold_still S.declared d S.base.in_force S.base.facts a.base.in_force h.base);
      now = subst (λ ds. InForceHold ds S.live.world) e (hold_still S.declared d S.live.world.in_force S.live.world.facts a.now.in_force h.now);
    }

held : (S : State) (xs : List Line) → Throughout every IsSound S xs → ArePlain (taken_all every S xs).declared → AllDeclared S → AllHeld S → AllHeld (taken_all every S xs)
held S [] t p a h = h
held S (x ∷ xs) t p a h =
    held (taken every S x) xs t.1 p (stay_declared every S x t.0 a) (stay_held S x t.0 (plain_first S (x ∷ xs) t p) a h)

pub logs_keep : LogsKeepMappings
logs_keep ds n l xs d h t p = (held _ xs t p record { base = d; lines = refl; now = d } record { base = h; now = h }).now
