-- The small machine meets the laws.
use Rattle.std.proofs.Common.{◌≡◌, ℕ, ◌≤◌, suc, ap, sym, refl, ◌∙◌, List, [], ◌∷◌, ◌++◌, append_assoc, append-nil, Bool, true, false, ◌==◌, not, filter, None, Some}
use Rattle.std.specs.Prelude.{if◌then◌else◌, nat_lt}
use Rattle.std.proofs.lemmas.List.Elements.{filter-append}
use Rattle.std.proofs.lemmas.Bool.{ltb-true, both_ways}
use Rattle.std.proofs.lemmas.Option.{none-some}
use Rattle.def_machine.specs.Machine.{Laws, Avoids, Done, Spent}
use Rattle.def_machine.specs.Standings.{is_nil}
use Rattle.def_machine.specs.Small.{small}

same_is : (a b : Bool) → (if a then b else not b) ≡ true → a ≡ b
same_is true true h = refl
same_is true false h = absurd (both_ways false refl h)
same_is false false h = refl
same_is false true h = absurd (both_ways false refl h)

same_self : (a : Bool) → (if a then a else not a) ≡ true
same_self true = refl
same_self false = refl

avoid_none : (B : ℕ) (p : ℕ → Bool) (ws : List ℕ) → Avoids (small B) p ws → filter p ws ≡ []
avoid_none B p [] h = refl
avoid_none B p (w ∷ ws) h = ap (λ b. if b then w ∷ filter p ws else filter p ws) h.0 ∙ avoid_none B p ws h.1

-- where an attempt goes on, it has steps left
goes_on : (done less : Bool) → (if done then Some Done else (if less then None else Some Spent)) ≡ None → less ≡ true
goes_on true less h = absurd (none-some Done (sym h))
goes_on false true h = refl
goes_on false false h = absurd (none-some Spent (sym h))

pub small_laws : (B : ℕ) → 1 ≤ B → Laws (small B)
small_laws B some =
    record {
      same_is = same_is;
      same_self = same_self;
      apply_none = λ D. append-nil D;
      apply_join = λ D ws vs. sym (append_assoc D ws vs);
      begin_own = λ n a op. refl;
      begin_taken = λ n a op. refl;
      begin_count = λ n a op. refl;
      moved_own = λ P m. refl;
      moved_taken = λ P m. refl;
      moved_count = λ P m. refl;
      some_budget = some;
      bounded = λ P m h e. ltb-true _ _ (goes_on m.done (nat_lt (suc P.count) B) e);
      sound_apply = λ D ws z. tt;
      alike_same = λ p D z. refl;
      alike_apply = λ p D E ws h. filter-append p D ws ∙ ap (λ xs. xs ++ filter p ws) h ∙ sym (filter-append p E ws);
      alike_skip = λ p D E ws a h. filter-append p D ws ∙ ap (λ xs. filter p D ++ xs) (avoid_none B p ws a) ∙ append-nil (filter p D) ∙ h;
      alike_value = λ op q D E own h. ap (λ xs. not (is_nil xs)) (filter-append (λ r. q == r) D own ∙ ap (λ xs. xs ++ filter (λ r. q == r) own) h ∙ sym (filter-append (λ r. q == r) E own));
    }
