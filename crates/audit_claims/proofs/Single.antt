-- A line tells one event.
use Rattle.std.specs.Prelude.{◌≡◌, ℕ, false, List, Result, Ok, codes}
use Rattle.std.proofs.Common.{refl, sym, ap, subst, ◌∙◌}
use Rattle.std.proofs.lemmas.Bool.{false≢true}
use Rattle.std.proofs.lemmas.Option.{same_Some}
use Rattle.std.proofs.lemmas.Slice.Eq.{bytes_eq-Decides}
use Rattle.std.specs.Str.{bytes_eq}
use Rattle.serde_json.specs.Data.{Data}
use Rattle.def_language.specs.Sessions.{RelationSchema}
use Rattle.def_language.specs.Faults.{Kind}
use Rattle.def_language.specs.Statements.{WrittenChoice}
use Rattle.def_chase.specs.Updates.{Choice}
use Rattle.audit_claims.specs.Choices.{SpellsChoice, known_choice}
use Rattle.audit_claims.specs.Claims.{HasChoice, HasChoiceTold, Says, Tells}
use Rattle.audit_claims.specs.Told.{Told, Admission, Step, Delivery, Answer, Withdrawal, name_told, update_told}

-- a text spells one choice
same_choice : (text : List ℕ) (a b : WrittenChoice) → SpellsChoice text a → SpellsChoice text b → a ≡ b
same_choice text a b one other = ok_is a b (sym one.words ∙ other.words)
  where
    ok_is : (x y : WrittenChoice) → ◌≡◌ {A = Result WrittenChoice Kind} (Ok x) (Ok y) → x ≡ y
    ok_is x y e = cc

same_choices : (relations : List RelationSchema) (value : Data) (a b : Choice) → HasChoice relations value a → HasChoice relations value b → a ≡ b
same_choices relations value a b x y =
    let text : x.text ≡ y.text = same_Some x.text y.text (sym x.there ∙ y.there) in
    let written : x.written ≡ y.written = same_choice y.text x.written y.written (subst (λ t. SpellsChoice t x.written) text x.spelled) y.spelled in
    same_Some a b (sym x.known ∙ ap (known_choice relations) written ∙ y.known)

-- two names that a test tells apart
apart : (m n : List ℕ) → bytes_eq m n ≡ false → m ≡ n → ⊥
apart m n other same = false≢true (sym other ∙ ap (λ k. bytes_eq m k) (sym same) ∙ (bytes_eq-Decides m m).1 refl)

-- events of one name and one update, with one choice where there is one
same_event : (relations : List RelationSchema) (value : Data) (d e : Told) → name_told d ≡ name_told e → update_told d ≡ update_told e
    → HasChoiceTold relations value d → HasChoiceTold relations value e → d ≡ e
same_event relations value (Admission u) (Admission v) n same a b = ap Admission same
same_event relations value (Step u) (Step v) n same a b = ap Step same
same_event relations value (Delivery u) (Delivery v) n same a b = ap Delivery same
same_event relations value (Answer u c) (Answer v k) n same a b = λ i. Answer (same i) (same_choices relations value c k a b i)
same_event relations value (Withdrawal u) (Withdrawal v) n same a b = ap Withdrawal same
same_event relations value (Admission u) e n same a b = absurd (apart (codes "admitted") (name_told e) refl n)
same_event relations value (Step u) e n same a b = absurd (apart (codes "stepped") (name_told e) refl n)
same_event relations value (Delivery u) e n same a b = absurd (apart (codes "delivered") (name_told e) refl n)
same_event relations value (Answer u c) e n same a b = absurd (apart (codes "answered") (name_told e) refl n)
same_event relations value (Withdrawal u) e n same a b = absurd (apart (codes "withdrawn") (name_told e) refl n)

pub one_event : (relations : List RelationSchema) (line : List ℕ) (d e : Told) → Tells relations line d → Tells relations line e → d ≡ e
one_event relations line d e x y =
    let value : x.value ≡ y.value = same_Some x.value y.value (sym x.json ∙ y.json) in
    let says : Says relations y.value d = subst (λ o. Says relations o d) value x.says in
    same_event relations y.value d e (same_Some (name_told d) (name_told e) (sym says.event ∙ y.says.event)) (same_Some (update_told d) (update_told e) (sym says.update ∙ y.says.update))
    says.choice y.says.choice
