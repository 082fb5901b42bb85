use Rattle.std.specs.Prelude.{◌≡◌, ℕ, List, Some, codes}
use Rattle.std.proofs.Common.{refl, subst, sym}
use Rattle.serde_json.specs.Data.{Data}
use Rattle.serde_json.specs.View.{view}
use Rattle.base_types.specs.Meanings.{choice_of}
use Rattle.base_types.specs.declared.updates.Choice.{Choice}
use Rattle.def_language.specs.Sessions.{RelationSchema}
use Rattle.audit_claims.specs.Choices.{SaysChoice}
use Rattle.audit_claims.specs.Claims.{HasChoice, IsTextIn}
use Rattle.audit_claims.specs.declared.choices.ChoiceText.{ChoiceText}
use Rattle.audit_claims.specs.declared.choices.ChoiceText.TheVariants as said
use Rattle.audit_claims.proofs.claims.answer_in.Goals as goal

-- what was read of the text is the choice of the object
has_choice : (relations : List RelationSchema) (value : Data) (bytes text : List ℕ) (read : ChoiceText) (c : Choice) → IsTextIn value (codes "choice") (Some text)
    → bytes ≡ text → read ≡ said.Choice c → SaysChoice relations bytes read → HasChoice relations value (choice_of c)
has_choice relations value bytes text read c there same is says =
    let told = subst (SaysChoice relations bytes) is says in
    record { text = bytes; there = subst (λ t. IsTextIn value (codes "choice") (Some t)) (sym same) there; written = told.0; spelled = told.1; known = told.2 }

pub returns-in-Choice : goal.returns-in-Choice
returns-in-Choice c = record {
  claim = (
    choice_of c.in-Choice.choice,
    refl,
    has_choice c.args.schema.now (view c.args.object.now) c.as_bytes.result.now c.in-Some.text.now c.in_ok-choice.field-0 c.in-Choice.choice
        c.in-Some.ensures.text c.as_bytes.ensures.value c.in-Choice.is c.in_ok-choice.ensures.says,
  );
}
