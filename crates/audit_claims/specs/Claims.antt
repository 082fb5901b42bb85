-- Which event a line of a trace claims.
use Rattle.std.specs.Prelude.{◌≡◌, ◌≤◌, ℕ, List, Option, Some, None, IsUtf8, codes, option_and_then}
use Rattle.serde_json.specs.Data.{Data}
use Rattle.serde_json.specs.Find.{get, as_number, as_str, as_u64}
use Rattle.serde_json.specs.Read.{read as json_read}
use Rattle.base_types.specs.Meanings.{choice_of}
use Rattle.def_language.specs.Sessions.{RelationSchema}
use Rattle.def_language.specs.Statements.{WrittenChoice}
use Rattle.def_chase.specs.Updates.{Choice}
use Rattle.audit_claims.specs.Choices.{SpellsChoice, known_choice}
use Rattle.audit_claims.specs.Told.{Told, Admission, Step, Delivery, Answer, Withdrawal, name_told, update_told}
use Rattle.audit_claims.specs.declared.claims.Claim.{Claim}
use Rattle.audit_claims.specs.declared.claims.Claim.TheVariants as claims

-- The object has this text at the key; then, this number at the key.
abbrev pub HasText : Data → List ℕ → List ℕ → Type 0
HasText value key text = option_and_then as_str (get key value) ≡ Some text

abbrev pub HasNumber : Data → List ℕ → ℕ → Type 0
HasNumber value key n = option_and_then as_u64 (option_and_then as_number (get key value)) ≡ Some n

-- The object has the text of the choice that was made.
pub record HasChoice (relations : List RelationSchema) (value : Data) (c : Choice) : Type 0 where
  pub text : List ℕ
  pub there : HasText value (codes "choice") text
  pub written : WrittenChoice
  pub spelled : SpellsChoice text written
  pub known : known_choice relations written ≡ Some c

-- If the event is an answer, the object has its choice.
abbrev pub HasChoiceTold : List RelationSchema → Data → Told → Type 0
HasChoiceTold relations value (Admission u) = Unit {0}
HasChoiceTold relations value (Step u) = Unit {0}
HasChoiceTold relations value (Delivery u) = Unit {0}
HasChoiceTold relations value (Answer u c) = HasChoice relations value c
HasChoiceTold relations value (Withdrawal u) = Unit {0}

-- The object names the event, the number of its update, from 1 to 1000, and the choice of an answer. Other members do not matter.
pub record Says (relations : List RelationSchema) (value : Data) (e : Told) : Type 0 where
  pub event : HasText value (codes "event") (name_told e)
  pub update : HasNumber value (codes "update") (update_told e)
  pub least : 1 ≤ update_told e
  pub most : update_told e ≤ 1000
  pub choice : HasChoiceTold relations value e

-- The line is the text of a JSON object that names the event.
pub record Tells (relations : List RelationSchema) (line : List ℕ) (e : Told) : Type 0 where
  pub utf8 : IsUtf8 line
  pub value : Data
  pub json : json_read line ≡ Some value
  pub says : Says relations value e

-- The line claims no event.
abbrev pub TellsNothing : List RelationSchema → List ℕ → Type 0
TellsNothing relations line = (e : Told) → Tells relations line e → ⊥

-- what a `Claim` stands for
abbrev pub claim_meant : Claim → Told
claim_meant (claims.Admitted u) = Admission u
claim_meant (claims.Stepped u) = Step u
claim_meant (claims.Delivered u) = Delivery u
claim_meant (claims.Answered u c) = Answer u (choice_of c)
claim_meant (claims.Withdrawn u) = Withdrawal u

-- The result is the event that the line claims, or None if it claims none.
abbrev pub IsClaimOn : List RelationSchema → List ℕ → Option Claim → Type 0
IsClaimOn relations line None = TellsNothing relations line
IsClaimOn relations line (Some claim) = Tells relations line (claim_meant claim)

-- ---- results for the parts of an object

abbrev pub IsClaimIn : List RelationSchema → Data → Option Claim → Type 0
IsClaimIn relations value None = (e : Told) → Says relations value e → ⊥
IsClaimIn relations value (Some claim) = Says relations value (claim_meant claim)

-- The number of an update that the object names, if it names one.
abbrev pub IsNumberIn : Data → Option ℕ → Type 0
IsNumberIn value None = (n : ℕ) → HasNumber value (codes "update") n → 1 ≤ n → n ≤ 1000 → ⊥
IsNumberIn value (Some n) = HasNumber value (codes "update") n × (1 ≤ n) × (n ≤ 1000)

-- The text at a key, if the object has one there.
abbrev pub IsTextIn : Data → List ℕ → Option (List ℕ) → Type 0
IsTextIn value key found = option_and_then as_str (get key value) ≡ found

-- The event with this name and update, unless it is an answer.
abbrev pub IsPlainClaim : List ℕ → ℕ → Option Claim → Type 0
IsPlainClaim name u None = (e : Told) → name_told e ≡ name → name ≡ codes "answered"
IsPlainClaim name u (Some claim) = (name_told (claim_meant claim) ≡ name) × (update_told (claim_meant claim) ≡ u)

-- The answer to this update that the object claims, if it has a choice.
abbrev pub IsAnswerIn : List RelationSchema → Data → ℕ → Option Claim → Type 0
IsAnswerIn relations value u None = (c : Choice) → HasChoice relations value c → ⊥
IsAnswerIn relations value u (Some claim) = (c : Choice) × (claim_meant claim ≡ Answer u c) × HasChoice relations value c
