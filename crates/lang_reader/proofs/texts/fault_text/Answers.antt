use Rattle.std.specs.Prelude.{◌≡◌, ℕ, List, ◌++◌, codes}
use Rattle.std.specs.Fmt.{decimal}
use Rattle.std.proofs.Common.{ap, ◌∙◌, append_assoc}
use Rattle.def_language.specs.Faults.{number_of, kind_text}
use Rattle.lang_reader.specs.Answers.{kind_of}
use Rattle.lang_reader.proofs.texts.fault_text.Goals as goal

seam : (line number colon words : List ℕ) → (line ++ (codes ": fault " ++ (number ++ colon))) ++ words ≡ line ++ (codes ": fault " ++ (number ++ (colon ++ words)))
seam line number colon words = append_assoc line (codes ": fault " ++ (number ++ colon)) words ∙ ap (λ rest. line ++ (codes ": fault " ++ rest)) (append_assoc number colon words)

pub returns : goal.returns
returns c =
    let number = c.number_of-number.ensures in
    let bytes = ap (λ v. v.items) c.into_bytes-text.ensures.value ∙ c.in_ok-head.ensures.ok in
    let words = kind_text (kind_of c.args.fault.now.kind) in
    record { text = c.in_ok-push_kind.ensures ∙ ap (λ front. front ++ words) bytes ∙ ap (λ rest. codes "session line " ++ rest) (rw number (seam (decimal c.args.fault.now.line) (decimal (number_of (kind_of c.args.fault.now.kind))) (codes ": ") words)) }
