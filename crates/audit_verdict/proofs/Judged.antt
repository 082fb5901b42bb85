-- Where the judging stands after some of the lines.
use Rattle.std.specs.Prelude.{◌≡◌, ◌+◌, ◌<◌, ◌≤◌, ◌==◌, ℕ, Bool, true, false, List, [], ◌∷◌, ◌++◌, length, Some, None}
use Rattle.std.proofs.Common.{refl, sym, ap, subst, ◌∙◌, arith, inl, inr}
use Rattle.std.proofs.lemmas.Bool.Decides.{Decides-eqb}
use Rattle.std.proofs.lemmas.Bool.{cases_lt, false≢true}
use Rattle.std.proofs.lemmas.List.{append_assoc, append-nil, length-append}
use Rattle.std.proofs.lemmas.Option.{none-some}
use Rattle.def_history.specs.Cores.{Ground, updates_after}
use Rattle.def_history.specs.PlainEntries.{PlainEntry}
use Rattle.lang_reader.specs.Places.{IsOneLine}
use Rattle.audit_replay.specs.Replays.{IsReplayOf, IsWholeReplay}
use Rattle.audit_replay.specs.declared.replays.Replay.{Replay}
use Rattle.audit_claims.specs.Forms.{HasLines, HasNoLines, IsCounted, IsOf, ended}
use Rattle.audit_verdict.specs.Judging.{AfterLine, IsVerdictIn, Replays, Stands}
use Rattle.audit_claims.specs.Verdicts.{counted, IsFaultIn, at, IsVerdict, Trial, Verdict, Yes, No}
use Rattle.audit_verdict.specs.Verdicts.{why_of}
use Rattle.audit_verdict.specs.declared.verdicts.Why.{Why}
use Rattle.audit_verdict.proofs.Lined.{ends, goes_on, trace_of}

-- Of the lines these are left, and after the others the replay stands.
pub record AreLeft (t : Trial) (lines : List (List ℕ)) (rest : List ℕ) (n : ℕ) (r : Replay) : Type 0 where
  pub before : List (List ℕ)
  pub after : List (List ℕ)
  pub whole : lines ≡ before ++ after
  pub of : IsOf rest after
  pub stands : Stands t before r
  pub count : n ≡ length before

module _ (t : Trial) (lines : List (List ℕ)) (rest : List ℕ) (n : ℕ) (r : Replay) (b : AreLeft t lines rest n r) (line more : List ℕ) (is : rest ≡ line ++ 10 ∷ more) (single : IsOneLine line) where
  -- The next line is made.
  pub next_made : (new : Replay) → ((before : List (List ℕ)) → Stands t before r → AfterLine t before line new None) → AreLeft t lines more (n + 1) new
  next_made new judged =
      let next = goes_on rest line more b.after b.of is single in
      record {
        before = b.before ++ line ∷ [];
        after = next.others;
        whole = b.whole ∙ ap (λ ls. b.before ++ ls) next.is ∙ sym (append_assoc b.before (line ∷ []) next.others);
        of = next.of;
        stands = judged b.before b.stands;
        count = let c = b.count in omega (arith, c, length-append b.before (line ∷ []));
      }

  -- The next line is at fault.
  pub faulty : (new : Replay) (why : Why) → ((before : List (List ℕ)) → Stands t before r → AfterLine t before line new (Some why)) → IsVerdictIn t lines (No (n + 2) (why_of why))
  faulty new why judged =
      let next = goes_on rest line more b.after b.of is single in
      let wrong = judged b.before b.stands in
      let here : lines ≡ b.before ++ line ∷ next.others = b.whole ∙ ap (λ ls. b.before ++ ls) next.is in
      subst (λ k. IsFaultIn t lines k (why_of why)) (ap (λ k. k + 2) (sym b.count)) (at wrong.0 b.before next.others line (why_of why) here wrong.1 wrong.2 wrong.3)

-- No line is left.
pub ended_so : (t : Trial) (lines : List (List ℕ)) (rest : List ℕ) (n : ℕ) (r : Replay) (v : Verdict) → AreLeft t lines rest n r → IsOneLine rest
    → ((all : List (List ℕ)) → Stands t all r → n ≡ length all → IsVerdictIn t all v) → IsVerdictIn t lines v
ended_so t lines rest n r v b single told =
    let none : b.after ≡ [] = ends rest b.after b.of single in
    let all : lines ≡ b.before = b.whole ∙ ap (λ ls. b.before ++ ls) none ∙ append-nil b.before in
    subst (λ ls. IsVerdictIn t ls v) (sym all) (told b.before b.stands b.count)

-- ---- whether all updates are admitted

module _ (g : Ground) (H : List PlainEntry) (r : Replay) (stands : Replays g H r) (b : Bool) (tells : IsWholeReplay r b) where
  same : b ≡ (length (updates_after g H) == length g.requests)
  same = tells g H stands.replay

  pub all_are : b ≡ true → length g.requests ≤ length H
  all_are is =
      let all : length (updates_after g H) ≡ length g.requests = (Decides-eqb (length (updates_after g H)) (length g.requests)).0 (sym same ∙ is) in
      omega (arith, all, stands.admitted)

  pub some_are_not : b ≡ false → length H < length g.requests
  some_are_not is = elim (cases_lt (length H) (length g.requests)) [
    | inl less ↦ less
    | inr more ↦
        let all : length (updates_after g H) ≡ length g.requests = omega (arith, stands.admitted, more) in
        absurd (false≢true (sym is ∙ same ∙ (Decides-eqb (length (updates_after g H)) (length g.requests)).1 all))
  ]

-- ---- the whole text

pub verdict_on : (t : Trial) (text : List ℕ) (lines : List (List ℕ)) (v : Verdict) → HasLines text lines → IsVerdictIn t lines v → IsVerdict t text v
verdict_on t text lines (Yes n quiet) has yes_ = (
  yes_.0,
  record { same = trace_of t.relations text lines yes_.0 has yes_.2; history = yes_.1; lines = lines; form = has; told = yes_.2; all_admitted = yes_.3 },
  yes_.4,
  yes_.5,
)
verdict_on t text lines (No line why) has fault = counted lines line why has fault

pub counted_lines : (text rest : List ℕ) (lines : List (List ℕ)) → IsCounted text rest lines → HasLines text lines
counted_lines text rest lines is = record { head = is.head ∙ ap (Rattle.audit_claims.specs.Forms.counted (length lines)) is.of.same; of = record { same = refl; single = is.of.single } }

-- Nothing has happened yet.
pub stands_first : (t : Trial) (r : Replay) → IsReplayOf t.over [] r → Stands t [] r
stands_first t r begun = record {
  H = [];
  replays = record {
    history = record { legal = begun.left.legal; first = λ k e there. absurd (none-some e there) };
    admitted = let none : length (updates_after t.over []) ≡ 0 = refl in omega (arith, none);
    replay = begun;
  };
  told = tt;
}
