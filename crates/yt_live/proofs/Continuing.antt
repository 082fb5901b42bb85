-- What is due after some bytes that were taken and some replies, and how it ends.
use Rattle.std.proofs.Common.{◌≡◌, ℕ, ◌+◌, ◌≤◌, List, [], ◌∷◌, ◌++◌, length, refl, sym, ap, subst, ◌∙◌, arith}
use Rattle.std.specs.Prelude.{Option}
use Rattle.std.specs.Io.KnownBytes.{Appends, Consumes}
use Rattle.std.proofs.KnownBytes.{Appends-trans, Consumes-trans}
use Rattle.std.proofs.lemmas.List.{append_assoc, length-append}
use Rattle.cmd_frame.specs.Devices.{Change}
use Rattle.def_language.specs.Lines.{lines_of}
use Rattle.base_devices.specs.Faults.{Rose}
use Rattle.base_devices.specs.Writing.{TakesPrefix}
use Rattle.yt_live.specs.Ends.{Due, Ends, Gave, HasEnded, StopsBy, TookPrefix, left_of, of_lines}
use Rattle.yt_live.specs.Streams.{CutsLines, Ending, Served, whole_lines, with_front}
use Rattle.yt_live.specs.declared.ends.LiveEnd.{LiveEnd}
use Rattle.yt_live.specs.declared.ends.LiveEnd.TheVariants as ends
use Rattle.yt_live.proofs.Cutting.{cuts_all, cuts_whole}
use Rattle.yt_live.proofs.Prefixes.{takes_after}

-- After the bytes that were taken, and after these replies, what is due goes on so.
pub record Continues (a b : Due) (took told : List ℕ) : Type 0 where
  pub at_end : (more : List ℕ) → a.at_end (took ++ more) ≡ with_front told (b.at_end more)
  pub so_far : (more : List ℕ) → a.so_far (took ++ more) ≡ with_front told (b.so_far more)

-- lines of commands go on so where they do however the bytes are cut
pub lines_continue : (S T : List (List ℕ) → Served) (front after took told : List ℕ)
    → ((cut : List ℕ → List (List ℕ)) → CutsLines cut → (more : List ℕ) → S (cut (front ++ (took ++ more))) ≡ with_front told (T (cut (after ++ more))))
    → Continues (of_lines S front) (of_lines T after) took told
lines_continue S T front after took told so = record { at_end = so lines_of cuts_all; so_far = so whole_lines cuts_whole }

-- two fronts are one
front_twice : (one two : List ℕ) (s : Served) → with_front one (with_front two s) ≡ with_front (one ++ two) s
front_twice one two s = ap (λ (r : List ℕ). record { replies = r; ending = s.ending; core = s.core }) (sym (append_assoc one two s.replies))

pub continues_on : (a b c : Due) (took more told said : List ℕ) → Continues a b took told → Continues b c more said → Continues a c (took ++ more) (told ++ said)
continues_on a b c took more told said first next = record {
  at_end = λ rest. joined a.at_end b.at_end c.at_end first.at_end next.at_end rest;
  so_far = λ rest. joined a.so_far b.so_far c.so_far first.so_far next.so_far rest;
}
  where
    joined : (f g h : List ℕ → Served) → ((rest : List ℕ) → f (took ++ rest) ≡ with_front told (g rest)) → ((rest : List ℕ) → g (more ++ rest) ≡ with_front said (h rest))
        → (rest : List ℕ) → f ((took ++ more) ++ rest) ≡ with_front (told ++ said) (h rest)
    joined f g h one two rest = ap f (append_assoc took more rest) ∙ (one (more ++ rest) ∙ (ap (with_front told) (two rest) ∙ front_twice told said (h rest)))

-- a count that rose since later rose since before
pub rose_since : (before later now : ℕ) → before ≤ later → Rose later now → Rose before now
rose_since before later now le rose = omega (arith, le, rose)

-- the change of a device from a moment on
abbrev pub since : Option (List ℕ) → ℕ → Change → Change
since bytes faults c = record { bytes = bytes; bytes_after = c.bytes_after; faults = faults; faults_after = c.faults_after }

-- From a moment on it ended so, up to which these bytes were taken and these replies written: so it ended, from the beginning on.
module _ (a b : Due) (took told : List ℕ) (room room' : ℕ) (source out : Change) (mid tmid : Option (List ℕ)) (reads writes : ℕ) (c : Continues a b took told) (consumed : Consumes source.bytes mid took) (wrote : Appends out.bytes tmid told)
    (few : room' + length took ≡ room) (later : source.faults ≤ reads) (later' : out.faults ≤ writes) where
  gave : (P Q : List ℕ → Type 0) → ((more : List ℕ) → P more → Q (took ++ more)) → Gave room' (since mid reads source) P → Gave room source Q
  gave P Q so g =
      (took ++ g.0, Consumes-trans source.bytes mid source.bytes_after took g.0 consumed g.1, omega (arith, length-append took g.0, few, g.2), so g.0 g.3)

  ended : (more : List ℕ) → HasEnded (b.at_end more) (since mid reads source) (since tmid writes out) → HasEnded (a.at_end (took ++ more)) source out
  ended more h =
      subst (λ (s : Served). HasEnded s source out) (sym (c.at_end more)) (Appends-trans out.bytes tmid out.bytes_after told (b.at_end more).replies wrote h.0, h.1)

  stops : (x : Ending) (s t : Served) → s ≡ with_front told t → StopsBy x t (since tmid writes out) → StopsBy x s out
  stops x s t same h = subst (λ (r : Served). StopsBy x r out) (sym same) (Appends-trans out.bytes tmid out.bytes_after told t.replies wrote h.0, h.1)

  prefix : (more : List ℕ) → TookPrefix b (since mid reads source) (since tmid writes out) more → TookPrefix a source out (took ++ more)
  prefix more h =
      let rest = left_of source.bytes_after in
      let same : a.at_end ((took ++ more) ++ rest) ≡ with_front told (b.at_end (more ++ rest)) = ap a.at_end (append_assoc took more rest) ∙ c.at_end (more ++ rest) in
      subst (λ (s : Served). TakesPrefix out.bytes out.bytes_after s.replies) (sym same) (takes_after out.bytes tmid out.bytes_after told (b.at_end (more ++ rest)).replies wrote h)

  pub ends_since : (e : LiveEnd) → Ends b room' e (since mid reads source) (since tmid writes out) → Ends a room e source out
  ends_since ends.Ended x = gave _ _ ended x
  ends_since ends.ReadFault x =
      (gave _ _ (λ more. stops _ (a.so_far (took ++ more)) (b.so_far more) (c.so_far more)) x.0, rose_since source.faults reads source.faults_after later x.1)
  ends_since ends.WriteFault x = (gave _ _ prefix x.0, rose_since out.faults writes out.faults_after later' x.1)
  ends_since ends.TooLong x = (
    took ++ x.0,
    x.1,
    subst (Consumes source.bytes source.bytes_after) (sym (append_assoc took x.0 (x.1 ∷ []))) (Consumes-trans source.bytes mid source.bytes_after took (x.0 ++ x.1 ∷ []) consumed x.2),
    omega (arith, length-append took x.0, few, x.3),
    stops _ (a.so_far (took ++ x.0)) (b.so_far x.0) (c.so_far x.0) x.4,
  )
  ends_since (ends.SessionRefused fault) x = gave _ _ (λ more. stops _ (a.at_end (took ++ more)) (b.at_end more) (c.at_end more)) x
  ends_since (ends.BaseViolates mapping image session) x = gave _ _ (λ more. stops _ (a.at_end (took ++ more)) (b.at_end more) (c.at_end more)) x
  ends_since ends.Memory x = gave _ _ prefix x
