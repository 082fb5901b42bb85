-- What an image that was found leads to.
use Rattle.std.proofs.Common.{◌≡◌, ◌∙◌, ℕ, suc, ap, sym, List, map, drop, Option, Some, None}
use Rattle.std.specs.Prelude.{slice_get}
use Rattle.def_chase.specs.Values.{Fact}
use Rattle.def_chase.specs.Mappings.{Rule}
use Rattle.def_chase.specs.Violations.{Direction}
use Rattle.def_chase.specs.Updates.{Operation, direction_of}
use Rattle.base_types.specs.Listed.{Listed}
use Rattle.base_types.specs.declared.tuples.Tuple.{Tuple}
use Rattle.base_types.specs.Meanings.{fact_of}
use Rattle.chase_query.specs.declared.replies.Reply.{Reply}
use Rattle.chase_query.specs.declared.replies.Reply.TheVariants.{Image}
use Rattle.chase_query.specs.Meanings.{reply_of}
use Rattle.def_steps.specs.Attempts.{Attempt}
use Rattle.def_steps.specs.Steps.{Asking, image_in, repair, look_from}
use Rattle.chase_update.specs.Rows.{repaired, look_on}

-- The image of a mapping that there is is repaired.
pub repairs : (P : Attempt) (ms : List Rule) (n : ℕ) (m : Rule) (op : Operation) (d : Direction) (a : Reply) (ts : Listed Tuple) (rest : Asking)
    → slice_get ms n ≡ Some m → d ≡ direction_of op → P.operation ≡ op → a ≡ Image ts
    → repair P d n m (map fact_of ts.items) ≡ repaired P n (slice_get ms n) (image_in (reply_of a)) rest
repairs P ms n m op d a ts rest g e h f =
    (λ i. repair P ((e ∙ ap direction_of (sym h)) i) n m (map fact_of ts.items)) ∙ sym (λ i. repaired P n (g i) (image_in (reply_of (f i))) rest)

-- Where there is no such mapping the look goes on.
pub looks_on : (P : Attempt) (ms : List Rule) (n j : ℕ) (image : Option (List Fact)) → j ≡ suc n → slice_get ms n ≡ None
    → look_from P j (drop j ms) ≡ repaired P n (slice_get ms n) image (look_on ms P n)
looks_on P ms n j image e g = (λ i. look_from P (e i) (drop (e i) ms)) ∙ sym (ap (λ o. repaired P n o image (look_on ms P n)) g)
