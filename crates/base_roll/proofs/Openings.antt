-- Reading, call by call.
use Rattle.std.proofs.Common.{◌≡◌, ℕ, ◌∙◌, sym, List, arith}
use Rattle.base_devices.specs.States.{State, IsLeft, IsSettled}
use Rattle.base_roll.specs.Histories.{IsReading}
use Rattle.base_roll.proofs.Leaving.{goes_on, leaves_on, weaker}

pub reads_on : (a b c : State) → IsReading a b → IsReading b c → IsReading a c
reads_on a b c f g =
    let left : (bytes : List ℕ) → IsLeft b bytes → IsLeft a bytes = λ bytes l. f.images b.now bytes f.goes.later (omega arith) l in
    record {
      goes = goes_on a b c f.goes g.goes;
      images = leaves_on (IsLeft a) a b c f.images g.goes (weaker (IsLeft b) (IsLeft a) b c left g.images);
      same = g.same ∙ f.same;
      read = g.read;
    }

-- a settled disk stays settled if nothing is written
pub stays_settled : (a b : State) → IsSettled a → IsReading a b → IsSettled b
stays_settled a b settled f bytes i =
    let left : IsLeft a bytes = f.images b.now bytes f.goes.later (omega arith) i in
    let was : bytes ≡ a.bytes = settled bytes left in
    let same : b.bytes ≡ a.bytes = f.same in
    was ∙ sym same
