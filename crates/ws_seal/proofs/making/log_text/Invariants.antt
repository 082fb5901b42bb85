use Rattle.std.proofs.Common.{◌≡◌, ◌++◌, [], length, map}
use Rattle.base_roll.specs.Format.{AreShort, records}
use Rattle.ws_seal.specs.Logs.{opening}
use Rattle.ws_seal.specs.Seals.{last_mark, mark, payloads}
use Rattle.ws_seal.proofs.making.log_text.Given as goal

abbrev pub invariant-texts : goal.invariant-texts
invariant-texts l = record {
  made : l.bytes.items ++ records (payloads l.mark.digits (map (λ v. v.items) l.rest)) ≡ opening l.head ++ records (payloads (mark [] l.head) (map (λ v. v.items) l.texts));
  last : last_mark l.mark.digits (map (λ v. v.items) l.rest) ≡ last_mark (mark [] l.head) (map (λ v. v.items) l.texts);
  short : AreShort (payloads l.mark.digits (map (λ v. v.items) l.rest)) → AreShort (payloads (mark [] l.head) (map (λ v. v.items) l.texts));
}

abbrev pub decreases-texts : goal.decreases-texts
decreases-texts l = length l.rest
