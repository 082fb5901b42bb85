use Rattle.std.proofs.Common.{◌≡◌, ◌<◌, drop}
use Rattle.core_conflict.specs.Signatures.{digest_from}
use Rattle.core_conflict.proofs.signatures.digest_word.Given as goal

-- The number is small, and what is left makes the whole of it.
abbrev pub invariant-loop-byte : goal.invariant-loop-byte
invariant-loop-byte l = record {
  small : l.sum < 65521;
  left : digest_from 0 l.bytes ≡ digest_from l.sum (drop l.byte-index l.bytes);
}
