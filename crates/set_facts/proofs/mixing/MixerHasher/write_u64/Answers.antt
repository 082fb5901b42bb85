use Rattle.std.proofs.Common.{◌≡◌, ◌∙◌, ap, sym, ℕ, ◌<◌, ◌^◌}
use Rattle.std.specs.Hash.{le_bytes}
use Rattle.std.proofs.lemmas.Nat.{from_le_bytes-to_le_bytes_8}
use Rattle.set_facts.specs.Mixing.{mixed, written}
use Rattle.set_facts.proofs.mixing.MixerHasher.write_u64.Goals as goal

-- The bytes of a number stand for it.
number_written : (n : ℕ) → n < 2 ^ 64 → written (le_bytes 8 n) ≡ n
unfolding le_bytes
number_written n below = from_le_bytes-to_le_bytes_8 n below

pub returns : goal.returns
returns c = c.mix.ensures.mixed ∙ ap (mixed c.args.self.now) (sym (number_written c.args.i c.ranges.i.fits))
