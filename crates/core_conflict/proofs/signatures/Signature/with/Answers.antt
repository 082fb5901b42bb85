use Rattle.std.proofs.Common.{◌≡◌, ◌<◌, ◌/◌, ◌%◌, arith}
use Rattle.core_conflict.proofs.Bits.{with_more, with_there}
use Rattle.core_conflict.proofs.signatures.Signature.with.Goals as goal

pub returns : goal.returns
returns c =
    let l : c.args.spot / 128 < 128 = omega arith in
    let m : c.args.spot % 128 < 128 = omega arith in
    record { more = with_more c.args.self c.args.spot l m; there = with_there c.args.self c.args.spot l m }
