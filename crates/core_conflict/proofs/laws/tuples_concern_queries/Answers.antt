use Rattle.std.proofs.Common.{refl}
use Rattle.core_conflict.proofs.laws.tuples_concern_queries.Goals as goal

pub returns : goal.returns
returns c = record {
  joined = refl;
  apart = refl;
  met = refl;
  other = refl;
  beside = refl;
  itself = refl;
  deleted = refl;
  elsewhere = refl;
  enacted = refl;
  backward = refl;
  beside_it = refl;
  on_right = refl;
  inserted = refl;
  unread = refl;
  missing = refl;
  asked = refl;
  unasked = refl;
  left_comes = refl;
  left_goes = refl;
  right_comes = refl;
  right_goes = refl;
  left_undone = refl;
  right_undone = refl;
  given_back = refl;
  joins_none = refl;
  found_comes = refl;
  found_goes = refl;
  back_comes = refl;
  back_goes = refl;
  back_right = refl;
  all_enacted = refl;
  trails = refl;
  unmet = refl;
}
