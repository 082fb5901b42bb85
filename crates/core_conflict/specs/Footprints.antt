-- Footprints: a summary of an attempt's writes and reads, which shows that a write meets none of its reads.
use Rattle.std.specs.Prelude.{◌≡◌, Bool, true, ◌||◌, List, ◌++◌}
use Rattle.std.specs.List.{list_any, list_all}
use Rattle.def_chase.specs.Queries.{Query, Present, Violation, Specific, Occurs}
use Rattle.def_chase.specs.Repository.{Change}
use Rattle.chase_query.specs.Meanings.{Read}
use Rattle.core_conflict.specs.Concerns.{is_nothing, may_enact, tuple_of}
use Rattle.core_conflict.specs.Signatures.{IsWithin, has_spot, has_tuple, spot_asked}
use Rattle.core_conflict.specs.declared.footprints.Footprint.{Footprint}
use Rattle.core_conflict.specs.declared.signatures.Signature.{Signature}

-- The set has the spots of the tuple that is written.
abbrev pub has_write_in : Signature → Change → Bool
has_write_in s w = has_tuple s (tuple_of w)

-- The footprint has the write.
abbrev pub has_write : Footprint → Change → Bool
has_write f w = has_write_in f.own w

-- The footprint has the query, which found nothing if `nothing` is true. If the query asks for a tuple, the footprint has a spot
-- of it. If it asks for a violation, none was found, or the footprint says that one was. If it asks for a null, any write may
-- meet a read.
abbrev pub has_query : Footprint → Query → Bool → Bool
has_query f (Present t) nothing = has_spot f.asked (spot_asked t.relation 0 t.values)
has_query f (Violation n) nothing = nothing || f.found
has_query f (Specific t) nothing = has_spot f.asked (spot_asked t.relation 0 t.values)
has_query f (Occurs u k) nothing = f.exposed

-- The footprint has the logged read.
abbrev pub has_read : Footprint → Read → Bool
has_read f r = has_query f r.query (is_nothing r.reply)

-- The footprint covers an attempt with these own writes and these reads: it has each of them, and if they put mappings in
-- force, any write may meet a read.
pub record Covers (f : Footprint) (own : List Change) (rs : List Read) : Type 0 where
  pub enacts : list_any may_enact own ≡ true → f.exposed ≡ true
  pub writes : list_all (has_write f) own ≡ true
  pub reads : list_all (has_read f) rs ≡ true

-- The second footprint has all that the first has of reads.
pub record ReadsMore (f e : Footprint) : Type 0 where
  pub asked : IsWithin f.asked e.asked
  pub found : f.found ≡ true → e.found ≡ true
  pub exposed : f.exposed ≡ true → e.exposed ≡ true

-- If the first footprint covers an attempt, the second covers it after these further own writes and reads.
abbrev pub CoversMore : Footprint → List Change → List Read → Footprint → Type 0
CoversMore f ws rs e = (vs : List Change) (qs : List Read) → Covers f vs qs → Covers e (vs ++ ws) (qs ++ rs)
