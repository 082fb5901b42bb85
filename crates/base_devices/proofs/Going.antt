-- A line that is begun goes on, or is lost.
use Rattle.std.proofs.Common.{◌≡◌, ℕ, ◌+◌, ◌≤◌, true, false, List, [], ◌∷◌, ◌++◌, length, sym, ap, ◌∙◌, subst, arith, append-nil}
use Rattle.std.specs.Prelude.{◌==◌, Option}
use Rattle.std.proofs.lemmas.List.{append_assoc, length-append}
use Rattle.std.proofs.lemmas.List.Elements.{All-append}
use Rattle.std.specs.Io.KnownBytes.{Consumes}
use Rattle.std.proofs.KnownBytes.{Consumes-trans}
use Rattle.base_devices.specs.declared.lines.LineRefusal.{LineRefusal}
use Rattle.base_devices.specs.declared.lines.LineRefusal.TheVariants as refusals
use Rattle.base_devices.specs.Given.{Kept, HasNoLineFeed, HasCut, HasFilled, IsBegun, HasNoLine, HasTooMany, IsLost}

-- it is no line feed
abbrev is_other : ℕ → Type 0
is_other b = (b == 10) ≡ false

-- what was kept before and all that was taken are the line so far and what was taken last
longer : (before mid after took more line line' : List ℕ) → before ++ took ≡ line ++ mid → line' ≡ line ++ mid → before ++ (took ++ more) ≡ line' ++ more
longer before mid after took more line line' same cut = sym (append_assoc before took more) ∙ ap (λ l. l ++ more) (same ∙ sym cut)

-- the line so far has no line feed
clean : (line piece line' : List ℕ) → line' ≡ line ++ piece → HasNoLineFeed line → HasNoLineFeed piece → HasNoLineFeed line'
clean line piece line' cut one two = subst HasNoLineFeed (sym cut) (All-append is_other line piece one two)

module _ (left mid right : Option (List ℕ)) (before kept cut : Kept) (line line' : List ℕ) where
  pub goes_on : (after : Kept) → IsBegun left mid before kept line → HasCut kept cut line line' false → cut.room ≡ kept.room → HasFilled mid right cut after true → IsBegun left right before after line'
  goes_on after b c room f = record {
    took = b.took ++ after.bytes;
    taken = Consumes-trans left mid right b.took after.bytes b.taken f.0;
    same = longer before.bytes kept.bytes after.bytes b.took after.bytes line line' b.same c.2;
    room = omega (arith, length-append b.took after.bytes, f.1, room, b.room);
    whole = clean line kept.bytes line' c.2 b.whole c.0;
  }

  -- what is left of the cut is nothing, so what was taken last has no line feed
  ends : (took more : List ℕ) → before.bytes ++ took ≡ line ++ kept.bytes → line' ≡ line ++ kept.bytes → HasNoLineFeed line' → cut.bytes ≡ [] → HasNoLineFeed (cut.bytes ++ more) → HasNoLineFeed (before.bytes ++ (took ++ more))
  ends took more same grown one none two =
      subst HasNoLineFeed (sym (longer before.bytes kept.bytes [] took more line line' same grown))
      (All-append is_other line' more one (subst (λ (l : List ℕ). HasNoLineFeed (l ++ more)) none two))

  pub fails : (e : LineRefusal) → IsBegun left mid before kept line → HasCut kept cut line line' false → cut.room ≡ kept.room → IsLost mid right cut e → IsLost left right before e
  fails refusals.ReadFault b c room lost = record {
    took = b.took ++ lost.took;
    taken = Consumes-trans left mid right b.took lost.took b.taken lost.taken;
    room = omega (arith, length-append b.took lost.took, lost.room, room, b.room);
    unended = ends b.took lost.took b.same c.2 (clean line kept.bytes line' c.2 b.whole c.0) c.1 lost.unended;
  }
  fails refusals.TooLong b c room lost = record {
    took = b.took ++ lost.took;
    extra = lost.extra;
    taken = subst (Consumes left right) (sym (append_assoc b.took lost.took (lost.extra ∷ []))) (Consumes-trans left mid right b.took (lost.took ++ lost.extra ∷ []) b.taken lost.taken);
    room = omega (arith, length-append b.took lost.took, lost.room, room, b.room);
    unended = ends b.took lost.took b.same c.2 (clean line kept.bytes line' c.2 b.whole c.0) c.1 lost.unended;
  }
  fails refusals.Memory b c room lost =
      (b.took ++ lost.0, Consumes-trans left mid right b.took lost.0 b.taken lost.1, omega (arith, length-append b.took lost.0, lost.2, room, b.room))
