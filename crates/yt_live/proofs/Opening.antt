-- The opening of a stream, line by line: what was taken is the text so far and what is kept.
use Rattle.std.proofs.Common.{◌≡◌, ℕ, ◌+◌, ◌≤◌, Bool, true, false, List, [], ◌∷◌, ◌++◌, length, refl, sym, ap, subst, ◌∙◌, arith, append-nil}
use Rattle.std.specs.Prelude.{Option, Some, None, option_map}
use Rattle.std.specs.Io.KnownBytes.{Consumes, IsAtEnd}
use Rattle.std.specs.declared.alloc.Global.{Global}
use Rattle.std.specs.declared.vec.Vec.{Vec}
use Rattle.std.proofs.KnownBytes.{Consumes-nil, Consumes-trans}
use Rattle.std.proofs.lemmas.List.{append_assoc, length-append}
use Rattle.def_language.specs.Lines.{lines_of, read}
use Rattle.base_devices.specs.Given.{Kept, HasGiven, HasNoLineFeed, IsLine, IsLost}
use Rattle.base_devices.specs.declared.lines.LineRefusal.{LineRefusal}
use Rattle.base_devices.specs.declared.lines.LineRefusal.TheVariants as lines
use Rattle.base_devices.specs.declared.lines.NextLine.{NextLine}
use Rattle.base_devices.specs.declared.lines.NextLine.TheVariants.{Whole, Last}
use Rattle.def_machine.specs.Updates.{Settings}
use Rattle.yt_live.specs.Ends.{HasOpened, HasReadAll, OpensNothing}
use Rattle.yt_live.specs.Streams.{CutsLines, Parted, is_end, last_line, live, of_parts, opened_with, parted, whole_lines, with_line}
use Rattle.yt_live.specs.declared.serving.TheConstants.{INPUT_LIMIT}
use Rattle.yt_live.proofs.Cutting.{cuts_all, cuts_whole, lone_line, next_line, no_whole}

-- with this text in front
abbrev pub prefixed : List ℕ → Parted → Parted
prefixed text p = record { text = text ++ p.text; commands = p.commands }

-- No line so far is `end`: what was taken is the text and what is kept, and what follows is parted with the text in front.
pub record IsOpening (left left' : Option (List ℕ)) (before after : Kept) (text : List ℕ) : Type 0 where
  pub took : List ℕ
  pub taken : Consumes left left' took
  pub same : took ≡ text ++ after.bytes
  pub room : after.room + length took ≡ before.room
  pub parts : (cut : List ℕ → List (List ℕ)) → CutsLines cut → (more : List ℕ) → parted (cut (took ++ more)) ≡ option_map (prefixed text) (parted (cut (after.bytes ++ more)))

-- nothing in front
front_nothing : (p : Option Parted) → p ≡ option_map (prefixed []) p
front_nothing None = refl
front_nothing (Some p) = refl

pub before_all : (left : Option (List ℕ)) (before : Kept) → before.bytes ≡ [] → IsOpening left left before before []
before_all left before none = record {
  took = [];
  taken = Consumes-nil left;
  same = sym none;
  room = omega arith;
  parts = λ cut cuts more. ap (λ l. parted (cut (l ++ more))) (sym none) ∙ front_nothing (parted (cut (before.bytes ++ more)));
}

-- a text and a line in front
front_line : (text line : List ℕ) (p : Option Parted) → option_map (prefixed text) (option_map (with_line line) p) ≡ option_map (prefixed (text ++ (line ++ 10 ∷ []))) p
front_line text line None = refl
front_line text line (Some p) = ap (λ (t : List ℕ). Some (record { text = t; commands = p.commands })) (sym (append_assoc text (line ++ 10 ∷ []) p.text ∙ ap (λ l. text ++ l) (append_assoc line (10 ∷ []) p.text)))

module _ (left mid right : Option (List ℕ)) (before kept after : Kept) (text : List ℕ) (o : IsOpening left mid before kept text) where
  -- what was taken, with what is given and kept of it
  joined : (more given : List ℕ) → kept.bytes ++ more ≡ given ++ after.bytes → o.took ++ more ≡ (text ++ given) ++ after.bytes
  joined more given next =
      ap (λ l. l ++ more) o.same ∙ (append_assoc text kept.bytes more ∙ (ap (λ l. text ++ l) next ∙ sym (append_assoc text given after.bytes)))

  module _ (line : Vec ℕ Global) (g : HasGiven mid right kept after (Whole line)) (one : IsLine (Whole line)) where
    taken : Consumes left right (o.took ++ g.took)
    taken = Consumes-trans left mid right o.took g.took o.taken g.taken

    room : after.room + length (o.took ++ g.took) ≡ before.room
    room = omega (arith, length-append o.took g.took, o.room, g.room)

    -- what follows is parted after the line
    further : (cut : List ℕ → List (List ℕ)) → CutsLines cut → (more : List ℕ) → parted (cut ((o.took ++ g.took) ++ more)) ≡ option_map (prefixed text) (parted (line.items ∷ cut (after.bytes ++ more)))
    further cut cuts more =
        ap (λ l. parted (cut l)) (append_assoc o.took g.took more) ∙ (o.parts cut cuts (g.took ++ more)
        ∙ ap (λ (ls : List (List ℕ)). option_map (prefixed text) (parted ls)) (next_line cut cuts kept.bytes g.took line.items after.bytes more one g.same))

    -- it is not `end`
    pub goes_on : is_end line.items ≡ false → IsOpening left right before after (text ++ (line.items ++ 10 ∷ []))
    goes_on other = record {
      took = o.took ++ g.took;
      taken = taken;
      same = joined g.took (line.items ++ 10 ∷ []) g.same;
      room = room;
      parts = λ cut cuts more.
          let next : parted (line.items ∷ cut (after.bytes ++ more)) ≡ option_map (with_line line.items) (parted (cut (after.bytes ++ more))) = rw other refl in
          further cut cuts more ∙ (ap (λ (p : Option Parted). option_map (prefixed text) p) next ∙ front_line text line.items (parted (cut (after.bytes ++ more))));
    }

    -- it is `end`
    pub opens : is_end line.items ≡ true → before.room ≡ INPUT_LIMIT → HasOpened left right before after (text ++ (line.items ++ 10 ∷ []))
    opens end limit = record {
      took = o.took ++ g.took;
      taken = taken;
      room = room;
      parts = λ cut cuts more.
          let next : parted (line.items ∷ cut (after.bytes ++ more)) ≡ Some (record { text = line.items ++ 10 ∷ []; commands = cut (after.bytes ++ more) }) = rw end refl in
          further cut cuts more ∙ ap (λ (p : Option Parted). option_map (prefixed text) p) next;
      short = omega (arith, ap (λ l. length l) (joined g.took (line.items ++ 10 ∷ []) g.same), length-append (text ++ (line.items ++ 10 ∷ [])) after.bytes, room, limit);
    }

  -- the last line was given, which no line feed ends
  pub ends : (line : Vec ℕ Global) (g : HasGiven mid right kept after (Last line)) → IsLine (Last line) → before.room ≡ INPUT_LIMIT → HasReadAll left right (text ++ last_line line.items)
  ends line g one limit = record {
    took = o.took ++ g.took;
    taken = Consumes-trans left mid right o.took g.took o.taken g.taken;
    few = few;
    end = g.due.0;
    serves = λ budget c. ap (of_parts budget c (o.took ++ g.took)) parts ∙ read_so budget c (is_end line.items) refl;
    short = short_text (is_end line.items) refl;
  }
    where
      alone : kept.bytes ++ g.took ≡ line.items
      alone = g.same ∙ (ap (λ l. line.items ++ l) g.due.1 ∙ append-nil line.items)

      all : o.took ++ g.took ≡ text ++ line.items
      all = joined g.took line.items g.same ∙ (ap (λ l. (text ++ line.items) ++ l) g.due.1 ∙ append-nil (text ++ line.items))

      few : length (o.took ++ g.took) ≤ INPUT_LIMIT
      few = omega (arith, length-append o.took g.took, o.room, g.room, limit)

      parts : parted (lines_of (o.took ++ g.took)) ≡ option_map (prefixed text) (parted (line.items ∷ []))
      parts = o.parts lines_of cuts_all g.took ∙ ap (λ (ls : List (List ℕ)). option_map (prefixed text) (parted ls)) (ap lines_of alone ∙ lone_line line.items one)

      read_so : (budget : ℕ) (c : Settings) (b : Bool) → is_end line.items ≡ b
          → of_parts budget c (o.took ++ g.took) (option_map (prefixed text) (parted (line.items ∷ []))) ≡ opened_with budget c (read (text ++ last_line line.items)) []
      read_so budget c true e = rw e refl
      read_so budget c false e = rw e (ap (λ (l : List ℕ). opened_with budget c (read l) []) all)

      short_text : (b : Bool) → is_end line.items ≡ b → length (text ++ last_line line.items) ≤ INPUT_LIMIT + 1
      short_text true e = rw e (omega (arith, length-append text (line.items ++ 10 ∷ []), length-append line.items (10 ∷ []), ap (λ l. length l) all, length-append text line.items, few))
      short_text false e = rw e (omega (arith, ap (λ l. length l) all, few))

  -- the whole lines so far have no `end`
  no_end : (lost : List ℕ) → HasNoLineFeed (kept.bytes ++ lost) → parted (whole_lines (o.took ++ lost)) ≡ None
  no_end lost one = o.parts whole_lines cuts_whole lost ∙ ap (λ (ls : List (List ℕ)). option_map (prefixed text) (parted ls)) (no_whole (kept.bytes ++ lost) one)

-- no further line is given
pub fails : (left mid right : Option (List ℕ)) (before kept : Kept) (text : List ℕ) (e : LineRefusal) → IsOpening left mid before kept text → IsLost mid right kept e → OpensNothing e left right before
fails left mid right before kept text lines.ReadFault o lost = (
  o.took ++ lost.took,
  Consumes-trans left mid right o.took lost.took o.taken lost.taken,
  omega (arith, length-append o.took lost.took, o.room, lost.room),
  no_end left mid right before kept kept text o lost.took lost.unended,
)
fails left mid right before kept text lines.TooLong o lost = (
  o.took ++ lost.took,
  lost.extra,
  subst (Consumes left right) (sym (append_assoc o.took lost.took (lost.extra ∷ []))) (Consumes-trans left mid right o.took (lost.took ++ lost.extra ∷ []) o.taken lost.taken),
  omega (arith, length-append o.took lost.took, o.room, lost.room),
  no_end left mid right before kept kept text o lost.took lost.unended,
)
fails left mid right before kept text lines.Memory o lost =
    (o.took ++ lost.0, Consumes-trans left mid right o.took lost.0 o.taken lost.1, omega (arith, length-append o.took lost.0, o.room, lost.2))

-- ---- what the code's calls come to

module _ (left mid right : Option (List ℕ)) (before kept after : Kept) (text : List ℕ) (o : IsOpening left mid before kept text) (found : NextLine) (given : HasGiven mid right kept after found) where
  -- memory was wanting for a line
  pub wants : (e : LineRefusal) → e ≡ lines.Memory → OpensNothing e left right before
  wants e is =
      subst (λ (x : LineRefusal). OpensNothing x left right before) (sym is)
      (o.took ++ given.took, Consumes-trans left mid right o.took given.took o.taken given.taken, omega (arith, length-append o.took given.took, o.room, given.room))

  module _ (one : IsLine found) (items : Vec ℕ Global) (line text' : List ℕ) (same : line ≡ items.items) where
    module _ (is : found ≡ Whole items) (pushed : text' ≡ text ++ line ++ 10 ∷ []) (b : Bool) (whole : b ≡ is_end line) where
      longer : text' ≡ text ++ (items.items ++ 10 ∷ [])
      longer = pushed ∙ (append_assoc text line (10 ∷ []) ∙ ap (λ (l : List ℕ). text ++ (l ++ 10 ∷ [])) same)

      says : is_end items.items ≡ b
      says = sym (whole ∙ ap is_end same)

      -- a line was pushed that is `end`
      pub opens_now : b ≡ true → before.room ≡ INPUT_LIMIT → HasOpened left right before after text'
      opens_now end limit =
          subst (HasOpened left right before after) (sym longer)
          (opens left mid right before kept after text o items (subst (HasGiven mid right kept after) is given) (subst IsLine is one) (says ∙ end) limit)

      -- or another one
      pub goes_now : b ≡ false → IsOpening left right before after text'
      goes_now other =
          subst (IsOpening left right before after) (sym longer)
          (goes_on left mid right before kept after text o items (subst (HasGiven mid right kept after) is given) (subst IsLine is one) (says ∙ other))

    -- the last line was pushed
    pub ends_now : found ≡ Last items → text' ≡ text ++ last_line line → before.room ≡ INPUT_LIMIT → HasReadAll left right text'
    ends_now is pushed limit =
        subst (HasReadAll left right) (sym (pushed ∙ ap (λ (l : List ℕ). text ++ last_line l) same))
        (ends left mid right before kept after text o items (subst (HasGiven mid right kept after) is given) (subst IsLine is one) limit)
