-- A conversation, line by line.
use Rattle.std.proofs.Common.{◌≡◌, ℕ, ◌+◌, ◌≤◌, ◌<◌, Bool, true, false, List, [], ◌∷◌, ◌++◌, length, refl, sym, ap, subst, ◌∙◌, arith, append-nil}
use Rattle.std.specs.Prelude.{Option, Some, None, Result, Ok, Err, not, if◌then◌else◌}
use Rattle.std.specs.Io.KnownBytes.{Appends, Consumes, IsAtEnd}
use Rattle.std.specs.declared.alloc.Global.{Global}
use Rattle.std.specs.declared.vec.Vec.{Vec}
use Rattle.std.proofs.KnownBytes.{Appends-nil, Appends-trans, Consumes-nil, Consumes-trans, Keeps-refl}
use Rattle.std.proofs.lemmas.List.{append_assoc, length-append}
use Rattle.cmd_frame.specs.Devices.{Change, Fails}
use Rattle.def_language.specs.Lines.{lines_of}
use Rattle.base_devices.specs.Given.{Kept, HasGiven, IsLine, IsLost}
use Rattle.base_devices.specs.declared.lines.LineRefusal.{LineRefusal}
use Rattle.base_devices.specs.declared.lines.LineRefusal.TheVariants as lines
use Rattle.base_devices.specs.declared.lines.NextLine.{NextLine}
use Rattle.base_devices.specs.declared.lines.NextLine.TheVariants.{Whole, Last}
use Rattle.live_replies.specs.Turns.{Live, Turn, line_turn}
use Rattle.base_devices.specs.Faults.{Rose}
use Rattle.base_devices.specs.Writing.{TakesPrefix}
use Rattle.yt_live.specs.Ends.{Due, Ends, FailsReply, HasEnded, HasReplied, StopsBy, left_of, of_line_refusal, of_lines}
use Rattle.yt_live.specs.Streams.{Served, GoesOn, parting, served, whole_lines, with_front}
use Rattle.yt_live.specs.declared.ends.LiveEnd.{LiveEnd}
use Rattle.yt_live.specs.declared.ends.LiveEnd.TheVariants as ends
use Rattle.yt_live.proofs.Continuing.{Continues, continues_on, ends_since, lines_continue, since}
use Rattle.yt_live.proofs.Cutting.{cuts_all, lone_line, next_line, no_whole}
use Rattle.yt_live.proofs.Prefixes.{keeps_all, takes_less, takes_none}

-- what is due to lines of commands after what is kept
abbrev pub to_lines : Live → Kept → Due
to_lines L kept = of_lines (served L) kept.bytes

-- ---- one turn

-- a line is served, and then the others
line_served : (L : Live) (line : List ℕ) (lines : List (List ℕ)) (b : Bool) → (line_turn L line).last ≡ b
    → served L (line ∷ lines) ≡ (if b then parting (line_turn L line) else with_front (line_turn L line).reply (served (line_turn L line).next lines))
line_served L line lines b e = ap (λ (l : Bool). if l then parting (line_turn L line) else with_front (line_turn L line).reply (served (line_turn L line).next lines)) e

-- its reply comes first
line_replies : (L : Live) (line : List ℕ) (lines : List (List ℕ)) → (more : List ℕ) × ((served L (line ∷ lines)).replies ≡ (line_turn L line).reply ++ more)
line_replies L line lines = by (line_turn L line).last refl where
  by : (b : Bool) → (line_turn L line).last ≡ b → (more : List ℕ) × ((served L (line ∷ lines)).replies ≡ (line_turn L line).reply ++ more)
  by true e = ([], ap (λ (s : Served). s.replies) (line_served L line lines true e) ∙ sym (append-nil (line_turn L line).reply))
  by false e = ((served (line_turn L line).next lines).replies, ap (λ (s : Served). s.replies) (line_served L line lines false e))

-- the line that was given
abbrev pub line_in : NextLine → List ℕ
line_in (Whole line) = line.items
line_in (Last line) = line.items

-- nothing is left at the end
pub none_left : (left : Option (List ℕ)) → IsAtEnd left → left_of left ≡ []
none_left None end = refl
none_left (Some bytes) end = end

-- what is left after what was taken, of which a prefix of the reply to the next line is written
pub cut_short : (due : Due) (room : ℕ) (e : LiveEnd) (source out : Change) (took reply rest : List ℕ) → Consumes source.bytes source.bytes_after took → length took ≤ room
    → (due.at_end (took ++ left_of source.bytes_after)).replies ≡ reply ++ rest → FailsReply reply out e → Ends due room e source out
cut_short due room ends.WriteFault source out took reply rest taken few same f =
    ((took, taken, few, subst (TakesPrefix out.bytes out.bytes_after) (sym same) (takes_less out.bytes out.bytes_after reply rest f.0)), f.1)
cut_short due room ends.Memory source out took reply rest taken few same f =
    (took, taken, few, takes_none out.bytes out.bytes_after (due.at_end (took ++ left_of source.bytes_after)).replies f)
cut_short due room ends.Ended source out took reply rest taken few same f = absurd f
cut_short due room ends.ReadFault source out took reply rest taken few same f = absurd f
cut_short due room ends.TooLong source out took reply rest taken few same f = absurd f
cut_short due room (ends.SessionRefused fault) source out took reply rest taken few same f = absurd f
cut_short due room (ends.BaseViolates mapping image session) source out took reply rest taken few same f = absurd f

module _ (L : Live) (left right : Option (List ℕ)) (kept after : Kept) where
  -- the line is the first, whatever is left
  first_line : (found : NextLine) (g : HasGiven left right kept after found) → IsLine found → (ls : List (List ℕ)) × (lines_of (kept.bytes ++ (g.took ++ left_of right)) ≡ line_in found ∷ ls)
  first_line (Whole line) g one = (lines_of (after.bytes ++ left_of right), next_line lines_of cuts_all kept.bytes g.took line.items after.bytes (left_of right) one g.same)
  first_line (Last line) g one =
      let all : kept.bytes ++ (g.took ++ left_of right) ≡ line.items =
      ap (λ l. kept.bytes ++ (g.took ++ l)) (none_left right g.due.0) ∙ (ap (λ l. kept.bytes ++ l) (append-nil g.took) ∙ (g.same ∙ (ap (λ l. line.items ++ l) g.due.1 ∙ append-nil line.items))) in
      ([], ap lines_of all ∙ lone_line line.items one)

  -- its reply was not written whole
  pub torn : (found : NextLine) (g : HasGiven left right kept after found) → IsLine found → (e : LiveEnd) (reads reads' : ℕ) (out : Change) → FailsReply (line_turn L (line_in found)).reply out e
      → Ends (to_lines L kept) kept.room e (record { bytes = left; bytes_after = right; faults = reads; faults_after = reads' }) out
  torn found g one e reads reads' out f =
      let first = first_line found g one in
      let replies = line_replies L (line_in found) first.0 in
      cut_short (to_lines L kept) kept.room e (record { bytes = left; bytes_after = right; faults = reads; faults_after = reads' }) out g.took (line_turn L (line_in found)).reply replies.0 g.taken (omega (arith, g.room))
      (ap (λ (ls : List (List ℕ)). (served L ls).replies) first.1 ∙ replies.1) f

  module _ (line : List ℕ) (took : List ℕ) (taken : Consumes left right took) (few : length took ≤ kept.room) (reads reads' : ℕ) (out : Change) (wrote : Appends out.bytes out.bytes_after (line_turn L line).reply) where
    -- no further line is served
    quits : (ls : List (List ℕ)) → lines_of (kept.bytes ++ took) ≡ line ∷ ls → (line_turn L line).last ≡ true
        → Ends (to_lines L kept) kept.room ends.Ended (record { bytes = left; bytes_after = right; faults = reads; faults_after = reads' }) out
    quits ls lines last =
        let all : served L (lines_of (kept.bytes ++ took)) ≡ parting (line_turn L line) = ap (served L) lines ∙ line_served L line ls true last in
        (took, taken, few, subst (λ (s : Served). HasEnded s (record { bytes = left; bytes_after = right; faults = reads; faults_after = reads' }) out) (sym all) (wrote, tt))

    -- it was the last one
    rests : lines_of (kept.bytes ++ took) ≡ line ∷ [] → IsAtEnd right → (line_turn L line).last ≡ false
        → Ends (to_lines L kept) kept.room ends.Ended (record { bytes = left; bytes_after = right; faults = reads; faults_after = reads' }) out
    rests lines end last =
        let all : served L (lines_of (kept.bytes ++ took)) ≡ with_front (line_turn L line).reply (served (line_turn L line).next []) = ap (served L) lines ∙ line_served L line [] false last in (
          took,
          taken,
          few,
          subst (λ (s : Served). HasEnded s (record { bytes = left; bytes_after = right; faults = reads; faults_after = reads' }) out) (sym all)
              (subst (Appends out.bytes out.bytes_after) (sym (append-nil (line_turn L line).reply)) wrote, end),
        )

  -- ---- what a line comes to

  -- it is whole, and further lines may follow
  pub goes_on : (line : Vec ℕ Global) (g : HasGiven left right kept after (Whole line)) → IsLine (Whole line) → (out : Change) (next : Live) → HasReplied (line_turn L line.items) out next true
      → Continues (to_lines L kept) (to_lines next after) g.took (line_turn L line.items).reply
  goes_on line g one out next r =
      let t = line_turn L line.items in
      lines_continue (served L) (served next) kept.bytes after.bytes g.took t.reply (λ cut cuts more.
      ap (served L) (next_line cut cuts kept.bytes g.took line.items after.bytes more one g.same)
      ∙ (line_served L line.items (cut (after.bytes ++ more)) false r.2 ∙ ap (λ (l : Live). with_front t.reply (served l (cut (after.bytes ++ more)))) r.1))

  -- it is whole, and it is the last that is served
  pub ends_whole : (line : Vec ℕ Global) (g : HasGiven left right kept after (Whole line)) → IsLine (Whole line) → (reads reads' : ℕ) (out : Change) (next : Live) → HasReplied (line_turn L line.items) out next false
      → Ends (to_lines L kept) kept.room ends.Ended (record { bytes = left; bytes_after = right; faults = reads; faults_after = reads' }) out
  ends_whole line g one reads reads' out next r =
      quits line.items g.took g.taken (omega (arith, g.room)) reads reads' out r.0 (lines_of after.bytes)
      (ap lines_of (g.same ∙ append_assoc line.items (10 ∷ []) after.bytes) ∙ cuts_all line.items after.bytes one) r.2

  -- no line feed ends it
  pub ends_last : (line : Vec ℕ Global) (g : HasGiven left right kept after (Last line)) → IsLine (Last line) → (reads reads' : ℕ) (out : Change) (next : Live) (more : Bool) → HasReplied (line_turn L line.items) out next more
      → Ends (to_lines L kept) kept.room ends.Ended (record { bytes = left; bytes_after = right; faults = reads; faults_after = reads' }) out
  ends_last line g one reads reads' out next more r = by more r.2 where
    few : length g.took ≤ kept.room
    few = omega (arith, g.room)

    alone : lines_of (kept.bytes ++ g.took) ≡ line.items ∷ []
    alone = ap lines_of (g.same ∙ (ap (λ l. line.items ++ l) g.due.1 ∙ append-nil line.items)) ∙ lone_line line.items one

    by : (b : Bool) → (line_turn L line.items).last ≡ not b → Ends (to_lines L kept) kept.room ends.Ended (record { bytes = left; bytes_after = right; faults = reads; faults_after = reads' }) out
    by true last = rests line.items g.took g.taken few reads reads' out r.0 alone g.due.0 last
    by false last = quits line.items g.took g.taken few reads reads' out r.0 [] alone last

-- a device that did nothing
abbrev pub unmoved : Option (List ℕ) → ℕ → Change
unmoved bytes faults = record { bytes = bytes; bytes_after = bytes; faults = faults; faults_after = faults }

-- the refusal of a line
abbrev pub failed : LineRefusal → Result NextLine LineRefusal
failed e = Err e

-- a refusal in another result is this one
pub fault_of : {T : Type 0} (e : LineRefusal) → (let r : Result T LineRefusal = Err e in r ≡ Err lines.ReadFault) → failed e ≡ Err lines.ReadFault
fault_of e same = ap (λ r. failed (error_in r)) same where
  error_in : {T : Type 0} → Result T LineRefusal → LineRefusal
  error_in (Ok x) = lines.Memory
  error_in (Err x) = x

-- there is no further line
pub lost : (L : Live) (source : Change) (taken : Option (List ℕ)) (writes : ℕ) (kept : Kept) (e : LineRefusal) → IsLost source.bytes source.bytes_after kept e → (failed e ≡ Err lines.ReadFault → Fails source)
    → Ends (to_lines L kept) kept.room (of_line_refusal e) source (unmoved taken writes)
lost L source taken writes kept lines.ReadFault l fails =
    ((l.took, l.taken, l.room, subst (λ (ls : List (List ℕ)). StopsBy GoesOn (served L ls) (unmoved taken writes)) (sym (no_whole (kept.bytes ++ l.took) l.unended)) (Appends-nil taken, refl)), fails refl)
lost L source taken writes kept lines.TooLong l fails =
    (l.took, l.extra, l.taken, l.room, subst (λ (ls : List (List ℕ)). StopsBy GoesOn (served L ls) (unmoved taken writes)) (sym (no_whole (kept.bytes ++ l.took) l.unended)) (Appends-nil taken, refl))
lost L source taken writes kept lines.Memory l fails =
    (l.0, l.1, l.2, takes_none taken taken (served L (lines_of (kept.bytes ++ (l.0 ++ left_of source.bytes_after)))).replies (Keeps-refl taken))

-- ---- the conversation

-- The lines so far asked for no end: some bytes were taken and some replies written, and what is due goes on at the session that they left.
pub record IsServing (L0 L : Live) (left left' taken taken' : Option (List ℕ)) (before after : Kept) : Type 0 where
  pub took : List ℕ
  pub told : List ℕ
  pub consumed : Consumes left left' took
  pub wrote : Appends taken taken' told
  pub room : after.room + length took ≡ before.room
  pub continues : Continues (to_lines L0 before) (to_lines L after) took told

pub before_lines : (L : Live) (left taken : Option (List ℕ)) (kept : Kept) → IsServing L L left left taken taken kept kept
before_lines L left taken kept = record {
  took = [];
  told = [];
  consumed = Consumes-nil left;
  wrote = Appends-nil taken;
  room = omega arith;
  continues = record { at_end = λ more. refl; so_far = λ more. refl };
}

-- a line was served, and further ones may follow
pub serves_on : (L0 L next : Live) (left mid right taken : Option (List ℕ)) (before kept after : Kept) (line : Vec ℕ Global) (g : HasGiven mid right kept after (Whole line)) (out : Change) → IsLine (Whole line)
    → IsServing L0 L left mid taken out.bytes before kept → HasReplied (line_turn L line.items) out next true → IsServing L0 next left right taken out.bytes_after before after
serves_on L0 L next left mid right taken before kept after line g out one v r = record {
  took = v.took ++ g.took;
  told = v.told ++ (line_turn L line.items).reply;
  consumed = Consumes-trans left mid right v.took g.took v.consumed g.taken;
  wrote = Appends-trans taken out.bytes out.bytes_after v.told (line_turn L line.items).reply v.wrote r.0;
  room = omega (arith, length-append v.took g.took, v.room, g.room);
  continues = continues_on (to_lines L0 before) (to_lines L kept) (to_lines next after) v.took g.took v.told (line_turn L line.items).reply v.continues (goes_on L mid right kept after line g one out next r);
}

-- a line that was given leaves less
pub less_left : (left right : Option (List ℕ)) (kept after : Kept) (found : NextLine) (line : Vec ℕ Global) → HasGiven left right kept after found → found ≡ Whole line → after.room + length after.bytes < kept.room + length kept.bytes
less_left left right kept after found line given is =
    let g = subst (HasGiven left right kept after) is given in
    let long = ap (λ (l : List ℕ). length l) g.same in
    omega (arith, long, length-append kept.bytes g.took, length-append (line.items ++ 10 ∷ []) after.bytes, length-append line.items (10 ∷ []), g.room)

-- how it ends from now on is how it ends
pub serves_to : (L0 L : Live) (source out : Change) (mid tmid : Option (List ℕ)) (reads writes : ℕ) (before kept : Kept) (e : LiveEnd) → IsServing L0 L source.bytes mid out.bytes tmid before kept → source.faults ≤ reads → out.faults ≤ writes
    → Ends (to_lines L kept) kept.room e (since mid reads source) (since tmid writes out) → Ends (to_lines L0 before) before.room e source out
serves_to L0 L source out mid tmid reads writes before kept e v later later' x =
    ends_since (to_lines L0 before) (to_lines L kept) v.took v.told before.room kept.room source out mid tmid reads writes v.continues v.consumed v.wrote v.room later later' e x

-- ---- what the code's calls come to

module _ (L0 L : Live) (source out : Change) (mid tmid : Option (List ℕ)) (reads writes : ℕ) (before kept : Kept) (v : IsServing L0 L source.bytes mid out.bytes tmid before kept) (later : source.faults ≤ reads) (later' : out.faults ≤ writes) where
  -- no line was given
  pub lost_now : (e : LineRefusal) → out.bytes_after ≡ tmid → out.faults_after ≡ writes → IsLost mid source.bytes_after kept e → (failed e ≡ Err lines.ReadFault → Rose reads source.faults_after)
      → Ends (to_lines L0 before) before.room (of_line_refusal e) source out
  lost_now e same same' l fails =
      serves_to L0 L source out mid tmid reads writes before kept (of_line_refusal e) v later later'
      (subst (λ (o : Option (List ℕ)). Ends (to_lines L kept) kept.room (of_line_refusal e) (since mid reads source) (record { bytes = tmid; bytes_after = o; faults = writes; faults_after = out.faults_after })) (sym same)
      (subst (λ (n : ℕ). Ends (to_lines L kept) kept.room (of_line_refusal e) (since mid reads source) (record { bytes = tmid; bytes_after = tmid; faults = writes; faults_after = n })) (sym same')
      (lost L (since mid reads source) tmid writes kept e l fails)))

  module _ (after : Kept) (found : NextLine) (given : HasGiven mid source.bytes_after kept after found) (one : IsLine found) (line : List ℕ) where
    -- the reply was not written whole
    pub torn_now : line ≡ line_in found → (e : LiveEnd) → FailsReply (line_turn L line).reply (since tmid writes out) e → Ends (to_lines L0 before) before.room e source out
    torn_now is e f =
        serves_to L0 L source out mid tmid reads writes before kept e v later later'
        (torn L mid source.bytes_after kept after found given one e reads source.faults_after (since tmid writes out) (subst (λ (l : List ℕ). FailsReply (line_turn L l).reply (since tmid writes out) e) is f))

    module _ (items : Vec ℕ Global) (same : line ≡ items.items) (next : Live) (more : Bool) (r : HasReplied (line_turn L line) (since tmid writes out) next more) where
      replied : (b : Bool) → more ≡ b → HasReplied (line_turn L items.items) (since tmid writes out) next b
      replied b is = subst (λ (l : List ℕ). HasReplied (line_turn L l) (since tmid writes out) next b) same (subst (λ (m : Bool). HasReplied (line_turn L line) (since tmid writes out) next m) is r)

      -- one asked to end
      pub quits_now : found ≡ Whole items → more ≡ false → Ends (to_lines L0 before) before.room ends.Ended source out
      quits_now is over =
          serves_to L0 L source out mid tmid reads writes before kept ends.Ended v later later'
          (ends_whole L mid source.bytes_after kept after items (subst (HasGiven mid source.bytes_after kept after) is given) (subst IsLine is one) reads source.faults_after (since tmid writes out) next (replied false over))

      -- it was the last line
      pub rests_now : found ≡ Last items → Ends (to_lines L0 before) before.room ends.Ended source out
      rests_now is =
          serves_to L0 L source out mid tmid reads writes before kept ends.Ended v later later'
          (ends_last L mid source.bytes_after kept after items (subst (HasGiven mid source.bytes_after kept after) is given) (subst IsLine is one) reads source.faults_after (since tmid writes out) next more (replied more refl))

      -- further lines may follow
      pub goes_now : found ≡ Whole items → more ≡ true → IsServing L0 next source.bytes source.bytes_after out.bytes out.bytes_after before after
      goes_now is on =
          serves_on L0 L next source.bytes mid source.bytes_after out.bytes before kept after items (subst (HasGiven mid source.bytes_after kept after) is given) (since tmid writes out) (subst IsLine is one) v (replied true on)
