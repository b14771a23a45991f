-- An input's lines have the numbers that reading counts.
use Rattle.std.proofs.Common.{◌≡◌, ◌≢◌, ◌∙◌, ℕ, zero, suc, ◌+◌, ◌<◌, ◌≤◌, min, Bool, true, false, ltb, List, [], ◌∷◌, ◌++◌, length, take, drop, Option, Some, None, Result, Ok, Err, refl, sym, ap, subst, arith, inl, inr}
use Rattle.std.specs.Prelude.{codes}
use Rattle.std.specs.List.{flat_map, position_or_len, position}
use Rattle.std.specs.Option.{option_map}
use Rattle.std.specs.Str.{bytes_eq}
use Rattle.std.proofs.lemmas.Bool.{cases_Bool, false≢true, ltb-true, ltb-false}
use Rattle.std.proofs.lemmas.List.{append_assoc, append-nil, length-append, take_at, drop_at, take_all, drop_all}
use Rattle.std.proofs.lemmas.List.Concat.{flat_map-append}
use Rattle.std.proofs.lemmas.List.Splits.{length-slice_split, slice_split_first}
use Rattle.std.proofs.lemmas.Slice.Eq.{bytes_eq-Decides}
use Rattle.room_spec.specs.Rooms.{RoomSpec}
use Rattle.room_spec.specs.Texts.{is_line_end, first_line, later_lines, lines_of}
use Rattle.room_spec.specs.Blocks.{body_len, block_len}
use Rattle.room_spec.specs.Grammar.{line_end, text_of, are_before_end}
use Rattle.room_spec.specs.declared.fault.SpecFault.{SpecFault}
use Rattle.room_spec.proofs.CallerLemmas.{end_found, end_at, lines_to_end, with_line_end, before_line, before_cut, text_of-cons, pieces_whole}
use Rattle.transcript.specs.Lines.{line_in}
use Rattle.transcript.specs.declared.event.Event.{Event}
use Rattle.transcript.specs.declared.fault.LineFault.{LineFault}
use Rattle.history_checker.specs.Verdicts.{FedEvent, has_room}
use Rattle.room_files.specs.Lines.{lines_in, text_lines}
use Rattle.room_files.specs.Blocks.{Setup, no_blocks, refuse, open_room, open_block, pass_lines, after_block, fault_text, refused_line}
use Rattle.room_files.specs.Faults.{FaultAt}
use Rattle.room_files.specs.Kinds.{block_of}
use Rattle.room_files.specs.declared.kinds.Kinds.{Kinds}
use Rattle.room_files.specs.declared.fault.TextFault.{TextFault}
use Rattle.room_files.specs.declared.fault.TextFault.TheVariants.{NoEvents}
use Rattle.room_files.specs.Inputs.{next_block, blocks_from, blocks_in, of_known_room, then_fed, fed_from, with_fed, later_events, input_says}
use Rattle.room_files.specs.LineNumbers.{number_after, Refusal, refusal_line, IsBlockText, AreBlocks, NoBlock, Opened, NameTaken, Faulty, AreReported, NoLine, OneMore, IsBadLine, with_events, EndsEarly, IsNumbered}
use Rattle.room_files.proofs.LineLists.{first_and_later}

-- ---- a text's lines

lines_in_front : (front pieces : List (List ℕ)) → 0 < length pieces → lines_in (front ++ pieces) ≡ front ++ lines_in pieces
lines_in_front [] pieces some = refl
lines_in_front (line ∷ []) [] some = absurd (omega arith)
lines_in_front (line ∷ []) (piece ∷ pieces) some = refl
lines_in_front (line ∷ next ∷ front) pieces some = ap (λ (l : List (List ℕ)). line ∷ l) (lines_in_front (next ∷ front) pieces some)

whole_line : (byte : ℕ) (bytes : List ℕ) → length (byte ∷ bytes) ≤ position_or_len is_line_end (byte ∷ bytes) → position is_line_end (byte ∷ bytes) ≡ None → text_lines (byte ∷ bytes) ≡ first_line (byte ∷ bytes) ∷ text_lines (later_lines (byte ∷ bytes))
whole_line byte bytes long none =
    let all : first_line (byte ∷ bytes) ≡ byte ∷ bytes = take_all (position_or_len is_line_end (byte ∷ bytes)) (byte ∷ bytes) long in
    let nothing : later_lines (byte ∷ bytes) ≡ [] = drop_all (position_or_len is_line_end (byte ∷ bytes) + 1) (byte ∷ bytes) (omega (arith, long)) in
    ap lines_in (pieces_whole is_line_end (byte ∷ bytes) none) ∙ rw (all, nothing) refl

first_of_text : (byte : ℕ) (bytes : List ℕ) → text_lines (byte ∷ bytes) ≡ first_line (byte ∷ bytes) ∷ text_lines (later_lines (byte ∷ bytes))
first_of_text byte bytes =
    elim (cases_Bool (ltb (position_or_len is_line_end (byte ∷ bytes)) (length (byte ∷ bytes)))) [
      | inl is ↦ first_and_later (byte ∷ bytes) (first_line (byte ∷ bytes)) (later_lines (byte ∷ bytes)) (slice_split_first is_line_end (byte ∷ bytes) 0 (ltb-true _ _ is))
      | inr never ↦ whole_line byte bytes (ltb-false _ _ never) (rw never refl)
    ]

events_line : (rest : List ℕ) → bytes_eq (first_line rest) (codes "events") ≡ true → text_lines rest ≡ codes "events" ∷ text_lines (later_lines rest)
events_line [] is = absurd cc
events_line (byte ∷ bytes) is = first_of_text byte bytes ∙ ap (λ (l : List ℕ). l ∷ text_lines (later_lines (byte ∷ bytes))) ((bytes_eq-Decides (first_line (byte ∷ bytes)) (codes "events")).0 is)

-- ---- a block in front of a text

record IsFront (rest block later : List ℕ) : Type 0 where
  lines : text_lines rest ≡ text_lines block ++ text_lines later
  ends : block_len block ≡ Some (length block)
  same : first_line block ≡ first_line rest
  shorter : length later < length rest

abbrev top_of : List (List ℕ) → List ℕ
top_of [] = codes "end"
top_of (line ∷ lines) = line

first_to_end : (lines : List (List ℕ)) (later : Option (List ℕ)) → are_before_end lines ≡ true → first_line (text_of lines ++ (codes "end" ++ with_line_end later)) ≡ top_of lines
first_to_end [] None all = refl
first_to_end [] (Some rest) all = before_cut is_line_end (codes "end") 10 rest refl refl
first_to_end (line ∷ lines) later all = ap first_line (text_of-cons line lines (codes "end" ++ with_line_end later)) ∙ before_cut is_line_end line 10 (text_of lines ++ (codes "end" ++ with_line_end later)) (before_line line lines all).0 refl

end_bytes : (lines : List (List ℕ)) (later : Option (List ℕ)) → length (text_of lines ++ (codes "end" ++ with_line_end later)) ≡ length (text_of lines) + (3 + length (with_line_end later))
end_bytes lines later = omega (arith, length-append (text_of lines) (codes "end" ++ with_line_end later), length-append (codes "end") (with_line_end later))

len_at : (lines : List (List ℕ)) (later : Option (List ℕ)) → are_before_end lines ≡ true → block_len (text_of lines ++ (codes "end" ++ with_line_end later)) ≡ Some (min (length (text_of lines) + 4) (length (text_of lines ++ (codes "end" ++ with_line_end later))))
len_at lines later all = rw (end_at lines later all) refl

front_at : (lines : List (List ℕ)) (later : Option (List ℕ)) (len : ℕ) → are_before_end lines ≡ true → len ≡ min (length (text_of lines) + 4) (length (text_of lines ++ (codes "end" ++ with_line_end later)))
    → IsFront (text_of lines ++ (codes "end" ++ with_line_end later)) (take len (text_of lines ++ (codes "end" ++ with_line_end later))) (drop len (text_of lines ++ (codes "end" ++ with_line_end later)))
front_at lines None len all is =
    let long = end_bytes lines None in
    let len_is : len ≡ length (text_of lines ++ (codes "end" ++ [])) = omega (arith, is, long) in
    let whole : take len (text_of lines ++ (codes "end" ++ [])) ≡ text_of lines ++ (codes "end" ++ []) = take_all len _ (omega (arith, len_is)) in
    let nothing : drop len (text_of lines ++ (codes "end" ++ [])) ≡ [] = drop_all len _ (omega (arith, len_is)) in
    rw (whole, nothing) (record {
      lines = sym (append-nil (text_lines (text_of lines ++ (codes "end" ++ []))));
      ends = len_at lines None all ∙ ap Some (sym is ∙ len_is);
      same = refl;
      shorter = omega (arith, long);
    })
front_at lines (Some more) len all is =
    let long = end_bytes lines (Some more) in
    let short = end_bytes lines (Some []) in
    let len_is : len ≡ length (text_of lines ++ (codes "end" ++ line_end)) = omega (arith, is, long, short) in
    let parts : text_of lines ++ (codes "end" ++ 10 ∷ more) ≡ (text_of lines ++ (codes "end" ++ line_end)) ++ more = sym (append_assoc (text_of lines) (codes "end" ++ line_end) more) in
    let block : take len (text_of lines ++ (codes "end" ++ 10 ∷ more)) ≡ text_of lines ++ (codes "end" ++ line_end) = ap (take len) parts ∙ take_at (text_of lines ++ (codes "end" ++ line_end)) more len (sym len_is) in
    let later : drop len (text_of lines ++ (codes "end" ++ 10 ∷ more)) ≡ more = ap (drop len) parts ∙ drop_at (text_of lines ++ (codes "end" ++ line_end)) more len (sym len_is) in
    let all_lines : text_lines (text_of lines ++ (codes "end" ++ 10 ∷ more)) ≡ lines ++ codes "end" ∷ text_lines more =
    ap lines_in (lines_to_end lines (Some more) all ∙ sym (append_assoc lines (codes "end" ∷ []) (lines_of more)))
    ∙ lines_in_front (lines ++ codes "end" ∷ []) (lines_of more) (rw (length-slice_split is_line_end more) (omega arith)) ∙ append_assoc lines (codes "end" ∷ []) (text_lines more) in
    let block_lines : text_lines (text_of lines ++ (codes "end" ++ line_end)) ≡ lines ++ codes "end" ∷ [] =
    ap lines_in (lines_to_end lines (Some []) all ∙ sym (append_assoc lines (codes "end" ∷ []) ([] ∷ [])))
    ∙ lines_in_front (lines ++ codes "end" ∷ []) ([] ∷ []) (omega arith) ∙ append-nil (lines ++ codes "end" ∷ []) in
    rw (block, later) (record {
      lines = all_lines ∙ sym (append_assoc lines (codes "end" ∷ []) (text_lines more)) ∙ ap (λ (l : List (List ℕ)). l ++ text_lines more) (sym block_lines);
      ends = len_at lines (Some []) all ∙ ap Some (omega (arith, short));
      same = first_to_end lines (Some []) all ∙ sym (first_to_end lines (Some more) all);
      shorter = omega (arith, long);
    })

len_of : (found : Option ℕ) (most len : ℕ) → option_map (λ body. min (body + 4) most) found ≡ Some len → (n : ℕ) × (found ≡ Some n) × (len ≡ min (n + 4) most)
len_of None most len is = absurd cc
len_of (Some body) most len is = (body, refl, let same : min (body + 4) most ≡ len = cc in sym same)

front_of : (rest : List ℕ) (len : ℕ) → block_len rest ≡ Some len → IsFront rest (take len rest) (drop len rest)
front_of rest len found =
    let body = len_of (body_len rest) (length rest) len found in
    let end = end_found rest body.0 body.1 in
    let whole : text_of end.lines ++ (codes "end" ++ with_line_end end.later) ≡ rest = sym end.parts in
    let len_is : len ≡ min (length (text_of end.lines) + 4) (length (text_of end.lines ++ (codes "end" ++ with_line_end end.later))) = omega (arith, body.2, end.extent, ap length whole) in
    subst (λ (text : List ℕ). IsFront text (take len text) (drop len text)) whole (front_at end.lines end.later len end.no_end len_is)

-- ---- the blocks

-- the blocks up to the text `rest` say this
record Reached (kinds : Kinds) (input : List ℕ) (setup : Setup) (rest : List ℕ) : Type 0 where
  blocks : List (List ℕ)
  refused : List Refusal
  lines : text_lines input ≡ blocks ++ text_lines rest
  are_blocks : AreBlocks kinds blocks setup.rooms refused
  refused_lines : setup.refused ≡ flat_map refusal_line refused
  number : setup.line ≡ number_after blocks

-- what comes of one block more
record Taken (kinds : Kinds) (setup now : Setup) (blocks : List (List ℕ)) (block : List ℕ) : Type 0 where
  refused : List Refusal
  are_blocks : AreBlocks kinds (blocks ++ text_lines block) now.rooms refused
  refused_lines : now.refused ≡ flat_map refusal_line refused
  line : now.line ≡ setup.line

one_refused : (setup : Setup) (refused : List Refusal) (refusal : Refusal) → setup.refused ≡ flat_map refusal_line refused → setup.line ≡ refusal.line → (refuse setup refusal.why).refused ≡ flat_map refusal_line (refused ++ refusal ∷ [])
one_refused setup refused refusal before line =
    ap (λ (n : ℕ). setup.refused ++ refused_line n refusal.why) line ∙ ap (λ (text : List ℕ). text ++ refusal_line refusal) before
    ∙ ap (λ (text : List ℕ). flat_map refusal_line refused ++ text) (sym (append-nil (refusal_line refusal))) ∙ sym (flat_map-append refusal_line refused (refusal ∷ []))

taken_room : (kinds : Kinds) (setup : Setup) (blocks : List (List ℕ)) (refused : List Refusal) (block : List ℕ) (room : RoomSpec) (len : ℕ) (has : Bool) → AreBlocks kinds blocks setup.rooms refused → setup.refused ≡ flat_map refusal_line refused → setup.line ≡ number_after blocks → IsBlockText block
    → block_of kinds block ≡ Ok (room, len) → has_room room.name setup.rooms ≡ has → Taken kinds setup (open_room setup room) blocks block
taken_room kinds setup blocks refused block room len true are lines number text read has = rw has (record {
  refused = refused ++ record { line = number_after blocks; why = codes "41" } ∷ [];
  are_blocks = NameTaken blocks setup.rooms refused block room len are text read has;
  refused_lines = one_refused setup refused (record { line = number_after blocks; why = codes "41" }) lines number;
  line = refl;
})
taken_room kinds setup blocks refused block room len false are lines number text read has = rw has (record {
  refused = refused;
  are_blocks = Opened blocks setup.rooms refused block room len are text read has;
  refused_lines = lines;
  line = refl;
})

taken : (kinds : Kinds) (setup : Setup) (blocks : List (List ℕ)) (refused : List Refusal) (block : List ℕ) (read : Result (RoomSpec × ℕ) SpecFault) → AreBlocks kinds blocks setup.rooms refused → setup.refused ≡ flat_map refusal_line refused → setup.line ≡ number_after blocks → IsBlockText block
    → block_of kinds block ≡ read → Taken kinds setup (open_block setup read) blocks block
taken kinds setup blocks refused block (Ok (room, len)) are lines number text read = taken_room kinds setup blocks refused block room len (has_room room.name setup.rooms) are lines number text read refl
taken kinds setup blocks refused block (Err fault) are lines number text read = record {
  refused = refused ++ record { line = number_after blocks; why = fault_text fault } ∷ [];
  are_blocks = Faulty blocks setup.rooms refused block fault are text read;
  refused_lines = one_refused setup refused (record { line = number_after blocks; why = fault_text fault }) lines number;
  line = refl;
}

no_events_line : (text : List ℕ) → bytes_eq (first_line text) (codes "events") ≡ false → first_line text ≢ codes "events"
no_events_line text other is = absurd (false≢true (sym other ∙ (bytes_eq-Decides (first_line text) (codes "events")).1 is))

one_further : (kinds : Kinds) (input : List ℕ) (setup : Setup) (rest : List ℕ) (len : ℕ) → Reached kinds input setup rest → block_len rest ≡ Some len → bytes_eq (first_line rest) (codes "events") ≡ false → Reached kinds input (after_block kinds setup (take len rest)) (drop len rest)
one_further kinds input setup rest len reached found other =
    let front = front_of rest len found in
    let text : IsBlockText (take len rest) = record { ends = front.ends; other = λ is. no_events_line rest other (sym front.same ∙ is) } in
    let more = taken kinds setup reached.blocks reached.refused (take len rest) (block_of kinds (take len rest)) reached.are_blocks reached.refused_lines reached.number text refl in
    record {
      blocks = reached.blocks ++ text_lines (take len rest);
      refused = more.refused;
      lines = reached.lines ∙ ap (λ (l : List (List ℕ)). reached.blocks ++ l) front.lines ∙ sym (append_assoc reached.blocks (text_lines (take len rest)) (text_lines (drop len rest)));
      are_blocks = more.are_blocks;
      refused_lines = more.refused_lines;
      number = omega (arith, more.line, reached.number, length-append reached.blocks (text_lines (take len rest)));
    }

-- what the blocks of an input say
record IsBehind (kinds : Kinds) (input : List ℕ) (setup : Setup) (transcript : List ℕ) : Type 0 where
  blocks : List (List ℕ)
  refused : List Refusal
  lines : text_lines input ≡ with_events blocks ++ text_lines transcript
  are_blocks : AreBlocks kinds blocks setup.rooms refused
  refused_lines : setup.refused ≡ flat_map refusal_line refused
  number : setup.line ≡ number_after (with_events blocks)

abbrev BlocksSay : Kinds → List ℕ → Result (Setup × List ℕ) FaultAt → Type 0
BlocksSay kinds input (Ok (setup, transcript)) = IsBehind kinds input setup transcript
BlocksSay kinds input (Err (line, fault)) = EndsEarly kinds input line fault

at_events : (kinds : Kinds) (input : List ℕ) (setup : Setup) (rest : List ℕ) → Reached kinds input setup rest → bytes_eq (first_line rest) (codes "events") ≡ true → IsBehind kinds input (pass_lines 1 setup) (later_lines rest)
at_events kinds input setup rest reached is = record {
  blocks = reached.blocks;
  refused = reached.refused;
  lines = reached.lines ∙ ap (λ (l : List (List ℕ)). reached.blocks ++ l) (events_line rest is) ∙ sym (append_assoc reached.blocks (codes "events" ∷ []) (text_lines (later_lines rest)));
  are_blocks = reached.are_blocks;
  refused_lines = reached.refused_lines;
  number = omega (arith, reached.number, length-append reached.blocks (codes "events" ∷ []));
}

too_early : (kinds : Kinds) (input : List ℕ) (setup : Setup) (rest : List ℕ) → Reached kinds input setup rest → bytes_eq (first_line rest) (codes "events") ≡ false → block_len rest ≡ None → EndsEarly kinds input (setup.line + length (text_lines rest)) NoEvents
too_early kinds input setup rest reached other none = record {
  fault_is = refl;
  number = omega (arith, reached.number, ap length reached.lines, length-append reached.blocks (text_lines rest));
  blocks = reached.blocks;
  rooms = setup.rooms;
  refused = reached.refused;
  rest = rest;
  lines = reached.lines;
  are_blocks = reached.are_blocks;
  no_end = none;
  no_events = no_events_line rest other;
}

next_numbered : (kinds : Kinds) (input : List ℕ) (later : Setup → List ℕ → Result (Setup × List ℕ) FaultAt) (setup : Setup) (rest : List ℕ) (len : Option ℕ) → Reached kinds input setup rest → bytes_eq (first_line rest) (codes "events") ≡ false → block_len rest ≡ len
    → ((now : Setup) (behind : List ℕ) → Reached kinds input now behind → length behind < length rest → BlocksSay kinds input (later now behind)) → BlocksSay kinds input (next_block later kinds setup rest len)
next_numbered kinds input later setup rest None reached other found on = too_early kinds input setup rest reached other found
next_numbered kinds input later setup rest (Some len) reached other found on = on (after_block kinds setup (take len rest)) (drop len rest) (one_further kinds input setup rest len reached found other) (front_of rest len found).shorter

from_numbered : (kinds : Kinds) (input : List ℕ) (most : ℕ) (setup : Setup) (rest : List ℕ) → Reached kinds input setup rest → length rest < most → BlocksSay kinds input (blocks_from kinds most setup rest)
unfolding blocks_from
from_numbered kinds input zero setup rest reached few = absurd (omega (arith, few))
from_numbered kinds input (suc most) setup rest reached few =
    elim (cases_Bool (bytes_eq (first_line rest) (codes "events"))) [
      | inl is ↦ rw is (at_events kinds input setup rest reached is)
      | inr other ↦ rw other (next_numbered kinds input (blocks_from kinds most) setup rest (block_len rest) reached other refl (λ now behind more shorter. from_numbered kinds input most now behind more (omega (arith, few, shorter))))
    ]

blocks_numbered : (kinds : Kinds) (input : List ℕ) → BlocksSay kinds input (blocks_in kinds input)
blocks_numbered kinds input = from_numbered kinds input (suc (length input)) no_blocks input (record { blocks = []; refused = []; lines = refl; are_blocks = NoBlock; refused_lines = refl; number = refl }) (omega arith)

-- ---- the event lines

record IsBad (rooms : List RoomSpec) (before all : List (List ℕ)) (line : ℕ) (fault : TextFault) : Type 0 where
  events : List (List ℕ)
  fed : List FedEvent
  bad : List ℕ
  more : List (List ℕ)
  parts : all ≡ events ++ bad ∷ more
  reported : AreReported rooms before events fed
  number : line ≡ number_after (before ++ events)
  why : IsBadLine rooms bad fault

abbrev EventsSay : List RoomSpec → List (List ℕ) → List (List ℕ) → Result (List FedEvent) FaultAt → Type 0
EventsSay rooms before all (Ok fed) = AreReported rooms before all fed
EventsSay rooms before all (Err (line, fault)) = IsBad rooms before all line fault

-- what one line more says
abbrev LineSays : List RoomSpec → List ℕ → ℕ → Result FedEvent FaultAt → Type 0
LineSays rooms text line (Ok one) = (read : List ℕ × Event) × (line_in text ≡ Ok read) × (has_room read.0 rooms ≡ true) × (one ≡ record { name = read.0; event = read.1; line = line })
LineSays rooms text line (Err (at, fault)) = (at ≡ line) × IsBadLine rooms text fault

known_says : (rooms : List RoomSpec) (text : List ℕ) (line : ℕ) (read : List ℕ × Event) (has : Bool) → line_in text ≡ Ok read → has_room read.0 rooms ≡ has → LineSays rooms text line (of_known_room rooms line (Ok read))
known_says rooms text line read true is has = rw has (read, is, has, refl)
known_says rooms text line read false is has = rw has (refl, (read, is, has))

line_says : (rooms : List RoomSpec) (text : List ℕ) (line : ℕ) (said : Result (List ℕ × Event) LineFault) → line_in text ≡ said → LineSays rooms text line (of_known_room rooms line said)
line_says rooms text line (Ok read) is = known_says rooms text line read (has_room read.0 rooms) is refl
line_says rooms text line (Err fault) is = (refl, is)

then_numbered : (rooms : List RoomSpec) (before lines : List (List ℕ)) (fed : List FedEvent) (line : ℕ) (text : List ℕ) (texts : List (List ℕ)) (later : List FedEvent → Result (List FedEvent) FaultAt) (said : Result FedEvent FaultAt)
    → AreReported rooms before lines fed → line ≡ number_after (before ++ lines) → LineSays rooms text line said
    → ((more : List FedEvent) → AreReported rooms before (lines ++ text ∷ []) more → EventsSay rooms before ((lines ++ text ∷ []) ++ texts) (later more)) → EventsSay rooms before (lines ++ text ∷ texts) (then_fed later fed said)
then_numbered rooms before lines fed line text texts later (Ok one) reported number says on =
    let one_is : record { name = says.0.0; event = says.0.1; line = number_after (before ++ lines) } ≡ one = ap (λ (n : ℕ). record { name = says.0.0; event = says.0.1; line = n }) (sym number) ∙ sym says.3 in
    let more : AreReported rooms before (lines ++ text ∷ []) (fed ++ one ∷ []) = subst (λ (f : FedEvent). AreReported rooms before (lines ++ text ∷ []) (fed ++ f ∷ [])) one_is (OneMore lines fed text says.0.0 says.0.1 reported says.1 says.2) in
    subst (λ (all : List (List ℕ)). EventsSay rooms before all (later (fed ++ one ∷ []))) (append_assoc lines (text ∷ []) texts) (on (fed ++ one ∷ []) more)
then_numbered rooms before lines fed line text texts later (Err (at, fault)) reported number says on = record {
  events = lines;
  fed = fed;
  bad = text;
  more = texts;
  parts = refl;
  reported = reported;
  number = says.0 ∙ number;
  why = says.1;
}

reported_numbered : (rooms : List RoomSpec) (before lines : List (List ℕ)) (fed : List FedEvent) (line : ℕ) (texts : List (List ℕ)) → AreReported rooms before lines fed → line ≡ number_after (before ++ lines) → EventsSay rooms before (lines ++ texts) (fed_from rooms fed line texts)
unfolding fed_from
reported_numbered rooms before lines fed line [] reported number = subst (λ (all : List (List ℕ)). AreReported rooms before all fed) (sym (append-nil lines)) reported
reported_numbered rooms before lines fed line (text ∷ texts) reported number =
    then_numbered rooms before lines fed line text texts (λ so_far. fed_from rooms so_far (line + 1) texts) (of_known_room rooms line (line_in text)) reported number (line_says rooms text line (line_in text) refl)
    (λ more now. reported_numbered rooms before (lines ++ text ∷ []) more (line + 1) texts now (omega (arith, number, length-append before lines, length-append before (lines ++ text ∷ []), length-append lines (text ∷ []))))

-- ---- the whole input

whole_numbered : (kinds : Kinds) (input : List ℕ) (setup : Setup) (transcript : List ℕ) (behind : IsBehind kinds input setup transcript) (said : Result (List FedEvent) FaultAt) → EventsSay setup.rooms (with_events behind.blocks) (text_lines transcript) said → IsNumbered kinds input (with_fed setup said)
whole_numbered kinds input setup transcript behind (Ok fed) says = record {
  blocks = behind.blocks;
  refused = behind.refused;
  events = text_lines transcript;
  lines = behind.lines;
  are_blocks = behind.are_blocks;
  refused_lines = behind.refused_lines;
  reported = says;
}
whole_numbered kinds input setup transcript behind (Err (line, fault)) says = inr (record {
  blocks = behind.blocks;
  rooms = setup.rooms;
  refused = behind.refused;
  events = says.events;
  fed = says.fed;
  bad = says.bad;
  more = says.more;
  lines = behind.lines ∙ ap (λ (l : List (List ℕ)). with_events behind.blocks ++ l) says.parts;
  are_blocks = behind.are_blocks;
  reported = says.reported;
  number = says.number;
  why = says.why;
})

events_numbered : (kinds : Kinds) (input : List ℕ) (read : Result (Setup × List ℕ) FaultAt) → BlocksSay kinds input read → IsNumbered kinds input (later_events read)
events_numbered kinds input (Ok (setup, transcript)) behind =
    whole_numbered kinds input setup transcript behind (fed_from setup.rooms [] setup.line (text_lines transcript))
    (reported_numbered setup.rooms (with_events behind.blocks) [] [] setup.line (text_lines transcript) NoLine (behind.number ∙ ap (λ (l : List (List ℕ)). number_after l) (sym (append-nil (with_events behind.blocks)))))
events_numbered kinds input (Err (line, fault)) early = inl early

pub input_numbered : (kinds : Kinds) (input : List ℕ) → IsNumbered kinds input (input_says kinds input)
input_numbered kinds input = events_numbered kinds input (blocks_in kinds input) (blocks_numbered kinds input)
