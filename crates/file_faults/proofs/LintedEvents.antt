-- Nothing is said of a transcript exactly if it can be read, and none of its blocks is refused.
use Rattle.std.proofs.Common.{◌≡◌, ◌∙◌, ◌↔◌, ℕ, zero, suc, ◌+◌, ◌<◌, ◌≤◌, Bool, true, false, cond, ltb, List, [], ◌∷◌, ◌++◌, length, None, inl, inr, refl, sym, ap, subst, arith}
use Rattle.std.proofs.Math.Bool.{and-false}
use Rattle.std.proofs.lemmas.Bool.{cases_Bool, ltb-true, ltb-false}
use Rattle.std.proofs.lemmas.List.{drop_all, length-drop, take_all}
use Rattle.std.proofs.lemmas.List.Splits.{length-slice_split, slice_split_first}
use Rattle.std.specs.Prelude.{Result, Ok, Err, IsOk, codes, drop, map, ◌&&◌}
use Rattle.std.specs.List.{position, position_or_len}
use Rattle.std.specs.Result.{is_err}
use Rattle.room_spec.specs.Texts.{first_line, is_line_end, later_lines, lines_of}
use Rattle.room_spec.proofs.CallerLemmas.{pieces_whole}
use Rattle.transcript.specs.Faults.{sentence_of}
use Rattle.transcript.specs.Lines.{line_in}
use Rattle.transcript.specs.declared.event.Event.{Event}
use Rattle.transcript.specs.declared.fault.LineFault.{LineFault}
use Rattle.history_checker.specs.Verdicts.{FedEvent, has_room}
use Rattle.room_files.specs.Blocks.{Setup, block_extent}
use Rattle.room_files.specs.Faults.{FaultAt, text_sentence}
use Rattle.room_files.specs.Inputs.{blocks_in, later_events, fed_from, input_says, of_known_room, then_fed, with_fed}
use Rattle.room_files.specs.Lines.{lines_in, text_lines}
use Rattle.room_files.specs.declared.fault.TextFault.TheVariants.{NoRoom}
use Rattle.room_files.specs.declared.kinds.Kinds.TheVariants.{All}
use Rattle.fault_text.specs.Hints.{advice, hint}
use Rattle.fault_text.specs.Lines.{indented}
use Rattle.fault_text.specs.Places.{heading}
use Rattle.fault_text.specs.Phrases.{fits_one, form_fault}
use Rattle.fault_text.specs.Refusals.{noted_refusals}
use Rattle.fault_text.specs.UnknownNames.{MetNames}
use Rattle.fault_text.specs.declared.hints.TheConstants.{NO_EVENT}
use Rattle.fault_text.specs.declared.phrases.TheConstants.{EVENTS}
use Rattle.fault_text.specs.declared.refusals.TheConstants.{MOST_EXPLAINED}
use Rattle.file_faults.specs.Events.{OpenedParts, bad_line_said, event_faults, event_lines, line_said, met_if, misplaced_said, unknown_name_said, unknown_names_after}
use Rattle.file_faults.specs.Events.{later_events as events_after, met_unless, next_event}
use Rattle.file_faults.specs.Files.{AreFaultsAfter, AreTranscriptFaults, IsWhole}
use Rattle.file_faults.specs.declared.events.TheConstants.{BLOCK_LINES, BLOCKS_BEFORE, EVENTS_ONLY, REPORT_LINES}
use Rattle.file_faults.specs.declared.files.TheConstants.{NO_EVENTS}
use Rattle.file_faults.specs.Walks.{said_from}
use Rattle.file_faults.proofs.LintedRooms.{nothing_left, refused_said}
use Rattle.file_faults.proofs.LintedScripts.{enough_said, nothing_said, said_nothing}

-- ---- a text's lines

last_whole : (byte : ℕ) (bytes : List ℕ) → length (byte ∷ bytes) ≤ position_or_len is_line_end (byte ∷ bytes) → position is_line_end (byte ∷ bytes) ≡ None → text_lines (byte ∷ bytes) ≡ first_line (byte ∷ bytes) ∷ text_lines (later_lines (byte ∷ bytes))
last_whole byte bytes long none =
    let all : first_line (byte ∷ bytes) ≡ byte ∷ bytes = take_all (position_or_len is_line_end (byte ∷ bytes)) (byte ∷ bytes) long in
    let nothing : later_lines (byte ∷ bytes) ≡ [] = drop_all (position_or_len is_line_end (byte ∷ bytes) + 1) (byte ∷ bytes) (omega (arith, long)) in
    ap lines_in (pieces_whole is_line_end (byte ∷ bytes) none) ∙ rw (all, nothing) refl

before_pieces : (line : List ℕ) (pieces : List (List ℕ)) → 0 < length pieces → lines_in (line ∷ pieces) ≡ line ∷ lines_in pieces
before_pieces line [] some = absurd (omega (arith, some))
before_pieces line (piece ∷ pieces) some = refl

cut_first : (text line rest : List ℕ) → lines_of text ≡ line ∷ lines_of rest → text_lines text ≡ line ∷ text_lines rest
cut_first text line rest cut = ap lines_in cut ∙ before_pieces line (lines_of rest) (rw (length-slice_split is_line_end rest) (omega arith))

line_and_later : (byte : ℕ) (bytes : List ℕ) → text_lines (byte ∷ bytes) ≡ first_line (byte ∷ bytes) ∷ text_lines (later_lines (byte ∷ bytes))
line_and_later byte bytes =
    elim (cases_Bool (ltb (position_or_len is_line_end (byte ∷ bytes)) (length (byte ∷ bytes)))) [
      | inl is ↦ cut_first (byte ∷ bytes) (first_line (byte ∷ bytes)) (later_lines (byte ∷ bytes)) (slice_split_first is_line_end (byte ∷ bytes) 0 (ltb-true _ _ is))
      | inr never ↦ last_whole byte bytes (ltb-false _ _ never) (rw never refl)
    ]

-- ---- one event line

abbrev none_met : MetNames
none_met = record { names = []; more = 0 }

some_bad : (number : ℕ) (line : List ℕ) (fault : LineFault) (block report : Bool) (elsewhere other rest : List ℕ)
    → cond block (misplaced_said number line fault elsewhere) (cond report (misplaced_said number line fault other) (form_fault number (sentence_of fault) line (map (λ form. form.now) EVENTS) ++ rest)) ≡ [] → ⊥
unfolding form_fault
some_bad number line fault true report elsewhere other rest is = omega (arith, ap length is)
some_bad number line fault false true elsewhere other rest is = omega (arith, ap length is)
some_bad number line fault false false elsewhere other rest is = omega (arith, ap length is)

bad_line : (number : ℕ) (line : List ℕ) (fault : LineFault) → bad_line_said number line fault ≡ [] → ⊥
bad_line number line fault is =
    some_bad number line fault (fits_one line (map (λ form. form.now) BLOCK_LINES)) (fits_one line (map (λ form. form.now) REPORT_LINES)) BLOCKS_BEFORE.now EVENTS_ONLY.now (hint (advice (map (λ entry. entry.now) NO_EVENT) line)) is

-- nothing is said of the line exactly if it is an event of a room
fine_line : (opened : OpenedParts) (number place : ℕ) (line : List ℕ) (read : Result (List ℕ × Event) LineFault) → line_said opened none_met number line read ≡ [] → IsOk (of_known_room opened.rooms place read)
fine_line opened number place line (Err fault) is = absurd (bad_line number line fault is)
fine_line opened number place line (Ok read) is = by (has_room read.0 opened.rooms) is
  where
    by : (b : Bool) → cond b [] (unknown_name_said opened none_met number line read.0) ≡ [] → IsOk {T = FedEvent} {E = FaultAt} (cond b (Ok (record { name = read.0; event = read.1; line = place })) (Err (place, NoRoom)))
    by true none = refl
    by false none = absurd (omega (arith, ap length none))

line_fine : (opened : OpenedParts) (number place : ℕ) (line : List ℕ) (read : Result (List ℕ × Event) LineFault) → IsOk (of_known_room opened.rooms place read) → line_said opened none_met number line read ≡ []
line_fine opened number place line (Err fault) is = absurd cc
line_fine opened number place line (Ok read) is = by (has_room read.0 opened.rooms) is
  where
    by : (b : Bool) → IsOk {T = FedEvent} {E = FaultAt} (cond b (Ok (record { name = read.0; event = read.1; line = place })) (Err (place, NoRoom))) → cond b [] (unknown_name_said opened none_met number line read.0) ≡ []
    by true fine = refl
    by false fine = absurd cc

-- then it begins no block, and no new name is met
no_block : (opened : OpenedParts) (place : ℕ) (b : Bool) (read : Result (List ℕ × Event) LineFault) → IsOk (of_known_room opened.rooms place read) → (b && is_err read) ≡ false
no_block opened place b (Err fault) is = absurd cc
no_block opened place b (Ok read) is = and-false b

none_new : (opened : OpenedParts) (place : ℕ) (read : Result (List ℕ × Event) LineFault) → IsOk (of_known_room opened.rooms place read) → met_if opened none_met read ≡ none_met
none_new opened place (Err fault) is = absurd cc
none_new opened place (Ok read) is = by (has_room read.0 opened.rooms) is
  where
    by : (b : Bool) → IsOk {T = FedEvent} {E = FaultAt} (cond b (Ok (record { name = read.0; event = read.1; line = place })) (Err (place, NoRoom))) → met_unless b read.0 none_met ≡ none_met
    by true fine = refl
    by false fine = absurd cc

-- ---- all event lines

record Goes (one : Result FedEvent FaultAt) : Type 0 where
  event : FedEvent
  is : one ≡ Ok event

went : (one : Result FedEvent FaultAt) → IsOk one → Goes one
went (Ok event) is = record { event = event; is = refl }
went (Err fault) is = absurd cc

record SaysNone (opened : OpenedParts) (most left number place : ℕ) (fed : List FedEvent) (text : List ℕ) : Type 0 where
  read_if : said_from (event_lines false opened) most left none_met number text ≡ [] → IsOk (fed_from opened.rooms fed place (text_lines text))
  said_if : IsOk (fed_from opened.rooms fed place (text_lines text)) → said_from (event_lines false opened) most left none_met number text ≡ []

first_fine : (later : List FedEvent → Result (List FedEvent) FaultAt) (fed : List FedEvent) (one : Result FedEvent FaultAt) → IsOk (then_fed later fed one) → IsOk one
first_fine later fed (Ok event) is = refl
first_fine later fed (Err fault) is = absurd cc

-- what comes after a line that is fine
same_rest : (opened : OpenedParts) (most left number place : ℕ) (text : List ℕ) → IsOk (of_known_room opened.rooms place (line_in (first_line text)))
    → said_from (event_lines false opened) most left (unknown_names_after opened none_met text) number (events_after text) ≡ said_from (event_lines false opened) most left none_met number (later_lines text)
same_rest opened most left number place text fine =
    ap (λ (known : MetNames). said_from (event_lines false opened) most left known number (events_after text)) (none_new opened place (line_in (first_line text)) fine)
    ∙ ap (λ (late : Bool). said_from (event_lines false opened) most left none_met number (cond late (drop (block_extent (later_lines text)) (later_lines text)) (later_lines text)))
    (no_block opened place (fits_one (first_line text) (codes "bgsim B" ∷ [])) (line_in (first_line text)) fine)

one_fed : (opened : OpenedParts) (place : ℕ) (fed : List FedEvent) (byte : ℕ) (bytes : List ℕ) (event : FedEvent) → of_known_room opened.rooms place (line_in (first_line (byte ∷ bytes))) ≡ Ok event
    → fed_from opened.rooms fed place (text_lines (byte ∷ bytes)) ≡ fed_from opened.rooms (fed ++ event ∷ []) (place + 1) (text_lines (later_lines (byte ∷ bytes)))
unfolding fed_from
one_fed opened place fed byte bytes event is =
    ap (fed_from opened.rooms fed place) (line_and_later byte bytes) ∙ ap (then_fed (λ so_far. fed_from opened.rooms so_far (place + 1) (text_lines (later_lines (byte ∷ bytes)))) fed) is

fed_first : (opened : OpenedParts) (place : ℕ) (fed : List FedEvent) (byte : ℕ) (bytes : List ℕ) → IsOk (fed_from opened.rooms fed place (text_lines (byte ∷ bytes))) → IsOk (of_known_room opened.rooms place (line_in (first_line (byte ∷ bytes))))
unfolding fed_from
fed_first opened place fed byte bytes is =
    first_fine (λ so_far. fed_from opened.rooms so_far (place + 1) (text_lines (later_lines (byte ∷ bytes)))) fed (of_known_room opened.rooms place (line_in (first_line (byte ∷ bytes))))
    (subst (λ (lines : List (List ℕ)). IsOk (fed_from opened.rooms fed place lines)) (line_and_later byte bytes) is)

fewer : (byte : ℕ) (bytes : List ℕ) (most : ℕ) → length (byte ∷ bytes) ≤ suc most → length (later_lines (byte ∷ bytes)) ≤ most
fewer byte bytes most within = let long = length-drop (position_or_len is_line_end (byte ∷ bytes) + 1) (byte ∷ bytes) in omega (arith, within, long)

agrees : (opened : OpenedParts) (most left number place : ℕ) (fed : List FedEvent) (text : List ℕ) → length text ≤ most → SaysNone opened most left number place fed text
unfolding fed_from said_from
agrees opened zero left number place fed [] within = record { read_if = λ none. refl; said_if = λ fine. refl }
agrees opened zero left number place fed (byte ∷ bytes) within = absurd (omega (arith, within))
agrees opened (suc most) left number place fed [] within = record { read_if = λ none. refl; said_if = λ fine. refl }
agrees opened (suc most) left number place fed (byte ∷ bytes) within =
    let text = byte ∷ bytes in
    let line = first_line text in
    let next = next_event number text in
    let rest : (event : FedEvent) → SaysNone opened most left next (place + 1) (fed ++ event ∷ []) (later_lines text) =
    λ event. agrees opened most left next (place + 1) (fed ++ event ∷ []) (later_lines text) (fewer byte bytes most within) in
    record {
      read_if = λ none.
          let said = said_nothing (event_lines false opened) most left number none_met byte bytes enough_said none in
          let fine = fine_line opened number place line (line_in line) said.0 in
          let one = went (of_known_room opened.rooms place (line_in line)) fine in
          subst (λ (r : Result (List FedEvent) FaultAt). IsOk r) (sym (one_fed opened place fed byte bytes one.event one.is))
          ((rest one.event).read_if (sym (same_rest opened most left next place text fine) ∙ said.1));
      said_if = λ fine.
          let first = fed_first opened place fed byte bytes fine in
          let one = went (of_known_room opened.rooms place (line_in line)) first in
          nothing_said (event_lines false opened) most left number none_met byte bytes (line_fine opened number place line (line_in line) first)
          (same_rest opened most left next place text first ∙ (rest one.event).said_if (subst (λ (r : Result (List FedEvent) FaultAt). IsOk r) (one_fed opened place fed byte bytes one.event one.is) fine));
    }

-- ---- a whole transcript

both_said : (one other : List ℕ) → one ≡ [] → other ≡ [] → one ++ other ≡ []
both_said [] other is are = are
both_said (x ∷ one) other is are = absurd (omega (arith, ap length is))

fine_with : (setup : Setup) (fed : Result (List FedEvent) FaultAt) → setup.refused ≡ [] → IsOk fed → IsWhole (with_fed setup fed)
fine_with setup (Ok fed) none is = none
fine_with setup (Err fault) none is = absurd cc

with_fine : (setup : Setup) (fed : Result (List FedEvent) FaultAt) → IsWhole (with_fed setup fed) → (setup.refused ≡ []) × IsOk fed
with_fine setup (Ok fed) is = (is, refl)
with_fine setup (Err fault) is = absurd is

read_fine : (input : List ℕ) (blocks : Result (Setup × List ℕ) FaultAt) (said : List ℕ) → AreFaultsAfter input blocks said → (said ≡ []) ↔ IsWhole (later_events blocks)
read_fine input (Ok read) said are =
    let refusals = are.0 in
    let opened : OpenedParts = record { rooms = read.0.rooms; input = input; refused = refusals } in
    let both = refused_said input read.0.refused (noted_refusals input refusals) (refusals, are.1, refl) in
    let walk = agrees opened (length read.1) MOST_EXPLAINED read.0.line read.0.line [] read.1 (omega arith) in (
      (λ none.
          let parts = nothing_left (noted_refusals input refusals) (event_faults opened read.0.line read.1) (sym are.2 ∙ none) in
          fine_with read.0 (fed_from read.0.rooms [] read.0.line (text_lines read.1)) (both.0 parts.0) (walk.read_if parts.1)),
      (λ fine.
          let parts = with_fine read.0 (fed_from read.0.rooms [] read.0.line (text_lines read.1)) fine in
          are.2 ∙ both_said (noted_refusals input refusals) (event_faults opened read.0.line read.1) (both.1 parts.0) (walk.said_if parts.1)),
    )
read_fine input (Err fault) said are = (
  (λ none. absurd (let parts = nothing_left are.0 (indented (heading fault.0 (text_sentence fault.1)) ++ indented NO_EVENTS.now) (sym are.2 ∙ none) in omega (arith, ap length parts.1))),
  (λ fine. absurd fine),
)

-- Nothing is said of a transcript exactly if it can be read, and none of its blocks is refused.
pub transcript_fine : (input said : List ℕ) → AreTranscriptFaults input said → (said ≡ []) ↔ IsWhole (input_says All input)
unfolding AreTranscriptFaults
transcript_fine input said are = read_fine input (blocks_in All input) said are
