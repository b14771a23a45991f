use Rattle.std.proofs.Common.{◌≡◌, ◌∙◌, ◌++◌, ◌||◌, ◌∷◌, [], ℕ, List, Some, Vec, Global, ap, bytes_eq, length, map, rules, sym, string_bytes}
use Rattle.std.proofs.lemmas.List.{length-map}
use Rattle.room_sample.specs.Shown.{shown_of}
use Rattle.std.specs.Prelude.{option_map}
use Rattle.serde_json.specs.View.{view}
use Rattle.view_sum.specs.Reading.{is_none_listed, read_text, room_said}
use Rattle.view_sum.specs.Refusals.{pending_of, sample_by}
use Rattle.view_sum.specs.Samples.{sample_of}
use Rattle.view_sum.specs.declared.listed.Listed.{Listed}
use Rattle.view_sum.specs.declared.part.Part.{Part}
use Rattle.view_sum.proofs.LineReading.{no_times_no_outcome, says_no_room}
use Rattle.view_sum.proofs.ListedReading.{other_room, room_says}
use Rattle.view_sum.proofs.RoomReading.{not_room, of_room, room_more, room_numbered, text_alone}
use Rattle.view_sum.proofs.reading.read_room.Goals as goal

pub returns-in_default-clause-err : goal.returns-in_default-clause-err
returns-in_default-clause-err c =
    let it = view c.args.value.now in
    let pending = pending_of c.args.reading.now.listed in (
      no_times_no_outcome pending c.args.line.now it c.requires.says c.requires.room,
      says_no_room pending c.args.line.now it c.requires.says (sym c.in_ok-room.ensures ∙ ap (option_map room_said) c.in_default.is),
    )

pub returns-then-not-is_of_room-clause-err : goal.returns-then-not-is_of_room-clause-err
returns-then-not-is_of_room-clause-err c =
    let it = view c.args.value.now in
    let said = sym c.in_ok-room.ensures ∙ ap (option_map room_said) c.in-Some.is in
    other_room c.args.reading.now.listed c.args.line.now it c.as_str.result.now c.is_of_room.result c.requires.says ((room_says it (room_said c.in-Some.room) said).0 ∙ ap Some (sym c.as_str.ensures.value)) c.is_of_room.ensures c.if-not-is_of_room.true

pub returns-then-not-branch-clause-err : goal.returns-then-not-branch-clause-err
returns-then-not-branch-clause-err c =
    let it = view c.args.value.now in
    let said = sym c.in_ok-room.ensures ∙ ap (option_map room_said) c.in-Some.is in
    let listed = c.args.reading.now.listed in
    let part = c.in-Some-part_of.part in
    let part_is = c.in-Some-part_of.ensures.sample ∙ ap (λ (l : Listed). sample_by (room_said c.in-Some.room) l.brief (map shown_of l.outcomes.items)) c.take_listed-listed.ensures.taken in
    let count : c.len.result ≡ length part.outcomes.items = search rules in
    not_room listed c.args.line.now it (room_said c.in-Some.room) (sample_of part) c.in_ok-is_room_line.field-0 c.from-count.result c.len.result c.fault_of.result c.requires.says c.requires.room said
    part_is c.in_ok-is_room_line.ensures c.if-not-branch.true c.from-count.ensures (count ∙ sym (length-map part.outcomes.items shown_of)) c.fault_of.ensures

pub returns-clause-read : goal.returns-clause-read
returns-clause-read c =
    let listed = c.args.reading.now.listed in
    let part = c.in-Some-part_of.part in
    let part_is = c.in-Some-part_of.ensures.sample ∙ ap (λ (l : Listed). sample_by (room_said c.in-Some.room) l.brief (map shown_of l.outcomes.items)) c.take_listed-listed.ensures.taken in
    let may = of_room listed (string_bytes c.in-Some.room.name) c.is_of_room.result (c.is_of_room.ensures ∙ ap (λ (n : List ℕ). is_none_listed listed || bytes_eq (string_bytes listed.name) n) c.as_str.ensures.value) c.if-not-is_of_room.false in
    room_more c.args.reading.now.parts.items c.add.new.self.parts.items part listed c.add.new.self.listed (room_said c.in-Some.room) c.args.line.now
    (c.in_ok-add.ensures.parts ∙ ap (λ (parts : Vec Part Global). parts.items ++ part ∷ []) c.take_listed-listed.ensures.parts) part_is may (sym c.in_ok-is_room_line.ensures ∙ c.if-not-branch.false)
    (ap (λ (l : Listed). l.outcomes.items) c.in_ok-add.ensures.listed ∙ c.take_listed-listed.ensures.none)

pub returns-clause-lines : goal.returns-clause-lines
returns-clause-lines c =
    let part = c.in-Some-part_of.part in
    let none = ap (λ (l : Listed). l.outcomes.items) c.in_ok-add.ensures.listed ∙ c.take_listed-listed.ensures.none in
    room_numbered c.args.reading.now.parts.items c.add.new.self.parts.items part c.args.number (read_text c.args.reading.now) c.args.line.now
    (c.in_ok-add.ensures.parts ∙ ap (λ (parts : Vec Part Global). parts.items ++ part ∷ []) c.take_listed-listed.ensures.parts) c.in-Some-part_of.ensures.line c.requires.lines c.requires.number c.requires.line
    (text_alone (map sample_of c.add.new.self.parts.items) c.add.new.self.listed (read_text c.args.reading.now ++ c.args.line.now) none (returns-clause-read c))
