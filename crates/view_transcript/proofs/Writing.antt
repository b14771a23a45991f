-- What is written of what is kept.
use Rattle.std.proofs.Common.{◌≡◌, ℕ, zero, suc, ◌+◌, Bool, true, false, cond, List, [], ◌∷◌, ◌++◌, take, Option, Some, None, refl, sym, ap, ap₂, ◌∙◌, subst, arith}
use Rattle.std.specs.Map.{keys_of, lookup}
use Rattle.std.specs.Prelude.{⊤, codes, slice_get}
use Rattle.std.specs.List.{flat_map}
use Rattle.std.proofs.lemmas.Grind.{flat_map-append}
use Rattle.std.proofs.lemmas.List.{append-nil, append_assoc}
use Rattle.room_files.specs.BlockLists.{whole_block}
use Rattle.report_text.specs.ReportTexts.{event_lines}
use Rattle.std.specs.Str.{bytes_eq}
use Rattle.room_core.specs.Calls.{RoomState}
use Rattle.ws_history.specs.Notes.{Notes}
use Rattle.service_core.specs.Rooms.{Entries, room_at}
use Rattle.script_play.specs.Play.{Done}
use Rattle.view_transcript.specs.Courses.{Course, course_of}
use Rattle.view_transcript.specs.Transcripts.{AreByNotes, AreEach, AreEventsFrom, AreRoomsOf, AreWrittenFrom, HasBlock, HasEvents, HasNoted, IsBlockFrom, IsFollowed, IsWrittenIf, IsWrittenOf, KeptRoom, KeptRooms, Written, WrittenRooms, kept_at, transcript_text}
use Rattle.view_transcript.proofs.Following.{Stands, open_room, closed_room, stands, written_by}
use Rattle.view_transcript.proofs.Lookups.{same_name}
use Rattle.transcript.specs.declared.event.Event.{Event}

-- ---- by names

record IsMatch (rooms : Entries) (name : List ℕ) (kept : KeptRoom) (written : Written) : Type 0 where
  block : HasBlock (room_at rooms name) kept.block kept.events written.block
  events : HasEvents (room_at rooms name) kept.notes kept.events written.events

abbrev AreMatched : Entries → List ℕ → Option KeptRoom → Option Written → Type 0
AreMatched rooms name None None = ⊤
AreMatched rooms name (Some kept) (Some written) = IsMatch rooms name kept written
AreMatched rooms name None (Some written) = ⊥
AreMatched rooms name (Some kept) None = ⊥

matched : (rooms : Entries) (kept : KeptRooms) (written : WrittenRooms) (name : List ℕ) → AreWrittenFrom rooms kept written → AreMatched rooms name (kept_at kept name) (lookup (bytes_eq name) written)
matched rooms [] [] name are = tt
matched rooms [] (w ∷ written) name are = absurd are
matched rooms (k ∷ kept) [] name are = absurd are
matched rooms (k ∷ kept) (w ∷ written) name are =
    subst (λ (n : List ℕ). AreMatched rooms name (cond (bytes_eq name k.0) (Some k.1) (kept_at kept name)) (cond (bytes_eq name n) (Some w.1) (lookup (bytes_eq name) written))) (sym are.0.name)
    (by (bytes_eq name k.0) refl (matched rooms kept written name are.1))
  where
    by : (b : Bool) → bytes_eq name k.0 ≡ b → AreMatched rooms name (kept_at kept name) (lookup (bytes_eq name) written) → AreMatched rooms name (cond b (Some k.1) (kept_at kept name)) (cond b (Some w.1) (lookup (bytes_eq name) written))
    by true here others = subst (λ (n : List ℕ). IsMatch rooms n k.1 w.1) (sym (same_name name k.0 here)) (record { block = are.0.block; events = are.0.events })
    by false there others = others

same_names : (rooms : Entries) (kept : KeptRooms) (written : WrittenRooms) → AreWrittenFrom rooms kept written → keys_of written ≡ keys_of kept
same_names rooms [] [] are = refl
same_names rooms [] (w ∷ written) are = absurd are
same_names rooms (k ∷ kept) [] are = absurd are
same_names rooms (k ∷ kept) (w ∷ written) are = ap₂ (λ (n : List ℕ) (l : List (List ℕ)). n ∷ l) are.0.name (same_names rooms kept written are.1)

written_if : (rooms : Entries) (name : List ℕ) (course : Option Course) (core : Option RoomState) (kept : Option KeptRoom) (written : Option Written) → room_at rooms name ≡ core → IsFollowed course core kept → AreMatched rooms name kept written → IsWrittenIf course written
written_if rooms name None None None None there is match = tt
written_if rooms name None None None (Some written) there is match = absurd match
written_if rooms name None None (Some kept) written there is match = absurd is
written_if rooms name None (Some core) kept written there is match = absurd is
written_if rooms name (Some course) core None written there is match = absurd is
written_if rooms name (Some course) core (Some kept) None there is match = absurd match
written_if rooms name (Some course) core (Some kept) (Some written) there is match = by (stands course core kept is)
  where
    by : Stands course core kept.block kept.notes kept.events → IsWrittenOf course written
    by (open_room notes opened none held here block are) =
        written_by course kept.block notes written block are
        (subst (λ (c : Option RoomState). HasBlock c kept.block None written.block) (there ∙ here) (subst (λ (e : Option (List Event)). HasBlock (room_at rooms name) kept.block e written.block) none match.block))
        (subst (λ (n : Option Notes). AreByNotes course.room n written.events) held
        (subst (λ (c : Option RoomState). HasEvents c kept.notes None written.events) (there ∙ here) (subst (λ (e : Option (List Event)). HasEvents (room_at rooms name) kept.notes e written.events) none match.events)))
    by (closed_room known closed some gone are) =
        let block : written.block ≡ kept.block = subst (λ (e : Option (List Event)). HasBlock (room_at rooms name) kept.block e written.block) some match.block in
        let events : written.events ≡ known = subst (λ (e : Option (List Event)). HasEvents (room_at rooms name) kept.notes e written.events) some match.events in
        let same : record { block = kept.block; events = known } ≡ written = (λ i. record { block = sym block i; events = sym events i }) in
        subst (IsWrittenOf course) same are

pub rooms_written : (all : List Done) (rooms : Entries) (kept : KeptRooms) (written : WrittenRooms) → HasNoted all rooms kept → AreWrittenFrom rooms kept written → AreRoomsOf all written
rooms_written all rooms kept written noted are = record {
  names = same_names rooms kept written are ∙ noted.names;
  each = λ name. written_if rooms name (course_of name all) (room_at rooms name) (kept_at kept name) (lookup (bytes_eq name) written) refl (noted.each name) (matched rooms kept written name are);
}

-- ---- one after the other

each-push : {A : Type 0} (Is : List ℕ × KeptRoom → A → Type 0) (kept : KeptRooms) (ones : List A) (k : List ℕ × KeptRoom) (one : A) → AreEach Is kept ones → Is k one → AreEach Is (kept ++ k ∷ []) (ones ++ one ∷ [])
each-push Is [] [] k one are is = (is, tt)
each-push Is [] (other ∷ ones) k one are is = absurd are
each-push Is (other ∷ kept) [] k one are is = absurd are
each-push Is (k' ∷ kept) (other ∷ ones) k one are is = (are.0, each-push Is kept ones k one are.1 is)

-- ---- the entries that were gone through

same_some : {X : Type 0} (a b : X) → Some a ≡ Some b → a ≡ b
same_some a b is = cc

took_next : {X : Type 0} (xs : List X) (i : ℕ) (x : X) → slice_get xs i ≡ Some x → take (suc i) xs ≡ take i xs ++ x ∷ []
took_next [] i x there = absurd (let none : None ≡ Some x = there in cc)
took_next (y ∷ ys) zero x there = ap (λ z. z ∷ []) (same_some y x there)
took_next (y ∷ ys) (suc i) x there = ap (λ zs. y ∷ zs) (took_next ys i x there)

took : {X : Type 0} (xs : List X) (i : ℕ) (x : X) → slice_get xs i ≡ Some x → take (i + 1) xs ≡ take i xs ++ x ∷ []
took xs i x there =
    let next : suc i ≡ i + 1 = omega arith in
    subst (λ (n : ℕ). take n xs ≡ take i xs ++ x ∷ []) next (took_next xs i x there)

-- one text more after those of a list
text_more : {X : Type 0} (text : X → List ℕ) (xs : List X) (x : X) (start before after : List ℕ) → before ≡ start ++ flat_map text xs → after ≡ before ++ text x → after ≡ start ++ flat_map text (xs ++ x ∷ [])
text_more text xs x start before after so_far more =
    more ∙ ap (λ (t : List ℕ). t ++ text x) so_far ∙ append_assoc start (flat_map text xs) (text x)
    ∙ ap (λ (t : List ℕ). start ++ (flat_map text xs ++ t)) (sym (append-nil (text x)))
    ∙ ap (λ (t : List ℕ). start ++ t) (sym (flat_map-append text xs (x ∷ [])))

-- those of the first rooms are written
abbrev pub HaveWritten : {A : Type 0} → (List ℕ × KeptRoom → A → Type 0) → (A → List ℕ) → KeptRooms → ℕ → List ℕ → List ℕ → Type 0
HaveWritten {A} Is text kept i start now = (ones : List A) × AreEach Is (take i kept) ones × (now ≡ start ++ flat_map text ones)

one_more : {A : Type 0} (Is : List ℕ × KeptRoom → A → Type 0) (text : A → List ℕ) (kept : KeptRooms) (i : ℕ) (k : List ℕ × KeptRoom) (start before after : List ℕ) → HaveWritten Is text kept i start before → slice_get kept i ≡ Some k
    → (one : A) × Is k one × (after ≡ before ++ text one) → HaveWritten Is text kept (i + 1) start after
one_more Is text kept i k start before after so_far there more = (
  so_far.0 ++ more.0 ∷ [],
  subst (λ (taken : KeptRooms). AreEach Is taken (so_far.0 ++ more.0 ∷ [])) (sym (took kept i k there)) (each-push Is (take i kept) so_far.0 k more.0 so_far.1 more.1),
  text_more text so_far.0 more.0 start before after so_far.2 more.2,
)

pub block_more : (rooms : Entries) (kept : KeptRooms) (i : ℕ) (k : List ℕ × KeptRoom) (start before after : List ℕ) → HaveWritten (IsBlockFrom rooms) whole_block kept i start before → slice_get kept i ≡ Some k
    → (block : List ℕ) × IsBlockFrom rooms k block × (after ≡ before ++ whole_block block) → HaveWritten (IsBlockFrom rooms) whole_block kept (i + 1) start after
block_more rooms kept i k start before after so_far there more = one_more (IsBlockFrom rooms) whole_block kept i k start before after so_far there more

-- the events of a room of a name, as text
abbrev pub named_lines : List ℕ × List Event → List ℕ
named_lines one = event_lines one.0 one.1

pub events_more : (rooms : Entries) (kept : KeptRooms) (i : ℕ) (k : List ℕ × KeptRoom) (start before after : List ℕ) → HaveWritten (AreEventsFrom rooms) named_lines kept i start before → slice_get kept i ≡ Some k
    → (events : List Event) × HasEvents (room_at rooms k.0) k.1.notes k.1.events events × (after ≡ before ++ event_lines k.0 events) → HaveWritten (AreEventsFrom rooms) named_lines kept (i + 1) start after
events_more rooms kept i k start before after so_far there more = one_more (AreEventsFrom rooms) named_lines kept i k start before after so_far there ((k.0, more.0), (refl, more.1), more.2)

-- ---- all of it

-- rooms that have these blocks and these events
record Both (rooms : Entries) (kept : KeptRooms) (blocks : List (List ℕ)) (events : List (List ℕ × List Event)) : Type 0 where
  written : WrittenRooms
  are : AreWrittenFrom rooms kept written
  same_blocks : flat_map (λ (room : List ℕ × Written). whole_block room.1.block) written ≡ flat_map whole_block blocks
  same_events : flat_map (λ (room : List ℕ × Written). event_lines room.0 room.1.events) written ≡ flat_map named_lines events

both : (rooms : Entries) (kept : KeptRooms) (blocks : List (List ℕ)) (events : List (List ℕ × List Event)) → AreEach (IsBlockFrom rooms) kept blocks → AreEach (AreEventsFrom rooms) kept events → Both rooms kept blocks events
both rooms [] [] [] of_blocks of_events = record { written = []; are = tt; same_blocks = refl; same_events = refl }
both rooms [] (b ∷ blocks) events of_blocks of_events = absurd of_blocks
both rooms [] [] (e ∷ events) of_blocks of_events = absurd of_events
both rooms (k ∷ kept) [] events of_blocks of_events = absurd of_blocks
both rooms (k ∷ kept) (b ∷ blocks) [] of_blocks of_events = absurd of_events
both rooms (k ∷ kept) (b ∷ blocks) (e ∷ events) of_blocks of_events =
    let others = both rooms kept blocks events of_blocks.1 of_events.1 in
    record {
      written = (e.0, record { block = b; events = e.1 }) ∷ others.written;
      are = (record { name = of_events.0.0; block = of_blocks.0; events = of_events.0.1 }, others.are);
      same_blocks = ap (λ (text : List ℕ). whole_block b ++ text) others.same_blocks;
      same_events = ap (λ (text : List ℕ). event_lines e.0 e.1 ++ text) others.same_events;
    }

-- the blocks of all rooms, the line `events`, and the events of all rooms
pub transcript_is : (rooms : Entries) (kept : KeptRooms) (start first second last : List ℕ) → (blocks : List (List ℕ)) × AreEach (IsBlockFrom rooms) kept blocks × (first ≡ start ++ flat_map whole_block blocks) → second ≡ first ++ codes "events\n"
    → (events : List (List ℕ × List Event)) × AreEach (AreEventsFrom rooms) kept events × (last ≡ second ++ flat_map named_lines events)
    → (written : WrittenRooms) × AreWrittenFrom rooms kept written × (last ≡ start ++ transcript_text written)
transcript_is rooms kept start first second last blocks line events =
    let before = flat_map whole_block blocks.0 in
    let lines = flat_map named_lines events.0 in
    let all = both rooms kept blocks.0 events.0 blocks.1 events.1 in (
      all.written,
      all.are,
      events.2 ∙ ap (λ (t : List ℕ). t ++ lines) (line ∙ ap (λ (t : List ℕ). t ++ codes "events\n") blocks.2) ∙ append_assoc (start ++ before) (codes "events\n") lines ∙ append_assoc start before (codes "events\n" ++ lines)
          ∙ ap₂ (λ (t l : List ℕ). start ++ (t ++ (codes "events\n" ++ l))) (sym all.same_blocks) (sym all.same_events),
    )
