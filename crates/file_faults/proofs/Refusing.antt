-- What a script's lines show of its rooms, and what a service does.
use Rattle.std.proofs.Common.{◌≡◌, ◌∙◌, ℕ, Bool, true, false, cond, List, [], ◌∷◌, Option, Some, None, refl, sym, ap}
use Rattle.std.specs.Prelude.{is_some, nat_lt}
use Rattle.std.specs.Map.{lookup}
use Rattle.std.specs.Str.{bytes_eq}
use Rattle.std.proofs.lemmas.Slice.Eq.{bytes_eq-Decides}
use Rattle.indexmap.specs.IndexMap.{insert_entry}
use Rattle.room_spec.specs.Rooms.{RoomSpec}
use Rattle.script_play.specs.Play.{OpensNone, refusal_in}
use Rattle.service_core.specs.Replies.{OpenRoom, name_in, reply_to, room_after}
use Rattle.service_core.specs.declared.command.Command.{Command}
use Rattle.service_core.specs.declared.command.Command.TheVariants as commands
use Rattle.service_core.specs.declared.reply.Reply.{Reply}
use Rattle.service_core.specs.declared.reply.Reply.TheVariants.{Refused}
use Rattle.service_core.specs.declared.reply.Refusal.TheVariants.{NoSimulator}
use Rattle.file_faults.specs.OpenRooms.{RoomsByName, absent, absent_or_without, open_in, refusal_of, rooms_after, rooms_begun, simulators_in, simulators_of, with_room}

-- ---- rooms by name

same_name : (name : List ℕ) → bytes_eq name name ≡ true
same_name name = (bytes_eq-Decides name name).1 refl

own_put : (name : List ℕ) (room : Option ℕ) (rooms : RoomsByName) → lookup (bytes_eq name) (with_room rooms name room) ≡ Some room
own_put name room [] = ap (λ (b : Bool). cond b (Some room) None) (same_name name)
own_put name room (entry ∷ rooms) = by (bytes_eq name entry.0) refl (own_put name room rooms)
  where
    by : (b : Bool) → bytes_eq name entry.0 ≡ b → lookup (bytes_eq name) (insert_entry bytes_eq rooms name room) ≡ Some room → lookup (bytes_eq name) (cond b ((entry.0, room) ∷ rooms) (entry ∷ insert_entry bytes_eq rooms name room)) ≡ Some room
    by true is rest = ap (λ (b : Bool). cond b (Some room) (lookup (bytes_eq name) rooms)) is
    by false is rest = ap (λ (b : Bool). cond b (Some entry.1) (lookup (bytes_eq name) (insert_entry bytes_eq rooms name room))) is ∙ rest

other_put : (name other : List ℕ) (room : Option ℕ) (rooms : RoomsByName) → bytes_eq name other ≡ false → lookup (bytes_eq name) (with_room rooms other room) ≡ lookup (bytes_eq name) rooms
other_put name other room [] differ = ap (λ (b : Bool). cond b (Some room) None) differ
other_put name other room (entry ∷ rooms) differ = by (bytes_eq other entry.0) refl (other_put name other room rooms differ)
  where
    by : (b : Bool) → bytes_eq other entry.0 ≡ b → lookup (bytes_eq name) (insert_entry bytes_eq rooms other room) ≡ lookup (bytes_eq name) rooms → lookup (bytes_eq name) (cond b ((entry.0, room) ∷ rooms) (entry ∷ insert_entry bytes_eq rooms other room)) ≡ lookup (bytes_eq name) (entry ∷ rooms)
    by true is rest =
        let apart : bytes_eq name entry.0 ≡ false = ap (bytes_eq name) (sym ((bytes_eq-Decides other entry.0).0 is)) ∙ differ in
        ap (λ (b : Bool). cond b (Some room) (lookup (bytes_eq name) rooms)) apart ∙ sym (ap (λ (b : Bool). cond b (Some entry.1) (lookup (bytes_eq name) rooms)) apart)
    by false is rest = ap (λ (r : Option (Option ℕ)). cond (bytes_eq name entry.0) (Some entry.1) r) rest

own_room : (name : List ℕ) (room : Option ℕ) (rooms : RoomsByName) → simulators_of name (with_room rooms name room) ≡ room
own_room name room rooms = ap open_in (own_put name room rooms)

other_room : (name other : List ℕ) (room : Option ℕ) (rooms : RoomsByName) → bytes_eq name other ≡ false → simulators_of name (with_room rooms other room) ≡ simulators_of name rooms
other_room name other room rooms differ = ap open_in (other_put name other room rooms differ)

-- ---- commands

if_refused : (b : Bool) (reply : Reply) → refusal_in reply ≡ None → cond b None (Some NoSimulator) ≡ refusal_in (cond b reply (Refused NoSimulator))
if_refused true reply none = sym none
if_refused false reply none = refl

pub refusal_found : (rooms : RoomsByName) (room : Option OpenRoom) (command : Command) → OpensNone command → simulators_of (name_in command) rooms ≡ simulators_in room
    → refusal_of rooms command ≡ refusal_in (reply_to room command)
refusal_found rooms room (commands.Begin spec) opens known = absurd opens
refusal_found rooms None (commands.Step name sim count) opens known = ap (absent_or_without sim) known
refusal_found rooms (Some room) (commands.Step name sim count) opens known = ap (absent_or_without sim) known ∙ if_refused (nat_lt sim room.spec.simulators) _ refl
refusal_found rooms None (commands.Crash name sim) opens known = ap (absent_or_without sim) known
refusal_found rooms (Some room) (commands.Crash name sim) opens known = ap (absent_or_without sim) known ∙ if_refused (nat_lt sim room.spec.simulators) _ refl
refusal_found rooms None (commands.Settle name) opens known = ap absent known
refusal_found rooms (Some room) (commands.Settle name) opens known = ap absent known
refusal_found rooms None (commands.Report name) opens known = ap absent known
refusal_found rooms (Some room) (commands.Report name) opens known = ap absent known
refusal_found rooms None (commands.Close name) opens known = ap absent known
refusal_found rooms (Some room) (commands.Close name) opens known = ap absent known

same_spec : (b : Bool) (one other : OpenRoom) → one.spec ≡ other.spec → Some other.spec.simulators ≡ simulators_in (Some (cond b one other))
same_spec true one other same = ap (λ (spec : RoomSpec). Some spec.simulators) (sym same)
same_spec false one other same = refl

pub known_after : (rooms : RoomsByName) (room : Option OpenRoom) (command : Command) → OpensNone command → simulators_of (name_in command) rooms ≡ simulators_in room
    → simulators_of (name_in command) (rooms_after rooms command) ≡ simulators_in (room_after room command)
known_after rooms room (commands.Begin spec) opens known = absurd opens
known_after rooms None (commands.Step name sim count) opens known = known
known_after rooms (Some room) (commands.Step name sim count) opens known = known ∙ same_spec (nat_lt sim room.spec.simulators) _ room refl
known_after rooms None (commands.Crash name sim) opens known = known
known_after rooms (Some room) (commands.Crash name sim) opens known = known ∙ same_spec (nat_lt sim room.spec.simulators) _ room refl
known_after rooms None (commands.Settle name) opens known = known
known_after rooms (Some room) (commands.Settle name) opens known = known
known_after rooms None (commands.Report name) opens known = known
known_after rooms (Some room) (commands.Report name) opens known = known
known_after rooms None (commands.Close name) opens known = own_room name None rooms
known_after rooms (Some room) (commands.Close name) opens known = own_room name None rooms

pub others_known : (rooms : RoomsByName) (command : Command) (name : List ℕ) → bytes_eq name (name_in command) ≡ false → simulators_of name (rooms_after rooms command) ≡ simulators_of name rooms
others_known rooms (commands.Begin spec) name differ = refl
others_known rooms (commands.Step other sim count) name differ = refl
others_known rooms (commands.Crash other sim) name differ = refl
others_known rooms (commands.Settle other) name differ = refl
others_known rooms (commands.Report other) name differ = refl
others_known rooms (commands.Close other) name differ = other_room name other None rooms differ

-- ---- blocks

pub taken_found : (rooms : RoomsByName) (room : Option OpenRoom) (spec : RoomSpec) → simulators_of spec.name rooms ≡ simulators_in room
    → is_some (simulators_of spec.name rooms) ≡ is_some (refusal_in (reply_to room (commands.Begin spec)))
taken_found rooms None spec known = ap is_some known
taken_found rooms (Some room) spec known = ap is_some known

pub begun_known : (rooms : RoomsByName) (room : Option OpenRoom) (spec : RoomSpec) → simulators_of spec.name rooms ≡ simulators_in room
    → simulators_of spec.name (rooms_begun rooms spec) ≡ simulators_in (room_after room (commands.Begin spec))
begun_known rooms None spec known = ap (λ (b : Bool). simulators_of spec.name (cond b rooms (with_room rooms spec.name (Some spec.simulators)))) (ap is_some known) ∙ own_room spec.name (Some spec.simulators) rooms
begun_known rooms (Some room) spec known = ap (λ (b : Bool). simulators_of spec.name (cond b rooms (with_room rooms spec.name (Some spec.simulators)))) (ap is_some known) ∙ known

pub others_begun : (rooms : RoomsByName) (spec : RoomSpec) (name : List ℕ) → bytes_eq name spec.name ≡ false → simulators_of name (rooms_begun rooms spec) ≡ simulators_of name rooms
others_begun rooms spec name differ = by (is_some (simulators_of spec.name rooms))
  where
    by : (b : Bool) → simulators_of name (cond b rooms (with_room rooms spec.name (Some spec.simulators))) ≡ simulators_of name rooms
    by true = refl
    by false = other_room name spec.name (Some spec.simulators) rooms differ
