-- What follows a script: it sees each thing that is done, with the rooms before and after it.
use Rattle.std.specs.Prelude.{◌≡◌, ⊤, ℕ, List, [], ◌∷◌, Option, Some, None, Result, Ok}
use Rattle.std.specs.declared.alloc.AllocError.{AllocError}
use Rattle.room_spec.specs.Rooms.{RoomSpec}
use Rattle.room_core.specs.Calls.{RoomState, decisions_of}
use Rattle.room_core.specs.Observing.{AreSeen, TakenStep}
use Rattle.service_core.specs.declared.command.Command.{Command}
use Rattle.service_core.specs.declared.command.Command.TheVariants as commands
use Rattle.service_core.specs.declared.reply.Reply.{Reply}
use Rattle.service_core.specs.Replies.{name_in}
use Rattle.service_core.specs.Rooms.{Applies, Entries, room_at, steps_of}
use Rattle.room_files.specs.declared.kinds.Kinds.{Kinds}
use Rattle.room_files.specs.declared.outcome.Outcome.{Outcome}
use Rattle.script_play.specs.Script.{Entry, script_says}
use Rattle.script_play.specs.Play.{AreDone, AreReplies, Done, Faulty, Replied, Unread, commands_of, ending_of, ending_with, ran_out_of_memory, is_refused, replies_in}
use Rattle.script_play.specs.declared.following.Asked.{Asked}
use Rattle.script_play.specs.declared.following.Order.{Order}
use Rattle.script_play.specs.declared.following.Order.TheVariants as orders

-- ---- a script, thing by thing

-- what was done leads from these rooms to those: a block that is refused leaves them as they are
abbrev pub Leaves : Entries → Done → Entries → Type 0
Leaves rooms (Replied command reply) after = Applies rooms command reply after
Leaves rooms (Faulty line fault) after = after ≡ rooms
Leaves rooms (Unread line) after = after ≡ rooms

-- All of this was done from these rooms on, and each thing was followed: `follows` says what it makes of the one that follows, by the rooms
-- before and after it. It led to those rooms.
abbrev pub AreFollowed : {F : Type 0} → (F → Entries → Done → Entries → F → Type 0) → Entries → F → List Done → Entries → F → Type 0
AreFollowed follows rooms first [] after last = (rooms ≡ after) × (first ≡ last)
AreFollowed follows rooms first (done ∷ all) after last =
    (next : Entries) × (middle : _) × Leaves rooms done next × follows first rooms done next middle × AreFollowed follows next middle all after last

-- What comes of a whole script, where blocks of these kinds are read: of each of its entries, of the rooms, of the one that follows it, and at the end.
pub record IsPlay {F : Type 0} (follows : F → Entries → Done → Entries → F → Type 0) (kinds : Kinds) (input : List ℕ) (first : F) (rooms : Entries) (last : F) (ending : Result Outcome AllocError) : Type 0 where
  pub entries : List Entry
  pub asked : script_says input ≡ Ok entries
  pub all : List Done
  pub each_entry : AreDone kinds entries all
  pub replies : AreReplies (commands_of all) (replies_in all)
  pub followed : AreFollowed follows [] first all rooms last
  pub ending_is : ending ≡ ending_of all

-- what the simulators of a room have decided, if there is one
abbrev pub decisions_at : Option RoomState → List (Option ℕ)
decisions_at None = []
decisions_at (Some room) = decisions_of room

-- ---- one command

-- the order to the room of this name is this command
abbrev pub IsFor : Order → List ℕ → Command → Type 0
IsFor orders.Open name command = (spec : RoomSpec) × (command ≡ commands.Begin spec)
IsFor (orders.Step sim count) name command = command ≡ commands.Step name sim count
IsFor (orders.Crash sim) name command = command ≡ commands.Crash name sim
IsFor orders.Settle name command = command ≡ commands.Settle name
IsFor orders.Report name command = command ≡ commands.Report name
IsFor orders.Close name command = command ≡ commands.Close name

pub record IsAsked (asked : Asked) (command : Command) : Type 0 where
  pub name : asked.name.now ≡ name_in command
  pub order : IsFor asked.order asked.name.now command

-- the simulator that an order is for, if it is for one
abbrev pub sim_for : Order → ℕ
sim_for orders.Open = 0
sim_for (orders.Step sim count) = sim
sim_for (orders.Crash sim) = sim
sim_for orders.Settle = 0
sim_for orders.Report = 0
sim_for orders.Close = 0

-- what sees steps has seen these, if there is something that does
abbrev pub AreWatched : {W : Type 0} → (W → RoomState → ℕ → W → Type 0) → Option W → List TakenStep → Option W → Type 0
AreWatched sees None steps None = ⊤
AreWatched sees None steps (Some new) = ⊥
AreWatched sees (Some old) steps None = ⊥
AreWatched sees (Some old) steps (Some new) = AreSeen sees old steps new

-- A command was executed, for which the one that follows had made itself ready, and the steps that the command took were seen.
pub record Happens {F W : Type 0} (readies : F → Entries → Command → F → Option W → Type 0) (sees : W → RoomState → ℕ → W → Type 0) (first : F) (rooms : Entries) (command : Command) (ready : F) (reply : Reply) (watch : Option W) (after : Entries) : Type 0 where
  pub start : Option W
  pub is_ready : readies first rooms command ready start
  pub applies : Applies rooms command reply after
  pub seen : AreWatched sees start (steps_of (room_at rooms (name_in command)) command) watch

-- ---- while it runs

-- One thing more was done and followed, of which this came.
pub record GoesOn {F : Type 0} (follows : F → Entries → Done → Entries → F → Type 0) (rooms : Entries) (first : F) (ending : Result Outcome AllocError) (done : Done) (after : Entries) (last : F) (ending_now : Result Outcome AllocError) : Type 0 where
  pub leaves : Leaves rooms done after
  pub is_followed : follows first rooms done after last
  pub ends : ending_now ≡ ending_with (ran_out_of_memory done) (is_refused done) ending
