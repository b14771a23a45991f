-- What was done to the rooms of a script, and which outcomes are known to be open.
use Rattle.std.specs.Prelude.{ℕ, List, [], ◌∷◌, ◌++◌, Option, Some, None, if◌then◌else◌}
use Rattle.std.specs.Global.{Vec}
use Rattle.std.specs.List.{fold}
use Rattle.std.specs.Str.{bytes_eq}
use Rattle.service_core.specs.declared.command.Command.{Command}
use Rattle.service_core.specs.declared.command.Command.TheVariants as commands
use Rattle.service_core.specs.declared.reply.Reply.{Reply}
use Rattle.service_core.specs.declared.reply.Reply.TheVariants.{Begun, Steps, Crash, Settled}
use Rattle.script_play.specs.declared.following.Order.{Order}
use Rattle.script_play.specs.declared.following.Order.TheVariants as orders
use Rattle.run_search.specs.Outcomes.{Ends}
use Rattle.room_search.specs.declared.beginning.Act.{Act}
use Rattle.room_search.specs.declared.beginning.Act.TheVariants as acts
use Rattle.view_open.specs.declared.log.What.{What}
use Rattle.view_open.specs.declared.log.What.TheVariants.{Opened, Did}

-- ---- what a command did

abbrev pub opened_by : Reply → Option What
opened_by Begun = Some Opened
opened_by reply = None

abbrev pub stepped_by : ℕ → ℕ → Reply → Option What
stepped_by sim count (Steps taken last) = Some (Did (acts.Steps sim count))
stepped_by sim count reply = None

abbrev pub crashed_by : ℕ → Reply → Option What
crashed_by sim (Crash last) = Some (Did (acts.Crash sim))
crashed_by sim reply = None

abbrev pub settled_by : Reply → Option What
settled_by Settled = Some (Did acts.Settle)
settled_by reply = None

-- what a command did to the room of its name, by its reply, if it changed it
abbrev pub what_by : Command → Reply → Option What
what_by (commands.Begin spec) reply = opened_by reply
what_by (commands.Step name sim count) reply = stepped_by sim count reply
what_by (commands.Crash name sim) reply = crashed_by sim reply
what_by (commands.Settle name) reply = settled_by reply
what_by (commands.Report name) reply = None
what_by (commands.Close name) reply = None

-- what a command did to the room of its name, and the outcomes that are open after it, if all are known
pub record Noted : Type 0 where
  pub name : List ℕ
  pub what : What
  pub known : Option (Vec Ends)

-- ---- all that was done to the room of one name since it was opened

abbrev pub acts_after : List Act → What → List Act
acts_after acts Opened = []
acts_after acts (Did act) = acts ++ act ∷ []

abbrev pub acts_with : List ℕ → List Act → Noted → List Act
acts_with name acts one = if bytes_eq name one.name then acts_after acts one.what else acts

abbrev pub acts_of : List ℕ → List Noted → List Act
acts_of name log = fold (λ acts one. acts_with name acts one) [] log

-- ---- the outcomes that were open in it when all were known last

-- none was known when the room was opened
abbrev pub known_before : List Ends → What → List Ends
known_before known Opened = []
known_before known (Did act) = known

abbrev pub known_if : List Ends → Option (Vec Ends) → List Ends
known_if known None = known
known_if known (Some all) = all.items

abbrev pub known_after : List Ends → Noted → List Ends
known_after known one = known_if (known_before known one.what) one.known

abbrev pub known_with : List ℕ → List Ends → Noted → List Ends
known_with name known one = if bytes_eq name one.name then known_after known one else known

abbrev pub known_of : List ℕ → List Noted → List Ends
known_of name log = fold (λ known one. known_with name known one) [] log

-- ---- inside the crate

-- what an order to a room did to it
abbrev pub what_in : Order → Reply → Option What
what_in orders.Open reply = opened_by reply
what_in (orders.Step sim count) reply = stepped_by sim count reply
what_in (orders.Crash sim) reply = crashed_by sim reply
what_in orders.Settle reply = settled_by reply
what_in orders.Report reply = None
what_in orders.Close reply = None
