-- The lines of replies.
use Rattle.std.specs.Prelude.{ℕ, List, ◌++◌, codes, decimal}
use Rattle.room_core.specs.declared.reply.StepReply.{StepReply}
use Rattle.room_core.specs.declared.reply.StepReply.TheVariants as steps
use Rattle.room_core.specs.declared.reply.CrashReply.{CrashReply}
use Rattle.room_core.specs.declared.reply.CrashReply.TheVariants as crashes
use Rattle.report_text.specs.ReportTexts.{report_text}
use Rattle.service_core.specs.declared.command.Command.{Command}
use Rattle.service_core.specs.declared.command.Command.TheVariants as commands
use Rattle.service_core.specs.declared.reply.Reply.{Reply}
use Rattle.service_core.specs.declared.reply.Reply.TheVariants.{Begun, Steps, Crash, Settled, Report, Closed, Refused}
use Rattle.service_core.specs.Replies.{name_in, refusal_code}

-- the last of the five words is never said: a simulator that the room doesn't have is refused before
abbrev pub step_word : StepReply → List ℕ
step_word steps.Stepped = codes "stepped"
step_word steps.Idle = codes "idle"
step_word steps.OutOfTurns = codes "out of turns"
step_word steps.Crashed = codes "crashed"
step_word steps.NoSimulator = codes "nobody"

abbrev pub crash_word : CrashReply → List ℕ
crash_word crashes.Crashed = codes "crashed"
crash_word crashes.AlreadyCrashed = codes "already"
crash_word crashes.NoSimulator = codes "nobody"

-- the simulator that a command is for, if it is for one
abbrev pub sim_in : Command → ℕ
sim_in (commands.Step name sim count) = sim
sim_in (commands.Crash name sim) = sim
sim_in command = 0

-- the reply to a command that is for the room of this name, and for this simulator of it
abbrev pub reply_text : List ℕ → ℕ → Reply → List ℕ
reply_text name sim Begun = name ++ codes " opened\n"
reply_text name sim (Steps taken last) = name ++ (codes " step " ++ (decimal sim ++ (codes " " ++ (decimal taken ++ (codes " " ++ (step_word last ++ codes "\n"))))))
reply_text name sim (Crash reply) = name ++ (codes " crash " ++ (decimal sim ++ (codes " " ++ (crash_word reply ++ codes "\n"))))
reply_text name sim Settled = name ++ codes " settled\n"
reply_text name sim (Report report) = report_text name report
reply_text name sim Closed = name ++ codes " closed\n"
reply_text name sim (Refused refusal) = name ++ (codes " refused " ++ (decimal (refusal_code refusal) ++ codes "\n"))

abbrev pub reply_to_command : Command → Reply → List ℕ
reply_to_command command reply = reply_text (name_in command) (sim_in command) reply
