-- A command with one more subcommand.
use Rattle.std.proofs.Common.{◌≡◌, false, Result, Ok, Err, ap, ap₂, ◌∙◌}
use Rattle.std.specs.Prelude.{IfOk, IsOkAnd}
use Rattle.clap.specs.Words.{App, app_of, with_subcommand}
use Rattle.clap.specs.declared.builder.command.Command.{Command}
use Rattle.clap.specs.declared.builder.command.Command.TheViews.{out-Command}

-- what `with_subcommand` says of a new command
abbrev Grows : {E : Type 0} → App → Result Command E → Command → Type 0
Grows whole part new = IsOkAnd part (λ command. (out-Command command).has_globals ≡ false → app_of new ≡ with_subcommand whole (app_of command).top)

pub grown : {E : Type 0} (whole before sub : App) (part : Result Command E) (new : Command) → whole ≡ before → IfOk part (λ command. app_of command ≡ sub) → IfOk part (λ command. (out-Command command).has_globals ≡ false) → Grows whole part new → app_of new ≡ with_subcommand before sub.top
grown whole before sub (Ok command) new was is local grows = grows local ∙ ap₂ with_subcommand was (ap (λ (app : App). app.top) is)
grown whole before sub (Err error) new was is local grows = absurd grows

pub all_grown : {E : Type 0} (whole before sub : App) (part new : Result Command E) → whole ≡ before → IfOk part (λ command. app_of command ≡ sub) → IfOk part (λ command. (out-Command command).has_globals ≡ false) → IfOk new (Grows whole part) → IfOk new (λ command. app_of command ≡ with_subcommand before sub.top)
all_grown whole before sub part (Ok command) was is local grows = grown whole before sub part command was is local grows
all_grown whole before sub part (Err error) was is local grows = tt
