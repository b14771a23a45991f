use Rattle.std.proofs.Common.{◌≡◌, ◌∙◌, Ok, refl, sym, ap, subst}
use Rattle.service_core.specs.declared.command.Command.TheVariants.{Step}
use Rattle.script_play.specs.declared.entries.Entry.{Entry as First}
use Rattle.script_play.specs.Script.{Ask, asks_at, command_in}
use Rattle.script_play.specs.Play.{IsDone, Replied}
use Rattle.script_play.proofs.Playing.{found_command, steps_asked, where_ok}
use Rattle.script_play.proofs.player.Player.take.Goals as goal

pub returns-in-Some-clause-plays : goal.returns-in-Some-clause-plays
returns-in-Some-clause-plays g c =
    where_ok c.step.result _ _
    (λ plays. λ entry asks.
    let found = found_command c.args.number (command_in c.in-Line.line.now) entry (subst (λ (first : First). asks_at c.args.number first ≡ Ok entry) c.in-Line.is asks) in
    let steps = steps_asked c.in-Some.name.now c.in-Some.sim c.in-Some.count found.0 (sym c.in-Some.ensures ∙ found.1) in
    let played = plays steps.0 in
    let command = Step c.in-Some.name.now c.in-Some.sim c.in-Some.count in
    (Replied command played.0, subst (λ e. IsDone c.args.kinds e (Replied command played.0)) (sym (found.2 ∙ ap Ask steps.1)) refl, played.1))
    c.step.ensures.plays

pub returns-clause-plays : goal.returns-clause-plays
returns-clause-plays g c =
    where_ok c.obey.result _ _
    (λ plays. λ entry asks.
    let found = found_command c.args.number (command_in c.in-Line.line.now) entry (subst (λ (first : First). asks_at c.args.number first ≡ Ok entry) c.in-Line.is asks) in
    let played = plays found.0 found.1 in
    (Replied found.0 played.0, subst (λ e. IsDone c.args.kinds e (Replied found.0 played.0)) (sym found.2) refl, played.1))
    c.obey.ensures.plays
