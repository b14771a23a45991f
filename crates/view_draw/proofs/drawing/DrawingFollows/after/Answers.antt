use Rattle.std.proofs.Common.{◌∙◌, ℕ, List, sym, subst}
use Rattle.room_core.specs.Observing.{TakenStep}
use Rattle.service_core.specs.Replies.{name_in}
use Rattle.service_core.specs.Rooms.{room_at, steps_of}
use Rattle.script_play.specs.Following.{AreWatched, IsFor}
use Rattle.script_play.specs.declared.following.Order.{Order}
use Rattle.script_play.proofs.CallerLemmas.{where_ok}
use Rattle.view_draw.specs.Seen.{Keeps}
use Rattle.view_draw.proofs.Commands.{closed_draws, crash_draws, opened_draws, report_draws, settling_draws, step_draws}
use Rattle.view_draw.proofs.drawing.DrawingFollows.after.Goals as goal

pub returns-in-Open : goal.returns-in-Open
returns-in-Open c =
    let ready = c.args.self.now in
    where_ok c.open.result _ _
    (λ drawn. λ first earlier command is happens.
    let order = subst (λ (o : Order). IsFor o c.args.asked.now.name.now command) c.in-Open.is is.order in
    opened_draws earlier order.0 command ready.head ready.report happens.start c.args.reply first.panels ready.panels c.open.new.self.panels order.1 happens.is_ready.0 happens.is_ready.1 drawn)
    c.open.ensures

pub returns-in-Step : goal.returns-in-Step
returns-in-Step c =
    let ready = c.args.self.now in
    let name = c.args.asked.now.name.now in
    where_ok c.note.result _ _
    (λ drawn. λ first earlier command is happens.
    let order = subst (λ (o : Order). IsFor o name command) c.in-Step.is is.order in
    step_draws earlier name c.in-Step.sim c.in-Step.count command ready.head ready.report happens.start c.args.watch.now c.args.reply first.panels ready.panels c.note.new.self.panels order happens.is_ready.0 happens.is_ready.1
    (subst (λ (n : List ℕ). AreWatched Keeps happens.start (steps_of (room_at earlier n) command) c.args.watch.now) (sym is.name) happens.seen) drawn)
    c.note.ensures

pub returns-in-Settle : goal.returns-in-Settle
returns-in-Settle c =
    let ready = c.args.self.now in
    let name = c.args.asked.now.name.now in
    where_ok c.note-in-Settle.result _ _
    (λ drawn. λ first earlier command is happens.
    let order = subst (λ (o : Order). IsFor o name command) c.in-Settle.is is.order in
    settling_draws earlier name command ready.head ready.report happens.start c.args.watch.now c.args.reply first.panels ready.panels c.note-in-Settle.new.self.panels order happens.is_ready.0 happens.is_ready.1
    (subst (λ (n : List ℕ). AreWatched Keeps happens.start (steps_of (room_at earlier n) command) c.args.watch.now) (sym is.name) happens.seen) drawn)
    c.note-in-Settle.ensures

pub returns-in-Crash : goal.returns-in-Crash
returns-in-Crash c =
    let ready = c.args.self.now in
    let name = c.args.asked.now.name.now in
    where_ok c.crash.result _ _
    (λ drawn. λ first earlier command is happens.
    let order = subst (λ (o : Order). IsFor o name command) c.in-Crash.is is.order in
    crash_draws earlier name c.in-Crash.sim command c.args.reply first.panels ready.panels c.crash.new.self.panels order happens.is_ready.0 drawn)
    c.crash.ensures

pub returns-in-Report : goal.returns-in-Report
returns-in-Report c = λ first earlier command is happens.
    let order = subst (λ (o : Order). IsFor o c.args.asked.now.name.now command) c.in-Report.is is.order in
    report_draws earlier c.args.asked.now.name.now command c.args.reply first.panels c.args.self.now.panels order happens.is_ready.0

pub returns : goal.returns
returns c = λ first earlier command is happens.
    let ready = c.args.self.now in
    let name = c.args.asked.now.name.now in
    let order = subst (λ (o : Order). IsFor o name command) c.in-Close.is is.order in
    closed_draws earlier c.args._rooms.now name command ready.head ready.report happens.start c.args.reply first.panels ready.panels c.close.new.self.panels order happens.is_ready.0 happens.is_ready.1 happens.applies c.close.ensures
