use Rattle.std.proofs.Common.{◌∙◌, sym, subst}
use Rattle.step_words.specs.Reported.{IsReported}
use Rattle.service_core.specs.Replies.{name_in}
use Rattle.service_core.specs.Rooms.{room_at, steps_of}
use Rattle.script_play.specs.Following.{AreWatched, sim_for}
use Rattle.script_play.proofs.CallerLemmas.{sim_asked, where_ok}
use Rattle.view_trace.proofs.Tracing.{command_traced}
use Rattle.view_trace.proofs.tracer.TracerFollows.after.Goals as goal

pub returns : goal.returns
returns g c =
    where_ok c.write_left.result _ _
    (λ text. λ first earlier command is happens.
    let steps = steps_of (room_at earlier (name_in command)) command in
    let reported = subst (λ s. AreWatched IsReported s steps c.take.result) happens.is_ready.2 (subst (λ w. AreWatched IsReported happens.start steps w) (sym c.take.ensures.value) happens.seen) in
    command_traced _ (record { missed = first.missed; output = first.output }) (record { missed = c.write_answer.new.self.missed; output = c.args.self.now.output }) (record { missed = c.write_notes.new.self.missed; output = c.write_left.new.output })
    earlier c.args.rooms.now command c.args.reply c.take.result c.args.asked.now.name.now (sim_for c.args.asked.now.order) is.name (sim_asked c.args.asked.now.order c.args.asked.now.name.now command is.order) (c.write_answer.ensures.missed ∙ happens.is_ready.0) happens.is_ready.1
    c.write_answer.new.self.output c.write_notes.new.self.output reported c.in_ok-write_notes.ensures.whole c.in_ok-write_answer.ensures.output c.in_ok-write_notes.ensures.output text c.in_ok-write_notes.ensures.missed)
    c.write_left.ensures
