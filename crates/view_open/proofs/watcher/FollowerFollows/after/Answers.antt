use Rattle.std.proofs.Common.{◌∙◌, ◌++◌, List, ℕ, ap}
use Rattle.script_play.specs.ReplyTexts.{reply_text}
use Rattle.script_play.proofs.CallerLemmas.{where_ok}
use Rattle.view_open.proofs.Following.{command_followed}
use Rattle.view_open.proofs.watcher.FollowerFollows.after.Goals as goal

pub returns : goal.returns
returns g c =
    let name = c.args.asked.now.name.now in
    let words_are = c.as_bytes-words.ensures ∙ c.in_ok-write_reply.ensures ∙ ap (λ (t : List ℕ). t ++ reply_text name c.sim.result c.args.reply) c.new-words.ensures ∙ ap (λ (s : ℕ). reply_text name s c.args.reply) c.sim.ensures in
    where_ok c.follow.result _ _
    (λ noted. λ first earlier command is happens.
    command_followed first.watcher c.args.self.now.watcher c.follow.new.self c.args.rooms.now c.args.asked.now.order name c.as_bytes-words.result.now c.what_in-what.result command c.args.reply happens.is_ready is.name is.order words_are c.what_in-what.ensures noted)
    c.follow.ensures
