use Rattle.room_files.specs.declared.kinds.Kinds.TheVariants.{Ordinary}
use Rattle.script_play.specs.declared.replies.Replies.{Replies}
use Rattle.script_play.proofs.Followed.{play_text}
use Rattle.script_play.proofs.replies.play.Goals as goal

pub returns-clause-text : goal.returns-clause-text
returns-clause-text c =
    let played = c.in_ok-follower.field-0 in
    play_text Ordinary (λ (r : Replies). r.output) c.args.script.now c.new.result played.service played.follower played.ending c.new.ensures c.in_ok-follower.ensures.played
