use Rattle.std.proofs.Common.{◌∙◌, Bool, true, [], ap, refl}
use Rattle.view_open.specs.Watched.{SoFar, ending_shown}
use Rattle.view_open.specs.declared.watcher.Follower.{Follower}
use Rattle.view_open.specs.declared.watcher.Watcher.{Watcher}
use Rattle.view_open.proofs.Following.{begins, play_followed}
use Rattle.view_open.proofs.playing.open_outcomes.Goals as goal

abbrev watcher_of : {P : Type 0} → Follower P → Watcher
watcher_of follower = follower.watcher

pub returns-clause-shown : goal.returns-clause-shown
returns-clause-shown g c =
    let played = c.in_ok-follower.field-0 in
    let first : SoFar = record { plan = c.args.plan.now; log = []; output = []; well = true } in
    let followed =
    play_followed watcher_of c.args.script.now _ played.service played.follower played.ending first c.in_ok-follower.ensures.played
    (begins c.new.result c.args.plan.now c.new.ensures.plan c.new.ensures.pasts c.new.ensures.output c.new.ensures.well) in
    record {
      first = first;
      last = followed.0;
      plan_is = refl;
      no_log = refl;
      no_output = refl;
      well = refl;
      rooms = played.service;
      played = played.ending;
      play = followed.2;
      output_is = followed.1.output;
      ending_is = c.ending_shown.ensures ∙ ap (λ (b : Bool). ending_shown b played.ending) followed.1.well;
    }
