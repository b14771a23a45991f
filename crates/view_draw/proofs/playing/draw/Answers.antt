use Rattle.std.proofs.Common.{[], ap, subst}
use Rattle.std.specs.Prelude.{List}
use Rattle.script_play.proofs.CallerLemmas.{followed_as}
use Rattle.script_play.specs.Following.{AreFollowed}
use Rattle.simulator_lanes.specs.Panels.{Panel}
use Rattle.view_draw.specs.Drawn.{IsDrawnBy}
use Rattle.view_draw.specs.declared.drawing.Drawing.{Drawing}
use Rattle.view_draw.proofs.Showing.{held_shown}
use Rattle.view_draw.proofs.playing.draw.Goals as goal

pub returns-clause-drawn : goal.returns-clause-drawn
returns-clause-drawn c =
    let play = c.in_ok-service.ensures.played in
    let from = c.in_ok-output.ensures in
    let played = c.in_ok-service.field-0 in
    let drawn : AreFollowed IsDrawnBy [] [] play.all played.service played.follower.panels = subst (λ (p : List Panel). AreFollowed IsDrawnBy [] p play.all played.service played.follower.panels) c.new.ensures
    (followed_as (λ (d : Drawing). d.panels) IsDrawnBy [] c.new.result play.all played.service played.follower play.followed) in
    record {
      entries = play.entries;
      asked = play.asked;
      all = play.all;
      each_entry = play.each_entry;
      rooms = played.service;
      panels = played.follower.panels;
      drawn = drawn;
      left = from.left;
      same_rooms = from.same_rooms;
      at_end = from.picture.at_end;
      finished_are = from.picture.finished_are;
      held = held_shown play.all played.service from.left played.follower.panels from.picture.at_end drawn from.same_rooms from.picture.finished_are;
      output_is = from.picture.output_is;
      ending_is = play.ending_is;
    }
