use Rattle.std.proofs.Common.{List, subst}
use Rattle.simulator_lanes.specs.Panels.{Panel}
use Rattle.view_draw.specs.Drawn.{IsPictureOf}
use Rattle.view_draw.proofs.playing.picture_from.Goals as goal

pub returns : goal.returns
returns c =
    let same = c.into_rooms-rooms.ensures.rooms in
    record {
      left = c.into_rooms-rooms.result.entries;
      same_rooms = same;
      picture = subst (λ (panels : List Panel). IsPictureOf c.args.style c.into_rooms-rooms.result.entries panels c.in_ok-output.output) c.into_vec.ensures c.in_ok-output.ensures;
    }
