use Rattle.std.proofs.Common.{◌≡◌, ◌+◌, ◌≤◌, ℕ, List, [], length}
use Rattle.script_play.specs.Script.{Entry, script_from, script_says}
use Rattle.script_play.proofs.Scripts.{behind}
use Rattle.script_play.specs.Play.{AreDone, Done, ending_of}
use Rattle.script_play.specs.Following.{AreFollowed}
use Rattle.script_play.proofs.script.play_script.Given as goal

-- what is left asks for the rest, and what came of the entries before it was followed
abbrev pub invariant-loop-entry : goal.invariant-loop-entry
invariant-loop-entry g l =
    (most : ℕ) × (before : List Entry) × (all : List Done) × (length l.rest ≤ most) × (script_says l.script ≡ behind before (script_from most l.number l.rest)) × (l.number + length l.rest ≤ length l.script + 1)
    × AreDone l.kinds before all × AreFollowed g.F.Follows.follows [] l.fn.follower all l.player.service l.player.follower × (l.player.ending ≡ ending_of all)

abbrev pub decreases-loop-entry : goal.decreases-loop-entry
decreases-loop-entry g l = length l.rest
