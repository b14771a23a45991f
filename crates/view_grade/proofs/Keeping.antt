-- What is kept of what was done, one by one.
use Rattle.std.proofs.Common.{◌≡◌, ◌∙◌, ℕ, Bool, cond, List, [], Option, ap, ap₂, subst, sym}
use Rattle.std.specs.Prelude.{Result, if◌then◌else◌}
use Rattle.std.specs.declared.alloc.AllocError.{AllocError}
use Rattle.service_core.specs.Rooms.{Entries, room_at}
use Rattle.service_core.specs.declared.command.Command.{Command}
use Rattle.service_core.specs.declared.reply.Reply.{Reply}
use Rattle.room_files.specs.declared.outcome.Outcome.{Outcome}
use Rattle.room_files.specs.declared.kinds.Kinds.TheVariants.{All}
use Rattle.script_play.specs.Following.{AreFollowed, IsAsked, IsFor, IsPlay}
use Rattle.script_play.specs.Play.{Replied}
use Rattle.script_play.specs.declared.following.Asked.{Asked}
use Rattle.script_play.specs.declared.following.Order.{Order}
use Rattle.script_play.specs.declared.following.Order.TheVariants as orders
use Rattle.script_play.proofs.CallerLemmas.{followed_as}
use Rattle.view_grade.specs.Grades.{Graded, IsGraded, IsGradedBy, grade_shown, graded_ending, is_move, is_move_for, is_reached, nothing_graded, one_more, reported_in}
use Rattle.view_grade.specs.Judging.{ReportedParts}
use Rattle.view_grade.specs.declared.goal.Claim.{Claim}

same_move : (order : Order) (name : List ℕ) (command : Command) → IsFor order name command → is_move_for order ≡ is_move command
same_move orders.Open name command is = sym (ap is_move is.1)
same_move (orders.Step sim count) name command is = sym (ap is_move is)
same_move (orders.Crash sim) name command is = sym (ap is_move is)
same_move orders.Settle name command is = sym (ap is_move is)
same_move orders.Report name command is = sym (ap is_move is)
same_move orders.Close name command is = sym (ap is_move is)

-- a command was done
pub command_graded : (asked : Asked) (first ready now : Graded) (rooms left : Entries) (command : Command) (reply : Reply) → IsAsked asked command → ready.last ≡ first.last → ready.moves ≡ first.moves
    → now.last ≡ reported_in (room_at left asked.name.now) ready.last reply → now.moves ≡ (if is_move_for asked.order then one_more ready.moves else ready.moves) → IsGradedBy first rooms (Replied command reply) left now
command_graded asked first ready now rooms left command reply is last moves last_is moves_are = (
  last_is ∙ ap₂ (λ (n : List ℕ) (l : Option ReportedParts). reported_in (room_at left n) l reply) is.name last,
  moves_are ∙ ap₂ (λ (b : Bool) (m : ℕ). cond b (one_more m) m) (same_move asked.order asked.name.now command is.order) moves,
)

-- all of a script
pub script_graded : {F : Type 0} (view : F → Graded) (json : Bool) (claims : List Claim) (most : Option ℕ) (script : List ℕ) (first : F) (rooms : Entries) (last : F) (ending now : Result Outcome AllocError) (output : List ℕ) → view first ≡ nothing_graded
    → IsPlay (λ old before done left new. IsGradedBy (view old) before done left (view new)) All script first rooms last ending → output ≡ grade_shown json claims most (view last)
    → now ≡ graded_ending ending (is_reached claims most (view last).last (view last).moves) → IsGraded json claims most script now output
script_graded view json claims most script first rooms last ending now output none is output_is ending_is = record {
  entries = is.entries;
  asked = is.asked;
  all = is.all;
  each_entry = is.each_entry;
  replies = is.replies;
  rooms = rooms;
  graded = view last;
  followed = subst (λ (g : Graded). AreFollowed IsGradedBy [] g is.all rooms (view last)) none (followed_as view IsGradedBy [] first is.all rooms last is.followed);
  output_is = output_is;
  ending_is = ending_is ∙ ap (λ (e : Result Outcome AllocError). graded_ending e (is_reached claims most (view last).last (view last).moves)) is.ending_is;
}
