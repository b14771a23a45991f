-- A command that is followed.
use Rattle.std.proofs.Common.{◌≡◌, ◌∙◌, ℕ, true, List, [], ◌∷◌, Option, refl, sym, ap, subst}
use Rattle.std.specs.Prelude.{Result}
use Rattle.std.specs.declared.alloc.AllocError.{AllocError}
use Rattle.room_files.specs.declared.outcome.Outcome.{Outcome}
use Rattle.room_files.specs.declared.kinds.Kinds.TheVariants.{All}
use Rattle.room_core.specs.Calls.{RoomState}
use Rattle.service_core.specs.declared.command.Command.{Command}
use Rattle.service_core.specs.declared.reply.Reply.{Reply}
use Rattle.service_core.specs.Replies.{name_in}
use Rattle.service_core.specs.Rooms.{Entries, room_at}
use Rattle.script_play.specs.Following.{AreFollowed, IsFor, IsPlay, sim_for}
use Rattle.script_play.specs.Play.{Done}
use Rattle.script_play.specs.ReplyTexts.{reply_text, sim_in}
use Rattle.script_play.proofs.CallerLemmas.{sim_asked}
use Rattle.script_play.specs.declared.following.Order.{Order}
use Rattle.script_play.specs.declared.following.Order.TheVariants as orders
use Rattle.view_open.specs.Logs.{what_by, what_in}
use Rattle.view_open.specs.Pasts.{PastEntries, acts_kept, known_kept, past_at}
use Rattle.view_open.specs.Watched.{Does, IsFollowed, IsNoted, Keeps, SoFar}
use Rattle.view_open.specs.declared.log.What.{What}
use Rattle.view_open.specs.declared.plan.OpenPlan.{OpenPlan}
use Rattle.view_open.specs.declared.watcher.Watcher.{Watcher}

what_same : (order : Order) (name : List ℕ) (command : Command) (reply : Reply) → IsFor order name command → what_in order reply ≡ what_by command reply
what_same orders.Open name command reply is = sym (ap (λ (c : Command). what_by c reply) is.1)
what_same (orders.Step sim count) name command reply is = sym (ap (λ (c : Command). what_by c reply) is)
what_same (orders.Crash sim) name command reply is = sym (ap (λ (c : Command). what_by c reply) is)
what_same orders.Settle name command reply is = sym (ap (λ (c : Command). what_by c reply) is)
what_same orders.Report name command reply is = sym (ap (λ (c : Command). what_by c reply) is)
what_same orders.Close name command reply is = sym (ap (λ (c : Command). what_by c reply) is)

abbrev Notes : Watcher → List ℕ → List ℕ → Option What → Option RoomState → Watcher → Type 0
Notes old name words what room new = Does (λ so_far next. IsNoted so_far name words what room next) old new

pub command_followed : (first ready new : Watcher) (rooms : Entries) (order : Order) (name words : List ℕ) (what : Option What) (command : Command) (reply : Reply) → ready ≡ first → name ≡ name_in command → IsFor order name command → words ≡ reply_text name (sim_for order) reply → what ≡ what_in order reply
    → Notes ready name words what (room_at rooms name) new → Notes first (name_in command) (reply_text (name_in command) (sim_in command) reply) (what_by command reply) (room_at rooms (name_in command)) new
command_followed first ready new rooms order name words what command reply same named is words_are what_is noted =
    subst (λ (w : Watcher). Notes w (name_in command) (reply_text (name_in command) (sim_in command) reply) (what_by command reply) (room_at rooms (name_in command)) new) same
    (subst (λ (n : List ℕ). Notes ready n (reply_text n (sim_in command) reply) (what_by command reply) (room_at rooms n) new) named
    (subst (λ (s : ℕ). Notes ready name (reply_text name s reply) (what_by command reply) (room_at rooms name) new) (sim_asked order name command is)
    (subst (λ (o : Option What). Notes ready name (reply_text name (sim_for order) reply) o (room_at rooms name) new) (what_is ∙ what_same order name command reply is)
    (subst (λ (t : List ℕ). Notes ready name t what (room_at rooms name) new) words_are noted))))

-- ---- one who follows by a watcher of its own

-- at first nothing was done
pub begins : (watcher : Watcher) (plan : OpenPlan) → watcher.plan ≡ plan → watcher.pasts.rooms.entries ≡ [] → watcher.output ≡ [] → watcher.well ≡ true → Keeps watcher (record { plan = plan; log = []; output = []; well = true })
begins watcher plan plan_is none output well = record {
  plan = plan_is;
  pasts = record {
    acts = λ name. ap (λ (entries : PastEntries). acts_kept (past_at entries name)) none;
    known = λ name. ap (λ (entries : PastEntries). known_kept (past_at entries name)) none;
  };
  output = output;
  well = well;
}

module _ {F : Type 0} (watcher : F → Watcher) where
  abbrev by_watcher : F → Entries → Done → Entries → F → Type 0
  by_watcher old rooms done after new = Does (λ so_far next. IsFollowed so_far rooms done after next) (watcher old) (watcher new)

  all_followed : (rooms : Entries) (first : F) (all : List Done) (after : Entries) (last : F) → AreFollowed by_watcher rooms first all after last → (so_far : SoFar) → Keeps (watcher first) so_far
      → (end : SoFar) × Keeps (watcher last) end × AreFollowed IsFollowed rooms so_far all after end
  all_followed rooms first [] after last is so_far keeps = (so_far, subst (λ (f : F). Keeps (watcher f) so_far) is.1 keeps, (is.0, refl))
  all_followed rooms first (done ∷ all) after last is so_far keeps =
      let one = is.3 so_far keeps in
      let rest = all_followed is.0 is.1 all after last is.4 one.0 one.1 in
      (rest.0, rest.1, (is.0, one.0, is.2, one.2, rest.2))

  pub play_followed : (script : List ℕ) (first : F) (rooms : Entries) (last : F) (ending : Result Outcome AllocError) (so_far : SoFar) → IsPlay by_watcher All script first rooms last ending → Keeps (watcher first) so_far
      → (end : SoFar) × Keeps (watcher last) end × IsPlay IsFollowed All script so_far rooms end ending
  play_followed script first rooms last ending so_far is keeps =
      let followed = all_followed [] first is.all rooms last is.followed so_far keeps in (
        followed.0,
        followed.1,
        record {
          entries = is.entries;
          asked = is.asked;
          all = is.all;
          each_entry = is.each_entry;
          replies = is.replies;
          followed = followed.2;
          ending_is = is.ending_is;
        },
      )
