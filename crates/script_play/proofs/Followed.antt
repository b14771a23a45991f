-- A script that is followed, thing by thing.
use Rattle.std.proofs.Common.{◌≡◌, ◌∙◌, ℕ, List, [], ◌∷◌, ◌++◌, refl, sym, ap, subst}
use Rattle.std.specs.List.{flat_map}
use Rattle.std.proofs.lemmas.Grind.{flat_map-append}
use Rattle.std.proofs.lemmas.List.{append-nil, append_assoc}
use Rattle.service_core.specs.declared.command.Command.{Command}
use Rattle.service_core.specs.declared.reply.Reply.{Reply}
use Rattle.service_core.specs.Rooms.{Entries}
use Rattle.service_core.proofs.CallerLemmas.{Ran, begins, goes_on}
use Rattle.room_files.specs.declared.kinds.Kinds.{Kinds}
use Rattle.room_files.specs.declared.outcome.Outcome.{Outcome}
use Rattle.std.specs.Prelude.{Result}
use Rattle.std.specs.declared.alloc.AllocError.{AllocError}
use Rattle.script_play.specs.Play.{Done, Faulty, HasRun, IsPlayFor, Replied, Unread, commands_in, commands_of, done_text, replies_in, reply_of}
use Rattle.script_play.specs.ReplyTexts.{sim_in}
use Rattle.script_play.specs.Following.{AreFollowed, IsFor, IsPlay, Leaves, sim_for}
use Rattle.script_play.specs.declared.following.Order.{Order}
use Rattle.script_play.specs.declared.following.Order.TheVariants as orders

-- one thing more was done, and followed
pub followed-push : {F : Type 0} (follows : F → Entries → Done → Entries → F → Type 0) (rooms : Entries) (first : F) (all : List Done) (done : Done) (between after : Entries) (middle last : F)
    → AreFollowed follows rooms first all between middle → Leaves between done after → follows middle between done after last → AreFollowed follows rooms first (all ++ done ∷ []) after last
followed-push follows rooms first [] done between after middle last is leaves one = (
  after,
  last,
  subst (λ (r : Entries). Leaves r done after) (sym is.0) leaves,
  subst (λ (r : Entries). follows first r done after last) (sym is.0) (subst (λ f. follows f between done after last) (sym is.1) one),
  (refl, refl),
)
followed-push follows rooms first (d ∷ all) done between after middle last is leaves one =
    (is.0, is.1, is.2, is.3, followed-push follows is.0 is.1 all done between after middle last is.4 leaves one)

-- what holds at first, and after one thing more if it did before, holds in the end
pub holds_along : {F : Type 0} (follows : F → Entries → Done → Entries → F → Type 0) (Holds : List Done → Entries → F → Type 0)
    → ((all : List Done) (rooms : Entries) (one : F) (done : Done) (after : Entries) (other : F) → Holds all rooms one → Leaves rooms done after → follows one rooms done after other → Holds (all ++ done ∷ []) after other)
    → (before : List Done) (rooms : Entries) (first : F) (all : List Done) (after : Entries) (last : F) → Holds before rooms first → AreFollowed follows rooms first all after last → Holds (before ++ all) after last
holds_along follows Holds step before rooms first [] after last holds is =
    subst (λ (l : List Done). Holds l after last) (sym (append-nil before)) (subst (λ (r : Entries). Holds before r last) is.0 (subst (λ f. Holds before rooms f) is.1 holds))
holds_along follows Holds step before rooms first (done ∷ all) after last holds is =
    subst (λ (l : List Done). Holds l after last) (append_assoc before (done ∷ []) all)
    (holds_along follows Holds step (before ++ done ∷ []) is.0 is.1 all after last (step before rooms first done is.0 is.1 holds is.2 is.3) is.4)

-- what follows, seen as something else
pub followed_as : {F G : Type 0} (view : F → G) (follows : G → Entries → Done → Entries → G → Type 0) (rooms : Entries) (first : F) (all : List Done) (after : Entries) (last : F)
    → AreFollowed (λ old before done now new. follows (view old) before done now (view new)) rooms first all after last → AreFollowed follows rooms (view first) all after (view last)
followed_as view follows rooms first [] after last is = (is.0, ap view is.1)
followed_as view follows rooms first (done ∷ all) after last is = (is.0, view is.1, is.2, is.3, followed_as view follows is.0 is.1 all after last is.4)

-- ---- the service

as_ran : (commands : List Command) (replies : List Reply) (entries : Entries) → HasRun commands replies entries → Ran commands replies entries
as_ran commands replies entries run = record { long = run.answers.count; rooms = run.rooms; answers = run.answers.alone; reports = run.answers.reports; wants = run.answers.wants }

of_ran : (commands : List Command) (replies : List Reply) (entries : Entries) → Ran commands replies entries → HasRun commands replies entries
of_ran commands replies entries ran = record { answers = record { count = ran.long; alone = ran.answers; wants = ran.wants; reports = ran.reports }; rooms = ran.rooms }

pub run_none : (rooms : Entries) → rooms ≡ [] → HasRun [] [] rooms
run_none rooms none = of_ran [] [] rooms (begins rooms none)

none_more : {A : Type 0} (of : Done → List A) (all : List Done) (done : Done) → of done ≡ [] → flat_map of (all ++ done ∷ []) ≡ flat_map of all
none_more of all done none = flat_map-append of all (done ∷ []) ∙ ap (λ (l : List _). flat_map of all ++ (l ++ [])) none ∙ append-nil (flat_map of all)

run_same : (all : List Done) (rooms after : Entries) (done : Done) → commands_in done ≡ [] → reply_of done ≡ [] → after ≡ rooms → HasRun (commands_of all) (replies_in all) rooms → HasRun (commands_of (all ++ done ∷ [])) (replies_in (all ++ done ∷ [])) after
run_same all rooms after done no_command no_reply same ran =
    subst (λ (cs : List Command). HasRun cs (replies_in (all ++ done ∷ [])) after) (sym (none_more commands_in all done no_command))
    (subst (λ (rs : List Reply). HasRun (commands_of all) rs after) (sym (none_more reply_of all done no_reply)) (subst (λ (e : Entries). HasRun (commands_of all) (replies_in all) e) (sym same) ran))

-- one thing more was done
pub run_on : (all : List Done) (rooms : Entries) (done : Done) (after : Entries) → HasRun (commands_of all) (replies_in all) rooms → Leaves rooms done after → HasRun (commands_of (all ++ done ∷ [])) (replies_in (all ++ done ∷ [])) after
run_on all rooms (Replied command reply) after ran applies =
    subst (λ (cs : List Command). HasRun cs (replies_in (all ++ Replied command reply ∷ [])) after) (sym (flat_map-append commands_in all (Replied command reply ∷ [])))
    (subst (λ (rs : List Reply). HasRun (commands_of all ++ command ∷ []) rs after) (sym (flat_map-append reply_of all (Replied command reply ∷ [])))
    (of_ran _ _ after (goes_on (commands_of all) (replies_in all) command reply rooms after (as_ran _ _ rooms ran) applies)))
run_on all rooms (Faulty line fault) after ran same = run_same all rooms after (Faulty line fault) refl refl same ran
run_on all rooms (Unread line) after ran same = run_same all rooms after (Unread line) refl refl same ran

-- all of it
pub run_of : {F : Type 0} (follows : F → Entries → Done → Entries → F → Type 0) (first : F) (all : List Done) (rooms : Entries) (last : F) → AreFollowed follows [] first all rooms last → HasRun (commands_of all) (replies_in all) rooms
run_of follows first all rooms last is =
    holds_along follows (λ all rooms f. HasRun (commands_of all) (replies_in all) rooms) (λ all rooms f done after g ran leaves one. run_on all rooms done after ran leaves) [] [] first all rooms last (run_none [] refl) is

-- ---- what is asked

pub sim_asked : (order : Order) (name : List ℕ) (command : Command) → IsFor order name command → sim_for order ≡ sim_in command
sim_asked orders.Open name command is = sym (ap sim_in is.1)
sim_asked (orders.Step sim count) name command is = sym (ap sim_in is)
sim_asked (orders.Crash sim) name command is = sym (ap sim_in is)
sim_asked orders.Settle name command is = sym (ap sim_in is)
sim_asked orders.Report name command is = sym (ap sim_in is)
sim_asked orders.Close name command is = sym (ap sim_in is)

-- ---- replies

-- what is written of each thing is written of all
texts_of : {F : Type 0} (output : F → List ℕ) (first : F) (all : List Done) (rooms : Entries) (last : F) → output first ≡ [] → AreFollowed (λ old before done after new. output new ≡ output old ++ done_text done) [] first all rooms last
    → output last ≡ flat_map done_text all
texts_of output first all rooms last none is =
    holds_along (λ old before done after new. output new ≡ output old ++ done_text done) (λ all rooms f. output f ≡ flat_map done_text all)
    (λ all rooms f done after g so_far leaves text. text ∙ ap (λ (t : List ℕ). t ++ done_text done) so_far ∙ ap (λ (t : List ℕ). flat_map done_text all ++ t) (sym (append-nil (done_text done))) ∙ sym (flat_map-append done_text all (done ∷ [])))
    [] [] first all rooms last none is

pub play_text : {F : Type 0} (kinds : Kinds) (output : F → List ℕ) (input : List ℕ) (first : F) (rooms : Entries) (last : F) (ending : Result Outcome AllocError) → output first ≡ [] → IsPlay (λ old before done after new. output new ≡ output old ++ done_text done) kinds input first rooms last ending
    → IsPlayFor kinds input ending (output last)
play_text kinds output input first rooms last ending none is = (is.entries, is.asked, record { all = is.all; each_entry = is.each_entry; replies = is.replies; output_is = texts_of output first is.all rooms last none is.followed; ending_is = is.ending_is })
