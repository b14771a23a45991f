-- What is kept after one more thing was done.
use Rattle.std.proofs.Common.{◌≡◌, ◌≢◌, ℕ, Bool, true, false, cond, not, List, [], ◌∷◌, ◌++◌, Option, Some, None, inl, inr, refl, sym, ap, ◌∙◌, subst}
use Rattle.std.specs.Prelude.{◌&&◌}
use Rattle.std.proofs.lemmas.Bool.{cases_Bool}
use Rattle.std.proofs.lemmas.List.Sums.{fold-append}
use Rattle.std.specs.Str.{bytes_eq}
use Rattle.room_core.specs.Calls.{RoomState}
use Rattle.service_core.specs.declared.command.Command.{Command}
use Rattle.service_core.specs.declared.reply.Reply.{Reply}
use Rattle.service_core.specs.declared.reply.Reply.TheVariants as replies
use Rattle.service_core.specs.declared.reply.Refusal.TheVariants.{NoRoom, NameTaken, NoSimulator, OutOfMemory}
use Rattle.service_core.specs.Replies.{name_in}
use Rattle.service_core.specs.Rooms.{Applies, Entries, IsRefusal, room_at}
use Rattle.script_play.specs.Following.{AreFollowed, Leaves}
use Rattle.script_play.proofs.CallerLemmas.{holds_along}
use Rattle.service_core.specs.Runs.{is_want}
use Rattle.script_play.specs.Play.{Done, Faulty, Replied, Unread}
use Rattle.view_transcript.specs.Courses.{Course, after_closed, course_after, course_of, followed, names_by, names_in, names_with, under}
use Rattle.view_transcript.specs.Transcripts.{HasNoted, IsFollowed, IsKept, IsNotedBy, IsNotedOn, Keeps, KeptRoom, KeptRooms, kept_at}
use Rattle.view_transcript.proofs.Following.{Stands, open_room, closed_room, follows_closed, follows_none, follows_open, kept_same, stands}
use Rattle.view_transcript.proofs.Lookups.{same_name}

course-push : (name : List ℕ) (all : List Done) (done : Done) → course_of name (all ++ done ∷ []) ≡ followed name (course_of name all) done
course-push name all done = fold-append (followed name) None all (done ∷ [])

names-push : (all : List Done) (done : Done) → names_in (all ++ done ∷ []) ≡ names_with (names_in all) done
names-push all done = fold-append names_with [] all (done ∷ [])

want_is : (reply : Reply) → is_want reply ≡ true → reply ≡ replies.Refused OutOfMemory
want_is replies.Begun is = absurd cc
want_is (replies.Steps taken last) is = absurd cc
want_is (replies.Crash reply) is = absurd cc
want_is replies.Settled is = absurd cc
want_is (replies.Report report) is = absurd cc
want_is replies.Closed is = absurd cc
want_is (replies.Refused NoRoom) is = absurd cc
want_is (replies.Refused NameTaken) is = absurd cc
want_is (replies.Refused NoSimulator) is = absurd cc
want_is (replies.Refused OutOfMemory) is = refl

no_want : (reply : Reply) → is_want reply ≡ false → reply ≢ replies.Refused OutOfMemory
no_want reply other is = absurd (let wrong : is_want reply ≡ true = ap is_want is in cc)

-- ---- the room of the command's name

follows : (rooms after : Entries) (command : Command) (reply : Reply) (course : Option Course) (core : Option RoomState) (kept now : Option KeptRoom) → Applies rooms command reply after → reply ≢ replies.Refused OutOfMemory
    → room_at rooms (name_in command) ≡ core → IsFollowed course core kept → Keeps rooms command reply kept now → IsFollowed (course_after course command) (room_at after (name_in command)) now
follows rooms after command reply None None None now applies granted there is keeps = follows_none rooms after command reply now applies granted there keeps
follows rooms after command reply None None (Some kept) now applies granted there is keeps = absurd is
follows rooms after command reply None (Some core) kept now applies granted there is keeps = absurd is
follows rooms after command reply (Some course) core None now applies granted there is keeps = absurd is
follows rooms after command reply (Some course) core (Some kept) now applies granted there is keeps = by (stands course core kept is)
  where
    by : Stands course core kept.block kept.notes kept.events → IsFollowed (course_after (Some course) command) (room_at after (name_in command)) now
    by (open_room notes opened none held here block are) =
        subst (λ (b : Bool). IsFollowed (Some (cond b (under course command) (after_closed course command))) (room_at after (name_in command)) now) (sym opened)
        (follows_open rooms after course kept notes block none held are command reply now applies granted (there ∙ here) keeps)
    by (closed_room known closed some gone are) =
        subst (λ (b : Bool). IsFollowed (Some (cond b (under course command) (after_closed course command))) (room_at after (name_in command)) now) (sym closed)
        (follows_closed rooms after course kept (subst (λ (c : Option RoomState). IsKept course c kept) gone is) command reply now applies granted (there ∙ gone) keeps)

-- ---- all rooms

module _ (all : List Done) (rooms after : Entries) (kept now : KeptRooms) (command : Command) (reply : Reply) (applies : Applies rooms command reply after) (noted : HasNoted all rooms kept) (is : IsNotedOn rooms kept command reply now) where
  course_is : (name : List ℕ) (own want : Bool) → bytes_eq name (name_in command) ≡ own → is_want reply ≡ want → course_of name (all ++ Replied command reply ∷ []) ≡ cond (own && not want) (course_after (course_of name all) command) (course_of name all)
  course_is name own want named wanted =
      course-push name all (Replied command reply)
      ∙ ap (λ (b : Bool). cond (b && not (is_want reply)) (course_after (course_of name all) command) (course_of name all)) named
      ∙ ap (λ (b : Bool). cond (own && not b) (course_after (course_of name all) command) (course_of name all)) wanted

  abbrev Stays : List ℕ → Type 0
  Stays name = IsFollowed (course_of name (all ++ Replied command reply ∷ [])) (room_at after name) (kept_at now name)

  other_room : (name : List ℕ) → bytes_eq name (name_in command) ≡ false → Stays name
  other_room name other =
      subst (λ (c : Option Course). IsFollowed c (room_at after name) (kept_at now name)) (sym (course_is name false (is_want reply) other refl))
      (subst (λ (r : Option RoomState). IsFollowed (course_of name all) r (kept_at now name)) (sym (applies.others name other))
      (subst (IsFollowed (course_of name all) (room_at rooms name)) (sym (is.others name other)) (noted.each name)))

  own_room : Stays (name_in command)
  own_room = elim (cases_Bool (bytes_eq (name_in command) (name_in command))) [
    | inr other ↦ other_room (name_in command) other
    | inl own ↦ elim (cases_Bool (is_want reply)) [
      | inl want ↦
          let wants = want_is reply want in
          let same = kept_same rooms command (kept_at kept (name_in command)) (kept_at now (name_in command)) (applies.want wants) (subst (λ (r : Reply). Keeps rooms command r (kept_at kept (name_in command)) (kept_at now (name_in command))) wants is.own) in
          let room = applies.refused (subst IsRefusal (sym wants) tt) (name_in command) in
          subst (λ (c : Option Course). IsFollowed c (room_at after (name_in command)) (kept_at now (name_in command))) (sym (course_is (name_in command) true true own want))
          (subst (λ (r : Option RoomState). IsFollowed (course_of (name_in command) all) r (kept_at now (name_in command))) (sym room)
          (subst (IsFollowed (course_of (name_in command) all) (room_at rooms (name_in command))) (sym same) (noted.each (name_in command))))
      | inr granted ↦
          subst (λ (c : Option Course). IsFollowed c (room_at after (name_in command)) (kept_at now (name_in command))) (sym (course_is (name_in command) true false own granted))
          (follows rooms after command reply (course_of (name_in command) all) (room_at rooms (name_in command)) (kept_at kept (name_in command)) (kept_at now (name_in command)) applies (no_want reply granted) refl (noted.each (name_in command)) is.own)
    ]
  ]

  pub noted_more : HasNoted (all ++ Replied command reply ∷ []) after now
  noted_more = record {
    names = is.names ∙ ap (names_by command reply) noted.names ∙ sym (names-push all (Replied command reply));
    each = λ name. elim (cases_Bool (bytes_eq name (name_in command))) [
      | inl own ↦ subst Stays (sym (same_name name (name_in command) own)) own_room
      | inr other ↦ other_room name other
    ];
  }

-- a block that was refused opens no room
noted_refused : (all : List Done) (rooms : Entries) (kept : KeptRooms) (done : Done) → ((name : List ℕ) (course : Option Course) → followed name course done ≡ course) → ((names : List (List ℕ)) → names_with names done ≡ names) → HasNoted all rooms kept
    → HasNoted (all ++ done ∷ []) rooms kept
noted_refused all rooms kept done same same_names noted = record {
  names = noted.names ∙ sym (names-push all done ∙ same_names (names_in all));
  each = λ name. subst (λ (c : Option Course). IsFollowed c (room_at rooms name) (kept_at kept name)) (sym (course-push name all done ∙ same name (course_of name all))) (noted.each name);
}

noted_same : (all : List Done) (rooms after : Entries) (kept now : KeptRooms) → after ≡ rooms → now ≡ kept → HasNoted all rooms kept → HasNoted all after now
noted_same all rooms after kept now same unchanged noted = subst (λ (r : Entries). HasNoted all r now) (sym same) (subst (HasNoted all rooms) (sym unchanged) noted)

-- one thing more was done
noted_on : (all : List Done) (rooms : Entries) (kept : KeptRooms) (done : Done) (after : Entries) (now : KeptRooms) → HasNoted all rooms kept → Leaves rooms done after → IsNotedBy kept rooms done after now → HasNoted (all ++ done ∷ []) after now
noted_on all rooms kept (Replied command reply) after now noted applies is = noted_more all rooms after kept now command reply applies noted is
noted_on all rooms kept (Faulty line fault) after now noted same is = noted_same (all ++ Faulty line fault ∷ []) rooms after kept now same is (noted_refused all rooms kept (Faulty line fault) (λ name course. refl) (λ names. refl) noted)
noted_on all rooms kept (Unread line) after now noted same is = noted_same (all ++ Unread line ∷ []) rooms after kept now same is (noted_refused all rooms kept (Unread line) (λ name course. refl) (λ names. refl) noted)

-- all of a script
pub all_noted : {F : Type 0} (view : F → KeptRooms) (first : F) (all : List Done) (rooms : Entries) (last : F) → view first ≡ [] → AreFollowed (λ old before done after new. IsNotedBy (view old) before done after (view new)) [] first all rooms last
    → HasNoted all rooms (view last)
all_noted view first all rooms last none is =
    holds_along (λ old before done after new. IsNotedBy (view old) before done after (view new)) (λ all rooms one. HasNoted all rooms (view one)) (λ all rooms one done after other. noted_on all rooms (view one) done after (view other))
    [] [] first all rooms last (subst (HasNoted [] []) (sym none) (record { names = refl; each = λ name. tt })) is
