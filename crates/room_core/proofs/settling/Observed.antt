-- Settling, with each of its steps seen: one simulator alone, and one after the other.
use Rattle.std.proofs.Common.{◌≡◌, ◌≢◌, ℕ, zero, suc, ◌+◌, ◌<◌, ◌≤◌, Bool, true, false, cond, List, [], ◌∷◌, ◌++◌, refl, sym, ap, ◌∙◌, subst, arith}
use Rattle.room_spec.specs.Rooms.{RoomSpec}
use Rattle.room_core.specs.Calls.{RoomState, has_crashed, room_after_settle, room_after_step, room_kind, step_bound, step_reply, with_sweep, woken, sweep_at}
use Rattle.room_core.specs.declared.reply.StepReply.{StepReply}
use Rattle.room_core.specs.declared.reply.StepReply.TheVariants as replies
use Rattle.room_core.specs.Settling.{each_in_order, in_order, ran_alone, settled, steps_while, turn_ended}
use Rattle.room_core.specs.Observing.{AreSeen, IsObserved, TakenStep, Traced, is_stepped, steps_of_settling, traced_kind, traced_step}
use Rattle.room_core.proofs.settling.SpecKept.{same_spec_step}
use Rattle.room_core.proofs.settling.Alone.{IsUp, Means, has_step, has_step_means, in_turn, left, same_spec_alone, same_spec_ended, step_up, steps_of}
use Rattle.room_core.proofs.settling.Settling.{AreAlike, alone_alike, ended_alike, settled_alike}

-- ---- while a test holds

module _ (test : RoomState → ℕ → Bool) (i : ℕ) (means : Means test i) where
  abbrev pub Noted : ℕ → Traced → Traced
  Noted most traced = steps_while traced_step (λ t. test t.room) most traced i

  more_by : (b : Bool) (one two traced : Traced) → (b ≡ true → one ≡ two) → cond b one traced ≡ cond b two traced
  more_by true one two traced same = same refl
  more_by false one two traced same = refl

  -- more than enough changes nothing
  enough : (most : ℕ) (traced : Traced) → IsUp traced.room i → step_bound traced.room.spec ≤ most + steps_of traced.room i → Noted most traced ≡ Noted (suc most) traced
  enough zero traced up within = end_by (test traced.room i) refl
    where
      end_by : (b : Bool) → test traced.room i ≡ b → traced ≡ cond b (traced_step traced i) traced
      end_by true is = absurd (let next = step_up traced.room i up (means traced.room is) in omega (arith, next.more, next.within, within))
      end_by false is = refl
  enough (suc most) traced up within = more_by (test traced.room i) _ _ traced (λ is.
      let next = step_up traced.room i up (means traced.room is) in
      enough most (traced_step traced i) (subst (λ (r : RoomState). IsUp r i) (sym next.is) next.up)
      (subst (λ (r : RoomState). step_bound r.spec ≤ most + steps_of r i) (sym next.is) (omega (arith, next.more, within))))

  goes_on : (traced : Traced) → IsUp traced.room i → test traced.room i ≡ true → Noted (step_bound traced.room.spec) traced ≡ Noted (step_bound (room_after_step traced.room i).spec) (traced_step traced i)
  goes_on traced up is =
      let most = step_bound traced.room.spec in
      enough most traced up (omega arith)
      ∙ ap (λ (b : Bool). cond b (Noted most (traced_step traced i)) traced) is
      ∙ ap (λ (spec : RoomSpec). Noted (step_bound spec) (traced_step traced i)) (sym (same_spec_step traced.room i))

  stops : (most : ℕ) (traced : Traced) → test traced.room i ≡ false → Noted most traced ≡ traced
  stops zero traced is = refl
  stops (suc most) traced is = ap (λ (b : Bool). cond b (Noted most (traced_step traced i)) traced) is

-- ---- seen steps

seen_more : {W : Type 0} (sees : W → RoomState → ℕ → W → Type 0) (taken : List TakenStep) (room : RoomState) (i : ℕ) (first last next : W) → AreSeen sees first taken last → sees last room i next
    → AreSeen sees first (taken ++ ((record { room = room; simulator = i }) ∷ [])) next
seen_more sees [] room i first last next is saw = (next, subst (λ w. sees w room i next) (sym is) saw, refl)
seen_more sees (step ∷ steps) room i first last next is saw = (is.0, is.1, seen_more sees steps room i is.0 last next is.2 saw)

module _ {W : Type 0} (sees : W → RoomState → ℕ → W → Type 0) where
  pub two_observed : (one two : Traced → Traced) (room between after : RoomState) (old middle new : W) → IsObserved sees one room old between middle → IsObserved sees two between middle after new
      → IsObserved sees (λ traced. two (one traced)) room old after new
  two_observed one two room between after old middle new first second = λ start taken are.
      let at = first start taken are in
      let then = second start at.0 at.2 in
      (then.0, ap two at.1 ∙ then.1, then.2)

  room_of : (change : Traced → Traced) (room after : RoomState) (old new : W) → IsObserved sees change room old after new → (change (record { room = room; taken = [] })).room ≡ after
  room_of change room after old new is = let at = is old [] refl in ap (λ (t : Traced). t.room) at.1

  steps_seen : (change : Traced → Traced) (room after : RoomState) (old new : W) → IsObserved sees change room old after new → AreSeen sees old (change (record { room = room; taken = [] })).taken new
  steps_seen change room after old new is = let at = is old [] refl in subst (λ (t : Traced). AreSeen sees old t.taken new) (sym at.1) at.2

  -- ---- on the way

  module _ (test : RoomState → ℕ → Bool) (i : ℕ) (means : Means test i) where
    -- on the way from one room, with the same end
    pub record IsRunning (start : RoomState) (old : W) (room : RoomState) (now : W) : Type 0 where
      pub up : IsUp room i
      pub goes : (first : W) (taken : List TakenStep) → AreSeen sees first taken old
          → (since : List TakenStep) × (Noted test i means (step_bound start.spec) (record { room = start; taken = taken }) ≡ Noted test i means (step_bound room.spec) (record { room = room; taken = since })) × AreSeen sees first since now

    pub starts : (room : RoomState) (old : W) → IsUp room i → IsRunning room old room old
    starts room old up = record { up = up; goes = λ first taken are. (taken, refl, are) }

    pub runs : (start : RoomState) (old : W) (room : RoomState) (now : W) (after : RoomState) (new : W) → IsRunning start old room now → test room i ≡ true → step_reply room i ≡ replies.Stepped → after ≡ room_after_step room i → sees now room i new
        → IsRunning start old after new × (left after i < left room i)
    runs start old room now after new on is stepped to saw =
        let next = step_up room i on.up (means room is) in
        let here : IsUp (room_after_step room i) i = subst (λ (r : RoomState). IsUp r i) (sym next.is) next.up in
        let less : left (room_after_step room i) i < left room i = subst (λ (r : RoomState). left r i < left room i) (sym next.is) (omega (arith, next.more, next.within)) in
        subst (λ (r : RoomState). IsRunning start old r new × (left r i < left room i)) (sym to) (
          record {
            up = here;
            goes = λ first taken are.
                let at = on.goes first taken are in
                let since = at.0 in
                let more = since ++ ((record { room = room; simulator = i }) ∷ []) in
                let noted : traced_step (record { room = room; taken = since }) i ≡ record { room = room_after_step room i; taken = more } = ap (λ (reply : StepReply). record { room = room_after_step room i; taken = cond (is_stepped reply) more since }) stepped in (
                  more,
                  at.1 ∙ goes_on test i means (record { room = room; taken = since }) on.up is ∙ ap (Noted test i means (step_bound (room_after_step room i).spec)) noted,
                  seen_more sees since room i first now new at.2 saw,
                );
          },
          less,
        )

    pub ended : (start : RoomState) (old : W) (room : RoomState) (now : W) → IsRunning start old room now → test room i ≡ false → IsObserved sees (λ traced. Noted test i means (step_bound traced.room.spec) traced) start old room now
    ended start old room now on is = λ first taken are.
        let at = on.goes first taken are in
        (at.0, at.1 ∙ stops test i means (step_bound room.spec) (record { room = room; taken = at.0 }) is, at.2)

  -- ---- one simulator

  pub crashed_ends : (room : RoomState) (old : W) (i : ℕ) → has_crashed room i ≡ true → IsObserved sees (λ traced. turn_ended traced_kind traced i) room old room old
  crashed_ends room old i gone = λ first taken are.
      let at : Traced = record { room = room; taken = taken } in
      (taken, ap (λ (b : Bool). cond b at (steps_while traced_step traced_kind.in_turn (step_bound room.spec) at i)) gone, are)

  pub turn_ends : (room after : RoomState) (old new : W) (i : ℕ) (means : Means in_turn i) → has_crashed room i ≡ false → IsObserved sees (λ traced. Noted in_turn i means (step_bound traced.room.spec) traced) room old after new
      → IsObserved sees (λ traced. turn_ended traced_kind traced i) room old after new
  turn_ends room after old new i means alive is = λ first taken are.
      let found = is first taken are in
      let at : Traced = record { room = room; taken = taken } in
      (found.0, ap (λ (b : Bool). cond b at (steps_while traced_step traced_kind.in_turn (step_bound room.spec) at i)) alive ∙ found.1, found.2)

  abbrev woken_at : ℕ → Traced → Traced
  woken_at i traced = traced_kind.wake traced i

  abbrev alone_at : ℕ → Traced → Traced
  alone_at i traced = traced_step (steps_while traced_step traced_kind.has_step (step_bound (woken_at i traced).room.spec) (woken_at i traced) i) i

  pub crashed_runs : (room : RoomState) (old : W) (i : ℕ) → has_crashed room i ≡ true → IsObserved sees (λ traced. ran_alone traced_kind traced i) room old room old
  crashed_runs room old i gone = λ first taken are.
      let at : Traced = record { room = room; taken = taken } in
      (taken, ap (λ (b : Bool). cond b at (alone_at i at)) gone, are)

  -- its quiet turns are counted anew, it runs, and a last call finds no step to take
  pub runs_alone : (room start end after : RoomState) (old new last : W) (i : ℕ) → has_crashed room i ≡ false → start ≡ with_sweep room i (woken (sweep_at room i)) → IsRunning has_step i (has_step_means i) start old end new → has_step end i ≡ false
      → step_reply end i ≢ replies.Stepped → after ≡ room_after_step end i → last ≡ new → IsObserved sees (λ traced. ran_alone traced_kind traced i) room old after last
  runs_alone room start end after old new last i alive is on stopped other to blind = λ first taken are.
      let at : Traced = record { room = room; taken = taken } in
      let found = ended has_step i (has_step_means i) start old end new on stopped first taken are in
      let since = found.0 in
      let ran : steps_while traced_step traced_kind.has_step (step_bound (woken_at i at).room.spec) (woken_at i at) i ≡ record { room = end; taken = since } =
      ap (λ (r : RoomState). steps_while traced_step traced_kind.has_step (step_bound r.spec) (record { room = r; taken = taken }) i) (sym is) ∙ found.1 in
      let none : traced_step (record { room = end; taken = since }) i ≡ record { room = after; taken = since } =
      ap (λ (b : Bool). record { room = room_after_step end i; taken = cond b (since ++ ((record { room = end; simulator = i }) ∷ [])) since }) (not_stepped (step_reply end i) other)
      ∙ ap (λ (r : RoomState). record { room = r; taken = since }) (sym to) in (
        since,
        ap (λ (b : Bool). cond b at (alone_at i at)) alive ∙ ap (λ (t : Traced). traced_step t i) ran ∙ none,
        subst (AreSeen sees first since) (sym blind) found.2,
      )
    where
      not_stepped : (reply : StepReply) → reply ≢ replies.Stepped → is_stepped reply ≡ false
      not_stepped replies.Stepped other = absurd (other refl)
      not_stepped replies.Idle other = refl
      not_stepped replies.OutOfTurns other = refl
      not_stepped replies.Crashed other = refl
      not_stepped replies.NoSimulator other = refl

-- ---- the rooms are those of settling

record IsRoomOf (m : ℕ) (traced : Traced) (room : RoomState) : Type 0 where
  same : traced.room ≡ room
  count : room.spec.simulators ≡ m

alike : (m : ℕ) → AreAlike traced_kind room_kind m (IsRoomOf m)
alike m = record {
  count = λ t r is. ap (λ (s : RoomState). s.spec.simulators) is.same ∙ is.count;
  other_count = λ t r is. is.count;
  most = λ t r is. ap room_kind.most is.same;
  crashed = λ t r i below is. ap (λ (s : RoomState). room_kind.has_crashed s i) is.same;
  in_turn = λ t r i below is. ap (λ (s : RoomState). room_kind.in_turn s i) is.same;
  has_step = λ t r i below is. ap (λ (s : RoomState). room_kind.has_step s i) is.same;
  step = λ t r i below is. record { same = ap (λ (s : RoomState). room_after_step s i) is.same; count = ap (λ (s : RoomSpec). s.simulators) (same_spec_step r i) ∙ is.count };
  wake = λ t r i below is. record { same = ap (λ (s : RoomState). room_kind.wake s i) is.same; count = is.count };
}

pub room_of_ended : (traced : Traced) (i : ℕ) → i < traced.room.spec.simulators → (turn_ended traced_kind traced i).room ≡ turn_ended room_kind traced.room i
room_of_ended traced i below =
    let m = traced.room.spec.simulators in
    let is = ended_alike traced_kind room_kind m (IsRoomOf m) (alike m) i traced traced.room below (record { same = refl; count = refl }) in
    is.same

pub room_of_alone : (traced : Traced) (i : ℕ) → i < traced.room.spec.simulators → (ran_alone traced_kind traced i).room ≡ ran_alone room_kind traced.room i
room_of_alone traced i below =
    let m = traced.room.spec.simulators in
    let is = alone_alike traced_kind room_kind m (IsRoomOf m) (alike m) i traced traced.room below (record { same = refl; count = refl }) in
    is.same

pub room_of_settled : (traced : Traced) → (settled traced_kind traced).room ≡ room_after_settle traced.room
room_of_settled traced =
    let m = traced.room.spec.simulators in
    let is = settled_alike traced_kind room_kind m (IsRoomOf m) (alike m) traced traced.room (record { same = refl; count = refl }) in
    is.same

-- ---- one simulator after the other

module _ {W : Type 0} (sees : W → RoomState → ℕ → W → Type 0) where
  pub record IsInOrder (change : Traced → ℕ → Traced) (count : ℕ) (start : RoomState) (old : W) (room : RoomState) (now : W) : Type 0 where
    pub so_far : IsObserved sees (in_order change count) start old room now
    pub same : room.spec ≡ start.spec

  pub nobody_yet : (change : Traced → ℕ → Traced) (room : RoomState) (old : W) → IsInOrder change 0 room old room old
  nobody_yet change room old = record { so_far = λ first taken are. (taken, refl, are); same = refl }

  one_more : (change : Traced → ℕ → Traced) (count : ℕ) (start room after : RoomState) (old now new : W) → IsInOrder change count start old room now → IsObserved sees (λ traced. change traced count) room now after new → after.spec ≡ room.spec
      → IsInOrder change (count + 1) start old after new
  one_more change count start room after old now new is more same =
      let next : suc count ≡ count + 1 = omega arith in
      record {
        so_far = subst (λ (c : ℕ). IsObserved sees (in_order change c) start old after new) next (two_observed sees (in_order change count) (λ traced. change traced count) start room after old now new is.so_far more);
        same = same ∙ is.same;
      }

  pub one_more_ends : (count : ℕ) (start room after : RoomState) (old now new : W) → count < room.spec.simulators → IsInOrder (turn_ended traced_kind) count start old room now → IsObserved sees (λ traced. turn_ended traced_kind traced count) room now after new
      → IsInOrder (turn_ended traced_kind) (count + 1) start old after new
  one_more_ends count start room after old now new below is more =
      one_more (turn_ended traced_kind) count start room after old now new is more
      (ap (λ (r : RoomState). r.spec) (sym (room_of sees (λ traced. turn_ended traced_kind traced count) room after now new more) ∙ room_of_ended (record { room = room; taken = [] }) count below) ∙ same_spec_ended room count)

  pub one_more_runs : (count : ℕ) (start room after : RoomState) (old now new : W) → count < room.spec.simulators → IsInOrder (ran_alone traced_kind) count start old room now → IsObserved sees (λ traced. ran_alone traced_kind traced count) room now after new
      → IsInOrder (ran_alone traced_kind) (count + 1) start old after new
  one_more_runs count start room after old now new below is more =
      one_more (ran_alone traced_kind) count start room after old now new is more
      (ap (λ (r : RoomState). r.spec) (sym (room_of sees (λ traced. ran_alone traced_kind traced count) room after now new more) ∙ room_of_alone (record { room = room; taken = [] }) count below) ∙ same_spec_alone room count)

  pub all_of_them : (change : Traced → ℕ → Traced) (count : ℕ) (start room : RoomState) (old now : W) → count ≡ start.spec.simulators → IsInOrder change count start old room now
      → IsObserved sees (each_in_order traced_kind change) start old room now
  all_of_them change count start room old now all is = λ first taken are.
      let at = is.so_far first taken are in
      (at.0, ap (λ (c : ℕ). in_order change c (record { room = start; taken = taken })) (sym all) ∙ at.1, at.2)

  -- ---- all of settling

  abbrev Ended : RoomState → W → RoomState → W → Type 0
  Ended = IsObserved sees (each_in_order traced_kind (turn_ended traced_kind))

  abbrev Ran : RoomState → W → RoomState → W → Type 0
  Ran = IsObserved sees (each_in_order traced_kind (ran_alone traced_kind))

  both : (room between after : RoomState) (old middle new : W) → Ended room old between middle → Ran between middle after new → IsObserved sees (settled traced_kind) room old after new
  both room between after old middle new first second =
      two_observed sees (each_in_order traced_kind (turn_ended traced_kind)) (each_in_order traced_kind (ran_alone traced_kind)) room between after old middle new first second

  pub settled_is : (room between after : RoomState) (old middle new : W) → Ended room old between middle → Ran between middle after new → after ≡ room_after_settle room
  settled_is room between after old middle new first second =
      sym (room_of sees (settled traced_kind) room after old new (both room between after old middle new first second)) ∙ room_of_settled (record { room = room; taken = [] })

  pub settled_seen : (room between after : RoomState) (old middle new : W) → Ended room old between middle → Ran between middle after new → AreSeen sees old (steps_of_settling room) new
  settled_seen room between after old middle new first second =
      steps_seen sees (settled traced_kind) room after old new (both room between after old middle new first second)
