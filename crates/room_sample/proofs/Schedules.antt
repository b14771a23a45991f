-- One stretch more.
use Rattle.std.proofs.Common.{◌≡◌, ℕ, ◌+◌, ◌-◌, ◌<◌, ◌≤◌, Bool, true, false, eqb, min, List, [], ◌∷◌, ◌++◌, refl, sym, ap, ◌∙◌, subst, arith}
use Rattle.std.proofs.lemmas.Bool.{eqb-true, eqb-false}
use Rattle.std.proofs.lemmas.List.Sums.{sum_by-append}
use Rattle.rand_core.specs.Stream.{Stream}
use Rattle.room_spec.specs.Rooms.{RoomSpec}
use Rattle.room_core.specs.Calls.{RoomState, opening_state, room_after_crash, room_after_settle, room_after_steps, step_reply}
use Rattle.room_core.specs.Fields.{Fields}
use Rattle.room_core.specs.Reading.{AreFieldsOf}
use Rattle.room_core.specs.declared.reply.StepReply.TheVariants.{Stepped}
use Rattle.ws_history.specs.Reports.{report_of}
use Rattle.ws_history.specs.declared.states.ProcessState.{ProcessState}
use Rattle.room_sample.specs.Drawn.{Acts, Crashes, IsLed, IsScheduled, Walks, WalksInto, Way, aimed, burning, burnt, goes_on, opening_way, sets_out, unburnt, with_steps}
use Rattle.room_sample.specs.declared.active.Active.{Active}
use Rattle.room_sample.specs.declared.active.Fuse.{Fuse}
use Rattle.room_sample.specs.declared.stretch.Stretch.{Stretch}
use Rattle.room_sample.specs.declared.stretch.Stretch.TheVariants.{Steps, Crash}
use Rattle.room_sample.specs.Schedules.{IsOutcome, IsSchedule, MayCome, crashes_in, room_after_schedule, room_after_stretch}

more_comes : (room : RoomState) (schedule : List Stretch) (stretch : Stretch) → IsSchedule room schedule → MayCome (room_after_schedule room schedule) stretch → IsSchedule room (schedule ++ stretch ∷ [])
more_comes room [] stretch is may = (may, tt)
more_comes room (first ∷ schedule) stretch is may = (is.0, more_comes (room_after_stretch room first) schedule stretch is.1 may)

leads_on : (room : RoomState) (schedule : List Stretch) (stretch : Stretch) → room_after_schedule room (schedule ++ stretch ∷ []) ≡ room_after_stretch (room_after_schedule room schedule) stretch
leads_on room [] stretch = refl
leads_on room (first ∷ schedule) stretch = leads_on (room_after_stretch room first) schedule stretch

more_crashes : (schedule : List Stretch) (stretch : Stretch) → crashes_in (schedule ++ stretch ∷ []) ≡ crashes_in schedule + crashes_in (stretch ∷ [])
more_crashes schedule stretch = sum_by-append _ schedule (stretch ∷ [])

module _ (spec : RoomSpec) (crashes : ℕ) where
  -- a stretch leads on, and charges what it has of crashes
  scheduled_on : (way : Way) (new : RoomState) (less : ℕ) (stretch : Stretch) → IsScheduled spec crashes way → MayCome way.room stretch → new ≡ room_after_stretch way.room stretch → less + crashes_in (stretch ∷ []) ≤ way.crashes_left
      → IsScheduled spec crashes (record { room = new; schedule = way.schedule ++ stretch ∷ []; crashes_left = less })
  scheduled_on way new less stretch is may to few = record {
    may_come = more_comes (opening_state spec) way.schedule stretch is.may_come (subst (λ (r : RoomState). MayCome r stretch) (sym is.leads) may);
    leads = leads_on (opening_state spec) way.schedule stretch ∙ ap (λ (r : RoomState). room_after_stretch r stretch) is.leads ∙ sym to;
    few = let count = more_crashes way.schedule stretch in omega (arith, count, is.few, few);
  }

  no_crash : (simulator count : ℕ) → crashes_in (Steps simulator count ∷ []) ≡ 0
  no_crash simulator count = refl

  one_crash : (simulator : ℕ) → crashes_in (Crash simulator ∷ []) ≡ 1
  one_crash simulator = refl

  steps_by : (b : Bool) (way : Way) (simulator taken : ℕ) → eqb taken 0 ≡ b → IsScheduled spec crashes way → taken ≤ 65535 → ((k : ℕ) → k < taken → step_reply (room_after_steps way.room simulator k) simulator ≡ Stepped)
      → IsScheduled spec crashes (with_steps way simulator taken)
  steps_by true way simulator taken is so few each =
      let none : taken ≡ 0 = eqb-true taken 0 is in
      subst (λ (count : ℕ). IsScheduled spec crashes (with_steps way simulator count)) (sym none) so
  steps_by false way simulator taken is so few each =
      let some = eqb-false taken 0 is in
      let none = no_crash simulator taken in
      rw is (scheduled_on way (room_after_steps way.room simulator taken) way.crashes_left (Steps simulator taken) so (omega (arith, some), few, each) refl (omega (arith, none)))

  pub walks_on : (way after : Way) (simulator most taken : ℕ) → IsScheduled spec crashes way → taken ≤ 65535 → Walks simulator most taken way after → IsScheduled spec crashes after
  walks_on way after simulator most taken so short walks =
      subst (IsScheduled spec crashes) (sym walks.leads) (steps_by (eqb taken 0) way simulator taken refl so short walks.each)

  enters_on : (way after : Way) (simulator most taken : ℕ) (entered : Bool) → IsScheduled spec crashes way → most ≤ 64 → WalksInto simulator most taken way after entered → IsScheduled spec crashes after
  enters_on way after simulator most taken entered so short walks =
      subst (IsScheduled spec crashes) (sym walks.1) (steps_by (eqb taken 0) way simulator taken refl so (omega (arith, walks.0.few, short)) walks.0.each)

  pub crashes_on : (way after : Way) (simulator : ℕ) (crashed : Bool) → IsScheduled spec crashes way → Crashes simulator way crashed after → IsScheduled spec crashes after
  crashes_on way after simulator true so is =
      let one = one_crash simulator in
      subst (IsScheduled spec crashes) (sym is.2) (scheduled_on way (room_after_crash way.room simulator) (way.crashes_left - 1) (Crash simulator) so is.1 refl (omega (arith, one, is.0)))
  crashes_on way after simulator false so is = subst (IsScheduled spec crashes) (sym is.1) so

  acts_on : (way after : Way) (simulator most : ℕ) (fuse left : Fuse) (stays : Bool) → IsScheduled spec crashes way → most ≤ 64 → Acts simulator most way fuse left after stays → IsScheduled spec crashes after
  acts_on way after simulator most fuse left stays so short (unburnt taken after' walks) = walks_on way after simulator most taken so (omega (arith, short, walks.few)) walks
  acts_on way after simulator most fuse left stays so short (burnt crashed after' is) = crashes_on way after simulator crashed so is
  acts_on way after simulator most fuse left stays so short (burning steps taken after' some walks) = walks_on way after simulator (min most steps) taken so (omega (arith, short, walks.few)) walks
  acts_on way after simulator most fuse left stays so short (aimed others taken entered after' walks) = enters_on way after simulator most taken entered so short walks

  pub led_so : (random : Stream) (draws : ℕ) (way : Way) (active : List Active) (later : Stream) → IsLed spec crashes random draws way active later → IsScheduled spec crashes way
  led_so random draws way active later (sets_out active' later' is) = record { may_come = tt; leads = refl; few = omega arith }
  led_so random draws way active later (goes_on before from to active' active'' middle later' led drawn) =
      acts_on from way drawn.one.simulator drawn.most drawn.one.fuse drawn.fuse drawn.stays (led_so random before from active' middle led) drawn.short drawn.acts

pub opened : (spec : RoomSpec) (crashes : ℕ) → IsScheduled spec crashes (opening_way spec crashes)
opened spec crashes = record { may_come = tt; leads = refl; few = omega arith }

pub outcome_of : (spec : RoomSpec) (crashes : ℕ) (way : Way) (states : List ProcessState) → IsScheduled spec crashes way → ((fields : Fields) → AreFieldsOf (room_after_settle way.room) fields → states ≡ (report_of (room_after_settle way.room).spec fields).states.items) → IsOutcome spec crashes way.schedule states
outcome_of spec crashes way states is reported = record {
  may_come = is.may_come;
  few = omega (arith, is.few);
  reported = subst (λ (room : RoomState). (fields : Fields) → AreFieldsOf (room_after_settle room) fields → states ≡ (report_of (room_after_settle room).spec fields).states.items) (sym is.leads) reported;
}
