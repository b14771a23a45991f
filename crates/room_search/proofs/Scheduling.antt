-- One stretch more of a schedule.
use Rattle.std.proofs.Common.{◌≡◌, ℕ, ◌+◌, ◌≤◌, List, [], ◌∷◌, ◌++◌, refl, sym, ap, ◌∙◌, subst, arith}
use Rattle.std.proofs.lemmas.List.Sums.{sum_by-append}
use Rattle.room_core.specs.Calls.{RoomState}
use Rattle.room_sample.specs.declared.stretch.Stretch.{Stretch}
use Rattle.room_sample.specs.declared.stretch.Stretch.TheVariants.{Steps, Crash}
use Rattle.room_sample.specs.Schedules.{IsSchedule, MayCome, crashes_in, room_after_schedule, room_after_stretch}
use Rattle.room_search.specs.declared.running.Scheduled.{Scheduled}
use Rattle.room_search.specs.Taking.{IsOnTheWay}

more_comes : (room : RoomState) (schedule : List Stretch) (stretch : Stretch) → IsSchedule room schedule → MayCome (room_after_schedule room schedule) stretch → IsSchedule room (schedule ++ stretch ∷ [])
more_comes room [] stretch is may = (may, tt)
more_comes room (first ∷ schedule) stretch is may = (is.0, more_comes (room_after_stretch room first) schedule stretch is.1 may)

leads_on : (room : RoomState) (schedule : List Stretch) (stretch : Stretch) → room_after_schedule room (schedule ++ stretch ∷ []) ≡ room_after_stretch (room_after_schedule room schedule) stretch
leads_on room [] stretch = refl
leads_on room (first ∷ schedule) stretch = leads_on (room_after_stretch room first) schedule stretch

more_crashes : (schedule : List Stretch) (stretch : Stretch) → crashes_in (schedule ++ stretch ∷ []) ≡ crashes_in schedule + crashes_in (stretch ∷ [])
more_crashes schedule stretch = sum_by-append _ schedule (stretch ∷ [])

-- a stretch leads on, and charges what it has of crashes
pub goes_on_by : (start : RoomState) (crashes : ℕ) (old new : Scheduled) (stretch : Stretch) → IsOnTheWay start crashes old → MayCome old.room stretch → new.room ≡ room_after_stretch old.room stretch → new.schedule.items ≡ old.schedule.items ++ stretch ∷ []
    → new.crashes_left + crashes_in (stretch ∷ []) ≤ old.crashes_left → IsOnTheWay start crashes new
goes_on_by start crashes old new stretch is may to schedule few = record {
  may_come = subst (IsSchedule start) (sym schedule) (more_comes start old.schedule.items stretch is.may_come (subst (λ (r : RoomState). MayCome r stretch) (sym is.leads) may));
  leads = ap (room_after_schedule start) schedule ∙ leads_on start old.schedule.items stretch ∙ ap (λ (r : RoomState). room_after_stretch r stretch) is.leads ∙ sym to;
  few = let count = more_crashes old.schedule.items stretch in let is_few = is.few in let long = ap crashes_in schedule in omega (arith, count, is_few, few, long);
}

-- nothing was done
pub stays_on : (start : RoomState) (crashes : ℕ) (old new : Scheduled) → IsOnTheWay start crashes old → new.room ≡ old.room → new.schedule.items ≡ old.schedule.items → new.crashes_left ≡ old.crashes_left → IsOnTheWay start crashes new
stays_on start crashes old new is room schedule left = record {
  may_come = subst (IsSchedule start) (sym schedule) is.may_come;
  leads = ap (room_after_schedule start) schedule ∙ is.leads ∙ sym room;
  few = let is_few = is.few in let long = ap crashes_in schedule in omega (arith, is_few, left, long);
}

pub no_crash : (simulator count : ℕ) → crashes_in (Steps simulator count ∷ []) ≡ 0
no_crash simulator count = refl

pub one_crash : (simulator : ℕ) → crashes_in (Crash simulator ∷ []) ≡ 1
one_crash simulator = refl

-- a schedule begins
pub sets_out : (start : RoomState) (crashes : ℕ) (way : Scheduled) → way.room ≡ start → way.schedule.items ≡ [] → way.crashes_left ≡ crashes → IsOnTheWay start crashes way
sets_out start crashes way room schedule left = record {
  may_come = subst (IsSchedule start) (sym schedule) tt;
  leads = ap (room_after_schedule start) schedule ∙ sym room;
  few = let long = ap crashes_in schedule in omega (arith, left, long);
}
