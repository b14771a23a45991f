-- Numbers that are drawn, and what is made of them.
use Rattle.std.proofs.Common.{◌≡◌, ◌≢◌, ◌∙◌, inl, inr, ℕ, zero, suc, ◌+◌, ◌-◌, ◌<◌, ◌≤◌, ◌^◌, ◌||◌, Bool, eqb, min, not, List, [], ◌∷◌, ◌++◌, Result, Ok, Err, sym, ap, subst, arith}
use Rattle.std.specs.Prelude.{IfOk}
use Rattle.std.specs.declared.alloc.AllocError.{AllocError}
use Rattle.rand_core.specs.Stream.{Stream}
use Rattle.room_spec.specs.Rooms.{RoomSpec}
use Rattle.room_core.specs.Calls.{RoomState, opening_state, room_after_settle}
use Rattle.room_core.specs.Fields.{Fields}
use Rattle.room_core.specs.Reading.{AreFieldsOf}
use Rattle.ws_history.specs.Reports.{report_of}
use Rattle.room_sample.specs.Drawn.{Acts, Crashes, IsThrough, Walks, WalksInto, Way, active_from, aimed, burning, burnt, fuse_after, one_from, unburnt}
use Rattle.room_sample.specs.Samples.{IsRunFrom, IsSettledFrom}
use Rattle.room_sample.specs.Schedules.{HasStopped, IsOutcome, IsSchedule, crashes_in, settled_by}
use Rattle.room_sample.specs.declared.active.Active.{Active}
use Rattle.room_sample.specs.declared.active.Fuse.{Fuse}
use Rattle.room_sample.specs.declared.active.Fuse.TheVariants.{After, Inside, Never}
use Rattle.room_sample.specs.declared.active.Style.{Style}
use Rattle.room_sample.specs.declared.run.Run.{Run}
use Rattle.room_sample.specs.declared.stretch.Stretch.{Stretch}
use Rattle.room_sample.proofs.Schedules.{led_so, outcome_of}
use Rattle.room_sample.proofs.Stopping.{all_stopped}

pub pow_few : (k : ℕ) → k < 7 → 2 ^ k ≤ 64
pow_few zero less = omega arith
pow_few (suc zero) less = omega arith
pow_few (suc (suc zero)) less = omega arith
pow_few (suc (suc (suc zero))) less = omega arith
pow_few (suc (suc (suc (suc zero)))) less = omega arith
pow_few (suc (suc (suc (suc (suc zero))))) less = omega arith
pow_few (suc (suc (suc (suc (suc (suc zero)))))) less = omega arith
pow_few (suc (suc (suc (suc (suc (suc (suc k))))))) less = absurd (omega (arith, less))

-- ---- who may act

pub none_active : (spec : RoomSpec) (style : Style) (random : Stream) (items : List Active) → items ≡ [] → (items, random) ≡ active_from spec style 0 random
unfolding active_from
none_active spec style random items is = ap (λ (l : List Active). (l, random)) is

one_active_suc : (spec : RoomSpec) (style : Style) (i : ℕ) (random middle later : Stream) (items items' : List Active) (one : Active) → (items, middle) ≡ active_from spec style i random → (one, later) ≡ one_from spec style i middle → items' ≡ items ++ one ∷ [] → (items', later) ≡ active_from spec style (suc i) random
unfolding active_from
one_active_suc spec style i random middle later items items' one before drawn more =
    ap (λ (l : List Active). (l, later)) more
    ∙ ap (λ (o : Active × Stream). (items ++ o.0 ∷ [], o.1)) drawn
    ∙ ap (λ (all : List Active × Stream). (all.0 ++ (one_from spec style i all.1).0 ∷ [], (one_from spec style i all.1).1)) before

pub one_active : (spec : RoomSpec) (style : Style) (i : ℕ) (random middle later : Stream) (items items' : List Active) (one : Active) → (items, middle) ≡ active_from spec style i random → (one, later) ≡ one_from spec style i middle → items' ≡ items ++ one ∷ [] → (items', later) ≡ active_from spec style (i + 1) random
one_active spec style i random middle later items items' one before drawn more =
    let next : suc i ≡ i + 1 = omega arith in
    subst (λ (n : ℕ). (items', later) ≡ active_from spec style n random) next (one_active_suc spec style i random middle later items items' one before drawn more)

-- ---- what a simulator does

pub unburnt_as : (simulator most taken : ℕ) (way after : Way) (fuse : Fuse) → fuse ≡ Never → Walks simulator most taken way after → Acts simulator most way fuse fuse after (eqb taken most)
unburnt_as simulator most taken way after fuse is walks =
    subst (λ (f : Fuse). Acts simulator most way f f after (eqb taken most)) (sym is) (unburnt taken after walks)

pub burnt_as : (simulator most : ℕ) (crashed : Bool) (way after : Way) (fuse : Fuse) → fuse ≡ After 0 → Crashes simulator way crashed after → Acts simulator most way fuse Never after (not crashed)
burnt_as simulator most crashed way after fuse is crashes =
    subst (λ (f : Fuse). Acts simulator most way f Never after (not crashed)) (sym is) (burnt crashed after crashes)

pub burning_as : (simulator most m left count taken : ℕ) (way after : Way) (fuse : Fuse) → fuse ≡ After left → left ≢ 0 → m ≡ min most left → count ≡ taken → Walks simulator m taken way after → Acts simulator most way fuse (After (left - count)) after (eqb taken m)
burning_as simulator most m left count taken way after fuse is some fewer count_is walks =
    subst (λ (f : Fuse). Acts simulator most way f (After (left - count)) after (eqb taken m)) (sym is)
    (subst (λ (k : ℕ). Acts simulator most way (After left) (After (left - k)) after (eqb taken m)) (sym count_is)
    (subst (λ (k : ℕ). Acts simulator most way (After left) (After (left - taken)) after (eqb taken k)) (sym fewer)
    (burning left taken after (omega (arith, some)) (subst (λ (k : ℕ). Walks simulator k taken way after) fewer walks))))

pub aimed_as : (simulator most others taken : ℕ) (entered : Bool) (way after : Way) (fuse : Fuse) → fuse ≡ Inside others → WalksInto simulator most taken way after entered → Acts simulator most way fuse (fuse_after others entered) after (entered || eqb taken most)
aimed_as simulator most others taken entered way after fuse is walks =
    subst (λ (f : Fuse). Acts simulator most way f (fuse_after others entered) after (entered || eqb taken most)) (sym is) (aimed others taken entered after walks)

-- ---- a run

pub run_from : (spec : RoomSpec) (crashes : ℕ) (random : Stream) (way : Way) (result : Result Run AllocError) → IfOk result (λ run. run.schedule.items ≡ way.schedule)
    → IfOk result (λ run. (fields : Fields) → AreFieldsOf (room_after_settle way.room) fields → run.states.items ≡ (report_of (room_after_settle way.room).spec fields).states.items)
    → IsThrough spec crashes random way → IfOk result (λ run. IsRunFrom spec crashes random run.schedule.items run.states.items)
run_from spec crashes random way (Err refused) schedule states drawn = tt
run_from spec crashes random way (Ok run) schedule states drawn = record {
  way = way;
  drawn = drawn;
  schedule_is = schedule;
  outcome = subst (λ (stretches : List Stretch). IsOutcome spec crashes stretches run.states.items) (sym schedule) (outcome_of spec crashes way run.states.items (led_so spec crashes random drawn.draws way drawn.active drawn.later drawn.led) states);
  ends = elim drawn.through [
    | inl none ↦ inr (λ i less. subst (λ (stretches : List Stretch). HasStopped spec stretches i) (sym schedule) (all_stopped spec crashes random drawn.draws way drawn.active drawn.later drawn.led none i less))
    | inr most ↦ inl most
  ];
}

-- the room of a run
pub settled_from : (spec : RoomSpec) (crashes : ℕ) (random : Stream) (way : Way) (schedule : List Stretch) (room : RoomState) → IsThrough spec crashes random way → schedule ≡ way.schedule → room ≡ room_after_settle way.room
    → IsSettledFrom spec crashes random schedule room
settled_from spec crashes random way schedule room drawn same room_is =
    let so = led_so spec crashes random drawn.draws way drawn.active drawn.later drawn.led in
    record {
      way = way;
      drawn = drawn;
      schedule_is = same;
      settled = record {
        may_come = subst (IsSchedule (opening_state spec)) (sym same) so.may_come;
        few = subst (λ (s : List Stretch). crashes_in s ≤ crashes) (sym same) (let few = so.few in omega (arith, few));
        room_is = room_is ∙ ap room_after_settle (sym so.leads) ∙ ap (λ (s : List Stretch). settled_by spec s) (sym same);
      };
    }
