-- What holds of a room after its simulators have ended their turns and then run alone, in order of number.
use Rattle.std.proofs.Common.{◌≡◌, ◌≢◌, ◌⊎◌, inl, inr, ℕ, zero, suc, ◌<◌, ◌≤◌, Bool, true, false, not, cond, ltb, leb, refl, sym, ap, ◌∙◌, subst, arith}
use Rattle.std.proofs.lemmas.Bool.{cases_Bool, ltb-false}
use mathlib.Core.Logic.{dite}
use native.Mathlib.Decide.{ℕ_discrete}
use Rattle.room_spec.specs.Rooms.{RoomSpec, IsWithinLimits, processes}
use Rattle.simulator.specs.declared.sweep.Ready.{Ready}
use Rattle.simulator.specs.declared.sweep.Ready.TheVariants as ready
use Rattle.simulator.specs.Minds.{MindOf, unfinished_in}
use Rattle.simulator.specs.Sweeps.{is_resting}
use Rattle.room_core.specs.Calls.{RoomState, configuration_of, is_step, step_bound, room_after_step, room_kind}
use Rattle.room_core.specs.Fields.{StepMap, Fields, changed, ready_in, fields_after_step, fields_kind, fields_after_settle}
use Rattle.room_core.specs.Reading.{AreFieldsOf}
use Rattle.room_core.specs.Settling.{steps_while, turn_ended, ran_alone, in_order}
use Rattle.room_core.proofs.fields.Replays.{shapes}
use Rattle.room_core.proofs.settling.Settling.{while_alike}
use Rattle.room_core.proofs.fields.FieldCalls.{IsSettling, fields_stand, step_are, in_turn_alike, has_step_alike, woken_fields}
use Rattle.room_core.proofs.settling.SpecKept.{same_spec_step}
use Rattle.room_core.proofs.settling.Alone.{IsUp, has_step, in_turn, has_step_means, in_turn_means, finished}
use Rattle.room_core.proofs.fields.Maps.{changed_here}
use Rattle.room_core.proofs.settling.Marks.{IsBlockedCount, blocked_anew}
use Rattle.room_core.proofs.settling.Blocking.{unresolved}
use Rattle.room_core.proofs.settling.Quieted.{IsStepOf, stands, wakes, moves, step_of, IsKeptBut, kept_quiet, kept_step, settled_kept, blocks_step}
use Rattle.room_core.specs.Settled.{IsSettledInMind}
use Rattle.room_core.proofs.settling.Idling.{Rests, idle_all}

module _ (spec : RoomSpec) (limits : IsWithinLimits spec) where
  -- fields of some room of this spec, of which something holds
  pub record Has (P : Fields → Type 0) (fields : Fields) : Type 0 where
    pub room : RoomState
    pub is : IsSettling P spec room fields

  limits_of : (room : RoomState) → room.spec ≡ spec → IsWithinLimits room.spec
  limits_of room same = subst IsWithinLimits (sym same) limits

  below_of : (room : RoomState) (i : ℕ) → room.spec ≡ spec → i < spec.simulators → i < room.spec.simulators
  below_of room i same below = subst (λ (s : RoomSpec). i < s.simulators) (sym same) below

  kept_at : (room : RoomState) (fields : Fields) (i : ℕ) → room.spec ≡ spec → AreFieldsOf room fields → IsKeptBut i fields (fields_after_step spec fields i)
  kept_at room fields i same are = subst (λ (s : RoomSpec). IsKeptBut i fields (fields_after_step s fields i)) same (kept_step room fields i (limits_of room same) are)

  blocks_at : (room : RoomState) (fields : Fields) (i : ℕ) → room.spec ≡ spec → AreFieldsOf room fields → IsBlockedCount (unresolved spec fields) (fields.mind i) (fields.quiet i)
      → IsBlockedCount (unresolved spec (fields_after_step spec fields i)) ((fields_after_step spec fields i).mind i) ((fields_after_step spec fields i).quiet i)
  blocks_at room fields i same are =
      subst (λ (s : RoomSpec). IsBlockedCount (unresolved s fields) (fields.mind i) (fields.quiet i) → IsBlockedCount (unresolved s (fields_after_step s fields i)) ((fields_after_step s fields i).mind i) ((fields_after_step s fields i).quiet i)) same
      (blocks_step room fields i (limits_of room same) are)

  up_at : (room : RoomState) (fields : Fields) (i : ℕ) → room.spec ≡ spec → AreFieldsOf room fields → i < spec.simulators → fields.crashed i ≡ false → IsUp room i
  up_at room fields i same are below alive =
      let limits' = limits_of room same in
      let within = below_of room i same below in
      record { shape = shapes (configuration_of room) limits' are.run; below = within; alive = (fields_stand room fields limits' are).reads.crashed i within ∙ alive }

  -- ---- the turns end

  abbrev RestBelow : ℕ → Fields → Type 0
  RestBelow count fields = (a : ℕ) → a < count → Rests fields a

  rests_kept : (i : ℕ) (fields after : Fields) (a : ℕ) → a ≢ i → IsKeptBut i fields after → Rests fields a → Rests after a
  rests_kept i fields after a other kept rests alive =
      ap (λ (m : MindOf StepMap). is_resting m.line) (kept.minds a other) ∙ rests (sym (kept.crashed a) ∙ alive)

  -- one simulator steps while a test holds
  ran : (P : Fields → Type 0) (i : ℕ) (test : RoomState → ℕ → Bool) (test' : Fields → ℕ → Bool) (most : ℕ)
      → ((room : RoomState) (fields : Fields) → IsSettling P spec room fields → test room i ≡ test' fields i)
      → ((room : RoomState) (fields : Fields) → room.spec ≡ spec → AreFieldsOf room fields → P fields → P (fields_after_step spec fields i))
      → (room : RoomState) (fields : Fields) → IsSettling P spec room fields → IsSettling P spec (steps_while room_after_step test most room i) (steps_while (fields_after_step spec) test' most fields i)
  ran P i test test' most same keeps room fields is =
      while_alike (IsSettling P spec) room_after_step (fields_after_step spec) test test' i most room fields same
      (λ r f on. record {
        same = same_spec_step r i ∙ on.same;
        are = step_are P spec limits r f i on;
        holds = keeps r f on.same on.are on.holds;
      }) is

  in_turn_same : (P : Fields → Type 0) (i : ℕ) → i < spec.simulators → (room : RoomState) (fields : Fields) → IsSettling P spec room fields → in_turn room i ≡ (fields_kind spec).in_turn fields i
  in_turn_same P i below room fields is = in_turn_alike P spec limits room fields i below is

  has_step_same : (P : Fields → Type 0) (i : ℕ) → i < spec.simulators → (room : RoomState) (fields : Fields) → IsSettling P spec room fields → has_step room i ≡ (fields_kind spec).has_step fields i
  has_step_same P i below room fields is = has_step_alike P spec limits room fields i below is

  ended_rests : (i : ℕ) (fields : Fields) → i < spec.simulators → Has (RestBelow i) fields → Has (RestBelow (suc i)) (turn_ended (fields_kind spec) fields i)
  ended_rests i fields below has = elim (cases_Bool (fields.crashed i)) [
    | inl crashed ↦
        subst (Has (RestBelow (suc i))) (sym (ap (λ (b : Bool). cond b fields end) crashed))
        (record {
          room = has.room;
          is = record {
            same = has.is.same;
            are = has.is.are;
            holds = λ a less. dite (ℕ_discrete a i)
                (λ (e : a ≡ i). λ alive. absurd (let wrong : true ≡ false = sym crashed ∙ sym (ap fields.crashed e) ∙ alive in cc))
                (λ (n : a ≢ i). has.is.holds a (omega (arith, n)));
          };
        })
    | inr alive ↦
        let room = has.room in
        let up = up_at room fields i has.is.same has.is.are below alive in
        let most = step_bound spec in
        let on = ran (RestBelow i) i in_turn (fields_kind spec).in_turn most (in_turn_same (RestBelow i) i below)
        (λ r f same are holds. λ a less. rests_kept i f (fields_after_step spec f i) a (λ e. omega (arith, e, less)) (kept_at r f i same are) (holds a less)) room fields has.is in
        let stopped = finished in_turn i (in_turn_means i) most room up (omega (arith, ap step_bound has.is.same)) in
        let last : (fields_kind spec).in_turn end i ≡ false = sym (in_turn_same (RestBelow i) i below (steps_while room_after_step in_turn most room i) end on) ∙ stopped in
        subst (Has (RestBelow (suc i))) (sym (ap (λ (b : Bool). cond b fields end) alive))
        (record {
          room = steps_while room_after_step in_turn most room i;
          is = record {
            same = on.same;
            are = on.are;
            holds = λ a less. dite (ℕ_discrete a i)
                (λ (e : a ≡ i). λ up_there. ap (λ (b : ℕ). is_resting (end.mind b).line) e ∙ rests_by (is_resting (end.mind i).line) last)
                (λ (n : a ≢ i). on.holds a (omega (arith, n)));
          };
        })
  ]
    where
      end : Fields
      end = steps_while (fields_after_step spec) (fields_kind spec).in_turn (step_bound spec) fields i

      rests_by : (b : Bool) → not b ≡ false → b ≡ true
      rests_by true is = refl
      rests_by false is = absurd cc

  order_ended : (count : ℕ) (fields : Fields) → count ≤ spec.simulators → Has (RestBelow 0) fields → Has (RestBelow count) (in_order (turn_ended (fields_kind spec)) count fields)
  order_ended zero fields few has = has
  order_ended (suc count) fields few has = ended_rests count (in_order (turn_ended (fields_kind spec)) count fields) few (order_ended count fields (omega arith) has)

  -- ---- each runs alone

  abbrev AllSettled : Fields → ℕ → Type 0
  AllSettled fields a = (j : ℕ) → j < processes spec → IsSettledInMind spec fields a j

  -- it has no turn left, or each process is settled in its mind
  abbrev IsOver : Fields → ℕ → Type 0
  IsOver fields a = fields.crashed a ≡ false → (spec.turns ≤ (fields.mind a).turns) ⊎ AllSettled fields a

  pub record AreOver (count : ℕ) (fields : Fields) : Type 0 where
    pub rests : (a : ℕ) → a < spec.simulators → Rests fields a
    pub over : (a : ℕ) → a < count → IsOver fields a

  record IsAlone (i : ℕ) (fields : Fields) : Type 0 where
    rests : (a : ℕ) → a < spec.simulators → a ≢ i → Rests fields a
    blocks : IsBlockedCount (unresolved spec fields) (fields.mind i) (fields.quiet i)
    over : (a : ℕ) → a < i → IsOver fields a

  over_kept : (i : ℕ) (fields after : Fields) (a : ℕ) → a ≢ i → IsKeptBut i fields after → IsOver fields a → IsOver after a
  over_kept i fields after a other kept over alive = elim (over (sym (kept.crashed a) ∙ alive)) [
    | inl out ↦ inl (subst (λ (m : MindOf StepMap). spec.turns ≤ m.turns) (sym (kept.minds a other)) out)
    | inr settled ↦ inr (λ j low. settled_kept spec i fields after a j kept (kept.minds a other) (settled j low))
  ]

  alone_step : (i : ℕ) (room : RoomState) (fields : Fields) → room.spec ≡ spec → AreFieldsOf room fields → IsAlone i fields → IsAlone i (fields_after_step spec fields i)
  alone_step i room fields same are is =
      let kept = kept_at room fields i same are in
      let after = fields_after_step spec fields i in
      record {
        rests = λ a less other. rests_kept i fields after a other kept (is.rests a less other);
        blocks = blocks_at room fields i same are is.blocks;
        over = λ a less. over_kept i fields after a (λ e. omega (arith, e, less)) kept (is.over a less);
      }

  alone_awake : (i : ℕ) (fields : Fields) → AreOver i fields → IsAlone i (record fields { quiet = changed fields.quiet i 0 })
  alone_awake i fields is = record {
    rests = λ a less other. is.rests a less;
    blocks = subst (λ (q : ℕ). IsBlockedCount (unresolved spec fields) (fields.mind i) q) (sym (changed_here fields.quiet i 0 i refl)) (blocked_anew {S = StepMap} (unresolved spec fields) (fields.mind i));
    over = λ a less alive. elim (is.over a less alive) [
      | inl out ↦ inl out
      | inr settled ↦ inr (λ j low. settled_kept spec i fields (record fields { quiet = changed fields.quiet i 0 }) a j (kept_quiet i fields (changed fields.quiet i 0)) refl (settled j low))
    ];
  }

  -- where it has no step to take
  out_by : (rests enough has_turns : Bool) → cond rests (cond enough ready.Idle (cond has_turns ready.Step ready.OutOfTurns)) ready.Step ≡ ready.OutOfTurns → (rests ≡ true) × (has_turns ≡ false)
  out_by true true has_turns is = absurd cc
  out_by true false true is = absurd cc
  out_by true false false is = (refl, refl)
  out_by false enough has_turns is = absurd cc

  stop_at : (room : RoomState) (fields : Fields) (i : ℕ) (answer : Ready) → room.spec ≡ spec → AreFieldsOf room fields → i < spec.simulators → IsAlone i fields → ready_in spec fields i ≡ answer → is_step answer ≡ false
      → (is_resting (fields.mind i).line ≡ true) × ((spec.turns ≤ (fields.mind i).turns) ⊎ AllSettled fields i)
  stop_at room fields i ready.Step same are below is answers stops = absurd cc
  stop_at room fields i ready.Idle same are below is answers stops =
      let idle : (is_resting (fields.mind i).line ≡ true) × AllSettled fields i =
      (subst (λ (s : RoomSpec). i < s.simulators → ready_in s fields i ≡ ready.Idle → ((a : ℕ) → a < s.simulators → a ≢ i → Rests fields a) → IsBlockedCount (unresolved s fields) (fields.mind i) (fields.quiet i)
      → (is_resting (fields.mind i).line ≡ true) × ((j : ℕ) → j < processes s → IsSettledInMind s fields i j)) same (idle_all room fields (limits_of room same) are i)) below answers is.rests is.blocks in
      (idle.0, inr idle.1)
  stop_at room fields i ready.OutOfTurns same are below is answers stops =
      let parts = out_by (is_resting (fields.mind i).line) (leb (unfinished_in (fields.mind i).goals) (fields.quiet i)) (ltb (fields.mind i).turns spec.turns) answers in
      (parts.0, inl (ltb-false _ _ parts.1))

  -- and a call of its step changes no mind then
  same_mind : (room : RoomState) (fields : Fields) (i : ℕ) (after : Fields) → IsStepOf room fields i after → has_step room i ≡ false → after.mind i ≡ fields.mind i
  same_mind room fields i after stands none = refl
  same_mind room fields i after wakes none = refl
  same_mind room fields i after (moves may is) none = absurd (let wrong : true ≡ false = sym (ap is_step is) ∙ none in cc)

  alone_over : (i : ℕ) (fields : Fields) → i < spec.simulators → Has (AreOver i) fields → Has (AreOver (suc i)) (ran_alone (fields_kind spec) fields i)
  alone_over i fields below has = elim (cases_Bool (fields.crashed i)) [
    | inl crashed ↦
        subst (Has (AreOver (suc i))) (sym (ap (λ (b : Bool). cond b fields after) crashed))
        (record {
          room = has.room;
          is = record {
            same = has.is.same;
            are = has.is.are;
            holds = record {
              rests = has.is.holds.rests;
              over = λ a less. dite (ℕ_discrete a i)
                  (λ (e : a ≡ i). λ alive. absurd (let wrong : true ≡ false = sym crashed ∙ sym (ap fields.crashed e) ∙ alive in cc))
                  (λ (n : a ≢ i). has.is.holds.over a (omega (arith, n)));
            };
          };
        })
    | inr alive ↦ subst (Has (AreOver (suc i))) (sym (ap (λ (b : Bool). cond b fields after) alive)) (over_after alive)
  ]
    where
      start : Fields
      start = record fields { quiet = changed fields.quiet i 0 }

      end : Fields
      end = steps_while (fields_after_step spec) (fields_kind spec).has_step (step_bound spec) start i

      after : Fields
      after = fields_after_step spec end i

      over_after : fields.crashed i ≡ false → Has (AreOver (suc i)) after
      over_after alive =
          let room = has.room in
          let same = has.is.same in
          let most = step_bound spec in
          let woke : AreFieldsOf (room_kind.wake room i) start = woken_fields room fields i (limits_of room same) (below_of room i same below) has.is.are in
          let first = room_kind.wake room i in
          let begins : IsSettling (IsAlone i) spec first start = record { same = same; are = woke; holds = alone_awake i fields has.is.holds } in
          let on = ran (IsAlone i) i has_step (fields_kind spec).has_step most (has_step_same (IsAlone i) i below) (alone_step i) first start begins in
          let last = steps_while room_after_step has_step most first i in
          let stopped = finished has_step i (has_step_means i) most first (up_at first start i same woke below alive) (omega (arith, ap step_bound same)) in
          let stops : is_step (ready_in spec end i) ≡ false = sym (has_step_same (IsAlone i) i below last end on) ∙ stopped in
          let stop = stop_at last end i (ready_in spec end i) on.same on.are below on.holds refl stops in
          let kept = kept_at last end i on.same on.are in
          let mind : after.mind i ≡ end.mind i = (subst (λ (s : RoomSpec). IsStepOf last end i (fields_after_step s end i) → (fields_after_step s end i).mind i ≡ end.mind i) on.same
          (λ step. same_mind last end i (fields_after_step last.spec end i) step stopped)) (subst (λ (s : RoomSpec). IsStepOf last end i (fields_after_step s end i)) on.same (step_of last end i (limits_of last on.same) on.are)) in
          record {
            room = room_after_step last i;
            is = record {
              same = same_spec_step last i ∙ on.same;
              are = step_are (IsAlone i) spec limits last end i on;
              holds = record {
                rests = λ a less. dite (ℕ_discrete a i)
                    (λ (e : a ≡ i). λ there. ap (λ (b : ℕ). is_resting (after.mind b).line) e ∙ ap (λ (m : MindOf StepMap). is_resting m.line) mind ∙ stop.0)
                    (λ (n : a ≢ i). rests_kept i end after a n kept (on.holds.rests a less n));
                over = λ a less. dite (ℕ_discrete a i)
                    (λ (e : a ≡ i). λ there. subst (λ (b : ℕ). (spec.turns ≤ (after.mind b).turns) ⊎ AllSettled after b) (sym e) (over_here mind kept stop.1))
                    (λ (n : a ≢ i). over_kept i end after a n kept (on.holds.over a (omega (arith, n))));
              };
            };
          }
        where
          over_here : after.mind i ≡ end.mind i → IsKeptBut i end after → (spec.turns ≤ (end.mind i).turns) ⊎ AllSettled end i → (spec.turns ≤ (after.mind i).turns) ⊎ AllSettled after i
          over_here mind kept (inl out) = inl (subst (λ (m : MindOf StepMap). spec.turns ≤ m.turns) (sym mind) out)
          over_here mind kept (inr settled) = inr (λ j low. settled_kept spec i end after i j kept mind (settled j low))

  order_alone : (count : ℕ) (fields : Fields) → count ≤ spec.simulators → Has (AreOver 0) fields → Has (AreOver count) (in_order (ran_alone (fields_kind spec)) count fields)
  order_alone zero fields few has = has
  order_alone (suc count) fields few has = alone_over count (in_order (ran_alone (fields_kind spec)) count fields) few (order_alone count fields (omega arith) has)

  pub settled_over : (room : RoomState) (fields : Fields) → room.spec ≡ spec → AreFieldsOf room fields → Has (AreOver spec.simulators) (fields_after_settle spec fields)
  settled_over room fields same are =
      let ended = order_ended spec.simulators fields (omega arith) (record { room = room; is = record { same = same; are = are; holds = λ a less. absurd (omega arith) } }) in
      order_alone spec.simulators (in_order (turn_ended (fields_kind spec)) spec.simulators fields) (omega arith)
      (record { room = ended.room; is = record { same = ended.is.same; are = ended.is.are; holds = record { rests = ended.is.holds; over = λ a less. absurd (omega arith) } } })
