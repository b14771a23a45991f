-- A simulator for which a process is done has stored its decision.
use Rattle.std.proofs.Common.{◌≡◌, ◌≢◌, ℕ, zero, suc, ◌+◌, ◌<◌, Bool, true, false, cond, ltb, List, [], ◌∷◌, length, get_or, set, map, min, replicate, slice_index, refl, sym, ap, ◌∙◌, subst, arith}
use Rattle.std.specs.List.{range_with_len}
use Rattle.std.proofs.lemmas.List.{get_or-set_same, get_or-set_other, length-set}
use mathlib.Core.Logic.{dite}
use native.Mathlib.Decide.{ℕ_discrete}
use Rattle.room_spec.specs.Rooms.{RoomSpec, IsWithinLimits, is_reduction, processes}
use Rattle.simulator.specs.declared.goal.Goal.{Goal}
use Rattle.simulator.specs.declared.goal.Goal.TheVariants as goals
use Rattle.simulator.specs.Minds.{current_round, first_goal, first_goals, first_write, goal_at}
use Rattle.simulator.specs.Turns.{after_write, asks_in}
use Rattle.protocol_lang.specs.Numbers.{greatest}
use Rattle.room_core.specs.Rooms.{Configuration, ScheduleEvent, steps, crashes, MayHappen, IsShaped}
use Rattle.room_core.specs.Calls.{RoomState, configuration_of}
use Rattle.room_core.specs.Fields.{Fields, changed, line, opening_fields, fields_after, replay_fields}
use Rattle.room_core.specs.Reading.{AreFieldsOf}
use Rattle.room_core.specs.Tracks.{StandsFor}
use Rattle.room_core.proofs.fields.Maps.{changed_here, changed_else}
use Rattle.room_core.proofs.fields.Prefixes.{over_run}
use Rattle.room_core.proofs.fields.Effects.{Own, own_of, process_on, Effect, line_effect, stores, proposes, raises, collects_word, collects_again, scans, shows_word, shows, loads_word, enters, looks, leaves, asks_in_vain, finds, gets_input, gathers, goes_to, will_decide, decides}
use Rattle.room_core.proofs.fields.FieldCalls.{leads_of}

abbrev pub HasStored : Own → ℕ → Type 0
HasStored own p = p < length own.mind.goals → goal_at own.mind.goals p ≡ goals.Done → own.out p ≢ 0

not_done_by : (b : Bool) (round value : ℕ) → cond b (goals.Write round value) goals.Spent ≢ goals.Done
not_done_by true round value is = cc
not_done_by false round value is = cc

no_done : (round : ℕ) → asks_in round ≢ goals.Done
no_done zero is = cc
no_done (suc round) is = cc

module _ (spec : RoomSpec) (fields : Fields) (own : Own) (p : ℕ) where
  ended_stored : (list : List Goal) (j : ℕ) (goal : Goal) → list ≡ own.mind.goals → goal ≢ goals.Done → HasStored own p → p < length (set list j goal) → goal_at (set list j goal) p ≡ goals.Done → own.out p ≢ 0
  ended_stored list j goal same other was below done =
      let within : p < length list = let long = length-set list j goal in omega arith in
      dite (ℕ_discrete p j)
      (λ (e : p ≡ j). absurd (other (sym (ap (λ (q : ℕ). get_or (set list j goal) q goals.Done) e ∙ get_or-set_same list j goal goals.Done (omega arith)) ∙ done)))
      (λ (n : p ≢ j). was (subst (λ (l : List Goal). p < length l) same within) (ap (λ (l : List Goal). goal_at l p) (sym same) ∙ sym (get_or-set_other list j p goal goals.Done n) ∙ done))

  same_stored : (list : List Goal) → list ≡ own.mind.goals → HasStored own p → p < length list → goal_at list p ≡ goals.Done → own.out p ≢ 0
  same_stored list same was below done = was (subst (λ (l : List Goal). p < length l) same below) (ap (λ (l : List Goal). goal_at l p) (sym same) ∙ done)

  decided_stored : (j entry : ℕ) → entry ≢ 0 → HasStored own p → p < length (set own.mind.goals j goals.Done) → goal_at (set own.mind.goals j goals.Done) p ≡ goals.Done → changed own.out j entry p ≢ 0
  decided_stored j entry some was below done = dite (ℕ_discrete p j)
      (λ (e : p ≡ j). λ zero_is. some (sym (changed_here own.out j entry p e) ∙ zero_is))
      (λ (n : p ≢ j). λ zero_is. was (let long = length-set own.mind.goals j goals.Done in omega arith) (sym (get_or-set_other own.mind.goals j p goals.Done goals.Done n) ∙ done) (sym (changed_else own.out j entry p n) ∙ zero_is))

  pub own_stored : (after : Own) → Effect spec fields own after → HasStored own p → HasStored after p
  own_stored after (stores j k value rest goal count process first last) was = was
  own_stored after (proposes j value rest goal none unentered within kind) was = was
  own_stored after (raises turn whole begun count) was = was
  own_stored after (collects_word turn count none more) was = was
  own_stored after (collects_again turn count none last several goes) was = was
  own_stored after (scans collects turn count none last ends) was = was
  own_stored after (gets_input chosen turn count less) was = ended_stored own.mind.goals own.mind.process (first_write spec (min (fields.value chosen (process_on own) 0) greatest) (process_on own)) refl (λ e. cc) was
  own_stored after (loads_word found turn less more) was = was
  own_stored after (shows_word turn count none more) was = was
  own_stored after (shows turn count none last) was = was
  own_stored after (enters turn count none) was = was
  own_stored after (looks turn count one) was = was
  own_stored after (leaves saw_two turn count one) was = was
  own_stored after (asks_in_vain asking asks is) was = ended_stored asking.goals asking.process (asks_in (current_round asking)) asks.goals (no_done (current_round asking)) was
  own_stored after (finds asking chosen asks is) was = same_stored asking.goals asks.goals was
  own_stored after (gathers reading reads more) was = same_stored reading.goals reads.goals was
  own_stored after (goes_to reading value reads all is) was =
      ended_stored reading.goals reading.process (after_write spec.rounds (current_round reading) value) reads.goals (not_done_by (ltb (current_round reading) spec.rounds) (current_round reading + 1) value) was
  own_stored after (will_decide reading decision reads all is) was = same_stored reading.goals reads.goals was
  own_stored after (decides decision turn count) was = decided_stored own.mind.process (decision + 1) (λ e. omega (arith, e)) was

abbrev StoredAfter : RoomSpec → List ScheduleEvent → Fields → Type 0
StoredAfter spec schedule fields = (i p : ℕ) → HasStored (own_of fields i) p

stored_kept : (room : Configuration) (fields : Fields) (done : List ScheduleEvent) (event : ScheduleEvent) → IsShaped room → MayHappen room event → StandsFor room fields → StoredAfter room.spec done fields → (i p : ℕ) → HasStored (own_of (fields_after room.spec fields event) i) p
stored_kept room fields done (steps i) shape may for was a p =
    let effect = line_effect room fields i shape for may in
    let after = line room.spec fields i in
    dite (ℕ_discrete a i)
    (λ (e : a ≡ i). subst (λ (b : ℕ). HasStored (own_of after b) p) (sym e) (own_stored room.spec fields (own_of fields i) p (own_of after i) effect.own (was i p)))
    (λ (n : a ≢ i). subst (λ (own : Own). HasStored own p) (sym (effect.others a n)) (was a p))
stored_kept room fields done (crashes i) shape may for was a p = was a p

opening_stored : (spec : RoomSpec) (numbers : List ℕ) (p : ℕ) → p < length (map (first_goal spec) numbers) → goal_at (map (first_goal spec) numbers) p ≢ goals.Done
opening_stored spec [] p below done = omega arith
opening_stored spec (q ∷ numbers) zero below done = cc
opening_stored spec (q ∷ numbers) (suc p) below done = opening_stored spec numbers p (omega arith) done

proposals_left : (n value p : ℕ) → p < length (replicate n (goals.Propose value)) → goal_at (replicate n (goals.Propose value)) p ≢ goals.Done
proposals_left zero value p below done = omega arith
proposals_left (suc n) value zero below done = cc
proposals_left (suc n) value (suc p) below done = proposals_left n value p (omega arith) done

opening_left : (spec : RoomSpec) (b : Bool) (value p : ℕ) → p < length (cond b (replicate (processes spec) (goals.Propose value)) (first_goals spec)) → goal_at (cond b (replicate (processes spec) (goals.Propose value)) (first_goals spec)) p ≢ goals.Done
opening_left spec true value p below = proposals_left (processes spec) value p below
opening_left spec false value p below = opening_stored spec (range_with_len 0 (processes spec)) p below

pub fields_stored : (room : RoomState) (fields : Fields) → IsWithinLimits room.spec → AreFieldsOf room fields → (i p : ℕ) → HasStored (own_of fields i) p
fields_stored room fields limits are =
    let base = replay_fields room.spec (opening_fields room.spec) are.run.schedule in
    subst (λ (f : Fields). (i p : ℕ) → HasStored (own_of f i) p) (sym (leads_of room fields are))
    (over_run StoredAfter stored_kept (configuration_of room) limits are.run (λ i p below done. absurd (opening_left room.spec (is_reduction room.spec) (slice_index room.spec.own i) p below done)))
