-- A simulator counts the first write of each process before the second of any. So what is proposed for a later round shows every process.
use Rattle.std.proofs.Common.{◌≡◌, replicate, cond, false, Bool, ◌≢◌, ℕ, zero, suc, ◌+◌, ◌<◌, ◌≤◌, List, [], ◌∷◌, ◌++◌, set, take, true, Option, refl, sym, ap, ◌∙◌, subst, arith}
use Rattle.std.specs.Prelude.{slice_index, unwrap_or}
use Rattle.std.proofs.lemmas.List.{get_or-set_other}
use mathlib.Core.Logic.{dite}
use native.Mathlib.Decide.{ℕ_discrete}
use Rattle.room_spec.specs.Rooms.{is_reduction, RoomSpec, IsWithinLimits, processes}
use Rattle.room_spec.specs.Sizes.{sizes_in}
use Rattle.sim_memory.proofs.CallerLemmas.{row_at, merged_at}
use Rattle.simulator.specs.declared.goal.Goal.{Goal}
use Rattle.simulator.specs.declared.goal.Goal.TheVariants as goals
use Rattle.simulator.specs.Firsts.{IsVisited}
use Rattle.simulator.specs.declared.line.Line.TheVariants.{Raise}
use Rattle.simulator.specs.Turns.{asks_in, after_write}
use Rattle.std.proofs.lemmas.List.FromFn.{get_or-map-range_with_len}
use Rattle.simulator.specs.Minds.{first_goal, first_goals, goal_at, current_goal, current_round, is_unfinished, round_of}
use Rattle.simulator.specs.Ranges.{IsMind}
use Rattle.simulator.proofs.CallerLemmas.{all_visited}
use Rattle.room_core.specs.Rooms.{Configuration, ScheduleEvent, steps, crashes, opening, after_event, MayHappen, IsLegal, IsShaped}
use Rattle.room_core.specs.Calls.{RoomState}
use Rattle.room_core.specs.Fields.{StepMap, Fields, opening_fields, changed, fields_after, line, replay_fields}
use Rattle.room_core.specs.Reading.{AreFieldsOf, worded}
use Rattle.room_core.specs.Agreements.{IsFixedAt, view_at}
use Rattle.room_core.specs.Agreements as agreed
use Rattle.room_core.specs.Tracks.{StandsFor}
use Rattle.room_core.proofs.fields.Maps.{changed_here, changed_else}
use Rattle.room_core.proofs.fields.FieldReplays.{stands_at}
use Rattle.room_core.proofs.fields.Effects.{Own, own_of, IsTurn, Effect, stores, proposes, raises, collects_word, collects_again, scans, shows_word, shows, enters, looks, leaves, asks_in_vain, finds, gets_input, loads_word, gathers, goes_to, will_decide, decides, line_effect}
use Rattle.room_core.proofs.fields.Prefixes.{over_schedule}
use Rattle.room_core.proofs.agreements.Fixing.{fixed_has_least}
use Rattle.room_core.proofs.agreements.Inputs.{ordinary_first, zero_kind}
use Rattle.room_core.proofs.agreements.Exact.{room_moments}

-- ---- what a simulator has counted

pub record HasCounted (n : ℕ) (own : Own) : Type 0 where
  pub visited : (p : ℕ) → p < n → IsVisited (goal_at own.mind.goals p) → 1 ≤ own.step p
  pub twice : (j p : ℕ) → p < n → 2 ≤ own.step j → 1 ≤ own.step p

-- the same goals and numbers
same_counted : (n : ℕ) (own after : Own) → after.mind.goals ≡ own.mind.goals → after.step ≡ own.step → HasCounted n own → HasCounted n after
same_counted n own after goals_are steps_are has = record {
  visited = λ p below is. subst (λ (step : ℕ → ℕ). 1 ≤ step p) (sym steps_are) (has.visited p below (subst (λ (list : List Goal). IsVisited (goal_at list p)) goals_are is));
  twice = λ j p below two. subst (λ (step : ℕ → ℕ). 1 ≤ step p) (sym steps_are) (has.twice j p below (subst (λ (step : ℕ → ℕ). 2 ≤ step j) steps_are two));
}

-- another goal for a process that is counted
ended_counted : (n : ℕ) (own after : Own) (before : List Goal) (sweep : ℕ) (goal : Goal) → before ≡ own.mind.goals → after.mind.goals ≡ set before sweep goal → after.step ≡ own.step → 1 ≤ own.step sweep → HasCounted n own → HasCounted n after
ended_counted n own after before sweep goal before_is goals_are steps_are counted has = record {
  visited = λ p below is. subst (λ (step : ℕ → ℕ). 1 ≤ step p) (sym steps_are) (dite (ℕ_discrete p sweep)
      (λ (e : p ≡ sweep). subst (λ (q : ℕ). 1 ≤ own.step q) (sym e) counted)
      (λ (n' : p ≢ sweep).
      let same : goal_at after.mind.goals p ≡ goal_at own.mind.goals p = ap (λ (list : List Goal). goal_at list p) goals_are ∙ get_or-set_other before sweep p goal goals.Done n' ∙ ap (λ (list : List Goal). goal_at list p) before_is in
      has.visited p below (subst IsVisited same is)));
  twice = λ j p below two. subst (λ (step : ℕ → ℕ). 1 ≤ step p) (sym steps_are) (has.twice j p below (subst (λ (step : ℕ → ℕ). 2 ≤ step j) steps_are two));
}

-- a goal of a later round is one of a process that was visited
later_goal : (goal : Goal) → is_unfinished goal ≡ true → 2 ≤ round_of goal → IsVisited goal
later_goal (goals.Write k value) left two = two
later_goal (goals.Ask k) left two = tt
later_goal (goals.Propose value) left two = absurd (omega (arith, two))
later_goal goals.AskInput left two = tt
later_goal goals.Done left two = tt
later_goal goals.Spent left two = tt

module _ (spec : RoomSpec) (fields : Fields) (own : Own) (is_mind : IsMind spec (worded (sizes_in spec) own.mind)) (ordinary : is_reduction spec ≡ false) (has : HasCounted (processes spec) own) where
  j : ℕ
  j = own.mind.process

  more : ℕ → ℕ
  more = changed own.step own.mind.process (own.step own.mind.process + 1)

  kept_more : (p : ℕ) → 1 ≤ own.step p → 1 ≤ changed own.step own.mind.process (own.step own.mind.process + 1) p
  kept_more p one = dite (ℕ_discrete p own.mind.process)
      (λ (e : p ≡ own.mind.process). let new = changed_here own.step own.mind.process (own.step own.mind.process + 1) p e in omega (arith, new))
      (λ (n : p ≢ own.mind.process). let same = changed_else own.step own.mind.process (own.step own.mind.process + 1) p n in omega (arith, same, one))

  -- it has come to its process again, so it has visited all
  all_counted : is_unfinished (current_goal own.mind) ≡ true → 2 ≤ current_round own.mind → (p : ℕ) → p < processes spec → 1 ≤ own.step p
  all_counted left two p below =
      has.visited p below (all_visited own.mind.goals own.mind.process p (let long = is_mind.goals in let place = is_mind.process in omega (arith, long, place)) left (later_goal (current_goal own.mind) left two) is_mind.order)

  raised : IsTurn spec own Raise → own.step own.mind.process + 1 ≡ current_round own.mind → (after : Own) → after.mind.goals ≡ own.mind.goals → after.step ≡ changed own.step own.mind.process (own.step own.mind.process + 1) → HasCounted (processes spec) after
  raised turn count after goals_are steps_are = record {
    visited = λ p below is. subst (λ (step : ℕ → ℕ). 1 ≤ step p) (sym steps_are) (kept_more p (has.visited p below (subst (λ (list : List Goal). IsVisited (goal_at list p)) goals_are is)));
    twice = λ q p below two. subst (λ (step : ℕ → ℕ). 1 ≤ step p) (sym steps_are) (twice q p below (subst (λ (step : ℕ → ℕ). 2 ≤ step q) steps_are two));
  }
    where
      twice : (q p : ℕ) → p < processes spec → 2 ≤ changed own.step own.mind.process (own.step own.mind.process + 1) q → 1 ≤ changed own.step own.mind.process (own.step own.mind.process + 1) p
      twice q p below two = kept_more p (dite (ℕ_discrete q own.mind.process)
          (λ (e : q ≡ own.mind.process).
          let new = changed_here own.step own.mind.process (own.step own.mind.process + 1) q e in
          all_counted turn.left (omega (arith, new, two, count)) p below)
          (λ (n : q ≢ own.mind.process).
          let same = changed_else own.step own.mind.process (own.step own.mind.process + 1) q n in
          has.twice q p below (omega (arith, same, two))))

  counts : (after : Own) → Effect spec fields own after → HasCounted (processes spec) after
  counts after (stores j k value rest goal count process first last) = same_counted (processes spec) own _ refl refl has
  counts after (proposes j value rest goal none unentered within kind) = same_counted (processes spec) own _ refl refl has
  counts after (raises turn whole begun count) = raised turn count _ refl refl
  counts after (collects_word turn count none next) = same_counted (processes spec) own _ refl refl has
  counts after (collects_again turn count none last several goes) = same_counted (processes spec) own _ refl refl has
  counts after (scans collects turn count none last ends) = same_counted (processes spec) own _ refl refl has
  counts after (shows_word turn count none next) = same_counted (processes spec) own _ refl refl has
  counts after (shows turn count none last) = same_counted (processes spec) own _ refl refl has
  counts after (enters turn count none) = same_counted (processes spec) own _ refl refl has
  counts after (looks turn count one) = same_counted (processes spec) own _ refl refl has
  counts after (leaves saw_two turn count one) = same_counted (processes spec) own _ refl refl has
  counts after (asks_in_vain asking asks none) =
      ended_counted (processes spec) own _ asking.goals asking.process (asks_in (current_round asking)) asks.goals refl refl (let c = asks.count in let f = ordinary_first spec (current_goal asking) ordinary asks.goal asks.left in omega (arith, c, f)) has
  counts after (finds asking chosen asks some) = same_counted (processes spec) own _ asks.goals refl has
  counts after (gets_input chosen turn count less) = absurd (let wrong : true ≡ false = sym (zero_kind spec (current_goal own.mind) turn.goal turn.left turn.first) ∙ ordinary in cc)
  counts after (loads_word chosen turn below next) = same_counted (processes spec) own _ refl refl has
  counts after (gathers reading reads next) = same_counted (processes spec) own _ reads.goals refl has
  counts after (goes_to reading value reads all action) =
      let first = reads.first in
      let count = reads.count in
      let place = reads.same in
      ended_counted (processes spec) own _ reading.goals reading.process (after_write spec.rounds (current_round reading) value) reads.goals refl refl (subst (λ (q : ℕ). 1 ≤ own.step q) (sym place) (omega (arith, count, first))) has
  counts after (will_decide reading decision reads all action) = same_counted (processes spec) own _ reads.goals refl has
  counts after (decides decision turn count) =
      let first = turn.first in
      ended_counted (processes spec) own _ own.mind.goals own.mind.process goals.Done refl refl refl (omega (arith, count, first)) has

-- ---- along a run

abbrev pub AllCounted : RoomSpec → List ScheduleEvent → Fields → Type 0
AllCounted spec schedule fields = is_reduction spec ≡ false → (i : ℕ) → i < spec.simulators → HasCounted (processes spec) (own_of fields i)

counted_kept : (room : Configuration) (fields : Fields) (done : List ScheduleEvent) (event : ScheduleEvent) → IsShaped room → MayHappen room event → StandsFor room fields → AllCounted room.spec done fields → AllCounted room.spec (done ++ event ∷ []) (fields_after room.spec fields event)
counted_kept room fields done (steps i) shape may for all ordinary a below =
    let effect = line_effect room fields i shape for may in
    let after = line room.spec fields i in
    dite (ℕ_discrete a i)
    (λ (e : a ≡ i).
    subst (λ (b : ℕ). HasCounted (processes room.spec) (own_of after b)) (sym e)
    (counts room.spec fields (own_of fields i) (stands_at room fields i shape for may).is_mind ordinary (all ordinary i effect.below) (own_of after i) effect.own))
    (λ (n : a ≢ i). subst (λ (own : Own). HasCounted (processes room.spec) own) (sym (effect.others a n)) (all ordinary a below))
counted_kept room fields done (crashes i) shape may for all ordinary a below = let has = all ordinary a below in record { visited = has.visited; twice = has.twice }

-- no process is visited, and none counted, at first
opening_counted : (spec : RoomSpec) → AllCounted spec [] (opening_fields spec)
opening_counted spec ordinary i below = record {
  visited = λ p within is. absurd (none p within (subst (λ (b : Bool). IsVisited (goal_at (cond b (replicate (processes spec) (goals.Propose (slice_index spec.own i))) (first_goals spec)) p)) ordinary is));
  twice = λ j p within two. absurd (omega (arith, two));
}
  where
    none : (p : ℕ) → p < processes spec → IsVisited (goal_at (first_goals spec) p) → ⊥
    none p within is =
        let first : goal_at (first_goals spec) p ≡ first_goal spec p = get_or-map-range_with_len (first_goal spec) 0 (processes spec) p p goals.Done within (omega arith) in
        let two : 2 ≤ 1 = subst IsVisited first is in
        absurd (omega (arith, two))

pub counted_after : (spec : RoomSpec) → IsWithinLimits spec → (schedule : List ScheduleEvent) → IsLegal (opening spec) schedule → AllCounted spec schedule (replay_fields spec (opening_fields spec) schedule)
counted_after spec limits schedule legal = over_schedule AllCounted counted_kept spec limits schedule legal (opening_counted spec)

pub legal_take : (room : Configuration) (schedule : List ScheduleEvent) (time : ℕ) → IsLegal room schedule → IsLegal room (take time schedule)
legal_take room [] zero legal = tt
legal_take room [] (suc time) legal = tt
legal_take room (event ∷ schedule) zero legal = tt
legal_take room (event ∷ schedule) (suc time) legal = (legal.0, legal_take (after_event room event) schedule time legal.1)

-- ---- proposals of later rounds

module _ (room : RoomState) (fields : Fields) (limits : IsWithinLimits room.spec) (are : AreFieldsOf room fields) where
  -- each shows every process, by the proposer's own numbers
  pub proposal_shows_all : is_reduction room.spec ≡ false → (i j k p : ℕ) → i < room.spec.simulators → j < processes room.spec → p < processes room.spec → 2 ≤ k → fields.level i j k ≡ 2 → 1 ≤ fields.view i j k i p
  proposal_shows_all ordinary i j k p below within within' two at =
      let moment = room_moments room fields limits are i j k below (omega (arith, two)) at in
      let then = counted_after room.spec limits (take moment.time are.run.schedule) (legal_take (opening room.spec) are.run.schedule moment.time are.run.legal) in
      let own = moment.own in
      let here = moment.same i j below within in
      let there = moment.same i p below within' in
      let one = (then ordinary i below).twice j p within' (omega (arith, own, here, two)) in
      omega (arith, there, one)

  pub fixed_shows_all : is_reduction room.spec ≡ false → (j k p : ℕ) → j < processes room.spec → p < processes room.spec → 2 ≤ k → IsFixedAt room.spec fields j k → 1 ≤ slice_index (agreed.row_at room.spec fields j k) p
  fixed_shows_all ordinary j k p within within' two fixed =
      let least = fixed_has_least room.spec fields j k fixed in
      let h = least.0 in
      let shows = proposal_shows_all ordinary h j k p least.1 within within' two least.3 in
      let view : view_at room.spec fields j k ≡ fields.view h j k = ap (λ (o : Option ℕ). fields.view (unwrap_or o 0) j k) least.2 in
      let entry = row_at room.spec.simulators (processes room.spec) (view_at room.spec fields j k) p within' in
      let most = merged_at room.spec.simulators (view_at room.spec fields j k) h p least.1 in
      let same : view_at room.spec fields j k h p ≡ fields.view h j k h p = ap (λ (map : StepMap). map h p) view in
      omega (arith, entry, most, same, shows)
