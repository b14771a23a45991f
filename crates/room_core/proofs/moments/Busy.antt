-- In a reduction each process for which some simulator has proposed an input, and of which no write is counted, has a simulator that is busy with
-- it: its open turn, or else its next one, is on it. So when a second write of a process is counted, there are fewer processes of which
-- none is counted than there are simulators.
use Rattle.std.proofs.Common.{◌≡◌, ◌≢◌, ◌⊎◌, inl, inr, ℕ, zero, suc, ◌+◌, ◌<◌, ◌≤◌, Bool, true, false, cond, eqb, List, [], ◌∷◌, ◌++◌, length, set, drop, take, Option, Some, None, replicate, refl, sym, ap, ◌∙◌, subst, arith}
use Rattle.std.specs.Prelude.{slice_index, ⊤}
use Rattle.std.specs.List.{filter, position, range_with_len}
use Rattle.std.specs.Option.{option_map}
use Rattle.std.proofs.lemmas.Bool.{eq-eqb, eqb-true, lt-ltb, ne_eqb}
use Rattle.std.proofs.lemmas.List.{get_or-replicate, get_or-set_other, get_or-set_same}
use mathlib.Core.Logic.{dite}
use native.Mathlib.Decide.{ℕ_discrete}
use Rattle.room_spec.specs.Rooms.{RoomSpec, IsWithinLimits, is_reduction, processes}
use Rattle.room_spec.specs.Sizes.{sizes_in}
use Rattle.safe_agreement.specs.Levels.{IsResolved}
use Rattle.safe_agreement.specs.Phases.{Before, Left}
use Rattle.safe_agreement.proofs.CallerLemmas.{resolves, settles}
use Rattle.sim_memory.specs.Steps.{merged_of}
use Rattle.sim_memory.proofs.CallerLemmas.{merged_at, merged_reached}
use Rattle.simulator.specs.declared.goal.Goal.{Goal}
use Rattle.simulator.specs.declared.goal.Goal.TheVariants as goals
use Rattle.simulator.specs.declared.line.Line.{Line}
use Rattle.simulator.specs.declared.line.Line.TheVariants.{Rest, Raise, Snap, Show, Enter, Look, Leave, Ask, GetInput, GetView, Values, Out}
use Rattle.simulator.specs.Firsts.{IsVisited}
use Rattle.simulator.specs.Minds.{MindOf, first_goals, goal_at, current_goal, current_round, is_unfinished, next_process, or_else, round_of}
use Rattle.simulator.specs.Ranges.{IsMind}
use Rattle.simulator.specs.Turns.{TakenOf, asks_in, after_write, begun, counted, gets_in, goes_on, opened_at}
use Rattle.simulator.proofs.CallerLemmas.{all_visited}
use Rattle.room_core.specs.Agreements.{IsInside, IsInsideTurn}
use Rattle.room_core.specs.Fields.{StepMap, Fields, opening_fields, changed, chosen_at, fields_after, levels_at, line, replay_fields}
use Rattle.room_core.specs.Reading.{worded}
use Rattle.room_core.specs.Rooms.{Configuration, ScheduleEvent, steps, crashes, opening, MayHappen, IsLegal, IsShaped}
use Rattle.room_core.specs.Tracks.{AtRest, KeepsTrack, StandsFor, stage_of}
use Rattle.room_core.proofs.fields.Maps.{changed_here, changed_else}
use Rattle.room_core.proofs.fields.FieldReplays.{line_is, stands_at}
use Rattle.room_core.proofs.fields.Lines.{stored_on, taken_first, taken_first_at, taken_on}
use Rattle.room_core.proofs.fields.Tracks.{here_stage_for}
use Rattle.room_core.proofs.fields.Effects.{Own, own_of, IsAsking, IsTurn, IsLineOf, Effect, stores, proposes, raises, collects_word, collects_again, scans, shows_word, shows, enters, looks, leaves, asks_in_vain, finds, gets_input, loads_word, gathers, goes_to, will_decide, decides, line_effect}
use Rattle.room_core.proofs.fields.Prefixes.{over_schedule}
use Rattle.room_core.proofs.agreements.Inputs.{zero_kind}
use Rattle.room_core.proofs.agreements.Sound.{IsSound, opening_sound, sound_kept}
use Rattle.room_core.proofs.agreements.Stages.{Progress, Past, line_progress, phase_begun, phase_of, now, phases_in, level_is, levels_are_phases, one_inside}
use Rattle.room_core.proofs.settling.Counted.{no_more_pass, one_fails, passes_too}
use Rattle.room_core.proofs.settling.Idling.{both_past, one_or_none}

-- ---- goals and lines

abbrev pub HasProposed : Goal → Type 0
HasProposed (goals.Write k value) = ⊤
HasProposed (goals.Ask k) = ⊤
HasProposed (goals.Propose value) = ⊥
HasProposed goals.AskInput = ⊤
HasProposed goals.Done = ⊤
HasProposed goals.Spent = ⊤

abbrev HasWrite : Goal → Type 0
HasWrite (goals.Write k value) = ⊤
HasWrite (goals.Ask k) = ⊥
HasWrite (goals.Propose value) = ⊥
HasWrite goals.AskInput = ⊥
HasWrite goals.Done = ⊥
HasWrite goals.Spent = ⊥

abbrev IsAtWork : Line → Type 0
IsAtWork Rest = ⊥
IsAtWork line = ⊤

rest_or_work : (line : Line) → (line ≡ Rest) ⊎ IsAtWork line
rest_or_work Rest = inl refl
rest_or_work Raise = inr tt
rest_or_work Snap = inr tt
rest_or_work Show = inr tt
rest_or_work Enter = inr tt
rest_or_work Look = inr tt
rest_or_work (Leave saw_two) = inr tt
rest_or_work Ask = inr tt
rest_or_work (GetInput chosen) = inr tt
rest_or_work (GetView chosen) = inr tt
rest_or_work Values = inr tt
rest_or_work (Out decision) = inr tt

gets_at_work : (round chosen : ℕ) → IsAtWork (gets_in round chosen)
gets_at_work zero chosen = tt
gets_at_work (suc round) chosen = tt

inside_at_work : (line : Line) → IsInside line → IsAtWork line
inside_at_work Look inside = tt
inside_at_work (Leave saw_two) inside = tt
inside_at_work Rest inside = absurd inside
inside_at_work Raise inside = tt
inside_at_work Snap inside = tt
inside_at_work Show inside = tt
inside_at_work Enter inside = tt
inside_at_work Ask inside = tt
inside_at_work (GetInput chosen) inside = tt
inside_at_work (GetView chosen) inside = tt
inside_at_work Values inside = tt
inside_at_work (Out decision) inside = tt

inside_not_past : (line : Line) → IsInside line → line_progress line ≡ Past → ⊥
inside_not_past Look inside past = cc
inside_not_past (Leave saw_two) inside past = cc
inside_not_past Rest inside past = inside
inside_not_past Raise inside past = inside
inside_not_past Snap inside past = inside
inside_not_past Show inside past = inside
inside_not_past Enter inside past = inside
inside_not_past Ask inside past = inside
inside_not_past (GetInput chosen) inside past = inside
inside_not_past (GetView chosen) inside past = inside
inside_not_past Values inside past = inside
inside_not_past (Out decision) inside past = inside

work_not_rest : (line : Line) → IsAtWork line → stage_of line ≡ AtRest → ⊥
work_not_rest Rest work is = work
work_not_rest Raise work is = cc
work_not_rest Snap work is = cc
work_not_rest Show work is = cc
work_not_rest Enter work is = cc
work_not_rest Look work is = cc
work_not_rest (Leave saw_two) work is = cc
work_not_rest Ask work is = cc
work_not_rest (GetInput chosen) work is = cc
work_not_rest (GetView chosen) work is = cc
work_not_rest Values work is = cc
work_not_rest (Out decision) work is = cc

proposed_or_first : (goal : Goal) → HasProposed goal ⊎ (round_of goal ≡ 0)
proposed_or_first (goals.Write k value) = inl tt
proposed_or_first (goals.Ask k) = inl tt
proposed_or_first (goals.Propose value) = inr refl
proposed_or_first goals.AskInput = inl tt
proposed_or_first goals.Done = inl tt
proposed_or_first goals.Spent = inl tt

later_proposed : (goal : Goal) → 1 ≤ round_of goal → HasProposed goal
later_proposed (goals.Write k value) first = tt
later_proposed (goals.Ask k) first = tt
later_proposed (goals.Propose value) first = absurd (omega (arith, first))
later_proposed goals.AskInput first = tt
later_proposed goals.Done first = tt
later_proposed goals.Spent first = tt

visited_proposed : (goal : Goal) → IsVisited goal → HasProposed goal
visited_proposed (goals.Write k value) visited = tt
visited_proposed (goals.Ask k) visited = tt
visited_proposed (goals.Propose value) visited = absurd visited
visited_proposed goals.AskInput visited = tt
visited_proposed goals.Done visited = tt
visited_proposed goals.Spent visited = tt

later_visited : (goal : Goal) → 2 ≤ round_of goal → IsVisited goal
later_visited (goals.Write k value) two = two
later_visited (goals.Ask k) two = tt
later_visited (goals.Propose value) two = absurd (omega (arith, two))
later_visited goals.AskInput two = tt
later_visited goals.Done two = tt
later_visited goals.Spent two = tt

write_left : (goal : Goal) → HasWrite goal → is_unfinished goal ≡ true
write_left (goals.Write k value) is = refl
write_left (goals.Ask k) is = absurd is
write_left (goals.Propose value) is = absurd is
write_left goals.AskInput is = absurd is
write_left goals.Done is = absurd is
write_left goals.Spent is = absurd is

-- an unfinished process at which the sweep is comes next
first_left : (list : List Goal) (sweep : ℕ) → sweep < length list → is_unfinished (goal_at list sweep) ≡ true → position is_unfinished (drop sweep list) ≡ Some 0
first_left [] sweep below left = absurd (omega (arith, below))
first_left (goals.Write k value ∷ list) zero below left = ap (λ (b : Bool). cond b (Some 0) None) (lt-ltb 0 (suc (length list)) (omega arith))
first_left (goals.Ask k ∷ list) zero below left = ap (λ (b : Bool). cond b (Some 0) None) (lt-ltb 0 (suc (length list)) (omega arith))
first_left (goals.Propose value ∷ list) zero below left = ap (λ (b : Bool). cond b (Some 0) None) (lt-ltb 0 (suc (length list)) (omega arith))
first_left (goals.AskInput ∷ list) zero below left = ap (λ (b : Bool). cond b (Some 0) None) (lt-ltb 0 (suc (length list)) (omega arith))
first_left (goals.Done ∷ list) zero below left = absurd cc
first_left (goals.Spent ∷ list) zero below left = absurd cc
first_left (goal ∷ list) (suc sweep) below left = first_left list sweep (omega (arith, below)) left

next_here : (list : List Goal) (sweep : ℕ) → sweep < length list → is_unfinished (goal_at list sweep) ≡ true → next_process list sweep ≡ Some sweep
next_here list sweep below left =
    ap (λ (o : Option ℕ). or_else (option_map (λ at. sweep + at) o) (position is_unfinished (take sweep list))) (first_left list sweep below left)
    ∙ (let same : sweep + 0 ≡ sweep = omega arith in ap Some same)

-- ---- a simulator that is busy

-- its open turn is on the process; or it is between two turns, is to make a write of it, and takes it next
pub record IsBusy (mind : MindOf StepMap) (p : ℕ) : Type 0 where
  pub process : mind.process ≡ p
  pub works : IsAtWork mind.line ⊎ HasWrite (goal_at mind.goals p)

module _ (spec : RoomSpec) (fields : Fields) (s : ℕ) (below : s < spec.simulators) (tracks : KeepsTrack spec fields) (sound : IsSound spec fields) where
  abbrev own : Own
  own = own_of fields s

  -- it is busy after the line, or another is that was so before
  abbrev Found : Own → ℕ → Type 0
  Found after p = IsBusy after.mind p ⊎ ((a : ℕ) × (a < spec.simulators) × (a ≢ s) × IsBusy (fields.mind a) p)

  asking_left : (asking : MindOf StepMap) → IsAsking spec own asking → (k : ℕ) → current_round asking ≡ k → phases_in fields asking.process k s ≡ Left (fields.level s asking.process k)
  asking_left asking asks k round =
      let mind = fields.mind s in
      let j = asking.process in
      let here = eqb j mind.process in
      ap (λ (b : Bool). cond b Before (phase_begun mind (fields.step s) (fields.level s) j k)) asks.proposed
      ∙ ap (λ (p : Progress). phase_of p (fields.level s j k))
      (now (fields.step s j) k here (line_progress mind.line) (asks.count ∙ round) ∙ ap (λ (q : Progress). cond here q Past) asks.past ∙ both_past here)

  -- if no simulator is chosen in round 0, another is inside
  in_vain : (asking : MindOf StepMap) → IsAsking spec own asking → chosen_at spec fields asking.process (current_round asking) ≡ None → current_round asking ≡ 0 → (a : ℕ) × (a < spec.simulators) × (a ≢ s) × IsBusy (fields.mind a) asking.process
  in_vain asking asks none round = elim (one_or_none spec.simulators (λ a. fields.level a asking.process 0)) [
    | inl some ↦
        let turn : IsInsideTurn fields some.0 asking.process 0 = one_inside spec fields tracks some.0 asking.process 0 some.2 in (
          some.0,
          some.1,
          (λ (e : some.0 ≡ s). inside_not_past (fields.mind s).line (subst (λ (a : ℕ). IsInside (fields.mind a).line) e turn.line) asks.past),
          record { process = turn.process; works = inl (inside_at_work (fields.mind some.0).line turn.line) },
        )
    | inr nobody ↦
        let j = asking.process in
        let kind : is_reduction spec ≡ true = zero_kind spec (current_goal asking) asks.goal asks.left round in
        let resolved : IsResolved (levels_at spec fields j 0) = subst IsResolved (sym (levels_are_phases spec fields tracks j 0))
        (settles spec.simulators (phases_in fields j 0) s (fields.level s j 0) (sound.beside j 0 (inr (kind, asks.process))) below (asking_left asking asks 0 round)
        (λ a within one. nobody a within (level_is spec.rounds (fields.mind a) (fields.step a) (fields.level a) (tracks.told a) j 0 ∙ one))) in
        let to = resolves (levels_at spec fields j 0) resolved in
        let none' : chosen_at spec fields j 0 ≡ None = ap (λ (k : ℕ). chosen_at spec fields j k) (sym round) ∙ none in
        absurd (let wrong : None ≡ Some to.0 = sym none' ∙ to.1 in cc)
  ]

  -- a process that it has proposed for with this line
  put : (after : Own) (list : List Goal) (sweep p : ℕ) (goal : Goal) → list ≡ own.mind.goals → after.mind.goals ≡ set list sweep goal → p ≢ sweep → HasProposed (goal_at after.mind.goals p) → HasProposed (goal_at own.mind.goals p)
  put after list sweep p goal same is other has =
      subst HasProposed (ap (λ (l : List Goal). goal_at l p) is ∙ get_or-set_other list sweep p goal goals.Done other ∙ ap (λ (l : List Goal). goal_at l p) same) has

  by_round : (asking : MindOf StepMap) → IsAsking spec own asking → chosen_at spec fields asking.process (current_round asking) ≡ None → (after : Own) → HasProposed (goal_at own.mind.goals asking.process) ⊎ Found after asking.process
  by_round asking asks none after = elim (proposed_or_first (goal_at own.mind.goals asking.process)) [
    | inl has ↦ inl has
    | inr first ↦ inr (inr (in_vain asking asks none (ap (λ (l : List Goal). round_of (goal_at l asking.process)) asks.goals ∙ first)))
  ]

  got : (chosen : ℕ) → IsTurn spec own (GetInput chosen) → (goal : Goal) → HasWrite goal → HasWrite (goal_at (set own.mind.goals own.mind.process goal) own.mind.process)
  got chosen turn goal is = subst HasWrite (sym (get_or-set_same own.mind.goals own.mind.process goal goals.Done (let long = turn.long in let place = turn.process in omega (arith, long, place)))) is

  proposes_for : (after : Own) → Effect spec fields own after → (p : ℕ) → HasProposed (goal_at after.mind.goals p) → HasProposed (goal_at own.mind.goals p) ⊎ Found after p
  proposes_for after (stores j k value rest goal count process first last) p has = inl has
  proposes_for after (proposes j value rest goal none unentered within kind) p has = inl has
  proposes_for after (raises turn whole begun count) p has = inl has
  proposes_for after (collects_word turn count none next) p has = inl has
  proposes_for after (collects_again turn count none last several goes) p has = inl has
  proposes_for after (scans collects turn count none last ends) p has = inl has
  proposes_for after (shows_word turn count none next) p has = inl has
  proposes_for after (shows turn count none last) p has = inl has
  proposes_for after (enters turn count none) p has = inl has
  proposes_for after (looks turn count one) p has = inl has
  proposes_for after (leaves saw_two turn count one) p has = inl has
  proposes_for after (asks_in_vain asking asks none) p has = dite (ℕ_discrete p asking.process)
      (λ (e : p ≡ asking.process). subst (λ (q : ℕ). HasProposed (goal_at own.mind.goals q) ⊎ Found after q) (sym e) (by_round asking asks none after))
      (λ (n : p ≢ asking.process). inl (put after asking.goals asking.process p (asks_in (current_round asking)) asks.goals refl n has))
  proposes_for after (finds asking chosen asks some) p has = inl (subst (λ (l : List Goal). HasProposed (goal_at l p)) asks.goals has)
  proposes_for after (gets_input chosen turn count less) p has = dite (ℕ_discrete p own.mind.process)
      (λ (e : p ≡ own.mind.process). inr (inl (record { process = sym e; works = inr (subst (λ (q : ℕ). HasWrite (goal_at after.mind.goals q)) (sym e) (got chosen turn _ tt)) })))
      (λ (n : p ≢ own.mind.process). inl (put after own.mind.goals own.mind.process p _ refl refl n has))
  proposes_for after (loads_word chosen turn below' next) p has = inl has
  proposes_for after (gathers reading reads next) p has = inl (subst (λ (l : List Goal). HasProposed (goal_at l p)) reads.goals has)
  proposes_for after (goes_to reading value reads all action) p has = dite (ℕ_discrete p reading.process)
      (λ (e : p ≡ reading.process). inl (subst (λ (q : ℕ). HasProposed (goal_at own.mind.goals q)) (sym (e ∙ reads.same)) (later_proposed (current_goal own.mind) reads.first)))
      (λ (n : p ≢ reading.process). inl (put after reading.goals reading.process p (after_write spec.rounds (current_round reading) value) reads.goals refl n has))
  proposes_for after (will_decide reading decision reads all action) p has = inl (subst (λ (l : List Goal). HasProposed (goal_at l p)) reads.goals has)
  proposes_for after (decides decision turn count) p has = dite (ℕ_discrete p own.mind.process)
      (λ (e : p ≡ own.mind.process). inl (subst (λ (q : ℕ). HasProposed (goal_at own.mind.goals q)) (sym e) (later_proposed (current_goal own.mind) turn.first)))
      (λ (n : p ≢ own.mind.process). inl (put after own.mind.goals own.mind.process p goals.Done refl refl n has))

  -- it asks in its open turn
  same_process : (asking : MindOf StepMap) → IsAsking spec own asking → IsAtWork own.mind.line → asking.process ≡ own.mind.process
  same_process asking asks work = dite (ℕ_discrete own.mind.process asking.process)
      (λ (e : own.mind.process ≡ asking.process). sym e)
      (λ (n : own.mind.process ≢ asking.process). absurd (work_not_rest own.mind.line work (sym (here_stage_for own.mind own.mind.process refl) ∙ asks.aside own.mind.process n)))

  -- its turn goes on, or its process is one of which a write is counted, or another is busy with that too
  stays_busy : (after : Own) → Effect spec fields own after → IsAtWork own.mind.line → after.step own.mind.process ≡ 0 → Found after own.mind.process
  stays_busy after (stores j k value rest goal count process first last) work none = absurd (subst IsAtWork rest work)
  stays_busy after (proposes j value rest goal none' unentered within kind) work none = absurd (subst IsAtWork rest work)
  stays_busy after (raises turn whole begun count) work none = absurd (let new = changed_here own.step own.mind.process (own.step own.mind.process + 1) own.mind.process refl in omega (arith, new, none))
  stays_busy after (collects_word turn count none' next) work none = inl (record { process = refl; works = inl tt })
  stays_busy after (collects_again turn count none' last several goes) work none = inl (record { process = refl; works = inl tt })
  stays_busy after (scans collects turn count none' last ends) work none = inl (record { process = refl; works = inl tt })
  stays_busy after (shows_word turn count none' next) work none = inl (record { process = refl; works = inl tt })
  stays_busy after (shows turn count none' last) work none = inl (record { process = refl; works = inl tt })
  stays_busy after (enters turn count none') work none = inl (record { process = refl; works = inl tt })
  stays_busy after (looks turn count one) work none = inl (record { process = refl; works = inl tt })
  stays_busy after (leaves saw_two turn count one) work none = inl (record { process = refl; works = inl tt })
  stays_busy after (asks_in_vain asking asks none') work none =
      let same = same_process asking asks work in
      let round : current_round asking ≡ 0 = sym asks.count ∙ ap own.step same ∙ none in
      inr (subst (λ (q : ℕ). (a : ℕ) × (a < spec.simulators) × (a ≢ s) × IsBusy (fields.mind a) q) same (in_vain asking asks none' round))
  stays_busy after (finds asking chosen asks some) work none = inl (record { process = same_process asking asks work; works = inl (gets_at_work (current_round asking) chosen) })
  stays_busy after (gets_input chosen turn count less) work none = inl (record { process = refl; works = inr (got chosen turn _ tt) })
  stays_busy after (loads_word chosen turn below' next) work none = inl (record { process = refl; works = inl tt })
  stays_busy after (gathers reading reads next) work none = inl (record { process = reads.same; works = inl tt })
  stays_busy after (goes_to reading value reads all action) work none = absurd (let first = reads.first in let count = reads.count in omega (arith, first, count, none))
  stays_busy after (will_decide reading decision reads all action) work none = inl (record { process = reads.same; works = inl tt })
  stays_busy after (decides decision turn count) work none = absurd (let first = turn.first in omega (arith, first, count, none))

  -- ---- how many writes are counted

  -- the step numbers stay, but for that of the process of which a write is counted
  record Raises (after : Own) : Type 0 where
    turn : IsTurn spec own Raise
    count : own.step own.mind.process + 1 ≡ current_round own.mind
    numbers : after.step ≡ changed own.step own.mind.process (own.step own.mind.process + 1)

  raises_or_stays : (after : Own) → Effect spec fields own after → (after.step ≡ own.step) ⊎ Raises after
  raises_or_stays after (stores j k value rest goal count process first last) = inl refl
  raises_or_stays after (proposes j value rest goal none unentered within kind) = inl refl
  raises_or_stays after (raises turn whole begun count) = inr (record { turn = turn; count = count; numbers = refl })
  raises_or_stays after (collects_word turn count none next) = inl refl
  raises_or_stays after (collects_again turn count none last several goes) = inl refl
  raises_or_stays after (scans collects turn count none last ends) = inl refl
  raises_or_stays after (shows_word turn count none next) = inl refl
  raises_or_stays after (shows turn count none last) = inl refl
  raises_or_stays after (enters turn count none) = inl refl
  raises_or_stays after (looks turn count one) = inl refl
  raises_or_stays after (leaves saw_two turn count one) = inl refl
  raises_or_stays after (asks_in_vain asking asks none) = inl refl
  raises_or_stays after (finds asking chosen asks some) = inl refl
  raises_or_stays after (gets_input chosen turn count less) = inl refl
  raises_or_stays after (loads_word chosen turn below' next) = inl refl
  raises_or_stays after (gathers reading reads next) = inl refl
  raises_or_stays after (goes_to reading value reads all action) = inl refl
  raises_or_stays after (will_decide reading decision reads all action) = inl refl
  raises_or_stays after (decides decision turn count) = inl refl

  no_fewer : (after : Own) → (after.step ≡ own.step) ⊎ Raises after → (p : ℕ) → own.step p ≤ after.step p
  no_fewer after (inl same) p = let e = ap (λ (step : ℕ → ℕ). step p) same in omega (arith, e)
  no_fewer after (inr raise) p = dite (ℕ_discrete p own.mind.process)
      (λ (e : p ≡ own.mind.process).
      let new = ap (λ (step : ℕ → ℕ). step p) raise.numbers ∙ changed_here own.step own.mind.process (own.step own.mind.process + 1) p e in
      let old = ap own.step e in
      omega (arith, new, old))
      (λ (n : p ≢ own.mind.process). let same = ap (λ (step : ℕ → ℕ). step p) raise.numbers ∙ changed_else own.step own.mind.process (own.step own.mind.process + 1) p n in omega (arith, same))

-- ---- along a run

-- no write of the process is counted
abbrev pub is_uncounted : RoomSpec → Fields → ℕ → Bool
is_uncounted spec fields p = eqb (merged_of spec.simulators fields.step p) 0

abbrev pub uncounted : RoomSpec → Fields → ℕ
uncounted spec fields = length (filter (is_uncounted spec fields) (range_with_len 0 (processes spec)))

pub record HasBusy (spec : RoomSpec) (fields : Fields) : Type 0 where
  pub busy : (i p : ℕ) → i < spec.simulators → p < processes spec → HasProposed (goal_at (fields.mind i).goals p) → merged_of spec.simulators fields.step p ≡ 0 → (h : ℕ) × (h < spec.simulators) × IsBusy (fields.mind h) p
  pub few : (i j : ℕ) → i < spec.simulators → 2 ≤ fields.step i j → uncounted spec fields < spec.simulators

none_before : (m p : ℕ) (step step' : ℕ → ℕ → ℕ) → 0 < m → ((a : ℕ) → a < m → step a p ≤ step' a p) → merged_of m step' p ≡ 0 → merged_of m step p ≡ 0
none_before m p step step' some grows none =
    let who = merged_reached m step p some in
    let grown = grows who.0 who.1 in
    let most = merged_at m step' who.0 p who.1 in
    let same = who.2 in
    omega (arith, grown, most, same, none)

abbrev is_other : ℕ → ℕ → Bool
is_other s h = cond (eqb h s) false true

module _ (room : Configuration) (fields : Fields) (s : ℕ) (shape : IsShaped room) (may : MayHappen room (steps s)) (for : StandsFor room fields) (sound : IsSound room.spec fields) (has : HasBusy room.spec fields) where
  abbrev after : Fields
  after = line room.spec fields s

  effect : IsLineOf room.spec fields (line room.spec fields s) s
  effect = line_effect room fields s shape for may

  is_mind : IsMind room.spec (worded (sizes_in room.spec) (fields.mind s))
  is_mind = (stands_at room fields s shape for may).is_mind

  steps_change : (((own_of after s).step) ≡ fields.step s) ⊎ Raises room.spec fields s effect.below for.tracks sound (own_of after s)
  steps_change = raises_or_stays room.spec fields s effect.below for.tracks sound (own_of after s) effect.own

  grows : (p a : ℕ) → a < room.spec.simulators → fields.step a p ≤ after.step a p
  grows p a low = dite (ℕ_discrete a s)
      (λ (e : a ≡ s). subst (λ (b : ℕ). fields.step b p ≤ after.step b p) (sym e) (no_fewer room.spec fields s effect.below for.tracks sound (own_of after s) steps_change p))
      (λ (n : a ≢ s). let same = ap (λ (own : Own). own.step p) (effect.others a n) in omega (arith, same))

  uncounted_before : (p : ℕ) → merged_of room.spec.simulators after.step p ≡ 0 → merged_of room.spec.simulators fields.step p ≡ 0
  uncounted_before p = none_before room.spec.simulators p fields.step after.step (let b = effect.below in omega (arith, b)) (grows p)

  -- between two turns it goes on with its write
  starts : (fields.mind s).line ≡ Rest → HasWrite (current_goal (fields.mind s)) → IsBusy (after.mind s) (fields.mind s).process
  starts rest write =
      let mind = fields.mind s in
      let p = mind.process in
      let k = current_round mind in
      let next = next_here mind.goals p (let long = is_mind.goals in let place = is_mind.process in omega (arith, long, place)) (write_left (current_goal mind) write) in
      let taken : taken_on mind.line room.spec fields p k (counted mind) ≡ taken_first_at (current_goal mind) room.spec fields p (counted mind) =
      ap (λ (l : Line). taken_on l room.spec fields p k (counted mind)) rest ∙ ap (λ (n : Option ℕ). taken_first n room.spec fields (counted mind)) next in
      let mind_is : after.mind s ≡ (taken_on mind.line room.spec fields p k (counted mind)).mind =
      ap (λ (f : Fields). f.mind s) (line_is room fields s shape for may) ∙ changed_here (stored_on mind.line room.spec fields s p k (counted mind)).mind s (taken_on mind.line room.spec fields p k (counted mind)).mind s refl in
      subst (λ (m : MindOf StepMap). IsBusy m p) (sym (mind_is ∙ ap (λ (t : TakenOf StepMap). t.mind) taken)) (by_goal (current_goal mind) write refl)
    where
      by_goal : (goal : Goal) → HasWrite goal → current_goal (fields.mind s) ≡ goal → IsBusy (taken_first_at (current_goal (fields.mind s)) room.spec fields (fields.mind s).process (counted (fields.mind s))).mind (fields.mind s).process
      by_goal (goals.Write k value) is same =
          let mind = fields.mind s in
          let taken : taken_first_at (current_goal mind) room.spec fields mind.process (counted mind) ≡ goes_on Raise (begun mind.process (counted mind)) =
          ap (λ (g : Goal). taken_first_at g room.spec fields mind.process (counted mind)) same ∙ ap (λ (g : Goal). opened_at g None (begun mind.process (counted mind))) same in
          subst (λ (t : TakenOf StepMap). IsBusy t.mind mind.process) (sym taken) (record { process = refl; works = inl tt })
      by_goal (goals.Ask k) is same = absurd is
      by_goal (goals.Propose value) is same = absurd is
      by_goal goals.AskInput is same = absurd is
      by_goal goals.Done is same = absurd is
      by_goal goals.Spent is same = absurd is

  abbrev Somebody : ℕ → Type 0
  Somebody p = (h : ℕ) × (h < room.spec.simulators) × IsBusy (after.mind h) p

  other_stays : (a p : ℕ) → a < room.spec.simulators → a ≢ s → IsBusy (fields.mind a) p → Somebody p
  other_stays a p low n is = (a, low, subst (λ (own : Own). IsBusy own.mind p) (sym (effect.others a n)) is)

  placed : (p : ℕ) → Found room.spec fields s effect.below for.tracks sound (own_of after s) p → Somebody p
  placed p (inl is) = (s, effect.below, is)
  placed p (inr is) = other_stays is.0 p is.1 is.2 is.3

  itself : (p : ℕ) → IsBusy (fields.mind s) p → merged_of room.spec.simulators after.step p ≡ 0 → Somebody p
  itself p is none = subst Somebody is.process (elim (rest_or_work (fields.mind s).line) [
    | inr work ↦ placed (fields.mind s).process (stays_busy room.spec fields s effect.below for.tracks sound (own_of after s) effect.own work (let most = merged_at room.spec.simulators after.step s p effect.below in let same = ap (after.step s) is.process in omega (arith, most, same, none)))
    | inl rest ↦ elim is.works [
      | inl work ↦ absurd (subst IsAtWork rest work)
      | inr write ↦ (s, effect.below, starts rest (subst (λ (q : ℕ). HasWrite (goal_at (fields.mind s).goals q)) (sym is.process) write))
    ]
  ])

  still : (p : ℕ) → (h : ℕ) × (h < room.spec.simulators) × IsBusy (fields.mind h) p → merged_of room.spec.simulators after.step p ≡ 0 → Somebody p
  still p who none = dite (ℕ_discrete who.0 s)
      (λ (e : who.0 ≡ s). itself p (subst (λ (h : ℕ). IsBusy (fields.mind h) p) e who.2) none)
      (λ (n : who.0 ≢ s). other_stays who.0 p who.1 n who.2)

  busy_after : (i p : ℕ) → i < room.spec.simulators → p < processes room.spec → HasProposed (goal_at (after.mind i).goals p) → merged_of room.spec.simulators after.step p ≡ 0 → Somebody p
  busy_after i p low within proposed none = dite (ℕ_discrete i s)
      (λ (e : i ≡ s). elim (proposes_for room.spec fields s effect.below for.tracks sound (own_of after s) effect.own p (subst (λ (b : ℕ). HasProposed (goal_at (after.mind b).goals p)) e proposed)) [
        | inl before ↦ still p (has.busy s p effect.below within before (uncounted_before p none)) none
        | inr found ↦ placed p found
      ])
      (λ (n : i ≢ s). still p (has.busy i p low within (subst (λ (own : Own). HasProposed (goal_at own.mind.goals p)) (effect.others i n) proposed) (uncounted_before p none)) none)

  no_more : uncounted room.spec after ≤ uncounted room.spec fields
  no_more = passes_too (is_uncounted room.spec after) (is_uncounted room.spec fields) 0 (processes room.spec) (λ p low high is. eq-eqb (merged_of room.spec.simulators fields.step p) 0 (uncounted_before p (eqb-true _ _ is)))

  -- a simulator that counts a second write has proposed an input for all
  counts_twice : (raise : Raises room.spec fields s effect.below for.tracks sound (own_of after s)) → 2 ≤ current_round (fields.mind s) → uncounted room.spec after < room.spec.simulators
  counts_twice raise two =
      let m = room.spec.simulators in
      let mind = fields.mind s in
      let place : mind.process < length mind.goals = let long = is_mind.goals in let at = is_mind.process in omega (arith, long, at) in
      let most = no_more_pass (is_uncounted room.spec after) (is_other s) (λ h. (fields.mind h).process) (processes room.spec) m
      (λ p within is.
      let none = eqb-true (merged_of m after.step p) 0 is in
      let proposed = visited_proposed (goal_at mind.goals p) (all_visited mind.goals mind.process p place raise.turn.left (later_visited (current_goal mind) two) is_mind.order) in
      let who = has.busy s p effect.below within proposed (uncounted_before p none) in
      let other : mind.process ≢ p = λ (e : mind.process ≡ p).
      let counted' = merged_at m after.step s p effect.below in
      let grown = grows p s effect.below in
      let count = raise.count in
      let same = ap (fields.step s) e in
      absurd (omega (arith, counted', grown, count, same, two, none)) in
      (who.0, who.1, ap (λ (b : Bool). cond b false true) (ne_eqb who.0 s (λ (e : who.0 ≡ s). other (ap (λ (h : ℕ). (fields.mind h).process) (sym e) ∙ who.2.process))), who.2.process)) in
      let few = one_fails (is_other s) 0 m s (omega arith) (let b = effect.below in omega (arith, b)) (ap (λ (b : Bool). cond b false true) (eq-eqb s s refl)) in
      omega (arith, most, few)

  few_after : (i j : ℕ) → i < room.spec.simulators → 2 ≤ after.step i j → uncounted room.spec after < room.spec.simulators
  few_after i j low two = dite (ℕ_discrete i s)
      (λ (e : i ≡ s).
      let two' : 2 ≤ after.step s j = subst (λ (b : ℕ). 2 ≤ after.step b j) e two in
      elim steps_change [
        | inl same ↦ let before = has.few s j effect.below (subst (λ (step : ℕ → ℕ). 2 ≤ step j) same two') in let less = no_more in omega (arith, before, less)
        | inr raise ↦ dite (ℕ_discrete j (fields.mind s).process)
            (λ (e' : j ≡ (fields.mind s).process).
            let new = ap (λ (step : ℕ → ℕ). step j) raise.numbers ∙ changed_here (fields.step s) (fields.mind s).process (fields.step s (fields.mind s).process + 1) j e' in
            let count = raise.count in
            counts_twice raise (omega (arith, new, count, two')))
            (λ (n : j ≢ (fields.mind s).process).
            let same = ap (λ (step : ℕ → ℕ). step j) raise.numbers ∙ changed_else (fields.step s) (fields.mind s).process (fields.step s (fields.mind s).process + 1) j n in
            let before = has.few s j effect.below (omega (arith, same, two')) in
            let less = no_more in
            omega (arith, before, less))
      ])
      (λ (n : i ≢ s).
      let before = has.few i j low (subst (λ (own : Own). 2 ≤ own.step j) (effect.others i n) two) in
      let less = no_more in
      omega (arith, before, less))

abbrev pub BusyAfter : RoomSpec → List ScheduleEvent → Fields → Type 0
BusyAfter spec schedule fields = IsSound spec fields × (is_reduction spec ≡ true → HasBusy spec fields)

busy_kept : (room : Configuration) (fields : Fields) (done : List ScheduleEvent) (event : ScheduleEvent) → IsShaped room → MayHappen room event → StandsFor room fields → BusyAfter room.spec done fields → BusyAfter room.spec (done ++ event ∷ []) (fields_after room.spec fields event)
busy_kept room fields done (steps s) shape may for both = (
  sound_kept room fields done (steps s) shape may for both.0,
  λ kind. record { busy = busy_after room fields s shape may for both.0 (both.1 kind); few = few_after room fields s shape may for both.0 (both.1 kind) },
)
busy_kept room fields done (crashes i) shape may for both = (
  sound_kept room fields done (crashes i) shape may for both.0,
  λ kind. let has = both.1 kind in record { busy = has.busy; few = has.few },
)

opening_busy : (spec : RoomSpec) → BusyAfter spec [] (opening_fields spec)
opening_busy spec = (
  opening_sound spec,
  λ kind. record {
    busy = λ i p below within proposed none. absurd (nothing kind i p within proposed);
    few = λ i j below two. absurd (omega (arith, two));
  },
)
  where
    nothing : is_reduction spec ≡ true → (i p : ℕ) → p < processes spec → HasProposed (goal_at ((opening_fields spec).mind i).goals p) → ⊥
    nothing kind i p within proposed =
        let first = get_or-replicate (processes spec) p (goals.Propose (slice_index spec.own i)) goals.Done within in
        subst HasProposed first (subst (λ (b : Bool). HasProposed (goal_at (cond b (replicate (processes spec) (goals.Propose (slice_index spec.own i))) (first_goals spec)) p)) kind proposed)

pub busy_run : (spec : RoomSpec) → IsWithinLimits spec → (schedule : List ScheduleEvent) → IsLegal (opening spec) schedule → BusyAfter spec schedule (replay_fields spec (opening_fields spec) schedule)
busy_run spec limits schedule legal = over_schedule BusyAfter busy_kept spec limits schedule legal (opening_busy spec)
