-- What a line does to the agreements: in one of them its simulator takes a step, or in none.
use Rattle.std.proofs.Common.{◌≡◌, ◌≢◌, ◌⊎◌, ℕ, zero, suc, ◌+◌, ◌<◌, ◌≤◌, Bool, true, false, cond, eqb, ltb, min, List, length, get_or, set, inl, inr, refl, sym, ap, ◌∙◌, subst, arith}
use Rattle.protocol_lang.specs.Numbers.{greatest}
use Rattle.std.proofs.lemmas.List.{get_or-set_same, get_or-set_other}
use Rattle.std.proofs.lemmas.Bool.{eq-eqb, ne_eqb, cases_order, cases_lt}
use mathlib.Core.Logic.{dite}
use native.Mathlib.Decide.{ℕ_discrete}
use Rattle.room_spec.specs.Rooms.{RoomSpec}
use Rattle.safe_agreement.specs.Levels.{has_level, left_level}
use Rattle.safe_agreement.specs.Phases.{Phase, Before, Looked, Left, Change, Enters, Looks, Leaves, phase_levels, mover, MayMove, moved, IsStep}
use Rattle.simulator.specs.declared.line.Line.{Line}
use Rattle.simulator.specs.declared.line.Line.TheVariants.{Rest, Raise, Snap, Show, Enter, Look, Leave, Ask, GetInput, GetView, Values, Out}
use Rattle.simulator.specs.declared.goal.Goal.{Goal}
use Rattle.simulator.specs.declared.goal.Goal.TheVariants as goals
use Rattle.simulator.specs.Minds.{MindOf, current_round, first_write, goal_at}
use Rattle.simulator.specs.Turns.{after_write, asks_in, gets_in}
use Rattle.room_core.specs.Fields.{StepMap, Fields, levels_at, changed, changed_pair}
use Rattle.room_core.specs.Tracks.{KeepsTrack, AtRest, stage_of, stage_for}
use Rattle.room_core.proofs.fields.Tracks.{rest_stage_for}
use Rattle.room_core.proofs.fields.Maps.{changed_here, changed_else, pair_here, pair_else}
use Rattle.room_core.proofs.agreements.Stages.{Progress, Fresh, Scanned, Shown, Inside, Seen, Past, line_progress, progress_in, phase_of, phase_by, phase_begun, phase_at, has_to_propose, is_proposal, is_unproposed, gets_past, phases_in, later, earlier, now, resting, same_line, levels_are_phases}
use Rattle.room_core.proofs.fields.Effects.{Own, own_of, process_on, round_on, is_reading, IsAsking, Effect, IsLineOf, stores, proposes, raises, collects_word, collects_again, scans, shows_word, shows, loads_word, enters, looks, leaves, asks_in_vain, finds, gets_input, gathers, goes_to, will_decide, decides}

-- the phase in the agreement on (p, r), by what a simulator has
abbrev pub phase_own : Own → ℕ → ℕ → Phase
phase_own own p r = phase_at own.mind own.step own.level p r

-- if it has begun to propose an input of p
abbrev pub begun_own : Own → ℕ → ℕ → Phase
begun_own own p r = phase_begun own.mind own.step own.level p r

-- a change of simulator i, with levels as these, leads from this phase to that
pub record IsMove (levels : List ℕ) (i : ℕ) (from to : Phase) : Type 0 where
  pub change : Change
  pub of : mover change ≡ i
  pub may : MayMove change from
  pub own : to ≡ moved levels change from

-- ---- plain facts

-- two lines that are both open or both past, of one level
quiet : (step r : ℕ) (here here' : Bool) (line line' : Progress) (level : ℕ) → line ≡ Past → line' ≡ Past → phase_by step r here' line' level ≡ phase_by step r here line level
quiet step r here here' line line' level is is' = ap (λ (p : Progress). phase_of p level) (resting step r here' here line' line is' is)

-- a count of the turn's round, at its process
raised_here : (step r : ℕ) (level : ℕ) → phase_by (step + 1) r true Fresh level ≡ phase_by step r true Past level
raised_here step r level = by_lt (cases_lt r (step + 1))
  where
    by_past : (r ≡ step) ⊎ (r < step) → progress_in step r true Past ≡ Past
    by_past (inl e) = now step r true Past (sym e)
    by_past (inr less) = earlier step r true Past less

    split : r < step + 1 → (r ≡ step) ⊎ (r < step)
    split less = elim (cases_lt r step) [ inl before ↦ inr before | inr after ↦ inl (omega arith) ]

    by_new : (step + 1 ≡ r) ⊎ (step + 1 < r) → phase_by (step + 1) r true Fresh level ≡ Before
    by_new (inl e) = ap (λ (p : Progress). phase_of p level) (now (step + 1) r true Fresh e)
    by_new (inr less) = ap (λ (p : Progress). phase_of p level) (later (step + 1) r true Fresh less)

    by_lt : (r < step + 1) ⊎ (step + 1 ≤ r) → phase_by (step + 1) r true Fresh level ≡ phase_by step r true Past level
    by_lt (inl less) = ap (λ (p : Progress). phase_of p level) (earlier (step + 1) r true Fresh less ∙ sym (by_past (split less)))
    by_lt (inr more) = by_new (elim (cases_lt (step + 1) r) [ inl before ↦ inr before | inr after ↦ inl (omega arith) ]) ∙ ap (λ (p : Progress). phase_of p level) (sym (later step r true Past (omega arith)))

-- the line of a turn tells nothing of another process, nor of another round
pub progress_else : (step : ℕ → ℕ) (j k p r : ℕ) (line line' : Progress) → step j ≡ k → (p ≡ j → r ≡ k → ⊥) → progress_in (step p) r (eqb p j) line' ≡ progress_in (step p) r (eqb p j) line
progress_else step j k p r line line' count other = dite (ℕ_discrete p j)
    (λ (e : p ≡ j). by_order e (cases_order (step p) r))
    (λ (n : p ≢ j). ap (λ (b : Bool). progress_in (step p) r b line') (ne_eqb p j n) ∙ ap (λ (b : Bool). progress_in (step p) r b line) (sym (ne_eqb p j n)))
  where
    by_order : p ≡ j → (step p ≡ r) ⊎ ((step p < r) ⊎ (r < step p)) → progress_in (step p) r (eqb p j) line' ≡ progress_in (step p) r (eqb p j) line
    by_order e (inl now') = absurd (other e (sym now' ∙ ap step e ∙ count))
    by_order e (inr (inl less)) = later (step p) r (eqb p j) line' less ∙ sym (later (step p) r (eqb p j) line less)
    by_order e (inr (inr less)) = earlier (step p) r (eqb p j) line' less ∙ sym (earlier (step p) r (eqb p j) line less)

turn_else : (step : ℕ → ℕ) (j k p r : ℕ) (line line' : Progress) (level level' : ℕ) → step j ≡ k → (p ≡ j → r ≡ k → ⊥) → level' ≡ level → phase_by (step p) r (eqb p j) line' level' ≡ phase_by (step p) r (eqb p j) line level
turn_else step j k p r line line' level level' count other same =
    ap (λ (l : ℕ). phase_by (step p) r (eqb p j) line' l) same ∙ ap (λ (q : Progress). phase_of q level) (progress_else step j k p r line line' count other)

-- ---- each effect

-- ---- whether there is an input to propose

-- a turn is open at the line
abbrev pub IsOpen : Line → Type 0
IsOpen line = (goal : Goal) → is_unproposed goal (stage_of line) ≡ false

reading_open : (line : Line) → is_reading line ≡ true → IsOpen line
reading_open Rest is goal = absurd cc
reading_open Raise is goal = absurd cc
reading_open Snap is goal = absurd cc
reading_open Show is goal = absurd cc
reading_open Enter is goal = absurd cc
reading_open Look is goal = absurd cc
reading_open (Leave saw_two) is goal = absurd cc
reading_open Ask is goal = absurd cc
reading_open (GetInput chosen) is goal = absurd cc
reading_open (GetView chosen) is goal = refl
reading_open Values is goal = refl
reading_open (Out decision) is goal = refl

gets_open : (round chosen : ℕ) → IsOpen (gets_in round chosen)
gets_open zero chosen goal = refl
gets_open (suc round) chosen goal = refl

pub asks_no_proposal : (round : ℕ) → is_proposal (asks_in round) ≡ false
asks_no_proposal zero = refl
asks_no_proposal (suc round) = refl

pub next_no_proposal : (b : Bool) (round value : ℕ) → is_proposal (cond b (goals.Write (round + 1) value) goals.Spent) ≡ false
next_no_proposal true round value = refl
next_no_proposal false round value = refl

open_stage : (b : Bool) (goal : Goal) (line : Line) → IsOpen line → is_unproposed goal (cond b (stage_of line) AtRest) ≡ cond b false (is_proposal goal)
open_stage true goal line is = is goal
open_stage false goal line is = refl

pub open_is : (mind : MindOf StepMap) (p : ℕ) → IsOpen mind.line → has_to_propose mind p ≡ cond (eqb p mind.process) false (is_proposal (goal_at mind.goals p))
open_is mind p is = open_stage (eqb p mind.process) (goal_at mind.goals p) mind.line is

pub rest_is : (mind : MindOf StepMap) (p : ℕ) → mind.line ≡ Rest → has_to_propose mind p ≡ is_proposal (goal_at mind.goals p)
rest_is mind p rest = ap (is_unproposed (goal_at mind.goals p)) (rest_stage_for mind p rest)

-- a turn that is about to enter hasn't, in a round that isn't counted before
shown_before : (step r level : ℕ) → step ≡ 0 → phase_by step r true Shown level ≡ Before
shown_before step r level none = by_order (cases_order step r)
  where
    by_order : (step ≡ r) ⊎ ((step < r) ⊎ (r < step)) → phase_by step r true Shown level ≡ Before
    by_order (inl e) = ap (λ (p : Progress). phase_of p level) (now step r true Shown e)
    by_order (inr (inl less)) = ap (λ (p : Progress). phase_of p level) (later step r true Shown less)
    by_order (inr (inr less)) = absurd (omega arith)

-- what has to be shown if there is none to propose
begun_by : (levels : List ℕ) (i : ℕ) (b b' : Bool) (from to : Phase) → b' ≡ b → (to ≡ from) ⊎ IsMove levels i from to → (cond b' Before to ≡ cond b Before from) ⊎ IsMove levels i (cond b Before from) (cond b' Before to)
begun_by levels i b b' from to same result = subst (λ (c : Bool). (cond c Before to ≡ cond b Before from) ⊎ IsMove levels i (cond b Before from) (cond c Before to)) (sym same) (by_bool b)
  where
    by_bool : (c : Bool) → (cond c Before to ≡ cond c Before from) ⊎ IsMove levels i (cond c Before from) (cond c Before to)
    by_bool true = inl refl
    by_bool false = result

-- by its line a simulator begins to propose its own input of process p
pub record IsProposing (own : Own) (p : ℕ) (after : Own) : Type 0 where
  pub value : ℕ
  pub goal : goal_at own.mind.goals p ≡ goals.Propose value
  pub stored : after.value p 0 ≡ value
  pub phases : (r : ℕ) → phase_own after p r ≡ phase_own own p r

module _ (spec : RoomSpec) (fields : Fields) (own : Own) (p : ℕ) where
  -- whether it has an input of p to propose, by the effect
  begun_to : (j : ℕ) (mind : MindOf StepMap) → own.mind.line ≡ Rest → is_proposal (goal_at own.mind.goals j) ≡ false → mind.goals ≡ own.mind.goals → mind.process ≡ j → IsOpen mind.line → has_to_propose mind p ≡ has_to_propose own.mind p
  begun_to j mind rest other same at is =
      open_is mind p is ∙ ap (λ (l : List Goal). cond (eqb p mind.process) false (is_proposal (goal_at l p))) same
      ∙ dite (ℕ_discrete p mind.process)
      (λ (e : p ≡ mind.process). ap (λ (b : Bool). cond b false (is_proposal (goal_at own.mind.goals p))) (eq-eqb p mind.process e) ∙ sym (ap (λ (q : ℕ). is_proposal (goal_at own.mind.goals q)) (e ∙ at) ∙ other))
      (λ (n : p ≢ mind.process). ap (λ (b : Bool). cond b false (is_proposal (goal_at own.mind.goals p))) (ne_eqb p mind.process n))
      ∙ sym (rest_is own.mind p rest)

  still_to : (mind : MindOf StepMap) → mind.goals ≡ own.mind.goals → mind.process ≡ own.mind.process → IsOpen own.mind.line → IsOpen mind.line → has_to_propose mind p ≡ has_to_propose own.mind p
  still_to mind same same' was is =
      open_is mind p is ∙ ap (λ (l : List Goal). cond (eqb p mind.process) false (is_proposal (goal_at l p))) same ∙ ap (λ (q : ℕ). cond (eqb p q) false (is_proposal (goal_at own.mind.goals p))) same' ∙ sym (open_is own.mind p was)

  turn_to : (line : Line) (mind : MindOf StepMap) → own.mind.line ≡ line → IsOpen line → mind.goals ≡ own.mind.goals → mind.process ≡ own.mind.process → IsOpen mind.line → has_to_propose mind p ≡ has_to_propose own.mind p
  turn_to line mind stands opened same same' is = still_to mind same same' (subst (λ (l : Line). IsOpen l) (sym stands) opened) is

  ended_to : (goal : Goal) (mind ended' : MindOf StepMap) → mind.goals ≡ own.mind.goals → mind.process ≡ own.mind.process → own.mind.process < length own.mind.goals → is_proposal goal ≡ false → IsOpen own.mind.line
      → ended'.line ≡ Rest → ended'.goals ≡ set mind.goals mind.process goal → has_to_propose ended' p ≡ has_to_propose own.mind p
  ended_to goal mind ended' same same' below other was rest new =
      rest_is ended' p rest ∙ ap (λ (l : List Goal). is_proposal (goal_at l p)) (new ∙ ap (λ (l : List Goal). set l mind.process goal) same ∙ ap (λ (q : ℕ). set own.mind.goals q goal) same')
      ∙ dite (ℕ_discrete p own.mind.process)
      (λ (e : p ≡ own.mind.process).
      ap is_proposal (ap (λ (q : ℕ). get_or (set own.mind.goals own.mind.process goal) q goals.Done) e ∙ get_or-set_same own.mind.goals own.mind.process goal goals.Done below) ∙ other
      ∙ sym (ap (λ (b : Bool). cond b false (is_proposal (goal_at own.mind.goals p))) (eq-eqb p own.mind.process e)))
      (λ (n : p ≢ own.mind.process).
      ap is_proposal (get_or-set_other own.mind.goals own.mind.process p goal goals.Done n)
      ∙ sym (ap (λ (b : Bool). cond b false (is_proposal (goal_at own.mind.goals p))) (ne_eqb p own.mind.process n)))
      ∙ sym (open_is own.mind p was)

  -- a mind that asks has nothing to propose of its process, and no turn is open on another
  asking_to : (asking : MindOf StepMap) → IsAsking spec own asking → p ≡ asking.process → has_to_propose own.mind p ≡ false
  asking_to asking asks e = ap (λ (q : ℕ). is_unproposed (goal_at own.mind.goals q) (stage_for own.mind q)) e ∙ asks.proposed

  aside_to : (asking : MindOf StepMap) → IsAsking spec own asking → p ≢ asking.process → has_to_propose own.mind p ≡ is_proposal (goal_at own.mind.goals p)
  aside_to asking asks n = ap (is_unproposed (goal_at own.mind.goals p)) (asks.aside p n)

  vain_to : (asking ended' : MindOf StepMap) → IsAsking spec own asking → ended'.line ≡ Rest → ended'.goals ≡ set asking.goals asking.process (asks_in (current_round asking)) → has_to_propose ended' p ≡ has_to_propose own.mind p
  vain_to asking ended' asks rest new =
      rest_is ended' p rest ∙ ap (λ (l : List Goal). is_proposal (goal_at l p)) new
      ∙ dite (ℕ_discrete p asking.process)
      (λ (e : p ≡ asking.process).
      ap is_proposal (ap (λ (q : ℕ). get_or (set asking.goals asking.process (asks_in (current_round asking))) q goals.Done) e ∙ get_or-set_same asking.goals asking.process (asks_in (current_round asking)) goals.Done (let l = asks.long in let b = asks.process in omega arith))
      ∙ asks_no_proposal (current_round asking) ∙ sym (asking_to asking asks e))
      (λ (n : p ≢ asking.process).
      ap is_proposal (get_or-set_other asking.goals asking.process p (asks_in (current_round asking)) goals.Done n) ∙ ap (λ (l : List Goal). is_proposal (goal_at l p)) asks.goals ∙ sym (aside_to asking asks n))

  found_to : (asking mind : MindOf StepMap) → IsAsking spec own asking → mind.goals ≡ asking.goals → mind.process ≡ asking.process → IsOpen mind.line → has_to_propose mind p ≡ has_to_propose own.mind p
  found_to asking mind asks same same' is =
      open_is mind p is ∙ ap (λ (l : List Goal). cond (eqb p mind.process) false (is_proposal (goal_at l p))) (same ∙ asks.goals) ∙ ap (λ (q : ℕ). cond (eqb p q) false (is_proposal (goal_at own.mind.goals p))) same'
      ∙ dite (ℕ_discrete p asking.process)
      (λ (e : p ≡ asking.process). ap (λ (b : Bool). cond b false (is_proposal (goal_at own.mind.goals p))) (eq-eqb p asking.process e) ∙ sym (asking_to asking asks e))
      (λ (n : p ≢ asking.process). ap (λ (b : Bool). cond b false (is_proposal (goal_at own.mind.goals p))) (ne_eqb p asking.process n) ∙ sym (aside_to asking asks n))

  -- a simulator begins to propose its own input of process j
  proposal_effect : (r : ℕ) (mind : MindOf StepMap) (value : ℕ) → own.mind.line ≡ Rest → goal_at own.mind.goals p ≡ goals.Propose value → own.step p ≡ 0 → p ≡ mind.process → mind.line ≡ Enter → phase_at mind own.step own.level p r ≡ phase_own own p r
  proposal_effect r mind value rest goal none at is =
      let here : eqb p mind.process ≡ true = eq-eqb p mind.process at in
      let begun : has_to_propose mind p ≡ false = open_is mind p (subst (λ (l : Line). IsOpen l) (sym is) (λ g. refl)) ∙ ap (λ (b : Bool). cond b false (is_proposal (goal_at mind.goals p))) here in
      let had : has_to_propose own.mind p ≡ true = rest_is own.mind p rest ∙ ap is_proposal goal in
      ap (λ (b : Bool). cond b Before (phase_begun mind own.step own.level p r)) begun
      ∙ ap (λ (b : Bool). phase_by (own.step p) r b (line_progress mind.line) (own.level p r)) here
      ∙ ap (λ (l : Line). phase_by (own.step p) r true (line_progress l) (own.level p r)) is
      ∙ shown_before (own.step p) r (own.level p r) none
      ∙ sym (ap (λ (b : Bool). cond b Before (begun_own own p r)) had)

  -- of another process nothing changes by that
  proposed_aside : (j : ℕ) (mind : MindOf StepMap) → own.mind.line ≡ Rest → mind.goals ≡ own.mind.goals → mind.process ≡ j → IsOpen mind.line → p ≢ j → has_to_propose mind p ≡ has_to_propose own.mind p
  proposed_aside j mind rest same at is n =
      open_is mind p is ∙ ap (λ (b : Bool). cond b false (is_proposal (goal_at mind.goals p))) (ne_eqb p mind.process (λ e. n (e ∙ at))) ∙ ap (λ (l : List Goal). is_proposal (goal_at l p)) same ∙ sym (rest_is own.mind p rest)

  -- it begins to propose its own input of process p, or it has that to do as it had before
  pub to_propose : (after : Own) → Effect spec fields own after → (has_to_propose after.mind p ≡ has_to_propose own.mind p) ⊎ IsProposing own p after
  to_propose after (stores j k value rest goal count process first last) = inl (begun_to j after.mind rest (ap is_proposal goal) refl refl (λ g. refl))
  to_propose after (proposes j value rest goal none unentered within kind) = dite (ℕ_discrete p j)
      (λ (e : p ≡ j).
      let goal' : goal_at own.mind.goals p ≡ goals.Propose value = ap (λ (q : ℕ). goal_at own.mind.goals q) e ∙ goal in
      inr (record {
        value = value;
        goal = goal';
        stored = ap (λ (q : ℕ). changed_pair own.value j 0 value q 0) e ∙ pair_here own.value j 0 value;
        phases = λ r. proposal_effect r after.mind value rest goal' (ap own.step e ∙ none) e refl;
      }))
      (λ (n : p ≢ j). inl (proposed_aside j after.mind rest refl refl (λ g. refl) n))
  to_propose after (raises turn whole begun count) = inl (turn_to Raise after.mind turn.stands (λ g. refl) refl refl (λ g. refl))
  to_propose after (collects_word turn count none more) = inl (turn_to Snap after.mind turn.stands (λ g. refl) refl refl (λ g. refl))
  to_propose after (collects_again turn count none last several goes) = inl (turn_to Snap after.mind turn.stands (λ g. refl) refl refl (λ g. refl))
  to_propose after (scans collects turn count none last ends) = inl (turn_to Snap after.mind turn.stands (λ g. refl) refl refl (λ g. refl))
  to_propose after (gets_input chosen turn count less) = inl (ended_to (first_write spec (min (fields.value chosen (process_on own) 0) greatest) (process_on own)) own.mind after.mind refl refl (let l = turn.long in let b = turn.process in omega arith) refl (subst (λ (l : Line). IsOpen l) (sym turn.stands) (λ g. refl)) refl refl)
  to_propose after (loads_word found turn less more) = inl (turn_to (GetView found) after.mind turn.stands (λ g. refl) refl refl (λ g. refl))
  to_propose after (shows_word turn count none more) = inl (turn_to Show after.mind turn.stands (λ g. refl) refl refl (λ g. refl))
  to_propose after (shows turn count none last) = inl (turn_to Show after.mind turn.stands (λ g. refl) refl refl (λ g. refl))
  to_propose after (enters turn count none) = inl (turn_to Enter after.mind turn.stands (λ g. refl) refl refl (λ g. refl))
  to_propose after (looks turn count one) = inl (turn_to Look after.mind turn.stands (λ g. refl) refl refl (λ g. refl))
  to_propose after (leaves saw_two turn count one) = inl (turn_to (Leave saw_two) after.mind turn.stands (λ g. refl) refl refl (λ g. refl))
  to_propose after (asks_in_vain asking asks is) = inl (vain_to asking after.mind asks refl refl)
  to_propose after (finds asking chosen asks is) = inl (found_to asking after.mind asks refl refl (gets_open (current_round asking) chosen))
  to_propose after (gathers reading reads more) = inl (still_to after.mind reads.goals reads.same (reading_open own.mind.line reads.reads) (λ g. refl))
  to_propose after (goes_to reading value reads all is) = inl (ended_to (after_write spec.rounds (current_round reading) value) reading after.mind reads.goals reads.same (let l = reads.long in let b = reads.process in omega arith) (next_no_proposal (ltb (current_round reading) spec.rounds) (current_round reading) value) (reading_open own.mind.line reads.reads) refl refl)
  to_propose after (will_decide reading decision reads all is) = inl (still_to after.mind reads.goals reads.same (reading_open own.mind.line reads.reads) (λ g. refl))
  to_propose after (decides decision turn count) = inl (ended_to goals.Done own.mind after.mind refl refl (let l = turn.long in let b = turn.process in omega arith) refl (subst (λ (l : Line). IsOpen l) (sym turn.stands) (λ g. refl)) refl refl)

module _ (spec : RoomSpec) (fields : Fields) (own : Own) (i p r : ℕ) where
  abbrev Result : Own → Type 0
  Result after = (begun_own after p r ≡ begun_own own p r) ⊎ IsMove (levels_at spec fields p r) i (begun_own own p r) (begun_own after p r)

  -- the turn goes from one line to the next
  line_on_else : (line line' : Progress) (level' : ℕ → ℕ → ℕ) → own.step (process_on own) ≡ round_on own → (p ≡ process_on own → r ≡ round_on own → ⊥) → line_progress own.mind.line ≡ line
      → level' p r ≡ own.level p r → phase_by (own.step p) r (eqb p own.mind.process) line' (level' p r) ≡ begun_own own p r
  line_on_else line line' level' count other is same =
      turn_else own.step (process_on own) (round_on own) p r (line_progress own.mind.line) line' (own.level p r) (level' p r) count other same

  -- what was to show at the turn's own agreement
  move_here : (change : Change) (line line' : Progress) (level' : ℕ → ℕ → ℕ) → mover change ≡ i → own.step (process_on own) ≡ round_on own → line_progress own.mind.line ≡ line
      → (e : p ≡ process_on own) (e' : r ≡ round_on own)
      → MayMove change (phase_of line (own.level p r)) → phase_of line' (level' p r) ≡ moved (levels_at spec fields p r) change (phase_of line (own.level p r))
      → IsMove (levels_at spec fields p r) i (begun_own own p r) (phase_by (own.step p) r (eqb p own.mind.process) line' (level' p r))
  move_here change line line' level' of count is e e' may own_is =
      let here : eqb p own.mind.process ≡ true = eq-eqb p own.mind.process e in
      let same : own.step p ≡ r = ap own.step e ∙ count ∙ sym e' in
      let before : begun_own own p r ≡ phase_of line (own.level p r) =
      ap (λ (b : Bool). phase_by (own.step p) r b (line_progress own.mind.line) (own.level p r)) here
      ∙ ap (λ (q : Progress). phase_of q (own.level p r)) (now (own.step p) r true (line_progress own.mind.line) same ∙ is) in
      let after : phase_by (own.step p) r (eqb p own.mind.process) line' (level' p r) ≡ phase_of line' (level' p r) =
      ap (λ (b : Bool). phase_by (own.step p) r b line' (level' p r)) here ∙ ap (λ (q : Progress). phase_of q (level' p r)) (now (own.step p) r true line' same) in
      record {
        change = change;
        of = of;
        may = subst (λ (phase : Phase). MayMove change phase) (sym before) may;
        own = after ∙ own_is ∙ ap (λ (phase : Phase). moved (levels_at spec fields p r) change phase) (sym before);
      }

  -- between two turns, and in a turn before it has counted or after it has left
  quiet_effect : (mind : MindOf StepMap) → line_progress own.mind.line ≡ Past → line_progress mind.line ≡ Past → phase_begun mind own.step own.level p r ≡ begun_own own p r
  quiet_effect mind is is' = quiet (own.step p) r (eqb p own.mind.process) (eqb p mind.process) (line_progress own.mind.line) (line_progress mind.line) (own.level p r) is is'

  raise_effect : own.mind.line ≡ Raise → phase_by (changed own.step (process_on own) (own.step (process_on own) + 1) p) r (eqb p own.mind.process) Fresh (own.level p r) ≡ begun_own own p r
  raise_effect is = dite (ℕ_discrete p own.mind.process)
      (λ (e : p ≡ own.mind.process).
      let step : changed own.step (process_on own) (own.step (process_on own) + 1) p ≡ own.step p + 1 = changed_here own.step (process_on own) (own.step (process_on own) + 1) p e ∙ ap (λ (q : ℕ). own.step q + 1) (sym e) in
      ap (λ (s : ℕ). phase_by s r (eqb p own.mind.process) Fresh (own.level p r)) step
      ∙ ap (λ (b : Bool). phase_by (own.step p + 1) r b Fresh (own.level p r)) (eq-eqb p own.mind.process e)
      ∙ raised_here (own.step p) r (own.level p r)
      ∙ ap (λ (b : Bool). phase_by (own.step p) r b Past (own.level p r)) (sym (eq-eqb p own.mind.process e))
      ∙ ap (λ (l : Line). phase_by (own.step p) r (eqb p own.mind.process) (line_progress l) (own.level p r)) (sym is))
      (λ (n : p ≢ own.mind.process).
      ap (λ (s : ℕ). phase_by s r (eqb p own.mind.process) Fresh (own.level p r)) (changed_else own.step (process_on own) (own.step (process_on own) + 1) p n)
      ∙ ap (λ (b : Bool). phase_by (own.step p) r b Fresh (own.level p r)) (ne_eqb p own.mind.process n)
      ∙ ap (λ (b : Bool). phase_by (own.step p) r b (line_progress own.mind.line) (own.level p r)) (sym (ne_eqb p own.mind.process n)))

  next_line : (line line' : Progress) → line_progress own.mind.line ≡ line → phase_of line' (own.level p r) ≡ phase_of line (own.level p r) → phase_by (own.step p) r (eqb p own.mind.process) line' (own.level p r) ≡ begun_own own p r
  next_line line line' is same =
      same_line (own.step p) r (eqb p own.mind.process) line' line (own.level p r) same
      ∙ ap (λ (l : Progress). phase_by (own.step p) r (eqb p own.mind.process) l (own.level p r)) (sym is)

  -- at the turn's own agreement, or at another
  by_place : {A : Type 0} → ((e : p ≡ process_on own) → r ≡ round_on own → A) → ((p ≡ process_on own → r ≡ round_on own → ⊥) → A) → A
  by_place here else = dite (ℕ_discrete p (process_on own))
      (λ (e : p ≡ process_on own). dite (ℕ_discrete r (round_on own)) (λ (e' : r ≡ round_on own). here e e') (λ (n : r ≢ round_on own). else (λ _ e'. n e')))
      (λ (n : p ≢ process_on own). else (λ e _. n e))

  own_begun : (after : Own) → has_to_propose after.mind p ≡ has_to_propose own.mind p → Result after → (phase_own after p r ≡ phase_own own p r) ⊎ IsMove (levels_at spec fields p r) i (phase_own own p r) (phase_own after p r)
  own_begun after same result = begun_by (levels_at spec fields p r) i (has_to_propose own.mind p) (has_to_propose after.mind p) (begun_own own p r) (begun_own after p r) same result

  proposed_step : (j : ℕ) (mind : MindOf StepMap) (value : ℕ) → own.mind.line ≡ Rest → goal_at own.mind.goals j ≡ goals.Propose value → mind.process ≡ j → mind.line ≡ Enter → has_to_propose mind p ≡ has_to_propose own.mind p → phase_begun mind own.step own.level p r ≡ begun_own own p r
  proposed_step j mind value rest goal at is same = dite (ℕ_discrete p j)
      (λ (e : p ≡ j).
      let begun : has_to_propose mind p ≡ false = open_is mind p (subst (λ (l : Line). IsOpen l) (sym is) (λ g. refl)) ∙ ap (λ (b : Bool). cond b false (is_proposal (goal_at mind.goals p))) (eq-eqb p mind.process (e ∙ sym at)) in
      let had : has_to_propose own.mind p ≡ true = rest_is own.mind p rest ∙ ap (λ (q : ℕ). is_proposal (goal_at own.mind.goals q)) e ∙ ap is_proposal goal in
      let wrong : false ≡ true = sym begun ∙ same ∙ had in
      absurd cc)
      (λ (n : p ≢ j).
      ap (λ (b : Bool). phase_by (own.step p) r b (line_progress mind.line) (own.level p r)) (ne_eqb p mind.process (λ e. n (e ∙ at)))
      ∙ ap (λ (q : Progress). phase_of q (own.level p r)) (resting (own.step p) r false (eqb p own.mind.process) Past (line_progress own.mind.line) refl (ap line_progress rest)))

  begun_step : (after : Own) → Effect spec fields own after → has_to_propose after.mind p ≡ has_to_propose own.mind p → Result after
  begun_step after (stores j k value rest goal count process first last) same = inl (quiet_effect after.mind (ap line_progress rest) refl)
  begun_step after (proposes j value rest goal none unentered within kind) same = inl (proposed_step j after.mind value rest goal refl refl same)
  begun_step after (raises turn whole begun count) same = inl (raise_effect turn.stands)
  begun_step after (collects_word turn count none more) same = inl (next_line Fresh Fresh (ap line_progress turn.stands) refl)
  begun_step after (collects_again turn count none last several goes) same = inl (next_line Fresh Fresh (ap line_progress turn.stands) refl)
  begun_step after (scans collects turn count none last ends) same = inl (next_line Fresh Scanned (ap line_progress turn.stands) refl)
  begun_step after (gets_input chosen turn count less) same = inl (quiet_effect after.mind (ap line_progress turn.stands) refl)
  begun_step after (loads_word found turn less more) same = inl (quiet_effect after.mind (ap line_progress turn.stands) refl)
  begun_step after (shows_word turn count none more) same = inl (next_line Scanned Scanned (ap line_progress turn.stands) refl)
  begun_step after (shows turn count none last) same = inl (next_line Scanned Shown (ap line_progress turn.stands) refl)
  begun_step after (enters turn count none) same =
      let level' = changed_pair own.level (process_on own) (round_on own) (own.level (process_on own) (round_on own) + 1) in
      by_place
      (λ e e'. inr (move_here (Enters i) Shown Inside level' refl count (ap line_progress turn.stands) e e' tt refl))
      (λ other. inl (line_on_else Shown Inside level' count other (ap line_progress turn.stands) (pair_else own.level (process_on own) (round_on own) _ p r other)))
  begun_step after (looks turn count one) same =
      by_place
      (λ e e'. inr (move_here (Looks i) Inside (Seen (has_level 2 (levels_at spec fields (process_on own) (round_on own)))) own.level refl count (ap line_progress turn.stands) e e' tt
      (ap (λ (b : Bool). Looked b) (ap (λ (q : ℕ). has_level 2 (levels_at spec fields q (round_on own))) (sym e) ∙ ap (λ (k : ℕ). has_level 2 (levels_at spec fields p k)) (sym e')))))
      (λ other. inl (line_on_else Inside (Seen (has_level 2 (levels_at spec fields (process_on own) (round_on own)))) own.level count other (ap line_progress turn.stands) refl))
  begun_step after (leaves saw_two turn count one) same =
      let entry = left_level saw_two in
      let level' = changed_pair own.level (process_on own) (round_on own) entry in
      by_place
      (λ e e'. inr (move_here (Leaves i) (Seen saw_two) Past level' refl count (ap line_progress turn.stands) e e' tt
      (ap (λ (l : ℕ). Left l) (ap (λ (q : ℕ). level' q r) e ∙ ap (λ (k : ℕ). level' (process_on own) k) e' ∙ pair_here own.level (process_on own) (round_on own) entry))))
      (λ other. inl (line_on_else (Seen saw_two) Past level' count other (ap line_progress turn.stands) (pair_else own.level (process_on own) (round_on own) entry p r other)))
  begun_step after (asks_in_vain asking asks is) same = inl (quiet_effect after.mind asks.past refl)
  begun_step after (finds asking chosen asks is) same = inl (quiet_effect after.mind asks.past (gets_past (current_round asking) chosen))
  begun_step after (gathers reading reads more) same = inl (quiet_effect after.mind reads.past refl)
  begun_step after (goes_to reading value reads all is) same = inl (quiet_effect after.mind reads.past refl)
  begun_step after (will_decide reading decision reads all is) same = inl (quiet_effect after.mind reads.past refl)
  begun_step after (decides decision turn count) same = inl (quiet_effect after.mind (ap line_progress turn.stands) refl)

  pub own_step : (after : Own) → Effect spec fields own after → (phase_own after p r ≡ phase_own own p r) ⊎ IsMove (levels_at spec fields p r) i (phase_own own p r) (phase_own after p r)
  own_step after effect = elim (to_propose spec fields own p after effect) [ inl same ↦ own_begun after same (begun_step after effect same) | inr new ↦ inl (new.phases r) ]

-- ---- a line of simulator i, in the agreement on (p, r)

-- nobody's phase changes, or i makes its change
pub data Advance (m : ℕ) (before after : ℕ → Phase) : Type 0 where
  stays : ((a : ℕ) → a < m → after a ≡ before a) → Advance m before after
  steps_on : (change : Change) → IsStep m before change after → Advance m before after

step_of : (m i : ℕ) (levels : List ℕ) (before after : ℕ → Phase) → i < m → levels ≡ phase_levels m before → ((a : ℕ) → a ≢ i → after a ≡ before a) → IsMove levels i (before i) (after i) → Advance m before after
step_of m i levels before after below same others move =
    steps_on move.change (record {
      below = let e = move.of in omega arith;
      may = subst (λ (a : ℕ). MayMove move.change (before a)) (sym move.of) move.may;
      own = ap after move.of ∙ move.own ∙ ap (λ (l : List ℕ). moved l move.change (before i)) same ∙ ap (λ (a : ℕ). moved (phase_levels m before) move.change (before a)) (sym move.of);
      others = λ a _ other. others a (λ e. other (e ∙ sym move.of));
    })

stay_of : (m i : ℕ) (before after : ℕ → Phase) → ((a : ℕ) → a ≢ i → after a ≡ before a) → after i ≡ before i → Advance m before after
stay_of m i before after others same = stays (λ a _. dite (ℕ_discrete a i) (λ (e : a ≡ i). ap after e ∙ same ∙ ap before (sym e)) (λ (n : a ≢ i). others a n))

advance_of : (m i : ℕ) (levels : List ℕ) (before after : ℕ → Phase) → i < m → levels ≡ phase_levels m before → ((a : ℕ) → a ≢ i → after a ≡ before a) → (after i ≡ before i) ⊎ IsMove levels i (before i) (after i) → Advance m before after
advance_of m i levels before after below same others (inl is) = stay_of m i before after others is
advance_of m i levels before after below same others (inr move) = step_of m i levels before after below same others move

pub advances : (spec : RoomSpec) (fields after : Fields) (i : ℕ) → KeepsTrack spec fields → IsLineOf spec fields after i → (p r : ℕ) → Advance spec.simulators (phases_in fields p r) (phases_in after p r)
advances spec fields after i tracks line p r =
    advance_of spec.simulators i (levels_at spec fields p r) (phases_in fields p r) (phases_in after p r) line.below (levels_are_phases spec fields tracks p r)
    (λ a other. ap (λ (own : Own). phase_own own p r) (line.others a other))
    (own_step spec fields (own_of fields i) i p r (own_of after i) line.own)
