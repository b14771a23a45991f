-- Up to which round a simulator has found the agreements of a process resolved, and how a line moves that on.
use Rattle.std.proofs.Common.{◌≡◌, ◌≢◌, ◌⊎◌, ℕ, zero, suc, ◌+◌, ◌-◌, ◌<◌, ◌≤◌, Bool, true, false, cond, eqb, ltb, min, List, length, get_or, set, Some, inl, inr, refl, sym, ap, ◌∙◌, arith}
use Rattle.std.proofs.lemmas.Bool.{eq-eqb, ne_eqb, cases_lt}
use Rattle.std.proofs.lemmas.List.{get_or-set_same, get_or-set_other}
use mathlib.Core.Logic.{dite}
use native.Mathlib.Decide.{ℕ_discrete}
use Rattle.room_spec.specs.Rooms.{RoomSpec}
use Rattle.simulator.specs.declared.goal.Goal.{Goal}
use Rattle.simulator.specs.declared.goal.Goal.TheVariants as goals
use Rattle.simulator.specs.declared.line.Line.{Line}
use Rattle.simulator.specs.declared.line.Line.TheVariants.{Raise}
use Rattle.simulator.specs.declared.turn.Turn.{Turn}
use Rattle.simulator.specs.declared.turn.Turn.TheVariants.{Useful, Quiet}
use Rattle.simulator.specs.Minds.{MindOf, goal_at, current_goal, current_round, first_write, is_unfinished, round_of}
use Rattle.simulator.specs.Turns.{ended, after_write, asks_in, gets_in}
use Rattle.protocol_lang.specs.Numbers.{greatest}
use Rattle.room_core.specs.Fields.{StepMap, Fields, chosen_at, changed}
use Rattle.room_core.proofs.fields.Maps.{changed_else}
use Rattle.room_core.proofs.fields.Effects.{Own, process_on, round_on, is_reading, IsAsking, Effect, stores, proposes, raises, collects_word, collects_again, scans, shows_word, shows, loads_word, enters, looks, leaves, asks_in_vain, finds, gets_input, gathers, goes_to, will_decide, decides}

-- The rounds before that of a goal that is left to do, with its own where the open turn has got what was chosen; and all that were counted
-- of a process that is done or spent.
abbrev pub resolved_by : Goal → Bool → ℕ → ℕ
resolved_by (goals.Write k value) true step = k
resolved_by (goals.Write k value) false step = k - 1
resolved_by (goals.Ask k) true step = k
resolved_by (goals.Ask k) false step = k - 1
resolved_by (goals.Propose value) reading step = 0
resolved_by goals.AskInput reading step = 0
resolved_by goals.Done reading step = step
resolved_by goals.Spent reading step = step

abbrev pub resolved_in : MindOf StepMap → (ℕ → ℕ) → ℕ → ℕ
resolved_in mind step p = resolved_by (goal_at mind.goals p) (cond (is_reading mind.line) (eqb p mind.process) false) (step p)

abbrev pub resolved_own : Own → ℕ → ℕ
resolved_own own p = resolved_in own.mind own.step p

-- ---- plain facts

any_step : (goal : Goal) (reading : Bool) (step step' : ℕ) → is_unfinished goal ≡ true → resolved_by goal reading step ≡ resolved_by goal reading step'
any_step (goals.Write k value) true step step' left = refl
any_step (goals.Write k value) false step step' left = refl
any_step (goals.Ask k) true step step' left = refl
any_step (goals.Ask k) false step step' left = refl
any_step (goals.Propose value) reading step step' left = refl
any_step goals.AskInput reading step step' left = refl
any_step goals.Done reading step step' left = absurd cc
any_step goals.Spent reading step step' left = absurd cc

unread_is : (goal : Goal) (step : ℕ) → is_unfinished goal ≡ true → resolved_by goal false step ≡ round_of goal - 1
unread_is (goals.Write k value) step left = refl
unread_is (goals.Ask k) step left = refl
unread_is (goals.Propose value) step left = refl
unread_is goals.AskInput step left = refl
unread_is goals.Done step left = absurd cc
unread_is goals.Spent step left = absurd cc

read_is : (goal : Goal) (step : ℕ) → is_unfinished goal ≡ true → resolved_by goal true step ≡ round_of goal
read_is (goals.Write k value) step left = refl
read_is (goals.Ask k) step left = refl
read_is (goals.Propose value) step left = refl
read_is goals.AskInput step left = refl
read_is goals.Done step left = absurd cc
read_is goals.Spent step left = absurd cc

next_by : (b : Bool) (k value step : ℕ) → step ≡ k → resolved_by (cond b (goals.Write (k + 1) value) goals.Spent) false step ≡ k
next_by true k value step same = omega arith
next_by false k value step same = same

asks_is : (round step : ℕ) → resolved_by (asks_in round) false step ≡ round - 1
asks_is zero step = refl
asks_is (suc round) step = refl

-- the line after a choice reads, unless it gets an input
gets_reads : (round chosen : ℕ) → 1 ≤ round → is_reading (gets_in round chosen) ≡ true
gets_reads zero chosen first = absurd (omega arith)
gets_reads (suc round) chosen first = refl

gets_none : (round chosen : ℕ) → round ≡ 0 → is_reading (gets_in round chosen) ≡ false
gets_none zero chosen none = refl
gets_none (suc round) chosen none = absurd (omega (arith, none))

unread_at : (line : Line) (b : Bool) → is_reading line ≡ false → cond (is_reading line) b false ≡ false
unread_at line b is = ap (λ (reading : Bool). cond reading b false) is

read_at : (line : Line) (b : Bool) → is_reading line ≡ true → cond (is_reading line) b false ≡ b
read_at line b is = ap (λ (reading : Bool). cond reading b false) is

-- ---- each effect

-- the agreement that a simulator finds resolved is the next one of the process
pub record IsFound (spec : RoomSpec) (fields : Fields) (p before after : ℕ) : Type 0 where
  pub chosen : ℕ
  pub is : chosen_at spec fields p after ≡ Some chosen
  pub next : after ≡ before + 1

module _ (spec : RoomSpec) (fields : Fields) (own : Own) (p : ℕ) where
  -- neither before nor after has the turn got what was chosen, and the goals are as they were
  unread_effect : (mind : MindOf StepMap) → mind.goals ≡ own.mind.goals → is_reading own.mind.line ≡ false → is_reading mind.line ≡ false → resolved_in mind own.step p ≡ resolved_own own p
  unread_effect mind same was is =
      ap (λ (b : Bool). resolved_by (goal_at mind.goals p) b (own.step p)) (unread_at mind.line (eqb p mind.process) is)
      ∙ ap (λ (l : List Goal). resolved_by (goal_at l p) false (own.step p)) same
      ∙ ap (λ (b : Bool). resolved_by (goal_at own.mind.goals p) b (own.step p)) (sym (unread_at own.mind.line (eqb p own.mind.process) was))

  -- the goal of the turn's process has changed, and the turn has ended
  ended_effect : (turn : Turn) (goal : Goal) (mind : MindOf StepMap) → mind.goals ≡ own.mind.goals → mind.process < length mind.goals
      → (p ≡ mind.process → resolved_by goal false (own.step p) ≡ resolved_own own p) → (p ≢ mind.process → cond (is_reading own.mind.line) (eqb p own.mind.process) false ≡ false)
      → resolved_in (ended turn goal mind).mind own.step p ≡ resolved_own own p
  ended_effect turn goal mind same below here else = dite (ℕ_discrete p mind.process)
      (λ (e : p ≡ mind.process).
      let new : goal_at (set mind.goals mind.process goal) p ≡ goal = ap (λ (q : ℕ). get_or (set mind.goals mind.process goal) q goals.Done) e ∙ get_or-set_same mind.goals mind.process goal goals.Done below in
      ap (λ (g : Goal). resolved_by g false (own.step p)) new ∙ here e)
      (λ (n : p ≢ mind.process).
      ap (λ (g : Goal). resolved_by g false (own.step p)) (get_or-set_other mind.goals mind.process p goal goals.Done n)
      ∙ ap (λ (l : List Goal). resolved_by (goal_at l p) false (own.step p)) same
      ∙ ap (λ (b : Bool). resolved_by (goal_at own.mind.goals p) b (own.step p)) (sym (else n)))

  raise_effect : own.mind.line ≡ Raise → is_unfinished (current_goal own.mind) ≡ true → (mind : MindOf StepMap) → mind.goals ≡ own.mind.goals → is_reading mind.line ≡ false
      → resolved_in mind (changed own.step (process_on own) (own.step (process_on own) + 1)) p ≡ resolved_own own p
  raise_effect is left mind same unread = dite (ℕ_discrete p own.mind.process)
      (λ (e : p ≡ own.mind.process).
      let goal : is_unfinished (goal_at mind.goals p) ≡ true = ap (λ (l : List Goal). is_unfinished (goal_at l p)) same ∙ ap (λ (q : ℕ). is_unfinished (goal_at own.mind.goals q)) e ∙ left in
      any_step (goal_at mind.goals p) (cond (is_reading mind.line) (eqb p mind.process) false) (changed own.step (process_on own) (own.step (process_on own) + 1) p) (own.step p) goal ∙ unread_effect mind same (ap is_reading is) unread)
      (λ (n : p ≢ own.mind.process).
      ap (λ (s : ℕ). resolved_by (goal_at mind.goals p) (cond (is_reading mind.line) (eqb p mind.process) false) s) (changed_else own.step (process_on own) (own.step (process_on own) + 1) p n) ∙ unread_effect mind same (ap is_reading is) unread)

  -- what a simulator that asks has found resolved before
  asking_is : (asking : MindOf StepMap) → IsAsking spec own asking → p ≡ asking.process → resolved_own own p ≡ current_round asking - 1
  asking_is asking asks e =
      let goal : goal_at own.mind.goals p ≡ current_goal asking = ap (λ (l : List Goal). goal_at l p) (sym asks.goals) ∙ ap (λ (q : ℕ). goal_at asking.goals q) e in
      ap (λ (b : Bool). resolved_by (goal_at own.mind.goals p) b (own.step p)) (unread_at own.mind.line (eqb p own.mind.process) asks.unread)
      ∙ ap (λ (g : Goal). resolved_by g false (own.step p)) goal ∙ unread_is (current_goal asking) (own.step p) asks.left

  -- and one that reads
  pub reading_is : is_reading own.mind.line ≡ true → is_unfinished (current_goal own.mind) ≡ true → p ≡ own.mind.process → resolved_own own p ≡ round_on own
  reading_is reads left e =
      ap (λ (b : Bool). resolved_by (goal_at own.mind.goals p) b (own.step p)) (read_at own.mind.line (eqb p own.mind.process) reads ∙ eq-eqb p own.mind.process e)
      ∙ ap (λ (q : ℕ). resolved_by (goal_at own.mind.goals q) true (own.step p)) e ∙ read_is (current_goal own.mind) (own.step p) left

  reading_else : is_reading own.mind.line ≡ true → p ≢ own.mind.process → cond (is_reading own.mind.line) (eqb p own.mind.process) false ≡ false
  reading_else reads n = read_at own.mind.line (eqb p own.mind.process) reads ∙ ne_eqb p own.mind.process n

  -- it goes on reading, of the same process
  still_effect : (mind : MindOf StepMap) → mind.goals ≡ own.mind.goals → mind.process ≡ own.mind.process → is_reading own.mind.line ≡ true → is_reading mind.line ≡ true → resolved_in mind own.step p ≡ resolved_own own p
  still_effect mind same same' was is =
      ap (λ (b : Bool). resolved_by (goal_at mind.goals p) b (own.step p)) (read_at mind.line (eqb p mind.process) is)
      ∙ ap (λ (l : List Goal). resolved_by (goal_at l p) (eqb p mind.process) (own.step p)) same
      ∙ ap (λ (q : ℕ). resolved_by (goal_at own.mind.goals p) (eqb p q) (own.step p)) same'
      ∙ ap (λ (b : Bool). resolved_by (goal_at own.mind.goals p) b (own.step p)) (sym (read_at own.mind.line (eqb p own.mind.process) was))

  found_effect : (asking mind : MindOf StepMap) (chosen : ℕ) → IsAsking spec own asking → 1 ≤ current_round asking → chosen_at spec fields asking.process (current_round asking) ≡ Some chosen → mind.goals ≡ asking.goals → mind.process ≡ asking.process → is_reading mind.line ≡ true
      → (resolved_in mind own.step p ≡ resolved_own own p) ⊎ IsFound spec fields p (resolved_own own p) (resolved_in mind own.step p)
  found_effect asking mind chosen asks first is same same' reads = dite (ℕ_discrete p asking.process)
      (λ (e : p ≡ asking.process).
      let before = asking_is asking asks e in
      let after : resolved_in mind own.step p ≡ current_round asking =
      ap (λ (b : Bool). resolved_by (goal_at mind.goals p) b (own.step p)) (read_at mind.line (eqb p mind.process) reads ∙ eq-eqb p mind.process (e ∙ sym same'))
      ∙ ap (λ (l : List Goal). resolved_by (goal_at l p) true (own.step p)) same ∙ ap (λ (q : ℕ). resolved_by (goal_at asking.goals q) true (own.step p)) e
      ∙ read_is (current_goal asking) (own.step p) asks.left in
      inr (record {
        chosen = chosen;
        is = ap (λ (k : ℕ). chosen_at spec fields p k) after ∙ ap (λ (q : ℕ). chosen_at spec fields q (current_round asking)) e ∙ is;
        next = after ∙ omega (arith, before, first);
      }))
      (λ (n : p ≢ asking.process).
      let unread : eqb p mind.process ≡ false = ne_eqb p mind.process (λ e. n (e ∙ same')) in
      inl (ap (λ (b : Bool). resolved_by (goal_at mind.goals p) b (own.step p)) (read_at mind.line (eqb p mind.process) reads ∙ unread)
      ∙ ap (λ (l : List Goal). resolved_by (goal_at l p) false (own.step p)) (same ∙ asks.goals)
      ∙ ap (λ (b : Bool). resolved_by (goal_at own.mind.goals p) b (own.step p)) (sym (unread_at own.mind.line (eqb p own.mind.process) asks.unread))))

  pub own_resolves : (after : Own) → Effect spec fields own after → (resolved_own after p ≡ resolved_own own p) ⊎ IsFound spec fields p (resolved_own own p) (resolved_own after p)
  own_resolves after (stores j k value rest goal count process first last) = inl (unread_effect after.mind refl (ap is_reading rest) refl)
  own_resolves after (proposes j value rest goal none unentered within kind) = inl (unread_effect after.mind refl (ap is_reading rest) refl)
  own_resolves after (raises turn whole begun count) = inl (raise_effect turn.stands turn.left after.mind refl refl)
  own_resolves after (collects_word turn count none more) = inl (unread_effect after.mind refl (ap is_reading turn.stands) refl)
  own_resolves after (collects_again turn count none last several goes) = inl (unread_effect after.mind refl (ap is_reading turn.stands) refl)
  own_resolves after (scans collects turn count none last ends) = inl (unread_effect after.mind refl (ap is_reading turn.stands) refl)
  own_resolves after (loads_word found turn less more) = inl (still_effect after.mind refl refl (ap is_reading turn.stands) refl)
  own_resolves after (shows_word turn count none more) = inl (unread_effect after.mind refl (ap is_reading turn.stands) refl)
  own_resolves after (shows turn count none last) = inl (unread_effect after.mind refl (ap is_reading turn.stands) refl)
  own_resolves after (enters turn count none) = inl (unread_effect after.mind refl (ap is_reading turn.stands) refl)
  own_resolves after (looks turn count one) = inl (unread_effect after.mind refl (ap is_reading turn.stands) refl)
  own_resolves after (leaves saw_two turn count one) = inl (unread_effect after.mind refl (ap is_reading turn.stands) refl)
  own_resolves after (asks_in_vain asking asks is) =
      inl (ended_effect Quiet (asks_in (current_round asking)) asking asks.goals (let l = asks.long in let b = asks.process in omega arith)
      (λ e. asks_is (current_round asking) (own.step p) ∙ sym (asking_is asking asks e)) (λ n. unread_at own.mind.line (eqb p own.mind.process) asks.unread))
  own_resolves after (finds asking chosen asks is) =
      elim (cases_lt 0 (current_round asking)) [
        | inl first ↦ found_effect asking after.mind chosen asks (omega (arith, first)) is refl refl (gets_reads (current_round asking) chosen (omega (arith, first)))
        | inr none ↦ inl (unread_effect after.mind asks.goals asks.unread (gets_none (current_round asking) chosen (omega (arith, none))))
      ]
  own_resolves after (gets_input chosen turn count less) =
      inl (ended_effect Useful (first_write spec (min (fields.value chosen (process_on own) 0) greatest) (process_on own)) own.mind refl (let l = turn.long in let b = turn.process in omega arith)
      (λ e. sym (ap (λ (b : Bool). resolved_by (goal_at own.mind.goals p) b (own.step p)) (unread_at own.mind.line (eqb p own.mind.process) (ap is_reading turn.stands))
      ∙ ap (λ (q : ℕ). resolved_by (goal_at own.mind.goals q) false (own.step p)) e ∙ unread_is (current_goal own.mind) (own.step p) turn.left ∙ ap (λ (k : ℕ). k - 1) turn.first))
      (λ n. unread_at own.mind.line (eqb p own.mind.process) (ap is_reading turn.stands)))
  own_resolves after (gathers reading reads more) = inl (still_effect after.mind reads.goals reads.same reads.reads refl)
  own_resolves after (goes_to reading value reads all is) =
      let round : current_round reading ≡ round_on own = ap (λ (l : List Goal). round_of (goal_at l reading.process)) reads.goals ∙ ap (λ (q : ℕ). round_of (goal_at own.mind.goals q)) reads.same in
      inl (ended_effect Useful (after_write spec.rounds (current_round reading) value) reading reads.goals (let l = ap length reads.goals in let l' = reads.long in let b = reads.process in let s = reads.same in omega arith)
      (λ e. next_by (ltb (current_round reading) spec.rounds) (current_round reading) value (own.step p) (ap own.step (e ∙ reads.same) ∙ reads.count ∙ sym round) ∙ round ∙ sym (reading_is reads.reads reads.left (e ∙ reads.same)))
      (λ n. reading_else reads.reads (λ e. n (e ∙ sym reads.same))))
  own_resolves after (will_decide reading decision reads all is) = inl (still_effect after.mind reads.goals reads.same reads.reads refl)
  own_resolves after (decides decision turn count) =
      inl (ended_effect Useful goals.Done own.mind refl (let l = turn.long in let b = turn.process in omega arith)
      (λ e. ap own.step e ∙ count ∙ sym (reading_is (ap is_reading turn.stands) turn.left e)) (λ n. reading_else (ap is_reading turn.stands) n))
