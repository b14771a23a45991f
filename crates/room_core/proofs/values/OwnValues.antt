-- What a line makes of a simulator's values, goals and readings.
use Rattle.std.proofs.Common.{◌≡◌, ◌≢◌, ◌⊎◌, ℕ, zero, suc, ◌+◌, ◌<◌, ◌≤◌, Bool, true, false, cond, ltb, min, List, length, get_or, set, inl, inr, refl, sym, ap, ◌∙◌, arith}
use Rattle.std.proofs.lemmas.List.{get_or-set_same, get_or-set_other}
use mathlib.Core.Logic.{dite}
use native.Mathlib.Decide.{ℕ_discrete}
use Rattle.protocol_lang.specs.declared.meaning.Action.TheVariants as actions
use Rattle.room_spec.specs.Rooms.{RoomSpec, processes}
use Rattle.simulator.specs.declared.goal.Goal.{Goal}
use Rattle.simulator.specs.declared.goal.Goal.TheVariants as goals
use Rattle.simulator.specs.declared.line.Line.{Line}
use Rattle.simulator.specs.declared.line.Line.TheVariants.{Rest, Raise, GetInput, Out}
use Rattle.simulator.specs.Minds.{MindOf, goal_at, current_goal, current_round, first_write, is_unfinished, round_of}
use Rattle.simulator.specs.Turns.{after_write, asks_in}
use Rattle.protocol_lang.specs.Numbers.{greatest}
use Rattle.protocol_lang.specs.Meaning.{first_value}
use Rattle.room_core.specs.Fields.{StepMap, Fields, changed, changed_pair}
use Rattle.room_core.proofs.fields.Maps.{changed_here, changed_else, pair_here, pair_else}
use Rattle.room_core.proofs.agreements.Deciding.{not_done, HasDecided}
use Rattle.room_core.proofs.fields.Effects.{gets_not, Own, process_on, round_on, action_of, IsReading, IsTurn, Effect, stores, proposes, raises, collects_word, collects_again, scans, shows_word, shows, loads_word, enters, looks, leaves, asks_in_vain, finds, gets_input, gathers, goes_to, will_decide, decides}

not_spent : (goal : Goal) → is_unfinished goal ≡ true → goal ≢ goals.Spent
not_spent (goals.Write k value) left is = cc
not_spent (goals.Ask k) left is = cc
not_spent (goals.Propose value) left is = cc
not_spent goals.AskInput left is = cc
not_spent goals.Done left is = cc
not_spent goals.Spent left is = cc

-- the turn has gathered all entries, and the protocol answers this value
pub record IsNext (spec : RoomSpec) (fields : Fields) (own : Own) (p k value : ℕ) : Type 0 where
  pub reading : MindOf StepMap
  pub reads : IsReading spec fields own reading
  pub all : processes spec ≤ length reading.entries
  pub action : action_of spec reading ≡ actions.Write value
  pub process : p ≡ reading.process
  pub round : k ≡ current_round reading + 1

-- the turn has got the input that was agreed on, and makes its first write next
pub record IsFirst (spec : RoomSpec) (fields : Fields) (own : Own) (p k value : ℕ) : Type 0 where
  pub chosen : ℕ
  pub turn : IsTurn spec own (GetInput chosen)
  pub process : p ≡ process_on own
  pub round : k ≡ 1
  pub is : value ≡ first_value spec.protocol (min (fields.value chosen (process_on own) 0) greatest) (process_on own) (processes spec)

same_write : (k k' value value' : ℕ) → goals.Write k value ≡ goals.Write k' value' → (k ≡ k') × (value ≡ value')
same_write k k' value value' is = (cc, cc)

next_goal : (b : Bool) (round given k value : ℕ) → cond b (goals.Write (round + 1) given) goals.Spent ≡ goals.Write k value → (round + 1 ≡ k) × (given ≡ value)
next_goal true round given k value is = same_write (round + 1) k given value is
next_goal false round given k value is = absurd cc

module _ (spec : RoomSpec) (fields : Fields) (own : Own) (p : ℕ) where
  -- the goal of the turn's process was set
  set_goal : (list : List Goal) (j : ℕ) (goal : Goal) (k value : ℕ) → list ≡ own.mind.goals → j < length list → goal_at (set list j goal) p ≡ goals.Write k value → (goal_at own.mind.goals p ≡ goals.Write k value) ⊎ ((p ≡ j) × (goal ≡ goals.Write k value))
  set_goal list j goal k value same below is = dite (ℕ_discrete p j)
      (λ (e : p ≡ j). inr (e, sym (ap (λ (q : ℕ). get_or (set list j goal) q goals.Done) e ∙ get_or-set_same list j goal goals.Done below) ∙ is))
      (λ (n : p ≢ j). inl (ap (λ (l : List Goal). goal_at l p) (sym same) ∙ sym (get_or-set_other list j p goal goals.Done n) ∙ is))

  no_ask : (k round value : ℕ) → asks_in round ≡ goals.Write k value → ⊥
  no_ask k zero value is = cc
  no_ask k (suc round) value is = cc

  no_done : (k value : ℕ) → goals.Done ≡ goals.Write k value → ⊥
  no_done k value is = cc

  -- where a write that is a goal comes from
  abbrev WrittenBy : ℕ → ℕ → Type 0
  WrittenBy k value = (goal_at own.mind.goals p ≡ goals.Write k value) ⊎ (IsNext spec fields own p k value ⊎ IsFirst spec fields own p k value)

  first_by : (chosen k value : ℕ) → IsTurn spec own (GetInput chosen) → (goal_at own.mind.goals p ≡ goals.Write k value) ⊎ ((p ≡ process_on own) × (first_write spec (min (fields.value chosen (process_on own) 0) greatest) (process_on own) ≡ goals.Write k value)) → WrittenBy k value
  first_by chosen k value turn (inl old) = inl old
  first_by chosen k value turn (inr new) =
      let same = same_write 1 k (first_value spec.protocol (min (fields.value chosen (process_on own) 0) greatest) (process_on own) (processes spec)) value new.1 in
      inr (inr (record { chosen = chosen; turn = turn; process = new.0; round = sym same.0; is = sym same.1 }))

  pub own_writes : (after : Own) (k value : ℕ) → Effect spec fields own after → goal_at after.mind.goals p ≡ goals.Write k value → WrittenBy k value
  own_writes after k value (stores j k' value' rest goal count process first last) is = inl is
  own_writes after k value (proposes j value' rest goal none unentered within kind) is = inl is
  own_writes after k value (raises turn whole begun count) is = inl is
  own_writes after k value (collects_word turn count none more) is = inl is
  own_writes after k value (collects_again turn count none last several goes) is = inl is
  own_writes after k value (scans collects turn count none last ends) is = inl is
  own_writes after k value (gets_input chosen turn count less) is =
      first_by chosen k value turn (set_goal own.mind.goals own.mind.process (first_write spec (min (fields.value chosen (process_on own) 0) greatest) (process_on own)) k value refl (let l = turn.long in let b = turn.process in omega arith) is)
  own_writes after k value (loads_word found turn less more) is = inl is
  own_writes after k value (shows_word turn count none more) is = inl is
  own_writes after k value (shows turn count none last) is = inl is
  own_writes after k value (enters turn count none) is = inl is
  own_writes after k value (looks turn count one) is = inl is
  own_writes after k value (leaves saw_two turn count one) is = inl is
  own_writes after k value (asks_in_vain asking asks none) is =
      elim (set_goal asking.goals asking.process (asks_in (current_round asking)) k value asks.goals (let l = asks.long in let b = asks.process in omega arith) is) [ inl old ↦ inl old | inr new ↦ absurd (no_ask k (current_round asking) value new.1) ]
  own_writes after k value (finds asking chosen asks some) is = inl (ap (λ (l : List Goal). goal_at l p) (sym asks.goals) ∙ is)
  own_writes after k value (gathers reading reads more) is = inl (ap (λ (l : List Goal). goal_at l p) (sym reads.goals) ∙ is)
  own_writes after k value (goes_to reading given reads all action) is =
      elim (set_goal reading.goals reading.process (after_write spec.rounds (current_round reading) given) k value reads.goals (let l = ap length reads.goals in let l' = reads.long in let b = reads.process in let s = reads.same in omega arith) is) [
        | inl old ↦ inl old
        | inr new ↦
            (let next = next_goal (ltb (current_round reading) spec.rounds) (current_round reading) given k value new.1 in
            inr (inl (record { reading = reading; reads = reads; all = all; action = action ∙ ap (λ (v : ℕ). actions.Write v) next.1; process = new.0; round = sym next.0 })))
      ]
  own_writes after k value (will_decide reading decision reads all action) is = inl (ap (λ (l : List Goal). goal_at l p) (sym reads.goals) ∙ is)
  own_writes after k value (decides decision turn count) is =
      elim (set_goal own.mind.goals own.mind.process goals.Done k value refl (let l = turn.long in let b = turn.process in omega arith) is) [ inl old ↦ inl old | inr new ↦ absurd (no_done k value new.1) ]

  -- a value of a round that is counted stays; a new round is that of a turn at Raise
  raised_value : (r : ℕ) → own.mind.line ≡ Raise → r ≤ changed own.step (process_on own) (own.step (process_on own) + 1) p → (r ≤ own.step p) ⊎ ((own.mind.line ≡ Raise) × (p ≡ own.mind.process) × (r ≡ own.step p + 1))
  raised_value r is most = dite (ℕ_discrete p own.mind.process)
      (λ (e : p ≡ own.mind.process).
      let step : changed own.step (process_on own) (own.step (process_on own) + 1) p ≡ own.step p + 1 = changed_here own.step (process_on own) (own.step (process_on own) + 1) p e ∙ ap (λ (q : ℕ). own.step q + 1) (sym e) in
      dite (ℕ_discrete r (own.step p + 1)) (λ (e' : r ≡ own.step p + 1). inr (is, e, e')) (λ (n : r ≢ own.step p + 1). inl (omega arith)))
      (λ (n : p ≢ own.mind.process). inl (let step : changed own.step (process_on own) (own.step (process_on own) + 1) p ≡ own.step p = changed_else own.step (process_on own) (own.step (process_on own) + 1) p n in omega arith))

  pub own_counts : (after : Own) (r : ℕ) → Effect spec fields own after → r ≤ after.step p → (r ≤ own.step p) ⊎ ((own.mind.line ≡ Raise) × (p ≡ own.mind.process) × (r ≡ own.step p + 1))
  own_counts after r (stores j k value rest goal count process first last) most = inl most
  own_counts after r (proposes j value rest goal none unentered within kind) most = inl most
  own_counts after r (raises turn whole begun count) most = raised_value r turn.stands most
  own_counts after r (collects_word turn count none more) most = inl most
  own_counts after r (collects_again turn count none last several goes) most = inl most
  own_counts after r (scans collects turn count none last ends) most = inl most
  own_counts after r (gets_input chosen turn count less) most = inl most
  own_counts after r (loads_word found turn less more) most = inl most
  own_counts after r (shows_word turn count none more) most = inl most
  own_counts after r (shows turn count none last) most = inl most
  own_counts after r (enters turn count none) most = inl most
  own_counts after r (looks turn count one) most = inl most
  own_counts after r (leaves saw_two turn count one) most = inl most
  own_counts after r (asks_in_vain asking asks none) most = inl most
  own_counts after r (finds asking chosen asks some) most = inl most
  own_counts after r (gathers reading reads more) most = inl most
  own_counts after r (goes_to reading given reads all action) most = inl most
  own_counts after r (will_decide reading decision reads all action) most = inl most
  own_counts after r (decides decision turn count) most = inl most

  no_rest : (line : Line) → own.mind.line ≡ Rest → own.mind.line ≡ Raise → ⊥
  no_rest line is is' = cc

  -- the store of a write changes the value of the round after those that are counted
  pub own_values : (after : Own) (r : ℕ) → Effect spec fields own after → 1 ≤ r → (r ≤ own.step p) ⊎ (own.mind.line ≡ Raise) → after.value p r ≡ own.value p r
  own_values after r (stores j k value rest goal count process first last) low (inl most) = pair_else own.value j k value p r (λ e e'. let same = ap own.step e in omega arith)
  own_values after r (stores j k value rest goal count process first last) low (inr raise) = absurd (no_rest Rest rest raise)
  own_values after r (proposes j value rest goal none unentered within kind) low kept = pair_else own.value j 0 value p r (λ e e'. omega (arith, low, e'))
  own_values after r (raises turn whole begun count) low kept = refl
  own_values after r (collects_word turn count none more) low kept = refl
  own_values after r (collects_again turn count none last several goes) low kept = refl
  own_values after r (scans collects turn count none last ends) low kept = refl
  own_values after r (gets_input chosen turn count less) low kept = refl
  own_values after r (loads_word found turn less more) low kept = refl
  own_values after r (shows_word turn count none more) low kept = refl
  own_values after r (shows turn count none last) low kept = refl
  own_values after r (enters turn count none) low kept = refl
  own_values after r (looks turn count one) low kept = refl
  own_values after r (leaves saw_two turn count one) low kept = refl
  own_values after r (asks_in_vain asking asks none) low kept = refl
  own_values after r (finds asking chosen asks some) low kept = refl
  own_values after r (gathers reading reads more) low kept = refl
  own_values after r (goes_to reading given reads all action) low kept = refl
  own_values after r (will_decide reading decision reads all action) low kept = refl
  own_values after r (decides decision turn count) low kept = refl

  -- what stands at Raise has stored the write of its goal
  pub own_stored : (after : Own) (k value : ℕ) → Effect spec fields own after → after.mind.line ≡ Raise → current_goal after.mind ≡ goals.Write k value → after.value after.mind.process k ≡ value
  own_stored after k value (stores j k' value' rest goal count process first last) is at =
      let same = same_write k' k value' value (sym goal ∙ at) in
      ap (λ (q : ℕ). changed_pair own.value j k' value' j q) (sym same.0) ∙ pair_here own.value j k' value' ∙ same.1
  own_stored after k value (proposes j value' rest goal none unentered within kind) is at = absurd cc
  own_stored after k value (raises turn whole begun count) is at = absurd cc
  own_stored after k value (collects_word turn count none more) is at = absurd cc
  own_stored after k value (collects_again turn count none last several goes) is at = absurd cc
  own_stored after k value (scans collects turn count none last ends) is at = absurd cc
  own_stored after k value (gets_input chosen turn count less) is at = absurd cc
  own_stored after k value (loads_word found turn less more) is at = absurd cc
  own_stored after k value (shows_word turn count none more) is at = absurd cc
  own_stored after k value (shows turn count none last) is at = absurd cc
  own_stored after k value (enters turn count none) is at = absurd cc
  own_stored after k value (looks turn count one) is at = absurd cc
  own_stored after k value (leaves saw_two turn count one) is at = absurd cc
  own_stored after k value (asks_in_vain asking asks none) is at = absurd cc
  own_stored after k value (finds asking chosen asks some) is at = absurd (gets_not (current_round asking) chosen Raise refl is)
  own_stored after k value (gathers reading reads more) is at = absurd cc
  own_stored after k value (goes_to reading given reads all action) is at = absurd cc
  own_stored after k value (will_decide reading decision reads all action) is at = absurd cc
  own_stored after k value (decides decision turn count) is at = absurd cc

  -- a decision that is stored stays, with the rounds that were counted
  raised_else : (d : ℕ) → is_unfinished (current_goal own.mind) ≡ true → HasDecided own p → own.out p ≡ d + 1 → changed own.step (process_on own) (own.step (process_on own) + 1) p ≡ own.step p
  raised_else d left was out = dite (ℕ_discrete p own.mind.process)
      (λ (e : p ≡ own.mind.process). absurd (not_done (current_goal own.mind) left (ap (λ (q : ℕ). goal_at own.mind.goals q) (sym e) ∙ was (λ none. omega arith))))
      (λ (n : p ≢ own.mind.process). changed_else own.step (process_on own) (own.step (process_on own) + 1) p n)

  decided_new : (d given : ℕ) → own.mind.line ≡ Out given → own.step (process_on own) ≡ round_on own → changed own.out (process_on own) (given + 1) p ≡ d + 1
      → ((own.out p ≡ d + 1) × (own.step p ≡ own.step p)) ⊎ ((own.mind.line ≡ Out d) × (p ≡ own.mind.process) × (own.step p ≡ round_on own))
  decided_new d given is count out = dite (ℕ_discrete p own.mind.process)
      (λ (e : p ≡ own.mind.process).
      let entry : given + 1 ≡ d + 1 = sym (changed_here own.out (process_on own) (given + 1) p e) ∙ out in
      let same : given ≡ d = omega arith in
      inr (is ∙ ap (λ (x : ℕ). Out x) same, e, ap own.step e ∙ count))
      (λ (n : p ≢ own.mind.process). inl (sym (changed_else own.out (process_on own) (given + 1) p n) ∙ out, refl))

  pub own_decided : (after : Own) (d : ℕ) → Effect spec fields own after → HasDecided own p → after.out p ≡ d + 1 → ((own.out p ≡ d + 1) × (after.step p ≡ own.step p)) ⊎ ((own.mind.line ≡ Out d) × (p ≡ own.mind.process) × (after.step p ≡ round_on own))
  own_decided after d (stores j k value rest goal count process first last) was out = inl (out, refl)
  own_decided after d (proposes j value rest goal none unentered within kind) was out = inl (out, refl)
  own_decided after d (raises turn whole begun count) was out = inl (out, raised_else d turn.left was out)
  own_decided after d (collects_word turn count none more) was out = inl (out, refl)
  own_decided after d (collects_again turn count none last several goes) was out = inl (out, refl)
  own_decided after d (scans collects turn count none last ends) was out = inl (out, refl)
  own_decided after d (gets_input chosen turn count less) was out = inl (out, refl)
  own_decided after d (loads_word found turn less more) was out = inl (out, refl)
  own_decided after d (shows_word turn count none more) was out = inl (out, refl)
  own_decided after d (shows turn count none last) was out = inl (out, refl)
  own_decided after d (enters turn count none) was out = inl (out, refl)
  own_decided after d (looks turn count one) was out = inl (out, refl)
  own_decided after d (leaves saw_two turn count one) was out = inl (out, refl)
  own_decided after d (asks_in_vain asking asks none) was out = inl (out, refl)
  own_decided after d (finds asking chosen asks some) was out = inl (out, refl)
  own_decided after d (gathers reading reads more) was out = inl (out, refl)
  own_decided after d (goes_to reading given reads all action) was out = inl (out, refl)
  own_decided after d (will_decide reading decision reads all action) was out = inl (out, refl)
  own_decided after d (decides given turn count) was out = decided_new d given turn.stands count out

  -- and a process that is spent stays so
  raised_spent : is_unfinished (current_goal own.mind) ≡ true → goal_at own.mind.goals p ≡ goals.Spent → changed own.step (process_on own) (own.step (process_on own) + 1) p ≡ own.step p
  raised_spent left is = dite (ℕ_discrete p own.mind.process)
      (λ (e : p ≡ own.mind.process). absurd (not_spent (current_goal own.mind) left (ap (λ (q : ℕ). goal_at own.mind.goals q) (sym e) ∙ is)))
      (λ (n : p ≢ own.mind.process). changed_else own.step (process_on own) (own.step (process_on own) + 1) p n)

  set_spent : (list : List Goal) (j : ℕ) (goal : Goal) → list ≡ own.mind.goals → j < length list → goal_at (set list j goal) p ≡ goals.Spent → (goal_at own.mind.goals p ≡ goals.Spent) ⊎ ((p ≡ j) × (goal ≡ goals.Spent))
  set_spent list j goal same below is = dite (ℕ_discrete p j)
      (λ (e : p ≡ j). inr (e, sym (ap (λ (q : ℕ). get_or (set list j goal) q goals.Done) e ∙ get_or-set_same list j goal goals.Done below) ∙ is))
      (λ (n : p ≢ j). inl (ap (λ (l : List Goal). goal_at l p) (sym same) ∙ sym (get_or-set_other list j p goal goals.Done n) ∙ is))

  ask_spent : (round : ℕ) → asks_in round ≡ goals.Spent → ⊥
  ask_spent zero is = cc
  ask_spent (suc round) is = cc

  write_spent : (k value : ℕ) → goals.Write k value ≡ goals.Spent → ⊥
  write_spent k value is = cc

  done_spent : goals.Done ≡ goals.Spent → ⊥
  done_spent is = cc

  pub own_spent : (after : Own) → Effect spec fields own after → goal_at after.mind.goals p ≡ goals.Spent → ((goal_at own.mind.goals p ≡ goals.Spent) × (after.step p ≡ own.step p)) ⊎ ((value : ℕ) × (after.step p ≡ own.step p) × IsNext spec fields own p (own.step p + 1) value)
  own_spent after (stores j k value rest goal count process first last) is = inl (is, refl)
  own_spent after (proposes j value rest goal none unentered within kind) is = inl (is, refl)
  own_spent after (raises turn whole begun count) is = inl (is, raised_spent turn.left is)
  own_spent after (collects_word turn count none more) is = inl (is, refl)
  own_spent after (collects_again turn count none last several goes) is = inl (is, refl)
  own_spent after (scans collects turn count none last ends) is = inl (is, refl)
  own_spent after (gets_input chosen turn count less) is =
      elim (set_spent own.mind.goals own.mind.process (first_write spec (min (fields.value chosen (process_on own) 0) greatest) (process_on own)) refl (let l = turn.long in let b = turn.process in omega arith) is) [
        | inl old ↦ inl (old, refl)
        | inr new ↦ absurd (write_spent 1 (first_value spec.protocol (min (fields.value chosen (process_on own) 0) greatest) (process_on own) (processes spec)) new.1)
      ]
  own_spent after (loads_word found turn less more) is = inl (is, refl)
  own_spent after (shows_word turn count none more) is = inl (is, refl)
  own_spent after (shows turn count none last) is = inl (is, refl)
  own_spent after (enters turn count none) is = inl (is, refl)
  own_spent after (looks turn count one) is = inl (is, refl)
  own_spent after (leaves saw_two turn count one) is = inl (is, refl)
  own_spent after (asks_in_vain asking asks none) is =
      elim (set_spent asking.goals asking.process (asks_in (current_round asking)) asks.goals (let l = asks.long in let b = asks.process in omega arith) is) [ inl old ↦ inl (old, refl) | inr new ↦ absurd (ask_spent (current_round asking) new.1) ]
  own_spent after (finds asking chosen asks some) is = inl (ap (λ (l : List Goal). goal_at l p) (sym asks.goals) ∙ is, refl)
  own_spent after (gathers reading reads more) is = inl (ap (λ (l : List Goal). goal_at l p) (sym reads.goals) ∙ is, refl)
  own_spent after (goes_to reading given reads all action) is =
      elim (set_spent reading.goals reading.process (after_write spec.rounds (current_round reading) given) reads.goals (let l = ap length reads.goals in let l' = reads.long in let b = reads.process in let s = reads.same in omega arith) is) [
        | inl old ↦ inl (old, refl)
        | inr new ↦
            (let round : current_round reading ≡ round_on own = ap (λ (l : List Goal). round_of (goal_at l reading.process)) reads.goals ∙ ap (λ (q : ℕ). round_of (goal_at own.mind.goals q)) reads.same in
            inr (given, refl, record { reading = reading; reads = reads; all = all; action = action; process = new.0; round = ap (λ (x : ℕ). x + 1) (ap own.step (new.0 ∙ reads.same) ∙ reads.count ∙ sym round) }))
      ]
  own_spent after (will_decide reading decision reads all action) is = inl (ap (λ (l : List Goal). goal_at l p) (sym reads.goals) ∙ is, refl)
  own_spent after (decides decision turn count) is =
      elim (set_spent own.mind.goals own.mind.process goals.Done refl (let l = turn.long in let b = turn.process in omega arith) is) [ inl old ↦ inl (old, refl) | inr new ↦ absurd (done_spent new.1) ]
