-- A simulator takes the steps of a turn at one go.
use Rattle.std.proofs.Common.{◌≡◌, ◌∙◌, ◌⊎◌, inl, inr, ℕ, zero, suc, ◌+◌, ◌-◌, ◌<◌, ◌≤◌, List, [], ◌∷◌, length, get_or, sym, ap, subst, arith}
use Rattle.std.specs.Prelude.{slice_set}
use Rattle.std.proofs.lemmas.List.{set-set, set-get_or}
use Rattle.std.proofs.lemmas.Bool.{cases_lt}
use Rattle.simulator.specs.declared.operation.Move.{Move}
use Rattle.simulator.specs.declared.sweep.Ready.TheVariants as answers_to
use Rattle.simulator.specs.declared.turn.Turn.{Turn}
use Rattle.simulator.specs.Minds.{MindState}
use Rattle.simulator.specs.Moves.{IsOperation, answer_of, move_of, taken, words_after}
use Rattle.simulator.specs.Bounds.{IsReadyThroughout, answered, answered_all}
use Rattle.simulator.specs.Runs.{Asked, Runs}
use Rattle.simulator.specs.Sweeps.{SweepState, quiet_after, ready_of}
use Rattle.simulator.proofs.CallerLemmas.{answered_along, ready_along}
use Rattle.room_core.specs.declared.reply.StepReply.TheVariants.{Stepped}
use Rattle.room_core.specs.Calls.{IsCore, RoomState, moved, ready_at, room_after_step, room_after_steps, step_reply, sweep_at, sweep_after, taken_by}
use Rattle.room_core.proofs.settling.Alone.{IsUp, step_up}
use Rattle.room_core.proofs.fields.Repeating.{HasRun, begins, line_of, replied}
use Rattle.room_core.proofs.fields.States.{moved_room, operates, read_sweep}

-- the room with other words, and another sweep of simulator i
abbrev pub with_parts : RoomState → ℕ → List ℕ → SweepState → RoomState
with_parts room i words sweep = record room { words = words; sweeps = slice_set room.sweeps i sweep }

-- This is what each operation makes of the words.
abbrev pub IsExact : {M : Type 0} → (M → List ℕ) → (M → Move → ℕ → M → Type 0) → Type 0
IsExact words does = (memory : _) (next : Move) (answer : ℕ) (after : _) → does memory next answer after → (words after ≡ words_after next (words memory)) × (answer ≡ answer_of next (words memory))

one_first : (room : RoomState) (i count : ℕ) (after : RoomState) → IsUp room i → ready_at room i ≡ answers_to.Step → HasRun (moved room i) i count after → HasRun room i (suc count) after
one_first room i count after up is run =
    let next = step_up room i up is in
    record {
      up = run.up;
      so_far = run.so_far ∙ ap (λ (r : RoomState). room_after_steps r i count) (sym next.is);
      taken = first (sym (replied room i answers_to.Step up is)) (subst (λ (r : RoomState). (k : ℕ) → k < count → step_reply (room_after_steps r i k) i ≡ Stepped) (sym next.is) run.taken);
    }
  where
    first : step_reply room i ≡ Stepped → ((k : ℕ) → k < count → step_reply (room_after_steps (room_after_step room i) i k) i ≡ Stepped) → (k : ℕ) → k < suc count → step_reply (room_after_steps room i k) i ≡ Stepped
    first now later zero less = now
    first now later (suc k) less = later k (omega arith)

-- the steps were taken, and the room is one
pub record HasTurned (room : RoomState) (i count : ℕ) (after : RoomState) : Type 0 where
  pub run : HasRun room i count after
  pub core : IsCore after

turned : {M : Type 0} (words : M → List ℕ) (does : M → Move → ℕ → M → Type 0) → IsExact words does → (room : RoomState) (i : ℕ) (sweep : SweepState) (answers : List ℕ) (memory last : M) → IsCore room → IsUp room i → words memory ≡ room.words → sweep ≡ sweep_at room i → Asked does room.spec memory sweep.mind answers last → IsReadyThroughout room.spec sweep answers → HasTurned room i (length answers) (with_parts room i (words last) (answered_all room.spec sweep answers))
turned words does exact room i sweep [] memory last core up here is asked all =
    let same_words : room.words ≡ words last = sym here ∙ ap words asked in
    let same_sweeps : room.sweeps ≡ slice_set room.sweeps i sweep = sym (ap (λ (s : SweepState). slice_set room.sweeps i s) is ∙ set-get_or room.sweeps i _) in
    let same : room ≡ with_parts room i (words last) sweep = λ k. record room { words = same_words k; sweeps = same_sweeps k } in
    subst (HasTurned room i 0) same (record { run = begins room i up; core = core })
turned words does exact room i sweep (answer ∷ answers) memory last core up here is asked all =
    let e = exact memory (move_of room.spec sweep.mind) answer asked.0 asked.1 in
    let ready : ready_at room i ≡ answers_to.Step = ap (λ (s : SweepState). ready_of room.spec s.mind s.quiet) (sym is) ∙ all.0 in
    let next = step_up room i up ready in
    let after = answered room.spec sweep answer in
    let here_next : words asked.0 ≡ (moved room i).words = e.0 ∙ ap (words_after (move_of room.spec sweep.mind)) here ∙ ap (λ (s : SweepState). words_after (move_of room.spec s.mind) room.words) is in
    let answered_is : answer ≡ answer_of (move_of room.spec sweep.mind) room.words = e.1 ∙ ap (answer_of (move_of room.spec sweep.mind)) here in
    let swept : after ≡ sweep_after (taken_by room i) (sweep_at room i).quiet = ap (λ (a : ℕ). answered room.spec sweep a) answered_is ∙ ap (λ (s : SweepState). answered room.spec s (answer_of (move_of room.spec s.mind) room.words)) is in
    let rest = turned words does exact (moved room i) i after answers asked.0 last (moved_room room i core (line_of room i up ready)) next.up here_next (swept ∙ sym next.own) asked.2 all.1 in
    let sweeps = ap (λ (s : SweepState). slice_set (slice_set room.sweeps i s) i (answered_all room.spec after answers)) (sym swept) ∙ set-set room.sweeps i after (answered_all room.spec after answers) in
    let same : with_parts (moved room i) i (words last) (answered_all room.spec after answers) ≡ with_parts room i (words last) (answered_all room.spec after answers) = λ k. record room { words = words last; sweeps = sweeps k } in
    let both = subst (HasTurned (moved room i) i (length answers)) same rest in
    record { run = one_first room i (length answers) (with_parts room i (words last) (answered_all room.spec after answers)) up ready both.run; core = both.core }

-- what a run of a mind on the words makes of its room
pub runs_room : {M : Type 0} (words : M → List ℕ) (does : M → Move → ℕ → M → Type 0) → IsExact words does → (room : RoomState) (i : ℕ) (sweep : SweepState) (count : ℕ) (memory last : M) (mind : MindState) (turn : Turn) → IsCore room → IsUp room i → words memory ≡ room.words → sweep ≡ sweep_at room i → ready_at room i ≡ answers_to.Step → Runs does room.spec memory sweep.mind count last mind turn → HasTurned room i count (with_parts room i (words last) (record { mind = mind; quiet = quiet_after turn sweep.quiet }))
runs_room words does exact room i sweep count memory last mind turn core up here is ready runs =
    let ready_here : ready_of room.spec sweep.mind sweep.quiet ≡ answers_to.Step = ap (λ (s : SweepState). ready_of room.spec s.mind s.quiet) is ∙ ready in
    let operation : IsOperation (move_of room.spec sweep.mind) = subst (λ (s : SweepState). IsOperation (move_of room.spec s.mind)) (sym is) (operates room i (line_of room i up ready)) in
    let all = ready_along room.spec sweep.mind sweep.quiet runs.answers turn runs.turn_is operation ready_here in
    let run = turned words does exact room i sweep runs.answers memory last core up here is runs.asked all in
    let last_sweep : answered_all room.spec sweep runs.answers ≡ record { mind = mind; quiet = quiet_after turn sweep.quiet } = answered_along room.spec sweep.mind sweep.quiet runs.answers turn runs.turn_is ∙ ap (λ (m : MindState). record { mind = m; quiet = quiet_after turn sweep.quiet }) (sym runs.mind_is) in
    subst (λ (s : SweepState). HasTurned room i count (with_parts room i (words last) s)) last_sweep (subst (λ (n : ℕ). HasTurned room i n (with_parts room i (words last) (answered_all room.spec sweep runs.answers))) runs.as_many run)

-- ---- one run after the other

after_sum : (room : RoomState) (i first second : ℕ) → room_after_steps (room_after_steps room i first) i second ≡ room_after_steps room i (first + second)
after_sum room i zero second =
    let same : second ≡ 0 + second = omega arith in
    ap (λ (n : ℕ). room_after_steps room i n) same
after_sum room i (suc first) second =
    let same : suc (first + second) ≡ suc first + second = omega arith in
    after_sum (room_after_step room i) i first second ∙ ap (λ (n : ℕ). room_after_steps room i n) same

pub joins : (start room after : RoomState) (i first second : ℕ) → HasRun start i first room → after ≡ room_after_steps room i second → IsUp after i → ((k : ℕ) → k < second → step_reply (room_after_steps room i k) i ≡ Stepped) → HasRun start i (first + second) after
joins start room after i first second run is up taken = record {
  up = up;
  so_far = is ∙ ap (λ (r : RoomState). room_after_steps r i second) run.so_far ∙ after_sum start i first second;
  taken = λ k less. by_lt k (cases_lt k first) less;
}
  where
    by_lt : (k : ℕ) → (k < first) ⊎ (first ≤ k) → k < first + second → step_reply (room_after_steps start i k) i ≡ Stepped
    by_lt k (inl early) less = run.taken k early
    by_lt k (inr late) less =
        let at : first + (k - first) ≡ k = omega arith in
        ap (λ (n : ℕ). step_reply (room_after_steps start i n) i) (sym at) ∙ ap (λ (r : RoomState). step_reply r i) (sym (after_sum start i first (k - first))) ∙ ap (λ (r : RoomState). step_reply (room_after_steps r i (k - first)) i) (sym run.so_far) ∙ taken (k - first) (omega arith)

-- ---- what the code leaves

pub turn_left : {M : Type 0} (words : M → List ℕ) (does : M → Move → ℕ → M → Type 0) → IsExact words does → (room : RoomState) (i : ℕ) (read after : SweepState) (count : ℕ) (memory last : M) (turn : Turn) → IsCore room → IsUp room i → words memory ≡ room.words → read ≡ get_or room.sweeps i read → ready_at room i ≡ answers_to.Step
    → after.quiet ≡ quiet_after turn read.quiet → Runs does room.spec memory read.mind count last after.mind turn
    → HasTurned room i count (with_parts room i (words last) after)
turn_left words does exact room i read after count memory last turn core up here is ready quiet runs =
    let there = read_sweep room i read up.shape up.below is in
    let turned = runs_room words does exact room i read count memory last after.mind turn core up here there ready runs in
    let left : with_parts room i (words last) (record { mind = after.mind; quiet = quiet_after turn read.quiet }) ≡ with_parts room i (words last) after = λ k. with_parts room i (words last) (record { mind = after.mind; quiet = (sym quiet) k }) in
    subst (HasTurned room i count) left turned

pub turn_operation : (room : RoomState) (i : ℕ) (read : SweepState) → IsUp room i → read ≡ get_or room.sweeps i read → ready_at room i ≡ answers_to.Step → IsOperation (move_of room.spec read.mind)
turn_operation room i read up is ready =
    let there = read_sweep room i read up.shape up.below is in
    subst (λ (sweep : SweepState). IsOperation (move_of room.spec sweep.mind)) (sym there) (operates room i (line_of room i up ready))

-- a run of one step is that step
pub of_one : (room after : RoomState) (i count : ℕ) → IsUp room i → ready_at room i ≡ answers_to.Step → after ≡ room_after_steps room i count → count ≤ 1 → 0 < count → after ≡ moved room i
of_one room after i zero up ready is few some = absurd (omega arith)
of_one room after i (suc zero) up ready is few some = let next = step_up room i up ready in is ∙ next.is
of_one room after i (suc (suc count)) up ready is few some = absurd (omega arith)
