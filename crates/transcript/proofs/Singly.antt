-- Processes are judged one by one: what one may do depends on its own input, and on no other's.
use Rattle.std.proofs.Common.{◌≡◌, ℕ, zero, suc, ◌+◌, ◌<◌, ◌≤◌, List, [], ◌∷◌, length, replicate, take, get_or, Some, refl, sym, ap, ◌∙◌, subst, arith}
use Rattle.std.specs.Prelude.{slice_get}
use Rattle.std.specs.List.{Contains, count_by}
use Rattle.std.specs.Option.{option_map_or}
use Rattle.std.proofs.lemmas.List.{get_or-replicate, length-replicate}
use Rattle.std.proofs.lemmas.Grind.{get_or_default_zero}
use Rattle.transcript.specs.Tasks.{decided_in, different}
use Rattle.transcript.proofs.Agreeing.{decides_few, decides_inputs}
use Rattle.protocol_lang.specs.Meaning.{first_value, next_action}
use Rattle.protocol_lang.specs.declared.meaning.Action.{Action}
use Rattle.protocol_lang.specs.declared.meaning.Action.TheVariants as actions
use Rattle.room_spec.specs.Rooms.{RoomSpec, IsCertified, processes, with_inputs}
use Rattle.transcript.specs.declared.event.Event.{Event}
use Rattle.transcript.specs.declared.event.Event.TheVariants.{Write, Snap, Decide}
use Rattle.transcript.specs.Runs.{action_due, is_snap_by, latest, process_of, seen_by, IsEnabled, IsRun}
use Rattle.transcript.specs.Reductions.{AreFromOwn, IsRunByProcess, IsRunOf, MayHave}

-- ---- two rooms that differ in their inputs

module _ (spec : RoomSpec) (a b : List ℕ) (same : length a ≡ length b) where
  pub due_by : (before : List Event) (p : ℕ) → get_or a p 0 ≡ get_or b p 0 → action_due (with_inputs spec a) before p ≡ action_due (with_inputs spec b) before p
  due_by before p is =
      let due : ℕ → ℕ → Action = λ input n. option_map_or (λ row. next_action spec.protocol input p (count_by (is_snap_by p) before) row) (latest (seen_by p) before) (actions.Write (first_value spec.protocol input p n)) in
      ap (λ input. due input (length a)) is ∙ ap (due (get_or b p 0)) same

  pub enabled_by : (before : List Event) (event : Event) → get_or a (process_of event) 0 ≡ get_or b (process_of event) 0 → IsEnabled (with_inputs spec a) before event → IsEnabled (with_inputs spec b) before event
  enabled_by before (Write p v) is may = record { process = omega (arith, may.process, same); in_turn = may.in_turn; value = sym (due_by before p is) ∙ may.value; rounds = may.rounds }
  enabled_by before (Snap p row) is may = record { process = omega (arith, may.process, same); width = may.width ∙ same; in_turn = may.in_turn; entries = λ q below. may.entries q (omega (arith, below, same)) }
  enabled_by before (Decide p v) is may = record { process = omega (arith, may.process, same); in_turn = may.in_turn; value = sym (due_by before p is) ∙ may.value }

pub process_below : (spec : RoomSpec) (before : List Event) (event : Event) → IsEnabled spec before event → process_of event < processes spec
process_below spec before (Write p v) may = may.process
process_below spec before (Snap p row) may = may.process
process_below spec before (Decide p v) may = may.process

-- ---- runs from given inputs

module _ (spec : RoomSpec) (inputs : List ℕ) (many : length inputs ≡ processes spec) where
  long : (input : ℕ) → length (replicate (processes spec) input) ≡ length inputs
  long input = length-replicate (processes spec) input ∙ sym many

  at_own : (p : ℕ) → p < processes spec → get_or (replicate (processes spec) (get_or inputs p 0)) p 0 ≡ get_or inputs p 0
  at_own p below = get_or-replicate (processes spec) p (get_or inputs p 0) 0 below

  pub may_have : (events : List Event) → IsRun (with_inputs spec inputs) events → (p : ℕ) → p < processes spec → MayHave spec events p (get_or inputs p 0)
  may_have events run p below t event there own =
      enabled_by spec inputs (replicate (processes spec) (get_or inputs p 0)) (sym (long (get_or inputs p 0))) (take t events) event
      (subst (λ (q : ℕ). get_or inputs q 0 ≡ get_or (replicate (processes spec) (get_or inputs p 0)) q 0) (sym own) (sym (at_own p below)))
      (run t event there)

  pub run_singly : (events : List Event) → ((t : ℕ) (event : Event) → slice_get events t ≡ Some event → process_of event < processes spec) → ((p : ℕ) → p < processes spec → MayHave spec events p (get_or inputs p 0)) → IsRun (with_inputs spec inputs) events
  run_singly events room may t event there =
      let p = process_of event in
      let below = room t event there in
      enabled_by spec (replicate (processes spec) (get_or inputs p 0)) inputs (long (get_or inputs p 0)) (take t events) event (at_own p below) (may p below t event there refl)

-- ---- an input of each process, out of those that each may have

choose : (P : ℕ → ℕ → Type 0) (n : ℕ) → ((p : ℕ) → p < n → (input : ℕ) × P p input) → (inputs : List ℕ) × (length inputs ≡ n) × ((p : ℕ) → p < n → P p (get_or inputs p 0))
choose P zero all = ([], refl, λ p below. absurd (omega (arith, below)))
choose P (suc n) all =
    let first = all 0 (omega arith) in
    let others = choose (λ p input. P (suc p) input) n (λ p below. all (suc p) (omega (arith, below))) in
    (first.0 ∷ others.0, omega (arith, others.1), at first.0 others.0 first.1 others.2)
  where
    at : (input : ℕ) (inputs : List ℕ) → P 0 input → ((p : ℕ) → p < n → P (suc p) (get_or inputs p 0)) → (p : ℕ) → p < suc n → P p (get_or (input ∷ inputs) p 0)
    at input inputs here there zero below = here
    at input inputs here there (suc p) below = there p (omega (arith, below))

pub singly : (spec : RoomSpec) (events : List Event) → IsRunOf spec events → IsRunByProcess spec events
singly spec events run = record {
  room = λ t event there. subst (λ (n : ℕ). process_of event < n) run.from_own.many (process_below (with_inputs spec run.inputs) (take t events) event (run.run t event there));
  inputs = λ p below. (get_or run.inputs p 0, run.from_own.own p below, may_have spec run.inputs run.from_own.many events run.run p below);
}

pub together : (spec : RoomSpec) (events : List Event) → IsRunByProcess spec events → IsRunOf spec events
together spec events each =
    let chosen = choose (λ p input. Contains spec.own input × MayHave spec events p input) (processes spec) (λ p below. (let one = each.inputs p below in (one.0, (one.1, one.2)))) in
    record {
      inputs = chosen.0;
      from_own = record { many = chosen.1; own = λ p below. (chosen.2 p below).0 };
      run = run_singly spec chosen.0 chosen.1 events each.room (λ p below. (chosen.2 p below).1);
    }

-- ---- decisions

own_value : (spec : RoomSpec) (inputs : List ℕ) → AreFromOwn spec inputs → (v : ℕ) → Contains inputs v → Contains spec.own v
own_value spec inputs from v has =
    let read : get_or inputs has.0 0 ≡ v = sym (get_or_default_zero inputs has.0 v has.1) ∙ has.2 in
    subst (λ (u : ℕ). Contains spec.own u) read (from.own has.0 (omega (arith, has.1, from.many)))

certified_with : (spec : RoomSpec) (f : ℕ) (inputs : List ℕ) → length inputs ≡ processes spec → IsCertified spec f → IsCertified (with_inputs spec inputs) f
certified_with spec f inputs many certified = record { protocol = certified.protocol; fewer = omega (arith, certified.fewer, many) }

pub decides_own : (spec : RoomSpec) (f : ℕ) (events : List Event) → IsCertified spec f → IsRunOf spec events → (v : ℕ) → Contains (decided_in events) v → Contains spec.own v
decides_own spec f events certified run v has =
    own_value spec run.inputs run.from_own v (decides_inputs (with_inputs spec run.inputs) f events (certified_with spec f run.inputs run.from_own.many certified) run.run v has)

pub decides_few_of_own : (spec : RoomSpec) (f : ℕ) (events : List Event) → IsCertified spec f → IsRunOf spec events → length (different (decided_in events)) ≤ f + 1
decides_few_of_own spec f events certified run =
    decides_few (with_inputs spec run.inputs) f events (certified_with spec f run.inputs run.from_own.many certified) run.run
