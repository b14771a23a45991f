-- Fields that are the same at each simulator, process and round have the same report.
use Rattle.std.proofs.Common.{◌≡◌, ℕ, zero, suc, ◌+◌, ◌<◌, ◌≤◌, Bool, cond, List, ◌∷◌, get_or, Option, Some, refl, sym, inl, inr, ap, ◌∙◌, arith}
use Rattle.std.specs.Prelude.{◌&&◌, ◌||◌, ◌==◌}
use Rattle.std.proofs.lemmas.Bool.{cases_Bool}
use Rattle.view_table.proofs.CallerLemmas.{agreement_round, zero_agreed}
use Rattle.std.specs.List.{filter, find, list_any, range_with_len}
use Rattle.protocol_lang.specs.declared.meaning.Action.{Action}
use Rattle.room_spec.specs.Rooms.{RoomSpec, is_reduction, processes}
use Rattle.room_spec.specs.Sizes.{sizes_in}
use Rattle.room_core.specs.Agreements.{asks, decided_in, is_resolved, row_at}
use Rattle.room_core.specs.Fields.{Fields}
use Rattle.room_core.specs.Reading.{AgreeIn}
use Rattle.room_core.specs.Settled.{crashed_in, is_write}
use Rattle.ws_history.specs.Reports.{held_by, is_inside, is_inside_input, is_spent, state_by, state_of, states_of}
use Rattle.ws_history.proofs.Agreeing.{same_asks, same_resolved, same_decided}
use Rattle.ws_history.proofs.Walking.{map_same}

pub find_same : (p q : ℕ → Bool) (a n : ℕ) → ((i : ℕ) → a ≤ i → i < a + n → p i ≡ q i) → find p (range_with_len a n) ≡ find q (range_with_len a n)
find_same p q a zero same = refl
find_same p q a (suc n) same =
    ap (λ (b : Bool). cond b (Some a) (find p (range_with_len (a + 1) n))) (same a (omega arith) (omega arith))
    ∙ ap (λ (o : Option ℕ). cond (q a) (Some a) o) (find_same p q (a + 1) n (λ i low high. same i (omega arith) (omega arith)))

any_same : (p q : ℕ → Bool) (a n : ℕ) → ((i : ℕ) → a ≤ i → i < a + n → p i ≡ q i) → list_any p (range_with_len a n) ≡ list_any q (range_with_len a n)
any_same p q a zero same = refl
any_same p q a (suc n) same =
    ap (λ (b : Bool). b || list_any p (range_with_len (a + 1) n)) (same a (omega arith) (omega arith))
    ∙ ap (λ (b : Bool). q a || b) (any_same p q (a + 1) n (λ i low high. same i (omega arith) (omega arith)))

filter_same : (p q : ℕ → Bool) (a n : ℕ) → ((i : ℕ) → a ≤ i → i < a + n → p i ≡ q i) → filter p (range_with_len a n) ≡ filter q (range_with_len a n)
filter_same p q a zero same = refl
filter_same p q a (suc n) same =
    ap (λ (b : Bool). cond b (a ∷ filter p (range_with_len (a + 1) n)) (filter p (range_with_len (a + 1) n))) (same a (omega arith) (omega arith))
    ∙ ap (λ (l : List ℕ). cond (q a) (a ∷ l) l) (filter_same p q (a + 1) n (λ i low high. same i (omega arith) (omega arith)))

module _ (spec : RoomSpec) (F G : Fields) (some : 0 < spec.simulators) (rounds : 1 ≤ spec.rounds) (agree : AgreeIn (sizes_in spec) F G)
    (low : (j k p : ℕ) → get_or (row_at spec F j k) p 0 ≤ spec.rounds) where
  same_inside : (i j : ℕ) → i < spec.simulators → j < processes spec → is_inside spec F i j ≡ is_inside spec G i j
  same_inside i j simulator process =
      ap (λ (b : Bool). b || list_any (λ k. F.level i j k == 1) (range_with_len 1 spec.rounds)) same_inside_input
      ∙ ap (λ (b : Bool). is_inside_input spec G i j || b)
      (any_same _ _ 1 spec.rounds (λ k least most. ap (λ (x : ℕ). x == 1) (agree.level i j k simulator process (agreement_round (sizes_in spec) k (least, omega arith)))))
    where
      same_inside_input : is_inside_input spec F i j ≡ is_inside_input spec G i j
      same_inside_input = elim (cases_Bool (is_reduction spec)) [
        | inl is ↦ ap (λ (x : ℕ). is_reduction spec && (x == 1)) (agree.level i j 0 simulator process (zero_agreed (sizes_in spec) is))
        | inr is ↦ ap (λ (b : Bool). b && (F.level i j 0 == 1)) is ∙ sym (ap (λ (b : Bool). b && (G.level i j 0 == 1)) is)
      ]

  same_held : (j : ℕ) → j < processes spec → held_by spec F j ≡ held_by spec G j
  same_held j process =
      find_same _ _ 0 spec.simulators (λ i least most.
      ap (λ (b : Bool). b && is_inside spec F i j) (agree.crashed i (omega arith)) ∙ ap (λ (b : Bool). G.crashed i && b) (same_inside i j (omega arith) process))

  same_spent : (j : ℕ) → j < processes spec → is_spent spec F j ≡ is_spent spec G j
  same_spent j process =
      ap (λ (b : Bool). b && is_write (asks spec F j spec.rounds)) (same_resolved spec F G some agree j spec.rounds process rounds (omega arith))
      ∙ ap (λ (a : Action). is_resolved spec G j spec.rounds && is_write a) (same_asks spec F G some agree j spec.rounds process rounds (omega arith) (low j spec.rounds))

  same_state : (j : ℕ) → j < processes spec → state_of spec F j ≡ state_of spec G j
  same_state j process =
      ap (λ (o : Option ℕ). state_by o (is_spent spec F j) (held_by spec F j)) (same_decided spec F G some agree j process)
      ∙ ap (λ (b : Bool). state_by (decided_in spec G j) b (held_by spec F j)) (same_spent j process)
      ∙ ap (λ (o : Option ℕ). state_by (decided_in spec G j) (is_spent spec G j) o) (same_held j process)

  pub same_states : states_of spec F ≡ states_of spec G
  same_states = map_same _ _ 0 (processes spec) (λ j least most. same_state j (omega arith))

  pub same_crashed : crashed_in spec F ≡ crashed_in spec G
  same_crashed = filter_same _ _ 0 spec.simulators (λ i least most. agree.crashed i (omega arith))
