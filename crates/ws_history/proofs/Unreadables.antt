-- Fields that are the same at each simulator, process and round have the same agreements that no simulator can read.
use Rattle.std.proofs.Common.{◌≡◌, ℕ, zero, suc, ◌<◌, Bool, cond, List, Option, Some, None, refl, inl, inr, ap, ◌∙◌, arith}
use Rattle.std.proofs.Math.Dec.{eqb-suc-zero}
use Rattle.std.proofs.lemmas.Bool.{cases_Bool, cases_lt, le-leb, le-ltb, lt-leb, lt-ltb}
use Rattle.std.specs.Prelude.{position, ◌==◌, ◌&&◌}
use Rattle.std.specs.Option.{option_map}
use Rattle.room_spec.specs.Rooms.{RoomSpec, is_reduction, processes}
use Rattle.room_spec.specs.Sizes.{sizes_in}
use Rattle.view_table.specs.Places.{IsAgreementRound}
use Rattle.view_table.proofs.CallerLemmas.{agreement_round, zero_agreed}
use Rattle.room_core.specs.Agreements.{is_fixed, shown_of}
use Rattle.room_core.specs.Fields.{Fields, levels_at}
use Rattle.room_core.specs.Reading.{AgreeIn}
use Rattle.ws_history.specs.Unreadable.{blocker_of, chosen_of, unreadable_of, with_inside}
use Rattle.ws_history.specs.declared.unreadable.Unreadable.{Unreadable}
use Rattle.ws_history.proofs.Agreeing.{same_fixed_in, same_levels_in, same_shown_in}
use Rattle.ws_history.proofs.SameReports.{find_same}

module _ (spec : RoomSpec) (F G : Fields) (some : 0 < spec.simulators) (agree : AgreeIn (sizes_in spec) F G) where
  same_chosen : (j k : ℕ) → j < processes spec → IsAgreementRound (sizes_in spec) k → chosen_of spec F j k ≡ chosen_of spec G j k
  same_chosen j k low round =
      ap (λ (b : Bool). cond b (Some (shown_of spec F j k)) None) (same_fixed_in spec F G some agree j k low round)
      ∙ ap (λ (i : ℕ). cond (is_fixed spec G j k) (Some i) None) (same_shown_in spec F G some agree j k low round)

  same_blocker : (j k : ℕ) → j < processes spec → IsAgreementRound (sizes_in spec) k → blocker_of spec F j k ≡ blocker_of spec G j k
  same_blocker j k low round =
      find_same _ _ 0 spec.simulators (λ i least most.
      ap (λ (b : Bool). b && (F.level i j k == 1)) (agree.crashed i (omega arith))
      ∙ ap (λ (x : ℕ). G.crashed i && (x == 1)) (agree.level i j k (omega arith) low round))

  same_with : (j k : ℕ) → j < processes spec → IsAgreementRound (sizes_in spec) k → with_inside spec F j k ≡ with_inside spec G j k
  same_with j k low round =
      ap {B = ℕ → Unreadable} (λ (chosen : Option ℕ) (i : ℕ). record { inside = i; chosen = chosen; blocker = blocker_of spec F j k }) (same_chosen j k low round)
      ∙ ap {B = ℕ → Unreadable} (λ (blocker : Option ℕ) (i : ℕ). record { inside = i; chosen = chosen_of spec G j k; blocker = blocker }) (same_blocker j k low round)

  -- what there is of an agreement that the room has
  same_there : (j k : ℕ) → j < processes spec → IsAgreementRound (sizes_in spec) k →
      option_map (with_inside spec F j k) (position (λ (level : ℕ). level == 1) (levels_at spec F j k)) ≡ option_map (with_inside spec G j k) (position (λ (level : ℕ). level == 1) (levels_at spec G j k))
  same_there j k low round =
      ap (λ (levels : List ℕ). option_map (with_inside spec F j k) (position (λ (level : ℕ). level == 1) levels)) (same_levels_in spec F G some agree j k low round)
      ∙ ap (λ (f : ℕ → Unreadable). option_map f (position (λ (level : ℕ). level == 1) (levels_at spec G j k))) (same_with j k low round)

  same_in : (j k : ℕ) → j < processes spec → unreadable_of spec F j k ≡ unreadable_of spec G j k
  same_in j zero low =
      let there = lt-leb (processes spec) j low in
      let within = le-ltb spec.rounds 0 (omega arith) in
      elim (cases_Bool (is_reduction spec)) [
        | inl is ↦ rw there (rw is (rw within (same_there j 0 low (zero_agreed (sizes_in spec) is))))
        | inr is ↦ rw there (rw is refl)
      ]
  same_in j (suc k) low =
      let there = lt-leb (processes spec) j low in
      let some = eqb-suc-zero k in
      elim (cases_lt spec.rounds (suc k)) [
        | inl past ↦ let yes = lt-ltb spec.rounds (suc k) past in rw there (rw some (rw yes refl))
        | inr within ↦ let no = le-ltb spec.rounds (suc k) within in rw there (rw some (rw no (same_there j (suc k) low (agreement_round (sizes_in spec) (suc k) (omega arith, within)))))
      ]

  pub same_unreadable : (j k : ℕ) → unreadable_of spec F j k ≡ unreadable_of spec G j k
  same_unreadable j k = elim (cases_lt j (processes spec)) [
    | inl low ↦ same_in j k low
    | inr past ↦ let out = le-leb (processes spec) j past in rw out refl
  ]
