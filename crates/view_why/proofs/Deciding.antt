-- What a room's events decided, event by event.
use Rattle.std.proofs.Common.{◌≡◌, ◌∙◌, ℕ, ◌+◌, Bool, true, false, ◌||◌, cond, eqb, List, [], ◌∷◌, ◌++◌, map, take, Some, None, refl, sym, ap, subst}
use Rattle.std.specs.Prelude.{slice_get}
use Rattle.std.specs.List.{list_any}
use Rattle.std.proofs.lemmas.List.{append-nil, map_push, take_more}
use Rattle.std.proofs.lemmas.List.Elements.{All-from_recursion, All-push}
use Rattle.std.proofs.lemmas.Option.{get_or_from_slice_get, slice_get_within}
use Rattle.transcript.specs.declared.event.Event.{Event}
use Rattle.transcript.specs.declared.event.Event.TheVariants.{Decide}
use Rattle.transcript.specs.Tasks.{decided_by, decided_in, different}
use Rattle.transcript.proofs.CallerLemmas.{any_different, different-push, no_input, no_more, one_more}
use Rattle.view_why.specs.declared.reported.Decision.{Decision}
use Rattle.view_why.specs.Reported.{AreDecidedBefore, IsFirstDecision, ReportedRoom}

pub any-map : {X Y : Type 0} (p : Y → Bool) (f : X → Y) (xs : List X) → list_any (λ x. p (f x)) xs ≡ list_any p (map f xs)
any-map p f [] = refl
any-map p f (x ∷ xs) = ap (λ b. p (f x) || b) (any-map p f xs)

module _ (reported : ReportedRoom) (at : ℕ) (before : List Decision) (is : AreDecidedBefore reported at before) where
  taken : (event : Event) → slice_get reported.events at ≡ Some event → take (at + 1) reported.events ≡ take at reported.events ++ event ∷ []
  taken event there = take_more reported.events at event (slice_get_within reported.events at event there) ∙ ap (λ e. take at reported.events ++ e ∷ []) (get_or_from_slice_get reported.events at event event there)

  -- an event that decides nothing
  pub decides_none : (event : Event) → slice_get reported.events at ≡ Some event → decided_by event ≡ None → AreDecidedBefore reported (at + 1) before
  decides_none event there none = record { values = is.values ∙ ap different (sym (ap decided_in (taken event there) ∙ no_more (take at reported.events) event none)); each = is.each }

  module _ (p v : ℕ) (there : slice_get reported.events at ≡ Some (Decide p v)) where
    more : decided_in (take (at + 1) reported.events) ≡ decided_in (take at reported.events) ++ v ∷ []
    more = ap decided_in (taken (Decide p v) there) ∙ one_more (take at reported.events) p v

    among : (b : Bool) → list_any (λ (one : Decision). eqb one.value v) before ≡ b → list_any (λ y. eqb y v) (decided_in (take at reported.events)) ≡ b
    among b some =
        sym (any_different v (decided_in (take at reported.events))) ∙ ap (list_any (λ y. eqb y v)) (sym is.values)
        ∙ sym (any-map (λ y. eqb y v) (λ (one : Decision). one.value) before) ∙ some

    grown : (b : Bool) → list_any (λ (one : Decision). eqb one.value v) before ≡ b → different (decided_in (take (at + 1) reported.events)) ≡ map (λ (one : Decision). one.value) before ++ cond b [] (v ∷ [])
    grown b some =
        ap different more ∙ different-push (decided_in (take at reported.events)) v ∙ ap (λ (c : Bool). different (decided_in (take at reported.events)) ++ cond c [] (v ∷ [])) (among b some)
        ∙ ap (λ (xs : List ℕ). xs ++ cond b [] (v ∷ [])) (sym is.values)

    -- one that decides again what was decided
    pub decides_again : list_any (λ (one : Decision). eqb one.value v) before ≡ true → AreDecidedBefore reported (at + 1) before
    decides_again some = record { values = sym (grown true some ∙ append-nil (map (λ (one : Decision). one.value) before)); each = is.each }

    -- the first that decides its value
    pub decides_first : (line : ℕ) → slice_get reported.lines at ≡ Some line → list_any (λ (one : Decision). eqb one.value v) before ≡ false → AreDecidedBefore reported (at + 1) (before ++ record { value = v; line = line } ∷ [])
    decides_first line on none =
        let one : Decision = record { value = v; line = line } in
        record {
          values = map_push (λ (d : Decision). d.value) before one ∙ sym (grown false none);
          each = All-push (IsFirstDecision reported) before one is.each
              (record { at = at; event = Decide p v; there = there; decides = refl; line = on; first = no_input v (decided_in (take at reported.events)) (among false none) });
        }

pub none_before : (reported : ReportedRoom) (before : List Decision) → before ≡ [] → AreDecidedBefore reported 0 before
none_before reported before none =
    subst (AreDecidedBefore reported 0) (sym none) (record { values = ap (λ (events : List Event). different (decided_in events)) (sym (take-zero reported.events)); each = All-from_recursion (IsFirstDecision reported) [] tt })
  where
    take-zero : (events : List Event) → take 0 events ≡ []
    take-zero [] = refl
    take-zero (event ∷ events) = refl
