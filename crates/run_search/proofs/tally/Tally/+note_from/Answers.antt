use Rattle.std.proofs.Common.{◌≡◌, ◌≤◌, ◌∷◌, ◌++◌, ◌+◌, ◌-◌, [], List, Some, cond, get_or, length, sym, subst, ap, ◌∙◌, arith, inl, inr, take}
use Rattle.std.proofs.lemmas.Bool.{cases_eq}
use Rattle.std.proofs.lemmas.List.Elements.{Contains-get_or}
use Rattle.std.proofs.lemmas.Option.{get_or_from_slice_get, slice_get-get_or}
use Rattle.run_search.specs.declared.choice.Choice.{Choice}
use Rattle.run_search.specs.declared.ended.Ended.{Ended}
use Rattle.run_search.specs.Choices.{Each, IsEndAt}
use Rattle.run_search.specs.Outcomes.{IsNoted, is_stopped}
use Rattle.run_search.proofs.Choosing.{each_all, each_here, each_on, no_choice, take_pushed}
use Rattle.run_search.proofs.tally.Tally.+note_from.Goals as goal

pub returns-then-len-choices-clause-ends : goal.returns-then-len-choices-clause-ends
returns-then-len-choices-clause-ends t c = λ spec nodes crashes each are.
    let choices = c.args.choices.now in
    let ends = c.args.ends.now.items in
    c.in_ok-note.ensures.ends spec nodes crashes are (each_here (IsEndAt spec nodes crashes choices.node) choices.count choices.all.now ends c.args.events c.args.left (omega (arith, c.if-len-choices.true, c.len.ensures.value)) each)

pub loop-choice-preserved : goal.loop-choice-preserved
loop-choice-preserved t c =
    let choices = c.args.choices.now in
    let all = choices.all.now in
    let ends = c.args.ends.now.items in
    let left = c.args.left in
    let before = c.loop-choice.invariant in
    let i = c.loop-choice.choice-index in
    let choice = get_or all i no_choice in
    let new = c.note_from.new.self in
    let noted = c.in_ok-note_from.ensures in
    let ends_are : c.push.new.self.items ≡ ends ++ choice.end ∷ [] = c.push.ensures.items ∙ ap (λ (e : List Ended). e ++ choice.end ∷ []) before.same in
    let Noted : Choice → Type 0 = λ one. Each (IsNoted new.ends.keys new.witnesses.items) choices.count all (ends ++ one.end ∷ []) (c.args.events + one.events) (left - cond (is_stopped one.end) 1 0) in
    let here : Noted choice =
    subst (λ n. Each (IsNoted new.ends.keys new.witnesses.items) choices.count all (ends ++ choice.end ∷ []) (c.args.events + choice.events) (left - n)) c.stops_by-stops.ensures
    (subst (λ (e : List Ended). Each (IsNoted new.ends.keys new.witnesses.items) choices.count all e (c.args.events + choice.events) (left - c.stops_by-stops.result)) ends_are noted.noted) in
    let long = ap (λ (e : List Ended). length e) before.same in
    record {
      same = c.pop.ensures.rest ∙ ap (λ (e : List Ended). take (length e - 1) e) (noted.same ∙ ends_are) ∙ take_pushed ends choice.end;
      count = noted.count;
      noted = λ k below process_is few rest last sum wide complete less. elim (cases_eq k i) [
        | inl same ↦ subst (λ j. Noted (get_or all j no_choice)) (sym same) here rest last sum wide complete less
        | inr other ↦ noted.grown last sum (before.noted k (omega (arith, below, other)) process_is few rest last sum wide complete less)
      ];
      grown = λ one few is. noted.grown one few (before.grown one few is);
      ends = λ spec nodes crashes each are.
          noted.ends spec nodes crashes
          (subst (λ n. Each (IsEndAt spec nodes crashes choices.node) choices.count all c.push.new.self.items (c.args.events + choice.events) (left - n)) (sym c.stops_by-stops.ensures)
          (subst (λ (e : List Ended). Each (IsEndAt spec nodes crashes choices.node) choices.count all e (c.args.events + choice.events) (left - cond (is_stopped choice.end) 1 0)) (sym ends_are)
          (each_on (IsEndAt spec nodes crashes choices.node) choices.count all ends c.args.events left choice each (Contains-get_or all i no_choice c.loop-choice-test.true) (omega (arith, c.if-choice-len.false, c.len-in-loop-choice.ensures.value, long)) (omega (arith, c.if-stops-left.false, c.stops_by-stops.ensures)))))
          (before.ends spec nodes crashes each are);
    }

pub returns-clause-noted : goal.returns-clause-noted
returns-clause-noted t c =
    let choices = c.args.choices.now in
    let all = choices.all.now in
    let ends = c.args.ends.now.items in
    let left = c.args.left in
    let last = c.loop-choice.self in
    each_all (IsNoted last.ends.keys last.witnesses.items) choices.count all ends c.args.events left (λ same. omega (arith, same, c.if-len-choices.false, c.len.ensures.value)) (λ choice there process_is few.
    let same = get_or_from_slice_get all there.0 choice no_choice (slice_get-get_or all there.0 choice there.1 ∙ ap Some there.2) in
    subst (λ (one : Choice). one.process ≡ length ends → cond (is_stopped one.end) 1 0 ≤ left → Each (IsNoted last.ends.keys last.witnesses.items) choices.count all (ends ++ one.end ∷ []) (c.args.events + one.events) (left - cond (is_stopped one.end) 1 0)) same
    (c.loop-choice.invariant.noted there.0 (let inside = there.1 in omega (arith, inside, c.loop-choice-test.false))) process_is few)
