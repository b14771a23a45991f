use Rattle.std.proofs.Common.{List, length, get_or, ℕ, sym, ap, ◌∙◌, subst, arith}
use Rattle.std.specs.List.{count_by}
use Rattle.std.proofs.lemmas.List.FromFn.{get_or-map-range_with_len}
use Rattle.room_spec.specs.Rooms.{processes}
use Rattle.ws_history.specs.declared.states.ProcessState.{ProcessState}
use Rattle.ws_history.specs.declared.states.ProcessState.TheVariants.{Going}
use Rattle.ws_history.specs.declared.states.Report.{Report}
use Rattle.ws_history.specs.Reports.{IsTrueReport, is_decided, is_over, state_of}
use Rattle.ws_history.proofs.Certified.{more_than_f, most_are_decided, not_spent}
use Rattle.ws_history.proofs.Held.{held_among}
use Rattle.ws_history.proofs.RoomFields.{crashed_are, states_in}
use Rattle.ws_history.proofs.Settled.{most_are_over}
use Rattle.ws_history.proofs.TrueReports.{true_report}
use Rattle.ws_history.proofs.reports.report.Goals as goal

pub returns-clause-fields : goal.returns-clause-fields
returns-clause-fields c = λ fields are.
    let room = c.args.room.now in
    let limits = c.shape_of-shape.ensures.limits in
    let states = c.states_of.ensures ∙ states_in room fields limits are in
    let crashed = c.crashed_in.ensures ∙ crashed_are room fields limits are in
    let history = c.new.ensures ∙ c.in_ok-history.ensures.fields fields are in
    λ p. record { states = record { items = states p }; crashed = record { items = crashed p }; history = history p }

pub returns-clause-truth : goal.returns-clause-truth
returns-clause-truth c = λ fields are.
    let room = c.args.room.now in
    subst (λ (report : Report). IsTrueReport room.spec fields report) (sym (returns-clause-fields c fields are)) (true_report room fields c.shape_of-shape.ensures.limits are)

pub returns-clause-unspent : goal.returns-clause-unspent
returns-clause-unspent c = λ f certified which two j low is.
    let room = c.args.room.now in
    let limits = c.shape_of-shape.ensures.limits in
    let at = c.shape_of-shape.ensures.fields in
    let states = ap (λ (l : List ProcessState). get_or l j Going) (c.states_of.ensures ∙ states_in room at.0 limits at.1) in
    let there = states ∙ get_or-map-range_with_len (state_of room.spec at.0) 0 (processes room.spec) j j Going low (omega arith) in
    not_spent room at.0 limits at.1 f certified which two j low (sym there ∙ is)

pub returns-clause-among : goal.returns-clause-among
returns-clause-among c = λ fields are j i low is.
    let room = c.args.room.now in
    let limits = c.shape_of-shape.ensures.limits in
    let states = ap (λ (l : List ProcessState). get_or l j Going) (c.states_of.ensures ∙ states_in room fields limits are) in
    let there = states ∙ get_or-map-range_with_len (state_of room.spec fields) 0 (processes room.spec) j j Going low (omega arith) in
    held_among room.spec fields j i low (sym there ∙ is)

pub returns-clause-settled : goal.returns-clause-settled
returns-clause-settled c = λ fields are each.
    let room = c.args.room.now in
    let limits = c.shape_of-shape.ensures.limits in
    let states = ap (λ (l : List ProcessState). count_by is_over l) (c.states_of.ensures ∙ states_in room fields limits are) in
    let crashed = ap (λ (l : List ℕ). length l) (c.crashed_in.ensures ∙ crashed_are room fields limits are) in
    let most = most_are_over room fields limits are each in
    omega (arith, states, crashed, most)

pub returns-clause-certified : goal.returns-clause-certified
returns-clause-certified c = λ fields are f certified which two each.
    let room = c.args.room.now in
    let limits = c.shape_of-shape.ensures.limits in
    let states = ap (λ (l : List ProcessState). count_by is_decided l) (c.states_of.ensures ∙ states_in room fields limits are) in
    let crashed = ap (λ (l : List ℕ). length l) (c.crashed_in.ensures ∙ crashed_are room fields limits are) in
    let most = most_are_decided room fields limits are f certified which two each in
    omega (arith, states, crashed, most)

pub returns-clause-most : goal.returns-clause-most
returns-clause-most c = λ fields are f certified each.
    let room = c.args.room.now in
    let limits = c.shape_of-shape.ensures.limits in
    let states = ap (λ (l : List ProcessState). count_by is_decided l) (c.states_of.ensures ∙ states_in room fields limits are) in
    let crashed = ap (λ (l : List ℕ). length l) (c.crashed_in.ensures ∙ crashed_are room fields limits are) in
    let more = more_than_f room fields limits are f certified each in
    omega (arith, states, crashed, more)
