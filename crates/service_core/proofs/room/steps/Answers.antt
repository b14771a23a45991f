use Rattle.std.proofs.Common.{◌≡◌, ◌≢◌, ◌∙◌, ℕ, ◌<◌, ◌≤◌, false, length, refl, sym, ap, subst, arith}
use Rattle.room_spec.specs.Rooms.{RoomSpec}
use Rattle.room_core.specs.declared.reply.StepReply.{StepReply}
use Rattle.room_core.specs.declared.reply.StepReply.TheVariants as steps
use Rattle.room_core.specs.Calls.{RoomState, Step, room_after_step, room_after_steps, step_reply}
use Rattle.room_core.specs.Observing.{is_stepped, steps_of_steps}
use Rattle.room_core.specs.Fields.{Fields, step_reply_in, fields_after_step, fields_after_steps}
use Rattle.room_core.specs.Reading.{AreFieldsOf}
use Rattle.room_core.proofs.CallerLemmasOnSpecs.{same_spec, same_spec_steps}
use Rattle.service_core.specs.Rooms.{IsSteppedTo, room_stepped}
use Rattle.service_core.proofs.Leaving.{HaveStepped, all_stepped, have_stepped, stopped_after}
use Rattle.service_core.proofs.Stepping.{HasTaken, all_taken, ends, not_stepped, stops}
use Rattle.service_core.proofs.room.steps.Goals as goal

-- what a step says, of the spec with which the room began
stepped_as : (spec : RoomSpec) (room after : RoomState) (reply : StepReply) (i : ℕ) → room.spec ≡ spec
    → ((fields : Fields) → AreFieldsOf room fields → (reply ≡ step_reply_in room.spec fields i) × AreFieldsOf after (fields_after_step room.spec fields i))
    → (fields : Fields) → AreFieldsOf room fields → (reply ≡ step_reply_in spec fields i) × AreFieldsOf after (fields_after_step spec fields i)
stepped_as spec room after reply i same says fields are = subst (λ (s : RoomSpec). (reply ≡ step_reply_in s fields i) × AreFieldsOf after (fields_after_step s fields i)) same (says fields are)

has_taken : (spec : RoomSpec) (fields : Fields) (i count taken : ℕ) (room : RoomState) → taken ≤ count → ((k : ℕ) → k < taken → step_reply_in spec (fields_after_steps spec fields i k) i ≡ steps.Stepped)
    → AreFieldsOf room (fields_after_steps spec fields i taken) → HasTaken spec fields i count taken room
has_taken spec fields i count taken room within each are = record { now = fields_after_steps spec fields i taken; are = are; is = all_taken spec fields i count taken within each }

pub returns-then-taken-count-clause-fields : goal.returns-then-taken-count-clause-fields
returns-then-taken-count-clause-fields c = λ fields are.
    let spec = c.args.room.now.spec in
    let room = c.steps-taken.new.self in
    let all : c.steps-taken.result ≡ c.args.count = omega arith in
    let within : c.steps-taken.result ≤ c.args.count = omega arith in
    let first = has_taken spec fields c.args.i c.args.count c.steps-taken.result room within (λ k less. c.steps-taken.ensures.replies fields k are less) (c.steps-taken.ensures.fields fields are) in
    let so_far = subst (λ (n : ℕ). HasTaken spec fields c.args.i c.args.count n room) all first in
    let is = ends spec fields c.args.i c.args.count room so_far in
    subst (λ stepping. IsSteppedTo stepping (c.args.count, steps.Stepped) room) (sym is) (record { taken = refl; last = refl; fields = so_far.are })

pub returns-then-taken-count-clause-spec : goal.returns-then-taken-count-clause-spec
returns-then-taken-count-clause-spec c = ap (λ (r : RoomState). r.spec) c.steps-taken.ensures.room ∙ same_spec_steps c.args.room.now c.args.i c.steps-taken.result

pub returns-clause-fields : goal.returns-clause-fields
returns-clause-fields c = λ fields are.
    let spec = c.args.room.now.spec in
    let room = c.steps-taken.new.self in
    let taken = c.steps-taken.result in
    let same = ap (λ (r : RoomState). r.spec) c.steps-taken.ensures.room ∙ same_spec_steps c.args.room.now c.args.i taken in
    let less : taken < c.args.count = omega arith in
    let within : taken ≤ c.args.count = omega arith in
    let so_far = has_taken spec fields c.args.i c.args.count taken room within (λ k fewer. c.steps-taken.ensures.replies fields k are fewer) (c.steps-taken.ensures.fields fields are) in
    let says = stepped_as spec room c.step.new.self c.step.result c.args.i same c.step.ensures.fields so_far.now so_far.are in
    let other = not_stepped c.step.result (λ is. c.steps-taken.ensures.stopped (omega arith) (sym c.step.ensures.reply ∙ is)) in
    let is = stops spec fields c.args.i c.args.count taken room c.step.result less so_far says.0 other in
    subst (λ stepping. IsSteppedTo stepping (taken, c.step.result) c.step.new.self) (sym is) (record { taken = refl; last = refl; fields = says.1 })

pub returns-clause-spec : goal.returns-clause-spec
returns-clause-spec c =
    ap (λ (r : RoomState). r.spec) c.step.ensures.room ∙ same_spec c.steps-taken.new.self (Step c.args.i)
    ∙ ap (λ (r : RoomState). r.spec) c.steps-taken.ensures.room ∙ same_spec_steps c.args.room.now c.args.i c.steps-taken.result

all_taken_of : (room : RoomState) (i count taken : ℕ) → taken ≡ count → HaveStepped room i count taken → (room_stepped room i count ≡ room_after_steps room i taken) × (length (steps_of_steps room i count) ≡ count)
all_taken_of room i count taken all have =
    let both = all_stepped room i count (subst (λ (n : ℕ). HaveStepped room i count n) all have) in
    (both.0 ∙ ap (λ (n : ℕ). room_after_steps room i n) (sym all), both.1)

pub returns-then-taken-count-clause-left : goal.returns-then-taken-count-clause-left
returns-then-taken-count-clause-left c =
    let all : c.steps-taken.result ≡ c.args.count = omega arith in
    let have = have_stepped c.args.room.now c.args.i c.args.count c.steps-taken.result (omega arith) (λ k less. c.steps-taken.ensures.taken k less) in
    c.steps-taken.ensures.room ∙ sym (all_taken_of c.args.room.now c.args.i c.args.count c.steps-taken.result all have).0

pub returns-then-taken-count-clause-taken : goal.returns-then-taken-count-clause-taken
returns-then-taken-count-clause-taken c =
    let all : c.steps-taken.result ≡ c.args.count = omega arith in
    let have = have_stepped c.args.room.now c.args.i c.args.count c.steps-taken.result (omega arith) (λ k less. c.steps-taken.ensures.taken k less) in
    (all_taken_of c.args.room.now c.args.i c.args.count c.steps-taken.result all have).1

-- the next call took none
stops_there : (room now after : RoomState) (i count taken : ℕ) (reply : StepReply) → taken < count → now ≡ room_after_steps room i taken → HaveStepped room i count taken → reply ≡ step_reply now i → reply ≢ steps.Stepped → after ≡ room_after_step now i
    → (after ≡ room_stepped room i count) × (length (steps_of_steps room i count) ≡ taken)
stops_there room now after i count taken reply less here have is other to =
    let none : is_stepped (step_reply (room_after_steps room i taken) i) ≡ false = ap (λ (r : RoomState). is_stepped (step_reply r i)) (sym here) ∙ ap is_stepped (sym is) ∙ not_stepped reply other in
    let both = stopped_after room i count taken less have none in
    (to ∙ ap (λ (r : RoomState). room_after_step r i) here ∙ sym both.0, both.1)

stops_here : (c : goal.After-step) → c.steps-taken.result < c.args.count → (c.step.new.self ≡ room_stepped c.args.room.now c.args.i c.args.count) × (length (steps_of_steps c.args.room.now c.args.i c.args.count) ≡ c.steps-taken.result)
stops_here c less =
    let have = have_stepped c.args.room.now c.args.i c.args.count c.steps-taken.result (omega (arith, less)) (λ k fewer. c.steps-taken.ensures.taken k fewer) in
    stops_there c.args.room.now c.steps-taken.new.self c.step.new.self c.args.i c.args.count c.steps-taken.result c.step.result less c.steps-taken.ensures.room have c.step.ensures.reply
    (λ is. c.steps-taken.ensures.stopped (omega (arith, less, c.from.ensures)) (sym c.step.ensures.reply ∙ is)) c.step.ensures.room

pub returns-clause-left : goal.returns-clause-left
returns-clause-left c = let less : c.steps-taken.result < c.args.count = omega arith in (stops_here c less).0

pub returns-clause-taken : goal.returns-clause-taken
returns-clause-taken c = let less : c.steps-taken.result < c.args.count = omega arith in (stops_here c less).1
