use Rattle.std.proofs.Common.{inl, inr, sym, subst}
use Rattle.room_spec.specs.Rooms.{processes}
use Rattle.room_outcomes.specs.Ends.{IsRoomOutcome}
use Rattle.room_outcomes.specs.Ends.{ends_of}
use Rattle.room_search.specs.Beginnings.{begun}
use Rattle.room_search.proofs.Going.{begun_spec}
use Rattle.room_search.proofs.Noting.{room_among, room_reached, spec_from}
use Rattle.room_search.proofs.taking.Taking.note.Goals as goal

pub returns-clause-taking : goal.returns-clause-taking
returns-clause-taking c =
    let source = c.args.source.now in
    let spec = source.subject.now.spec.now in
    let room = c.args.settled.room in
    let schedule = c.args.settled.schedule.items in
    let states = c.process_states-states.result in
    let read = c.process_states-states.ensures in
    let start = begun spec source.subject.now.acts.now in
    let same_spec = spec_from spec start source.crashes schedule room (begun_spec spec source.subject.now.acts.now) c.requires.settled in
    let fields = c.spec-spec.ensures.fields in
    let limits = c.shape-shape.ensures.limits in
    record {
      kept = c.in_ok-keep.ensures.kept;
      reached = λ other there. elim (c.in_ok-keep.ensures.new other there) [
        | inl before ↦ c.requires.taking.reached other before
        | inr now ↦ room_reached start source.crashes room (record { states = states; schedule = c.args.settled.schedule }) other c.requires.settled read now.0 now.1
      ];
      among = λ other there. elim (c.in_ok-keep.ensures.new other there) [
        | inl before ↦ c.requires.taking.among other before
        | inr now ↦ subst (λ s. IsRoomOutcome spec (processes spec) (ends_of s.items)) (sym now.0) (room_among spec room fields.0 states.items limits same_spec fields.1 read)
      ];
    }
