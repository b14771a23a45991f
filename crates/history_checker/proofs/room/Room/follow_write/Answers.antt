use Rattle.std.proofs.Common.{◌≡◌, List, None, Some, slice_set, ◌∙◌, ◌∷◌, ◌++◌, [], sym, ap, subst, length}
use Rattle.std.specs.Prelude.{is_some}
use Rattle.std.proofs.lemmas.List.{with_items_is}
use Rattle.transcript.specs.declared.event.Event.TheVariants.{Write}
use Rattle.history_checker.specs.Processes.{lasts}
use Rattle.history_checker.specs.Verdicts.{RoomState, StandsAfter}
use Rattle.history_checker.specs.declared.process.Process.{Process}
use Rattle.history_checker.proofs.Showing.{on_ok}
use Rattle.history_checker.proofs.Feeding.{stays_broken, breaks_now, runs_on, unbroken, still_unbroken}
use Rattle.history_checker.proofs.room.Room.follow_write.Goals as goal

pub returns-then-is_some-clause-processed : goal.returns-then-is_some-clause-processed
returns-then-is_some-clause-processed c =
    λ fed one event line stands. stays_broken c.args.self.now fed one (ap (λ room. is_some room.broken) (sym c.self.view_is) ∙ sym c.if-is_some.ensures) stands

pub returns-then-is_err-clause-processed : goal.returns-then-is_err-clause-processed
returns-then-is_err-clause-processed c =
    λ fed one event line stands.
    let P : RoomState → Type 0 = λ room. StandsAfter room fed room.broken in
    breaks_now c.self.inside.spec c.self.inside.processes.items c.follow_write-followed.new.processes fed one (Write c.args.p c.args.v) c.args.line _ event line (sym c.if-is_err.ensures.value) (rw c.deref_mut.ensures.value at (c.follow_write-followed.ensures.follows c.self.inside.spec (sym c.rounds.ensures.value)))
    (unbroken (record { spec = _; processes = _; broken = _; tally = None }) fed (sym c.if-is_some.ensures) (subst P (sym c.self.view_is) stands))

pub returns-clause-processed : goal.returns-clause-processed
returns-clause-processed c =
    λ fed one event line stands.
    let P : RoomState → Type 0 = λ room. StandsAfter room fed room.broken in
    let before = unbroken (record { spec = _; processes = _; broken = _; tally = None }) fed (sym c.if-is_some.ensures) (subst P (sym c.self.view_is) stands) in
    let len : length c.follow_write-followed.new.processes ≡ c.self.inside.processes.len = c.follow_write-followed.auto.processes ∙ c.deref_mut.ensures.len in
    still_unbroken (record { spec = _; processes = _; broken = _; tally = None }) (fed ++ one ∷ []) (sym c.if-is_some.ensures)
    (rw (with_items_is c.self.inside.processes c.follow_write-followed.new.processes len)
    (runs_on c.self.inside.spec c.self.inside.processes.items c.follow_write-followed.new.processes fed one (Write c.args.p c.args.v) _ event (sym c.if-is_err.ensures.value) (rw c.deref_mut.ensures.value at (c.follow_write-followed.ensures.follows c.self.inside.spec (sym c.rounds.ensures.value))) before))

pub invariant_of-self-2 : goal.invariant_of-self-2
invariant_of-self-2 c =
    let items = c.self.inside.processes.items in
    let len : length c.follow_write-followed.new.processes ≡ c.self.inside.processes.len = c.follow_write-followed.auto.processes ∙ c.deref_mut.ensures.len in
    let wrote = on_ok c.follow_write-followed.result (sym c.if-is_err.ensures.value) c.follow_write-followed.ensures.lasts in
    let after : lasts c.follow_write-followed.new.processes ≡ slice_set (lasts items) c.args.p (Some c.args.v) = wrote ∙ ap (λ (all : List Process). slice_set (lasts all) c.args.p (Some c.args.v)) c.deref_mut.ensures.value in
    (rw (with_items_is c.self.inside.processes c.follow_write-followed.new.processes len, after) (c.show.ensures (lasts items) c.self.invariant.0), c.self.invariant.1)
