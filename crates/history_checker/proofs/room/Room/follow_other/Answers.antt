use Rattle.std.proofs.Common.{◌≡◌, None, ◌∙◌, ◌∷◌, ◌++◌, [], sym, ap, subst, length}
use Rattle.std.specs.Prelude.{is_some}
use Rattle.std.proofs.lemmas.List.{with_items_is}
use Rattle.history_checker.specs.Verdicts.{RoomState, StandsAfter}
use Rattle.history_checker.proofs.Feeding.{stays_broken, breaks_now, runs_on, unbroken, still_unbroken}
use Rattle.history_checker.proofs.room.Room.follow_other.Goals as goal

pub returns-then-is_some-clause-processed : goal.returns-then-is_some-clause-processed
returns-then-is_some-clause-processed c =
    λ fed one event line stands. stays_broken c.args.self.now fed one (ap (λ room. is_some room.broken) (sym c.self.view_is) ∙ sym c.if-is_some.ensures) stands

pub returns-then-is_err-clause-processed : goal.returns-then-is_err-clause-processed
returns-then-is_err-clause-processed c =
    λ fed one event line stands.
    let P : RoomState → Type 0 = λ room. StandsAfter room fed room.broken in
    breaks_now c.self.inside.spec c.self.inside.processes.items c.follow-followed.new.processes fed one c.args.event.now c.args.line _ event line (sym c.if-is_err.ensures.value) (rw c.deref_mut.ensures.value at (c.follow-followed.ensures.follows c.self.inside.spec (sym c.rounds.ensures.value) (sym c.protocol.ensures)))
    (unbroken (record { spec = _; processes = _; broken = _; tally = None }) fed (sym c.if-is_some.ensures) (subst P (sym c.self.view_is) stands))

pub returns-else-is_err-clause-processed : goal.returns-else-is_err-clause-processed
returns-else-is_err-clause-processed c =
    λ fed one event line stands.
    let P : RoomState → Type 0 = λ room. StandsAfter room fed room.broken in
    let before = unbroken (record { spec = _; processes = _; broken = _; tally = None }) fed (sym c.if-is_some.ensures) (subst P (sym c.self.view_is) stands) in
    let len : length c.follow-followed.new.processes ≡ c.self.inside.processes.len = c.follow-followed.auto.processes ∙ c.deref_mut.ensures.len in
    still_unbroken (record { spec = _; processes = _; broken = _; tally = None }) (fed ++ one ∷ []) (sym c.if-is_some.ensures)
    (rw (with_items_is c.self.inside.processes c.follow-followed.new.processes len)
    (runs_on c.self.inside.spec c.self.inside.processes.items c.follow-followed.new.processes fed one c.args.event.now _ event (sym c.if-is_err.ensures.value) (rw c.deref_mut.ensures.value at (c.follow-followed.ensures.follows c.self.inside.spec (sym c.rounds.ensures.value) (sym c.protocol.ensures))) before))
