use Rattle.std.proofs.Common.{◌≡◌, ◌≤◌, ◌∙◌, ◌∷◌, ◌++◌, [], ℕ, List, Option, None, length, refl, sym, ap, subst}
use Rattle.std.specs.Prelude.{is_some}
use Rattle.std.proofs.lemmas.List.{with_items_is}
use Rattle.transcript.specs.declared.event.Event.TheVariants.{Snap}
use Rattle.history_checker.specs.Processes.{lasts}
use Rattle.history_checker.specs.Shown.{SaysRow}
use Rattle.history_checker.specs.Verdicts.{RoomState, StandsAfter, TaskStands}
use Rattle.history_checker.proofs.Counting.{uncounted}
use Rattle.history_checker.proofs.Feeding.{stays_broken, breaks_now, runs_on, unbroken, still_unbroken}
use Rattle.history_checker.proofs.Showing.{shown_by}
use Rattle.history_checker.proofs.room.Room.feed_said.Goals as goal

pub returns-then-is_some-clause-few : goal.returns-then-is_some-clause-few
returns-then-is_some-clause-few c = λ yes.
    let text = c.args.text.now in
    let items = c.self.inside.processes.items in
    let says = subst (SaysRow (32 ∷ text)) c.deref.ensures (c.if-not-is_said_by.ensures refl) in
    let shown : c.in-Some.row.value ≡ lasts items = shown_by text (lasts items) c.in-Some.row.value says (rw c.in-Some.is at c.self.invariant.0) in
    let few = subst (λ (row : List (Option ℕ)). length row ≤ 16) c.deref-2.ensures c.last-row.ensures.few in
    subst (λ (row : List (Option ℕ)). length row ≤ 16) (shown ∙ ap (λ (room : RoomState). lasts room.processes) c.self.view_is) few

pub returns-then-is_some-clause-processed : goal.returns-then-is_some-clause-processed
returns-then-is_some-clause-processed c =
    λ yes fed one event line after.
    let room = c.args.self.now in (
      stays_broken room fed one (ap (λ room. is_some room.broken) (sym c.self.view_is) ∙ sym c.if-is_some.ensures) after.0,
      uncounted room.spec fed one _ room.spec.task room.tally refl event after.1,
    )

pub returns-then-is_err-clause-processed : goal.returns-then-is_err-clause-processed
returns-then-is_err-clause-processed c =
    λ yes fed one event line after.
    let text = c.args.text.now in
    let items = c.self.inside.processes.items in
    let says = subst (SaysRow (32 ∷ text)) c.deref.ensures (c.if-not-is_said_by.ensures refl) in
    let shown : c.in-Some.row.value ≡ lasts items = shown_by text (lasts items) c.in-Some.row.value says (rw c.in-Some.is at c.self.invariant.0) in
    let row = c.last-row.result.now in
    let known : lasts c.args.self.now.processes ≡ row.items = sym (ap (λ (room : RoomState). lasts room.processes) c.self.view_is) ∙ sym shown ∙ sym (c.last-row.ensures.last ∙ c.deref-2.ensures) in
    let seen : one.event ≡ Snap c.args.p row = event ∙ ap (λ (entries : List (Option ℕ)). Snap c.args.p (record { items = entries })) known in
    let P : RoomState → Type 0 = λ room. StandsAfter room fed room.broken in
    let T : RoomState → Type 0 = λ room. TaskStands room.spec fed room.spec.task room.tally in
    let before = unbroken (record { spec = _; processes = _; broken = _; tally = None }) fed (sym c.if-is_some.ensures) (subst P (sym c.self.view_is) after.0) in
    let counted = uncounted c.self.inside.spec fed one (Snap c.args.p row) c.self.inside.spec.task _ refl seen (subst T (sym c.self.view_is) after.1) in
    let follows = rw c.deref_mut.ensures.value at (c.follow_said-followed.ensures.follows c.self.inside.spec (sym c.protocol.ensures)) in
    (breaks_now c.self.inside.spec items c.follow_said-followed.new.processes fed one (Snap c.args.p row) c.args.line _ seen line (sym c.if-is_err.ensures.value) follows before, counted)

pub returns-else-is_err-clause-processed : goal.returns-else-is_err-clause-processed
returns-else-is_err-clause-processed c =
    λ yes fed one event line after.
    let text = c.args.text.now in
    let items = c.self.inside.processes.items in
    let says = subst (SaysRow (32 ∷ text)) c.deref.ensures (c.if-not-is_said_by.ensures refl) in
    let shown : c.in-Some.row.value ≡ lasts items = shown_by text (lasts items) c.in-Some.row.value says (rw c.in-Some.is at c.self.invariant.0) in
    let row = c.last-row.result.now in
    let known : lasts c.args.self.now.processes ≡ row.items = sym (ap (λ (room : RoomState). lasts room.processes) c.self.view_is) ∙ sym shown ∙ sym (c.last-row.ensures.last ∙ c.deref-2.ensures) in
    let seen : one.event ≡ Snap c.args.p row = event ∙ ap (λ (entries : List (Option ℕ)). Snap c.args.p (record { items = entries })) known in
    let P : RoomState → Type 0 = λ room. StandsAfter room fed room.broken in
    let T : RoomState → Type 0 = λ room. TaskStands room.spec fed room.spec.task room.tally in
    let before = unbroken (record { spec = _; processes = _; broken = _; tally = None }) fed (sym c.if-is_some.ensures) (subst P (sym c.self.view_is) after.0) in
    let counted = uncounted c.self.inside.spec fed one (Snap c.args.p row) c.self.inside.spec.task _ refl seen (subst T (sym c.self.view_is) after.1) in
    let follows = rw c.deref_mut.ensures.value at (c.follow_said-followed.ensures.follows c.self.inside.spec (sym c.protocol.ensures)) in
    let len : length c.follow_said-followed.new.processes ≡ c.self.inside.processes.len = c.follow_said-followed.auto.processes ∙ c.deref_mut.ensures.len in (
      still_unbroken (record { spec = _; processes = _; broken = _; tally = None }) (fed ++ one ∷ []) (sym c.if-is_some.ensures)
          (rw (with_items_is c.self.inside.processes c.follow_said-followed.new.processes len)
          (runs_on c.self.inside.spec items c.follow_said-followed.new.processes fed one (Snap c.args.p row) _ seen (sym c.if-is_err.ensures.value) follows before)),
      counted,
    )
