use Rattle.std.proofs.Common.{◌∙◌, sym, arith, refl}
use Rattle.std.proofs.Math.Seq.{map-set_same}
use Rattle.history_checker.specs.declared.process.Process.{Process}
use Rattle.history_checker.proofs.Tracking.{snap_follows}
use Rattle.history_checker.proofs.Breaking.{snap_undue, entry_differs}
use Rattle.history_checker.proofs.process.follow_snap.Goals as goal

pub returns-then-not-is_snap-clause-follows : goal.returns-then-not-is_snap-clause-follows
returns-then-not-is_snap-clause-follows c =
    λ spec protocol before tracks. (
      snap_undue spec c.args.processes.now before c.args.p c.args.row.now _ tracks (omega arith) (omega (arith, c.len.ensures.value))
          (λ due. let yes = c.if-not-is_snap.ensures.1 due in absurd cc),
      refl,
    )

pub returns-in-Some-clause-follows : goal.returns-in-Some-clause-follows
returns-in-Some-clause-follows c =
    λ spec protocol before tracks. (
      entry_differs spec c.args.processes.now before c.args.p c.args.row.now _ c.in-Some.q tracks (omega arith) (omega (arith, c.len.ensures.value))
          (c.if-not-is_snap.ensures.0 refl) (rw c.as_slice.ensures.value at c.in-Some.ensures),
      refl,
    )

pub returns-clause-follows : goal.returns-clause-follows
returns-clause-follows c =
    λ spec protocol before tracks. rw (c.of.ensures, c.next-action.ensures, ← protocol, c.from-round.ensures)
    (snap_follows spec c.args.processes.now before c.args.p c.args.row.now _ tracks (omega arith) (c.if-not-is_snap.ensures.0 refl)
    (sym c.as_slice.ensures.value ∙ c.in_default.ensures))

pub returns-clause-lasts : goal.returns-clause-lasts
returns-clause-lasts c = map-set_same (λ (process : Process). process.last) c.args.processes.now c.args.p _ _ refl
