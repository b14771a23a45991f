use Rattle.std.proofs.Common.{◌≡◌, ◌∙◌, length, ap, arith, refl}
use Rattle.std.proofs.Math.Seq.{map-set_same}
use Rattle.std.proofs.lemmas.List.{length-map}
use Rattle.history_checker.specs.declared.process.Process.{Process}
use Rattle.history_checker.proofs.Tracking.{snap_follows}
use Rattle.history_checker.proofs.Breaking.{snap_undue}
use Rattle.history_checker.proofs.process.follow_said.Goals as goal

pub returns-then-not-is_snap-clause-follows : goal.returns-then-not-is_snap-clause-follows
returns-then-not-is_snap-clause-follows c =
    λ spec protocol before tracks.
    let width : length c.args.row.now.items ≡ length c.args.processes.now = ap length c.requires ∙ length-map c.args.processes.now (λ process. process.last) in (
      snap_undue spec c.args.processes.now before c.args.p c.args.row.now _ tracks (omega (arith, width, c.len.ensures.value)) (omega (arith, width))
          (λ due. let yes = c.if-not-is_snap.ensures.1 due in absurd cc),
      refl,
    )

pub returns-clause-follows : goal.returns-clause-follows
returns-clause-follows c =
    λ spec protocol before tracks.
    let width : length c.args.row.now.items ≡ length c.args.processes.now = ap length c.requires ∙ length-map c.args.processes.now (λ process. process.last) in
    rw (c.of.ensures, c.next-action.ensures, ← protocol, c.from-round.ensures)
    (snap_follows spec c.args.processes.now before c.args.p c.args.row.now _ tracks (omega (arith, width, c.len.ensures.value)) (c.if-not-is_snap.ensures.0 refl) c.requires)

pub returns-clause-lasts : goal.returns-clause-lasts
returns-clause-lasts c = map-set_same (λ (process : Process). process.last) c.args.processes.now c.args.p _ _ refl
