use Rattle.std.proofs.Common.{◌≡◌, ◌-◌, ◌∙◌, [], Some, None, Ok, Err, length, suc, sym, ap, arith}
use Rattle.std.proofs.lemmas.Result.{err_from_is_err_and}
use Rattle.room_spec.specs.Blocks.{said_next, fuses_from, fuse_lines}
use Rattle.room_spec.proofs.Fuses.{no_fuses, stops_at_fault, stops_at_protocol, fuses_go_on, fuse_fits}
use Rattle.room_spec.proofs.crash_lines.read_fuses.Goals as goal

pub loop-fuse-init : goal.loop-fuse-init
loop-fuse-init c = rw c.new-fuses.ensures (record { few = omega arith; are = no_fuses c.args.simulators; so_far = ap (λ n. fuses_from (suc n) c.args.first c.args.simulators [] c.args.text.now) (omega arith) })

pub returns-in_err-fuse-clause-value : goal.returns-in_err-fuse-clause-value
returns-in_err-fuse-clause-value c =
    let said : Err c.in_err-fuse.field-0.0 ≡ said_next c.args.first c.args.simulators c.loop-fuse.fuses.items c.split_line.result.0.now = rw c.as_slice.ensures.value at (sym c.in_err-fuse.was ∙ c.read_fuse.ensures) in
    let exit = err_from_is_err_and c.from_residual.result c.from_residual.ensures.1 in
    let same : exit.0 ≡ c.in_err-fuse.field-0.0 = cc in
    rw (exit.1, same) (stops_at_fault (c.args.simulators - length c.loop-fuse.fuses.items) c.args.first c.args.simulators c.loop-fuse.fuses.items c.loop-fuse.rest.now c.split_line.result.0.now c.split_line.result.1.now _ (fuse_lines c.args.first c.args.simulators c.args.text.now) c.split_line.ensures.first c.split_line.ensures.later said c.loop-fuse.invariant.so_far)

pub returns-in-None-clause-value : goal.returns-in-None-clause-value
returns-in-None-clause-value c =
    let said : Ok None ≡ said_next c.args.first c.args.simulators c.loop-fuse.fuses.items c.split_line.result.0.now = rw (c.as_slice.ensures.value, c.in-None.is) at (sym c.in_ok-fuse.was ∙ c.read_fuse.ensures) in
    stops_at_protocol (c.args.simulators - length c.loop-fuse.fuses.items) c.args.first c.args.simulators c.loop-fuse.fuses.items c.loop-fuse.rest.now c.split_line.result.0.now c.split_line.result.1.now (fuse_lines c.args.first c.args.simulators c.args.text.now) c.split_line.ensures.first c.split_line.ensures.later said c.loop-fuse.invariant.so_far

pub push-requires : goal.push-requires
push-requires c =
    let said : Ok (Some c.in-Some.fuse) ≡ said_next c.args.first c.args.simulators c.loop-fuse.fuses.items c.split_line.result.0.now = rw (c.as_slice.ensures.value, c.in-Some.is) at (sym c.in_ok-fuse.was ∙ c.read_fuse.ensures) in
    let on = fuses_go_on c.args.first c.args.simulators c.loop-fuse.fuses.items c.loop-fuse.rest.now c.split_line.result.0.now c.split_line.result.1.now c.in-Some.fuse (fuse_lines c.args.first c.args.simulators c.args.text.now) c.loop-fuse.invariant.are c.split_line.ensures.first c.split_line.ensures.later said c.loop-fuse.invariant.so_far in
    (omega arith, fuse_fits c.loop-fuse.fuses.items c.in-Some.fuse c.args.simulators on.few c.requires.simulators)

pub loop-fuse-preserved : goal.loop-fuse-preserved
loop-fuse-preserved c =
    let said : Ok (Some c.in-Some.fuse) ≡ said_next c.args.first c.args.simulators c.loop-fuse.fuses.items c.split_line.result.0.now = rw (c.as_slice.ensures.value, c.in-Some.is) at (sym c.in_ok-fuse.was ∙ c.read_fuse.ensures) in
    let on = fuses_go_on c.args.first c.args.simulators c.loop-fuse.fuses.items c.loop-fuse.rest.now c.split_line.result.0.now c.split_line.result.1.now c.in-Some.fuse (fuse_lines c.args.first c.args.simulators c.args.text.now) c.loop-fuse.invariant.are c.split_line.ensures.first c.split_line.ensures.later said c.loop-fuse.invariant.so_far in
    rw c.push.ensures.items (record { few = on.few; are = on.are; so_far = on.so_far })
