use Rattle.std.proofs.Common.{◌≡◌, replicate, get_or, rules}
use Rattle.room_spec.proofs.Heads.{name_found, reduction_found}
use Rattle.room_spec.proofs.Reductions.{head_within}
use Rattle.room_spec.proofs.block_lines.read_reduction_head.Goals as goal

pub returns-clause-limits : goal.returns-clause-limits
returns-clause-limits c =
    let version = reduction_found c.args.body.now (c.in_ok-version.version, c.in_ok-version.rest.now) c.in_ok-version.ensures in
    let name = name_found c.in_ok-version.rest.now (c.in_ok-name.name, c.in_ok-name.rest.now) c.in_ok-name.ensures in
    let same : c.same_inputs.result.items ≡ replicate c.in_ok-processes.processes (get_or c.in_ok-own.own.items 0 0) = search rules in
    head_within c.in_ok-version.version c.in_ok-name.name c.in_ok-own.own.items c.same_inputs.result.items c.in_ok-processes.processes c.len.result version.1 name.2 c.in_ok-own.ensures.are c.in_ok-processes.ensures.range same c.len.ensures.value
