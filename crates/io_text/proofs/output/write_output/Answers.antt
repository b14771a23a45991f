use Rattle.std.proofs.Common.{rules, arith, ◌++◌, length-append, take, refl}
use Rattle.std.proofs.lemmas.Grind.{common_steps}
use Rattle.std.proofs.lemmas.List.{length-take-le}
use Rattle.io_text.proofs.Streams.{Appends-then, part_more, rest_shorter}
use Rattle.io_text.proofs.output.write_output.Goals as goal

pub loop-rest-preserved : goal.loop-rest-preserved
loop-rest-preserved g c =
    let written = c.loop-rest.invariant.0 in
    let more = take c.in-Ok.count c.loop-rest.rest.now in (
      written ++ more,
      part_more c.args.output.now written c.loop-rest.rest.now c.in-Ok.count _ c.loop-rest.invariant.1 refl,
      Appends-then _ _ _ written more c.loop-rest.invariant.2 c.in-Ok.ensures.bytes,
      search rules,
      search rules,
      rw (length-append written more, length-take-le c.in-Ok.count c.loop-rest.rest.now c.in-Ok.ensures.bound) (omega (arith, c.loop-rest.invariant.5, c.in-Ok.ensures.some, c.in-Ok.ensures.calls)),
      omega (arith, rest_shorter c.loop-rest.rest.now c.in-Ok.count _ refl c.in-Ok.ensures.bound, c.loop-rest.invariant.6, c.in-Ok.ensures.some, c.in-Ok.ensures.calls),
    )

pub returns-in_default-clause-part : goal.returns-in_default-clause-part
returns-in_default-clause-part g c = grind (arith, common_steps)

pub returns-in-Err-clause-part : goal.returns-in-Err-clause-part
returns-in-Err-clause-part g c = grind (arith, common_steps)
