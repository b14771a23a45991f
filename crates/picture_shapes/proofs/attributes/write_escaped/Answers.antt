use Rattle.std.proofs.Common.{◌∙◌, ◌++◌, List, ℕ, ap}
use Rattle.std.specs.List.{flat_map}
use Rattle.picture_shapes.specs.Attributes.{escaped, escaped_byte}
use Rattle.picture_shapes.proofs.Escaping.{all_written, more_written}
use Rattle.picture_shapes.proofs.attributes.write_escaped.Goals as goal

pub returns-in_default : goal.returns-in_default
unfolding escaped
returns-in_default c =
    let both = c.split_plain.ensures in
    c.in_ok-put.ensures.text
    ∙ all_written c.args.output.now c.loop-byte.output c.args.words.now c.loop-byte.rest.now c.split_plain.result.0.now c.split_plain.result.1.now c.loop-byte.invariant both.plain both.marked c.in_default.ensures.cases

pub loop-byte-preserved : goal.loop-byte-preserved
loop-byte-preserved c =
    let both = c.split_plain.ensures in
    let byte = c.in-Some.byte.now in
    let later = c.in-Some.later.now in
    ap (λ (t : List ℕ). t ++ flat_map escaped_byte later) (c.in_ok-write_escaped_byte.ensures ∙ ap (λ (t : List ℕ). t ++ escaped_byte byte) c.in_ok-put.ensures.text)
    ∙ more_written c.args.output.now c.loop-byte.output c.args.words.now c.loop-byte.rest.now c.split_plain.result.0.now c.split_plain.result.1.now c.loop-byte.invariant both.plain both.marked byte later c.in-Some.ensures.cases.0
