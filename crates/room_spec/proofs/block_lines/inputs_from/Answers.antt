use Rattle.std.proofs.Common.{◌≡◌, ℕ, ◌∙◌, sym, length, arith}
use Rattle.std.specs.Option.{option_copied}
use Rattle.std.proofs.lemmas.List.{length-append}
use Rattle.room_spec.specs.Blocks.{inputs_of, up_to_values}
use Rattle.room_spec.specs.Texts.{fields_of}
use Rattle.protocol_lang.specs.Numbers.{number_of}
use Rattle.room_spec.proofs.Inputs.{outcome_pushed, outcome_stopped, too_many, values_pushed, number_from}
use Rattle.room_spec.proofs.block_lines.inputs_from.Goals as goal

pub loop-rest-preserved-in-Ok : goal.loop-rest-preserved-in-Ok
loop-rest-preserved-in-Ok c =
    let read = number_from (number_of c.cut_near-in-Some.result.0.now) c.in_ok-number.number (sym c.read_number.ensures.value ∙ c.in_ok-number.ensures.ok_part) in
    let number : read.0 ≡ c.in-Ok.value = omega (arith, read.2, c.in-Ok.ensures) in
    record {
      few = rw c.push.ensures.items (omega (arith, length-append {A = ℕ}));
      values = rw (c.push.ensures.items) (values_pushed c.loop-rest.values.items c.in-Ok.value c.loop-rest.invariant.values (omega (arith, c.in-Ok.ensures)));
      so_far = rw (c.push.ensures.items, ← number) (outcome_pushed c.args.most c.loop-rest.fits c.loop-rest.values.items c.cut_near-in-Some.result.0.now c.in-Some.fields.now read.0 (option_copied c.cut_near-in-Some.result.1) (up_to_values c.args.most (inputs_of (fields_of c.args.line.now))) c.cut_near-in-Some.ensures.pieces read.1 (rw c.in-Some.is at c.loop-rest.invariant.so_far));
    }

pub loop-rest-preserved-in_default-try_from : goal.loop-rest-preserved-in_default-try_from
loop-rest-preserved-in_default-try_from c =
    let read = number_from (number_of c.cut_near-in-Some.result.0.now) c.in_ok-number.number (sym c.read_number.ensures.value ∙ c.in_ok-number.ensures.ok_part) in
    let full : length c.loop-rest.values.items ≡ c.args.most = omega (arith, c.loop-rest.invariant.few, c.if-len-most.false, c.len.ensures.value) in
    record {
      few = c.loop-rest.invariant.few;
      values = c.loop-rest.invariant.values;
      so_far = outcome_stopped c.args.most c.loop-rest.fits c.loop-rest.values.items c.cut_near-in-Some.result.0.now c.in-Some.fields.now read.0 (option_copied c.cut_near-in-Some.result.1) (up_to_values c.args.most (inputs_of (fields_of c.args.line.now))) c.cut_near-in-Some.ensures.pieces read.1 (λ more. too_many c.args.most c.loop-rest.values.items read.0 more full) (rw c.in-Some.is at c.loop-rest.invariant.so_far);
    }
