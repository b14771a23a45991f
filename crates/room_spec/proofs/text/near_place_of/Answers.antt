use Rattle.std.proofs.Common.{◌∙◌, ◌+◌, ℕ, List, drop, sym, ap, subst, arith}
use Rattle.std.specs.Option.{option_map}
use Rattle.std.proofs.lemmas.List.{take_rest}
use Rattle.memchr.specs.Find.{IsFirstByte, is_byte}
use Rattle.room_spec.proofs.Places.{place_here, place_far}
use Rattle.room_spec.proofs.text.near_place_of.Goals as goal

pub returns-then-text-place : goal.returns-then-text-place
returns-then-text-place c = place_here c.args.text.now c.args.byte c.loop-place.place c.loop-place.invariant (omega (arith, c.loop-place-test.true, c.min-near.ensures)) c.if-text-place.true

pub returns-in_err-far : goal.returns-in_err-far
returns-in_err-far c =
    let near = c.min-near.result in
    let far : IsFirstByte (is_byte c.args.byte) (drop near c.args.text.now) c.memchr.result = subst (λ (t : List ℕ). IsFirstByte (is_byte c.args.byte) t c.memchr.result) (take_rest c.args.text.now near) c.memchr.ensures in
    let found = place_far c.args.text.now c.args.byte near c.memchr.result (omega (arith, c.min-near.ensures)) (λ k below. c.loop-place.invariant k (omega (arith, below, c.loop-place-test.false))) far in
    c.from_residual.ensures ∙ sym (ap (option_map (λ (n : ℕ). near + n)) c.in_err-far.was) ∙ found

pub returns : goal.returns
returns c =
    let near = c.min-near.result in
    let far : IsFirstByte (is_byte c.args.byte) (drop near c.args.text.now) c.memchr.result = subst (λ (t : List ℕ). IsFirstByte (is_byte c.args.byte) t c.memchr.result) (take_rest c.args.text.now near) c.memchr.ensures in
    let found = place_far c.args.text.now c.args.byte near c.memchr.result (omega (arith, c.min-near.ensures)) (λ k below. c.loop-place.invariant k (omega (arith, below, c.loop-place-test.false))) far in
    sym (ap (option_map (λ (n : ℕ). near + n)) c.in_ok-far.was) ∙ found
