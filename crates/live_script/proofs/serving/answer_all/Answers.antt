use Rattle.std.proofs.Common.{rules, ◌≡◌, ◌<◌, ◌≤◌, ◌||◌, Bool, true, false, ◌++◌, [], List, ℕ, length, sym, ap, subst, ◌∙◌}
use Rattle.std.specs.Io.KnownBytes.{Appends}
use Rattle.io_text.specs.declared.fault.DeviceFault.{DeviceFault}
use Rattle.live_script.specs.Entries.{IsTooLong, is_unfinished, most_entry}
use Rattle.live_script.specs.Sessions.{EndsEarly, IsTakenFrom}
use Rattle.live_script.specs.declared.live.Live.{Live}
use Rattle.live_script.proofs.Faulting.{begun_of, entry_in_part, long_in_part, long_of, long_said, same_fault, used_within}
use Rattle.live_script.proofs.Feeding.{fed_one, none_fed}
use Rattle.live_script.proofs.Streams.{appended_then, none_appended}
use Rattle.live_script.proofs.serving.answer_all.Goals as goal

pub loop-used-init : goal.loop-used-init
loop-used-init g c = ([], none_appended _, none_fed c.args.live.now c.args.text.now, c.requires, λ flushed. flushed)

pub split_at-requires : goal.split_at-requires
split_at-requires g c =
    let taken : IsTakenFrom c.front_of.result.now c.in-Some.used c.loop-used.live c.take_first.new.self = rw c.in-Some.is at c.in_ok-used.ensures.some in
    used_within c.loop-used.rest.now c.front_of.result.now c.in-Some.used c.loop-used.live c.take_first.new.self c.front_of.ensures taken

pub returns-in_err-write_output-clause-err : goal.returns-in_err-write_output-clause-err
returns-in_err-write_output-clause-err g c =
    let contents = g.W.Write.contents in
    let old = contents c.args.writer.now.inner in
    let new = contents c.write_output.new.writer.inner in
    let live = c.loop-used.live in
    let after = c.take_first.new.self in
    let used = c.in-Some.used in
    let inv = c.loop-used.invariant in
    let taken : IsTakenFrom c.front_of.result.now used live after = rw c.in-Some.is at c.in_ok-used.ensures.some in
    let part = c.in_err-write_output.ensures.part in
    let Ends : DeviceFault → Type 0 = λ fault. (x : List ℕ) × Appends old new x × EndsEarly c.args.live.now c.args.text.now x fault in
    same_fault c.from_residual-in_err-write_output.result Ends c.in_err-write_output.field-0.0 c.from_residual-in_err-write_output.ensures.1
    (subst Ends (sym part.0)
    (entry_in_part c.args.live.now c.args.text.now c.loop-used.rest.now inv.0 live used after old (contents c.loop-used.writer.inner) new c.as_bytes.result.now _ _ inv.1 inv.2
    (subst (λ (front : List ℕ). IsTakenFrom front used live after) c.front_of.ensures taken) c.as_bytes.ensures part.1))

pub loop-used-preserved : goal.loop-used-preserved
loop-used-preserved g c =
    let contents = g.W.Write.contents in
    let old = contents c.args.writer.now.inner in
    let mid = contents c.loop-used.writer.inner in
    let new = contents c.write_output.new.writer.inner in
    let live = c.loop-used.live in
    let after = c.take_first.new.self in
    let used = c.in-Some.used in
    let inv = c.loop-used.invariant in
    let taken : IsTakenFrom c.front_of.result.now used live after = rw c.in-Some.is at c.in_ok-used.ensures.some in (
      inv.0 ++ after.output,
      appended_then old mid new inv.0 after.output inv.1 (subst (λ (said : List ℕ). Appends mid new said) c.as_bytes.ensures c.in_ok-write_output.ensures.written),
      fed_one c.args.live.now c.args.text.now c.loop-used.rest.now inv.0 live used _ after inv.2 (subst (λ (front : List ℕ). IsTakenFrom front used live after) c.front_of.ensures taken) c.split_at.ensures.back,
      c.in_ok-write_output.ensures.failed ∙ ap (λ (failed : Bool). failed || false) inv.3,
      λ flushed. c.in_ok-write_output.ensures.flushed,
    )

pub returns-then-rest-lt-MAX_ENTRY-clause-begun : goal.returns-then-rest-lt-MAX_ENTRY-clause-begun
returns-then-rest-lt-MAX_ENTRY-clause-begun g c =
    let less : length c.loop-used.rest.now < most_entry = search rules in
    let waits : (is_unfinished c.front_of.result.now ≡ true) × (c.take_first.new.self ≡ c.loop-used.live) = rw c.in_default.is at c.in_ok-used.ensures.none in
    begun_of c.loop-used.rest.now c.front_of.result.now c.front_of.ensures less waits.0

pub returns-in_err-say_long-clause-err : goal.returns-in_err-say_long-clause-err
returns-in_err-say_long-clause-err g c =
    let contents = g.W.Write.contents in
    let old = contents c.args.writer.now.inner in
    let new = contents c.say_long.new.writer.inner in
    let rest = c.loop-used.rest.now in
    let inv = c.loop-used.invariant in
    let more : most_entry ≤ length rest = search rules in
    let waits : (is_unfinished c.front_of.result.now ≡ true) × (c.take_first.new.self ≡ c.loop-used.live) = rw c.in_default.is at c.in_ok-used.ensures.none in
    let long : IsTooLong rest = long_of rest c.front_of.result.now c.front_of.ensures more waits.0 in
    let Ends : DeviceFault → Type 0 = λ fault. (x : List ℕ) × Appends old new x × EndsEarly c.args.live.now c.args.text.now x fault in
    same_fault c.from_residual-in_err-say_long.result Ends c.in_err-say_long.field-0.0 c.from_residual-in_err-say_long.ensures.1
    (long_in_part c.in_err-say_long.field-0.0 c.args.live.now c.args.text.now rest inv.0 c.loop-used.live c.from.result old (contents c.loop-used.writer.inner) new inv.1 inv.2 long
    (c.from.ensures ∙ ap (λ (live : Live). live.line) waits.1) c.in_err-say_long.ensures.err)

pub returns-clause-err : goal.returns-clause-err
returns-clause-err g c =
    let contents = g.W.Write.contents in
    let rest = c.loop-used.rest.now in
    let inv = c.loop-used.invariant in
    let more : most_entry ≤ length rest = search rules in
    let waits : (is_unfinished c.front_of.result.now ≡ true) × (c.take_first.new.self ≡ c.loop-used.live) = rw c.in_default.is at c.in_ok-used.ensures.none in
    let long : IsTooLong rest = long_of rest c.front_of.result.now c.front_of.ensures more waits.0 in
    long_said c.args.live.now c.args.text.now rest inv.0 c.loop-used.live c.from.result (contents c.args.writer.now.inner) (contents c.loop-used.writer.inner) (contents c.say_long.new.writer.inner) inv.1 inv.2 long
    (c.from.ensures ∙ ap (λ (live : Live). live.line) waits.1) c.in_ok-say_long.ensures.said
