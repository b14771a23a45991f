use Rattle.std.proofs.Common.{◌≡◌, List, ℕ, sym, subst}
use Rattle.std.specs.Io.KnownBytes.{Appends}
use Rattle.std.proofs.lemmas.Result.{IfErr-weaker}
use Rattle.io_text.specs.Writing.{AppendsPart}
use Rattle.io_text.specs.declared.fault.DeviceFault.{DeviceFault}
use Rattle.io_text.specs.declared.fault.DeviceFault.TheVariants.{Write}
use Rattle.live_script.specs.Answers.{Answer}
use Rattle.live_script.specs.Entries.{last_piece}
use Rattle.live_script.specs.Sessions.{EndsLast, IsAnsweredBy, IsLast}
use Rattle.live_script.proofs.Answering.{where_ok}
use Rattle.live_script.proofs.Faulting.{last_answered, last_in_part, not_empty}
use Rattle.live_script.proofs.serving.Feed.end.Goals as goal

pub returns-clause-last : goal.returns-clause-last
returns-clause-last g c =
    let live = c.args.self.now.live in
    let after = c.take_last.new.self in
    let said = c.as_bytes.result.now in
    let answered : (answer : Answer) × IsAnsweredBy (last_piece c.deref.result.now) answer live after = c.in_ok-take_last.ensures in
    let isnt = not_empty c.is_empty.result _ c.deref.result.now c.is_empty.ensures c.if-is_empty.false c.deref.ensures.len in
    where_ok c.write_output.result _ _
    (λ written. (said, written, subst (λ (text : List ℕ). IsLast text live said after) c.deref.ensures.value (last_answered c.deref.result.now live after said isnt c.as_bytes.ensures answered)))
    c.write_output.ensures.written

pub returns-clause-err : goal.returns-clause-err
returns-clause-err g c =
    let contents = g.W.Write.contents in
    let old = contents c.args.writer.now.inner in
    let new = contents c.write_output.new.writer.inner in
    let live = c.args.self.now.live in
    let after = c.take_last.new.self in
    let said = c.as_bytes.result.now in
    let answered : (answer : Answer) × IsAnsweredBy (last_piece c.deref.result.now) answer live after = c.in_ok-take_last.ensures in
    let isnt = not_empty c.is_empty.result _ c.deref.result.now c.is_empty.ensures c.if-is_empty.false c.deref.ensures.len in
    let InPart : DeviceFault → Type 0 = λ fault. (fault ≡ Write) × AppendsPart old new said c.args.writer.now.calls c.write_output.new.writer.calls in
    let Ends : DeviceFault → Type 0 = λ fault. (x : List ℕ) × Appends old new x × EndsLast c.args.self.now.begun.items live x fault in
    let ends : (x : List ℕ) × Appends old new x × EndsLast c.deref.result.now live x Write → Ends Write = subst (λ (text : List ℕ). (x : List ℕ) × Appends old new x × EndsLast text live x Write) c.deref.ensures.value in
    IfErr-weaker c.write_output.result InPart Ends
    (λ fault part. subst Ends (sym part.0) (ends (last_in_part c.deref.result.now live after said old new _ _ isnt c.as_bytes.ensures answered part.1)))
    c.write_output.ensures.part
