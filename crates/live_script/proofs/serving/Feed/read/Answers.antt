use Rattle.std.proofs.Common.{◌++◌, [], List, ℕ, take, sym, subst}
use Rattle.std.specs.Io.KnownBytes.{Appends, Consumes}
use Rattle.std.proofs.lemmas.List.{append-nil}
use Rattle.io_text.specs.declared.fault.DeviceFault.{DeviceFault}
use Rattle.io_text.specs.declared.fault.DeviceFault.TheVariants.{Memory}
use Rattle.live_script.specs.Sessions.{EndsReading, IsFedOn}
use Rattle.live_script.proofs.Faulting.{same_fault}
use Rattle.live_script.proofs.Feeding.{none_fed, some_fed}
use Rattle.live_script.proofs.Streams.{none_appended}
use Rattle.live_script.proofs.serving.Feed.read.Goals as goal

pub returns-then-count-eq0-clause-fed : goal.returns-then-count-eq0-clause-fed
returns-then-count-eq0-clause-fed g c =
    let remaining = g.R.Read.remaining in
    let live = c.args.self.now.live in
    let begun = c.args.self.now.begun.items in (
      [],
      [],
      subst (λ (count : ℕ). Consumes (remaining c.args.reader.now.inner) (remaining c.read.new.self.inner) (take count c.read.new.buffer)) c.if-count-eq0.true c.in-Ok.ensures.bytes.0,
      none_appended (g.W.Write.contents c.args.writer.now.inner),
      subst (λ (text : List ℕ). IsFedOn live text begun [] live) (sym (append-nil begun)) (none_fed live begun),
    )

pub returns-in_err-extend_from_slice-clause-err : goal.returns-in_err-extend_from_slice-clause-err
returns-in_err-extend_from_slice-clause-err g c =
    let remaining = g.R.Read.remaining in
    let contents = g.W.Write.contents in
    let live = c.args.self.now.live in
    let begun = c.args.self.now.begun.items in
    let bytes = take c.in-Ok.count c.read.new.buffer in
    let Ends : DeviceFault → Type 0 = λ fault. (x : List ℕ) × (output : List ℕ) × Consumes (remaining c.args.reader.now.inner) (remaining c.read.new.self.inner) x
    × Appends (contents c.args.writer.now.inner) (contents c.args.writer.now.inner) output × EndsReading live begun x output fault in
    same_fault c.from_residual.result Ends Memory c.from_residual.ensures.1
    (bytes, [], c.in-Ok.ensures.bytes.0, none_appended (contents c.args.writer.now.inner), some_fed live (begun ++ bytes) (begun ++ bytes) [] live (none_fed live (begun ++ bytes)))
