use Rattle.std.proofs.Common.{◌∙◌, ◌≡◌, ◌++◌, [], List, ℕ, refl, sym, subst, arith}
use Rattle.live_script.specs.Entries.{IsBegun}
use Rattle.live_script.specs.Sessions.{IsFedOn}
use Rattle.io_text.specs.declared.fault.DeviceFault.TheVariants.{Memory}
use Rattle.live_script.proofs.Faulting.{none_served, same_served, served_reading}
use Rattle.live_script.proofs.Feeding.{ended_early, ended_of, fed_on, none_fed, waiting_of}
use Rattle.live_script.proofs.Streams.{appended_then, consumed_then, none_appended, none_consumed}
use Rattle.live_script.proofs.serving.serve.Goals as goal

pub returns-in_err-feed-clause-served : goal.returns-in_err-feed-clause-served
returns-in_err-feed-clause-served g c = (
  [],
  [],
  none_consumed (g.R.Read.remaining c.args.reader.now.inner),
  none_appended (g.W.Write.contents c.args.writer.now.inner),
  same_served c.from_residual.result Memory [] [] c.from_residual.ensures.1 none_served,
)

pub loop-init : goal.loop-init
loop-init g c =
    let feed = c.in_ok-feed.feed in
    let nothing : feed.begun.items ≡ [] = c.in_ok-feed.ensures.begun in (
      feed.live,
      c.in_ok-feed.ensures.live,
      [],
      [],
      none_consumed (g.R.Read.remaining c.args.reader.now.inner),
      none_appended (g.W.Write.contents c.args.writer.now.inner),
      subst (λ (begun : List ℕ). IsFedOn feed.live [] begun [] feed.live) (sym nothing) (none_fed feed.live []),
      subst (λ (begun : List ℕ). IsBegun begun) (sym nothing) (omega arith, refl),
      c.in_ok-feed.ensures.room,
      c.requires.reader,
      c.requires.writer,
      λ flushed. flushed,
    )

pub returns-in_err-read-clause-served : goal.returns-in_err-read-clause-served
returns-in_err-read-clause-served g c =
    let remaining = g.R.Read.remaining in
    let contents = g.W.Write.contents in
    let inv = c.loop.invariant in
    let ends = c.in_err-read.ensures.err in (
      inv.2 ++ ends.0,
      inv.3 ++ ends.1,
      consumed_then (remaining c.args.reader.now.inner) (remaining c.loop.reader.inner) (remaining c.read.new.reader.inner) inv.2 ends.0 inv.4 ends.2,
      appended_then (contents c.args.writer.now.inner) (contents c.loop.writer.inner) (contents c.read.new.writer.inner) inv.3 ends.1 inv.5 ends.3,
      same_served c.from_residual-in_err-read.result c.in_err-read.field-0.0 (inv.2 ++ ends.0) (inv.3 ++ ends.1) c.from_residual-in_err-read.ensures.1
          (served_reading c.in_err-read.field-0.0 inv.0 inv.2 c.loop.feed.begun.items inv.3 c.loop.feed.live ends.0 ends.1 inv.1 inv.6 inv.7 ends.4),
    )

pub returns-in_err-end-clause-served : goal.returns-in_err-end-clause-served
returns-in_err-end-clause-served g c =
    let remaining = g.R.Read.remaining in
    let contents = g.W.Write.contents in
    let inv = c.loop.invariant in
    let fed = c.in_ok-read.ensures.fed in
    let ends = c.in_err-end.ensures.err in
    let all : IsFedOn inv.0 (inv.2 ++ fed.0) c.read.new.self.begun.items (inv.3 ++ fed.1) c.read.new.self.live =
    fed_on inv.0 inv.2 c.loop.feed.begun.items inv.3 c.loop.feed.live fed.0 c.read.new.self.begun.items fed.1 c.read.new.self.live inv.6 fed.4 in (
      inv.2 ++ fed.0,
      (inv.3 ++ fed.1) ++ ends.0,
      consumed_then (remaining c.args.reader.now.inner) (remaining c.loop.reader.inner) (remaining c.read.new.reader.inner) inv.2 fed.0 inv.4 fed.2,
      appended_then (contents c.args.writer.now.inner) (contents c.read.new.writer.inner) (contents c.end.new.writer.inner) (inv.3 ++ fed.1) ends.0
          (appended_then (contents c.args.writer.now.inner) (contents c.loop.writer.inner) (contents c.read.new.writer.inner) inv.3 fed.1 inv.5 fed.3) ends.1,
      same_served c.from_residual-in_err-end.result c.in_err-end.field-0.0 (inv.2 ++ fed.0) ((inv.3 ++ fed.1) ++ ends.0) c.from_residual-in_err-end.ensures.1
          (ended_early inv.0 (inv.2 ++ fed.0) c.read.new.self.begun.items (inv.3 ++ fed.1) c.read.new.self.live c.in_err-end.field-0.0 ends.0 inv.1 all c.in_ok-read.ensures.begun ends.2),
    )

pub returns-then-not-branch-clause-served : goal.returns-then-not-branch-clause-served
returns-then-not-branch-clause-served g c =
    let remaining = g.R.Read.remaining in
    let contents = g.W.Write.contents in
    let inv = c.loop.invariant in
    let fed = c.in_ok-read.ensures.fed in
    let last = c.in_ok-end.ensures.last in
    let all : IsFedOn inv.0 (inv.2 ++ fed.0) c.read.new.self.begun.items (inv.3 ++ fed.1) c.read.new.self.live =
    fed_on inv.0 inv.2 c.loop.feed.begun.items inv.3 c.loop.feed.live fed.0 c.read.new.self.begun.items fed.1 c.read.new.self.live inv.6 fed.4 in (
      inv.2 ++ fed.0,
      (inv.3 ++ fed.1) ++ last.0,
      consumed_then (remaining c.args.reader.now.inner) (remaining c.loop.reader.inner) (remaining c.read.new.reader.inner) inv.2 fed.0 inv.4 fed.2,
      appended_then (contents c.args.writer.now.inner) (contents c.read.new.writer.inner) (contents c.end.new.writer.inner) (inv.3 ++ fed.1) last.0
          (appended_then (contents c.args.writer.now.inner) (contents c.loop.writer.inner) (contents c.read.new.writer.inner) inv.3 fed.1 inv.5 fed.3) last.1,
      ended_of inv.0 (inv.2 ++ fed.0) c.read.new.self.begun.items (inv.3 ++ fed.1) c.read.new.self.live c.end.new.self.live last.0 inv.1 all c.in_ok-read.ensures.begun last.2,
    )

pub loop-preserved : goal.loop-preserved
loop-preserved g c =
    let remaining = g.R.Read.remaining in
    let contents = g.W.Write.contents in
    let inv = c.loop.invariant in
    let fed = c.in_ok-read.ensures.fed in (
      inv.0,
      inv.1,
      inv.2 ++ fed.0,
      inv.3 ++ fed.1,
      consumed_then (remaining c.args.reader.now.inner) (remaining c.loop.reader.inner) (remaining c.read.new.reader.inner) inv.2 fed.0 inv.4 fed.2,
      appended_then (contents c.args.writer.now.inner) (contents c.loop.writer.inner) (contents c.read.new.writer.inner) inv.3 fed.1 inv.5 fed.3,
      fed_on inv.0 inv.2 c.loop.feed.begun.items inv.3 c.loop.feed.live fed.0 c.read.new.self.begun.items fed.1 c.read.new.self.live inv.6 fed.4,
      c.in_ok-read.ensures.begun,
      c.in_ok-read.ensures.room,
      c.in_ok-read.ensures.reader refl ∙ inv.9,
      c.in_ok-read.ensures.writer,
      λ flushed. c.in_ok-read.ensures.flushed refl (inv.11 flushed),
    )

pub returns-clause-served : goal.returns-clause-served
returns-clause-served g c =
    let inv = c.loop.invariant in
    (inv.2, inv.3, inv.4, inv.5, waiting_of inv.0 inv.2 c.loop.feed.begun.items inv.3 c.loop.feed.live inv.1 inv.6 inv.7)
