use Rattle.std.proofs.Common.{refl, sym, take}
use Rattle.std.proofs.lemmas.List.{take_more}
use Rattle.std.proofs.lemmas.Option.{slice_get_read}
use Rattle.history_checker.proofs.Runs.{IsRun-more}
use Rattle.history_checker.proofs.history.follow_all.Goals as goal

pub returns-in-Err : goal.returns-in-Err
returns-in-Err c =
    let both = c.in-Err.ensures.follows c.args.spec.now (sym c.rounds-rounds.ensures.value) (sym c.protocol.ensures) (take c.loop-at.at c.args.events.now) c.loop-at.invariant.tracks in
    record {
      event = c.index-events-at.result;
      there = slice_get_read c.args.events.now _ c.loop-at.at c.index-events-at.result refl c.loop-at-test.true c.index-events-at.is;
      breaks = both.0;
      run_before = c.loop-at.invariant.run;
      tracks = rw both.1 c.loop-at.invariant.tracks;
    }

pub loop-at-preserved : goal.loop-at-preserved
loop-at-preserved c =
    let both = c.in_default.ensures.follows c.args.spec.now (sym c.rounds-rounds.ensures.value) (sym c.protocol.ensures) (take c.loop-at.at c.args.events.now) c.loop-at.invariant.tracks in
    record {
      run = IsRun-more c.args.spec.now c.args.events.now c.loop-at.at c.index-events-at.result c.loop-at-test.true c.loop-at.invariant.run (rw (← c.index-events-at.is) both.0);
      tracks = rw (take_more c.args.events.now c.loop-at.at c.index-events-at.result c.loop-at-test.true, ← c.index-events-at.is) both.1;
    }
