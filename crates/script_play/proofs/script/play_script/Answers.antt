use Rattle.std.proofs.Common.{◌++◌, ◌∷◌, ◌∙◌, [], ap, length, sym, arith}
use Rattle.room_files.specs.declared.fault.TextFault.TheVariants.{NoCommand}
use Rattle.script_play.specs.Play.{ending_with, ran_out_of_memory, is_refused}
use Rattle.script_play.specs.Script.{script_from, script_says}
use Rattle.script_play.proofs.Scripts.{bad_entry, bad_line, behind_none, fault_after, good_entry, script_ends, step_script}
use Rattle.script_play.proofs.Followed.{followed-push, run_of}
use Rattle.script_play.proofs.Playing.{done-push, ending-push}
use Rattle.script_play.proofs.script.play_script.Goals as goal

pub loop-entry-init : goal.loop-entry-init
loop-entry-init g c =
    (length c.args.script.now, [], [], omega arith, behind_none (script_says c.args.script.now), omega arith, tt, (sym c.new-player.ensures.service, sym c.new-player.ensures.follower), c.new-player.ensures.ending)

pub loop-entry-preserved : goal.loop-entry-preserved
loop-entry-preserved g c =
    let inv = c.loop-entry.invariant in
    let number = c.loop-entry.number in
    let rest = c.loop-entry.rest.now in
    let entry = c.in-Some.entry in
    let few = c.in-Some.ensures.few in
    let within = inv.5 in
    let there = good_entry number entry (sym c.in-Ok.ensures.good ∙ c.if-not-good.false) in
    let next = step_script inv.0 number c.lines-number.result rest c.in-Some.later.now entry there.0 inv.1 (script_says c.args.script.now) inv.3 c.in-Some.ensures.none c.in-Some.ensures.entry c.in-Some.ensures.rest c.in-Some.ensures.shorter c.lines-number.ensures there.1 inv.4 in
    let plays = c.in-Ok.ensures.plays there.0 there.1 in
    let old = c.loop-entry.player in
    let new = c.take.new.self in (
      next.0,
      inv.1 ++ there.0 ∷ [],
      inv.2 ++ plays.0 ∷ [],
      next.1,
      next.2,
      omega (arith, few, within, c.lines-number.ensures),
      done-push c.args.kinds inv.1 inv.2 there.0 plays.0 inv.6 plays.1,
      followed-push g.F.Follows.follows [] c.args.follower inv.2 plays.0 old.service new.service old.follower new.follower inv.7 plays.2.leaves plays.2.is_followed,
      plays.2.ends ∙ ap (ending_with (ran_out_of_memory plays.0) (is_refused plays.0)) inv.8 ∙ ending-push inv.2 plays.0,
    )

pub returns-then-not-good-clause-err : goal.returns-then-not-good-clause-err
returns-then-not-good-clause-err g c =
    let inv = c.loop-entry.invariant in
    let number = c.loop-entry.number in
    let entry = c.in-Some.entry in
    rw c.bad_command.ensures
    (bad_entry inv.0 number c.loop-entry.rest.now entry inv.1 (script_says c.args.script.now) (number, NoCommand) inv.3 c.in-Some.ensures.none c.in-Some.ensures.entry
    (bad_line number entry (sym c.in-Ok.ensures.good ∙ c.if-not-good.true)) inv.4)

pub returns-in_default-take-clause-err : goal.returns-in_default-take-clause-err
returns-in_default-take-clause-err g c =
    let inv = c.loop-entry.invariant in
    fault_after inv.1 (script_from inv.0 c.loop-entry.number c.loop-entry.rest.now) (script_says c.args.script.now) c.judge_unplayed.result inv.4 (c.judge_unplayed.ensures inv.0 inv.3)

pub returns-clause-played : goal.returns-clause-played
returns-clause-played g c =
    let inv = c.loop-entry.invariant in
    let player = c.loop-entry.player in
    record {
      entries = inv.1;
      asked = script_ends inv.0 c.loop-entry.number c.loop-entry.rest.now inv.1 (script_says c.args.script.now) c.in_default.ensures.none inv.4;
      all = inv.2;
      each_entry = inv.6;
      replies = (run_of g.F.Follows.follows c.args.follower inv.2 player.service player.follower inv.7).answers;
      followed = inv.7;
      ending_is = inv.8;
    }
