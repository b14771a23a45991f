use Rattle.std.proofs.Common.{◌++◌, ◌∷◌, ◌∙◌, [], refl, sym, arith}
use Rattle.room_files.specs.declared.fault.TextFault.TheVariants.{NoCommand}
use Rattle.script_play.specs.Script.{script_from}
use Rattle.script_play.proofs.Scripts.{bad_entry, bad_line, behind_none, good_entry, script_ends, step_script}
use Rattle.script_play.proofs.script.judge_unplayed.Goals as goal

pub loop-entry-init : goal.loop-entry-init
loop-entry-init c = (c.requires, λ all within. (all, [], within, behind_none (script_from all c.args.first c.args.text.now)))

pub loop-entry-preserved : goal.loop-entry-preserved
loop-entry-preserved c =
    let number = c.loop-entry.number in
    let rest = c.loop-entry.rest.now in
    let entry = c.in-Some.entry in
    let few = c.in-Some.ensures.few in
    let within = c.loop-entry.invariant.0 in
    let good = good_entry number entry (sym c.is_good.ensures ∙ c.if-not-is_good.false) in (
      omega (arith, few, within, c.lines-number.ensures),
      λ all whole.
          let inv = c.loop-entry.invariant.1 all whole in
          let next = step_script inv.0 number c.lines-number.result rest c.in-Some.later.now entry good.0 inv.1 (script_from all c.args.first c.args.text.now) inv.2 c.in-Some.ensures.none c.in-Some.ensures.entry c.in-Some.ensures.rest c.in-Some.ensures.shorter c.lines-number.ensures good.1 inv.3 in
          (next.0, inv.1 ++ good.0 ∷ [], next.1, next.2),
    )

pub returns-then-not-is_good : goal.returns-then-not-is_good
returns-then-not-is_good c = λ all whole.
    let inv = c.loop-entry.invariant.1 all whole in
    let number = c.loop-entry.number in
    let entry = c.in-Some.entry in
    rw c.bad_command.ensures
    (bad_entry inv.0 number c.loop-entry.rest.now entry inv.1 (script_from all c.args.first c.args.text.now) (number, NoCommand) inv.2 c.in-Some.ensures.none c.in-Some.ensures.entry
    (bad_line number entry (sym c.is_good.ensures ∙ c.if-not-is_good.true)) inv.3)

pub returns : goal.returns
returns c = λ all whole.
    let inv = c.loop-entry.invariant.1 all whole in
    rw (script_ends inv.0 c.loop-entry.number c.loop-entry.rest.now inv.1 (script_from all c.args.first c.args.text.now) c.in_default.ensures.none inv.3) refl
