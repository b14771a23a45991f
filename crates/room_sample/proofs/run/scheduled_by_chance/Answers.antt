use Rattle.std.proofs.Common.{◌∙◌, ap, subst, sym}
use Rattle.rand_core.specs.Stream.{Stream}
use Rattle.room_sample.specs.Chances.{random_in}
use Rattle.room_sample.specs.Drawn.{IsLed, Way, active_from, sets_out}
use Rattle.room_sample.specs.declared.active.Style.{Style}
use Rattle.room_sample.proofs.run.scheduled_by_chance.Goals as goal

pub returns : goal.returns
returns c =
    let random = random_in c.args.chances.now in
    let active = c.all_active-active.result.items in
    let later = random_in c.all_active-active.new.chances in
    let drawn = c.all_active-active.ensures ∙ ap (λ (p : Style × Stream). active_from c.args.spec p.0 c.args.spec.simulators p.1) c.random_style-style.ensures.drawn in
    let same = ap (λ (p : Style × Stream). p.0) c.random_style-style.ensures.drawn in
    let out = subst (λ (way : Way). IsLed c.args.spec c.args.crashes random 0 way active later) (sym c.in_ok-scheduled.ensures) (sets_out active later drawn) in
    c.in_ok-act_by_chance.ensures c.args.spec c.args.crashes random same out
