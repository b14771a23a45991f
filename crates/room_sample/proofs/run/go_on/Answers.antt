use Rattle.std.proofs.Common.{◌||◌, rules, subst, sym}
use Rattle.std.specs.Prelude.{nat_eq}
use Rattle.room_sample.specs.Drawn.{Acts}
use Rattle.room_sample.specs.Ways.{way_of}
use Rattle.room_sample.specs.declared.active.Fuse.{Fuse}
use Rattle.room_sample.proofs.Drawing.{aimed_as, burning_as, burnt_as, unburnt_as}
use Rattle.room_sample.proofs.run.go_on.Goals as goal

pub returns-in_ok-steps-in-Never-clause-acts : goal.returns-in_ok-steps-in-Never-clause-acts
returns-in_ok-steps-in-Never-clause-acts c =
    unburnt_as c.args.active.now.simulator c.args.most c.in_ok-steps-in-Never.field-0 (way_of c.args.scheduled.now) (way_of c.steps.new.self) c.args.active.now.fuse c.in-Never.is c.in_ok-steps-in-Never.ensures.walks

pub returns-in_ok-crash-in-After-eq0-clause-acts : goal.returns-in_ok-crash-in-After-eq0-clause-acts
returns-in_ok-crash-in-After-eq0-clause-acts c =
    burnt_as c.args.active.now.simulator c.args.most c.in_ok-crash-in-After-eq0.field-0 (way_of c.args.scheduled.now) (way_of c.crash.new.self) c.args.active.now.fuse (search rules) c.in_ok-crash-in-After-eq0.ensures

pub returns-in_ok-taken-in-After-clause-acts : goal.returns-in_ok-taken-in-After-clause-acts
returns-in_ok-taken-in-After-clause-acts c =
    burning_as c.args.active.now.simulator c.args.most c.min-most.result c.in-After.steps c.from-in-After.result c.in_ok-taken-in-After.taken (way_of c.args.scheduled.now) (way_of c.steps-in-After.new.self) c.args.active.now.fuse
    c.in-After.is (search rules) (search rules) (search rules) c.in_ok-taken-in-After.ensures.walks

pub returns-in_ok-taken-in-Inside-clause-acts : goal.returns-in_ok-taken-in-Inside-clause-acts
returns-in_ok-taken-in-Inside-clause-acts c =
    subst (λ (later : Fuse). Acts c.args.active.now.simulator c.args.most (way_of c.args.scheduled.now) c.args.active.now.fuse later (way_of c.steps_into.new.self) (c.in_ok-taken-in-Inside.entered || nat_eq c.in_ok-taken-in-Inside.taken c.args.most)) (sym c.fuse_after-active.ensures)
    (aimed_as c.args.active.now.simulator c.args.most c.in-Inside.others c.in_ok-taken-in-Inside.taken c.in_ok-taken-in-Inside.entered (way_of c.args.scheduled.now) (way_of c.steps_into.new.self) c.args.active.now.fuse c.in-Inside.is c.in_ok-taken-in-Inside.ensures)
