use Rattle.ws_history.proofs.EffectsOf.{effect_of_step}
use Rattle.ws_history.proofs.effects.StepStart.effect.Goals as goal

pub returns : goal.returns
returns c = λ old one seen stepped after. effect_of_step old c.args.room.now c.args.i c.args.self.now.before c.effect_in.result c.shape_of-shape.ensures.limits c.effect_in.ensures one seen stepped after
