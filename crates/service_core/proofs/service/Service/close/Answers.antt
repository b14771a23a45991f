use Rattle.std.proofs.Common.{None}
use Rattle.service_core.proofs.Lookups.{own_names}
use Rattle.service_core.proofs.service.Service.close.Goals as goal

pub invariant_of-self : goal.invariant_of-self
invariant_of-self c = own_names c.self.inside.rooms.entries c.swap_remove.new.self.entries c.args.name.now None c.swap_remove.ensures.updates.0 c.self.invariant (λ one is. absurd cc)
