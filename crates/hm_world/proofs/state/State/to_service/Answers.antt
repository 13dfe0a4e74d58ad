use Rattle.std.proofs.Common.{refl}
use Rattle.hm_base.specs.declared.why.Why.TheVariants.{Status}
use Rattle.hm_packet.specs.declared.acted.Did.TheVariants.{Ignored, LogFull}
use Rattle.hm_world.proofs.LiveLemmas.{not_done}
use Rattle.hm_world.proofs.ServiceLemmas.{service_ignores}
use Rattle.hm_world.proofs.state.State.to_service.Goals as goal

pub returns-in-Ignored : goal.returns-in-Ignored
returns-in-Ignored c = service_ignores c.args.self.now c.on_refused.new.self c.args.packet.now (Ignored c.in-Ignored.why) c.in-Ignored.why c.in-Ignored.ensures.service c.in-Ignored.ensures.did (not_done (Ignored c.in-Ignored.why) refl) refl

pub returns-in-LogFull : goal.returns-in-LogFull
returns-in-LogFull c = service_ignores c.args.self.now c.on_refused.new.self c.args.packet.now LogFull Status c.in-LogFull.ensures.service c.in-LogFull.ensures.did (not_done LogFull refl) refl
