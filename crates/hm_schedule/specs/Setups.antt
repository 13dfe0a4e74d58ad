-- The rules' setups and events for those of the code.
use Rattle.hm_rules.specs.Events as rule
use Rattle.hm_schedule.specs.declared.event.Setup.{Setup}
use Rattle.hm_schedule.specs.declared.event.Event.{Event}
use Rattle.hm_schedule.specs.declared.event.Event.TheVariants as event

abbrev pub setup_of : Setup → rule.Setup
setup_of s = record { kind = s.kind; size = s.size; stages = s.stages; bits = s.bits; life = s.life; cap = s.cap }

abbrev pub event_of : Event → rule.Event
event_of (event.Write client object value switch) = rule.Event.Write client object value switch
event_of (event.Read client object switch) = rule.Event.Read client object switch
event_of (event.Resend client switch) = rule.Event.Resend client switch
event_of (event.Deliver packet) = rule.Event.Deliver packet
event_of event.Next = rule.Event.Next
event_of event.Drop = rule.Event.Drop
event_of (event.Tick replica) = rule.Event.Tick replica
event_of (event.Stop replica) = rule.Event.Stop replica
event_of (event.Remove replica) = rule.Event.Remove replica
event_of (event.Timeout replica) = rule.Event.Timeout replica
event_of event.Retire = rule.Event.Retire
event_of event.Start = rule.Event.Start
