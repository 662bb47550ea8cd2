use Rattle.std.proofs.Common.{◌∙◌, ℕ, length, Option, Some, sym, ap}
use Rattle.wire_base.specs.model.Item.{Item}
use Rattle.domain_model.specs.declared.fault.EventFault.TheVariants as faults
use Rattle.domain_model.specs.Faults.{repeat_fault}
use Rattle.frames_in_flight.specs.Flights.{items_seen}
use Rattle.domain_core.specs.Held.{state_of}
use Rattle.domain_core.specs.Network.{confs_in}
use Rattle.domain_model.specs.World.{queue_at}
use Rattle.domain_core.proofs.SeenLaws.{seen_length, none_seen_at, some_seen_at}
use Rattle.domain_core.proofs.network.Network.repeat_fault.Goals as goal

pub returns-in-None : goal.returns-in-None
returns-in-None c =
    sym (ap (λ (o : Option Item). repeat_fault o c.args.i (length (queue_at (items_seen (confs_in (state_of c.args.self.now)) c.args.self.now.flights) c.args.from c.args.link))) (none_seen_at (confs_in (state_of c.args.self.now)) c.args.self.now.flights c.args.from c.args.link c.args.i c.in-None.ensures)
    ∙ ap (λ (n : ℕ). Some (faults.NoFrame c.args.i n)) (seen_length (confs_in (state_of c.args.self.now)) c.args.self.now.flights c.args.from c.args.link ∙ sym c.len.ensures))

pub returns-in-Some : goal.returns-in-Some
returns-in-Some c = c.packet_fault.ensures (confs_in (state_of c.args.self.now)) c.args.i (length (queue_at (items_seen (confs_in (state_of c.args.self.now)) c.args.self.now.flights) c.args.from c.args.link)) ∙ sym (ap (λ (o : Option Item). repeat_fault o c.args.i (length (queue_at (items_seen (confs_in (state_of c.args.self.now)) c.args.self.now.flights) c.args.from c.args.link))) (some_seen_at (confs_in (state_of c.args.self.now)) c.args.self.now.flights c.args.from c.args.link c.args.i c.in-Some.flight c.in-Some.ensures))
