use Rattle.std.proofs.Common.{Result, Ok, Option, sym, ap, ◌∙◌}
use Rattle.pcapng_frames.specs.declared.faults.NgFault.{NgFault}
use Rattle.pcapng_frames.specs.declared.packet.NgRecord.{NgRecord}
use Rattle.pcapng_frames.specs.Reading.{NgReading}
use Rattle.pcapng_frames.proofs.ReadLaws.{took_nothing, took_skipped, took_packet, skipped_less, none_again, fault_read}
use Rattle.pcapng_frames.proofs.reader.NgReader.next.Goals as goal

pub walk-smaller : goal.walk-smaller
walk-smaller c = skipped_less c.walk.self c.take_block-took.new.self (c.in-Ok-Skipped.ensures.exact ∙ ap Ok c.in-Ok-Skipped.field-0-is) c.in-Ok-Skipped.ensures.after

pub walk-preserved : goal.walk-preserved
walk-preserved c = sym (took_skipped c.walk.self c.take_block-took.new.self (c.in-Ok-Skipped.ensures.exact ∙ ap Ok c.in-Ok-Skipped.field-0-is) c.in-Ok-Skipped.ensures.after) ∙ c.walk.invariant

pub returns-in-Ok-Nothing-clause-exact : goal.returns-in-Ok-Nothing-clause-exact
returns-in-Ok-Nothing-clause-exact c =
    ap (λ (a : Result (Option NgRecord) NgFault × NgReading). a.0)
    (sym c.walk.invariant ∙ took_nothing c.walk.self c.take_block-took.new.self (c.in-Ok-Nothing.ensures.exact ∙ ap Ok c.in-Ok-Nothing.field-0-is) c.in-Ok-Nothing.ensures.after)

pub returns-in-Ok-Nothing-clause-after : goal.returns-in-Ok-Nothing-clause-after
returns-in-Ok-Nothing-clause-after c =
    sym (ap (λ (a : Result (Option NgRecord) NgFault × NgReading). a.1)
    (sym c.walk.invariant ∙ took_nothing c.walk.self c.take_block-took.new.self (c.in-Ok-Nothing.ensures.exact ∙ ap Ok c.in-Ok-Nothing.field-0-is) c.in-Ok-Nothing.ensures.after))

pub returns-in-Ok-Nothing-clause-none : goal.returns-in-Ok-Nothing-clause-none
returns-in-Ok-Nothing-clause-none c =
    λ _. none_again c.walk.self c.take_block-took.new.self (took_nothing c.walk.self c.take_block-took.new.self (c.in-Ok-Nothing.ensures.exact ∙ ap Ok c.in-Ok-Nothing.field-0-is) c.in-Ok-Nothing.ensures.after)

pub returns-in-Ok-Packet-clause-exact : goal.returns-in-Ok-Packet-clause-exact
returns-in-Ok-Packet-clause-exact c =
    ap (λ (a : Result (Option NgRecord) NgFault × NgReading). a.0)
    (sym c.walk.invariant ∙ took_packet c.walk.self c.take_block-took.new.self c.in-Ok-Packet.read (c.in-Ok-Packet.ensures.exact ∙ ap Ok c.in-Ok-Packet.field-0-is) c.in-Ok-Packet.ensures.after)

pub returns-in-Ok-Packet-clause-after : goal.returns-in-Ok-Packet-clause-after
returns-in-Ok-Packet-clause-after c =
    sym (ap (λ (a : Result (Option NgRecord) NgFault × NgReading). a.1)
    (sym c.walk.invariant ∙ took_packet c.walk.self c.take_block-took.new.self c.in-Ok-Packet.read (c.in-Ok-Packet.ensures.exact ∙ ap Ok c.in-Ok-Packet.field-0-is) c.in-Ok-Packet.ensures.after))

pub returns-in-Err-clause-exact : goal.returns-in-Err-clause-exact
returns-in-Err-clause-exact c = (fault_read c.in-Err.fault c.args.self.now c.walk.self c.take_block-took.new.self c.walk.invariant c.in-Err.ensures.exact c.in-Err.ensures.after).0

pub returns-in-Err-clause-after : goal.returns-in-Err-clause-after
returns-in-Err-clause-after c = (fault_read c.in-Err.fault c.args.self.now c.walk.self c.take_block-took.new.self c.walk.invariant c.in-Err.ensures.exact c.in-Err.ensures.after).1
