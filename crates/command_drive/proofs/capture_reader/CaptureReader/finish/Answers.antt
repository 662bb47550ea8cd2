use Rattle.std.proofs.Common.{◌≡◌, Ok, None, subst}
use Rattle.command_drive.specs.declared.capture_reader.CaptureReader.{CaptureReader}
use Rattle.command_drive.specs.CaptureReading.{any_next}
use Rattle.command_drive.proofs.AnyLaws.{pcap_open, pcapng_open}
use Rattle.command_drive.proofs.capture_reader.CaptureReader.finish.Goals as goal

pub pcap_end-requires : goal.pcap_end-requires
pcap_end-requires c = pcap_open c.in-Pcap.reader (subst (λ (r : CaptureReader). any_next r ≡ (Ok None, r)) c.in-Pcap.is c.requires)

pub pcapng_end-requires : goal.pcapng_end-requires
pcapng_end-requires c = pcapng_open c.in-Pcapng.reader (subst (λ (r : CaptureReader). any_next r ≡ (Ok None, r)) c.in-Pcapng.is c.requires)
