-- The end of a report on a capture that is rejected: the record that breaks a rule, and the rule.
use Rattle.std.specs.Prelude.{ℕ, ◌+◌, List, [], ◌∷◌, codes}
use Rattle.std.specs.Fmt.{decimal}
use Rattle.wire_base.specs.declared.status.Status.{Status}
use Rattle.wire_base.specs.declared.status.Status.TheVariants.{CaptureRefused}
use Rattle.wire_base.specs.declared.faults.CaptureFault.{CaptureFault}
use Rattle.wire_base.specs.declared.faults.CaptureFault.TheVariants as faults
use Rattle.command_drive.specs.declared.capture_reader.RecordFault.{RecordFault}
use Rattle.command_drive.specs.declared.capture_reader.RecordFault.TheVariants as record_faults
use Rattle.command_drive.specs.CaptureReading.{fault_number, fault_name}
use Rattle.replay_text.specs.Report.{line_of}

-- `refused record N ..`, with the number and the name of a rule
abbrev pub refused_record : ℕ → List (List ℕ) → Status × List ℕ
refused_record n rule = (CaptureRefused, line_of (codes "refused" ∷ codes "record" ∷ decimal n ∷ rule))

-- The number of the record with an error, after n others: the header of a pcap capture has the number 0, and an error of a
-- pcapng capture is at the next packet.
abbrev pub pcap_fault_record : ℕ → CaptureFault → ℕ
pcap_fault_record n faults.Magic = 0
pcap_fault_record n faults.Version = 0
pcap_fault_record n faults.LinkType = 0
pcap_fault_record n faults.CutHeader = 0
pcap_fault_record n faults.CutRecord = n + 1
pcap_fault_record n faults.LongRecord = n + 1
pcap_fault_record n faults.Memory = n + 1

abbrev pub fault_record : ℕ → RecordFault → ℕ
fault_record n (record_faults.Pcap fault) = pcap_fault_record n fault
fault_record n (record_faults.Pcapng fault) = n + 1

-- at an error of the parser
abbrev pub refused_by : ℕ → RecordFault → Status × List ℕ
refused_by n fault = refused_record (fault_record n fault) (decimal (fault_number fault) ∷ fault_name fault ∷ [])

-- at the limit, if more octets follow
abbrev pub too_long : ℕ → Status × List ℕ
too_long n = refused_record (n + 1) (decimal 8 ∷ codes "TooLong" ∷ [])
