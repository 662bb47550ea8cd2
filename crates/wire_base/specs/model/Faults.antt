-- The number and name of each rule that a parser tests, from 1 in the order of its type. Out of memory is no rule: its number
-- is 0.
use Rattle.std.specs.Prelude.{ℕ, List, codes}
use Rattle.wire_base.specs.declared.faults.HeadFault.{HeadFault}
use Rattle.wire_base.specs.declared.faults.HeadFault.TheVariants as head
use Rattle.wire_base.specs.declared.faults.FrameFault.{FrameFault}
use Rattle.wire_base.specs.declared.faults.FrameFault.TheVariants as frame
use Rattle.wire_base.specs.declared.faults.StackFault.{StackFault}
use Rattle.wire_base.specs.declared.faults.StackFault.TheVariants as stack
use Rattle.wire_base.specs.declared.faults.IpFault.{IpFault}
use Rattle.wire_base.specs.declared.faults.IpFault.TheVariants as ip
use Rattle.wire_base.specs.declared.faults.CaptureFault.{CaptureFault}
use Rattle.wire_base.specs.declared.faults.CaptureFault.TheVariants as capture
use Rattle.wire_base.specs.declared.faults.TlvFault.{TlvFault}
use Rattle.wire_base.specs.declared.faults.TlvFault.TheVariants as tlv
use Rattle.wire_base.specs.declared.faults.InfoFault.{InfoFault}
use Rattle.wire_base.specs.declared.faults.InfoFault.TheVariants as info
use Rattle.wire_base.specs.declared.faults.PduFault.{PduFault}
use Rattle.wire_base.specs.declared.faults.PduFault.TheVariants as pdu
use Rattle.wire_base.specs.declared.faults.EdgeFault.{EdgeFault}
use Rattle.wire_base.specs.declared.faults.EdgeFault.TheVariants as edge

abbrev pub head_number : HeadFault → ℕ
head_number head.Short = 1
head_number head.Nibble = 2
head_number head.Version = 3
head_number head.BslCode = 4

abbrev pub head_name : HeadFault → List ℕ
head_name head.Short = codes "Short"
head_name head.Nibble = codes "Nibble"
head_name head.Version = codes "Version"
head_name head.BslCode = codes "BslCode"

abbrev pub frame_number : FrameFault → ℕ
frame_number frame.Short = 1
frame_number frame.Length = 2

abbrev pub frame_name : FrameFault → List ℕ
frame_name frame.Short = codes "Short"
frame_name frame.Length = codes "Length"

abbrev pub stack_number : StackFault → ℕ
stack_number stack.NoBottom = 1
stack_number stack.Deep = 2

abbrev pub stack_name : StackFault → List ℕ
stack_name stack.NoBottom = codes "NoBottom"
stack_name stack.Deep = codes "Deep"

abbrev pub ip_number : IpFault → ℕ
ip_number ip.Short = 1
ip_number ip.Version = 2
ip_number ip.Options = 3
ip_number ip.Length = 4
ip_number ip.Checksum = 5
ip_number ip.Fragment = 6
ip_number ip.NotGre = 7
ip_number ip.GreShort = 8
ip_number ip.GreFlags = 9
ip_number ip.GreType = 10

abbrev pub ip_name : IpFault → List ℕ
ip_name ip.Short = codes "Short"
ip_name ip.Version = codes "Version"
ip_name ip.Options = codes "Options"
ip_name ip.Length = codes "Length"
ip_name ip.Checksum = codes "Checksum"
ip_name ip.Fragment = codes "Fragment"
ip_name ip.NotGre = codes "NotGre"
ip_name ip.GreShort = codes "GreShort"
ip_name ip.GreFlags = codes "GreFlags"
ip_name ip.GreType = codes "GreType"

abbrev pub capture_number : CaptureFault → ℕ
capture_number capture.Magic = 1
capture_number capture.Version = 2
capture_number capture.LinkType = 3
capture_number capture.CutHeader = 4
capture_number capture.CutRecord = 5
capture_number capture.LongRecord = 6
capture_number capture.Memory = 0

abbrev pub capture_name : CaptureFault → List ℕ
capture_name capture.Magic = codes "Magic"
capture_name capture.Version = codes "Version"
capture_name capture.LinkType = codes "LinkType"
capture_name capture.CutHeader = codes "CutHeader"
capture_name capture.CutRecord = codes "CutRecord"
capture_name capture.LongRecord = codes "LongRecord"
capture_name capture.Memory = codes "Memory"

abbrev pub tlv_number : TlvFault → ℕ
tlv_number tlv.Overrun = 1
tlv_number tlv.EntryShort = 2
tlv_number tlv.PrefixLen = 3

abbrev pub tlv_name : TlvFault → List ℕ
tlv_name tlv.Overrun = codes "Overrun"
tlv_name tlv.EntryShort = codes "EntryShort"
tlv_name tlv.PrefixLen = codes "PrefixLen"

abbrev pub info_number : InfoFault → ℕ
info_number info.Short = 1
info_number info.RepeatedLength = 2
info_number info.Algorithm = 3

abbrev pub info_name : InfoFault → List ℕ
info_name info.Short = codes "Short"
info_name info.RepeatedLength = codes "RepeatedLength"
info_name info.Algorithm = codes "Algorithm"

abbrev pub pdu_number : PduFault → ℕ
pdu_number pdu.Short = 1
pdu_number pdu.Discriminator = 2
pdu_number pdu.Version = 3
pdu_number pdu.IdLength = 4
pdu_number pdu.HeaderLength = 5
pdu_number pdu.PduLength = 6
pdu_number pdu.Checksum = 7
pdu_number pdu.Tlv = 8

abbrev pub pdu_name : PduFault → List ℕ
pdu_name pdu.Short = codes "Short"
pdu_name pdu.Discriminator = codes "Discriminator"
pdu_name pdu.Version = codes "Version"
pdu_name pdu.IdLength = codes "IdLength"
pdu_name pdu.HeaderLength = codes "HeaderLength"
pdu_name pdu.PduLength = codes "PduLength"
pdu_name pdu.Checksum = codes "Checksum"
pdu_name pdu.Tlv = codes "Tlv"

abbrev pub edge_number : EdgeFault → ℕ
edge_number edge.NoEgress = 1
edge_number edge.IdZero = 2
edge_number (edge.SiLarge k) = 3
edge_number edge.NotBfr = 4
edge_number edge.BslUnknown = 5
edge_number edge.Memory = 0

abbrev pub edge_name : EdgeFault → List ℕ
edge_name edge.NoEgress = codes "NoEgress"
edge_name edge.IdZero = codes "IdZero"
edge_name (edge.SiLarge k) = codes "SiLarge"
edge_name edge.NotBfr = codes "NotBfr"
edge_name edge.BslUnknown = codes "BslUnknown"
edge_name edge.Memory = codes "Memory"
