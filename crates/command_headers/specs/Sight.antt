-- The BIER header of a frame, with the length in its own field, and the line that reports it.
use Rattle.std.specs.Prelude.{ℕ, ◌-◌, ◌*◌, ◌/◌, ◌==◌, Bool, false, List, [], ◌∷◌, ◌++◌, length, drop, Result, Ok, Err, codes, if◌then◌else◌}
use Rattle.std.specs.Fmt.{decimal}
use Rattle.wire_base.specs.declared.conf.Kind.{Kind}
use Rattle.wire_base.specs.declared.conf.Kind.TheVariants.{Mpls, Configured}
use Rattle.wire_base.specs.declared.faults.FrameFault.{FrameFault}
use Rattle.wire_base.specs.declared.faults.StackFault.{StackFault}
use Rattle.wire_base.specs.declared.faults.HeadFault.{HeadFault}
use Rattle.wire_base.specs.model.Faults.{head_number, head_name}
use Rattle.wire_base.specs.model.Place.{bits_of}
use Rattle.wire_base.specs.model.Ethernet.{Carried, IsisPdu, MplsPacket, BierPacket, IpPacket, OtherFrame, frame_at}
use Rattle.wire_base.specs.model.Labels.{LabelEntry, stack_at}
use Rattle.wire_base.specs.model.BierHeader.{BierHeader, coded_header_at}
use Rattle.replay_text.specs.Fault.{rule_text}
use Rattle.replay_text.specs.Ids.{ids_text}

-- What a frame contains: no BIER packet, a header, or octets of a BIER packet that are not a valid header, and why.
pub data Sight : Type 0 where
  Passed : Sight
  Seen : (kind : Kind) → (header : BierHeader) → Sight
  Bad : (fault : HeadFault) → Sight

abbrev pub sight_by : Kind → Result BierHeader HeadFault → Sight
sight_by kind (Ok header) = Seen kind header
sight_by kind (Err fault) = Bad fault

-- whether the four bits after a label stack are those of a BIER header (RFC 8296, 2.1.2)
abbrev pub begins_bier : List ℕ → Bool
begins_bier [] = false
begins_bier (octet ∷ octets) = octet / 16 == 5

-- After a stack the header's first number is the last label.
abbrev pub behind_stack : List ℕ → Result (List LabelEntry × List ℕ) StackFault → Sight
behind_stack octets (Err fault) = Passed
behind_stack octets (Ok read) =
    if begins_bier read.1 then sight_by Mpls (coded_header_at Mpls (drop (4 * (length read.0 - 1)) octets)) else Passed

abbrev pub in_frame : Result Carried FrameFault → Sight
in_frame (Err fault) = Passed
in_frame (Ok (IsisPdu octets)) = Passed
in_frame (Ok (MplsPacket octets)) = behind_stack octets (stack_at 8 octets)
in_frame (Ok (BierPacket octets)) = sight_by Configured (coded_header_at Configured octets)
in_frame (Ok (IpPacket octets)) = Passed
in_frame (Ok OtherFrame) = Passed

unfoldable pub sight_of : List ℕ → Sight
sight_of frame = in_frame (frame_at frame)

-- ---- lines

abbrev pub kind_text : Kind → List ℕ
kind_text Mpls = codes " mpls "
kind_text Configured = codes " bier "

-- the number and the name of the rule that a header breaks
abbrev pub head_fault_text : HeadFault → List ℕ
head_fault_text fault = codes " bad " ++ rule_text (head_number fault) (head_name fault) ++ 10 ∷ []

-- three numbers, with a space after each
abbrev pub three_text : ℕ → ℕ → ℕ → List ℕ
three_text first second third = decimal first ++ 32 ∷ [] ++ decimal second ++ 32 ∷ [] ++ decimal third ++ 32 ∷ []

-- BIFT-id, TTL, bits of the BitString; entropy, protocol, BFIR-id; positions
abbrev pub header_text : BierHeader → List ℕ
header_text h = three_text h.bift h.ttl (bits_of h.bsl) ++ three_text h.entropy h.proto h.bfir ++ ids_text h.positions ++ 10 ∷ []

-- the line of a record with that number, or none
abbrev pub sight_text : ℕ → Sight → List ℕ
sight_text n Passed = []
sight_text n (Seen kind header) = decimal n ++ kind_text kind ++ header_text header
sight_text n (Bad fault) = decimal n ++ head_fault_text fault

-- how many headers that is
abbrev pub sight_count : Sight → ℕ
sight_count Passed = 0
sight_count (Seen kind header) = 1
sight_count (Bad fault) = 0
