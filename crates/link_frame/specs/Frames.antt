-- What the class of a frame states about it.
use Rattle.std.specs.Prelude.{◌≡◌, ℕ, ◌-◌, ◌≤◌, List, take, drop}
use Rattle.wire_base.specs.model.Ethernet.{Carried, IsisPdu, MplsPacket, BierPacket, IpPacket, OtherFrame}
use Rattle.link_frame.specs.declared.frame.Class.{Class}
use Rattle.link_frame.specs.declared.frame.Class.TheVariants.{Isis, Mpls, Bier, Ip, Other}

-- the octets in the range of a class
abbrev pub carried : List ℕ → Class → Carried
carried frame (Isis from to) = IsisPdu (take (to - from) (drop from frame))
carried frame (Mpls from) = MplsPacket (drop from frame)
carried frame (Bier from) = BierPacket (drop from frame)
carried frame (Ip from) = IpPacket (drop from frame)
carried frame Other = OtherFrame

-- the range of a class, for a frame of that many octets
abbrev pub HasPlaces : ℕ → Class → Type 0
HasPlaces n (Isis from to) = (from ≡ 17) × (from ≤ to) × (to ≤ n)
HasPlaces n (Mpls from) = (from ≡ 14) × (from ≤ n)
HasPlaces n (Bier from) = (from ≡ 14) × (from ≤ n)
HasPlaces n (Ip from) = (from ≡ 14) × (from ≤ n)
HasPlaces n Other = Unit {0}
