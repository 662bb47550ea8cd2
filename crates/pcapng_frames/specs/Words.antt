-- The number and name of each rule that a pcapng reader tests. Out of memory is no rule: its number is 0.
use Rattle.std.specs.Prelude.{ℕ, List, codes}
use Rattle.pcapng_frames.specs.declared.faults.NgFault.{NgFault}
use Rattle.pcapng_frames.specs.declared.faults.NgFault.TheVariants as faults

abbrev pub ng_number : NgFault → ℕ
ng_number faults.NgMagic = 11
ng_number faults.NgOrder = 12
ng_number faults.NgVersion = 13
ng_number faults.NgLength = 14
ng_number faults.NgInterface = 15
ng_number faults.NgPacket = 16
ng_number faults.NgTime = 17
ng_number faults.NgCut = 18
ng_number faults.Memory = 0

abbrev pub ng_name : NgFault → List ℕ
ng_name faults.NgMagic = codes "NgMagic"
ng_name faults.NgOrder = codes "NgOrder"
ng_name faults.NgVersion = codes "NgVersion"
ng_name faults.NgLength = codes "NgLength"
ng_name faults.NgInterface = codes "NgInterface"
ng_name faults.NgPacket = codes "NgPacket"
ng_name faults.NgTime = codes "NgTime"
ng_name faults.NgCut = codes "NgCut"
ng_name faults.Memory = codes "Memory"
