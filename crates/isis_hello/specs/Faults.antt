-- The number and name of each rule of the hello parser, and of each reason why a hello event is not allowed.
use Rattle.std.specs.Prelude.{ℕ, List, codes}
use Rattle.isis_hello.specs.declared.fault.HelloFault.{HelloFault}
use Rattle.isis_hello.specs.declared.fault.HelloFault.TheVariants as hello
use Rattle.isis_hello.specs.declared.fault.CircuitFault.{CircuitFault}
use Rattle.isis_hello.specs.declared.fault.CircuitFault.TheVariants as circuit

abbrev pub hello_number : HelloFault → ℕ
hello_number hello.Short = 1
hello_number hello.Discriminator = 2
hello_number hello.Version = 3
hello_number hello.IdLength = 4
hello_number hello.Type17 = 5
hello_number hello.HeaderLength = 6
hello_number hello.PduLength = 7
hello_number hello.Tlv = 8
hello_number hello.ThreeWay = 9

abbrev pub hello_name : HelloFault → List ℕ
hello_name hello.Short = codes "Short"
hello_name hello.Discriminator = codes "Discriminator"
hello_name hello.Version = codes "Version"
hello_name hello.IdLength = codes "IdLength"
hello_name hello.Type17 = codes "Type"
hello_name hello.HeaderLength = codes "HeaderLength"
hello_name hello.PduLength = codes "PduLength"
hello_name hello.Tlv = codes "Tlv"
hello_name hello.ThreeWay = codes "ThreeWay"

abbrev pub circuit_number : CircuitFault → ℕ
circuit_number circuit.Events = 1
circuit_number circuit.NoLink = 2
circuit_number circuit.EndState = 3
circuit_number circuit.InFlight = 4
circuit_number (circuit.NoFrame i n) = 5
circuit_number circuit.Memory = 0

abbrev pub circuit_name : CircuitFault → List ℕ
circuit_name circuit.Events = codes "Events"
circuit_name circuit.NoLink = codes "NoLink"
circuit_name circuit.EndState = codes "EndState"
circuit_name circuit.InFlight = codes "InFlight"
circuit_name (circuit.NoFrame i n) = codes "NoFrame"
circuit_name circuit.Memory = codes "Memory"
