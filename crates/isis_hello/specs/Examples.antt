-- Two routers, A of system 1 and B of system 2, in area 490001 at level 2, connected by one link: their handshake, and the
-- octets of A's first hello.
use Rattle.std.specs.Prelude.{ℕ, ◌+◌, false, List, [], ◌∷◌, codes, None}
use Rattle.wire_base.specs.declared.addresses.Mac.{Mac}
use Rattle.wire_base.specs.declared.addresses.SystemId.{SystemId}
use Rattle.wire_base.specs.declared.conf.End.{End}
use Rattle.wire_base.specs.declared.conf.Level.TheVariants.{Two}
use Rattle.wire_base.specs.declared.conf.RouterConf.{RouterConf}
use Rattle.wire_base.specs.model.Configuration.{DomainConf}
use Rattle.isis_hello.specs.declared.event.EndChange.{EndChange}
use Rattle.wire_base.specs.declared.hello_event.HelloEvent.{HelloEvent}
use Rattle.wire_base.specs.declared.hello_event.HelloEvent.TheVariants as events
use Rattle.isis_hello.specs.declared.hello.Hello.{Hello}
use Rattle.isis_hello.specs.declared.hello.Tri.TheVariants.{Down}
use Rattle.isis_hello.specs.Circuits.{CircuitsState}
use Rattle.isis_hello.specs.Events.{happens}

abbrev pub system_of : ℕ → SystemId
system_of n = record { 0 = 0 ∷ 0 ∷ 0 ∷ 0 ∷ 0 ∷ n ∷ [] }

-- the Ethernet address of a router's interface
abbrev pub mac_of : ℕ → ℕ → Mac
mac_of place peer = record { 0 = 2 ∷ 0 ∷ 0 ∷ place ∷ 0 ∷ peer ∷ [] }

abbrev pub end_of : ℕ → ℕ → End
end_of place peer = record { peer = system_of (peer + 1); peer_mac = mac_of peer place; own_mac = mac_of place peer; metric = 10 }

abbrev pub router_of : ℕ → ℕ → List ℕ → RouterConf
router_of place peer name = record {
  level = Two;
  area = 73 ∷ 0 ∷ 1 ∷ [];
  name = name;
  system = system_of (place + 1);
  prefix = record { 0 = 10 ∷ 0 ∷ 0 ∷ (place + 1) ∷ [] };
  overload = false;
  subs = [];
  away = [];
  past = [];
  kinds = [];
  table = [];
  ends = end_of place peer ∷ [];
}

abbrev pub pair : DomainConf
pair = record { routers = router_of 0 1 (codes "A") ∷ router_of 1 0 (codes "B") ∷ []; links = record { a = 0; b = 1 } ∷ [] }

-- A's first hello: its circuit is 1, and its adjacency is down
abbrev pub a_hello : Hello
a_hello = record { source = system_of 1; hold = 30; circuit = 1; state = Down; named = None }

-- 09002b000005 020000000001 0027 fefe03 8314010011010000 02 000000000001 001e 0024 01 010403490001 8101cc f005 02 00000001
abbrev pub a_frame : List ℕ
a_frame =
    9 ∷ 0 ∷ 43 ∷ 0 ∷ 0 ∷ 5 ∷ 2 ∷ 0 ∷ 0 ∷ 0 ∷ 0 ∷ 1 ∷ 0 ∷ 39 ∷ 254 ∷ 254 ∷ 3
    ∷ 131 ∷ 20 ∷ 1 ∷ 0 ∷ 17 ∷ 1 ∷ 0 ∷ 0 ∷ 2 ∷ 0 ∷ 0 ∷ 0 ∷ 0 ∷ 0 ∷ 1 ∷ 0 ∷ 30 ∷ 0 ∷ 36 ∷ 1
    ∷ 1 ∷ 4 ∷ 3 ∷ 73 ∷ 0 ∷ 1 ∷ 129 ∷ 1 ∷ 204 ∷ 240 ∷ 5 ∷ 2 ∷ 0 ∷ 0 ∷ 0 ∷ 1 ∷ []

-- A hello of each router arrives, and then A's second: A is up once B has answered, and B once A has confirmed.
abbrev pub three_hellos : List HelloEvent
three_hellos = events.Hello 0 1 ∷ events.Greet 0 1 0 ∷ events.Hello 1 0 ∷ events.Greet 1 0 0 ∷ events.Hello 0 1 ∷ events.Greet 0 1 0 ∷ []

abbrev pub changes_from : CircuitsState → List HelloEvent → List (List EndChange)
changes_from s [] = []
changes_from s (e ∷ es) = (happens s e).out.changes ∷ changes_from (happens s e).state es
