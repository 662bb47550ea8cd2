-- Small domains of one MPLS sub-domain on which the definitions are tested: level 2, area 49.0001, metrics of 10, and
-- BitStrings of 64 bits. Routers are numbered from 1, and so are their system IDs and prefixes.
use Rattle.std.specs.Prelude.{ℕ, ◌-◌, Bool, true, false, List, [], ◌∷◌, map}
use Rattle.wire_base.specs.declared.addresses.SystemId.{SystemId}
use Rattle.wire_base.specs.declared.addresses.Mac.{Mac}
use Rattle.wire_base.specs.declared.addresses.Ipv4.{Ipv4}
use Rattle.wire_base.specs.declared.addresses.LspId.{LspId}
use Rattle.wire_base.specs.declared.bsl.Bsl.TheVariants.{B64}
use Rattle.wire_base.specs.declared.conf.Kind.TheVariants.{Mpls}
use Rattle.wire_base.specs.declared.conf.Level.TheVariants.{Two}
use Rattle.wire_base.specs.declared.conf.OwnSub.{OwnSub}
use Rattle.wire_base.specs.declared.conf.SubKind.{SubKind}
use Rattle.wire_base.specs.declared.conf.End.{End}
use Rattle.wire_base.specs.declared.conf.LinkConf.{LinkConf}
use Rattle.wire_base.specs.declared.conf.RouterConf.{RouterConf}
use Rattle.wire_base.specs.model.Configuration.{DomainConf}

abbrev pub system : ℕ → SystemId
system n = record { 0 = 0 ∷ 0 ∷ 0 ∷ 0 ∷ 0 ∷ n ∷ [] }

abbrev pub address : ℕ → Ipv4
address n = record { 0 = 10 ∷ 0 ∷ 0 ∷ n ∷ [] }

abbrev pub lsp : ℕ → LspId
lsp n = record { system = system n; pseudonode = 0; fragment = 0 }

-- the Ethernet address of a router's interface toward another
abbrev pub mac : ℕ → ℕ → Mac
mac n peer = record { 0 = 2 ∷ 0 ∷ 0 ∷ (n - 1) ∷ 0 ∷ (peer - 1) ∷ [] }

abbrev pub end : ℕ → ℕ → End
end n peer = record { peer = system peer; peer_mac = mac peer n; own_mac = mac n peer; metric = 10 }

-- a router's membership of sub-domain 0: its BFR-id, and one label
abbrev pub sub : ℕ → ℕ → OwnSub
sub id label = record { sd = 0; id = id; ranges = record { bsl = B64; max_si = 0; label = label } ∷ [] }

abbrev pub kinds : List SubKind
kinds = record { sd = 0; kind = Mpls } ∷ []

-- a router with a name of one letter, and the routers that its links lead to
abbrev pub router : ℕ → ℕ → Bool → List OwnSub → List ℕ → RouterConf
router letter n overload subs peers =
    record {
      level = Two;
      area = 73 ∷ 0 ∷ 1 ∷ [];
      name = letter ∷ [];
      system = system n;
      prefix = address n;
      overload = overload;
      subs = subs;
      away = [];
      past = [];
      kinds = kinds;
      table = [];
      ends = map (end n) peers;
    }

abbrev pub link : ℕ → ℕ → LinkConf
link n m = record { a = n - 1; b = m - 1 }

-- A and B, connected
abbrev pub pair_a : RouterConf
pair_a = router 65 1 false (sub 1 100 ∷ []) (2 ∷ [])

abbrev pub pair_b : RouterConf
pair_b = router 66 2 false (sub 2 200 ∷ []) (1 ∷ [])

abbrev pub pair : DomainConf
pair = record { routers = pair_a ∷ pair_b ∷ []; links = link 1 2 ∷ [] }

-- A, B, C and D in a ring
abbrev pub ring_a : RouterConf
ring_a = router 65 1 false (sub 1 100 ∷ []) (2 ∷ 4 ∷ [])

abbrev pub ring_b : RouterConf
ring_b = router 66 2 false (sub 2 200 ∷ []) (1 ∷ 3 ∷ [])

abbrev pub ring_c : RouterConf
ring_c = router 67 3 false (sub 3 300 ∷ []) (2 ∷ 4 ∷ [])

abbrev pub ring_d : RouterConf
ring_d = router 68 4 false (sub 4 400 ∷ []) (3 ∷ 1 ∷ [])

abbrev pub ring : DomainConf
ring = record { routers = ring_a ∷ ring_b ∷ ring_c ∷ ring_d ∷ []; links = link 1 2 ∷ link 2 3 ∷ link 3 4 ∷ link 4 1 ∷ [] }

-- A connected to the non-BFR P, and P to C and D
abbrev pub fork_a : RouterConf
fork_a = router 65 1 false (sub 1 100 ∷ []) (2 ∷ [])

abbrev pub fork_p : RouterConf
fork_p = router 80 2 false [] (1 ∷ 3 ∷ 4 ∷ [])

abbrev pub fork_c : RouterConf
fork_c = router 67 3 false (sub 3 300 ∷ []) (2 ∷ [])

abbrev pub fork_d : RouterConf
fork_d = router 68 4 false (sub 4 400 ∷ []) (2 ∷ [])

abbrev pub fork : DomainConf
fork = record { routers = fork_a ∷ fork_p ∷ fork_c ∷ fork_d ∷ []; links = link 1 2 ∷ link 2 3 ∷ link 2 4 ∷ [] }

-- A, B with its overload bit set, and C in a line
abbrev pub line_a : RouterConf
line_a = router 65 1 false (sub 1 100 ∷ []) (2 ∷ [])

abbrev pub line_b : RouterConf
line_b = router 66 2 true (sub 2 200 ∷ []) (1 ∷ 3 ∷ [])

abbrev pub line_c : RouterConf
line_c = router 67 3 false (sub 3 300 ∷ []) (2 ∷ [])

abbrev pub line : DomainConf
line = record { routers = line_a ∷ line_b ∷ line_c ∷ []; links = link 1 2 ∷ link 2 3 ∷ [] }
