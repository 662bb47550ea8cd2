-- The routers of the generated domain.
use Rattle.std.specs.Prelude.{ℕ, ◌+◌, ◌/◌, ◌%◌, ◌==◌, nat_lt, false, List, [], ◌∷◌, filter_map, Option, Some, None, if◌then◌else◌}
use Rattle.std.specs.Fmt.{decimal}
use Rattle.byteorder.specs.Endian.{big_bytes}
use Rattle.wire_base.specs.declared.addresses.SystemId.{SystemId}
use Rattle.wire_base.specs.declared.addresses.Ipv4.{Ipv4}
use Rattle.wire_base.specs.declared.bsl.Bsl.TheVariants.{B256}
use Rattle.wire_base.specs.declared.conf.End.{End}
use Rattle.wire_base.specs.declared.conf.Kind.TheVariants.{Mpls}
use Rattle.wire_base.specs.declared.conf.LabelRange.{LabelRange}
use Rattle.wire_base.specs.declared.conf.Level.TheVariants.{Two}
use Rattle.wire_base.specs.declared.conf.OwnSub.{OwnSub}
use Rattle.wire_base.specs.declared.conf.RouterConf.{RouterConf}
use Rattle.wire_base.specs.declared.conf.SubKind.{SubKind}
use Rattle.domain_conf.specs.Forms.{system_of, prefix_of}
use Rattle.domain_conf.specs.Links.{made_mac}
use Rattle.grown_domain.specs.declared.links.Link.{Link}

-- r0, r1, and so on
abbrev pub name : ℕ → List ℕ
name i = 114 ∷ decimal i

-- i + 1 in six octets
abbrev pub system : ℕ → SystemId
system i = system_of (big_bytes 6 (i + 1))

-- 10.0.0.1, 10.0.0.2, and so on; 10.0.0.255 is followed by 10.0.1.0
abbrev pub prefix : ℕ → Ipv4
prefix i = prefix_of (10 ∷ 0 ∷ ((i + 1) / 256) ∷ ((i + 1) % 256) ∷ [])

-- the area of a domain file that has none, 49.0001
abbrev pub area : List ℕ
area = 73 ∷ 0 ∷ 1 ∷ []

-- the last set of n BFR-ids: the first one if it has them all, or else the fourth
abbrev pub last_set : ℕ → ℕ
last_set n = if nat_lt 256 n then 3 else 0

-- of n routers: labels from 16,000 on for packets of 256 bits
abbrev pub range : ℕ → LabelRange
range n = record { bsl = B256; max_si = last_set n; label = 16000 }

-- sub-domain 0, with the BFR-id i + 1
abbrev pub own_sub : (n i : ℕ) → OwnSub
own_sub n i = record { sd = 0; id = i + 1; ranges = range n ∷ [] }

abbrev pub kind : SubKind
kind = record { sd = 0; kind = Mpls }

-- The interface of one router toward another, with the Ethernet addresses of a domain file that has none.
abbrev pub end_toward : (own peer metric : ℕ) → End
end_toward own peer metric = record { peer = system peer; peer_mac = made_mac peer own; own_mac = made_mac own peer; metric = metric }

-- a router's interface on a link, if the link joins that router
abbrev pub end_of : ℕ → Link → Option End
end_of i l =
    if l.a == i then Some (end_toward l.a l.b l.metric) else
    if l.b == i then Some (end_toward l.b l.a l.metric) else
    None

-- router i of a domain of n routers with those links
abbrev pub router : List Link → (n i : ℕ) → RouterConf
router links n i =
    record {
      level = Two;
      area = area;
      name = name i;
      system = system i;
      prefix = prefix i;
      overload = false;
      subs = own_sub n i ∷ [];
      away = [];
      past = [];
      kinds = kind ∷ [];
      table = [];
      ends = filter_map (end_of i) links;
    }
