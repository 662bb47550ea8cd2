-- Headers of tunnels, with right checksums, and what follows them.
use Rattle.std.specs.Prelude.{ℕ, List, [], ◌∷◌, ◌++◌}
use Rattle.wire_base.specs.declared.conf.Kind.TheVariants.{Mpls}
use Rattle.wire_base.specs.model.Tunnel.{TunnelPacket}
use Rattle.examples_model.specs.Domains.{address}

-- a header before 26 octets
abbrev pub plain : List ℕ
plain =
    69 ∷ 0 ∷ 0 ∷ 46 ∷ 0 ∷ 0 ∷ 64 ∷ 0 ∷ 255 ∷ 47 ∷ 103 ∷ 157 ∷ 10 ∷ 0 ∷ 0 ∷ 1 ∷ 10 ∷ 0 ∷ 0 ∷ 3 ∷ []

-- with another packet after it
abbrev pub more_fragments : List ℕ
more_fragments =
    69 ∷ 0 ∷ 0 ∷ 46 ∷ 0 ∷ 0 ∷ 96 ∷ 0 ∷ 255 ∷ 47 ∷ 71 ∷ 157 ∷ 10 ∷ 0 ∷ 0 ∷ 1 ∷ 10 ∷ 0 ∷ 0 ∷ 3 ∷ []

-- of a fragment
abbrev pub at_an_offset : List ℕ
at_an_offset =
    69 ∷ 0 ∷ 0 ∷ 46 ∷ 0 ∷ 0 ∷ 64 ∷ 1 ∷ 255 ∷ 47 ∷ 103 ∷ 156 ∷ 10 ∷ 0 ∷ 0 ∷ 1 ∷ 10 ∷ 0 ∷ 0 ∷ 3 ∷ []

-- of another protocol
abbrev pub of_tcp : List ℕ
of_tcp =
    69 ∷ 0 ∷ 0 ∷ 46 ∷ 0 ∷ 0 ∷ 64 ∷ 0 ∷ 255 ∷ 6 ∷ 103 ∷ 198 ∷ 10 ∷ 0 ∷ 0 ∷ 1 ∷ 10 ∷ 0 ∷ 0 ∷ 3 ∷ []

-- before two octets
abbrev pub of_22_octets : List ℕ
of_22_octets =
    69 ∷ 0 ∷ 0 ∷ 22 ∷ 0 ∷ 0 ∷ 64 ∷ 0 ∷ 255 ∷ 47 ∷ 103 ∷ 181 ∷ 10 ∷ 0 ∷ 0 ∷ 1 ∷ 10 ∷ 0 ∷ 0 ∷ 3 ∷ []

-- with a total length below the header's
abbrev pub of_19_octets : List ℕ
of_19_octets =
    69 ∷ 0 ∷ 0 ∷ 19 ∷ 0 ∷ 0 ∷ 64 ∷ 0 ∷ 255 ∷ 47 ∷ 103 ∷ 184 ∷ 10 ∷ 0 ∷ 0 ∷ 1 ∷ 10 ∷ 0 ∷ 0 ∷ 3 ∷ []

-- with a type of service, an identification, and without "don't fragment"
abbrev pub of_service : List ℕ
of_service =
    69 ∷ 184 ∷ 0 ∷ 46 ∷ 18 ∷ 52 ∷ 0 ∷ 0 ∷ 255 ∷ 47 ∷ 148 ∷ 177 ∷ 10 ∷ 0 ∷ 0 ∷ 1 ∷ 10 ∷ 0 ∷ 0 ∷ 3 ∷ []

-- a GRE header for MPLS
abbrev pub gre_mpls : List ℕ
gre_mpls = 0 ∷ 0 ∷ 136 ∷ 71 ∷ []

-- a BIER packet
abbrev pub inside : List ℕ
inside =
    0 ∷ 18 ∷ 193 ∷ 8 ∷ 80 ∷ 16 ∷ 0 ∷ 0 ∷ 0 ∷ 4 ∷ 0 ∷ 1 ∷ 0 ∷ 0 ∷ 0 ∷ 0 ∷ 0 ∷ 0 ∷ 0 ∷ 4
    ∷ 0 ∷ 255 ∷ []

abbrev pub whole : List ℕ
whole = plain ++ (gre_mpls ++ inside)

-- its tunnel packet
abbrev pub packet : TunnelPacket
packet = record { src = address 1; dst = address 3; ttl = 255; inner = Mpls; carried = inside }
