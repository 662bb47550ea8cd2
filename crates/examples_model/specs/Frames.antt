-- Frames of the small domains as they are on the wire, and the corresponding items.
use Rattle.std.specs.Prelude.{ℕ, ◌-◌, false, List, [], ◌∷◌, ◌++◌, length, map, take, Option, Some, None}
use Rattle.wire_base.specs.declared.bsl.Bsl.TheVariants.{B64}
use Rattle.wire_base.specs.declared.conf.Kind.TheVariants.{Mpls}
use Rattle.wire_base.specs.declared.conf.RouterConf.{RouterConf}
use Rattle.wire_base.specs.declared.entry.Entry.{Entry}
use Rattle.wire_base.specs.declared.effects.Got.{Got}
use Rattle.wire_base.specs.declared.triple.Triple.{Triple}
use Rattle.wire_base.specs.model.Control.{Control}
use Rattle.wire_base.specs.model.Item.{DataItem, Outer}
use Rattle.examples_model.specs.Domains.{address, fork_a, fork_p, fork_c, fork_d}
use Rattle.examples_model.specs.Views.{all_up, first_lsp}

-- in the ring, a packet for C that A sends to B
abbrev pub ring_a_to_b : List ℕ
ring_a_to_b =
    2 ∷ 0 ∷ 0 ∷ 1 ∷ 0 ∷ 0 ∷ 2 ∷ 0 ∷ 0 ∷ 0 ∷ 0 ∷ 1 ∷ 136 ∷ 71 ∷ 0 ∷ 12
    ∷ 129 ∷ 8 ∷ 80 ∷ 16 ∷ 0 ∷ 0 ∷ 0 ∷ 4 ∷ 0 ∷ 1 ∷ 0 ∷ 0 ∷ 0 ∷ 0 ∷ 0 ∷ 0
    ∷ 0 ∷ 4 ∷ 0 ∷ 255 ∷ []

-- the same with another entropy, to D
abbrev pub ring_a_to_d : List ℕ
ring_a_to_d =
    2 ∷ 0 ∷ 0 ∷ 3 ∷ 0 ∷ 0 ∷ 2 ∷ 0 ∷ 0 ∷ 0 ∷ 0 ∷ 3 ∷ 136 ∷ 71 ∷ 0 ∷ 25
    ∷ 1 ∷ 8 ∷ 80 ∷ 16 ∷ 0 ∷ 1 ∷ 0 ∷ 4 ∷ 0 ∷ 1 ∷ 0 ∷ 0 ∷ 0 ∷ 0 ∷ 0 ∷ 0
    ∷ 0 ∷ 4 ∷ 0 ∷ 255 ∷ []

-- in the fork, a packet for C that A sends in a tunnel, to P
abbrev pub fork_a_to_c : List ℕ
fork_a_to_c =
    2 ∷ 0 ∷ 0 ∷ 1 ∷ 0 ∷ 0 ∷ 2 ∷ 0 ∷ 0 ∷ 0 ∷ 0 ∷ 1 ∷ 8 ∷ 0 ∷ 69 ∷ 0
    ∷ 0 ∷ 46 ∷ 0 ∷ 0 ∷ 64 ∷ 0 ∷ 255 ∷ 47 ∷ 103 ∷ 157 ∷ 10 ∷ 0 ∷ 0 ∷ 1 ∷ 10 ∷ 0
    ∷ 0 ∷ 3 ∷ 0 ∷ 0 ∷ 136 ∷ 71 ∷ 0 ∷ 18 ∷ 193 ∷ 8 ∷ 80 ∷ 16 ∷ 0 ∷ 0 ∷ 0 ∷ 4
    ∷ 0 ∷ 1 ∷ 0 ∷ 0 ∷ 0 ∷ 0 ∷ 0 ∷ 0 ∷ 0 ∷ 4 ∷ 0 ∷ 255 ∷ []

-- the same as P forwards it
abbrev pub fork_p_to_c : List ℕ
fork_p_to_c =
    2 ∷ 0 ∷ 0 ∷ 2 ∷ 0 ∷ 1 ∷ 2 ∷ 0 ∷ 0 ∷ 1 ∷ 0 ∷ 2 ∷ 8 ∷ 0 ∷ 69 ∷ 0
    ∷ 0 ∷ 46 ∷ 0 ∷ 0 ∷ 64 ∷ 0 ∷ 254 ∷ 47 ∷ 104 ∷ 157 ∷ 10 ∷ 0 ∷ 0 ∷ 1 ∷ 10 ∷ 0
    ∷ 0 ∷ 3 ∷ 0 ∷ 0 ∷ 136 ∷ 71 ∷ 0 ∷ 18 ∷ 193 ∷ 8 ∷ 80 ∷ 16 ∷ 0 ∷ 0 ∷ 0 ∷ 4
    ∷ 0 ∷ 1 ∷ 0 ∷ 0 ∷ 0 ∷ 0 ∷ 0 ∷ 0 ∷ 0 ∷ 4 ∷ 0 ∷ 255 ∷ []

-- a packet for D that A sends in a tunnel, to P
abbrev pub fork_a_to_d : List ℕ
fork_a_to_d =
    2 ∷ 0 ∷ 0 ∷ 1 ∷ 0 ∷ 0 ∷ 2 ∷ 0 ∷ 0 ∷ 0 ∷ 0 ∷ 1 ∷ 8 ∷ 0 ∷ 69 ∷ 0
    ∷ 0 ∷ 46 ∷ 0 ∷ 0 ∷ 64 ∷ 0 ∷ 255 ∷ 47 ∷ 103 ∷ 156 ∷ 10 ∷ 0 ∷ 0 ∷ 1 ∷ 10 ∷ 0
    ∷ 0 ∷ 4 ∷ 0 ∷ 0 ∷ 136 ∷ 71 ∷ 0 ∷ 25 ∷ 1 ∷ 8 ∷ 80 ∷ 16 ∷ 0 ∷ 0 ∷ 0 ∷ 4
    ∷ 0 ∷ 1 ∷ 0 ∷ 0 ∷ 0 ∷ 0 ∷ 0 ∷ 0 ∷ 0 ∷ 8 ∷ 0 ∷ 255 ∷ []

-- the frame of A's first LSP in the pair
abbrev pub pair_lsp_frame : List ℕ
pair_lsp_frame =
    9 ∷ 0 ∷ 43 ∷ 0 ∷ 0 ∷ 5 ∷ 2 ∷ 0 ∷ 0 ∷ 0 ∷ 0 ∷ 1 ∷ 0 ∷ 80 ∷ 254 ∷ 254
    ∷ 3 ∷ 131 ∷ 27 ∷ 1 ∷ 0 ∷ 20 ∷ 1 ∷ 0 ∷ 0 ∷ 0 ∷ 77 ∷ 4 ∷ 176 ∷ 0 ∷ 0 ∷ 0
    ∷ 0 ∷ 0 ∷ 1 ∷ 0 ∷ 0 ∷ 0 ∷ 0 ∷ 0 ∷ 1 ∷ 85 ∷ 78 ∷ 3 ∷ 1 ∷ 4 ∷ 3 ∷ 73
    ∷ 0 ∷ 1 ∷ 129 ∷ 1 ∷ 204 ∷ 137 ∷ 1 ∷ 65 ∷ 22 ∷ 11 ∷ 0 ∷ 0 ∷ 0 ∷ 0 ∷ 0 ∷ 2
    ∷ 0 ∷ 0 ∷ 0 ∷ 10 ∷ 0 ∷ 135 ∷ 23 ∷ 0 ∷ 0 ∷ 0 ∷ 0 ∷ 96 ∷ 10 ∷ 0 ∷ 0 ∷ 1
    ∷ 13 ∷ 32 ∷ 11 ∷ 0 ∷ 0 ∷ 0 ∷ 0 ∷ 1 ∷ 1 ∷ 4 ∷ 0 ∷ 16 ∷ 0 ∷ 100 ∷ []

-- and of its first CSNP
abbrev pub pair_csnp_frame : List ℕ
pair_csnp_frame =
    9 ∷ 0 ∷ 43 ∷ 0 ∷ 0 ∷ 5 ∷ 2 ∷ 0 ∷ 0 ∷ 0 ∷ 0 ∷ 1 ∷ 0 ∷ 54 ∷ 254 ∷ 254
    ∷ 3 ∷ 131 ∷ 33 ∷ 1 ∷ 0 ∷ 25 ∷ 1 ∷ 0 ∷ 0 ∷ 0 ∷ 51 ∷ 0 ∷ 0 ∷ 0 ∷ 0 ∷ 0
    ∷ 1 ∷ 0 ∷ 0 ∷ 0 ∷ 0 ∷ 0 ∷ 0 ∷ 0 ∷ 0 ∷ 0 ∷ 255 ∷ 255 ∷ 255 ∷ 255 ∷ 255 ∷ 255
    ∷ 255 ∷ 255 ∷ 9 ∷ 16 ∷ 4 ∷ 176 ∷ 0 ∷ 0 ∷ 0 ∷ 0 ∷ 0 ∷ 1 ∷ 0 ∷ 0 ∷ 0 ∷ 0
    ∷ 0 ∷ 1 ∷ 85 ∷ 78 ∷ []

abbrev pub set_0 : Triple
set_0 = record { sd = 0; bsl = B64; si = 0 }

-- a copy of injection 1 at A, for a list of ids, with the target's label
abbrev pub copy : ℕ → ℕ → List ℕ → Option Outer → DataItem
copy entropy label ids outer =
    record {
      number = 1;
      entropy = entropy;
      bfir = 1;
      payload = 0 ∷ 255 ∷ [];
      triple = set_0;
      kind = Mpls;
      bift = label;
      ids = ids;
      ttl = 8;
      outer = outer;
    }

-- a tunnel from A to another router, with its TTL
abbrev pub from_a : ℕ → ℕ → Option Outer
from_a n ttl = Some (record { src = address 1; dst = address n; ttl = ttl })

-- a router with all its interfaces up, and an LSDB
abbrev pub settled : RouterConf → List Entry → Control
settled r entries =
    record {
      conf = r;
      flood = record { own = r.system; up = take (length r.ends) all_up; due = []; rows = [] };
      entries = entries;
      spent = false;
    }

abbrev pub fork_lsps : List Entry
fork_lsps = first_lsp fork_a ∷ first_lsp fork_p ∷ first_lsp fork_c ∷ first_lsp fork_d ∷ []

-- a frame with another last octet
abbrev pub ending : ℕ → List ℕ → List ℕ
ending octet frame = take (length frame - 1) frame ++ octet ∷ []

-- the copy for C that B forwards, with that TTL
abbrev pub onward : ℕ → DataItem
onward ttl = record (copy 0 300 (3 ∷ []) None) { ttl = ttl }

abbrev pub got_3 : Got
got_3 = record { sd = 0; id = 3; bfir = 1; entropy = 0; proto = 4; payload = 0 ∷ 255 ∷ [] }

-- a copy at B whose TTL expires there
abbrev pub at_1 : List ℕ → DataItem
at_1 ids = record (copy 0 200 ids None) { ttl = 1 }

-- a router whose interfaces are down
abbrev pub down : RouterConf → Control
down r = record (settled r []) { flood = record { own = r.system; up = map (λ e. false) r.ends; due = []; rows = [] } }
