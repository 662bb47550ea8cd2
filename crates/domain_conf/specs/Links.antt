-- The entries of `link`: which routers are joined.
use Rattle.std.specs.Prelude.{ℕ, ◌/◌, ◌%◌, Bool, ◌==◌, ◌&&◌, ◌||◌, List, [], ◌∷◌, Result, Ok, Err, codes}
use Rattle.std.specs.List.{list_any}
use Rattle.std.specs.Str.{bytes_eq}
use Rattle.toml.specs.Data.{Data, get, as_str}
use Rattle.wire_base.specs.declared.addresses.Mac.{Mac}
use Rattle.wire_base.specs.declared.conf.LinkConf.{LinkConf}
use Rattle.wire_base.specs.model.Configuration.{same_pair}
use Rattle.wire_base.specs.model.Fields.{◌>>=◌}
use Rattle.domain_conf.specs.declared.fault.ConfFault.{ConfFault}
use Rattle.domain_conf.specs.declared.fault.ConfFault.TheVariants as fault
use Rattle.domain_conf.specs.declared.routers.RouterEntry.{RouterEntry}
use Rattle.domain_conf.specs.declared.links.LinkEntry.{LinkEntry}
use Rattle.domain_conf.specs.Reading.{refuse_if}
use Rattle.domain_conf.specs.Fields.{entry_path, known_keys, field, number, or_default}
use Rattle.domain_conf.specs.Forms.{mac_of, mac_in}
use Rattle.domain_conf.specs.Routers.{known_router}

-- an index as two octets
abbrev pub place_octets : ℕ → List ℕ → List ℕ
place_octets place rest = (place / 256) ∷ (place % 256) ∷ rest

-- the Ethernet address of a router's interface toward a peer if the file has none: 02:00, the router's index and the
-- peer's index
unfoldable pub made_mac : ℕ → ℕ → Mac
made_mac own peer = mac_of (2 ∷ 0 ∷ place_octets own (place_octets peer []))

abbrev pub mac_or_made : Mac → (List ℕ → List ℕ) → List ℕ → Data → Result Mac ConfFault
mac_or_made made at key d = or_default made (field as_str mac_in (at key)) (get key d)

-- the two routers that a link joins
abbrev pub link_of : LinkEntry → LinkConf
link_of l = record { a = l.a; b = l.b }

abbrev pub same_routers : LinkEntry → LinkEntry → Bool
same_routers l m = same_pair (link_of l) (link_of m)

-- whether a router has a peer with that Ethernet address on a link
abbrev pub has_peer_mac : ℕ → Mac → LinkEntry → Bool
has_peer_mac router mac l =
    ((l.a == router) && bytes_eq l.mac_b.0 mac.0) || ((l.b == router) && bytes_eq l.mac_a.0 mac.0)

-- A link joins two different routers, which no other link joins. No router has two peers with the same Ethernet
-- address.
abbrev pub new_link : (List ℕ → List ℕ) → List LinkEntry → LinkEntry → Result LinkEntry ConfFault
new_link at earlier l = do
  _ ← refuse_if (l.a == l.b) (fault.Reference (at (codes "b")))
  _ ← refuse_if (list_any (same_routers l) earlier) (fault.Duplicate (at (codes "b")))
  _ ← refuse_if (list_any (has_peer_mac l.b l.mac_a) earlier) (fault.Duplicate (at (codes "mac_a")))
  _ ← refuse_if (list_any (has_peer_mac l.a l.mac_b) earlier) (fault.Duplicate (at (codes "mac_b")))
  Ok l

-- what an entry describes of the link between those two routers
unfoldable pub link_between : (List ℕ → List ℕ) → List LinkEntry → ℕ → ℕ → Data → Result LinkEntry ConfFault
link_between at earlier a b d = do
  metric_ab ← number 1 16777214 at (codes "metric_ab") d
  metric_ba ← number 1 16777214 at (codes "metric_ba") d
  mac_a ← mac_or_made (made_mac a b) at (codes "mac_a") d
  mac_b ← mac_or_made (made_mac b a) at (codes "mac_b") d
  new_link at earlier (record { a = a; b = b; metric_ab = metric_ab; metric_ba = metric_ba; mac_a = mac_a; mac_b = mac_b })

abbrev pub link_in : (List ℕ → List ℕ) → List RouterEntry → List LinkEntry → Data → Result LinkEntry ConfFault
link_in at routers earlier d = do
  _ ← known_keys at (codes "a" ∷ codes "b" ∷ codes "metric_ab" ∷ codes "metric_ba" ∷ codes "mac_a" ∷ codes "mac_b" ∷ []) d
  a ← known_router routers at (codes "a") d
  b ← known_router routers at (codes "b") d
  link_between at earlier a b d

unfoldable pub link_at : List RouterEntry → List LinkEntry → ℕ → Data → Result LinkEntry ConfFault
link_at routers earlier i d = link_in (entry_path (codes "link") i) routers earlier d
