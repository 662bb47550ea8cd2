-- The topology of an LSDB, which is the same for each router that has this LSDB.
use Rattle.std.specs.Prelude.{◌==◌, ◌&&◌, nat_lt, Bool, List, map, filter, if◌then◌else◌}
use Rattle.wire_base.specs.declared.conf.SubKind.{SubKind}
use Rattle.wire_base.specs.declared.entry.Entry.{Entry}
use Rattle.wire_base.specs.declared.view.ViewNode.{ViewNode}
use Rattle.wire_base.specs.model.View.{Claim, claim_of, with_known}

-- a live fragment 0
abbrev pub is_first : Entry → Bool
is_first e = (e.id.pseudonode == 0) && ((e.id.fragment == 0) && nat_lt 0 e.life)

-- what each system with a live fragment 0 advertises in an LSDB, in the order of the systems
unfoldable pub seen_claims : List SubKind → List Entry → List Claim
seen_claims kinds entries = map (with_known kinds) (map (claim_of entries) (filter is_first entries))

-- an entry with only what topologies depend on
abbrev pub as_read : Entry → Entry
as_read e = record e { seq = 0; life = (if nat_lt 0 e.life then 1 else 0); hold = 0; sum = 0 }

-- How contracts model a noted topology: the kinds of sub-domains and the LSDB that it follows from, and its nodes.
pub record NotedView : Type 0 where
  pub kinds : List SubKind
  pub entries : List Entry
  pub nodes : List ViewNode
