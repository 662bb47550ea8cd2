-- The topology of a router follows from what its LSDB says.
use Rattle.std.proofs.Common.{◌≡◌, List, map, sym, ap, ◌∙◌}
use Rattle.wire_base.specs.declared.conf.SubKind.{SubKind}
use Rattle.wire_base.specs.model.Configuration.{IsSound}
use Rattle.wire_base.specs.model.Control.{AreAscending, Control, ids_of}
use Rattle.wire_base.specs.model.View.{Claim, control_view, nodes_of, view_of, with_known}
use Rattle.laws_quiet.proofs.ClaimLaws.{claims_are}
use Rattle.laws_quiet.proofs.OwnLaws.{HasOwnLsp}
use Rattle.laws_quiet.proofs.SaidLaws.{claims_in, claims_same, said_in}

pub view_said : (c : Control) → IsSound c.conf → AreAscending (ids_of c.entries) → HasOwnLsp c.conf c.flood.up c.entries → control_view c ≡ nodes_of (map (with_known c.conf.kinds) (claims_in c.entries))
unfolding view_of
view_said c sound asc own = ap (λ (cs : List Claim). nodes_of (map (with_known c.conf.kinds) cs)) (claims_are c.conf c.flood.up c.entries sound asc own)

-- two routers of one domain whose LSDBs say the same have one topology
pub same_topology : (c d : Control) → IsSound c.conf → IsSound d.conf → AreAscending (ids_of c.entries) → AreAscending (ids_of d.entries) → HasOwnLsp c.conf c.flood.up c.entries → HasOwnLsp d.conf d.flood.up d.entries
    → c.conf.kinds ≡ d.conf.kinds → said_in c.entries ≡ said_in d.entries → control_view c ≡ control_view d
same_topology c d sound its asc bsc own others kinds said =
    view_said c sound asc own
    ∙ ap (λ (ks : List SubKind). nodes_of (map (with_known ks) (claims_in c.entries))) kinds
    ∙ ap (λ (cs : List Claim). nodes_of (map (with_known d.conf.kinds) cs)) (claims_same c.entries d.entries said)
    ∙ sym (view_said d its bsc others)
