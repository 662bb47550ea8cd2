-- The view once it is renewed.
use Rattle.std.proofs.Common.{◌≡◌, Bool, true, List, ◌∷◌, map, sym, ap, subst, ◌∙◌}
use Rattle.wire_base.specs.declared.conf.RouterConf.{RouterConf}
use Rattle.wire_base.specs.declared.conf.SubKind.{SubKind}
use Rattle.wire_base.specs.declared.entry.Entry.{Entry}
use Rattle.wire_base.specs.declared.addresses.SystemId.{SystemId}
use Rattle.wire_base.specs.declared.view.ViewNode.{ViewNode}
use Rattle.wire_base.specs.model.Control.{AreAscending, IsDatabase, ids_of}
use Rattle.wire_base.specs.model.View.{Claim, claims_of, with_known, nodes_of, view_of}
use Rattle.view_graph.specs.declared.patch.NewNode.{NewNode}
use Rattle.view_graph.specs.Keep.{Keep, IsKept, IsUnchanged, heard, without_system}
use Rattle.view_graph.specs.Renewal.{AreTurning, IsPatch, put_all, said_now}
use Rattle.view_graph.proofs.GraphLaws.{claims_in_order, few_claims}
use Rattle.view_graph.proofs.KeepLaws.{heard_is, now_is, unnamed_now}
use Rattle.view_graph.proofs.PatchLaws.{IsBase, patch_turns, patch_whole}

-- what all systems claim now
abbrev pub claims_now : RouterConf → List Bool → List Entry → List Claim
claims_now r up es = map (with_known r.kinds) (claims_of r up es)

pub nodes_now : (r : RouterConf) (up : List Bool) (es : List Entry) (nodes : List ViewNode) → nodes ≡ nodes_of (claims_now r up es) → nodes ≡ view_of r up es
unfolding view_of
nodes_now r up es nodes made = made

pub base_now : (k : Keep) (r : RouterConf) (up : List Bool) (es : List Entry) (system : SystemId) (kinds : List SubKind) (others : List Claim) (is_whole : Bool) (nodes : List ViewNode) (changed : List SystemId)
    → record { nodes = nodes; system = system; kinds = kinds; others = others } ≡ k → r.system ≡ k.system → r.kinds ≡ k.kinds → IsUnchanged k changed es → AreAscending (ids_of es) → is_whole ≡ true → (kept : IsKept system others is_whole nodes)
    → IsBase kept.claims (claims_now r up es) nodes (said_now r up es) (r.system ∷ changed)
base_now k r up es system kinds others is_whole nodes changed view own own_kinds unchanged asc whole kept =
    record {
      order = kept.in_order;
      order_now = claims_in_order r up es asc;
      made = kept.made;
      whole = kept.whole whole;
      unnamed = unnamed_now k r up es system kinds kept.claims nodes changed (ap (λ (cs : List Claim). record { nodes = nodes; system = system; kinds = kinds; others = cs }) kept.heard ∙ view) own own_kinds unchanged;
      said_now = now_is r up es;
    }

pub patch_seen : (r : RouterConf) (up : List Bool) (es : List Entry) (nodes seen : List ViewNode) (systems : List SystemId) (anew : List NewNode) → seen ≡ nodes → IsPatch (said_now r up es) seen systems anew → IsPatch (said_now r up es) nodes systems anew
patch_seen r up es nodes seen systems anew view patch = subst (λ (ns : List ViewNode). IsPatch (said_now r up es) ns systems anew) view patch

-- what the nodes made anew turn the view into
pub turned_now : (r : RouterConf) (up : List Bool) (es : List Entry) (claims : List Claim) (nodes seen : List ViewNode) (systems : List SystemId) (anew : List NewNode)
    → IsBase claims (claims_now r up es) nodes (said_now r up es) systems → seen ≡ nodes → IsPatch (said_now r up es) seen systems anew → AreTurning nodes (nodes_of (claims_now r up es)) anew
turned_now r up es claims nodes seen systems anew base view patch = patch_turns claims (claims_now r up es) nodes (said_now r up es) systems anew base (patch_seen r up es nodes seen systems anew view patch)

-- what is kept once they are in their places
pub kept_now : (r : RouterConf) (up : List Bool) (es : List Entry) (system : SystemId) (others : List Claim) (is_whole : Bool) (claims : List Claim) (nodes seen now : List ViewNode) (systems : List SystemId) (anew : List NewNode)
    → IsBase claims (claims_now r up es) nodes (said_now r up es) systems → seen ≡ nodes → IsPatch (said_now r up es) seen systems anew → IsDatabase es → system ≡ r.system → others ≡ heard r.system r.kinds es → now ≡ put_all anew nodes → IsKept system others is_whole now
kept_now r up es system others is_whole claims nodes seen now systems anew base view patch database own all put =
    let found = patch_seen r up es nodes seen systems anew view patch in
    let made : now ≡ nodes_of (claims_now r up es) = put ∙ (turned_now r up es claims nodes seen systems anew base view patch).turned in
    record {
      claims = claims_now r up es;
      in_order = base.order_now;
      few = few_claims r up es database.few;
      made = made;
      heard = ap (λ (s : SystemId). without_system s (claims_now r up es)) own ∙ heard_is r up es ∙ sym all;
      whole = λ _. ap (map (λ (n : ViewNode). n.subs)) made ∙ patch_whole claims (claims_now r up es) nodes (said_now r up es) systems anew base found;
    }
