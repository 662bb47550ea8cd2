-- What all systems advertise is what an LSDB contains, where it contains what the router itself advertises.
use Rattle.std.proofs.Common.{◌≡◌, Bool, true, false, if◌then◌else◌, List, [], ◌∷◌, map, filter, Some, slice_get, refl, sym, ap, ◌∙◌}
use Rattle.std.specs.List.{AllByRecursion}
use Rattle.std.proofs.lemmas.Bool.{eqb-true}
use Rattle.wire_base.specs.declared.addresses.SystemId.{SystemId}
use Rattle.wire_base.specs.declared.conf.RouterConf.{RouterConf}
use Rattle.wire_base.specs.declared.conf.SubKind.{SubKind}
use Rattle.wire_base.specs.declared.entry.Entry.{Entry}
use Rattle.wire_base.specs.declared.view.ViewNode.{ViewNode}
use Rattle.wire_base.specs.model.Control.{AreAscending, IsDatabase, ids_of, is_below, same_system}
use Rattle.wire_base.specs.model.View.{Claim, claim_of, claims_of, own_claim, with_known}
use Rattle.lsp_store.specs.Topologies.{is_first, seen_claims}
use Rattle.view_graph.specs.Edges.{AreInOrder, is_before}
use Rattle.view_graph.specs.Keep.{AreNodesOf, IsKept, heard, is_first_of, said_by, said_in}
use Rattle.view_graph.specs.Renewal.{said_now}
use Rattle.view_graph.proofs.FragmentLaws.{same_is}
use Rattle.view_graph.proofs.GraphLaws.{and_both, claims_in_order, few_claims, fragments_below}
use Rattle.view_graph.proofs.KeepLaws.{heard_is, now_is, same_claims}

-- what the systems of some entries advertise
unfoldable among : List SubKind → List Entry → List Entry → List Claim
among kinds all es = map (with_known kinds) (map (claim_of all) (filter is_first es))

record IsZero (e : Entry) : Type 0 where
  pub pseudonode : e.id.pseudonode ≡ 0
  pub fragment : e.id.fragment ≡ 0

zero_of : (e : Entry) → is_first e ≡ true → IsZero e
zero_of e h =
    let a = and_both _ _ h in
    let b = and_both _ _ a.1 in
    record { pseudonode = eqb-true _ 0 a.0; fragment = eqb-true _ 0 b.0 }

all_above : (kinds : List SubKind) (all : List Entry) (e : Entry) → IsZero e → (es : List Entry) → AllByRecursion (λ y. is_below e.id y ≡ true) (ids_of es) → AllByRecursion (λ d. is_before e.id.system d.system ≡ true) (among kinds all es)
unfolding among
all_above kinds all e first [] above = tt
all_above kinds all e first (x ∷ xs) above = by (is_first x) refl (all_above kinds all e first xs above.1)
  where
    by : (b : Bool) → is_first x ≡ b → AllByRecursion (λ d. is_before e.id.system d.system ≡ true) (among kinds all xs) → AllByRecursion (λ d. is_before e.id.system d.system ≡ true) (among kinds all (x ∷ xs))
    by true h more = rw h (let f = zero_of x h in (fragments_below e.id x.id first.pseudonode f.pseudonode first.fragment f.fragment above.0, more))
    by false h more = rw h more

in_order : (kinds : List SubKind) (all es : List Entry) → AreAscending (ids_of es) → AreInOrder (among kinds all es)
unfolding among
in_order kinds all [] asc = tt
in_order kinds all (x ∷ xs) asc = by (is_first x) refl (in_order kinds all xs asc.1)
  where
    by : (b : Bool) → is_first x ≡ b → AreInOrder (among kinds all xs) → AreInOrder (among kinds all (x ∷ xs))
    by true h more = rw h (all_above kinds all x (zero_of x h) xs asc.0, more)
    by false h more = rw h more

said_among : (kinds : List SubKind) (all es : List Entry) (s : SystemId) → said_by (among kinds all es) s ≡ slice_get (map (with_known kinds) (map (claim_of all) (filter (is_first_of s) es))) 0
unfolding among
said_among kinds all [] s = refl
said_among kinds all (e ∷ es) s = by (same_system e.id.system s) refl (is_first e) refl (said_among kinds all es s)
  where
    by : (a : Bool) → same_system e.id.system s ≡ a → (b : Bool) → is_first e ≡ b → said_by (among kinds all es) s ≡ slice_get (map (with_known kinds) (map (claim_of all) (filter (is_first_of s) es))) 0
        → said_by (among kinds all (e ∷ es)) s ≡ slice_get (map (with_known kinds) (map (claim_of all) (filter (is_first_of s) (e ∷ es)))) 0
    by true h true k more = rw (k, h) refl
    by true h false k more = rw (k, h) more
    by false h true k more = rw (k, h) more
    by false h false k more = rw (k, h) more

said_seen : (kinds : List SubKind) (es : List Entry) (s : SystemId) → said_by (seen_claims kinds es) s ≡ said_in kinds es s
unfolding seen_claims said_in among
said_seen kinds es s = said_among kinds es es s

seen_in_order : (kinds : List SubKind) (es : List Entry) → AreAscending (ids_of es) → AreInOrder (seen_claims kinds es)
unfolding seen_claims among
seen_in_order kinds es asc = in_order kinds es es asc

now_said : (r : RouterConf) (up : List Bool) (es : List Entry) (s : SystemId) → said_in r.kinds es r.system ≡ Some (with_known r.kinds (own_claim r up)) → said_now r up es s ≡ said_in r.kinds es s
unfolding said_now
now_said r up es s own = by (same_system s r.system) refl
  where
    by : (b : Bool) → same_system s r.system ≡ b → (if same_system s r.system then Some (with_known r.kinds (own_claim r up)) else said_in r.kinds es s) ≡ said_in r.kinds es s
    by true h = rw h (sym own ∙ ap (said_in r.kinds es) (sym (same_is s r.system h)))
    by false h = rw h refl

-- where an LSDB contains what the router itself advertises, all claims are those in the LSDB
pub claims_seen : (r : RouterConf) (up : List Bool) (es : List Entry) → AreAscending (ids_of es) → said_in r.kinds es r.system ≡ Some (with_known r.kinds (own_claim r up)) → map (with_known r.kinds) (claims_of r up es) ≡ seen_claims r.kinds es
claims_seen r up es asc own =
    same_claims (map (with_known r.kinds) (claims_of r up es)) (seen_claims r.kinds es) (claims_in_order r up es asc) (seen_in_order r.kinds es asc)
    (λ s. now_is r up es s ∙ now_said r up es s own ∙ sym (said_seen r.kinds es s))

-- what is kept of the topology that all claims make
pub made_kept : (r : RouterConf) (up : List Bool) (es : List Entry) (others : List Claim) (nodes : List ViewNode) (is_whole : Bool)
    → IsDatabase es → AreNodesOf (map (with_known r.kinds) (claims_of r up es)) nodes is_whole → others ≡ heard r.system r.kinds es → IsKept r.system others is_whole nodes
made_kept r up es others nodes is_whole base are all =
    record {
      claims = map (with_known r.kinds) (claims_of r up es);
      in_order = claims_in_order r up es base.in_order;
      few = few_claims r up es base.few;
      made = are.made;
      heard = heard_is r up es ∙ sym all;
      whole = are.whole;
    }
