-- A domain at rest is quiet, and packets reach three BFR-ids.
use Rattle.std.proofs.Common.{◌≡◌, ℕ, ◌<◌, Bool, true, false, List, map, Option, Some, None, refl, ap, subst, ◌∙◌}
use mathlib.Core.Bool.{false≢true}
use Rattle.std.specs.List.{AllByRecursion}
use Rattle.std.proofs.lemmas.Bool.{and_from, eq-eqb}
use Rattle.wire_base.specs.declared.addresses.LspId.{LspId}
use Rattle.wire_base.specs.declared.conf.RouterConf.{RouterConf}
use Rattle.wire_base.specs.declared.entry.Entry.{Entry}
use Rattle.wire_base.specs.model.Control.{entry_in, same_system}
use Rattle.wire_base.specs.model.Hop.{has}
use Rattle.domain_model.specs.Step.{happens}
use Rattle.laws_router.proofs.EntryLaws.{bytes_self}
use Rattle.domain_model.proofs.FlagLaws.{found_each, found_id, same_id_is}
use Rattle.laws_ledger.specs.Runs.{unlined}
use Rattle.laws_router.specs.State.{IsIssued, IssuesAlone}
use Rattle.quiet_domain.specs.Live.{AreSameLive, alike_by, are_alike, has_same, is_live, is_same}
use Rattle.quiet_domain.specs.Way.{links_over, way_to}
use Rattle.laws_quiet.specs.Cover.{AreTakes, IsCoveredAt, covers_id}
use Rattle.laws_quiet.specs.Quiet.{AreIssuers, IsQuiet}
use Rattle.examples_domain.specs.Branch.{at_rest, branch, branch_a, branch_b, branch_c, branch_p, enters, lsps, rest, taken, the_injection}
use Rattle.examples_domain.proofs.BranchLaws.{rest_true}
use Rattle.examples_domain.proofs.CarriedLaws.{carried_own}
use Rattle.examples_domain.proofs.OnLiterals.{hops_on_literals, runs_on_literals, views_on_literals}

-- ---- each router's own LSP is what it originates

-- an LSP of a router, seen by a router with that configuration
IsMine : RouterConf → Entry → Type 0
IsMine r e = 0 < e.life → same_system e.id.system r.system ≡ true → IsIssued r (rest r).flood.up false e.id e

another : {P : Type 0} → false ≡ true → P
another h = absurd (false≢true h)

own_a : AllByRecursion (IsMine branch_a) lsps
unfolding views_on_literals IsMine
own_a = (λ live mine. record { unspent = refl; fragment = refl; flags = refl; content = refl }, (λ live mine. another mine, (λ live mine. another mine, (λ live mine. another mine, tt))))

own_b : AllByRecursion (IsMine branch_b) lsps
unfolding views_on_literals IsMine
own_b = (λ live mine. another mine, (λ live mine. record { unspent = refl; fragment = refl; flags = refl; content = refl }, (λ live mine. another mine, (λ live mine. another mine, tt))))

own_p : AllByRecursion (IsMine branch_p) lsps
unfolding views_on_literals IsMine
own_p = (λ live mine. another mine, (λ live mine. another mine, (λ live mine. record { unspent = refl; fragment = refl; flags = refl; content = refl }, (λ live mine. another mine, tt))))

own_c : AllByRecursion (IsMine branch_c) lsps
unfolding views_on_literals IsMine
own_c = (λ live mine. another mine, (λ live mine. another mine, (λ live mine. another mine, (λ live mine. record { unspent = refl; fragment = refl; flags = refl; content = refl }, tt))))

issuer : (r : RouterConf) → AllByRecursion (IsMine r) lsps → IssuesAlone (rest r)
unfolding IsMine
issuer r own = record {
  each = λ id e found live mine.
      let here = same_id_is e.id id (found_id lsps id e found) in
      subst (λ (i : LspId). IsIssued r (rest r).flood.up false i e) here
      (found_each (IsMine r) lsps id e own found live (ap (λ (i : LspId). same_system i.system r.system) here ∙ mine));
}

issuers : AreIssuers (map rest branch.routers)
issuers = (issuer branch_a own_a, (issuer branch_b own_b, (issuer branch_p own_p, (issuer branch_c own_c, tt))))

-- ---- the domain is quiet

same_self : (e : Entry) → has_same e e ≡ true
same_self e = and_from _ _ (eq-eqb e.seq e.seq refl) (and_from _ _ (eq-eqb e.flags e.flags refl) (bytes_self e.content))

alike_self : (e : Entry) → are_alike e e ≡ true
alike_self e = by (is_live e)
  where
    by : (b : Bool) → alike_by b b (has_same e e) ≡ true
    by true = same_self e
    by false = refl

same_lsps : (es : List Entry) → AreSameLive es es
same_lsps es id = by (entry_in es id)
  where
    by : (o : Option Entry) → is_same o o ≡ true
    by None = refl
    by (Some e) = alike_self e

quiet : IsQuiet at_rest
quiet = record {
  unspent = (refl, (refl, (refl, (refl, tt))));
  links = (record { whole = refl; same = λ up. same_lsps lsps }, (record { whole = refl; same = λ up. same_lsps lsps }, (record { whole = refl; same = λ up. same_lsps lsps }, tt)));
}

-- ---- packets reach the BFR-ids

takes : AreTakes 1 (happens at_rest enters.1).world (unlined taken)
unfolding views_on_literals hops_on_literals runs_on_literals
takes = (refl, (refl, (refl, tt)))

covered : (k : ℕ) → has the_injection.ids k ≡ true → covers_id (rest branch_a) 0 the_injection.bsl 8 0 k ≡ true → IsCoveredAt at_rest enters.1 (unlined taken) (rest branch_a) 1 k the_injection
covered k named reached = record {
  truth = rest_true;
  issuers = issuers;
  quiet = quiet;
  allowed = carried_own.allowed;
  enters = refl;
  names = named;
  ingress = refl;
  covered = reached;
  takes = takes;
}

pub covered_own : IsCoveredAt at_rest enters.1 (unlined taken) (rest branch_a) 1 1 the_injection
unfolding views_on_literals hops_on_literals runs_on_literals way_to links_over
covered_own = covered 1 refl refl

pub covered_neighbor : IsCoveredAt at_rest enters.1 (unlined taken) (rest branch_a) 1 2 the_injection
unfolding views_on_literals hops_on_literals runs_on_literals way_to links_over
covered_neighbor = covered 2 refl refl

pub covered_tunnel : IsCoveredAt at_rest enters.1 (unlined taken) (rest branch_a) 1 4 the_injection
unfolding views_on_literals hops_on_literals runs_on_literals way_to links_over
covered_tunnel = covered 4 refl refl
