-- A domain that has converged, in which a packet reaches one egress directly and one over a tunnel.
use Rattle.std.specs.Prelude.{ℕ, true, false, List, [], ◌∷◌, map}
use Rattle.wire_base.specs.declared.bsl.Bsl.TheVariants.{B64}
use Rattle.wire_base.specs.declared.conf.RouterConf.{RouterConf}
use Rattle.wire_base.specs.declared.entry.Entry.{Entry}
use Rattle.wire_base.specs.declared.view.ViewNode.{ViewNode}
use Rattle.wire_base.specs.model.Configuration.{DomainConf}
use Rattle.wire_base.specs.model.Control.{Control}
use Rattle.wire_base.specs.model.Item.{DataItem}
use Rattle.wire_base.specs.model.OwnLsp.{own_lsp}
use Rattle.replay_text.specs.declared.event.Event.{Event}
use Rattle.replay_text.specs.declared.event.Event.TheVariants.{Inject, Take}
use Rattle.examples_model.specs.Domains.{router, sub, link}
use Rattle.examples_model.specs.Frames.{copy, from_a}
use Rattle.examples_model.specs.Views as views
use Rattle.domain_model.specs.World.{WorldState, no_flights}
use Rattle.domain_model.specs.Run.{Run}
use Rattle.laws_ledger.specs.Ledger.{Injection}

-- A joined to B and to P; P, a non-BFR, joined to C
abbrev pub branch_a : RouterConf
branch_a = router 65 1 false (sub 1 100 ∷ []) (2 ∷ 3 ∷ [])

abbrev pub branch_b : RouterConf
branch_b = router 66 2 false (sub 2 200 ∷ []) (1 ∷ [])

abbrev pub branch_p : RouterConf
branch_p = router 80 3 false [] (1 ∷ 4 ∷ [])

abbrev pub branch_c : RouterConf
branch_c = router 67 4 false (sub 4 400 ∷ []) (3 ∷ [])

abbrev pub branch : DomainConf
branch = record { routers = branch_a ∷ branch_b ∷ branch_p ∷ branch_c ∷ []; links = link 1 2 ∷ link 1 3 ∷ link 3 4 ∷ [] }

-- each LSDB has all LSPs
abbrev pub lsp_of : RouterConf → Entry
lsp_of r = own_lsp r (map (λ e. true) r.ends) 1

abbrev pub lsps : List Entry
lsps = lsp_of branch_a ∷ lsp_of branch_b ∷ lsp_of branch_p ∷ lsp_of branch_c ∷ []

-- with all interfaces up, and nothing to send
abbrev pub rest : RouterConf → Control
rest r =
    record {
      conf = r;
      flood = record { own = r.system; up = map (λ e. true) r.ends; due = map (λ e. false) r.ends; rows = [] };
      entries = lsps;
      spent = false;
    }

abbrev pub at_rest : WorldState
at_rest = record { domain = branch; routers = map rest branch.routers; flights = no_flights branch.routers; injections = 0; events = 0 }

-- the topology of all
abbrev pub branch_view : List ViewNode
branch_view =
    views.node 1 false (views.edge 1 ∷ views.edge 2 ∷ []) (views.sub 1 100 ∷ [])
    ∷ views.node 2 false (views.edge 0 ∷ []) (views.sub 2 200 ∷ [])
    ∷ views.node 3 false (views.edge 0 ∷ views.edge 3 ∷ []) []
    ∷ views.node 4 false (views.edge 2 ∷ []) (views.sub 4 400 ∷ [])
    ∷ []

-- ---- a run

abbrev pub begun : Run
begun = record { world = at_rest; events = []; sent = []; got = []; drops = [] }

-- A injects the payload 00 FF for itself, B and C
abbrev pub the_injection : Injection
the_injection = record { router = 0; sd = 0; bsl = B64; ids = 1 ∷ 2 ∷ 4 ∷ []; ttl = 8; entropy = 0; payload = 0 ∷ 255 ∷ [] }

abbrev pub enters : ℕ × Event
enters = (1, Inject 0 0 B64 (1 ∷ 2 ∷ 4 ∷ []) 8 0 (0 ∷ 255 ∷ []))

-- B receives its copy; P and then C receive the one in the tunnel
abbrev pub taken : List (ℕ × Event)
taken = (2, Take 0 1 0) ∷ (3, Take 0 2 0) ∷ (4, Take 2 3 0) ∷ []

-- ---- copies

-- the copy for C, which A sends in a tunnel with that TTL
abbrev pub for_c : ℕ → DataItem
for_c outer = copy 0 400 (4 ∷ []) (from_a 4 outer)
