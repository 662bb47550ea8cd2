-- Small domains with the special cases of forwarding.
use Rattle.std.specs.Prelude.{ℕ, true, false, List, [], ◌∷◌, map}
use Rattle.std.specs.List.{fold}
use Rattle.wire_base.specs.declared.bsl.Bsl.TheVariants.{B64}
use Rattle.wire_base.specs.declared.conf.RouterConf.{RouterConf}
use Rattle.wire_base.specs.declared.entry.Entry.{Entry}
use Rattle.wire_base.specs.model.Configuration.{DomainConf}
use Rattle.wire_base.specs.model.Control.{Control}
use Rattle.wire_base.specs.model.Item.{PacketItem}
use Rattle.wire_base.specs.model.OwnLsp.{own_lsp}
use Rattle.replay_text.specs.declared.event.Event.{Event}
use Rattle.replay_text.specs.declared.event.Event.TheVariants.{Inject}
use Rattle.examples_model.specs.Domains.{router, sub, link, ring, ring_a, ring_b, ring_c, ring_d, fork}
use Rattle.examples_model.specs.Frames.{settled, copy, from_a, fork_lsps}
use Rattle.examples_model.specs.Views.{first_lsp, ring_lsps}
use Rattle.domain_model.specs.World.{WorldState, no_flights, push_item}
use Rattle.domain_model.specs.Run.{Run, goes_on}
use Rattle.laws_ledger.specs.Ledger.{copies_of, deliveries, drops}

-- ---- runs

-- the routers have those states, and nothing is in flight
abbrev pub at_work : DomainConf → List Control → WorldState
at_work d controls = record { domain = d; routers = controls; flights = no_flights d.routers; injections = 0; events = 0 }

-- some events from a world on
abbrev pub doing : WorldState → List Event → Run
doing w es = fold goes_on (record { world = w; events = []; sent = []; got = []; drops = [] }) (map (λ e. (1, e)) es)

-- for injection 1: the copies for a BFR-id in flight, its deliveries and its drops
abbrev pub parts : ℕ → Run → List ℕ
parts k r = copies_of 1 k r.world.flights ∷ deliveries 1 k r ∷ drops 1 k r ∷ []

-- a router injects the payload 00 FF for those BFR-ids
abbrev pub enters_at : ℕ → List ℕ → ℕ → Event
enters_at a ids ttl = Inject a 0 B64 ids ttl 0 (0 ∷ 255 ∷ [])

-- ---- two routers with one BFR-id

-- A, B and C in a line; B and C have the BFR-id 2
abbrev pub twin_a : RouterConf
twin_a = router 65 1 false (sub 1 100 ∷ []) (2 ∷ [])

abbrev pub twin_b : RouterConf
twin_b = router 66 2 false (sub 2 200 ∷ []) (1 ∷ 3 ∷ [])

abbrev pub twin_c : RouterConf
twin_c = router 67 3 false (sub 2 300 ∷ []) (2 ∷ [])

abbrev pub twins : DomainConf
twins = record { routers = twin_a ∷ twin_b ∷ twin_c ∷ []; links = link 1 2 ∷ link 2 3 ∷ [] }

abbrev pub twin_lsps : List Entry
twin_lsps = first_lsp twin_a ∷ first_lsp twin_b ∷ first_lsp twin_c ∷ []

-- all LSDBs have all LSPs
abbrev pub twins_agree : WorldState
twins_agree = at_work twins (map (λ r. settled r twin_lsps) twins.routers)

-- A has no LSP of C yet
abbrev pub twins_disagree : WorldState
twins_disagree =
    at_work twins (settled twin_a (first_lsp twin_a ∷ first_lsp twin_b ∷ []) ∷ settled twin_b twin_lsps ∷ settled twin_c twin_lsps ∷ [])

-- ---- two topologies that disagree

-- In the ring A has no LSP of D, and sends a copy for C to B. B's link to C is down there, and B sends it to A.
abbrev pub apart_from_c : Control
apart_from_c =
    record (settled ring_b (first_lsp ring_a ∷ own_lsp ring_b (true ∷ false ∷ []) 2 ∷ first_lsp ring_c ∷ first_lsp ring_d ∷ [])) {
      flood = record { own = ring_b.system; up = true ∷ false ∷ []; due = []; rows = [] };
    }

abbrev pub ring_loops : WorldState
ring_loops =
    at_work ring (
    settled ring_a (first_lsp ring_a ∷ first_lsp ring_b ∷ first_lsp ring_c ∷ [])
    ∷ apart_from_c
    ∷ settled ring_c ring_lsps
    ∷ settled ring_d ring_lsps
    ∷ []
    )

-- ---- copies that end before their target

abbrev pub ring_agrees : WorldState
ring_agrees = at_work ring (map (λ r. settled r ring_lsps) ring.routers)

-- in the fork a copy from A for C, in a tunnel whose TTL expires at P
abbrev pub fork_ends : WorldState
fork_ends =
    record (at_work fork (map (λ r. settled r fork_lsps) fork.routers)) {
      flights = push_item (no_flights fork.routers) 0 0 (PacketItem (copy 0 300 (3 ∷ []) (from_a 3 1)));
      injections = 1;
    }
