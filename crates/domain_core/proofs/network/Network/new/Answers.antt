use Rattle.std.proofs.Common.{◌∙◌, sym, ap, subst}
use Rattle.wire_base.specs.model.Configuration.{DomainConf}
use Rattle.frames_in_flight.specs.Flights.{no_frames}
use Rattle.domain_core.specs.Network.{NetworkState, IsTrueNetwork, world_of}
use Rattle.domain_core.proofs.StartLaws.{start_world, start_heard, start_kept}
use Rattle.domain_core.proofs.network.Network.new.Goals as goal

pub returns-clause-world : goal.returns-clause-world
returns-clause-world c =
    ap (λ (d : DomainConf). world_of (over d)) c.in_ok-new.ensures
    ∙ start_world c.args.domain c.confs_of.result.now c.confs_of.ensures.confs c.in_ok-routers.routers.items c.in_ok-routers.ensures c.in_ok-flights.flights
    (c.in_ok-flights.ensures ∙ ap no_frames (c.confs_of-2.ensures.confs ∙ sym c.confs_of.ensures.confs))
  where
    over : DomainConf → NetworkState
    over d = record { domain = d; routers = c.in_ok-routers.routers.items; flights = c.in_ok-flights.flights; injections = 0; events = 0 }

pub returns-clause-heard : goal.returns-clause-heard
returns-clause-heard c = start_heard c.args.domain c.confs_of.result.now c.confs_of.ensures.confs c.in_ok-routers.routers.items c.in_ok-routers.ensures

pub returns-clause-kept : goal.returns-clause-kept
returns-clause-kept c =
    subst (λ (d : DomainConf). IsTrueNetwork (over d)) (sym c.in_ok-new.ensures)
    (start_kept c.args.domain c.confs_of.result.now c.confs_of.ensures.confs c.in_ok-routers.routers.items c.in_ok-routers.ensures c.confs_of.ensures.valid c.in_ok-flights.flights
    (c.in_ok-flights.ensures ∙ ap no_frames (c.confs_of-2.ensures.confs ∙ sym c.confs_of.ensures.confs)))
  where
    over : DomainConf → NetworkState
    over d = record { domain = d; routers = c.in_ok-routers.routers.items; flights = c.in_ok-flights.flights; injections = 0; events = 0 }
