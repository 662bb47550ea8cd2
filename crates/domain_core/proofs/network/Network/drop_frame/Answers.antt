use Rattle.std.proofs.Common.{◌≡◌, ◌∙◌, ℕ, List, Some, option_map, sym, ap}
use Rattle.wire_base.specs.declared.conf.RouterConf.{RouterConf}
use Rattle.wire_base.specs.model.Configuration.{DomainConf}
use Rattle.wire_base.specs.model.Item.{Item}
use Rattle.laws_router.specs.State.{RouterState}
use Rattle.domain_model.specs.declared.step_out.StepOut.{StepOut}
use Rattle.domain_model.specs.Moves.{item_lost}
use Rattle.domain_model.specs.Truth.{router_at}
use Rattle.frames_in_flight.specs.declared.flight.Flight.{Flight}
use Rattle.frames_in_flight.specs.Flights.{ids_read, number_of, place_seen}
use Rattle.frames_in_flight.specs.Told.{told, told_lost}
use Rattle.frames_in_flight.proofs.ReadLaws.{lost_is}
use Rattle.domain_core.specs.Held.{state_of}
use Rattle.domain_core.specs.Network.{confs_in, confs_of}
use Rattle.domain_core.proofs.SeenLaws.{none_seen_at, none_there, some_seen_at}
use Rattle.domain_core.proofs.StayLaws.{reader_is}
use Rattle.domain_core.proofs.TurnLaws.{if_ok}
use Rattle.domain_core.proofs.network.Network.drop_frame.Goals as goal

pub returns-in_default-clause-out : goal.returns-in_default-clause-out
returns-in_default-clause-out c =
    let n = state_of c.args.self.now in
    sym (ap (option_map (λ (x : Item). told n.domain.routers (item_lost c.args.at c.args.cause x))) (none_seen_at (confs_in n) n.flights c.args.from c.args.link c.args.i c.in_default.ensures))

pub returns-in_default-clause-ok : goal.returns-in_default-clause-ok
returns-in_default-clause-ok c =
    let n = state_of c.args.self.now in
    sym (none_there n c.args.from c.args.link c.args.i (none_seen_at (confs_in n) n.flights c.args.from c.args.link c.args.i c.in_default.ensures))

pub returns-clause-out : goal.returns-clause-out
returns-clause-out c =
    let n = state_of c.args.self.now in
    let f = c.in-Some.flight in
    let confs = confs_in n in
    let reader = option_map (λ r. r.now) c.reader-reader.result in
    let read : reader ≡ router_at confs (place_seen n.domain.routers f) =
    c.reader-reader.ensures.reader
    ∙ ap (λ (rs : List RouterState). router_at (confs_of rs) (place_seen c.confs_of.result.now f)) c.as_slice.ensures.value
    ∙ ap (λ (cs : List RouterConf). router_at confs (place_seen cs f)) (c.confs_of.ensures.confs ∙ ap (λ (d : DomainConf). d.routers) c.conf.ensures) in
    if_ok c.drop_flight.result _ _ c.drop_flight.ensures.out (λ out tells.
    tells
    ∙ ap (option_map (λ (g : Flight). told_lost c.args.at (number_of g) c.args.cause (ids_read reader g))) (sym c.in-Some.ensures)
    ∙ ap (λ (ids : List ℕ). Some (told_lost c.args.at (number_of f) c.args.cause ids)) (reader_is n.domain.routers confs c.requires.truth.become f reader read)
    ∙ ap (λ (out : StepOut). Some out) (sym (lost_is n.domain.routers confs c.args.at c.args.cause f.note f.octets))
    ∙ sym (ap (option_map (λ (x : Item). told n.domain.routers (item_lost c.args.at c.args.cause x))) (some_seen_at confs n.flights c.args.from c.args.link c.args.i f c.in-Some.ensures)))
