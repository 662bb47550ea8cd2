use Rattle.std.proofs.Common.{◌≡◌, ◌∙◌, Option, Some, None, sym, ap}
use Rattle.wire_base.specs.model.Item.{ControlItem}
use Rattle.frames_in_flight.specs.declared.flight.Flight.{Flight}
use Rattle.frames_in_flight.specs.declared.flight.Note.{Note}
use Rattle.frames_in_flight.specs.Flights.{item_seen, frames_at, push_frame}
use Rattle.domain_core.specs.Held.{state_of, world_in}
use Rattle.domain_core.specs.Network.{confs_in, IsFrameOver}
use Rattle.frames_in_flight.specs.Read.{pdu_in, copy_in, item_in}
use Rattle.domain_model.specs.Step.{Happened}
use Rattle.domain_model.proofs.EachLaws.{each_got}
use Rattle.domain_core.proofs.SeenLaws.{none_seen_at, some_seen_at, frames_pushed}
use Rattle.domain_core.proofs.TransitLaws.{more_world, none_again, packet_again, pdu_again, same_frames, same_flight}
use Rattle.domain_core.proofs.TurnLaws.{nothing_told}
use Rattle.domain_core.proofs.network.Network.again.Goals as goal

pub returns-in_default-get-clause-done : goal.returns-in_default-get-clause-done
returns-in_default-get-clause-done c =
    let n = state_of c.args.self.now in
    let happened = none_again (world_in c.args.self.now) c.args.from c.args.to c.args.i c.in-Some.link (sym c.in-Some.ensures) (none_seen_at (confs_in n) n.flights c.args.from c.in-Some.link c.args.i c.in_default-get.ensures) in
    record {
      world = sym (ap (λ (x : Happened). x.world) happened);
      frames = c.requires.frames;
      answer = nothing_told n.domain.routers c.nothing-in_default-get.result _ c.nothing-in_default-get.ensures (ap (λ (x : Happened). x.made) happened);
    }

pub returns-in_default-note-clause-done : goal.returns-in_default-note-clause-done
unfolding item_in
returns-in_default-note-clause-done c =
    let n = state_of c.args.self.now in
    let f = c.in-Some-get.flight in
    let x = copy_in (confs_in n) c.in_default-note.field-0 f.octets in
    let there = some_seen_at (confs_in n) n.flights c.args.from c.in-Some.link c.args.i f c.in-Some-get.ensures ∙ ap (λ (o : Option Note). Some (item_in (confs_in n) o f.octets)) (sym (ap (λ (x : Flight). x.note) c.flight.view_is) ∙ c.in_default-note.is) in
    let happened = packet_again (world_in c.args.self.now) c.args.from c.args.to c.args.i c.in-Some.link (sym c.in-Some.ensures) x there in
    record {
      world = sym (ap (λ (h : Happened). h.world) happened);
      frames = c.requires.frames;
      answer = nothing_told n.domain.routers c.nothing-in_default-note.result _ c.nothing-in_default-note.ensures (ap (λ (h : Happened). h.made) happened);
    }

pub returns-clause-done : goal.returns-clause-done
unfolding item_in
returns-clause-done c =
    let n = state_of c.args.self.now in
    let f = c.in-Some-get.flight in
    let none : f.note ≡ None = sym (ap (λ (x : Flight). x.note) c.flight.view_is) ∙ c.in-None.is in
    let copied : Flight = record { octets = c.as_slice.result.now; note = None } in
    let same : copied ≡ f = same_flight copied f (c.as_slice.ensures ∙ c.in_ok-octets.ensures ∙ ap (λ (x : Flight). x.octets) c.flight.view_is) (sym none) in
    let pushed : c.push.new.self ≡ push_frame n.flights c.args.from c.in-Some.link f = c.in_ok-push.ensures.ok ∙ ap (push_frame n.flights c.args.from c.in-Some.link) same in
    let is : item_seen (confs_in n) f ≡ ControlItem (pdu_in (confs_in n) f.octets) = ap (λ (o : Option Note). item_in (confs_in n) o f.octets) none in
    let happened = pdu_again (world_in c.args.self.now) c.args.from c.args.to c.args.i c.in-Some.link (sym c.in-Some.ensures) (item_seen (confs_in n) f) (pdu_in (confs_in n) f.octets) is (some_seen_at (confs_in n) n.flights c.args.from c.in-Some.link c.args.i f c.in-Some-get.ensures) in
    record {
      world = more_world n c.push.new.self c.args.from c.in-Some.link f pushed ∙ sym (ap (λ (h : Happened). h.world) happened);
      frames = same_frames n.domain.routers (confs_in n) c.push.new.self _ pushed
          (frames_pushed (IsFrameOver n.domain.routers (confs_in n)) n.flights c.args.from c.in-Some.link f
          (each_got (IsFrameOver n.domain.routers (confs_in n) c.args.from c.in-Some.link) (frames_at n.flights c.args.from c.in-Some.link) c.args.i f (c.requires.frames c.args.from c.in-Some.link) (sym c.in-Some-get.ensures)) c.requires.frames);
      answer = nothing_told n.domain.routers c.nothing-2.result _ c.nothing-2.ensures (ap (λ (h : Happened). h.made) happened);
    }
