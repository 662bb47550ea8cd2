use Rattle.std.proofs.Common.{◌≡◌, inr, ◌∙◌, ◌≤◌, ℕ, true, false, List, [], length, slice_get, slice_set, Option, None, option_map, refl, sym, ap, subst}
use Rattle.wire_base.specs.declared.limits.TheConstants.{MOST_FRAME}
use Rattle.wire_base.specs.declared.conf.RouterConf.{RouterConf}
use Rattle.wire_base.specs.declared.effects.Sent.{Sent}
use Rattle.wire_base.specs.model.Configuration.{DomainConf}
use Rattle.wire_base.specs.model.OnFrame.{on_frame}
use Rattle.replay_text.specs.declared.event.Event.TheVariants.{Take}
use Rattle.laws_router.specs.State.{RouterState}
use Rattle.frames_in_flight.specs.declared.flight.Flight.{Flight}
use Rattle.frames_in_flight.specs.Told.{IsSilent, told_of}
use Rattle.frames_in_flight.specs.Flights.{place_seen, ids_seen, ids_read, number_of, frames_at, without_frame, push_after, push_all_sent}
use Rattle.domain_core.specs.Answers.{outcome, taken_outcome}
use Rattle.domain_core.specs.Held.{state_of, world_in, heard_in}
use Rattle.domain_core.specs.Network.{NetworkState, confs_of, confs_in, seen_of, world_of}
use Rattle.domain_model.specs.Step.{Happened}
use Rattle.domain_model.specs.Truth.{router_at}
use Rattle.domain_model.specs.World.{is_up, peer_place, queue_over}
use Rattle.domain_core.proofs.CarryLaws.{down_dropped, still_world, is_short, unmoved, frame_conf, told_taken, heard_there, taken_done}
use Rattle.domain_core.proofs.EventLaws.{as_before}
use Rattle.frames_in_flight.proofs.ToldLaws.{silent_told}
use Rattle.domain_core.proofs.ReadBack.{got_some}
use Rattle.domain_core.proofs.RefusalLaws.{end_is, toward, link_within, leads_to}
use Rattle.domain_core.proofs.SeenLaws.{none_seen_at}
use Rattle.domain_core.proofs.TransitLaws.{none_taken, taken_reported, unheard, none_heard}
use Rattle.domain_core.proofs.TurnLaws.{on_ok, ok_on, err_on, with_ok, with_err, router_there, nothing_told, control_at, confs_kept}
use Rattle.domain_core.proofs.network.Network.take_on_link.Goals as goal

pub returns-in_default-clause-done : goal.returns-in_default-clause-done
returns-in_default-clause-done c =
    let w = world_in c.args.self.now in
    let happened = none_taken w c.args.from c.args.to c.args.i c.args.link c.requires.joined c.args.back c.requires.facing (none_seen_at (confs_in (state_of c.args.self.now)) c.args.self.now.flights c.args.from c.args.link c.args.i c.in_default.ensures) in
    record {
      world = sym (ap (λ (h : Happened). h.world) happened);
      frames = c.requires.truth.frames;
      answer = nothing_told c.args.self.now.domain.routers (outcome None) _ refl (ap (λ (h : Happened). h.made) happened);
    }

pub returns-in_default-clause-heard : goal.returns-in_default-clause-heard
returns-in_default-clause-heard c =
    let w = world_in c.args.self.now in
    sym (none_heard w (heard_in c.args.self.now) c.args.from c.args.to c.args.i
    (ap (λ (l : Option ℕ). slice_get (queue_over w.flights c.args.from l) c.args.i) c.requires.joined ∙ none_seen_at (confs_in (state_of c.args.self.now)) c.args.self.now.flights c.args.from c.args.link c.args.i c.in_default.ensures))

pub returns-then-not-is_end_up-clause-done : goal.returns-then-not-is_end_up-clause-done
returns-then-not-is_end_up-clause-done c =
    let n = state_of c.args.self.now in
    let here = got_some n.routers c.args.to c.requires.place in
    let down = end_is (world_in c.args.self.now) c.args.to c.args.back here.0.control false (control_at n c.args.to here.0 here.1) c.if-not-is_end_up.ensures in
    with_ok c.drop_arrived.result _ _ _ c.drop_arrived.ensures.out c.drop_arrived.ensures.ok (λ some tells gone.
    let k = down_dropped n c.requires.truth.frames c.args.from c.args.to c.args.link c.args.back c.args.i here.0 here.1 c.requires.joined c.requires.facing down (state_of c.drop_arrived.new.self) gone _ refl in
    record { world = k.world; frames = k.frames; answer = tells ∙ k.answer })

pub returns-then-not-is_end_up-clause-heard : goal.returns-then-not-is_end_up-clause-heard
returns-then-not-is_end_up-clause-heard c =
    let n = state_of c.args.self.now in
    let here = got_some n.routers c.args.to c.requires.place in
    ok_on c.drop_arrived.result _ _ c.drop_arrived.ensures.ok (λ gone.
    ap (λ (m : NetworkState). (seen_of m).heard) gone
    ∙ sym (unheard (world_in c.args.self.now) (heard_in c.args.self.now) c.args.from c.args.to c.args.i
    (toward (world_in c.args.self.now) c.args.to c.args.from c.args.back here.0.control (control_at n c.args.to here.0 here.1) c.requires.facing ∙ end_is (world_in c.args.self.now) c.args.to c.args.back here.0.control false (control_at n c.args.to here.0 here.1) c.if-not-is_end_up.ensures)))

pub returns-then-not-is_end_up-clause-err : goal.returns-then-not-is_end_up-clause-err
returns-then-not-is_end_up-clause-err c = err_on c.drop_arrived.result _ _ c.drop_arrived.ensures.err (λ same. as_before c.args.self.now c.drop_arrived.new.self (Take c.args.from c.args.to c.args.i) same)

pub returns-then-not-is_end_up-clause-frames : goal.returns-then-not-is_end_up-clause-frames
returns-then-not-is_end_up-clause-frames c = err_on c.drop_arrived.result _ _ c.drop_arrived.ensures.err (λ same. ap (λ (m : NetworkState). m.flights) same)

pub frame_into-requires-clause-link : goal.frame_into-requires-clause-link
frame_into-requires-clause-link c =
    let n = state_of c.args.self.now in
    let r = c.index_mut-router.result.now in
    let there = router_there n.routers c.from.result c.args.to r c.from.ensures c.requires.place c.index_mut-router.ensures.value in
    link_within (world_in c.args.self.now) c.args.to c.args.from c.args.back r.control (control_at n c.args.to r there) c.requires.facing c.requires.truth.truth

pub frame_into-requires-clause-short : goal.frame_into-requires-clause-short
frame_into-requires-clause-short c =
    let n = state_of c.args.self.now in
    let r = c.index_mut-router.result.now in
    let f = c.in-Some.flight in
    let there = router_there n.routers c.from.result c.args.to r c.from.ensures c.requires.place c.index_mut-router.ensures.value in
    let up : is_up r.control c.args.back ≡ true = end_is (world_in c.args.self.now) c.args.to c.args.back r.control true (control_at n c.args.to r there) c.if-not-is_end_up.ensures in
    subst (λ (octets : List ℕ). length octets ≤ MOST_FRAME) (sym (ap (λ (x : Flight). x.octets) c.flight.view_is)) (is_short n c.requires.truth c.args.from c.args.to c.args.link c.args.back c.args.i r there c.requires.joined up f c.in-Some.ensures)

pub returns-then-is_silent-clause-done : goal.returns-then-is_silent-clause-done
returns-then-is_silent-clause-done c =
    let n = state_of c.args.self.now in
    let r = c.index_mut-router.result.now in
    let f = c.in-Some.flight in
    let there = router_there n.routers c.from.result c.args.to r c.from.ensures c.requires.place c.index_mut-router.ensures.value in
    let up : is_up r.control c.args.back ≡ true = end_is (world_in c.args.self.now) c.args.to c.args.back r.control true (control_at n c.args.to r there) c.if-not-is_end_up.ensures in
    let done = c.in_ok-frame_into.ensures.next ∙ ap (λ (octets : List ℕ). on_frame r.control c.args.back octets) (ap (λ (x : Flight). x.octets) c.flight.view_is) in
    let effects = c.frame_into.new.effects in
    let silent : IsSilent effects = c.is_silent.ensures.0 c.if-is_silent.true in
    let gone : c.remove.new.self ≡ push_all_sent n.domain.routers c.args.to (number_of f) (without_frame n.flights c.args.from c.args.link c.args.i) effects.sent =
    c.remove.ensures ∙ ap (λ (ss : List Sent). push_all_sent n.domain.routers c.args.to (number_of f) (without_frame n.flights c.args.from c.args.link c.args.i) ss) (sym silent.sent) in
    let k = taken_done n c.requires.truth c.args.from c.args.to c.args.link c.args.back c.args.i r there c.requires.joined up f c.in-Some.ensures (without_frame n.flights c.args.from c.args.link c.args.i) refl
    c.requires.facing c.from.result c.from.ensures c.frame_into.new.self effects done c.remove.new.self gone (outcome None) (silent_told n.domain.routers c.args.to (number_of f) (ids_seen (confs_in n) f) effects silent) in
    record { world = k.world; frames = k.frames; answer = k.answer }

pub returns-then-is_silent-clause-heard : goal.returns-then-is_silent-clause-heard
returns-then-is_silent-clause-heard c =
    let n = state_of c.args.self.now in
    let r = c.index_mut-router.result.now in
    let f = c.in-Some.flight in
    let there = router_there n.routers c.from.result c.args.to r c.from.ensures c.requires.place c.index_mut-router.ensures.value in
    let up : is_up r.control c.args.back ≡ true = end_is (world_in c.args.self.now) c.args.to c.args.back r.control true (control_at n c.args.to r there) c.if-not-is_end_up.ensures in
    heard_there n c.requires.truth c.args.from c.args.to c.args.link c.args.back c.args.i r there c.requires.joined up f c.in-Some.ensures c.requires.facing c.from.result c.from.ensures c.frame_into.new.self c.in_ok-frame_into.ensures.heard

pub first_peer-known-requires : goal.first_peer-known-requires
first_peer-known-requires c = leads_to (world_in c.args.self.now) c.args.to c.args.from c.args.back c.requires.truth.truth c.requires.facing c.args.self.now.domain.routers refl

pub queue_taken-requires-clause-known : goal.queue_taken-requires-clause-known
queue_taken-requires-clause-known c = c.first_peer-known.ensures ∙ sym (ap (λ (cs : List RouterConf). peer_place cs c.args.to c.first_peer-known.result.0) (c.confs_of-confs.ensures.confs ∙ ap (λ (d : DomainConf). d.routers) c.conf.ensures))

pub returns-clause-err : goal.returns-clause-err
returns-clause-err c =
    let n = state_of c.args.self.now in
    let r = c.index_mut-router.result.now in
    let f = c.in-Some.flight in
    let there = router_there n.routers c.from.result c.args.to r c.from.ensures c.requires.place c.index_mut-router.ensures.value in
    let up : is_up r.control c.args.back ≡ true = end_is (world_in c.args.self.now) c.args.to c.args.back r.control true (control_at n c.args.to r there) c.if-not-is_end_up.ensures in
    let done = c.in_ok-frame_into.ensures.next ∙ ap (λ (octets : List ℕ). on_frame r.control c.args.back octets) (ap (λ (x : Flight). x.octets) c.flight.view_is) in
    let effects = c.frame_into.new.effects in
    let kept = frame_conf n c.requires.truth c.args.from c.args.to c.args.link c.args.back c.args.i r there c.requires.joined up f c.in-Some.ensures c.frame_into.new.self.control effects done in
    with_err c.queue_taken.result _ _ _ c.queue_taken.ensures.err c.queue_taken.ensures.memory (λ same tells. record {
      world = ap (λ (fs : List (List (List Flight))). world_of (record n { routers = slice_set n.routers c.from.result c.frame_into.new.self; flights = fs })) same
          ∙ still_world n c.args.to r there c.from.result c.from.ensures c.frame_into.new.self kept (unmoved n c.requires.truth c.args.from c.args.to c.args.link c.args.back c.args.i r there c.requires.joined up f c.in-Some.ensures c.frame_into.new.self.control effects done tells);
      heard = inr (heard_there n c.requires.truth c.args.from c.args.to c.args.link c.args.back c.args.i r there c.requires.joined up f c.in-Some.ensures c.requires.facing c.from.result c.from.ensures c.frame_into.new.self c.in_ok-frame_into.ensures.heard);
    })

pub returns-clause-done : goal.returns-clause-done
returns-clause-done c =
    let n = state_of c.args.self.now in
    let os = n.domain.routers in
    let r = c.index_mut-router.result.now in
    let f = c.in-Some.flight in
    let there = router_there n.routers c.from.result c.args.to r c.from.ensures c.requires.place c.index_mut-router.ensures.value in
    let up : is_up r.control c.args.back ≡ true = end_is (world_in c.args.self.now) c.args.to c.args.back r.control true (control_at n c.args.to r there) c.if-not-is_end_up.ensures in
    let done = c.in_ok-frame_into.ensures.next ∙ ap (λ (octets : List ℕ). on_frame r.control c.args.back octets) (ap (λ (x : Flight). x.octets) c.flight.view_is) in
    let confs = (c.confs_of-confs.ensures.confs ∙ ap (λ (d : DomainConf). d.routers) c.conf.ensures) in
    let effects = c.frame_into.new.effects in
    let flights = c.queue_taken.new.flights in
    let kept = frame_conf n c.requires.truth c.args.from c.args.to c.args.link c.args.back c.args.i r there c.requires.joined up f c.in-Some.ensures c.frame_into.new.self.control effects done in
    let reader = option_map (λ q. q.now) c.reader_if_dropped-reader.result in
    let read : (effects.drops ≡ [] → ⊥) → reader ≡ router_at (confs_in n) (place_seen os f) = λ some.
    c.reader_if_dropped-reader.ensures.reader some
    ∙ ap (λ (rs : List RouterState). router_at (confs_of rs) (place_seen c.confs_of-confs.result.now f)) c.as_slice-routers.ensures.value
    ∙ ap (λ (cs : List RouterConf). router_at cs (place_seen c.confs_of-confs.result.now f)) (confs_kept n c.args.to r there c.from.result c.frame_into.new.self c.from.ensures kept)
    ∙ ap (λ (cs : List RouterConf). router_at (confs_in n) (place_seen cs f)) confs in
    with_ok c.queue_taken.result _ _ _ c.queue_taken.ensures.out c.queue_taken.ensures.ok (λ some tells put.
    let pushed = put
    ∙ ap (λ (cs : List RouterConf). push_after cs c.args.to effects.sent n.flights c.args.from c.args.link c.args.i (slice_get (frames_at n.flights c.args.from c.args.link) c.args.i)) confs
    ∙ ap (λ (o : Option Flight). push_after os c.args.to effects.sent n.flights c.args.from c.args.link c.args.i o) (sym c.in-Some.ensures) in
    let answer = taken_reported some c.queue_taken.new.made ∙ ap outcome (tells ∙ ap (λ (cs : List RouterConf). option_map (λ (g : Flight). told_of cs c.args.to (number_of g) (ids_read reader g) effects) (slice_get (frames_at n.flights c.args.from c.args.link) c.args.i)) confs
    ∙ ap (λ (o : Option Flight). option_map (λ (g : Flight). told_of os c.args.to (number_of g) (ids_read reader g) effects) o) (sym c.in-Some.ensures))
    ∙ told_taken n c.requires.truth c.args.from c.args.to c.args.link c.args.back c.args.i r there c.requires.joined up f c.in-Some.ensures effects reader read in
    let k = taken_done n c.requires.truth c.args.from c.args.to c.args.link c.args.back c.args.i r there c.requires.joined up f c.in-Some.ensures (without_frame n.flights c.args.from c.args.link c.args.i) refl
    c.requires.facing c.from.result c.from.ensures c.frame_into.new.self effects done flights pushed (taken_outcome some c.queue_taken.new.made) answer in
    record { world = k.world; frames = k.frames; answer = k.answer })

pub returns-clause-heard : goal.returns-clause-heard
returns-clause-heard c =
    let n = state_of c.args.self.now in
    let r = c.index_mut-router.result.now in
    let f = c.in-Some.flight in
    let there = router_there n.routers c.from.result c.args.to r c.from.ensures c.requires.place c.index_mut-router.ensures.value in
    let up : is_up r.control c.args.back ≡ true = end_is (world_in c.args.self.now) c.args.to c.args.back r.control true (control_at n c.args.to r there) c.if-not-is_end_up.ensures in
    on_ok c.queue_taken.result _ (heard_there n c.requires.truth c.args.from c.args.to c.args.link c.args.back c.args.i r there c.requires.joined up f c.in-Some.ensures c.requires.facing c.from.result c.from.ensures c.frame_into.new.self c.in_ok-frame_into.ensures.heard)
