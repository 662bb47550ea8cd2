use Rattle.std.proofs.Common.{◌≡◌, ◌∙◌, slice_get, Option, Some, None, option_map, refl, sym, ap, subst}
use Rattle.wire_base.specs.declared.cause.Cause.TheVariants as cause
use Rattle.wire_base.specs.model.Item.{Item}
use Rattle.replay_text.specs.declared.event.Event.TheVariants.{Lose}
use Rattle.domain_model.specs.Moves.{item_lost}
use Rattle.domain_model.specs.Step.{Happened, doing, taken_off}
use Rattle.domain_model.specs.World.{queue_at}
use Rattle.frames_in_flight.specs.Flights.{without_frame}
use Rattle.frames_in_flight.specs.Told.{told}
use Rattle.domain_core.specs.Answers.{outcome}
use Rattle.domain_core.specs.Held.{state_of, world_in, IsDone}
use Rattle.domain_core.specs.Network.{NetworkState, confs_in, seen_of, world_of, IsFrameOver, AreFramesOver}
use Rattle.domain_core.proofs.SeenLaws.{none_there, frames_left}
use Rattle.domain_core.proofs.TransitLaws.{gone_world, lost_world, none_lost, some_lost}
use Rattle.domain_core.proofs.TurnLaws.{nothing_told}
use Rattle.domain_core.proofs.network.Network.lose.Goals as goal

lost : (c : goal.After-or_nothing) (o : Option Item) → slice_get (queue_at (world_in c.args.self.now).flights c.args.from c.in-Some.link) c.args.i ≡ o
    → IsDone c.args.self.now c.drop_frame.new.self (doing (world_in c.args.self.now) (Lose c.args.from c.args.to c.args.i)) c.or_nothing.result
lost c None is =
    let n = state_of c.args.self.now in
    let w = world_in c.args.self.now in
    let happened = none_lost w c.args.from c.args.to c.args.i c.in-Some.link (sym c.in-Some.ensures) is in
    let same : state_of c.drop_frame.new.self ≡ n = c.in_ok-out.ensures.ok ∙ none_there n c.args.from c.in-Some.link c.args.i is in
    let told_so : c.or_nothing.result ≡ outcome None = c.or_nothing.ensures ∙ ap outcome (c.in_ok-out.ensures.out ∙ ap (option_map (λ (x : Item). told n.domain.routers (item_lost c.args.to cause.Lost x))) is) in
    record {
      world = ap world_of same ∙ sym (ap (λ (h : Happened). h.world) happened);
      frames = subst (λ (m : NetworkState). AreFramesOver n.domain.routers (confs_in m) m.flights) (sym same) c.requires.frames;
      answer = nothing_told n.domain.routers c.or_nothing.result _ told_so (ap (λ (h : Happened). h.made) happened);
    }
lost c (Some x) is =
    let n = state_of c.args.self.now in
    let w = world_in c.args.self.now in
    let happened = some_lost w c.args.from c.args.to c.args.i c.in-Some.link (sym c.in-Some.ensures) x is in
    let gone = c.in_ok-out.ensures.ok in
    record {
      world = ap world_of gone ∙ gone_world n (without_frame n.flights c.args.from c.in-Some.link c.args.i) c.args.from c.in-Some.link c.args.i refl
          ∙ sym (ap (λ (h : Happened). h.world) happened ∙ lost_world (taken_off w c.args.from c.in-Some.link c.args.i) c.args.to cause.Lost x);
      frames = subst (λ (m : NetworkState). AreFramesOver n.domain.routers (confs_in m) m.flights) (sym gone) (frames_left (IsFrameOver n.domain.routers (confs_in n)) n.flights c.args.from c.in-Some.link c.args.i c.requires.frames);
      answer = c.or_nothing.ensures ∙ ap outcome (c.in_ok-out.ensures.out ∙ ap (option_map (λ (y : Item). told n.domain.routers (item_lost c.args.to cause.Lost y))) is)
          ∙ sym (ap (λ (h : Happened). told n.domain.routers h.made) happened);
    }

pub returns-clause-done : goal.returns-clause-done
returns-clause-done c = lost c (slice_get (queue_at (world_in c.args.self.now).flights c.args.from c.in-Some.link) c.args.i) refl

pub returns-clause-heard : goal.returns-clause-heard
returns-clause-heard c = ap (λ (m : NetworkState). (seen_of m).heard) c.in_ok-out.ensures.ok
