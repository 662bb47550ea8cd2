use Rattle.std.proofs.Common.{◌≡◌, ◌<◌, ℕ, length, slice_get, Some, sym, subst}
use Rattle.laws_router.specs.State.{RouterState}
use Rattle.domain_model.proofs.QueueLaws.{get_mapped}
use Rattle.domain_core.specs.Network.{Seen}
use Rattle.domain_core.proofs.EventLaws.{as_many}
use Rattle.domain_core.proofs.TurnLaws.{router_there}
use Rattle.domain_core.proofs.world.World.router.Goals as goal

pub returns-clause-heard : goal.returns-clause-heard
returns-clause-heard c =
    let n = c.self.inside.network in
    let r = c.index.result.now in
    let within : c.args.place < length n.routers.items =
    subst (λ (m : ℕ). c.args.place < m) (sym (as_many n c.self.invariant)) (subst (λ (s : Seen). c.args.place < length s.world.domain.routers) (sym c.self.view_is) c.requires) in
    let there = router_there n.routers.items c.from.result c.args.place r c.from.ensures within c.index.ensures in
    subst (λ (s : Seen). slice_get s.heard c.args.place ≡ Some r.heard) c.self.view_is (get_mapped (λ (x : RouterState). x.heard) n.routers.items c.args.place r there)
