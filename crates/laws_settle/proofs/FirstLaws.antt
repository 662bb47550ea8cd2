-- In a domain that has just started nothing is in flight, and each router has its own LSP to send everywhere.
use Rattle.std.proofs.Common.{ℕ, Bool, true, List, [], length, map, replicate, refl, arith}
use Rattle.wire_base.specs.declared.addresses.LspId.{LspId}
use Rattle.wire_base.specs.declared.conf.RouterConf.{RouterConf}
use Rattle.wire_base.specs.model.Configuration.{DomainConf}
use Rattle.wire_base.specs.model.Control.{Control}
use Rattle.wire_base.specs.model.Flooding.{first_control, new_flood, started}
use Rattle.wire_base.specs.model.OwnLsp.{own_lsp}
use Rattle.domain_model.specs.World.{first_world, peer_place}
use Rattle.domain_model.proofs.EachLaws.{each_from, each_got, each_mapped}
use Rattle.domain_model.proofs.QueueLaws.{none_queued}
use Rattle.laws_settle.specs.Fresh.{IsItemWithin, Owes, number_at}
use Rattle.laws_settle.proofs.OwedSteps.{IsSettling}
use Rattle.laws_settle.proofs.OwesLaws.{mark_owes, owes_low}

started_owes : (r : RouterConf) (up : List Bool) (id : LspId) (link least : ℕ) → Owes (started r up) id link least
unfolding started new_flood
started_owes r up id link least =
    mark_owes id link least up (new_flood r.system up) (record { up_is = refl; rows = tt; in_order = tt }) [] (owes_low id link least (new_flood r.system up) [] (omega arith)) (own_lsp r up 1)

first_owes : (r : RouterConf) (id : LspId) (link least : ℕ) → Owes (first_control r) id link least
unfolding first_control
first_owes r id link least = started_owes r (replicate (length r.ends) true) id link least

pub first_settling : (d : DomainConf) → IsSettling (first_world d) (first_world d)
unfolding first_world
first_settling d = record {
  behind = none_queued (λ a link. IsItemWithin (number_at (first_world d) a)) d.routers;
  owed = λ a link c id at.
      each_got (λ (x : Control). (i : LspId) (k least : ℕ) → Owes x i k least) (map first_control d.routers) a c
      (each_mapped (λ (x : Control). (i : LspId) (k least : ℕ) → Owes x i k least) first_control d.routers (each_from (λ r. (i : LspId) (k least : ℕ) → Owes (first_control r) i k least) first_owes d.routers))
      at id link (number_at (first_world d) (peer_place d.routers a link) id);
  rise = λ a id. omega arith;
}
