use Rattle.router_core.proofs.IssuedLaws.{started_issued}
use Rattle.std.proofs.Common.{◌∙◌, true, length, refl}
use Rattle.std.proofs.lemmas.List.{length-replicate}
use Rattle.router_core.proofs.EventLaws.{started_is, started_keeps, first_is}
use Rattle.router_core.proofs.control.Control.new.Goals as goal

pub invariant_of-result : goal.invariant_of-result
invariant_of-result c =
    record {
      router =
          started_keeps c.args.conf _ c.in_ok-store.flood.flood c.in_ok-store.store.entries c.in_ok-store.ensures.entries c.in_ok-store.ensures.flood c.requires
          (length-replicate (length c.args.conf.ends) true)
          c.in_ok-store.ensures.database;
      issued =
          started_issued c.args.conf _ c.in_ok-store.flood.flood c.in_ok-store.store.entries c.in_ok-store.ensures.entries c.in_ok-store.ensures.flood;
    }

pub returns : goal.returns
returns c =
    started_is c.args.conf _ c.in_ok-store.flood.flood c.in_ok-store.store.entries c.in_ok-store.ensures.entries c.in_ok-store.ensures.flood
    ∙ first_is c.args.conf _ refl
