use Rattle.router_core.proofs.IssuedLaws.{started_issued}
use Rattle.std.proofs.Common.{◌∙◌, length, ap, sym, subst}
use Rattle.wire_base.specs.model.Control.{Control, IsDatabase}
use Rattle.lsp_store.specs.Views.{Stored}
use Rattle.laws_router.specs.State.{control_of}
use Rattle.router_core.proofs.EventLaws.{started_is, started_keeps, restart_is}
use Rattle.router_core.proofs.control.Control.restart.Goals as goal

pub invariant_of-self : goal.invariant_of-self
invariant_of-self c =
    let same = ap (λ (s : Stored). s.entries) c.replace_entries.ensures in
    record {
      router =
          started_keeps c.self.inside.conf _ c.in_ok-store.flood.flood c.replace_entries.new.self.entries (same ∙ c.in_ok-store.ensures.entries) c.in_ok-store.ensures.flood c.self.invariant.router.sound
          (ap length (c.as_slice.ensures.value ∙ c.in_ok-up.ensures) ∙ ap (λ (x : Control). length x.flood.up) (sym c.self.view_is) ∙ c.self.invariant.router.control.links)
          (subst IsDatabase (sym same) c.in_ok-store.ensures.database);
      issued =
          started_issued c.self.inside.conf _ c.in_ok-store.flood.flood c.replace_entries.new.self.entries (same ∙ c.in_ok-store.ensures.entries) c.in_ok-store.ensures.flood;
    }

pub returns-clause-ok : goal.returns-clause-ok
returns-clause-ok c =
    started_is c.self.inside.conf _ c.in_ok-store.flood.flood c.replace_entries.new.self.entries (ap (λ (s : Stored). s.entries) c.replace_entries.ensures ∙ c.in_ok-store.ensures.entries) c.in_ok-store.ensures.flood
    ∙ restart_is (control_of c.self.inside.conf c.self.inside.flood.flood c.self.inside.store.entries c.self.inside.spent) c.args.self.now _ (c.as_slice.ensures.value ∙ c.in_ok-up.ensures) (ap (λ (x : Control). x.conf) c.self.view_is)
