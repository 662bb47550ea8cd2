-- The one step, by its premises.
use Rattle.std.proofs.Common.{◌≡◌, ℕ, List, refl, sym, subst}
use Rattle.std.specs.List.{AllByRecursion}
use Rattle.wire_base.specs.declared.conf.RouterConf.{RouterConf}
use Rattle.wire_base.specs.declared.view.ViewNode.{ViewNode}
use Rattle.wire_base.specs.model.Configuration.{DomainConf}
use Rattle.wire_base.specs.model.Control.{Control}
use Rattle.wire_base.specs.model.View.{control_view}
use Rattle.replay_text.specs.declared.event.Event.{Event}
use Rattle.domain_model.specs.World.{WorldState, queue_at}
use Rattle.domain_model.specs.Step.{happens}
use Rattle.laws_ledger.specs.Ledger.{Injection, drops_of}
use Rattle.laws_course.specs.Course.{Kept, own_node, KeptFor, Begins, GoesOn}
use Rattle.laws_course.proofs.ChangedLaws.{Keeps}
use Rattle.laws_course.proofs.StepLaws.{none_dropped}
use Rattle.laws_course.proofs.KeptLaws.{IsKeptBy, later_kept, domain_kept}
use Rattle.laws_course.proofs.FirstLaws.{first_kept}

-- the domain stays
kept_there : (w : WorldState) (e : Event) (r : RouterConf) (g : List ViewNode) (u n k : ℕ) → IsKeptBy w.domain.routers r g u n k (happens w e) → Kept (happens w e).world r g u n k
kept_there w e r g u n k h a link = subst (λ (d : DomainConf). AllByRecursion (Keeps d.routers r g u n k a link) (queue_at (happens w e).world.flights a link)) (sym (domain_kept w e)) (h.kept a link)

pub begun : (w : WorldState) (e : Event) (c : Control) (n k : ℕ) (i : Injection) → Begins w e c n k i → KeptFor (happens w e).world c n k × (drops_of n k (happens w e).made.drops ≡ 0)
begun w e c n k i h =
    let step = first_kept w h.truth i.router c h.ingress n k i e h.fits h.enters refl h.covered in
    (kept_there w e c.conf (control_view c) (own_node c) n k step, none_dropped n k (happens w e).made.drops step.drops)

pub gone_on : (w : WorldState) (e : Event) (s : ℕ) (c : Control) (n k : ℕ) → GoesOn w e s c n k → KeptFor (happens w e).world c n k × (drops_of n k (happens w e).made.drops ≡ 0)
gone_on w e s c n k h =
    let step = later_kept w h.truth s c h.ingress n k h.agreed h.made h.kept e h.harmless in
    (kept_there w e c.conf (control_view c) (own_node c) n k step, none_dropped n k (happens w e).made.drops step.drops)
