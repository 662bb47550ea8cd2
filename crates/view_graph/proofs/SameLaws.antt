-- Lists and records that are equal in all parts.
use Rattle.std.proofs.Common.{◌≡◌, ◌==◌, ◌&&◌, Bool, true, false, Some, refl, sym, ap, ◌∙◌}
use Rattle.std.specs.Prelude.{Decides}
use Rattle.std.proofs.lemmas.Bool.Decides.{Decides-eqb}
use Rattle.wire_base.specs.declared.bsl.Bsl.{Bsl}
use Rattle.wire_base.specs.declared.bsl.Bsl.TheVariants.{B64, B128, B256, B512, B1024, B2048, B4096}
use Rattle.wire_base.specs.declared.conf.LabelRange.{LabelRange}
use Rattle.wire_base.specs.declared.view.ViewEdge.{ViewEdge}
use Rattle.wire_base.specs.declared.view.ViewNode.{ViewNode}
use Rattle.wire_base.specs.declared.view.ViewSub.{ViewSub}
use Rattle.wire_base.specs.model.Place.{code_of, bsl_coded}
use Rattle.laws_format.proofs.TlvLaws.{some_is}

both : {P Q : Type 0} (a b : Bool) → Decides a P → Decides b Q → Decides (a && b) (P × Q)
both true true p q = (λ h. (p.0 refl, q.0 refl), λ h. refl)
both true false p q = (λ h. absurd cc, λ h. q.1 h.1)
both false b p q = (λ h. absurd cc, λ h. p.1 h.0)

edge_parts : (a b : ViewEdge) → a.to ≡ b.to → a.metric ≡ b.metric → a ≡ b
edge_parts a b t m = rw (t, m) refl

pub edge_decided : (a b : ViewEdge) → Decides ((a.to == b.to) && (a.metric == b.metric)) (a ≡ b)
edge_decided a b =
    let d = both (a.to == b.to) (a.metric == b.metric) (Decides-eqb a.to b.to) (Decides-eqb a.metric b.metric) in
    (λ h. let e = d.0 h in edge_parts a b e.0 e.1, λ h. d.1 (ap (λ (x : ViewEdge). x.to) h, ap (λ (x : ViewEdge). x.metric) h))

code_is : (a b : Bsl) → code_of a ≡ code_of b → a ≡ b
code_is a b e = some_is a b (sym (coded a) ∙ ap bsl_coded e ∙ coded b)
  where
    coded : (a : Bsl) → bsl_coded (code_of a) ≡ Some a
    coded B64 = refl
    coded B128 = refl
    coded B256 = refl
    coded B512 = refl
    coded B1024 = refl
    coded B2048 = refl
    coded B4096 = refl

range_parts : (a b : LabelRange) → a.bsl ≡ b.bsl → a.max_si ≡ b.max_si → a.label ≡ b.label → a ≡ b
range_parts a b s m l = rw (s, m, l) refl

pub range_decided : (a b : LabelRange) → Decides ((code_of a.bsl == code_of b.bsl) && ((a.max_si == b.max_si) && (a.label == b.label))) (a ≡ b)
range_decided a b =
    let d = both (code_of a.bsl == code_of b.bsl) ((a.max_si == b.max_si) && (a.label == b.label)) (Decides-eqb (code_of a.bsl) (code_of b.bsl)) (both (a.max_si == b.max_si) (a.label == b.label) (Decides-eqb a.max_si b.max_si) (Decides-eqb a.label b.label)) in
    (λ h. let e = d.0 h in range_parts a b (code_is a.bsl b.bsl e.0) e.1.0 e.1.1, λ h. d.1 (ap (λ (x : LabelRange). code_of x.bsl) h, (ap (λ (x : LabelRange). x.max_si) h, ap (λ (x : LabelRange). x.label) h)))

pub sub_decided : (a b : ViewSub) (places ranges : Bool) → Decides places ((a.sd ≡ b.sd) × ((a.id ≡ b.id) × (a.prefix ≡ b.prefix))) → Decides ranges (a.ranges ≡ b.ranges) → Decides (places && ranges) (a ≡ b)
sub_decided a b places ranges p r =
    let d = both places ranges p r in
    (λ h. let e = d.0 h in rw (e.0.0, e.0.1.0, e.0.1.1, e.1) refl, λ h. d.1 ((ap (λ (x : ViewSub). x.sd) h, (ap (λ (x : ViewSub). x.id) h, ap (λ (x : ViewSub). x.prefix) h)), ap (λ (x : ViewSub). x.ranges) h))

node_parts : (a b : ViewNode) → a.system ≡ b.system → a.overload ≡ b.overload → a.edges ≡ b.edges → a.subs ≡ b.subs → a ≡ b
node_parts a b s o e p = rw (s, o, e, p) refl

pub node_decided : (a b : ViewNode) (router edges subs : Bool) → Decides router ((a.system ≡ b.system) × (a.overload ≡ b.overload)) → Decides edges (a.edges ≡ b.edges) → Decides subs (a.subs ≡ b.subs) → Decides (router && (edges && subs)) (a ≡ b)
node_decided a b router edges subs r e s =
    let d = both router (edges && subs) r (both edges subs e s) in
    (λ h. let k = d.0 h in node_parts a b k.0.0 k.0.1 k.1.0 k.1.1, λ h. d.1 ((ap (λ (x : ViewNode). x.system) h, ap (λ (x : ViewNode). x.overload) h), (ap (λ (x : ViewNode). x.edges) h, ap (λ (x : ViewNode). x.subs) h)))
