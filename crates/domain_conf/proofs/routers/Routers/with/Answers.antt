use Rattle.std.proofs.Common.{◌≡◌, ◌<◌, [], List, ℕ, Some, false, cond, length, sym, ap, subst, ◌∙◌}
use Rattle.std.specs.List.{list_any}
use Rattle.std.specs.Str.{bytes_eq}
use Rattle.domain_conf.specs.RouterIndex.{found_at}
use Rattle.domain_conf.specs.Routers.{has_name}
use Rattle.domain_conf.specs.declared.routers.RouterEntry.{RouterEntry}
use Rattle.domain_conf.proofs.IndexLemmas.{indexed_more}
use Rattle.domain_conf.proofs.routers.Routers.with.Goals as goal
use Rattle.wire_base.specs.declared.limits.TheConstants.{MOST_ROUTERS}

pub invariant_of-result : goal.invariant_of-result
invariant_of-result c =
    indexed_more c.self.inside.entries c.push.new.self c.args.entry c.self.inside.places _ c.self.inside.systems _ c.self.inside.prefixes _ c.self.invariant
    (subst (λ (es : List RouterEntry). length es < MOST_ROUTERS) (sym c.self.view_is) c.requires.room)
    (subst (λ (es : List RouterEntry). list_any (has_name c.args.entry.name) es ≡ false) (sym c.self.view_is) c.requires.unused)
    c.in_ok-push.ensures.ok
    (λ octets.
    c.in_ok-put_place.ensures octets
    ∙ (ap (λ (name : List ℕ). cond (bytes_eq name octets) (Some c.len-place.result) (found_at c.self.inside.places octets)) c.as_slice.ensures
    ∙ ap (λ (n : ℕ). cond (bytes_eq c.args.entry.name octets) (Some n) (found_at c.self.inside.places octets)) c.len-place.ensures))
    c.in_ok-put_system.ensures c.in_ok-put_prefix.ensures
