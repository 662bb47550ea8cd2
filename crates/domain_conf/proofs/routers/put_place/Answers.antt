use Rattle.std.proofs.Common.{List, ℕ, ap, ◌∙◌, cond, Some}
use Rattle.std.specs.Str.{bytes_eq}
use Rattle.domain_conf.specs.RouterIndex.{found_at}
use Rattle.domain_conf.proofs.IndexLemmas.{found_at-put}
use Rattle.domain_conf.proofs.routers.put_place.Goals as goal

pub returns : goal.returns
returns c = λ octets.
    found_at-put c.in_ok-key.key.items c.args.places.now c.insert.new.self _ c.in_ok-insert.ensures.updates octets
    ∙ ap (λ (key : List ℕ). cond (bytes_eq key octets) (Some c.args.place) (found_at c.args.places.now octets)) c.in_ok-key.ensures.items
