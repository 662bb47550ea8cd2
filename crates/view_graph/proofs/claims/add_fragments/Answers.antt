use Rattle.std.proofs.Common.{◌≡◌, ◌++◌, [], drop, sym, ap, ◌∙◌, append-nil}
use Rattle.std.specs.List.{flat_map}
use Rattle.wire_base.specs.model.Control.{same_system}
use Rattle.wire_base.specs.model.View.{Claim, links_in, subs_in, tlvs_of}
use Rattle.view_graph.proofs.FragmentLaws.{adding_more, tlvs_over}
use Rattle.view_graph.proofs.claims.add_fragments.Goals as goal

pub returns-then-not-is_of-clause-links : goal.returns-then-not-is_of-clause-links
returns-then-not-is_of-clause-links c =
    let same = sym (ap (λ (x : Claim). same_system c.at-entry.result.now.id.system x.system) c.claim.view_is ∙ ap (λ s. same_system c.at-entry.result.now.id.system s) c.fragments.invariant.system) in
    let over : tlvs_of (drop c.fragments.place c.args.store.now.entries) c.args.claim.now.system ≡ [] = tlvs_over c.args.claim.now.system c.args.store.now.entries c.args.first c.fragments.place c.at-entry.result.now c.requires.ascending c.requires.begins c.fragments.auto.place c.at-entry.ensures (same ∙ sym c.is_of.ensures ∙ c.if-not-is_of.true) in
    sym (ap (λ ts. c.fragments.claim.links ++ flat_map links_in ts) over ∙ append-nil c.fragments.claim.links) ∙ c.fragments.invariant.links

pub returns-then-not-is_of-clause-subs : goal.returns-then-not-is_of-clause-subs
returns-then-not-is_of-clause-subs c =
    let same = sym (ap (λ (x : Claim). same_system c.at-entry.result.now.id.system x.system) c.claim.view_is ∙ ap (λ s. same_system c.at-entry.result.now.id.system s) c.fragments.invariant.system) in
    let over : tlvs_of (drop c.fragments.place c.args.store.now.entries) c.args.claim.now.system ≡ [] = tlvs_over c.args.claim.now.system c.args.store.now.entries c.args.first c.fragments.place c.at-entry.result.now c.requires.ascending c.requires.begins c.fragments.auto.place c.at-entry.ensures (same ∙ sym c.is_of.ensures ∙ c.if-not-is_of.true) in
    sym (ap (λ ts. c.fragments.claim.subs ++ flat_map subs_in ts) over ∙ append-nil c.fragments.claim.subs) ∙ c.fragments.invariant.subs

pub fragments-preserved : goal.fragments-preserved
fragments-preserved c =
    let done = c.in_ok-add_entry.ensures in
    adding_more c.args.store.now.entries c.fragments.place c.at-entry.result.now (tlvs_of (drop c.args.first c.args.store.now.entries) c.args.claim.now.system) c.args.claim.now c.fragments.claim c.add_entry.new.claim
    c.at-entry.ensures c.fragments.invariant done.system done.overload done.links done.subs
