use Rattle.std.proofs.Common.{sym, ◌∙◌}
use Rattle.wire_base.specs.model.OnFrame.{node_place}
use Rattle.bier_forward.proofs.WayLaws.{without-prefix, with-prefix}
use Rattle.bier_forward.proofs.ways.way_by_fib.Goals as goal

pub returns-in_err-dst : goal.returns-in_err-dst
returns-in_err-dst c g built =
    let r = c.args.conf.now in
    let prefix = c.prefix_of.ensures.prefix r g (node_place g r.system) built in
    c.from_residual.ensures ∙ sym (without-prefix r g c.args.triple c.args.to c.args.bift (sym c.in_err-dst.was ∙ prefix))

pub returns-in_err-link : goal.returns-in_err-link
returns-in_err-link c g built =
    let r = c.args.conf.now in
    let prefix = c.prefix_of.ensures.prefix r g (node_place g r.system) built in
    let link = c.next_link.ensures.link r g (node_place g r.system) built in
    c.from_residual-in_err-link.ensures
    ∙ sym (with-prefix r g c.args.triple c.args.to c.args.bift c.in_ok-dst.dst _ (sym c.in_ok-dst.was ∙ prefix) (sym c.in_err-link.was ∙ link))

pub returns : goal.returns
returns c g built =
    let r = c.args.conf.now in
    let prefix = c.prefix_of.ensures.prefix r g (node_place g r.system) built in
    let link = c.next_link.ensures.link r g (node_place g r.system) built in
    c.way_on.ensures
    ∙ sym (with-prefix r g c.args.triple c.args.to c.args.bift c.in_ok-dst.dst _ (sym c.in_ok-dst.was ∙ prefix) (sym c.in_ok-link.was ∙ link))
