use Rattle.std.proofs.Common.{◌≡◌, ◌∙◌, sym, length, ◌<◌, ◌≢◌, arith, true, false}
use Rattle.std.proofs.lemmas.Bool.{eqb-true, eqb-false}
use Rattle.domain_conf.proofs.HexLemmas.{hex_bad, hex_step, hex_end, hex_odd}
use Rattle.domain_conf.proofs.forms.hex_octets.Goals as goal

pub returns-in_default-hex_octet : goal.returns-in_default-hex_octet
returns-in_default-hex_octet c = hex_bad c.args.text.now c.pairs.rest.now c.pairs.octets c.in-len2-up.len_at_least c.in_default-hex_octet.ensures c.pairs.invariant

pub pairs-preserved : goal.pairs-preserved
pairs-preserved c = rw c.in_ok-push.ensures.ok (hex_step c.args.text.now c.pairs.rest.now c.pairs.octets c.in-Some.octet c.in-len2-up.len_at_least c.in-Some.ensures c.pairs.invariant)

pub returns-then-is_empty : goal.returns-then-is_empty
returns-then-is_empty c =
    let none : length c.pairs.rest.now ≡ 0 = eqb-true (length c.pairs.rest.now) 0 (sym c.is_empty.ensures ∙ c.if-is_empty.true) in
    sym (hex_end c.args.text.now c.pairs.rest.now c.pairs.octets none c.pairs.invariant)

pub returns : goal.returns
returns c =
    let some : length c.pairs.rest.now ≢ 0 = eqb-false (length c.pairs.rest.now) 0 (sym c.is_empty.ensures ∙ c.if-is_empty.false) in
    let few : length c.pairs.rest.now < 2 = c.in_default.len_below in
    let one : length c.pairs.rest.now ≡ 1 = omega arith in
    sym (hex_odd c.args.text.now c.pairs.rest.now c.pairs.octets one c.pairs.invariant)
