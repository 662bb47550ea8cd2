use Rattle.std.proofs.Common.{◌≡◌, eqb, false, take, List, ℕ, subst, All}
use Rattle.std.proofs.lemmas.Bool.{ne_eqb}
use Rattle.std.proofs.lemmas.List.{take_rest, take_all}
use Rattle.std.proofs.lemmas.List.Elements.{All-more}
use Rattle.domain_conf.proofs.Cutting.{cut_at, cut_none}
use Rattle.domain_conf.proofs.cut.cut.Goals as goal

pub returns-then-octet-stop : goal.returns-then-octet-stop
returns-then-octet-stop c = rw take_rest (cut_at c.args.stop c.loop-i.i c.args.text.now c.loop-i-test.true c.loop-i.invariant c.if-octet-stop.true)

pub loop-i-preserved : goal.loop-i-preserved
loop-i-preserved c = All-more (λ x. eqb x c.args.stop ≡ false) c.args.text.now c.loop-i.i 0 c.loop-i-test.true c.loop-i.invariant (ne_eqb _ _ c.if-octet-stop.false)

pub returns : goal.returns
returns c =
    let whole : take c.loop-i.i c.args.text.now ≡ c.args.text.now = take_all c.loop-i.i c.args.text.now c.loop-i-test.false in
    cut_none c.args.stop c.args.text.now (subst (λ (l : List ℕ). All (λ x. eqb x c.args.stop ≡ false) l) whole c.loop-i.invariant)
