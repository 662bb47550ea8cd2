use Rattle.std.proofs.Common.{sym, ◌∙◌, ap}
use Rattle.std.specs.Prelude.{is_some}
use Rattle.view_graph.proofs.OwnerLaws.{put_first, put_none, alone_put}
use Rattle.view_graph.proofs.owners.add_prefix.Goals as goal

pub returns-then-is_some-clause-owner : goal.returns-then-is_some-clause-owner
returns-then-is_some-clause-owner c = put_first c.args.prefix c.args.system c.in_ok-before.before c.args.owners.now c.insert.new.self c.in_ok-before.ensures.updates c.in_ok-before.ensures.old (ap is_some (sym c.owner_with-owner.ensures) ∙ sym c.is_some.ensures ∙ c.if-is_some.true)

pub returns-then-is_some-clause-alone : goal.returns-then-is_some-clause-alone
returns-then-is_some-clause-alone c = λ _. alone_put c.args.prefix c.args.system c.args.owners.now c.insert.new.self c.in_ok-before.ensures.updates

pub returns-clause-owner : goal.returns-clause-owner
returns-clause-owner c = put_none c.args.prefix c.args.system c.in_ok-before.before c.args.owners.now c.insert.new.self c.insert-2.new.self c.in_ok-before.ensures.updates c.in_ok-insert.ensures.updates c.in_ok-before.ensures.old (ap is_some (sym c.owner_with-owner.ensures) ∙ sym c.is_some.ensures ∙ c.if-is_some.false)
