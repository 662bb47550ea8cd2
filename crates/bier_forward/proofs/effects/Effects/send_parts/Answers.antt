use Rattle.std.proofs.Common.{refl}
use Rattle.std.proofs.lemmas.Result.{on_ok_weaker, on_err_weaker}
use Rattle.bier_forward.proofs.effects.Effects.send_parts.Goals as goal

pub returns-clause-ok : goal.returns-clause-ok
returns-clause-ok c = rw (← c.self.view_is) (on_ok_weaker c.push_parts.result (λ e. rw e refl) c.push_parts.ensures.ok)

pub returns-clause-err : goal.returns-clause-err
returns-clause-err c = rw (← c.self.view_is) (on_err_weaker c.push_parts.result (λ e. rw e refl) c.push_parts.ensures.err)
