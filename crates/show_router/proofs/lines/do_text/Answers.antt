use Rattle.std.proofs.Common.{ℕ, subst}
use Rattle.replay_text.specs.Check.{CheckFits}
use Rattle.show_router.proofs.lines.do_text.Goals as goal

pub do_said-requires : goal.do_said-requires
do_said-requires c = subst (λ (n : ℕ). CheckFits n c.in-Ok.said) c.requires.names c.in-Ok.ensures.fits
