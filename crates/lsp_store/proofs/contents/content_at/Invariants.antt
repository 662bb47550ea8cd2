use Rattle.std.proofs.Common.{◌-◌, suc, vec_len}
use Rattle.lsp_store.proofs.contents.content_at.Given as goal

abbrev pub decreases-places : goal.decreases-places
decreases-places l = suc l.place - vec_len l.last
