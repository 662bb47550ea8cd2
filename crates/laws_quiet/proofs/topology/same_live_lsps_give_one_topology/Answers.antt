use Rattle.laws_quiet.proofs.OwnLaws.{own_lsp_of}
use Rattle.laws_quiet.proofs.SaidLaws.{same_said}
use Rattle.laws_quiet.proofs.SameLaws.{same_topology}
use Rattle.laws_quiet.proofs.topology.same_live_lsps_give_one_topology.Goals as goal

pub returns : goal.returns
returns _ c d kept others issued issues unspent spends kinds same =
    let asc = kept.control.entries.in_order in
    let bsc = others.control.entries.in_order in
    same_topology c d kept.sound others.sound asc bsc (own_lsp_of c kept issued unspent) (own_lsp_of d others issues spends) kinds (same_said c.entries d.entries asc bsc same)
