use Rattle.std.proofs.Common.{◌∷◌, ◌+◌, ◌*◌, ◌<◌, ℕ, map, heap_items, arith, subst}
use Rattle.std.specs.List.Sorted.{IsPermutation}
use Rattle.std.specs.declared.cmp.Reverse.{Reverse}
use Rattle.std.proofs.lemmas.List.Sorted.{IsPermutation-map}
use Rattle.path_tree.specs.Queue.{entry_of}
use Rattle.path_tree.proofs.QueueLemmas.{unpacked}
use Rattle.path_tree.proofs.queue.Queue.push.Goals as goal

pub returns : goal.returns
returns c =
    let item : Reverse ℕ = record { 0 = c.args.length * 65536 + c.from.result } in
    let low : c.args.node < 65536 = omega arith in
    rw (← c.self.view_is)
    (subst (λ (e : ℕ × ℕ). IsPermutation (e ∷ map entry_of (heap_items c.self.inside.heap)) (map entry_of (heap_items c.push.new.self))) (unpacked c.args.length c.args.node c.from.result low c.from.ensures)
    (IsPermutation-map entry_of (item ∷ heap_items c.self.inside.heap) (heap_items c.push.new.self) c.in_ok-push.ensures.permutation))
