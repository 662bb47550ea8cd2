-- What the top of the heap says of the lengths in it.
use Rattle.std.proofs.Common.{◌≡◌, ℕ, ◌+◌, ◌*◌, ◌/◌, ◌%◌, ◌<◌, ◌≤◌, List, [], ◌∷◌, map, All, ap, ◌∙◌, arith}
use Rattle.std.specs.declared.cmp.Reverse.{Reverse}
use Rattle.std.specs.BinaryHeap.{IsUpperBound}
use Rattle.std.proofs.lemmas.List.Elements.{All-nil, All-cons}
use Rattle.std.proofs.lemmas.Map.Keys.{ge_from_not_lt}
use Rattle.std.proofs.lemmas.Nat.{div-mul-add}
use Rattle.path_tree.specs.Queue.{entry_cmp, entry_of}

-- the number of a length and a node has both
pub unpacked : (length node wide : ℕ) → node < 65536 → wide ≡ node → entry_of (record { 0 = length * 65536 + wide }) ≡ (length, node)
unpacked length node wide low same =
    let whole : (length * 65536 + node) / 65536 ≡ length = div-mul-add length 65536 node low in
    let rest : (length * 65536 + node) % 65536 ≡ node = omega (arith, low, whole) in
    ap (λ (n : ℕ). entry_of (record { 0 = length * 65536 + n })) same ∙ ap (λ (n : ℕ). (n, (length * 65536 + node) % 65536)) whole ∙ ap (λ (n : ℕ). (length, n)) rest

part-grows : (m n : ℕ) → m ≤ n → m / 65536 ≤ n / 65536
part-grows m n le = omega (arith, le)

pub least-first : (e : Reverse ℕ) (rs : List (Reverse ℕ)) → IsUpperBound entry_cmp e rs → All (λ (other : ℕ × ℕ). (entry_of e).0 ≤ other.0) (map entry_of rs)
least-first e [] h = All-nil (λ (other : ℕ × ℕ). (entry_of e).0 ≤ other.0)
least-first e (r ∷ rs) h =
    All-cons (λ (other : ℕ × ℕ). (entry_of e).0 ≤ other.0) (entry_of r) (map entry_of rs)
    (part-grows e.0 r.0 (ge_from_not_lt r.0 e.0 h.0))
    (least-first e rs h.1)
