use Rattle.std.proofs.Common.{◌≡◌, ℕ, List, Bor, map, take, string_bytes}
use Rattle.tool_host.proofs.words.words_of.Given as goal

abbrev pub invariant-loop-word : goal.invariant-loop-word
invariant-loop-word l = map {A = Bor (List ℕ)} {B = List ℕ} (λ word. word.now) l.words.items ≡ map (string_bytes {Z = Rattle.std.proofs.Common.Global}) (take l.word-index l.behind)
