use Rattle.std.proofs.Common.{◌≡◌, ◌+◌, length}
use Rattle.replay_text.specs.Pieces.{words_of}
use Rattle.replay_text.proofs.arguments.has_words.Given as goal

abbrev pub invariant-words : goal.invariant-words
invariant-words l = l.i + length (words_of l.rest) ≡ length (words_of l.text)
