-- A line by its words: none where it is blank or a comment.
use Rattle.std.specs.Prelude.{ℕ, List, [], if◌then◌else◌}
use Rattle.replay_text.specs.Hop.{is_comment}
use Rattle.replay_text.specs.Pieces.{words_of}

abbrev pub line_words : List ℕ → List (List ℕ)
line_words text = if is_comment text then [] else words_of text
