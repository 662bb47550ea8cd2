-- A text whose end is collected in a block.
use Rattle.std.specs.Prelude.{ℕ, ◌≡◌, ◌+◌, List, [], ◌++◌, length, nat_lt, if◌then◌else◌}

-- the text and the block, after the block was moved to the text if it has less room than for that many octets
abbrev pub with_room : ℕ → List ℕ → List ℕ → List ℕ × List ℕ
with_room size text block = if nat_lt 256 (length block + size) then (text ++ block, []) else (text, block)

-- what is written is the old text and a front part of what was to follow it
pub record IsFront (old more written : List ℕ) : Type 0 where
  pub done : List ℕ
  pub left : List ℕ
  pub parts : more ≡ done ++ left
  pub is : written ≡ old ++ done
