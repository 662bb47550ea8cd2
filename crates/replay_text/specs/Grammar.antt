-- The grammar of a hop text's lines: what a line spells, and where it is allowed.
use Rattle.std.specs.Prelude.{ℕ, ◌≡◌, ◌≤◌, ◌⊎◌, true, false, List, [], ◌∷◌, length, Some, None, is_some, codes}
use Rattle.wire_base.specs.declared.limits.TheConstants.{LINE_LIMIT}
use Rattle.wire_base.specs.declared.bsl.Bsl.{Bsl}
use Rattle.wire_base.specs.model.Place.{bits_of}
use Rattle.bier_bits.specs.Any.{bsl_of, positions_of}
use Rattle.replay_text.specs.declared.hop.HopState.{HopState}
use Rattle.replay_text.specs.declared.hop.HopLine.{HopLine}
use Rattle.replay_text.specs.declared.hop.HopLine.TheVariants as line
use Rattle.replay_text.specs.Pieces.{words_of}
use Rattle.wire_base.specs.model.Configuration.{is_name}
use Rattle.replay_text.specs.Tokens.{number_of}
use Rattle.replay_text.specs.Ids.{ids_of}
use Rattle.replay_text.specs.Hop.{has_row, is_comment}

-- `bsl L` is first: no length is known yet
pub record IsLength (state : HopState) (words : List (List ℕ)) (bsl : Bsl) : Type 0 where
  pub text : List ℕ
  pub words_are : words ≡ codes "bsl" ∷ text ∷ []
  pub number : number_of text ≡ Some (bits_of bsl)
  pub first : state.bsl ≡ None

-- `self K` follows it, once, with K from 0 to the length
pub record IsOwn (state : HopState) (words : List (List ℕ)) (own : ℕ) : Type 0 where
  pub text : List ℕ
  pub words_are : words ≡ codes "self" ∷ text ∷ []
  pub number : number_of text ≡ Some own
  pub bsl : Bsl
  pub after : state.bsl ≡ Some bsl
  pub within : own ≤ bits_of bsl
  pub once : state.own ≡ None

-- `row K NAME` is after both and before the packets, with K from 1 to the length and no row yet
pub record IsRow (state : HopState) (words : List (List ℕ)) (id : ℕ) (name : List ℕ) : Type 0 where
  pub text : List ℕ
  pub words_are : words ≡ codes "row" ∷ text ∷ name ∷ []
  pub number : number_of text ≡ Some id
  pub bsl : Bsl
  pub after : state.bsl ≡ Some bsl
  pub own_known : is_some state.own ≡ true
  pub before_packets : state.packets ≡ false
  pub above : 1 ≤ id
  pub within : id ≤ bits_of bsl
  pub unique : has_row state.rows id ≡ false
  pub named : is_name name ≡ true

-- `packet IDS` is after `bsl` and `self`, with ids from 1 to the length
pub record IsPacket (state : HopState) (words : List (List ℕ)) (bsl : Bsl) (ids : List ℕ) : Type 0 where
  pub text : List ℕ
  pub words_are : words ≡ codes "packet" ∷ text ∷ []
  pub after : state.bsl ≡ Some bsl
  pub own_known : is_some state.own ≡ true
  pub spelled : ids_of (bits_of bsl) text ≡ Some ids

abbrev pub IsSaid : HopState → List (List ℕ) → HopLine → Type 0
IsSaid state words line.Empty = words ≡ []
IsSaid state words (line.Length bsl) = IsLength state words bsl
IsSaid state words (line.Own own) = IsOwn state words own
IsSaid state words (line.Row row) = IsRow state words row.id row.name
IsSaid state words (line.Packet bits) = IsPacket state words (bsl_of bits) (positions_of bits)

-- A line of at most 16,384 octets, without its line ending: a comment, or words that are valid here.
pub record IsLine (state : HopState) (text : List ℕ) (said : HopLine) : Type 0 where
  pub short : length text ≤ LINE_LIMIT
  pub says : ((is_comment text ≡ true) × (said ≡ line.Empty)) ⊎ ((is_comment text ≡ false) × IsSaid state (words_of text) said)
