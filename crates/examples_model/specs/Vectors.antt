-- The octets of PDUs and frames of the small domains, as they are on the wire.
use Rattle.std.specs.Prelude.{ℕ, List, [], ◌∷◌, ◌++◌}

-- the TLVs of A's LSP in the pair, where its link is up: area, protocols, name, the link to B, and its prefix with
-- the BIER Info of sub-domain 0
abbrev pub pair_a_content : List ℕ
pair_a_content =
    1 ∷ 4 ∷ 3 ∷ 73 ∷ 0 ∷ 1
    ∷ 129 ∷ 1 ∷ 204
    ∷ 137 ∷ 1 ∷ 65
    ∷ 22 ∷ 11 ∷ 0 ∷ 0 ∷ 0 ∷ 0 ∷ 0 ∷ 2 ∷ 0 ∷ 0 ∷ 0 ∷ 10 ∷ 0
    ∷ 135 ∷ 23 ∷ 0 ∷ 0 ∷ 0 ∷ 0 ∷ 96 ∷ 10 ∷ 0 ∷ 0 ∷ 1 ∷ 13 ∷ 32 ∷ 11 ∷ 0 ∷ 0 ∷ 0 ∷ 0 ∷ 1 ∷ 1 ∷ 4 ∷ 0 ∷ 16 ∷ 0 ∷ 100
    ∷ []

-- A's first LSP, of level 2: 77 octets, a lifetime of 1200, sequence number 1, checksum 55 4e, overload bit not set
abbrev pub pair_a_lsp : List ℕ
pair_a_lsp =
    131 ∷ 27 ∷ 1 ∷ 0 ∷ 20 ∷ 1 ∷ 0 ∷ 0
    ∷ 0 ∷ 77 ∷ 4 ∷ 176
    ∷ 0 ∷ 0 ∷ 0 ∷ 0 ∷ 0 ∷ 1 ∷ 0 ∷ 0
    ∷ 0 ∷ 0 ∷ 0 ∷ 1
    ∷ 85 ∷ 78 ∷ 3
    ∷ pair_a_content

-- A's first CSNP: it covers all LSP IDs and lists that LSP
abbrev pub pair_a_csnp : List ℕ
pair_a_csnp =
    131 ∷ 33 ∷ 1 ∷ 0 ∷ 25 ∷ 1 ∷ 0 ∷ 0
    ∷ 0 ∷ 51
    ∷ 0 ∷ 0 ∷ 0 ∷ 0 ∷ 0 ∷ 1 ∷ 0
    ∷ 0 ∷ 0 ∷ 0 ∷ 0 ∷ 0 ∷ 0 ∷ 0 ∷ 0
    ∷ 255 ∷ 255 ∷ 255 ∷ 255 ∷ 255 ∷ 255 ∷ 255 ∷ 255
    ∷ 9 ∷ 16 ∷ 4 ∷ 176 ∷ 0 ∷ 0 ∷ 0 ∷ 0 ∷ 0 ∷ 1 ∷ 0 ∷ 0 ∷ 0 ∷ 0 ∷ 0 ∷ 1 ∷ 85 ∷ 78
    ∷ []

-- B's acknowledgement of it, five seconds after its receipt
abbrev pub pair_b_psnp : List ℕ
pair_b_psnp =
    131 ∷ 17 ∷ 1 ∷ 0 ∷ 27 ∷ 1 ∷ 0 ∷ 0 ∷ 0 ∷ 35 ∷ 0 ∷ 0 ∷ 0 ∷ 0 ∷ 0 ∷ 2
    ∷ 0 ∷ 9 ∷ 16 ∷ 4 ∷ 171 ∷ 0 ∷ 0 ∷ 0 ∷ 0 ∷ 0 ∷ 1 ∷ 0 ∷ 0 ∷ 0 ∷ 0 ∷ 0
    ∷ 1 ∷ 85 ∷ 78 ∷ []

-- a BIER packet after the label 100, for the positions 1 and 3
abbrev pub labelled_packet : List ℕ
labelled_packet = 0 ∷ 6 ∷ 65 ∷ 64 ∷ 80 ∷ 16 ∷ 0 ∷ 10 ∷ 0 ∷ 4 ∷ 0 ∷ 1 ∷ 0 ∷ 0 ∷ 0 ∷ 0 ∷ 0 ∷ 0 ∷ 0 ∷ 5 ∷ []

-- its frame
abbrev pub labelled_frame : List ℕ
labelled_frame = 2 ∷ 0 ∷ 0 ∷ 1 ∷ 0 ∷ 0 ∷ 2 ∷ 0 ∷ 0 ∷ 0 ∷ 0 ∷ 1 ∷ 136 ∷ 71 ∷ labelled_packet

-- the header of a capture, little-endian, with microseconds
abbrev pub capture_head : List ℕ
capture_head = 212 ∷ 195 ∷ 178 ∷ 161 ∷ 2 ∷ 0 ∷ 4 ∷ 0 ∷ 0 ∷ 0 ∷ 0 ∷ 0 ∷ 0 ∷ 0 ∷ 0 ∷ 0 ∷ 255 ∷ 255 ∷ 0 ∷ 0 ∷ 1 ∷ 0 ∷ 0 ∷ 0 ∷ []

-- that frame as its only record, captured at second 1, and the first 8 octets of a second record's header
abbrev pub capture_of_one : List ℕ
capture_of_one = capture_head ++ (1 ∷ 0 ∷ 0 ∷ 0 ∷ 0 ∷ 0 ∷ 0 ∷ 0 ∷ 34 ∷ 0 ∷ 0 ∷ 0 ∷ 34 ∷ 0 ∷ 0 ∷ 0 ∷ labelled_frame)
