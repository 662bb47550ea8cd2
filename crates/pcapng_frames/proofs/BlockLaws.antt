-- What is read of a block stays so when more octets come.
use Rattle.std.proofs.Common.{◌≡◌, ℕ, ◌-◌, ◌+◌, ◌≤◌, true, false, ◌&&◌, ltb, ◌==◌, List, ◌++◌, length, drop, Result, Ok, Err, Option, Some, None, refl, sym, ap, ◌∙◌, subst, arith, inl, inr}
use Rattle.std.specs.Prelude.{◌%◌, nat_le}
use Rattle.std.proofs.lemmas.Bool.{cases_lt, cases_Bool, lt-ltb, le-ltb, leb-true, and_parts}
use Rattle.std.proofs.lemmas.List.{length-drop, length-append, drop-append-le}
use Rattle.byteorder.specs.Endian.{big_number, little_number}
use Rattle.byteorder.specs.Numbers.{big_from-append, little_from-append}
use Rattle.pcapng_frames.specs.declared.order.Order.{Order}
use Rattle.pcapng_frames.specs.declared.order.Order.TheVariants as orders
use Rattle.pcapng_frames.specs.declared.block.Block.{Block}
use Rattle.pcapng_frames.specs.declared.block.TheConstants.{SECTION_HEADER, INTERFACE, SIMPLE_PACKET, ENHANCED_PACKET, LONGEST_BLOCK}
use Rattle.pcapng_frames.specs.declared.faults.NgFault.{NgFault}
use Rattle.pcapng_frames.specs.Blocks.{number, order_of, least, is_length, whole_at, sized_at, section_at, inner_at, block_at}

-- a number whose octets are there
number_same : (order : Order) (n at : ℕ) (octets more : List ℕ) → at + n ≤ length octets → number order n (drop at (octets ++ more)) ≡ number order n (drop at octets)
number_same orders.Big n at octets more there =
    ap (big_number n) (drop-append-le at octets more (omega arith)) ∙ big_from-append n (drop at octets) more (omega (arith, length-drop at octets))
number_same orders.Little n at octets more there =
    ap (little_number n) (drop-append-le at octets more (omega arith)) ∙ little_from-append n (drop at octets) more (omega (arith, length-drop at octets))

-- a block has room for its type and both lengths
least_twelve : (kind : ℕ) → 12 ≤ least kind
least_twelve kind = elim (cases_Bool (kind == SECTION_HEADER)) [
  | inl is ↦ rw is (omega arith)
  | inr not_first ↦ elim (cases_Bool (kind == INTERFACE)) [
    | inl is ↦ rw (not_first, is) (omega arith)
    | inr not_second ↦ elim (cases_Bool (kind == ENHANCED_PACKET)) [
      | inl is ↦ rw (not_first, not_second, is) (omega arith)
      | inr not_third ↦ elim (cases_Bool (kind == SIMPLE_PACKET)) [
        | inl is ↦ rw (not_first, not_second, not_third, is) (omega arith)
        | inr not_fourth ↦ rw (not_first, not_second, not_third, not_fourth) (omega arith)
      ]
    ]
  ]
]

length_twelve : (kind size : ℕ) → is_length kind size ≡ true → 12 ≤ size
length_twelve kind size is =
    let both = and_parts (nat_le (least kind) size) ((size % 4 == 0) && nat_le size LONGEST_BLOCK) is in
    omega (arith, least_twelve kind, leb-true (least kind) size both.0)

-- what was read stays, and a block that was found is whole
abbrev pub BlockGrows : List ℕ → Result (Option Block) NgFault → Result (Option Block) NgFault → Type 0
BlockGrows octets (Ok None) later = Unit {0}
BlockGrows octets (Ok (Some block)) later = (later ≡ Ok (Some block)) × ((12 ≤ block.size) × (block.size ≤ length octets))
BlockGrows octets (Err fault) later = later ≡ Err fault

whole_grows : (order : Order) (kind size : ℕ) (octets more : List ℕ) → 12 ≤ size → BlockGrows octets (whole_at order kind size octets) (whole_at order kind size (octets ++ more))
whole_grows order kind size octets more twelve = elim (cases_lt (length octets) size) [
  | inl lt ↦ rw (lt-ltb (length octets) size lt) tt
  | inr le ↦
      let later : ltb (length (octets ++ more)) size ≡ false = le-ltb (length (octets ++ more)) size (omega (arith, length-append octets more)) in
      let same : number order 4 (drop (size - 4) (octets ++ more)) ≡ number order 4 (drop (size - 4) octets) = number_same order 4 (size - 4) octets more (omega arith) in
      elim (cases_Bool (number order 4 (drop (size - 4) octets) == size)) [
        | inl is ↦ rw (le-ltb (length octets) size le, later, same, is) (refl, (twelve, le))
        | inr not_so ↦ rw (le-ltb (length octets) size le, later, same, not_so) refl
      ]
]

sized_grows : (order : Order) (kind size : ℕ) (octets more : List ℕ) → BlockGrows octets (sized_at order kind size octets) (sized_at order kind size (octets ++ more))
sized_grows order kind size octets more = elim (cases_Bool (is_length kind size)) [
  | inl is ↦ rw is (whole_grows order kind size octets more (length_twelve kind size is))
  | inr not_so ↦ rw not_so refl
]

section_grows : (order : Option Order) (octets more : List ℕ) → 12 ≤ length octets → BlockGrows octets (section_at order octets) (section_at order (octets ++ more))
section_grows None octets more there = refl
section_grows (Some order) octets more there =
    subst (λ (size : ℕ). BlockGrows octets (sized_at order SECTION_HEADER (number order 4 (drop 4 octets)) octets) (sized_at order SECTION_HEADER size (octets ++ more)))
    (sym (number_same order 4 4 octets more (omega arith))) (sized_grows order SECTION_HEADER (number order 4 (drop 4 octets)) octets more)

inner_grows : (within : Option Order) (octets more : List ℕ) → BlockGrows octets (inner_at within octets) (inner_at within (octets ++ more))
inner_grows None octets more = refl
inner_grows (Some order) octets more = elim (cases_lt (length octets) 8) [
  | inl lt ↦ rw (lt-ltb (length octets) 8 lt) tt
  | inr le ↦
      let later : ltb (length (octets ++ more)) 8 ≡ false = le-ltb (length (octets ++ more)) 8 (omega (arith, length-append octets more)) in
      let kind : number order 4 (octets ++ more) ≡ number order 4 octets = number_same order 4 0 octets more (omega arith) in
      let size : number order 4 (drop 4 (octets ++ more)) ≡ number order 4 (drop 4 octets) = number_same order 4 4 octets more (omega arith) in
      rw (le-ltb (length octets) 8 le, later, kind, size) (sized_grows order (number order 4 octets) (number order 4 (drop 4 octets)) octets more)
]

pub block_grows : (within : Option Order) (octets more : List ℕ) → BlockGrows octets (block_at within octets) (block_at within (octets ++ more))
unfolding block_at
block_grows within octets more = elim (cases_lt (length octets) 4) [
  | inl lt ↦ rw (lt-ltb (length octets) 4 lt) tt
  | inr le ↦
      let later : ltb (length (octets ++ more)) 4 ≡ false = le-ltb (length (octets ++ more)) 4 (omega (arith, length-append octets more)) in
      let kind : big_number 4 (octets ++ more) ≡ big_number 4 octets = big_from-append 4 octets more le in
      elim (cases_Bool (big_number 4 octets == SECTION_HEADER)) [
        | inr not_so ↦ rw (le-ltb (length octets) 4 le, later, kind, not_so) (inner_grows within octets more)
        | inl is ↦ elim (cases_lt (length octets) 12) [
          | inl lt ↦ rw (le-ltb (length octets) 4 le, is, lt-ltb (length octets) 12 lt) tt
          | inr there ↦
              let still : ltb (length (octets ++ more)) 12 ≡ false = le-ltb (length (octets ++ more)) 12 (omega (arith, length-append octets more)) in
              let magic : big_number 4 (drop 8 (octets ++ more)) ≡ big_number 4 (drop 8 octets) = number_same orders.Big 4 8 octets more (omega arith) in
              rw (le-ltb (length octets) 4 le, later, kind, is, le-ltb (length octets) 12 there, still, magic) (section_grows (order_of (big_number 4 (drop 8 octets))) octets more there)
        ]
      ]
]
