-- The octets of what is written.
use Rattle.std.proofs.Common.{◌≡◌, ℕ, zero, suc, ◌+◌, ◌-◌, ◌/◌, ◌%◌, List, ◌++◌, length, Result, Ok, Err, OnOk, refl, ap, sym, ◌∙◌, append_assoc, arith}
use Rattle.std.specs.Prelude.{replicate}
use Rattle.std.proofs.lemmas.List.{length-append, length-replicate}
use Rattle.byteorder.specs.Endian.{little_bytes}
use Rattle.pcapng_frames.specs.Times.{padded}
use Rattle.pcapng_frames.specs.Written.{written_block, written_section, written_interface, written_interfaces, written_body}

pub no_interface : (old new : List ℕ) → new ≡ old ++ written_section → new ≡ old ++ (written_section ++ written_interfaces 0)
unfolding written_interfaces
no_interface old new is = is

one_more : (n : ℕ) → written_interfaces (suc n) ≡ written_interfaces n ++ written_interface
unfolding written_interfaces
one_more zero = refl
one_more (suc n) = ap (λ (l : List ℕ). written_interface ++ l) (one_more n) ∙ sym (append_assoc written_interface (written_interfaces n) written_interface)

pub next_interface : (n m : ℕ) (old now new : List ℕ) → m ≡ n + 1 → now ≡ old ++ (written_section ++ written_interfaces n) → new ≡ now ++ written_interface → new ≡ old ++ (written_section ++ written_interfaces m)
next_interface n m old now new next now-is new-is =
    new-is ∙ ap (λ (l : List ℕ). l ++ written_interface) now-is ∙ append_assoc old (written_section ++ written_interfaces n) written_interface
    ∙ ap (λ (l : List ℕ). old ++ (written_section ++ l)) (sym (one_more n))
    ∙ ap (λ (k : ℕ). old ++ (written_section ++ written_interfaces k)) (omega arith)

abbrev pub packet_front : (total interface ticks captured : ℕ) → List ℕ
packet_front total interface ticks captured =
    little_bytes 4 6 ++ (little_bytes 4 total ++ (little_bytes 4 interface ++ (little_bytes 4 (ticks / 4294967296) ++ (little_bytes 4 (ticks % 4294967296) ++ (little_bytes 4 captured ++ little_bytes 4 captured)))))

block_is : (total interface ticks : ℕ) (frame : List ℕ) → total ≡ 12 + length (written_body interface ticks frame)
    → (packet_front total interface ticks (length frame) ++ frame) ++ (replicate (padded (length frame) - length frame) 0 ++ little_bytes 4 total) ≡ written_block 6 (written_body interface ticks frame)
block_is total interface ticks frame is =
    ap (λ (l : List ℕ). packet_front total interface ticks (length frame) ++ l) (sym (append_assoc frame (replicate (padded (length frame) - length frame) 0) (little_bytes 4 total)))
    ∙ ap (λ (t : ℕ). little_bytes 4 6 ++ (little_bytes 4 t ++ (written_body interface ticks frame ++ little_bytes 4 t))) is

pub packet_is : (total interface ticks captured padding : ℕ) (frame : List ℕ) → total ≡ 32 + captured + padding → padding ≡ padded captured - captured → captured ≡ length frame
    → (packet_front total interface ticks captured ++ frame) ++ (replicate padding 0 ++ little_bytes 4 total) ≡ written_block 6 (written_body interface ticks frame)
packet_is total interface ticks captured padding frame total-is padding-is captured-is =
    let padding-by : padding ≡ padded (length frame) - length frame = padding-is ∙ ap (λ (n : ℕ). padded n - n) captured-is in
    ap (λ (n : ℕ). (packet_front total interface ticks n ++ frame) ++ (replicate padding 0 ++ little_bytes 4 total)) captured-is
    ∙ ap (λ (n : ℕ). (packet_front total interface ticks (length frame) ++ frame) ++ (replicate n 0 ++ little_bytes 4 total)) padding-by
    ∙ block_is total interface ticks frame (omega (arith, total-is, captured-is, padding-by, length-append frame (replicate (padded (length frame) - length frame) 0), length-replicate {A = ℕ} (padded (length frame) - length frame) 0))

pub appended : {E : Type 0} (result : Result (Unit {0}) E) (old one two front back whole : List ℕ) → one ≡ old ++ front → OnOk result (two ≡ one ++ back) → front ++ back ≡ whole → OnOk result (two ≡ old ++ whole)
appended (Ok u) old one two front back whole one-is two-is is = two-is ∙ ap (λ (l : List ℕ). l ++ back) one-is ∙ append_assoc old front back ∙ ap (λ (l : List ℕ). old ++ l) is
appended (Err e) old one two front back whole one-is two-is is = tt
