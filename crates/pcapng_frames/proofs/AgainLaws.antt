-- What was written is read again.
use Rattle.std.proofs.Common.{◌≡◌, ℕ, zero, suc, ◌+◌, ◌-◌, ◌*◌, ◌/◌, ◌%◌, ◌<◌, ◌≤◌, Bool, true, List, [], ◌∷◌, ◌++◌, length, take, drop, Result, Ok, Err, Some, None, OnOk, refl, sym, ap, ap₂, ◌∙◌, append_assoc, arith}
use Rattle.std.specs.Prelude.{replicate, slice_get}
use Rattle.std.proofs.lemmas.Bool.{le-ltb, le-leb, eq-eqb}
use Rattle.std.proofs.lemmas.List.{length-append, length-replicate, take_at, drop_at, replicate-append-replicate}
use Rattle.byteorder.specs.Endian.{little_bytes}
use Rattle.byteorder.specs.Numbers.{little_number-reads_back}
use Rattle.pcapng_frames.specs.declared.interface.Interface.{Interface}
use Rattle.pcapng_frames.specs.declared.moment.Moment.{Moment}
use Rattle.pcapng_frames.specs.declared.block.Block.{Block}
use Rattle.pcapng_frames.specs.declared.order.Order.TheVariants as orders
use Rattle.pcapng_frames.specs.declared.content.Content.TheVariants as contents
use Rattle.pcapng_frames.specs.declared.packet.Packet.{Packet}
use Rattle.pcapng_frames.specs.declared.packet.NgRecord.{NgRecord}
use Rattle.pcapng_frames.specs.declared.reader.Step.TheVariants as steps
use Rattle.pcapng_frames.specs.declared.reader.Taken.{Taken}
use Rattle.pcapng_frames.specs.declared.reader.Taken.TheVariants as taken
use Rattle.pcapng_frames.specs.declared.faults.NgFault.{NgFault}
use Rattle.pcapng_frames.specs.Blocks.{number, whole_at, sized_at, block_at}
use Rattle.pcapng_frames.specs.Times.{padded, units, moment_in, resolution_by, resolution_of}
use Rattle.pcapng_frames.specs.Packets.{content_at, enhanced_of, enhanced_on, as_packet, record_of}
use Rattle.pcapng_frames.specs.Draining.{more_after, drain_on}
use Rattle.pcapng_frames.specs.Reading.{NgReading, ng_unread, ng_fed, by_content, by_block, take_of, ng_next, ng_size, ng_drained, ng_end, ng_records}
use Rattle.pcapng_frames.specs.Written.{written_block, written_section, written_interface, written_interfaces, written_head, written_body, written_packet, plain, writing, written_record, written_all, IsWritable, AreWritable}
use Rattle.pcapng_frames.proofs.DrainLaws.{drained_next}
use Rattle.pcapng_frames.proofs.ReadLaws.{ng_laws, took_nothing, took_skipped, took_packet}

-- ---- the head

in_section : (interfaces : List Interface) (before : Moment) (octets : List ℕ) → NgReading
in_section interfaces before octets = record { step = steps.Section orders.Little; interfaces = interfaces; before = before; octets = octets }

section_block : (rest : List ℕ) → block_at None (written_section ++ rest) ≡ Ok (Some (record { order = orders.Little; kind = 168627466; size = 28 }))
unfolding block_at
section_block rest =
    let n : 28 ≤ length (written_section ++ rest) = omega arith in
    rw (le-ltb (length (written_section ++ rest)) 4 (omega (arith, n)), le-ltb (length (written_section ++ rest)) 12 (omega (arith, n)), le-ltb (length (written_section ++ rest)) 28 n) refl

section_taken : (rest : List ℕ) → take_of (ng_fed ng_unread (written_section ++ rest)) ≡ (Ok taken.Skipped, writing 0 (record { sec = 0; usec = 0 }) rest)
unfolding take_of content_at
section_taken rest = ap (by_block (ng_fed ng_unread (written_section ++ rest))) (section_block rest)

interface_block : (rest : List ℕ) → block_at (Some orders.Little) (written_interface ++ rest) ≡ Ok (Some (record { order = orders.Little; kind = 1; size = 20 }))
unfolding block_at
interface_block rest =
    let n : 20 ≤ length (written_interface ++ rest) = omega arith in
    rw (le-ltb (length (written_interface ++ rest)) 4 (omega (arith, n)), le-ltb (length (written_interface ++ rest)) 8 (omega (arith, n)), le-ltb (length (written_interface ++ rest)) 20 n) refl

interface_taken : (interfaces : List Interface) (before : Moment) (rest : List ℕ) → take_of (in_section interfaces before (written_interface ++ rest)) ≡ (Ok taken.Skipped, in_section (interfaces ++ plain ∷ []) before rest)
unfolding take_of content_at in_section resolution_of resolution_by
interface_taken interfaces before rest = ap (by_block (in_section interfaces before (written_interface ++ rest))) (interface_block rest)

-- ---- a packet

four_again : (x : ℕ) (rest : List ℕ) → x < 4294967296 → number orders.Little 4 (little_bytes 4 x ++ rest) ≡ x
four_again x rest small = little_number-reads_back 4 x rest small

abbrev packet_octets : ℕ → List ℕ → List ℕ → List ℕ
packet_octets total body rest = little_bytes 4 6 ++ (little_bytes 4 total ++ (body ++ (little_bytes 4 total ++ rest)))

packet_spelled : (body rest : List ℕ) → written_block 6 body ++ rest ≡ packet_octets (12 + length body) body rest
packet_spelled body rest = ap (λ (l : List ℕ). little_bytes 4 6 ++ (little_bytes 4 (12 + length body) ++ l)) (append_assoc body (little_bytes 4 (12 + length body)) rest)

packet_end : (total : ℕ) (body rest : List ℕ) → total ≡ 12 + length body → drop (total - 4) (packet_octets total body rest) ≡ little_bytes 4 total ++ rest
packet_end total body rest is =
    ap (λ (l : List ℕ). drop (total - 4) (little_bytes 4 6 ++ (little_bytes 4 total ++ l))) refl
    ∙ drop_at (little_bytes 4 6 ++ (little_bytes 4 total ++ body)) (little_bytes 4 total ++ rest) (total - 4) (omega (arith, is))

packet_block : (total : ℕ) (body rest : List ℕ) → total ≡ 12 + length body → 20 ≤ length body → total % 4 ≡ 0 → total ≤ 16777216
    → block_at (Some orders.Little) (packet_octets total body rest) ≡ Ok (Some (record { order = orders.Little; kind = 6; size = total }))
unfolding block_at
packet_block total body rest is long even fits =
    let octets = packet_octets total body rest in
    let n : total ≤ length octets = omega (arith, is, length-append body (little_bytes 4 total ++ rest)) in
    let size : number orders.Little 4 (little_bytes 4 total ++ (body ++ (little_bytes 4 total ++ rest))) ≡ total = four_again total (body ++ (little_bytes 4 total ++ rest)) (omega (arith, fits)) in
    let same : number orders.Little 4 (drop (total - 4) octets) ≡ total = ap (number orders.Little 4) (packet_end total body rest is) ∙ four_again total rest (omega (arith, fits)) in
    let whole : whole_at orders.Little 6 total octets ≡ Ok (Some (record { order = orders.Little; kind = 6; size = total })) = rw (le-ltb (length octets) total n, eq-eqb (number orders.Little 4 (drop (total - 4) octets)) total same) refl in
    let sized : sized_at orders.Little 6 total octets ≡ Ok (Some (record { order = orders.Little; kind = 6; size = total })) =
    rw (le-leb 32 total (omega (arith, is, long)), eq-eqb (total % 4) 0 even, le-leb total 16777216 fits) whole in
    rw (le-ltb (length octets) 4 (omega (arith, n, is)), le-ltb (length octets) 8 (omega (arith, n, is)))
    (ap (λ (t : ℕ). sized_at orders.Little 6 t octets) size ∙ sized)

packet_whole : (total : ℕ) (body rest : List ℕ) → total ≡ 12 + length body → take total (packet_octets total body rest) ≡ packet_octets total body []
packet_whole total body rest is =
    ap (λ (l : List ℕ). take total (little_bytes 4 6 ++ (little_bytes 4 total ++ l))) (sym (append_assoc body (little_bytes 4 total) rest))
    ∙ take_at (little_bytes 4 6 ++ (little_bytes 4 total ++ (body ++ little_bytes 4 total))) rest total (omega (arith, is, length-append body (little_bytes 4 total)))

packet_rest : (total : ℕ) (body rest : List ℕ) → total ≡ 12 + length body → drop total (packet_octets total body rest) ≡ rest
packet_rest total body rest is =
    ap (λ (l : List ℕ). drop total (little_bytes 4 6 ++ (little_bytes 4 total ++ l))) (sym (append_assoc body (little_bytes 4 total) rest))
    ∙ drop_at (little_bytes 4 6 ++ (little_bytes 4 total ++ (body ++ little_bytes 4 total))) rest total (omega (arith, is, length-append body (little_bytes 4 total)))

same_interface : (n i : ℕ) → i < n → slice_get (replicate n plain) i ≡ Some plain
same_interface zero i within = absurd (omega arith)
same_interface (suc n) zero within = refl
same_interface (suc n) (suc i) within = same_interface n i (omega arith)

body_length : (interface ticks : ℕ) (frame : List ℕ) → length (written_body interface ticks frame) ≡ 20 + padded (length frame)
body_length interface ticks frame = omega (arith, length-append frame (replicate (padded (length frame) - length frame) 0), length-replicate {A = ℕ} (padded (length frame) - length frame) 0)

-- an enhanced packet on such an interface, by its fields
enhanced_by : (octets : List ℕ) (place captured original high low : ℕ) → number orders.Little 4 (drop 20 octets) ≡ captured → number orders.Little 4 (drop 24 octets) ≡ original
    → number orders.Little 4 (drop 12 octets) ≡ high → number orders.Little 4 (drop 16 octets) ≡ low → captured ≤ length octets - 32 → captured ≤ 262144
    → enhanced_on orders.Little octets place (Some plain) ≡ enhanced_of place plain captured original (moment_in (high * 4294967296 + low) (units 6))
enhanced_by octets place captured original high low captured-is original-is high-is low-is fits few =
    rw (captured-is, original-is, high-is, low-is, le-ltb (length octets - 32) captured fits, le-ltb 262144 captured few) refl

module _ (interface sec usec : ℕ) (frame : List ℕ) (interface-small : interface < 4294967296) (sec-small : sec < 4294967296) (part : usec < 1000000) (short : length frame ≤ 65535) where
  ticks : ℕ
  ticks = sec * 1000000 + usec

  total : ℕ
  total = 32 + padded (length frame)

  block : List ℕ
  block = packet_octets total (written_body interface ticks frame) []

  ending : List ℕ
  ending = (frame ++ replicate (padded (length frame) - length frame) 0) ++ (little_bytes 4 total ++ [])

  moment_again : (high low : ℕ) → high ≡ ticks / 4294967296 → low ≡ ticks % 4294967296 → moment_in (high * 4294967296 + low) (units 6) ≡ Some (record { sec = sec; usec = usec })
  unfolding ticks
  moment_again high low high-is low-is =
      let all : high * 4294967296 + low ≡ sec * 1000000 + usec = omega (arith, high-is, low-is) in
      let seconds : (sec * 1000000 + usec) / 1000000 ≡ sec = omega arith in
      let parts : (sec * 1000000 + usec) % 1000000 ≡ usec = omega arith in
      let micro : usec * 1000000 / 1000000 ≡ usec = omega arith in
      rw (all, seconds, parts, micro, le-ltb 4294967295 sec (omega (arith, sec-small))) refl

  fits : length frame ≤ padded (length frame)
  fits = omega arith

  total-is : total ≡ 12 + length (written_body interface ticks frame)
  unfolding total
  total-is = omega (arith, body_length interface ticks frame)

  even : total % 4 ≡ 0
  unfolding total
  even = omega arith

  bounded : total ≤ 16777216
  unfolding total
  bounded = omega (arith, short)

  record_again : take (length frame) (drop 28 block) ≡ frame
  unfolding block
  record_again =
      ap (take (length frame)) (append_assoc frame (replicate (padded (length frame) - length frame) 0) (little_bytes 4 total ++ []))
      ∙ take_at frame (replicate (padded (length frame) - length frame) 0 ++ (little_bytes 4 total ++ [])) (length frame) refl

  packet_is : Packet
  packet_is = record { interface = interface; ethernet = true; moment = record { sec = sec; usec = usec }; whole = true; start = 28; captured = length frame }

  high-small : ticks / 4294967296 < 4294967296
  unfolding ticks
  high-small = omega (arith, sec-small, part)

  enhanced_again : enhanced_on orders.Little block interface (Some plain) ≡ Ok packet_is
  unfolding block packet_is total ending
  enhanced_again =
      let size = little_bytes 4 (length frame) in
      let original : number orders.Little 4 (drop 24 block) ≡ length frame = four_again (length frame) ending (omega (arith, short)) in
      let captured : number orders.Little 4 (drop 20 block) ≡ length frame = four_again (length frame) (size ++ ending) (omega (arith, short)) in
      let low : number orders.Little 4 (drop 16 block) ≡ ticks % 4294967296 = four_again (ticks % 4294967296) (size ++ (size ++ ending)) (omega arith) in
      let high : number orders.Little 4 (drop 12 block) ≡ ticks / 4294967296 = four_again (ticks / 4294967296) (little_bytes 4 (ticks % 4294967296) ++ (size ++ (size ++ ending))) high-small in
      let long : length block ≡ 12 + length (written_body interface ticks frame) = omega (arith, length-append (written_body interface ticks frame) (little_bytes 4 total ++ [])) in
      enhanced_by block interface (length frame) (length frame) (ticks / 4294967296) (ticks % 4294967296) captured original high low (omega (arith, long, body_length interface ticks frame)) (omega (arith, short))
      ∙ ap (enhanced_of interface plain (length frame) (length frame)) (moment_again (ticks / 4294967296) (ticks % 4294967296) refl refl)
      ∙ ap (λ (b : Bool). Ok (record { interface = interface; ethernet = true; moment = record { sec = sec; usec = usec }; whole = b; start = 28; captured = length frame })) (eq-eqb (length frame) (length frame) refl)

  content_again : (n : ℕ) (before : Moment) → interface < n
      → content_at (record { order = orders.Little; kind = 6; size = total }) (replicate n plain) before block ≡ Ok (contents.Packet packet_is)
  unfolding content_at block ending
  content_again n before within =
      let place : number orders.Little 4 (drop 8 block) ≡ interface = four_again interface (little_bytes 4 (ticks / 4294967296) ++ (little_bytes 4 (ticks % 4294967296) ++ (little_bytes 4 (length frame) ++ (little_bytes 4 (length frame) ++ ending)))) interface-small in
      ap as_packet (ap (λ (p : ℕ). enhanced_on orders.Little block p (slice_get (replicate n plain) p)) place
      ∙ ap (enhanced_on orders.Little block interface) (same_interface n interface within) ∙ enhanced_again)

  packet_taken : (n : ℕ) (before : Moment) (rest : List ℕ) → interface < n
      → take_of (writing n before (written_packet interface sec usec frame ++ rest)) ≡ (Ok (taken.Packet (written_record interface sec usec frame)), writing n (record { sec = sec; usec = usec }) rest)
  unfolding take_of ticks packet_is block
  packet_taken n before rest within =
      let body = written_body interface ticks frame in
      let found : Block = record { order = orders.Little; kind = 6; size = total } in
      let reading : NgReading = writing n before (packet_octets total body rest) in
      ap (λ (l : List ℕ). take_of (writing n before l)) (packet_spelled body rest ∙ ap (λ (t : ℕ). packet_octets t body rest) (sym total-is))
      ∙ ap (by_block reading) (packet_block total body rest total-is (omega (arith, body_length interface ticks frame)) even bounded)
      ∙ ap (λ (l : List ℕ). by_content found reading (content_at found (replicate n plain) before l)) (packet_whole total body rest total-is)
      ∙ ap (by_content found reading) (content_again n before within)
      ∙ ap₂ (λ (front l : List ℕ). (Ok (taken.Packet (record_of packet_is front)), writing n (record { sec = sec; usec = usec }) l)) (packet_whole total body rest total-is) (packet_rest total body rest total-is)
      ∙ ap (λ (l : List ℕ). (Ok (taken.Packet (written_record interface sec usec l)), writing n (record { sec = sec; usec = usec }) rest)) record_again

  -- a packet that was written is the next one
  pub packet_read : (n : ℕ) (before : Moment) (rest : List ℕ) → interface < n
      → ng_drained (writing n before (written_packet interface sec usec frame ++ rest)) ≡ more_after (written_record interface sec usec frame) (ng_drained (writing n (record { sec = sec; usec = usec }) rest))
  packet_read n before rest within =
      let reading = writing n before (written_packet interface sec usec frame ++ rest) in
      let after = writing n (record { sec = sec; usec = usec }) rest in
      let took : take_of reading ≡ (Ok (taken.Packet (written_record interface sec usec frame)), after) = packet_taken n before rest within in
      drained_next ng_next ng_size ng_fed ng_laws reading
      ∙ ap (drain_on ng_drained) (took_packet reading after (written_record interface sec usec frame) (ap (λ (a : Result Taken NgFault × NgReading). a.0) took) (sym (ap (λ (a : Result Taken NgFault × NgReading). a.1) took)))

-- ---- whole captures

-- readers with the same next packet have the same packets
same_packets : (one other : NgReading) → ng_next one ≡ ng_next other → ng_drained one ≡ ng_drained other
same_packets one other same =
    drained_next ng_next ng_size ng_fed ng_laws one ∙ ap (drain_on ng_drained) same ∙ sym (drained_next ng_next ng_size ng_fed ng_laws other)

skipped_is : (one other : NgReading) → take_of one ≡ (Ok taken.Skipped, other) → ng_drained one ≡ ng_drained other
skipped_is one other took =
    same_packets one other (took_skipped one other (ap (λ (a : Result Taken NgFault × NgReading). a.0) took) (sym (ap (λ (a : Result Taken NgFault × NgReading). a.1) took)))

interfaces_read : (m n : ℕ) (before : Moment) (rest : List ℕ) → ng_drained (writing m before (written_interfaces n ++ rest)) ≡ ng_drained (writing (m + n) before rest)
unfolding written_interfaces in_section
interfaces_read m zero before rest = ap (λ (k : ℕ). ng_drained (writing k before rest)) (omega arith)
interfaces_read m (suc n) before rest =
    ap (λ (l : List ℕ). ng_drained (writing m before l)) (append_assoc written_interface (written_interfaces n) rest)
    ∙ skipped_is (writing m before (written_interface ++ (written_interfaces n ++ rest))) (in_section (replicate m plain ++ plain ∷ []) before (written_interfaces n ++ rest)) (interface_taken (replicate m plain) before (written_interfaces n ++ rest))
    ∙ ap (λ (i : List Interface). ng_drained (in_section i before (written_interfaces n ++ rest))) (replicate-append-replicate m 1 plain)
    ∙ interfaces_read (m + 1) n before rest
    ∙ ap (λ (k : ℕ). ng_drained (writing k before rest)) (omega arith)

-- the head, and what follows it
pub head_read : (n : ℕ) (rest : List ℕ) → ng_drained (ng_fed ng_unread (written_head n ++ rest)) ≡ ng_drained (writing n (record { sec = 0; usec = 0 }) rest)
head_read n rest =
    skipped_is (ng_fed ng_unread (written_head n ++ rest)) (writing 0 (record { sec = 0; usec = 0 }) (written_interfaces n ++ rest)) (section_taken (written_interfaces n ++ rest))
    ∙ interfaces_read 0 n (record { sec = 0; usec = 0 }) rest
    ∙ ap (λ (k : ℕ). ng_drained (writing k (record { sec = 0; usec = 0 }) rest)) (omega arith)

nothing_taken : (n : ℕ) (before : Moment) → take_of (writing n before []) ≡ (Ok taken.Nothing, writing n before [])
unfolding take_of block_at
nothing_taken n before = refl

end_of_all : (n : ℕ) (before : Moment) → ng_drained (writing n before []) ≡ ([], writing n before [])
end_of_all n before =
    let took : take_of (writing n before []) ≡ (Ok taken.Nothing, writing n before []) = nothing_taken n before in
    drained_next ng_next ng_size ng_fed ng_laws (writing n before [])
    ∙ ap (drain_on ng_drained) (took_nothing (writing n before []) (writing n before []) (ap (λ (a : Result Taken NgFault × NgReading). a.0) took) (sym (ap (λ (a : Result Taken NgFault × NgReading). a.1) took)))

record_same : (n : ℕ) (read : NgRecord) → IsWritable n read → written_record read.interface read.cap.sec read.cap.usec read.cap.octets ≡ read
record_same n read is =
    ap₂ (λ (e w : Bool). record { interface = read.interface; ethernet = e; cap = record { sec = read.cap.sec; usec = read.cap.usec; whole = w; octets = read.cap.octets } }) (sym is.ethernet) (sym is.whole)

all_read : (n : ℕ) (before : Moment) (records : List NgRecord) → n ≤ 64000 → AreWritable n records → (last : Moment) × (ng_drained (writing n before (written_all records)) ≡ (records, writing n last []))
unfolding written_all
all_read n before [] few are = (before, end_of_all n before)
all_read n before (read ∷ more) few are =
    let is = are.0 in
    let rest = all_read n (record { sec = read.cap.sec; usec = read.cap.usec }) more few are.1 in (
      rest.0,
      packet_read read.interface read.cap.sec read.cap.usec read.cap.octets (omega (arith, is.within)) is.second is.part is.short n before (written_all more) is.within
          ∙ ap₂ (λ (r : NgRecord) (d : List NgRecord × NgReading). more_after r d) (record_same n read is) rest.1,
    )

-- What is written is read again.
pub capture_read : (n : ℕ) (records : List NgRecord) → n ≤ 64000 → AreWritable n records → ng_records (written_head n ++ written_all records) ≡ (records, None)
capture_read n records few are =
    let rest = all_read n (record { sec = 0; usec = 0 }) records few are in
    ap (λ (d : List NgRecord × NgReading). (d.0, ng_end d.1)) (head_read n (written_all records) ∙ rest.1)

-- as the writers say it
pub head_again : {E : Type 0} (result : Result (Unit {0}) E) (old new : List ℕ) (n : ℕ) → OnOk result (new ≡ old ++ written_head n)
    → OnOk result ((rest : List ℕ) → ng_drained (ng_fed ng_unread (drop (length old) new ++ rest)) ≡ ng_drained (writing n (record { sec = 0; usec = 0 }) rest))
head_again (Ok u) old new n is = λ rest. ap (λ (l : List ℕ). ng_drained (ng_fed ng_unread (l ++ rest))) (ap (drop (length old)) is ∙ drop_at old (written_head n) (length old) refl) ∙ head_read n rest
head_again (Err e) old new n is = tt

pub packet_again : {E : Type 0} (result : Result (Unit {0}) E) (old new : List ℕ) (interface sec usec : ℕ) (frame : List ℕ) → interface < 4294967296 → sec < 4294967296 → usec < 1000000 → length frame ≤ 65535
    → OnOk result (new ≡ old ++ written_packet interface sec usec frame)
    → OnOk result ((n : ℕ) (before : Moment) (rest : List ℕ) → interface < n
    → ng_drained (writing n before (drop (length old) new ++ rest)) ≡ more_after (written_record interface sec usec frame) (ng_drained (writing n (record { sec = sec; usec = usec }) rest)))
packet_again (Ok u) old new interface sec usec frame interface-small sec-small part short is = λ n before rest within.
    ap (λ (l : List ℕ). ng_drained (writing n before (l ++ rest))) (ap (drop (length old)) is ∙ drop_at old (written_packet interface sec usec frame) (length old) refl)
    ∙ packet_read interface sec usec frame interface-small sec-small part short n before rest within
packet_again (Err e) old new interface sec usec frame interface-small sec-small part short is = tt
