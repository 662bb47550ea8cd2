-- The next packet of a reader: block by block, and the same however its octets come.
use Rattle.std.proofs.Common.{◌≡◌, ℕ, zero, suc, ◌<◌, ◌≤◌, List, [], ◌∷◌, ◌++◌, length, take, drop, Result, Ok, Err, Option, Some, None, refl, sym, ap, ap₂, ◌∙◌, subst, append_assoc, append-nil, arith}
use Rattle.std.specs.List.{concat}
use Rattle.std.proofs.lemmas.List.{length-drop, take-append-le, drop-append-le}
use Rattle.pcapng_frames.specs.declared.block.Block.{Block}
use Rattle.pcapng_frames.specs.declared.content.Content.{Content}
use Rattle.pcapng_frames.specs.declared.content.Content.TheVariants as contents
use Rattle.pcapng_frames.specs.declared.packet.NgRecord.{NgRecord}
use Rattle.pcapng_frames.specs.declared.reader.Step.{Step}
use Rattle.pcapng_frames.specs.declared.reader.Step.TheVariants as steps
use Rattle.pcapng_frames.specs.declared.reader.Taken.{Taken}
use Rattle.pcapng_frames.specs.declared.reader.Taken.TheVariants as taken
use Rattle.pcapng_frames.specs.declared.faults.NgFault.{NgFault}
use Rattle.pcapng_frames.specs.declared.faults.NgFault.TheVariants as faults
use Rattle.pcapng_frames.specs.Blocks.{block_at}
use Rattle.pcapng_frames.specs.Packets.{content_at, record_of}
use Rattle.pcapng_frames.specs.Draining.{drain_on}
use Rattle.pcapng_frames.specs.Reading.{NgReading, ng_unread, ng_fed, ng_refused, by_content, by_block, take_in, take_of, walk_on, walk, ng_next, ng_size, ng_drained, ng_pieces, ng_left, ng_end, ng_end_in}
use Rattle.pcapng_frames.specs.Seen.{Answers, after_answer}
use Rattle.pcapng_frames.specs.After.{HasRead}
use Rattle.pcapng_frames.proofs.BlockLaws.{BlockGrows, block_grows}
use Rattle.pcapng_frames.proofs.DrainLaws.{Shrinks, Grows, IsReader, IsSpent, drained_next, pieces_joined, spent}

-- a block that was taken is taken too where more octets follow it, and leaves less
abbrev pub TakeGrows : NgReading → List ℕ → Result Taken NgFault × NgReading → Result Taken NgFault × NgReading → Type 0
TakeGrows reading more (Ok taken.Nothing, after) later = after ≡ reading
TakeGrows reading more (Ok taken.Skipped, after) later = (later ≡ (Ok taken.Skipped, ng_fed after more)) × (length after.octets < length reading.octets)
TakeGrows reading more (Ok (taken.Packet read), after) later = (later ≡ (Ok (taken.Packet read), ng_fed after more)) × (length after.octets < length reading.octets)
TakeGrows reading more (Err fault, after) later = (later ≡ (Err fault, ng_fed after more)) × (after.step ≡ steps.Refused fault)

shorter : (size : ℕ) (octets : List ℕ) → 12 ≤ size → size ≤ length octets → length (drop size octets) < length octets
shorter size octets twelve within = omega (arith, length-drop size octets)

content_grows : (block : Block) (reading : NgReading) (more : List ℕ) (content : Result Content NgFault) → 12 ≤ block.size → block.size ≤ length reading.octets
    → TakeGrows reading more (by_content block reading content) (by_content block (ng_fed reading more) content)
content_grows block reading more (Ok contents.Section) twelve within =
    (ap (λ (l : List ℕ). (Ok taken.Skipped, record { step = steps.Section block.order; interfaces = []; before = reading.before; octets = l })) (drop-append-le block.size reading.octets more within), shorter block.size reading.octets twelve within)
content_grows block reading more (Ok (contents.Interface interface)) twelve within =
    (ap (λ (l : List ℕ). (Ok taken.Skipped, record { step = reading.step; interfaces = reading.interfaces ++ interface ∷ []; before = reading.before; octets = l })) (drop-append-le block.size reading.octets more within), shorter block.size reading.octets twelve within)
content_grows block reading more (Ok (contents.Packet packet)) twelve within = (
  ap₂ (λ (front l : List ℕ). (Ok (taken.Packet (record_of packet front)), record { step = reading.step; interfaces = reading.interfaces; before = packet.moment; octets = l }))
      (take-append-le block.size reading.octets more within) (drop-append-le block.size reading.octets more within),
  shorter block.size reading.octets twelve within,
)
content_grows block reading more (Ok contents.Other) twelve within =
    (ap (λ (l : List ℕ). (Ok taken.Skipped, record { step = reading.step; interfaces = reading.interfaces; before = reading.before; octets = l })) (drop-append-le block.size reading.octets more within), shorter block.size reading.octets twelve within)
content_grows block reading more (Err fault) twelve within = (refl, refl)

by_block_grows : (reading : NgReading) (more : List ℕ) (read later : Result (Option Block) NgFault) → BlockGrows reading.octets read later
    → TakeGrows reading more (by_block reading read) (by_block (ng_fed reading more) later)
by_block_grows reading more (Ok None) later grows = refl
by_block_grows reading more (Ok (Some block)) later grows =
    subst (λ (l : Result (Option Block) NgFault). TakeGrows reading more (by_block reading (Ok (Some block))) (by_block (ng_fed reading more) l)) (sym grows.0)
    (subst (λ (l : List ℕ). TakeGrows reading more (by_block reading (Ok (Some block))) (by_content block (ng_fed reading more) (content_at block reading.interfaces reading.before l)))
    (sym (take-append-le block.size reading.octets more grows.1.1))
    (content_grows block reading more (content_at block reading.interfaces reading.before (take block.size reading.octets)) grows.1.0 grows.1.1))
by_block_grows reading more (Err fault) later grows =
    subst (λ (l : Result (Option Block) NgFault). TakeGrows reading more (Err fault, ng_refused fault reading) (by_block (ng_fed reading more) l)) (sym grows) (refl, refl)

take_in_grows : (step : Step) (reading : NgReading) (more : List ℕ) → reading.step ≡ step → TakeGrows reading more (take_in step reading) (take_in step (ng_fed reading more))
take_in_grows steps.Opening reading more is = by_block_grows reading more (block_at None reading.octets) (block_at None (reading.octets ++ more)) (block_grows None reading.octets more)
take_in_grows (steps.Section order) reading more is = by_block_grows reading more (block_at (Some order) reading.octets) (block_at (Some order) (reading.octets ++ more)) (block_grows (Some order) reading.octets more)
take_in_grows (steps.Refused fault) reading more is = (refl, is)

pub take_grows : (reading : NgReading) (more : List ℕ) → TakeGrows reading more (take_of reading) (take_of (ng_fed reading more))
unfolding take_of
take_grows reading more = take_in_grows reading.step reading more refl

-- a reader that met a fault answers it again
refused_again : (reading : NgReading) (fault : NgFault) → reading.step ≡ steps.Refused fault → take_of reading ≡ (Err fault, reading)
unfolding take_of
refused_again reading fault is = ap (λ (s : Step). take_in s reading) is

walk_on_steps : (n m : ℕ) (reading : NgReading) (answer later : Result Taken NgFault × NgReading) → TakeGrows reading [] answer later
    → ((r : NgReading) → length r.octets < length reading.octets → walk n r ≡ walk m r) → walk_on (walk n) answer ≡ walk_on (walk m) answer
walk_on_steps n m reading (Ok taken.Nothing, after) later grows same = refl
walk_on_steps n m reading (Ok taken.Skipped, after) later grows same = same after grows.1
walk_on_steps n m reading (Ok (taken.Packet read), after) later grows same = refl
walk_on_steps n m reading (Err fault, after) later grows same = refl

-- enough steps are enough
walk_steps : (n m : ℕ) (reading : NgReading) → length reading.octets < n → length reading.octets < m → walk n reading ≡ walk m reading
unfolding walk
walk_steps zero m reading n-enough m-enough = absurd (omega (arith, n-enough))
walk_steps (suc n) zero reading n-enough m-enough = absurd (omega (arith, m-enough))
walk_steps (suc n) (suc m) reading n-enough m-enough =
    walk_on_steps n m reading (take_of reading) (take_of (ng_fed reading [])) (take_grows reading [])
    (λ r less. walk_steps n m r (omega (arith, less, n-enough)) (omega (arith, less, m-enough)))

walk_on_next : (reading : NgReading) (answer later : Result Taken NgFault × NgReading) → TakeGrows reading [] answer later → walk_on (walk (length reading.octets)) answer ≡ walk_on ng_next answer
unfolding ng_next
walk_on_next reading (Ok taken.Nothing, after) later grows = refl
walk_on_next reading (Ok taken.Skipped, after) later grows = walk_steps (length reading.octets) (suc (length after.octets)) after grows.1 (omega arith)
walk_on_next reading (Ok (taken.Packet read), after) later grows = refl
walk_on_next reading (Err fault, after) later grows = refl

-- the first block, and what follows it
pub next_first : (reading : NgReading) → ng_next reading ≡ walk_on ng_next (take_of reading)
unfolding ng_next walk
next_first reading = walk_on_next reading (take_of reading) (take_of (ng_fed reading [])) (take_grows reading [])

-- what a block makes of the next packet
answer_is : (reading after : NgReading) (answer : Result Taken NgFault) → (take_of reading).0 ≡ answer → after ≡ (take_of reading).1 → ng_next reading ≡ walk_on ng_next (answer, after)
answer_is reading after answer is after-is = next_first reading ∙ ap₂ (λ (a : Result Taken NgFault) (r : NgReading). walk_on ng_next (a, r)) is (sym after-is)

pub took_nothing : (reading after : NgReading) → (take_of reading).0 ≡ Ok taken.Nothing → after ≡ (take_of reading).1 → ng_next reading ≡ (Ok None, after)
took_nothing reading after is after-is = answer_is reading after (Ok taken.Nothing) is after-is

pub took_skipped : (reading after : NgReading) → (take_of reading).0 ≡ Ok taken.Skipped → after ≡ (take_of reading).1 → ng_next reading ≡ ng_next after
took_skipped reading after is after-is = answer_is reading after (Ok taken.Skipped) is after-is

pub took_packet : (reading after : NgReading) (read : NgRecord) → (take_of reading).0 ≡ Ok (taken.Packet read) → after ≡ (take_of reading).1 → ng_next reading ≡ (Ok (Some read), after)
took_packet reading after read is after-is = answer_is reading after (Ok (taken.Packet read)) is after-is

less_on : (reading : NgReading) (answer later : Result Taken NgFault × NgReading) → TakeGrows reading [] answer later → answer.0 ≡ Ok taken.Skipped → length answer.1.octets < length reading.octets
less_on reading (Ok taken.Nothing, after) later grows is = absurd cc
less_on reading (Ok taken.Skipped, after) later grows is = grows.1
less_on reading (Ok (taken.Packet read), after) later grows is = absurd cc
less_on reading (Err fault, after) later grows is = absurd cc

pub skipped_less : (reading after : NgReading) → (take_of reading).0 ≡ Ok taken.Skipped → after ≡ (take_of reading).1 → length after.octets < length reading.octets
skipped_less reading after is after-is =
    subst (λ (r : NgReading). length r.octets < length reading.octets) (sym after-is) (less_on reading (take_of reading) (take_of (ng_fed reading [])) (take_grows reading []) is)

-- ---- the laws of a reader

shrinks_more : (n m : ℕ) (answer : Result (Option NgRecord) NgFault × NgReading) → n ≤ m → Shrinks ng_size n answer → Shrinks ng_size m answer
shrinks_more n m (Ok None, after) le shrinks = tt
shrinks_more n m (Ok (Some read), after) le shrinks = omega (arith, shrinks)
shrinks_more n m (Err fault, after) le shrinks = tt

shrinks_on : (reading : NgReading) (answer later : Result Taken NgFault × NgReading) → TakeGrows reading [] answer later
    → ((r : NgReading) → length r.octets < length reading.octets → Shrinks ng_size (length r.octets) (ng_next r)) → Shrinks ng_size (length reading.octets) (walk_on ng_next answer)
shrinks_on reading (Ok taken.Nothing, after) later grows shrinks = tt
shrinks_on reading (Ok taken.Skipped, after) later grows shrinks = shrinks_more (length after.octets) (length reading.octets) (ng_next after) (omega (arith, grows.1)) (shrinks after grows.1)
shrinks_on reading (Ok (taken.Packet read), after) later grows shrinks = grows.1
shrinks_on reading (Err fault, after) later grows shrinks = tt

next_shrinks : (n : ℕ) (reading : NgReading) → length reading.octets < n → Shrinks ng_size (length reading.octets) (ng_next reading)
next_shrinks zero reading enough = absurd (omega (arith, enough))
next_shrinks (suc n) reading enough =
    subst (Shrinks ng_size (length reading.octets)) (sym (next_first reading))
    (shrinks_on reading (take_of reading) (take_of (ng_fed reading [])) (take_grows reading []) (λ r less. next_shrinks n r (omega (arith, less, enough))))

grows_on : (reading : NgReading) (more : List ℕ) (answer : Result Taken NgFault × NgReading) → TakeGrows reading more answer (take_of (ng_fed reading more))
    → ((r : NgReading) → length r.octets < length reading.octets → Grows ng_next ng_fed more (ng_next r) (ng_next (ng_fed r more)))
    → Grows ng_next ng_fed more (walk_on ng_next answer) (ng_next (ng_fed reading more))
grows_on reading more (Ok taken.Nothing, after) grows goes = ap (λ (r : NgReading). ng_next (ng_fed r more)) (sym grows)
grows_on reading more (Ok taken.Skipped, after) grows goes =
    subst (Grows ng_next ng_fed more (ng_next after)) (sym (next_first (ng_fed reading more) ∙ ap (walk_on ng_next) grows.0)) (goes after grows.1)
grows_on reading more (Ok (taken.Packet read), after) grows goes = next_first (ng_fed reading more) ∙ ap (walk_on ng_next) grows.0
grows_on reading more (Err fault, after) grows goes =
    next_first (ng_fed reading more) ∙ ap (walk_on ng_next) grows.0
    ∙ sym (next_first (ng_fed after more) ∙ ap (walk_on ng_next) (refused_again (ng_fed after more) fault grows.1))

next_grows : (n : ℕ) (reading : NgReading) (more : List ℕ) → length reading.octets < n → Grows ng_next ng_fed more (ng_next reading) (ng_next (ng_fed reading more))
next_grows zero reading more enough = absurd (omega (arith, enough))
next_grows (suc n) reading more enough =
    subst (λ (a : Result (Option NgRecord) NgFault × NgReading). Grows ng_next ng_fed more a (ng_next (ng_fed reading more))) (sym (next_first reading))
    (grows_on reading more (take_of reading) (take_grows reading more) (λ r less. next_grows n r more (omega (arith, less, enough))))

pub ng_laws : IsReader ng_next ng_size ng_fed
ng_laws = record {
  shrinks = λ r. next_shrinks (suc (length r.octets)) r (omega arith);
  grows = λ r more. next_grows (suc (length r.octets)) r more (omega arith);
  nothing = λ r. ap (λ (l : List ℕ). record { step = r.step; interfaces = r.interfaces; before = r.before; octets = l }) (append-nil r.octets);
  twice = λ r piece more. ap (λ (l : List ℕ). record { step = r.step; interfaces = r.interfaces; before = r.before; octets = l }) (append_assoc r.octets piece more);
}

-- ---- what the calls of a reader need

-- a reader with no further packet has none again
pub none_again : (reading after : NgReading) → ng_next reading ≡ (Ok None, after) → ng_next after ≡ (Ok None, after)
none_again reading after is = subst (IsSpent ng_next) is (spent ng_next ng_size ng_fed ng_laws reading)

nothing_first : ng_next ng_unread ≡ (Ok None, ng_unread)
unfolding ng_next walk take_of block_at
nothing_first = refl

unread_none : ng_drained ng_unread ≡ ([], ng_unread)
unread_none = drained_next ng_next ng_size ng_fed ng_laws ng_unread ∙ ap (drain_on ng_drained) nothing_first

-- The packets don't depend on how the octets come.
pub any_pieces : (reading : NgReading) → reading ≡ ng_unread → (pieces : List (List ℕ)) → ng_pieces reading pieces ≡ ng_drained (ng_fed reading (concat pieces))
any_pieces reading is pieces = pieces_joined ng_next ng_size ng_fed ng_laws reading pieces (subst (λ (r : NgReading). ng_drained r ≡ ([], r)) (sym is) unread_none)

apart : (fault : NgFault) → ◌≡◌ {A = Result (Option NgRecord) NgFault} (Ok None) (Err fault) → ⊥
apart fault e = cc

-- the end of a reader that has no further packet
pub end_left : (reading : NgReading) → ng_next reading ≡ (Ok None, reading) → ng_end reading ≡ ng_left reading.octets
end_left reading none = by reading.step refl
  where
    by : (step : Step) → reading.step ≡ step → ng_end reading ≡ ng_left reading.octets
    by steps.Opening is = ap (λ (s : Step). ng_end_in s reading.octets) is
    by (steps.Section order) is = ap (λ (s : Step). ng_end_in s reading.octets) is
    by (steps.Refused fault) is =
        let met : ng_next reading ≡ (Err fault, reading) = next_first reading ∙ ap (walk_on ng_next) (refused_again reading fault is) in
        absurd (apart fault (ap (λ (a : Result (Option NgRecord) NgFault × NgReading). a.0) (sym none ∙ met)))

pub left_some : (octets : List ℕ) → 0 < length octets → ng_left octets ≡ Some faults.NgCut
left_some [] some = absurd (omega arith)
left_some (x ∷ xs) some = refl

pub left_none : (octets : List ℕ) → length octets ≤ 0 → ng_left octets ≡ None
left_none [] none = refl
left_none (x ∷ xs) none = absurd (omega arith)

-- an error that a block gave, after blocks without a packet
known_fault : (fault : NgFault) (initial reading after : NgReading) → ng_next reading ≡ ng_next initial → (take_of reading).0 ≡ Err fault → after ≡ (take_of reading).1
    → ((ng_next initial).0 ≡ Err fault) × (after ≡ (ng_next initial).1)
known_fault fault initial reading after same is after-is =
    let next : ng_next initial ≡ (Err fault, after) = sym same ∙ answer_is reading after (Err fault) is after-is in
    (ap (λ (a : Result (Option NgRecord) NgFault × NgReading). a.0) next, sym (ap (λ (a : Result (Option NgRecord) NgFault × NgReading). a.1) next))

pub fault_read : (fault : NgFault) (initial reading after : NgReading) → ng_next reading ≡ ng_next initial → Answers {X = Taken} (Err fault) (take_of reading).0
    → after ≡ after_answer {X = Taken} (Err fault) reading (take_of reading).1 → Answers {X = Option NgRecord} (Err fault) (ng_next initial).0 × HasRead {X = Option NgRecord} (Err fault) initial after
fault_read faults.Memory initial reading after same is after-is = (tt, ap ng_next after-is ∙ same)
fault_read faults.NgMagic initial reading after same is after-is = known_fault faults.NgMagic initial reading after same is after-is
fault_read faults.NgOrder initial reading after same is after-is = known_fault faults.NgOrder initial reading after same is after-is
fault_read faults.NgVersion initial reading after same is after-is = known_fault faults.NgVersion initial reading after same is after-is
fault_read faults.NgLength initial reading after same is after-is = known_fault faults.NgLength initial reading after same is after-is
fault_read faults.NgInterface initial reading after same is after-is = known_fault faults.NgInterface initial reading after same is after-is
fault_read faults.NgPacket initial reading after same is after-is = known_fault faults.NgPacket initial reading after same is after-is
fault_read faults.NgTime initial reading after same is after-is = known_fault faults.NgTime initial reading after same is after-is
fault_read faults.NgCut initial reading after same is after-is = known_fault faults.NgCut initial reading after same is after-is

-- ---- a broken rule

pub refused_still : (reading : NgReading) (fault : NgFault) → reading.step ≡ steps.Refused fault → ng_next reading ≡ (Err fault, reading)
refused_still reading fault is = next_first reading ∙ ap (walk_on ng_next) (refused_again reading fault is)

met_is : (met fault : NgFault) → ◌≡◌ {A = Result (Option NgRecord) NgFault} (Err met) (Err fault) → met ≡ fault
met_is met fault is = cc

refuses_on : (reading : NgReading) (fault : NgFault) (answer later : Result Taken NgFault × NgReading) → TakeGrows reading [] answer later
    → ((r : NgReading) → length r.octets < length reading.octets → (ng_next r).0 ≡ Err fault → (ng_next r).1.step ≡ steps.Refused fault) → (walk_on ng_next answer).0 ≡ Err fault → (walk_on ng_next answer).1.step ≡ steps.Refused fault
refuses_on reading fault (Ok taken.Nothing, after) later grows goes is = absurd (apart fault is)
refuses_on reading fault (Ok taken.Skipped, after) later grows goes is = goes after grows.1 is
refuses_on reading fault (Ok (taken.Packet read), after) later grows goes is = absurd cc
refuses_on reading fault (Err met, after) later grows goes is = grows.1 ∙ ap steps.Refused (met_is met fault is)

next_refuses : (n : ℕ) (reading : NgReading) (fault : NgFault) → length reading.octets < n → (ng_next reading).0 ≡ Err fault → (ng_next reading).1.step ≡ steps.Refused fault
next_refuses zero reading fault enough is = absurd (omega (arith, enough))
next_refuses (suc n) reading fault enough is =
    let same = next_first reading in
    subst (λ (a : Result (Option NgRecord) NgFault × NgReading). a.1.step ≡ steps.Refused fault) (sym same)
    (refuses_on reading fault (take_of reading) (take_of (ng_fed reading [])) (take_grows reading []) (λ r less. next_refuses n r fault (omega (arith, less, enough)))
    (sym (ap (λ (a : Result (Option NgRecord) NgFault × NgReading). a.0) same) ∙ is))

-- is permanent
pub ng_refuses : (reading : NgReading) (fault : NgFault) → (ng_next reading).0 ≡ Err fault → (ng_next reading).1.step ≡ steps.Refused fault
ng_refuses reading fault is = next_refuses (suc (length reading.octets)) reading fault (omega arith) is

-- ---- where there is no packet yet

-- no more octets are left than there were
abbrev pub NoMore : ℕ → Result (Option NgRecord) NgFault × NgReading → Type 0
NoMore n (Ok None, after) = length after.octets ≤ n
NoMore n (Ok (Some read), after) = Unit {0}
NoMore n (Err fault, after) = Unit {0}

no_more_than : (n m : ℕ) (answer : Result (Option NgRecord) NgFault × NgReading) → n ≤ m → NoMore n answer → NoMore m answer
no_more_than n m (Ok None, after) le no_more = omega (arith, no_more)
no_more_than n m (Ok (Some read), after) le no_more = tt
no_more_than n m (Err fault, after) le no_more = tt

no_more_on : (reading : NgReading) (answer later : Result Taken NgFault × NgReading) → TakeGrows reading [] answer later
    → ((r : NgReading) → length r.octets < length reading.octets → NoMore (length r.octets) (ng_next r)) → NoMore (length reading.octets) (walk_on ng_next answer)
no_more_on reading (Ok taken.Nothing, after) later grows goes = omega (arith, ap (λ (r : NgReading). length r.octets) grows)
no_more_on reading (Ok taken.Skipped, after) later grows goes = no_more_than (length after.octets) (length reading.octets) (ng_next after) (omega (arith, grows.1)) (goes after grows.1)
no_more_on reading (Ok (taken.Packet read), after) later grows goes = tt
no_more_on reading (Err fault, after) later grows goes = tt

next_no_more : (n : ℕ) (reading : NgReading) → length reading.octets < n → NoMore (length reading.octets) (ng_next reading)
next_no_more zero reading enough = absurd (omega (arith, enough))
next_no_more (suc n) reading enough =
    subst (NoMore (length reading.octets)) (sym (next_first reading))
    (no_more_on reading (take_of reading) (take_of (ng_fed reading [])) (take_grows reading []) (λ r less. next_no_more n r (omega (arith, less, enough))))

pub ng_no_more : (reading : NgReading) → NoMore (length reading.octets) (ng_next reading)
ng_no_more reading = next_no_more (suc (length reading.octets)) reading (omega arith)
