-- Reading a line step by step, up to its first error.
use Rattle.std.specs.Prelude.{◌≡◌, Option, Some, None, Result, Ok, Err}
use Rattle.replay_text.specs.declared.fault.TextFault.{TextFault}
use Rattle.replay_text.specs.declared.fault.TextFault.TheVariants.{Word, Number, Name, Hex, LineLong, Memory}

-- the value, or that error
abbrev pub or_fault : {A : Type 0} → TextFault → Option A → Result A TextFault
or_fault fault None = Err fault
or_fault fault (Some x) = Ok x

-- A call that rejects a line for a rule rejects it for the first rule that the line breaks. Out of memory may be
-- returned instead of any result.
abbrev pub Fails : {Y : Type 0} → TextFault → Result Y TextFault → Type 0
Fails Word read = read ≡ Err Word
Fails Number read = read ≡ Err Number
Fails Name read = read ≡ Err Name
Fails Hex read = read ≡ Err Hex
Fails LineLong read = read ≡ Err LineLong
Fails Memory read = Unit {0}

-- The result of a call is what reading defines, unless it ran out of memory.
abbrev pub Gives : {X Y : Type 0} → (X → Y) → Result X TextFault → Result Y TextFault → Type 0
Gives view (Ok x) read = read ≡ Ok (view x)
Gives view (Err fault) read = Fails fault read
