-- Reading a domain file step by step, up to the first rule that it breaks.
use Rattle.std.specs.Prelude.{◌≡◌, Bool, true, false, Option, Some, None, Result, Ok, Err}
use Rattle.domain_conf.specs.declared.fault.ConfFault.{ConfFault}
use Rattle.domain_conf.specs.declared.fault.ConfFault.TheVariants as fault

-- the value, or that error
abbrev pub or_fault : {A : Type 0} → ConfFault → Option A → Result A ConfFault
or_fault fault None = Err fault
or_fault fault (Some x) = Ok x

-- that error, if a rule is broken
abbrev pub refuse_if : Bool → ConfFault → Result (Unit {0}) ConfFault
refuse_if true fault = Err fault
refuse_if false fault = Ok tt

-- A call that rejects a file rejects it for the first rule that it breaks. Out of memory may be returned instead of any
-- result.
abbrev pub Fails : {Y : Type 0} → ConfFault → Result Y ConfFault → Type 0
Fails fault.Toml read = read ≡ Err fault.Toml
Fails (fault.Field path) read = read ≡ Err (fault.Field path)
Fails (fault.Duplicate path) read = read ≡ Err (fault.Duplicate path)
Fails (fault.Range path) read = read ≡ Err (fault.Range path)
Fails (fault.Labels path) read = read ≡ Err (fault.Labels path)
Fails (fault.Reference path) read = read ≡ Err (fault.Reference path)
Fails (fault.Limit path) read = read ≡ Err (fault.Limit path)
Fails fault.Memory read = Unit {0}

-- The result of a call is what reading defines, unless it ran out of memory.
abbrev pub Gives : {X Y : Type 0} → (X → Y) → Result X ConfFault → Result Y ConfFault → Type 0
Gives view (Ok x) read = read ≡ Ok (view x)
Gives view (Err fault) read = Fails fault read
