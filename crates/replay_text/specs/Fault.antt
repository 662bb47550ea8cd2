-- The rules that lines are checked by, and the texts of rules.
use Rattle.std.specs.Prelude.{ℕ, List, ◌∷◌, ◌++◌, codes}
use Rattle.std.specs.Fmt.{decimal}
use Rattle.replay_text.specs.declared.fault.TextFault.{TextFault}
use Rattle.replay_text.specs.declared.fault.TextFault.TheVariants.{Word, Number, Name, Hex, LineLong, Memory}

-- the rules are numbered from 1; out of memory is not a rule
abbrev pub number_of : TextFault → ℕ
number_of Word = 1
number_of Number = 2
number_of Name = 3
number_of Hex = 4
number_of LineLong = 5
number_of Memory = 0

abbrev pub name_of : TextFault → List ℕ
name_of Word = codes "Word"
name_of Number = codes "Number"
name_of Name = codes "Name"
name_of Hex = codes "Hex"
name_of LineLong = codes "LineLong"
name_of Memory = codes "Memory"

-- the number and the name of a rule, as reports have them
abbrev pub rule_text : ℕ → List ℕ → List ℕ
rule_text number name = decimal number ++ 32 ∷ name

abbrev pub fault_text : TextFault → List ℕ
fault_text why = rule_text (number_of why) (name_of why)
