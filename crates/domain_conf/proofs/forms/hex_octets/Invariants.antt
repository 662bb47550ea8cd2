use Rattle.std.proofs.Common.{◌≡◌, ◌++◌, length, List, ℕ, option_map}
use Rattle.domain_conf.specs.Forms as forms
use Rattle.domain_conf.proofs.forms.hex_octets.Given as goal

-- the octets so far, and then those of the rest, are those of the text
abbrev pub invariant-pairs : goal.invariant-pairs
invariant-pairs l = forms.hex_octets l.text ≡ option_map (λ (more : List ℕ). l.octets ++ more) (forms.hex_octets l.rest)

abbrev pub decreases-pairs : goal.decreases-pairs
decreases-pairs l = length l.rest
