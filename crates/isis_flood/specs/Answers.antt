-- The state after a call that processes a PDU: what the rules require, or, where an allocation failed, the state before.
use Rattle.std.specs.Prelude.{◌≡◌, List, Result, Ok, Err}
use Rattle.wire_base.specs.declared.entry.Entry.{Entry}
use Rattle.wire_base.specs.declared.flood_out.FloodOut.{FloodOut}
use Rattle.wire_base.specs.declared.flood_out.FloodOut.TheVariants as out
use Rattle.wire_base.specs.declared.flood_out.SnpOut.{SnpOut}
use Rattle.wire_base.specs.declared.memory.Memory.{Memory}
use Rattle.wire_base.specs.model.Control.{Flood}
use Rattle.wire_base.specs.model.Flooding.{LspAnswer, SnpAnswer}
use Rattle.wire_base.specs.model.Pdu.{Head, head_summary}
use Rattle.isis_flood.specs.declared.action.LspAction.{LspAction}
use Rattle.isis_flood.specs.declared.action.LspAction.TheVariants.{Kept, Reissue, Ack, Full, Zero}

-- what an action requests, for an LSP with that header
abbrev pub requested : Head → LspAction → FloodOut
requested h Kept = out.Kept
requested h Reissue = out.Reissue h.seq
requested h Ack = out.Ack (head_summary h)
requested h Full = out.Full
requested h Zero = out.Zero

abbrev pub LspDone : Head → Result LspAction Memory → Flood → List Entry → Flood → List Entry → LspAnswer → Type 0
LspDone h (Ok action) f entries new_f new_entries rules = rules ≡ record { flood = new_f; entries = new_entries; answer = requested h action }
LspDone h (Err memory) f entries new_f new_entries rules = (new_f ≡ f) × (new_entries ≡ entries)

-- a flood state, an LSDB and what is requested
abbrev pub state_of : Flood → List Entry → SnpOut → SnpAnswer
state_of f entries answer = record { flood = f; entries = entries; answer = answer }

abbrev pub SnpDone : Result SnpOut Memory → Flood → List Entry → Flood → List Entry → SnpAnswer → Type 0
SnpDone (Ok answer) f entries new_f new_entries rules = rules ≡ state_of new_f new_entries answer
SnpDone (Err memory) f entries new_f new_entries rules = (new_f ≡ f) × (new_entries ≡ entries)

-- one step, which cannot fail where there is memory for one entry and one row
abbrev pub Becomes : Result (Unit {0}) Memory → SnpAnswer → SnpAnswer → Type 0
Becomes (Ok u) new rules = rules ≡ new
Becomes (Err memory) new rules = Unit {0}
