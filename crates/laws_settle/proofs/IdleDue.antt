-- No PDU makes a CSNP due, and one that was sent is not.
use Rattle.std.proofs.Common.{◌≡◌, ℕ, zero, suc, Bool, true, false, List, [], ◌∷◌, slice_index_or, refl, sym, ◌∙◌}
use Rattle.wire_base.specs.model.Control.{Control, Flood, IsWithinLinks}
use Rattle.wire_base.specs.model.Flooding.{on_pdu}
use Rattle.wire_base.specs.model.Pdu.{Pdu}
use Rattle.laws_settle.proofs.PdusKeep.{pdu_keeps}

pub pdu_due : (c : Control) (link : ℕ) (p : Pdu) → (on_pdu c link p).control.flood.due ≡ c.flood.due
pdu_due c link p = pdu_keeps (λ (f : Flood). f.due ≡ c.flood.due) (λ f rows h. h) c link p refl

-- nothing is due, and nothing has a flag, on an interface that is down
pub within_off : (xs up : List Bool) (link : ℕ) → IsWithinLinks xs up → slice_index_or up link false ≡ false → slice_index_or xs link false ≡ false
within_off [] [] link w off = refl
within_off [] (y ∷ ys) link w off = absurd w
within_off (x ∷ xs) [] link w off = absurd w
within_off (false ∷ xs) (y ∷ ys) zero w off = refl
within_off (true ∷ xs) (y ∷ ys) zero w off = sym w.0 ∙ off
within_off (false ∷ xs) (y ∷ ys) (suc link) w off = within_off xs ys link w off
within_off (true ∷ xs) (y ∷ ys) (suc link) w off = within_off xs ys link w.1 off
