-- What an LSDB has room for, by the age of what came.
use Rattle.std.proofs.Common.{◌≡◌, ◌&&◌, Bool, false, List, sym, ap, ◌∙◌}
use Rattle.wire_base.specs.declared.entry.Age.{Age}
use Rattle.wire_base.specs.declared.entry.Entry.{Entry}
use Rattle.wire_base.specs.declared.triple.Summary.{Summary}
use Rattle.wire_base.specs.model.Control.{age_of, is_unknown, is_full, entry_in}
use Rattle.wire_base.proofs.AgeLaws.{unknown_is_none}
use Rattle.lsp_store.specs.Places.{is_refused}

-- what is known, or finds room, is not refused
pub not_refused : (entries : List Entry) (s : Summary) (age : Age) → age ≡ age_of (entry_in entries s.id) s → (is_unknown age && is_full entries) ≡ false → is_refused entries s.id ≡ false
not_refused entries s age is h = ap (λ (b : Bool). b && is_full entries) (sym (unknown_is_none (entry_in entries s.id) s) ∙ ap is_unknown (sym is)) ∙ h

pub known_not_refused : (entries : List Entry) (s : Summary) (age : Age) → age ≡ age_of (entry_in entries s.id) s → is_unknown age ≡ false → is_refused entries s.id ≡ false
known_not_refused entries s age is known = not_refused entries s age is (ap (λ (b : Bool). b && is_full entries) known)
