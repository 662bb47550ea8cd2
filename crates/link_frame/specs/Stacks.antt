-- Labels as entries of a stack.
use Rattle.std.specs.Prelude.{ℕ, ◌*◌, List, map, length, drop}
use Rattle.arrayvec.specs.declared.array_vec.ArrayVec.{ArrayVec}
use Rattle.wire_base.specs.model.Labels.{LabelEntry}
use Rattle.link_frame.specs.declared.labels.Label.{Label}

abbrev pub entry : Label → LabelEntry
entry label = record { value = label.value; tc = label.tc; ttl = label.ttl }

abbrev pub entries : List Label → List LabelEntry
entries labels = map entry labels

-- the parsed entries of a stack, and the octets after it
abbrev pub read_entries : List ℕ → ArrayVec Label 8 (Unit {0}) → List LabelEntry × List ℕ
read_entries bytes labels = (entries labels.items, drop (4 * length labels.items) bytes)
