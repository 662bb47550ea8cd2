-- A search of the label ranges of one sub-domain after the other, as the code does it.
use Rattle.std.specs.Prelude.{ℕ, List, [], ◌∷◌, Option, None}
use Rattle.wire_base.specs.declared.triple.Triple.{Triple}
use Rattle.wire_base.specs.declared.conf.OwnSub.{OwnSub}
use Rattle.wire_base.specs.declared.conf.SubKind.{SubKind}
use Rattle.wire_base.specs.model.Lists.{or_else}
use Rattle.wire_base.specs.model.Place.{labelled, placed}

abbrev pub sub_labelled : List SubKind → List OwnSub → ℕ → Option Triple
sub_labelled kinds [] label = None
sub_labelled kinds (s ∷ subs) label = or_else (labelled kinds (placed s.sd s.ranges) label) (sub_labelled kinds subs label)
