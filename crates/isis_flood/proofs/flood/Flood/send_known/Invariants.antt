use Rattle.std.proofs.Common.{◌≡◌, ◌≤◌, ◌+◌, length, take}
use Rattle.std.specs.List.{fold}
use Rattle.wire_base.specs.model.Flooding.{send_known}
use Rattle.isis_flood.proofs.flood.Flood.send_known.Given as goal

-- the entries so far are done, with a row for each at most
abbrev pub invariant-entries : goal.invariant-entries
invariant-entries l = record {
  next : l.self.flood ≡ fold (send_known l.link) l.fn.self.flood (take l.place l.store.entries);
  spare : l.fn.self.spare ≤ l.self.spare + l.place;
  links : length l.self.flood.up ≡ length l.fn.self.flood.up;
}
