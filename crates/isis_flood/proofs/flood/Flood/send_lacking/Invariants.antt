use Rattle.std.proofs.Common.{◌≡◌, ◌≤◌, ◌+◌, length, filter, take}
use Rattle.std.specs.List.{fold}
use Rattle.wire_base.specs.model.Flooding.{lacks, send_lacking}
use Rattle.isis_flood.proofs.flood.Flood.send_lacking.Given as goal

-- the entries so far are done, with a row for each that is lacking at most
abbrev pub invariant-entries : goal.invariant-entries
invariant-entries l = record {
  next : l.self.flood ≡ fold (send_lacking l.link l.start l.last l.rows) l.fn.self.flood (take l.place l.store.entries);
  spare : l.fn.self.spare ≤ l.self.spare + length (filter (lacks l.start l.last l.rows) (take l.place l.store.entries));
  links : length l.self.flood.up ≡ length l.fn.self.flood.up;
}
