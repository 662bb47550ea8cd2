use Rattle.std.proofs.Common.{◌≡◌, ◌≤◌, ◌+◌, length}
use Rattle.std.specs.List.{fold}
use Rattle.wire_base.specs.model.Flooding.{on_listed}
use Rattle.isis_flood.specs.Answers.{state_of}
use Rattle.isis_flood.proofs.flood.Flood.on_list.Given as goal

-- what is done so far, and then the rest, is the whole list
abbrev pub invariant-rows : goal.invariant-rows
invariant-rows l = record {
  so : fold (on_listed l.link l.spent) (state_of l.self.flood l.store.entries l.answer) l.rest ≡ fold (on_listed l.link l.spent) (state_of l.fn.self.flood l.fn.store.entries l.fn.answer) l.rows;
  flags : length l.rest ≤ l.self.spare;
  entries : length l.rest ≤ l.store.spare;
  few : l.answer.full + length l.rest ≤ 4294967295;
  spare : l.fn.self.spare + length l.rest ≤ l.self.spare + length l.rows;
  links : length l.self.flood.up ≡ length l.fn.self.flood.up;
}

abbrev pub decreases-rows : goal.decreases-rows
decreases-rows l = length l.rest
