-- The routers of a change exist.
use Rattle.std.specs.Prelude.{ℕ, ◌<◌}
use Rattle.isis_hello.specs.declared.event.EndChange.{EndChange}

-- Both routers of a change exist, in a domain of that many.
pub record IsWithin (count : ℕ) (c : EndChange) : Type 0 where
  pub router : c.router < count
  pub peer : c.peer < count
