-- An LSDB that ages by a second, entry by entry, and which entry is to be refreshed after it.
use Rattle.std.specs.Prelude.{◌≡◌, ℕ, suc, ◌+◌, ◌==◌, Bool, false, List, ◌++◌, length, take, drop, fold, option_to_list, Option, Some, None}
use Rattle.std.specs.List.{filter_map}
use Rattle.wire_base.specs.declared.entry.Aged.{Aged}
use Rattle.wire_base.specs.declared.entry.Aged.TheVariants.{Live, Expired, Held, Removed}
use Rattle.wire_base.specs.declared.entry.Entry.{Entry}
use Rattle.wire_base.specs.model.Control.{Flood, after_second}
use Rattle.wire_base.specs.model.Flooding.{flood_aged}

-- how many entries an entry is after a second: one or none
abbrev pub count_left : Aged → ℕ
count_left Live = 1
count_left Expired = 1
count_left Held = 1
count_left Removed = 0

-- the entry at an index is a second older, and `next` is the index of the one that followed it
pub record IsOneAged (entries : List Entry) (place : ℕ) (e : Entry) (f : Flood) (new : List Entry) (new_f : Flood) (next : ℕ) : Type 0 where
  pub flags : new_f ≡ flood_aged f e
  pub stands : new ≡ take place entries ++ (option_to_list (after_second e) ++ drop (suc place) entries)
  pub after : next ≡ place + length (option_to_list (after_second e))

-- all entries before an index are a second older: what is done so far and what is left make up the whole
pub record IsOlder (all entries : List Entry) (start f : Flood) (place : ℕ) : Type 0 where
  pub flags : fold flood_aged f (drop place entries) ≡ fold flood_aged start all
  pub stands : take place entries ++ filter_map after_second (drop place entries) ≡ filter_map after_second all

-- a second before it is to be refreshed
abbrev pub is_near : Option Entry → Bool
is_near None = false
is_near (Some e) = e.life == 301
