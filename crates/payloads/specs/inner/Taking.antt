-- A payload taken, as the code is given it and hands it back: document 01, "Building sections" and "The programme list".
--
--   held c m             == the core with section memory
--   Takable c m r s n list == what a payload may be taken into: at most sixteen listed, every room sound, a payload of at most 184 bytes, and 62
--                           places for events from the place n on
use Rattle.std.specs.Prelude.{◌≡◌, true, List, ℕ, ◌+◌, ◌≤◌, ◌<◌, length}
use Rattle.events.specs.Capacity.{least_capacity, number_capacity}
use Rattle.sections.specs.Rooms.{room_count}
use Rattle.programmes.specs.Listing.{most_listed}
use Rattle.calls.specs.declared.Core.{Core}
use Rattle.calls.specs.Cores.{Held}
use Rattle.calls.specs.Sound.{rooms_sound}

abbrev pub held : Core → List ℕ → Held
held c m = record { core = c; memory = m }

pub record Takable (c : Core) (m : List ℕ) (r : ℕ) (s : List ℕ) (n : ℕ) (list : List ℕ) : Type 0 where
  pub room : r < room_count
  pub listed : c.count ≤ most_listed
  pub sound : rooms_sound c.half m ≡ true
  pub payload : length s ≤ 184
  pub places : n + 62 ≤ least_capacity
  pub numbers : number_capacity ≤ length list
