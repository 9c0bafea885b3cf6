-- A payload taken section by section: what the functions between are given, and what they hand back. A finished section acts at once, since
-- the next one is laid over it; the law `came_behind` (proofs/Actions.antt) joins that to the sections acting after the whole payload.
--
--   came_to t r pid j h == what a job j in the room r comes to, from the state h: its finished sections act in their order
--   is_bad g            == section_length breaks the rule
--   end_acts t r pid g s h == what a section of the bytes s does at its end
--   Left               == what the code has left: the core, and the next place for an event
--   left c n           == these two
--   finished r n c place == the core c with n half-built bytes in the room r, and the next place for an event
--   Shown a n list₀ list m g == the code shows a: the events of a are laid in the list from the place n on, the core and the memory are those of a
--   Went               == what the code has left where a half-built section went on: also the bytes in the room, and whether the rest is ignored
--   went c g           == what `resume` hands back, with the core: where it says no length, the rest is ignored
--   Gone t r pid j c .. == the code shows the sections of a job j acting from the core c; the bytes in the room, and whether the rest is ignored, are
--                         the job's
--   Small ns           == of the half-built lengths ns, those of the list's places are within their rooms
--   Fit c m list       == what a section may act on: section memory whole, at most sixteen listed, half-built sections of the list's places
--                         within their rooms, places for the least event list
use Rattle.std.specs.Prelude.{◌≡◌, Bool, true, false, is_none, unwrap_or, List, ℕ, ◌+◌, ◌≤◌, ◌<◌, length, set}
use Rattle.events.specs.Capacity.{number_capacity}
use Rattle.events.specs.Events.{events_laid}
use Rattle.sections.specs.declared.Stage.{Stage}
use Rattle.sections.specs.declared.Stage.TheVariants.{More, Bad, Whole}
use Rattle.sections.specs.inner.Steps.{step_outcome}
use Rattle.sections.specs.Rooms.{memory_size, room_of_place}
use Rattle.sections.specs.Building.{Job}
use Rattle.programmes.specs.Listing.{most_listed}
use Rattle.programmes.specs.Places.{half_at}
use Rattle.calls.specs.declared.Core.{Core}
use Rattle.calls.specs.Cores.{Held, with_half}
use Rattle.calls.specs.Steps.{arrival, Absorbed, absorbed_by, absorbed_all, built_in}
use Rattle.payloads.specs.declared.Resumed.{Resumed}
use Rattle.payloads.specs.inner.Taking.{held}

abbrev pub came_to : ℕ → ℕ → ℕ → Job → Held → Absorbed
came_to t r pid j h = absorbed_all (arrival t r pid) j.finished (built_in r j h)

abbrev pub is_bad : Stage → Bool
is_bad More = false
is_bad Bad = true
is_bad Whole = false

abbrev pub end_acts : ℕ → ℕ → ℕ → Stage → List ℕ → Held → Absorbed
end_acts t r pid g s h = absorbed_by (step_outcome r pid g s) (arrival t r pid) s h

pub record Left : Type 0 where
  pub core : Core
  pub n : ℕ

abbrev pub left : Core → ℕ → Left
left c n = record { core = c; n = n }

abbrev pub finished : ℕ → ℕ → Core → ℕ → Left
finished r n c place = record { core = with_half (set c.half r n) c; n = place }

pub record Shown (a : Absorbed) (n : ℕ) (list₀ list m : List ℕ) (g : Left) : Type 0 where
  pub core : g.core ≡ a.held.core
  pub memory : m ≡ a.held.memory
  pub next : g.n ≡ n + length a.events
  pub laid : list ≡ events_laid list₀ n a.events

pub record Went : Type 0 where
  pub core : Core
  pub n : ℕ
  pub half : ℕ
  pub ignored : Bool

abbrev pub went : Core → Resumed → Went
went c g = record { core = c; n = g.n; half = unwrap_or g.half 0; ignored = is_none g.half }

pub record Gone (t r pid : ℕ) (j : Job) (c : Core) (n : ℕ) (list₀ list m : List ℕ) (g : Went) : Type 0 where
  pub shown : Shown (absorbed_all (arrival t r pid) j.finished (held c j.memory)) n list₀ list m (left g.core g.n)
  pub half : g.half ≡ j.half
  pub ignored : g.ignored ≡ j.ignored

abbrev pub Small : List ℕ → Type 0
Small ns = (k : ℕ) → k < most_listed → half_at ns (room_of_place k) ≤ 1024

pub record Fit (c : Core) (m list : List ℕ) : Type 0 where
  pub whole : length m ≡ memory_size
  pub listed : c.count ≤ most_listed
  pub rooms : 5 ≤ length c.half
  pub halves : Small c.half
  pub numbers : number_capacity ≤ length list
