-- The index and its pages: the principle of the request ("A page counts for a programme only where the index says that it lies, under the
-- number that the index gives"), and document 01, "Building sections" ("Sections are built on the five fixed PIDs and the listed PMT PIDs").
--
--   Nowhere q c      == the PID q is neither a fixed table's nor listed
--   Unmoved c h      == every gap start and the list are as they were in the core c
-- Over a call:
--   found n q es     == the watch of the pair of a number n and a PID q: off where the list es lacks it, else on with the start of its gap
--   gap_in n q g      == the same in what a call is given
--   heard_at g c      == what the packet of the call c says, given g; a clock call says nothing
--   is_page_of n q h   == what is heard is a page of the pair: a good PMT section on its PID, under its number
--   is_index h        == it is a list, in a good PAT section
--   hears f hs       == something that is heard is as f says
--   OffPid q c       == the call has no packet of the PID q
--   ByIndex n q g a  == of the call a, given g: a page of the pair is heard only on its PID, and a list only on PID 0; where neither is heard, the
--                       gap of the pair is left as it was, the call being accepted or refused; where a page of a listed pair is heard and
--                       no list, its gap starts anew at the call's time
use Rattle.std.specs.Prelude.{◌≡◌, ◌≢◌, Bool, true, false, cond, ◌&&◌, ◌||◌, List, [], ◌∷◌, ℕ, eqb, ltb, length}
use Rattle.lateness.specs.Gaps.{Watch, off, on}
use Rattle.lateness.specs.Logs.{Call, clock, packet, time_of}
use Rattle.watches.specs.declared.Entry.{Entry}
use Rattle.watches.specs.Tables.{fixed_tables, pat_pid}
use Rattle.header.specs.Header.{pid_of}
use Rattle.programmes.specs.Listing.{is_pair}
use Rattle.programmes.specs.Places.{is_listed}
use Rattle.calls.specs.declared.Core.{Core}
use Rattle.calls.specs.Cores.{listed, Held, fixed_room}
use Rattle.calls.specs.Calls.{held_of}
use Rattle.demands.specs.Runs.{Given, Asked, lending, after_call, IsAccepted}
use Rattle.demands.specs.Listening.{Heard, table, page, index, listen1, listener_of}

abbrev pub Nowhere : ℕ → Core → Type 0
Nowhere q c = (ltb (fixed_room q fixed_tables) (length fixed_tables) ≡ false) × (is_listed q (listed c) ≡ false)

pub record Unmoved (c : Core) (h : Held) : Type 0 where
  pub since : h.core.since ≡ c.since
  pub list : listed h.core ≡ listed c

-- OVER A CALL
unfoldable pub found : ℕ → ℕ → List Entry → Watch
found n q [] = off
found n q (e ∷ es) = cond (is_pair n q e) (on e.since) (found n q es)

abbrev pub gap_in : ℕ → ℕ → Given → Watch
gap_in n q g = found n q (listed g.state.core)

abbrev pub heard_at : Given → Call (List ℕ) → List Heard
heard_at g (clock t) = []
heard_at g (packet t p) = (listen1 p (listener_of (held_of g.state g.memory) g.counters)).heard

abbrev pub is_page_of : ℕ → ℕ → Heard → Bool
is_page_of n q (table k) = false
is_page_of n q (page m r) = eqb n m && eqb q r
is_page_of n q (index old new) = false

abbrev pub is_index : Heard → Bool
is_index (table k) = false
is_index (page m r) = false
is_index (index old new) = true

abbrev pub hears : (Heard → Bool) → List Heard → Bool
hears f [] = false
hears f (h ∷ hs) = f h || hears f hs

abbrev pub OffPid : ℕ → Call (List ℕ) → Type 0
OffPid q (clock t) = Unit
OffPid q (packet t p) = pid_of p ≢ q

pub record ByIndex (n q : ℕ) (g : Given) (a : Asked) : Type 0 where
  pub pages : OffPid q a.call → hears (is_page_of n q) (heard_at (lending g a.table) a.call) ≡ false
  pub lists : OffPid pat_pid a.call → hears is_index (heard_at (lending g a.table) a.call) ≡ false
  pub kept : hears (is_page_of n q) (heard_at (lending g a.table) a.call) ≡ false → hears is_index (heard_at (lending g a.table) a.call) ≡ false
      → gap_in n q (after_call g a) ≡ gap_in n q g
  pub anew : IsAccepted g a → (gap_in n q g ≡ off → ⊥) → hears (is_page_of n q) (heard_at (lending g a.table) a.call) ≡ true
      → hears is_index (heard_at (lending g a.table) a.call) ≡ false → gap_in n q (after_call g a) ≡ on (time_of a.call)
