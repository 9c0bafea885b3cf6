-- The two judgements over a log of calls, for one watched table: demand 3 of the request, and document 01, "Watches and lateness".
--
--   Watched           == what is watched: the fixed table k, or the pair of a programme number and a PID
--   limits_of, fault_of, id_of w == its limits, the fault of its lateness, and the id of its events: the PID, for a PMT the programme number
--   IsWatched w       == there are five fixed tables
-- Live, from the calls:
--   is_late f i e      == the event e is a late one, cause 1, with the fault f and the id i
--   late_for f i es    == the events among es that are
--   on_watch w c      == a fixed table is always watched, a pair while the list has it
--   late_by w g a      == its late events among those that the call a hands over, where it is watched before the call
--   late_each w g log  == those of each call of a log
--   live_late w g log  == those of all calls of a log
--   table_named f i rs == one of the tables rs has the fault f and the id i
--   is_named f i c     == a fixed table, or a listed programme, has
-- The other, from the packets:
--   changed before now == what befalls a pair's watch by a list: it begins when the list has the pair and the one before had not; it ends when
--                        the list lacks it and the one before had it
--   acts_of w h        == what befalls the watch by what is heard: a good section of its table arrives, or a list changes it
--   acts_of_all w hs    == the same by all that is heard, one after the other
--   seen_by w l cs     == what the watch sees of a log: each call's time, then the acts of its packet
--   watched_from w t   == at an opening at t: a fixed table's watch begins, no programme is watched
--   lives_of w t m cs  == its lives: the beginnings and ends of its watch, the arrivals of its good sections, and the latest time
--   other_late w t m cs == a late event for each gap of these lives that is strictly longer than the limit, stamped at its start plus the limit
-- The other, for a fixed table:
--   arrived_at k t hs  == the time t for each good section of the table k that is heard
--   arrivals_of k l cs == the arrival times of its good sections
--   latest_of t cs     == the latest accepted time
use Rattle.std.specs.Prelude.{Bool, true, false, cond, ◌&&◌, ◌||◌, ℕ, ◌<◌, eqb, length}
use mathlib.Core.List.{List, [], ◌∷◌, ◌++◌, map, flatten}
use Rattle.lateness.specs.Gaps.{Act, begins, arrives, ends, Seen, View, unwatched, watched, Life, lives, judged}
use Rattle.lateness.specs.Logs.{Call, clock, packet, time_of, seen}
use Rattle.events.specs.declared.Event.{Event}
use Rattle.events.specs.Faults.{late}
use Rattle.events.specs.Events.{event_at}
use Rattle.watches.specs.declared.Table.{Table}
use Rattle.watches.specs.Tables.{fixed_tables, table_of, pmt_table}
use Rattle.calls.specs.declared.Core.{Core}
use Rattle.calls.specs.Cores.{listed}
use Rattle.calls.specs.Sound.{number_among}
use Rattle.demands.specs.Runs.{Given, Asked, call_of, along}
use Rattle.demands.specs.Listening.{Listener, Heard, table, page, index, paired, pair_of, listen1, opened_listener}

pub data Watched : Type 0 where
  fixed : ℕ → Watched
  programme : ℕ → ℕ → Watched

abbrev pub limits_of : Watched → List ℕ
limits_of (fixed k) = (table_of k).limits
limits_of (programme n q) = pmt_table.limits

abbrev pub fault_of : Watched → ℕ
fault_of (fixed k) = (table_of k).fault
fault_of (programme n q) = pmt_table.fault

abbrev pub id_of : Watched → ℕ
id_of (fixed k) = (table_of k).pid
id_of (programme n q) = n

abbrev pub IsWatched : Watched → Type 0
IsWatched (fixed k) = k < length fixed_tables
IsWatched (programme n q) = Unit

-- LIVE
abbrev pub is_late : ℕ → ℕ → Event → Bool
is_late f i e = eqb e.cause late && (eqb e.fault f && eqb e.id i)

unfoldable pub late_for : ℕ → ℕ → List Event → List Event
late_for f i [] = []
late_for f i (e ∷ es) = cond (is_late f i e) (e ∷ late_for f i es) (late_for f i es)

abbrev pub on_watch : Watched → Core → Bool
on_watch (fixed k) c = true
on_watch (programme n q) c = paired n q (map pair_of (listed c))

abbrev pub late_by : Watched → Given → Asked → List Event
late_by w g a = cond (on_watch w g.state.core) (late_for (fault_of w) (id_of w) (call_of g a).events) []

abbrev pub late_each : Watched → Given → List Asked → List (List Event)
late_each w g log = along (late_by w) g log

abbrev pub live_late : Watched → Given → List Asked → List Event
live_late w g log = flatten (late_each w g log)

unfoldable pub table_named : ℕ → ℕ → List Table → Bool
table_named f i [] = false
table_named f i (r ∷ rs) = cond (eqb r.fault f && eqb r.pid i) true (table_named f i rs)

abbrev pub is_named : ℕ → ℕ → Core → Bool
is_named f i c = table_named f i fixed_tables || (eqb pmt_table.fault f && number_among i (listed c))

-- THE OTHER
abbrev pub changed : Bool → Bool → List Act
changed false false = []
changed false true = begins ∷ []
changed true false = ends ∷ []
changed true true = []

abbrev pub acts_of : Watched → Heard → List Act
acts_of (fixed k) (table j) = cond (eqb k j) (arrives ∷ []) []
acts_of (fixed k) (page n q) = []
acts_of (fixed k) (index old new) = []
acts_of (programme n q) (table j) = []
acts_of (programme n q) (page m r) = cond (eqb n m && eqb q r) (arrives ∷ []) []
acts_of (programme n q) (index old new) = changed (paired n q old) (paired n q new)

abbrev pub acts_of_all : Watched → List Heard → List Act
acts_of_all w [] = []
acts_of_all w (h ∷ hs) = acts_of w h ++ acts_of_all w hs

abbrev pub seen_by : Watched → Listener → List (Call (List ℕ)) → List Seen
seen_by w l cs = seen (λ k t p. (listen1 p k).listener) (λ k t p. acts_of_all w (listen1 p k).heard) l cs

abbrev pub watched_from : Watched → ℕ → View
watched_from (fixed k) t = watched t []
watched_from (programme n q) t = unwatched

abbrev pub lives_of : Watched → ℕ → List ℕ → List (Call (List ℕ)) → List Life
lives_of w t m cs = lives t (watched_from w t) (seen_by w (opened_listener m) cs)

abbrev pub other_late : Watched → ℕ → List ℕ → List (Call (List ℕ)) → List Event
other_late w t m cs = map (λ x. event_at x (fault_of w) late (id_of w)) (judged (limits_of w) (lives_of w t m cs))

-- THE OTHER, for a fixed table
abbrev pub arrived_at : ℕ → ℕ → List Heard → List ℕ
arrived_at k t [] = []
arrived_at k t (table j ∷ hs) = cond (eqb k j) (t ∷ []) [] ++ arrived_at k t hs
arrived_at k t (page n q ∷ hs) = arrived_at k t hs
arrived_at k t (index old new ∷ hs) = arrived_at k t hs

abbrev pub arrivals_of : ℕ → Listener → List (Call (List ℕ)) → List ℕ
arrivals_of k l [] = []
arrivals_of k l (clock t ∷ cs) = arrivals_of k l cs
arrivals_of k l (packet t p ∷ cs) = arrived_at k t (listen1 p l).heard ++ arrivals_of k (listen1 p l).listener cs

abbrev pub latest_of : ℕ → List (Call (List ℕ)) → ℕ
latest_of t [] = t
latest_of t (c ∷ cs) = latest_of (time_of c) cs
