-- The sentence of demand 3 of the request, whole: "both give one late event for each gap strictly longer than the limit, stamped at the gap's
-- start plus the limit, and no other late event".
--
--   late_in es        == the late events among es: those of cause 1
--   fixed_watches     == the fixed tables, down the paper's table
--   watches_of c      == the watches of a core in the order of their late events: the fixed tables, then the pairs in list order
--   NoOther g a      == the late events that the call a hands over are those of the watches before it, one watch after the other, and no other
--   IsOn w c         == w is one of these watches
--   OneName c        == the fault and the id of a late event are those of one watch
--   JudgedAlike t m g log == of a log from g, which an opening at t with the section memory m left: of each watch the calls hand over what the
--                       other judgement gives from the accepted calls, each watch having one limit; and they hand over no other late event
use Rattle.std.specs.Prelude.{◌≡◌, true, cond, ℕ, eqb}
use mathlib.Core.List.{List, [], ◌∷◌, ◌++◌, map, flat_map}
use Rattle.events.specs.declared.Event.{Event}
use Rattle.events.specs.Faults.{late}
use Rattle.watches.specs.declared.Entry.{Entry}
use Rattle.calls.specs.declared.Core.{Core}
use Rattle.calls.specs.Cores.{listed}
use Rattle.demands.specs.Runs.{Given, Asked, call_of, IsAccepted, Each, taken, calls_of}
use Rattle.demands.specs.Judgements.{Watched, fixed, programme, limits_of, fault_of, id_of, IsWatched, on_watch, late_by, live_late, other_late}

unfoldable pub late_in : List Event → List Event
late_in [] = []
late_in (e ∷ es) = cond (eqb e.cause late) (e ∷ late_in es) (late_in es)

abbrev pub fixed_watches : List Watched
fixed_watches = fixed 0 ∷ fixed 1 ∷ fixed 2 ∷ fixed 3 ∷ fixed 4 ∷ []

abbrev pub watches_of : Core → List Watched
watches_of c = fixed_watches ++ map (λ (e : Entry). programme e.number e.pid) (listed c)

abbrev pub NoOther : Given → Asked → Type 0
NoOther g a = late_in (call_of g a).events ≡ flat_map (λ w. late_by w g a) (watches_of g.state.core)

abbrev pub IsOn : Watched → Core → Type 0
IsOn w c = IsWatched w × (on_watch w c ≡ true)

abbrev pub OneName : Core → Type 0
OneName c = (w v : Watched) → IsOn w c → IsOn v c → fault_of w ≡ fault_of v → id_of w ≡ id_of v → w ≡ v

pub record JudgedAlike (t : ℕ) (m : List ℕ) (g : Given) (log : List Asked) : Type 0 where
  pub both : (w : Watched) → IsWatched w → live_late w g log ≡ other_late w t m (calls_of (taken g log))
  pub one_limit : (w : Watched) → (l : ℕ) × (limits_of w ≡ l ∷ [])
  pub no_other : Each NoOther g log
  pub one_name : Each (λ k a. IsAccepted k a → OneName k.state.core) g log
