-- Packets of other PIDs: the consequence in document 01, "Watches and lateness" ("from an opening, with no wrong sync byte in the log, replacing
-- every packet of other PIDs by a clock call at the same time leaves a fixed watch's late events the same. For a programme's watch, packets of
-- PID 0 stay too"). keep says which PIDs are kept, any set of them.
--
--   replaced_call keep c == a packet of another PID replaced by a clock call at the same time
--   replaced_in keep a == the call of a log, so replaced
--   replaced keep log == the log with every packet of another PID so replaced
--   RightSync c       == no wrong sync byte in the call
--   NoWrongSync g log == no wrong sync byte in the accepted calls of the log
--   KeptFor w keep    == what the watch w goes by is kept: the PID of its fixed table; for a programme its PMT PID, and PID 0
--   only_pid p, pid_and_index p == the PID p alone; p and PID 0
--   Quieter keep g log quieter == the accepted calls of the log quieter are those of the log, so replaced; refused ones stand anywhere in both
--   Alone w keep g log == with every packet of another PID replaced in the accepted calls of the log, all are accepted, each hands over the
--                        same late events of the watch w, and any log whose accepted calls they are hands over those of the log
use Rattle.std.specs.Prelude.{◌≡◌, Bool, true, ◌||◌, List, map, ℕ, eqb}
use Rattle.lateness.specs.Logs.{Call, clock, packet, or_clock}
use Rattle.watches.specs.Tables.{table_of, pat_pid}
use Rattle.header.specs.Header.{right_sync, pid_of}
use Rattle.demands.specs.Runs.{Given, Asked, IsAccepted, Each, AllAccepted, OwnTable, taken, calls_of}
use Rattle.demands.specs.Judgements.{Watched, fixed, programme, late_each, live_late}

abbrev pub replaced_call : (ℕ → Bool) → Call (List ℕ) → Call (List ℕ)
replaced_call keep (clock t) = clock t
replaced_call keep (packet t p) = or_clock (keep (pid_of p)) t p

abbrev pub replaced_in : (ℕ → Bool) → Asked → Asked
replaced_in keep a = record { capacity = a.capacity; table = a.table; call = replaced_call keep a.call }

abbrev pub replaced : (ℕ → Bool) → List Asked → List Asked
replaced keep log = map (replaced_in keep) log

abbrev pub RightSync : Call (List ℕ) → Type 0
RightSync (clock t) = Unit
RightSync (packet t p) = right_sync p ≡ true

abbrev pub NoWrongSync : Given → List Asked → Type 0
NoWrongSync g log = Each (λ k a. IsAccepted k a → RightSync a.call) g log

abbrev pub KeptFor : Watched → (ℕ → Bool) → Type 0
KeptFor (fixed k) keep = keep (table_of k).pid ≡ true
KeptFor (programme n q) keep = (keep q ≡ true) × (keep pat_pid ≡ true)

abbrev pub only_pid : ℕ → ℕ → Bool
only_pid p q = eqb q p

abbrev pub pid_and_index : ℕ → ℕ → Bool
pid_and_index p q = eqb q p || eqb q pat_pid

pub record Quieter (keep : ℕ → Bool) (g : Given) (log quieter : List Asked) : Type 0 where
  pub table : OwnTable g quieter
  pub calls : calls_of (taken g quieter) ≡ calls_of (replaced keep (taken g log))

pub record Alone (w : Watched) (keep : ℕ → Bool) (g : Given) (log : List Asked) : Type 0 where
  pub accepted : AllAccepted g (replaced keep (taken g log))
  pub each : late_each w g (taken g log) ≡ late_each w g (replaced keep (taken g log))
  pub same : (quieter : List Asked) → Quieter keep g log quieter → live_late w g log ≡ live_late w g quieter
