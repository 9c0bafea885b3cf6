-- A log without packets of PID 0 lists no programme: a packet of another PID leaves the number of listed programmes, and known table bytes.
-- Assumes nothing.
use mathlib.Core.Path.{◌≡◌, refl, sym, subst}
use mathlib.Core.Logic.{◌≢◌}
use mathlib.Core.Bool.{true, false}
use mathlib.Core.List.{List}
use Prim.Native.Nat.{ℕ, ◌<◌}
use native.Mathlib.Omega.{arith}
use Rattle.watches.specs.Tables.{table_of, pat_pid}
use Rattle.header.specs.Header.{right_sync, pid_of}
use Rattle.sections.specs.Rooms.{pat_room}
use Rattle.calls.specs.declared.Core.{Core}
use Rattle.calls.specs.Cores.{Held, room_for}
use Rattle.calls.specs.Steps.{step1}
use Rattle.calls.proofs.Moves.{Moves, packet_moves}
use Rattle.calls.proofs.Known.{KnownBytes, known_counted}
use Rattle.demands.proofs.OthersPids.{table_pid}

-- PID 0 alone has the PAT's room
pub not_pat : (c : Core) (q : ℕ) → q ≢ pat_pid → room_for c q ≢ pat_room
not_pat c q apart e = apart (sym (subst (λ (r : ℕ). r < 5 → (table_of r).pid ≡ q) e (table_pid c q) (omega arith)))

-- A PACKET of another PID than 0
module _ (t : ℕ) (p : List ℕ) (apart : pid_of p ≢ pat_pid) (right : right_sync p ≡ true) where
  -- in sync, n programmes are listed
  pub record Quiet (n : ℕ) (h : Held) (cs : List ℕ) : Type 0 where
    pub in_sync : h.core.lost ≡ false
    pub count : h.core.count ≡ n
    pub known : KnownBytes cs

  quiet_moves : (n : ℕ) → Moves t p (Quiet n)
  quiet_moves n =
      record {
        synced = λ h cs k. let lost = k.in_sync in rw (right, lost) (record { in_sync = refl; count = k.count; known = k.known });
        byte = λ h cs k. record { in_sync = k.in_sync; count = k.count; known = known_counted p cs k.known };
        dropped = λ h cs k. record { in_sync = k.in_sync; count = k.count; known = k.known };
        built = λ h cs inside k. record { in_sync = k.in_sync; count = k.count; known = k.known };
        table = λ g h cs r f from before k. record { in_sync = k.in_sync; count = k.count; known = k.known };
        page = λ g h cs r f from before k i. record { in_sync = k.in_sync; count = k.count; known = k.known };
        list = λ g h cs f from before k. absurd (not_pat g.core (pid_of p) apart from.room);
      }

  pub quiet_1 : (cs : List ℕ) (h : Held) → h.core.lost ≡ false → KnownBytes cs → Quiet h.core.count (step1 t p cs h).held (step1 t p cs h).counters
  quiet_1 cs h in_sync_lem known =
      packet_moves t p (Quiet h.core.count) (quiet_moves h.core.count) cs h (record { in_sync = in_sync_lem; count = refl; known = known })
