-- No second outcome for a host: the same for the functions that crate songpigeon exports. `packet_said` and `clock_said` show that the clauses of the
-- two calls over records are the claims `packet_promise` and `clock_promise`. Assumes nothing.
use mathlib.Core.Path.{◌≡◌, refl}
use mathlib.Core.List.{List, [], ◌∷◌}
use Prim.Native.Nat.{ℕ}
use seplogic.Ra.Ura.{Ura}
use base.Logic.{SProp}
use prog.Memory.{Memory}
use prog.Routine.{Routine}
use types.Logic.{Logic}
use contract.Monad.{Fun, fact}
use contract.Lifetimes.{Lfts}
use denote.Triple.Entry.{Args, Res}
use denote.Triple.Clauses.{AtExit}
use lib.ListN.{length}
use Rattle.events.specs.declared.Event.{Event}
use Rattle.calls.specs.Calls.{packet_call, clock_call}
use Rattle.arrays.specs.Lent.{state_in}
use Rattle.songpigeon.specs.Lent.{PacketReplied, ClockReplied}
use Rattle.songpigeon.proofs.songpigeon_version.Reads as version-contract
use Rattle.songpigeon.proofs.songpigeon_severity.Reads as severity-contract
use Rattle.songpigeon.proofs.songpigeon_testdata_descriptor.Reads as descriptor-contract
use Rattle.songpigeon.proofs.songpigeon_testdata_elementary_id.Reads as elementary-contract
use Rattle.songpigeon.proofs.songpigeon_testdata_gps.Reads as gps-contract
use Rattle.songpigeon.proofs.songpigeon_testdata_reduced_pcr.Reads as reduced-pcr-contract
use Rattle.songpigeon.proofs.songpigeon_testdata_program.Reads as program-contract
use Rattle.songpigeon.proofs.songpigeon_testdata_other.Reads as other-contract
use Rattle.songpigeon.proofs.songpigeon_testdata_read.Reads as read-contract
use Rattle.songpigeon.proofs.songpigeon_testdata_write.Reads as write-contract
use Rattle.songpigeon.proofs.songpigeon_open.Reads as open-contract
use Rattle.songpigeon.specs.contracts.songpigeon_packet as packet-contract
use Rattle.songpigeon.specs.contracts.songpigeon_clock as clock-contract
use Rattle.outcomes.specs.Once.{OneAnswer, OneOutcome}
use Rattle.outcomes.proofs.Alike.{both, places_2, places_3, places_5}

-- THE CALLS OVER RECORDS: the memory lent, place after place, and the list
pub record Left : Type 0 where
  pub places : List (List ℕ)
  pub events : List Event

left_alike : (x y : Left) → x.places ≡ y.places → x.events ≡ y.events → x ≡ y
left_alike x y p q i = record { places = p i; events = q i }

-- times, words, time, packet, counters, memory, numbers, events
abbrev pub packet_left : (κs : Lfts 7) → AtExit packet-contract.ended κs → Left
packet_left κs s =
    record {
      places = s.0.now ∷ s.1.0.now ∷ s.1.1.1.1.0.now ∷ s.1.1.1.1.1.0.now ∷ s.1.1.1.1.1.1.0.now ∷ [];
      events = s.1.1.1.1.1.1.1.0.now;
    }

abbrev pub packet_promise : (κs : Lfts 7) → Args packet-contract.signature κs → Res packet-contract.signature κs → AtExit packet-contract.ended κs → Type 0
packet_promise κs a r s =
    PacketReplied
    (packet_call (state_in a.0.now a.1.0.now) a.1.1.0 a.1.1.1.0.now a.1.1.1.1.0.now a.1.1.1.1.1.0.now
    (length a.1.1.1.1.1.1.1.0.now))
    r a.0.now s.0.now a.1.0.now s.1.0.now s.1.1.1.1.0.now s.1.1.1.1.1.0.now a.1.1.1.1.1.1.0.now
    s.1.1.1.1.1.1.0.now a.1.1.1.1.1.1.1.0.now s.1.1.1.1.1.1.1.0.now

-- times, words, time, memory, numbers, events
abbrev pub clock_left : (κs : Lfts 5) → AtExit clock-contract.ended κs → Left
clock_left κs s = record { places = s.0.now ∷ s.1.0.now ∷ s.1.1.1.1.0.now ∷ []; events = s.1.1.1.1.1.0.now }

abbrev pub clock_promise : (κs : Lfts 5) → Args clock-contract.signature κs → Res clock-contract.signature κs → AtExit clock-contract.ended κs → Type 0
clock_promise κs a r s =
    ClockReplied
    (clock_call (state_in a.0.now a.1.0.now) a.1.1.0 a.1.1.1.0.now (length a.1.1.1.1.1.0.now))
    r a.0.now s.0.now a.1.0.now s.1.0.now a.1.1.1.1.0.now s.1.1.1.1.0.now a.1.1.1.1.1.0.now
    s.1.1.1.1.1.0.now

module _ {M : Type 1} {𝓤 : Ura M} (𝓛 : Logic 𝓤) (mem : Memory → SProp 𝓤) (run : Routine → Fun 𝓤) where
  pub packet_said : (κs : Lfts 7) (a : Args packet-contract.signature κs) (r : Res packet-contract.signature κs) (s : AtExit packet-contract.ended κs)
      → (packet-contract.clauses 𝓛 mem run κs a).ensures tt r s ≡ fact 𝓤 (packet_promise κs a r s)
  packet_said κs a r s = refl

  pub clock_said : (κs : Lfts 5) (a : Args clock-contract.signature κs) (r : Res clock-contract.signature κs) (s : AtExit clock-contract.ended κs)
      → (clock-contract.clauses 𝓛 mem run κs a).ensures tt r s ≡ fact 𝓤 (clock_promise κs a r s)
  clock_said κs a r s = refl

pub record NoSecondOutcomeHost : Type 0 where
  pub songpigeon_version : (κs : _) → OneAnswer (version-contract.Post κs) (λ r. r)
  pub songpigeon_severity : (κs : _) → OneAnswer (severity-contract.Post κs) (λ r. r)
  -- fields, places
  pub songpigeon_testdata_read : (κs : _) → OneOutcome (read-contract.Post κs) (λ r. r) (λ s. s.1.0.now ∷ s.1.1.0.now ∷ [])
  pub songpigeon_testdata_write : (κs : _) → OneOutcome (write-contract.Post κs) (λ r. r) (λ s. s.1.1.1.0.now)
  -- values
  pub songpigeon_testdata_descriptor : (κs : _) → OneOutcome (descriptor-contract.Post κs) (λ r. r) (λ s. s.1.1.1.0.now)
  -- place
  pub songpigeon_testdata_elementary_id : (κs : _) → OneOutcome (elementary-contract.Post κs) (λ r. r) (λ s. s.1.1.0.now)
  pub songpigeon_testdata_gps : (κs : _) → OneOutcome (gps-contract.Post κs) (λ r. r) (λ s. s.1.1.1.1.1.0.now)
  pub songpigeon_testdata_reduced_pcr : (κs : _) → OneOutcome (reduced-pcr-contract.Post κs) (λ r. r) (λ s. s.1.0.now)
  pub songpigeon_testdata_program : (κs : _) → OneOutcome (program-contract.Post κs) (λ r. r) (λ s. s.1.1.1.0.now)
  pub songpigeon_testdata_other : (κs : _) → OneOutcome (other-contract.Post κs) (λ r. r) (λ s. s.1.1.0.now)
  -- times, words, counters
  pub songpigeon_open : (κs : _) → OneOutcome (open-contract.Post κs) (λ r. r) (λ s. s.0.now ∷ s.1.0.now ∷ s.1.1.1.0.now ∷ [])
  pub songpigeon_packet : (κs : _) → OneOutcome (packet_promise κs) (λ r. r) (packet_left κs)
  pub songpigeon_clock : (κs : _) → OneOutcome (clock_promise κs) (λ r. r) (clock_left κs)

pub no_second_outcome_host : NoSecondOutcomeHost
no_second_outcome_host =
    record {
      songpigeon_version = λ κs a r r' s s' p q. both p q;
      songpigeon_severity = λ κs a r r' s s' p q. both p q;
      songpigeon_testdata_read = λ κs a r r' s s' p q. (both p.0 q.0, places_2 (both p.1 q.1) (both p.2 q.2));
      songpigeon_testdata_write = λ κs a r r' s s' p q. (both p.0 q.0, both p.1 q.1);
      songpigeon_testdata_descriptor = λ κs a r r' s s' p q. (both p.0 q.0, both p.1 q.1);
      songpigeon_testdata_elementary_id = λ κs a r r' s s' p q. (both p.0 q.0, both p.1 q.1);
      songpigeon_testdata_gps = λ κs a r r' s s' p q. (both p.0 q.0, both p.1 q.1);
      songpigeon_testdata_reduced_pcr = λ κs a r r' s s' p q. (both p.0 q.0, both p.1 q.1);
      songpigeon_testdata_program = λ κs a r r' s s' p q. (both p.0 q.0, both p.1 q.1);
      songpigeon_testdata_other = λ κs a r r' s s' p q. (both p.0 q.0, both p.1 q.1);
      songpigeon_open = λ κs a r r' s s' p q. (both p.0 q.0, places_3 (both p.1 q.1) (both p.2 q.2) (both p.3 q.3));
      songpigeon_packet = λ κs a r r' s s' p q. (
        both p.0 q.0,
        left_alike (packet_left κs s) (packet_left κs s')
            (places_5 (both p.1 q.1) (both p.2 q.2) (both p.3 q.3) (both p.4 q.4) (both p.5 q.5))
            (both p.6 q.6),
      );
      songpigeon_clock = λ κs a r r' s s' p q. (
        both p.0 q.0,
        left_alike (clock_left κs s) (clock_left κs s') (places_3 (both p.1 q.1) (both p.2 q.2) (both p.3 q.3)) (both p.4 q.4),
      );
    }
