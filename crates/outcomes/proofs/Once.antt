-- No second outcome: document 01, "How the promises are judged". Each public function's promise, as its contract states it, is met by one
-- outcome alone: result and all lent memory. `Post` is the contract's own clause, read as a claim of what was given (a), the result (r) and the
-- parameters at exit (s), these in the function's order; the two calls over records have theirs in `Promises`. Assumes nothing.
use mathlib.Core.Path.{◌≡◌, ap}
use mathlib.Core.List.{List, [], ◌∷◌}
use Prim.Native.Nat.{ℕ}
use Rattle.crc.proofs.crc.Reads as crc-contract
use Rattle.severity.proofs.severity.Reads as severity-contract
use Rattle.testdata.proofs.Told.{written_alike, reading_alike, step_alike}
use Rattle.testdata.proofs.read.Reads as read-contract
use Rattle.testdata.proofs.bytes_of.Reads as bytes-contract
use Rattle.testdata.proofs.descriptor_at.Reads as descriptor-contract
use Rattle.testdata.proofs.write.Reads as write-contract
use Rattle.testdata.proofs.write_fixed.Reads as fixed-contract
use Rattle.testdata.proofs.write_other.Reads as other-contract
use Rattle.probe.proofs.open.Reads as open-contract
use Rattle.byvalue.proofs.packet_least.Reads as packet-least
use Rattle.byvalue.proofs.clock_least.Reads as clock-least
use Rattle.textlog.proofs.start.Reads as start-contract
use Rattle.textlog.proofs.begin.Reads as begin-contract
use Rattle.textlog.proofs.feed.Reads as feed-contract
use Rattle.textlog.proofs.finish.Reads as finish-contract
use Rattle.byvalue.specs.declared.HeldLeast.{HeldLeast}
use Rattle.textlog.specs.declared.Fed.{Fed}
use Rattle.textlog.specs.inner.Machine.{Feeding, fed_as}
use Rattle.outcomes.specs.Once.{OneAnswer, OneOutcome}
use Rattle.outcomes.proofs.Promises.{Left, packet_promise, packet_left, clock_promise, clock_left}
use Rattle.outcomes.proofs.Alike.{both, places_2, places_4}

pub record NoSecondOutcome : Type 0 where
  pub crc : (κs : _) → OneAnswer (crc-contract.Post κs) (λ r. r)
  pub severity : (κs : _) → OneAnswer (severity-contract.Post κs) (λ r. r)
  pub testdata_read : (κs : _) → OneAnswer (read-contract.Post κs) (λ r. r)
  -- the bytes handed out: of a reference the promise gives what it shows
  pub testdata_bytes_of : (κs : _) → OneAnswer (bytes-contract.Post κs) (λ r. r.now)
  pub testdata_descriptor_at : (κs : _) → OneAnswer (descriptor-contract.Post κs) (λ r. r)
  pub testdata_write : (κs : _) → OneOutcome (write-contract.Post κs) (λ r. r) (λ s. s.1.1.1.0.now)
  pub testdata_write_fixed : (κs : _) → OneOutcome (fixed-contract.Post κs) (λ r. r) (λ s. s.1.0.now)
  pub testdata_write_other : (κs : _) → OneOutcome (other-contract.Post κs) (λ r. r) (λ s. s.1.1.0.now)
  pub probe_open : (κs : _) → OneOutcome (open-contract.Post κs) (λ r. r) (λ s. s.1.0.now)
  pub probe_packet : (κs : _) → OneOutcome (packet_promise κs) (λ r. r) (packet_left κs)
  pub probe_clock : (κs : _) → OneOutcome (clock_promise κs) (λ r. r) (clock_left κs)
  pub byvalue_packet_least : (κs : _) → OneOutcome (packet-least.Post κs) (λ r. r) (λ s. s.1.1.1.0.now ∷ s.1.1.1.1.0.now ∷ [])
  pub byvalue_clock_least : (κs : _) → OneAnswer (clock-least.Post κs) (λ r. r)
  pub textlog_start : (κs : _) → OneAnswer (start-contract.Post κs) (λ r. r)
  pub textlog_begin : (κs : _) → OneOutcome (begin-contract.Post κs) (λ r. r) (λ s. s.0.now)
  -- counters, memory, text, out
  pub textlog_feed : (κs : _)
      → OneOutcome (feed-contract.Post κs) (λ r. r)
      (λ s. s.1.0.now ∷ s.1.1.0.now ∷ s.1.1.1.0.now ∷ s.1.1.1.1.1.0.now ∷ [])
  pub textlog_finish : (κs : _) → OneOutcome (finish-contract.Post κs) (λ r. r) (λ s. s.1.0.now)

left_alike : (x y : Left) → x.counters ≡ y.counters → x.memory ≡ y.memory → x.events ≡ y.events → x ≡ y
left_alike x y p q r i = record { counters = p i; memory = q i; events = r i }

held_least_alike : (x y : HeldLeast) → x.answer ≡ y.answer → x.list ≡ y.list → x ≡ y
held_least_alike x y p q i = record { answer = p i; list = q i }

fed_alike : (x y : Fed) → x.machine ≡ y.machine → x.taken ≡ y.taken → x.written ≡ y.written → x ≡ y
fed_alike x y p q r i = record { machine = p i; taken = q i; written = r i }

-- what the machine hands back says each of its parts
fed_parts : (x y : Fed) (a b c d a' b' c' d' : List ℕ) → fed_as x a b c d ≡ fed_as y a' b' c' d'
    → (x ≡ y) × (a ∷ b ∷ c ∷ d ∷ [] ≡ a' ∷ b' ∷ c' ∷ d' ∷ [])
fed_parts x y a b c d a' b' c' d' e = (
  fed_alike x y (ap (λ (f : Feeding). f.log.machine) e) (ap (λ (f : Feeding). f.taken) e) (ap (λ (f : Feeding). f.written) e),
  places_4 (ap (λ (f : Feeding). f.log.counters) e) (ap (λ (f : Feeding). f.log.memory) e) (ap (λ (f : Feeding). f.log.text) e)
      (ap (λ (f : Feeding). f.place) e),
)

pub no_second_outcome : NoSecondOutcome
no_second_outcome =
    record {
      crc = λ κs a r r' s s' p q. both p q;
      severity = λ κs a r r' s s' p q. both p q;
      testdata_read = λ κs a r r' s s' p q. reading_alike r r' (both p q);
      testdata_bytes_of = λ κs a r r' s s' p q. both p q;
      testdata_descriptor_at = λ κs a r r' s s' p q. step_alike r r' (both p q);
      testdata_write = λ κs a r r' s s' p q. (written_alike r r' (both p.0 q.0), both p.1 q.1);
      testdata_write_fixed = λ κs a r r' s s' p q. (written_alike r r' (both p.0 q.0), both p.1 q.1);
      testdata_write_other = λ κs a r r' s s' p q. (written_alike r r' (both p.0 q.0), both p.1 q.1);
      probe_open = λ κs a r r' s s' p q. (both p.0 q.0, both p.1 q.1);
      probe_packet = λ κs a r r' s s' p q. (both p.0 q.0, left_alike (packet_left κs s) (packet_left κs s') (both p.1 q.1) (both p.2 q.2) (both p.3 q.3));
      probe_clock = λ κs a r r' s s' p q. (both p.0 q.0, both p.1 q.1);
      byvalue_packet_least = λ κs a r r' s s' p q.
          (held_least_alike r r' (both p.0 q.0) (both p.3 q.3), places_2 (both p.1 q.1) (both p.2 q.2));
      byvalue_clock_least = λ κs a r r' s s' p q. held_least_alike r r' (both p.0 q.0) (both p.1 q.1);
      textlog_start = λ κs a r r' s s' p q. both p q;
      textlog_begin = λ κs a r r' s s' p q. (both p.0.place q.0.place, both p.0.bytes q.0.bytes);
      textlog_feed = λ κs a r r' s s' p q. fed_parts r r' _ _ _ _ _ _ _ _ (both p.0 q.0);
      textlog_finish = λ κs a r r' s s' p q. (both p.0.place q.0.place, both p.0.bytes q.0.bytes);
    }
