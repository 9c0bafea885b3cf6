-- The ladder of a packet call's refusals in two halves: document 01, "The calls and their numbers". Packet, table, list and time are judged before the
-- header is read, state, table byte and order behind it. The laws of proofs/Ladders.antt join both to `packet_refusal`.
--
--   sizes_refusal t p counters capacity == refusals 1 to 4, the lowest number where several apply; 0 where none does
--   Right t p counters capacity == what refusals 1 to 4 ask
--   state_refusal s t m b == refusals 5 and 6 in the same way, b being the table byte of the packet's PID
use Rattle.std.specs.Prelude.{◌≡◌, ℕ, ◌≤◌, ◌&&◌, List, length}
use Rattle.events.specs.Capacity.{least_capacity}
use Rattle.watches.specs.Tables.{latest_time}
use Rattle.header.specs.Header.{packet_size}
use Rattle.continuity.specs.Continuity.{known_byte}
use Rattle.calls.specs.declared.State.{State}
use Rattle.calls.specs.Sound.{state_sound}
use Rattle.calls.specs.Calls.{table_size, packet_wrong, table_wrong, capacity_wrong, time_wrong, state_wrong, order_wrong}

unfoldable pub sizes_refusal : ℕ → List ℕ → List ℕ → ℕ → ℕ
sizes_refusal t p counters capacity = packet_wrong p (table_wrong counters (capacity_wrong capacity (time_wrong t 0)))

pub record Right (t : ℕ) (p counters : List ℕ) (capacity : ℕ) : Type 0 where
  pub packet : length p ≡ packet_size
  pub table : length counters ≡ table_size
  pub records : least_capacity ≤ capacity
  pub time : t ≤ latest_time

unfoldable pub state_refusal : State → ℕ → List ℕ → ℕ → ℕ
state_refusal s t m b = state_wrong (state_sound s m && known_byte b) (order_wrong s t 0)
