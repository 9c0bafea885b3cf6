-- Packets, sections and logs for the boundary examples of document 01.
--
--   stuffed n l         == l, filled up to n bytes with 0xFF
--   packet_of            == a packet without adaptation field: first byte, unit start, PID, counter, payload
--   adapted             == a packet with an adaptation field: PID, control, its length and its flags byte, counter, payload
--   sealed s            == a section with its CRC_32
--   entry n q           == the bytes of an entry of a PAT: the programme number n on the PID q
--   pat_of es            == a PAT section of the entries' bytes es
--   pmt_of n             == a PMT section of the programme n
--   long_table id        == a section of another table_id, indicator 1, with its CRC_32
--   short_table id n     == one with indicator 0 and section_length n
--   starting s          == the payload of a packet that the section s begins
--   results_from         == the results of the calls of a log, each given the state, the counter table and the section memory of the one before
--   results_of, refusals, events, cores == those of a log from an opening at 0, their numbers, events and cores, one by one
use Rattle.std.specs.Prelude.{ℕ, ◌+◌, ◌-◌, ◌*◌, ◌/◌, ◌%◌, List, [], ◌∷◌, ◌++◌, map, length, replicate}
use Rattle.crc.specs.Crc.{crc_of, crc_bytes}
use Rattle.lateness.specs.Logs.{Call, clock, packet}
use Rattle.events.specs.declared.Event.{Event}
use Rattle.events.specs.Capacity.{least_capacity}
use Rattle.sections.specs.Rooms.{memory_size}
use Rattle.calls.specs.declared.State.{State}
use Rattle.calls.specs.declared.Core.{Core}
use Rattle.calls.specs.Calls.{Result, packet_call, clock_call, table_size}
use Rattle.calls.specs.Cores.{opened_state}

abbrev pub stuffed : ℕ → List ℕ → List ℕ
stuffed n l = l ++ replicate (n - length l) 0xFF

abbrev pub packet_of : ℕ → ℕ → ℕ → ℕ → List ℕ → List ℕ
packet_of first start pid counter load = first ∷ (start * 64 + pid / 256) ∷ (pid % 256) ∷ (16 + counter) ∷ stuffed 184 load

abbrev pub adapted : ℕ → ℕ → ℕ → ℕ → ℕ → List ℕ → List ℕ
adapted pid control len flags counter load = 0x47 ∷ (pid / 256) ∷ (pid % 256) ∷ (control * 16 + counter) ∷ len ∷ flags ∷ stuffed 182 load

abbrev pub sealed : List ℕ → List ℕ
sealed s = s ++ crc_bytes (crc_of s)

abbrev pub entry : ℕ → ℕ → List ℕ
entry n q = (n / 256) ∷ (n % 256) ∷ (0xE0 + q / 256) ∷ (q % 256) ∷ []

abbrev pub pat_of : List ℕ → List ℕ
pat_of es = sealed (0x00 ∷ (0xB0 + (length es + 9) / 256) ∷ ((length es + 9) % 256) ∷ 0x00 ∷ 0x01 ∷ 0xC1 ∷ 0x00 ∷ 0x00 ∷ es)

abbrev pub pmt_of : ℕ → List ℕ
pmt_of n = sealed (0x02 ∷ 0xB0 ∷ 0x0D ∷ (n / 256) ∷ (n % 256) ∷ 0xC1 ∷ 0x00 ∷ 0x00 ∷ 0xFF ∷ 0xFF ∷ 0xF0 ∷ 0x00 ∷ [])

abbrev pub long_table : ℕ → List ℕ
long_table id = sealed (id ∷ 0xB0 ∷ 0x09 ∷ 0x00 ∷ 0x01 ∷ 0xC1 ∷ 0x00 ∷ 0x00 ∷ [])

abbrev pub short_table : ℕ → ℕ → List ℕ
short_table id n = id ∷ 0x70 ∷ n ∷ replicate n 0x00

abbrev pub starting : List ℕ → List ℕ
starting s = 0 ∷ s

unfoldable pub results_from : State → List ℕ → List ℕ → List (Call (List ℕ)) → List Result
results_from s counters m [] = []
results_from s counters m (clock t ∷ cs) =
    let r = clock_call s t m least_capacity in
    r ∷ results_from r.state counters r.memory cs
results_from s counters m (packet t p ∷ cs) =
    let r = packet_call s t p counters m least_capacity in
    r ∷ results_from r.state r.counters r.memory cs

abbrev pub results_of : List (Call (List ℕ)) → List Result
results_of cs = results_from (opened_state 0) (replicate table_size 0) (replicate memory_size 0) cs

abbrev pub refusals : List (Call (List ℕ)) → List ℕ
refusals cs = map (λ (r : Result). r.refusal) (results_of cs)

abbrev pub events : List (Call (List ℕ)) → List (List Event)
events cs = map (λ (r : Result). r.events) (results_of cs)

abbrev pub cores : List (Call (List ℕ)) → List Core
cores cs = map (λ (r : Result). r.state.core) (results_of cs)
