-- W-203: step 4 of document 01, "Judging one packet": continuity. Each sentence stands above what it says, in the paper's order
-- (docs/TRAINING.md). b is the table byte of the packet's PID, h the packet's header.
--
--   is_unseen b       == the table byte of an unseen PID
--   last_of b         == the last counter c
--   repeated_once b   == the table byte says that c was repeated once
--   known_byte b      == a table byte that these calls leave: 0, 16..31 or 48..63
--   control10, control11 h == adaptation_field_control is 10; 11
--   payload_to_take h  == there is a payload to take: not with a wrong length, and control 10 has none
--   section_stays h   == the half-built section is not dropped by a wrong length; under control 10 it never is
--   is_next b h       == the packet's counter is c+1 mod 16
--   is_last b h       == it is c
--   counter_case payload section b h == the cases, the first that holds, with all that it leaves: the PID's next table byte, 0x000E or no event, the half-built
--                       section kept or dropped, the payload taken or skipped; payload and section are what the adaptation length leaves to them
--   counted_of b h    == step 4 whole: the adaptation length, then the case
use Rattle.std.specs.Prelude.{ℕ, ◌+◌, ◌%◌, Bool, true, false, cond, not, ◌&&◌, ◌||◌, leb, eqb}
use Rattle.header.specs.declared.Header.{Header}
use Rattle.continuity.specs.declared.Counted.{Counted}

-- THE TABLE BYTE
-- Table byte: 0 unseen,
abbrev pub is_unseen : ℕ → Bool
is_unseen b = eqb b 0

-- 16+c last counter c,
abbrev pub last_of : ℕ → ℕ
last_of b = b % 16

-- 48+c the same and repeated once.
abbrev pub repeated_once : ℕ → Bool
repeated_once b = leb 48 b

abbrev pub known_byte : ℕ → Bool
known_byte b = is_unseen b || (leb 16 b && leb b 31) || (leb 48 b && leb b 63)

-- THE ADAPTATION LENGTH
abbrev pub control10 : Header → Bool
control10 h = eqb h.control 2

abbrev pub control11 : Header → Bool
control11 h = eqb h.control 3

-- Control 10 needs adaptation length 183, control 11 needs 0 to 182. Length 0 has no discontinuity indicator: it counts as 0. With a wrong length it
-- counts as 0 too [so far header/specs/Header.antt, `right_length` and `indicator`: h's `right` and `discontinuity`]
-- and there is no payload to take [control 10 has none]
abbrev pub payload_to_take : Header → Bool
payload_to_take h = h.right && not (control10 h)

-- (control 11 also drops the PID's half-built section).
abbrev pub section_stays : Header → Bool
section_stays h = h.right || not (control11 h)

-- THE COUNTER
abbrev pub is_next : ℕ → Header → Bool
is_next b h = eqb h.counter ((last_of b + 1) % 16)

abbrev pub is_last : ℕ → Header → Bool
is_last b h = eqb h.counter (last_of b)

-- THE CASES
abbrev pub counter_case : Bool → Bool → ℕ → Header → Counted
counter_case payload section b h =
    -- A set discontinuity indicator, or an unseen PID: byte becomes 16+counter, no event, half-built section dropped, payload taken.
    cond (h.discontinuity || is_unseen b) (record { byte = 16 + h.counter; event = false; keep = false; take = payload })
    -- Control 10: an equal counter changes nothing;
    (cond (control10 h && is_last b h) (record { byte = b; event = false; keep = section; take = false })
    -- another gives 0x000E and 16+counter, half-built section kept.
    (cond (control10 h) (record { byte = 16 + h.counter; event = true; keep = section; take = false })
    -- Controls 01 and 11: counter c+1 mod 16 gives 16+counter, payload taken.
    (cond (is_next b h) (record { byte = 16 + h.counter; event = false; keep = section; take = payload })
    -- Counter c once is a repeat: 48+c, payload skipped, no event.
    (cond (is_last b h && not (repeated_once b)) (record { byte = 48 + h.counter; event = false; keep = section; take = false })
    -- Counter c again: 0x000E, byte stays, payload skipped.
    (cond (is_last b h) (record { byte = b; event = true; keep = section; take = false })
    -- Any other: 0x000E, 16+counter, half-built section dropped, payload taken.
    (record { byte = 16 + h.counter; event = true; keep = false; take = payload }))))))

-- THE STEP
unfoldable pub counted_of : ℕ → Header → Counted
counted_of b h = counter_case (payload_to_take h) (section_stays h) b h
