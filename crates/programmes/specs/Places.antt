-- Half-built sections of PMT PIDs when a list is read: document 01, "The programme list" ("A PID no longer listed loses its half-built
-- section"), and docs/DECISIONS.md, F4: the room of a PID is that of the first place with it, and its bytes move with it. old and new are
-- the two lists, each of its listed entries; ns are the half-built lengths of all rooms and m is section memory, both under the old list.
--
--   place_of q es     == the first place with the PID q, or the length of the list where there is none
--   is_listed q es    == the PID q is listed
--   pid_at es k       == the PID of the place k
--   is_first es k     == the place k is listed, and the first with its PID
--   half_at ns r      == the half-built length of the room r
--   places_from k n   == n places from the place k on
--   every_place       == the sixteen places of a list
--   keeps_at old new k == the place k of the new list has a half-built section to keep: it is the first with its PID, and the PID was listed before
--   stood_in old new k == the room where that section stood: the one of the PID's first place in the old list
--   moved_half old new ns k == the half-built length of the place k of the new list: that of the section to keep; 0 where there is none
--   moved_halves old new ns == all half-built lengths: those of the fixed rooms as they were, then those of the sixteen places
--   moved_section old new ns m k == the half-built bytes of the place k of the new list, as they stood in the memory m
--   rooms_laid sections ks m == section memory, where the room of each place k of ks begins with the bytes sections k
--   moved_bytes old new ns m == section memory, where the room of each place of the new list begins with its half-built bytes
use Rattle.std.specs.Prelude.{ℕ, zero, suc, ◌+◌, Bool, cond, ◌&&◌, ltb, eqb, length, get_or, take}
use mathlib.Core.List.{List, [], ◌∷◌, ◌++◌, map, foldl}
use Rattle.std.proofs.lemmas.List.Edits.{sets}
use Rattle.watches.specs.declared.Entry.{Entry}
use Rattle.watches.specs.Tables.{fixed_count, no_entry}
use Rattle.sections.specs.Rooms.{room_of_place, room_base, half_built}
use Rattle.programmes.specs.Listing.{most_listed}

unfoldable pub place_of : ℕ → List Entry → ℕ
place_of q [] = 0
place_of q (e ∷ es) = cond (eqb e.pid q) 0 (suc (place_of q es))

abbrev pub is_listed : ℕ → List Entry → Bool
is_listed q es = ltb (place_of q es) (length es)

abbrev pub pid_at : List Entry → ℕ → ℕ
pid_at es k = (get_or es k no_entry).pid

abbrev pub is_first : List Entry → ℕ → Bool
is_first es k = ltb k (length es) && eqb (place_of (pid_at es k) es) k

abbrev pub half_at : List ℕ → ℕ → ℕ
half_at ns r = get_or ns r 0

unfoldable pub places_from : ℕ → ℕ → List ℕ
places_from k zero = []
places_from k (suc n) = k ∷ places_from (k + 1) n

abbrev pub every_place : List ℕ
every_place = places_from 0 most_listed

-- LENGTHS
abbrev pub keeps_at : List Entry → List Entry → ℕ → Bool
keeps_at old new k = is_first new k && is_listed (pid_at new k) old

abbrev pub stood_in : List Entry → List Entry → ℕ → ℕ
stood_in old new k = room_of_place (place_of (pid_at new k) old)

abbrev pub moved_half : List Entry → List Entry → List ℕ → ℕ → ℕ
moved_half old new ns k = cond (keeps_at old new k) (half_at ns (stood_in old new k)) 0

abbrev pub moved_halves : List Entry → List Entry → List ℕ → List ℕ
moved_halves old new ns = take fixed_count ns ++ map (moved_half old new ns) every_place

-- BYTES
abbrev pub moved_section : List Entry → List Entry → List ℕ → List ℕ → ℕ → List ℕ
moved_section old new ns m k = half_built m (stood_in old new k) (moved_half old new ns k)

abbrev pub rooms_laid : (ℕ → List ℕ) → List ℕ → List ℕ → List ℕ
rooms_laid sections ks m = foldl (λ z k. sets z (room_base (room_of_place k)) (sections k)) m ks

abbrev pub moved_bytes : List Entry → List Entry → List ℕ → List ℕ → List ℕ
moved_bytes old new ns m = rooms_laid (moved_section old new ns m) every_place m
