-- The list in a good PAT section: document 01, "The programme list". t is the section's arrival, old the list just replaced.
--
--   most_listed, lowest_pid, null_pid == sixteen; 0x0020; 0x1FFF
--   number_of a b, entry_pid c d == programme number and PID of an entry's four bytes
--   entries_of s      == the bytes of the entries: those of the section but its first eight and its CRC_32
--   is_number n es    == n is among these numbers
--   pid_unusable q    == a PID below 0x0020 or equal to 0x1FFF
--   is_pair n q e     == the entry e is the pair of number n and PID q
--   entry_for t old n q == a pair of number and PID that was listed before keeps its watch: its whole old entry; a new pair begins one at this
--                       arrival
--   listed_with, made_bad == the list with one entry more; the list made bad, the entry ignored
--   entered          == one entry: programme 0 is passed over; one with an unusable PID, with a number seen earlier in the section, or past the
--                       sixteenth usable one makes the list bad
--   read_on           == the entries from here on; one to three spare bytes at the end make the list bad
--   none_listed       == the list before its first entry
--   list_of t old s   == the list of the section s
use Rattle.std.specs.Prelude.{ℕ, ◌+◌, ◌-◌, ◌*◌, ◌%◌, Bool, true, false, cond, ◌&&◌, ◌||◌, List, [], ◌∷◌, leb, ltb, eqb, length, set, replicate}
use Rattle.lists.specs.Places.{part}
use Rattle.watches.specs.declared.Entry.{Entry}
use Rattle.watches.specs.Tables.{no_entry}
use Rattle.programmes.specs.declared.Listed.{Listed}

abbrev pub most_listed : ℕ
most_listed = 16

abbrev pub lowest_pid : ℕ
lowest_pid = 0x0020

abbrev pub null_pid : ℕ
null_pid = 0x1FFF

abbrev pub number_of : ℕ → ℕ → ℕ
number_of a b = a * 256 + b

abbrev pub entry_pid : ℕ → ℕ → ℕ
entry_pid c d = c % 32 * 256 + d

abbrev pub entries_of : List ℕ → List ℕ
entries_of s = part s 8 (length s - 12)

unfoldable pub is_number : ℕ → List ℕ → Bool
is_number n [] = false
is_number n (m ∷ ms) = eqb m n || is_number n ms

abbrev pub pid_unusable : ℕ → Bool
pid_unusable q = ltb q lowest_pid || eqb q null_pid

abbrev pub is_pair : ℕ → ℕ → Entry → Bool
is_pair n q e = eqb e.number n && eqb e.pid q

unfoldable pub entry_for : ℕ → List Entry → ℕ → ℕ → Entry
entry_for t [] n q = record { number = n; pid = q; since = t }
entry_for t (e ∷ es) n q = cond (is_pair n q e) e (entry_for t es n q)

abbrev pub made_bad : Listed → Listed
made_bad l = record { count = l.count; bad = true; entries = l.entries }

abbrev pub listed_with : Entry → Listed → Listed
listed_with e l = record { count = l.count + 1; bad = l.bad; entries = set l.entries l.count e }

abbrev pub entered : ℕ → List Entry → List ℕ → ℕ → ℕ → Listed → Listed
entered t old seen n q l =
    cond (eqb n 0) l
    (cond (pid_unusable q || (is_number n seen || leb most_listed l.count)) (made_bad l)
    (listed_with (entry_for t old n q) l))

unfoldable pub read_on : ℕ → List Entry → List ℕ → Listed → List ℕ → Listed
read_on t old seen l [] = l
read_on t old seen l (a ∷ []) = made_bad l
read_on t old seen l (a ∷ b ∷ []) = made_bad l
read_on t old seen l (a ∷ b ∷ c ∷ []) = made_bad l
read_on t old seen l (a ∷ b ∷ c ∷ d ∷ s) =
    read_on t old (number_of a b ∷ seen) (entered t old seen (number_of a b) (entry_pid c d) l) s

abbrev pub none_listed : Listed
none_listed = record { count = 0; bad = false; entries = replicate most_listed no_entry }

unfoldable pub list_of : ℕ → List Entry → List ℕ → Listed
list_of t old s = read_on t old [] none_listed (entries_of s)
