-- The list without gap starts: rooms, half-built sections and the reading of a list go by numbers and PIDs alone. Assumes nothing.
use mathlib.Core.Path.{◌≡◌, refl, sym, ap, ap₂, ◌∙◌}
use mathlib.Core.Bool.{Bool, true, false, cond, ◌||◌}
use mathlib.Core.List.{List, [], ◌∷◌, ◌++◌, map, map_congr_left}
use Prim.Native.Nat.{ℕ, zero, suc, ◌+◌}
use native.Mathlib.Numerals.{add-one}
use lib.Dec.{eqb, leb}
use lib.ListN.{length, set, take}
use Rattle.lists.specs.Places.{front}
use Rattle.watches.specs.declared.Entry.{Entry}
use Rattle.programmes.specs.declared.Listed.{Listed}
use Rattle.programmes.specs.Listing.{most_listed, number_of, entry_pid, entries_of, is_number, pid_unusable, entry_for, made_bad, listed_with, entered, read_on, none_listed, list_of}
use Rattle.programmes.specs.Places.{place_of, pid_at, every_place, moved_half, moved_halves, moved_bytes}
use Rattle.programmes.proofs.Entries.{entry_number, entry_pid_lem}
use Rattle.calls.specs.declared.Core.{Core}
use Rattle.calls.specs.Cores.{listed, room_for}
use Rattle.calls.specs.Steps.{listed_by}
use Rattle.demands.specs.Listening.{pair_of, plain, pairs_in, room_on, Pair}

-- PLACES
place_of_plain : (q : ℕ) (es : List Entry) → place_of q (plain (map pair_of es)) ≡ place_of q es
unfolding place_of
place_of_plain q [] = refl
place_of_plain q (e ∷ es) = ap (λ z. cond (eqb e.pid q) 0 (suc z)) (place_of_plain q es)

length_plain : (es : List Entry) → length (plain (map pair_of es)) ≡ length es
length_plain [] = refl
length_plain (e ∷ es) = ap suc (length_plain es)

pid_at_plain : (es : List Entry) (k : ℕ) → pid_at (plain (map pair_of es)) k ≡ pid_at es k
pid_at_plain [] zero = refl
pid_at_plain [] (suc k) = refl
pid_at_plain (e ∷ es) zero = refl
pid_at_plain (e ∷ es) (suc k) = pid_at_plain es k

pub room_on_listed : (c : Core) (q : ℕ) → room_on (map pair_of (listed c)) q ≡ room_for c q
unfolding room_on room_for
room_on_listed c q = simp (place_of_plain, length_plain)

-- HALF-BUILT SECTIONS
module _ (old new : List Entry) where
  pub moved_halves_plain : (ns : List ℕ) → moved_halves (plain (map pair_of old)) (plain (map pair_of new)) ns ≡ moved_halves old new ns
  moved_halves_plain ns =
      ap (λ z. take 5 ns ++ z)
      (map_congr_left {f = moved_half (plain (map pair_of old)) (plain (map pair_of new)) ns} {g = moved_half old new ns} {l = every_place} (λ k among. simp (pid_at_plain, place_of_plain, length_plain)))

  pub moved_bytes_plain : (ns m : List ℕ) → moved_bytes (plain (map pair_of old)) (plain (map pair_of new)) ns m ≡ moved_bytes old new ns m
  moved_bytes_plain ns m = simp (pid_at_plain, place_of_plain, length_plain)

-- THE READING OF A LIST: its entries are those read with no list before, each as the old one that it keeps or as a new one
abbrev pub renewed : ℕ → List Entry → Entry → Entry
renewed t old e = entry_for t old e.number e.pid

front_suc : (f : Entry → Entry) (n : ℕ) (l : List Entry) (e : Entry) → set (front f n l) n (f e) ≡ front f (suc n) (set l n e)
front_suc f zero [] e = refl
front_suc f zero (x ∷ l) e = refl
front_suc f (suc n) [] e = refl
front_suc f (suc n) (x ∷ l) e = ap (λ z. f x ∷ z) (front_suc f n l e)

front_set : (f : Entry → Entry) (n : ℕ) (l : List Entry) (e : Entry) → set (front f n l) n (f e) ≡ front f (n + 1) (set l n e)
front_set f n l e = rw (add-one n) (front_suc f n l e)

pub take_front : (f : Entry → Entry) (n : ℕ) (l : List Entry) → take n (front f n l) ≡ map f (take n l)
take_front f zero l = refl
take_front f (suc n) [] = refl
take_front f (suc n) (x ∷ l) = ap (λ z. f x ∷ z) (take_front f n l)

module _ (t : ℕ) (old : List Entry) where
  abbrev renewed_list : Listed → Listed
  renewed_list l = record { count = l.count; bad = l.bad; entries = front (renewed t old) l.count l.entries }

  entered_renewed : (heard : List ℕ) (n q : ℕ) (l : Listed) → entered t old heard n q (renewed_list l) ≡ renewed_list (entered 0 [] heard n q l)
  unfolding entry_for
  entered_renewed heard n q l = go (eqb n 0) (pid_unusable q || (is_number n heard || leb most_listed l.count))
    where
      e : Entry
      e = record { number = n; pid = q; since = 0 }

      go : (a b : Bool)
          → cond a (renewed_list l) (cond b (made_bad (renewed_list l)) (listed_with (renewed t old e) (renewed_list l)))
          ≡ renewed_list (cond a l (cond b (made_bad l) (listed_with e l)))
      go true b = refl
      go false true = refl
      go false false = ap (λ z. record { count = l.count + 1; bad = l.bad; entries = z }) (front_set (renewed t old) l.count l.entries e)

  read_on_renewed : (heard : List ℕ) (l : Listed) (s : List ℕ) → read_on t old heard (renewed_list l) s ≡ renewed_list (read_on 0 [] heard l s)
  unfolding read_on
  read_on_renewed heard l [] = refl
  read_on_renewed heard l (a ∷ []) = refl
  read_on_renewed heard l (a ∷ b ∷ []) = refl
  read_on_renewed heard l (a ∷ b ∷ c ∷ []) = refl
  read_on_renewed heard l (a ∷ b ∷ c ∷ d ∷ s) =
      ap (λ z. read_on t old (number_of a b ∷ heard) z s) (entered_renewed heard (number_of a b) (entry_pid c d) l)
      ∙ read_on_renewed (number_of a b ∷ heard) (entered 0 [] heard (number_of a b) (entry_pid c d) l) s

  pub list_of_renewed : (s : List ℕ) → listed_by (list_of t old s) ≡ map (renewed t old) (listed_by (list_of 0 [] s))
  unfolding list_of
  list_of_renewed s =
      ap listed_by (read_on_renewed [] none_listed (entries_of s))
      ∙ take_front (renewed t old) (read_on 0 [] [] none_listed (entries_of s)).count (read_on 0 [] [] none_listed (entries_of s)).entries

  pairs_renewed : (es : List Entry) → map pair_of (map (renewed t old) es) ≡ map pair_of es
  pairs_renewed [] = refl
  pairs_renewed (e ∷ es) =
      let same : pair_of (renewed t old e) ≡ pair_of e = rw (entry_number t old e.number e.pid, entry_pid_lem t old e.number e.pid) in
      ap₂ (λ (p : Pair) (ps : List Pair). p ∷ ps) same (pairs_renewed es)

  pub pairs_in_read : (s : List ℕ) → pairs_in s ≡ map pair_of (listed_by (list_of t old s))
  pairs_in_read s = sym (ap (map pair_of) (list_of_renewed s) ∙ pairs_renewed (listed_by (list_of 0 [] s)))
