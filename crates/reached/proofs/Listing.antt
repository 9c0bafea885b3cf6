-- The list read from a section of bytes is sound, whatever the section says. Assumes nothing.
use mathlib.Core.Path.{◌≡◌, refl, sym, ap, subst, ◌∙◌}
use mathlib.Core.Bool.{Bool, true, false, cond, not, ◌&&◌, ◌||◌, true≢false}
use mathlib.Core.List.{List, [], ◌∷◌}
use Prim.Native.Nat.{ℕ, zero, suc, ◌+◌, ◌-◌, ◌≤◌, ◌<◌}
use native.Mathlib.Nat.{not-suc-le-zero}
use native.Mathlib.Omega.{arith}
use lib.Dec.{leb, ltb, eqb}
use lib.ListN.{length, get_or, set, take, length-set}
use lib.Seq.{get_or-take, length-take-le, get_or-set_same, get_or-set_other}
use borrow.Author.Tests.{eqb-false, leb-false, ltb-false, eq-eqb}
use Rattle.lists.specs.Places.{front}
use Rattle.lists.proofs.Tests.{and_left, and_right, or_false_left, or_false_right, Order, below, from, order}
use Rattle.watches.specs.declared.Entry.{Entry}
use Rattle.watches.specs.Tables.{no_entry, latest_time}
use Rattle.programmes.specs.declared.Listed.{Listed}
use Rattle.programmes.specs.Listing.{most_listed, lowest_pid, null_pid, number_of, entry_pid, entries_of, is_number, pid_unusable, is_pair, entry_for, made_bad, listed_with, entered, read_on, none_listed, list_of}
use Rattle.programmes.proofs.Entries.{entry_number, entry_pid_lem}
use Rattle.calls.specs.Sound.{number_among, entry_sound, entries_sound}
use Rattle.calls.specs.Steps.{touched}
use Rattle.calls.proofs.Accepted.{SoundEntry, entry_parts, entry_whole, entries_whole}
use Rattle.reached.specs.Reached.{Bytes}
use Rattle.reached.proofs.Places.{all_part}

-- THE WATCH of a pair begins at a sound time
pub since_sound : (t : ℕ) (old : List Entry) (n q : ℕ) → t ≤ latest_time → entries_sound old ≡ true → (entry_for t old n q).since ≤ latest_time
unfolding entry_for entries_sound
since_sound t [] n q h e = h
since_sound t (x ∷ old) n q h e =
    let first = and_left (entry_sound x && not (number_among x.number old)) (entries_sound old) e in
    let rest = and_right (entry_sound x && not (number_among x.number old)) (entries_sound old) e in
    go (is_pair n q x) (entry_parts x (and_left (entry_sound x) (not (number_among x.number old)) first)).since (since_sound t old n q h rest)
  where
    go : (b : Bool) → x.since ≤ latest_time → (entry_for t old n q).since ≤ latest_time → (cond b x (entry_for t old n q)).since ≤ latest_time
    go true a r = a
    go false a r = r

-- A LIST half read: each entry is sound, and its number is among those seen
pub record Half (seen : List ℕ) (l : Listed) : Type 0 where
  pub count : l.count ≤ most_listed
  pub size : length l.entries ≡ most_listed
  pub each : (k : ℕ) → k < l.count → SoundEntry (get_or l.entries k no_entry)
  pub apart : (i k : ℕ) → i < k → k < l.count → (get_or l.entries i no_entry).number ≡ (get_or l.entries k no_entry).number → ⊥
  pub known : (k : ℕ) → k < l.count → is_number (get_or l.entries k no_entry).number seen ≡ true

pub record SoundListed (l : Listed) : Type 0 where
  pub count : l.count ≤ most_listed
  pub entries : entries_sound (take l.count l.entries) ≡ true

half_sound : (seen : List ℕ) (l : Listed) → Half seen l → SoundListed l
half_sound seen l h = record { count = h.count; entries = entries_whole (take l.count l.entries) (record { each = each; apart = apart }) }
  where
    size : length (take l.count l.entries) ≡ l.count
    size = length-take-le l.count l.entries (omega (arith, h.size, h.count))

    same : (k : ℕ) → k < l.count → get_or (take l.count l.entries) k no_entry ≡ get_or l.entries k no_entry
    same k g = get_or-take l.count l.entries k no_entry g

    each : (k : ℕ) → k < length (take l.count l.entries) → SoundEntry (get_or (take l.count l.entries) k no_entry)
    each k g = rw (same k (omega (arith, size))) (h.each k (omega (arith, size)))

    apart : (i k : ℕ) → i < k → k < length (take l.count l.entries)
        → (get_or (take l.count l.entries) i no_entry).number ≡ (get_or (take l.count l.entries) k no_entry).number → ⊥
    apart i k u g = rw (same i (omega (arith, size)), same k (omega (arith, size))) (h.apart i k u (omega (arith, size)))

-- a number more is seen
seen_more : (n x : ℕ) (seen : List ℕ) → is_number x seen ≡ true → is_number x (n ∷ seen) ≡ true
unfolding is_number
seen_more n x seen e = go (eqb n x)
  where
    go : (b : Bool) → (b || is_number x seen) ≡ true
    go true = refl
    go false = e

seen_here : (n x : ℕ) (seen : List ℕ) → n ≡ x → is_number x (n ∷ seen) ≡ true
unfolding is_number
seen_here n x seen e = rw (eq-eqb n x e)

passed : (n : ℕ) (seen : List ℕ) (l : Listed) → Half seen l → Half (n ∷ seen) l
passed n seen l h = record { count = h.count; size = h.size; each = h.each; apart = h.apart; known = λ k g. seen_more n (get_or l.entries k no_entry).number seen (h.known k g) }

spoilt : (seen : List ℕ) (l : Listed) → Half seen l → Half seen (made_bad l)
spoilt seen l h = record { count = h.count; size = h.size; each = h.each; apart = h.apart; known = h.known }

-- a usable entry is listed
module _ (seen : List ℕ) (l : Listed) (h : Half seen l) (e : Entry) (good : SoundEntry e) (new : is_number e.number seen ≡ false) (free : l.count < most_listed) where
  abbrev next : List Entry
  next = set l.entries l.count e

  before : (k : ℕ) → k < l.count → get_or next k no_entry ≡ get_or l.entries k no_entry
  before k g = get_or-set_other l.entries l.count k e no_entry (λ q. omega arith)

  last : (k : ℕ) → l.count ≡ k → get_or next k no_entry ≡ e
  last k q = ap (λ i. get_or next i no_entry) (sym q) ∙ get_or-set_same l.entries l.count e no_entry (omega (arith, h.size))

  each_next : (k : ℕ) → k < l.count + 1 → SoundEntry (get_or next k no_entry)
  each_next k g = go (order k l.count)
    where
      go : Order k l.count → SoundEntry (get_or next k no_entry)
      go (below b) = rw (before k b) (h.each k b)
      go (from b) = rw (last k (omega arith)) good

  apart_next : (i k : ℕ) → i < k → k < l.count + 1 → (get_or next i no_entry).number ≡ (get_or next k no_entry).number → ⊥
  apart_next i k u g q = go (order k l.count)
    where
      go : Order k l.count → ⊥
      go (below b) = h.apart i k u b (sym (ap (λ (x : Entry). x.number) (before i (omega arith))) ∙ q ∙ ap (λ (x : Entry). x.number) (before k b))
      go (from b) =
          let same = sym (ap (λ (x : Entry). x.number) (before i (omega arith))) ∙ q ∙ ap (λ (x : Entry). x.number) (last k (omega arith)) in
          true≢false (sym (h.known i (omega arith)) ∙ ap (λ x. is_number x seen) same ∙ new)

  known_next : (k : ℕ) → k < l.count + 1 → is_number (get_or next k no_entry).number (e.number ∷ seen) ≡ true
  known_next k g = go (order k l.count)
    where
      go : Order k l.count → is_number (get_or next k no_entry).number (e.number ∷ seen) ≡ true
      go (below b) = rw (before k b) (seen_more e.number (get_or l.entries k no_entry).number seen (h.known k b))
      go (from b) = rw (last k (omega arith)) (seen_here e.number e.number seen refl)

  listed_half : Half (e.number ∷ seen) (listed_with e l)
  listed_half =
      record { count = omega arith; size = length-set l.entries l.count e ∙ h.size; each = each_next; apart = apart_next; known = known_next }

-- AN ENTRY READ, usable or not
module _ (t : ℕ) (old : List Entry) (time : t ≤ latest_time) (sound : entries_sound old ≡ true) where
  entered_half : (seen : List ℕ) (n q : ℕ) (l : Listed) → q < 0x2000 → Half seen l → Half (n ∷ seen) (entered t old seen n q l)
  entered_half seen n q l small h = go (eqb n 0) refl (pid_unusable q || (is_number n seen || leb most_listed l.count)) refl
    where
      entry : Entry
      entry = entry_for t old n q

      go : (zero : Bool) → eqb n 0 ≡ zero → (bad : Bool) → (pid_unusable q || (is_number n seen || leb most_listed l.count)) ≡ bad
          → Half (n ∷ seen) (cond zero l (cond bad (made_bad l) (listed_with entry l)))
      go true z bad b = passed n seen l h
      go false z true b = spoilt (n ∷ seen) l (passed n seen l h)
      go false z false b =
          let pid = or_false_left (pid_unusable q) (is_number n seen || leb most_listed l.count) b in
          let rest = or_false_right (pid_unusable q) (is_number n seen || leb most_listed l.count) b in
          let null = eqb-false q null_pid (or_false_right (ltb q lowest_pid) (eqb q null_pid) pid) in
          let good : SoundEntry entry =
          record {
            number = λ none. eqb-false n 0 z (sym (entry_number t old n q) ∙ none);
            low = rw (entry_pid_lem t old n q) (ltb-false q lowest_pid (or_false_left (ltb q lowest_pid) (eqb q null_pid) pid));
            high = rw (entry_pid_lem t old n q) (omega arith);
            since = since_sound t old n q time sound;
          } in
          let new : is_number entry.number seen ≡ false = rw (entry_number t old n q) (or_false_left (is_number n seen) (leb most_listed l.count) rest) in
          subst (λ (x : ℕ). Half (x ∷ seen) (listed_with entry l)) (entry_number t old n q)
          (listed_half seen l h entry good new (leb-false most_listed l.count (or_false_right (is_number n seen) (leb most_listed l.count) rest)))

  -- ALL ENTRIES
  pub read_sound : (seen : List ℕ) (l : Listed) (s : List ℕ) → Bytes s → Half seen l → SoundListed (read_on t old seen l s)
  unfolding read_on
  read_sound seen l [] b h = half_sound seen l h
  read_sound seen l (x ∷ []) b h = half_sound seen (made_bad l) (spoilt seen l h)
  read_sound seen l (x ∷ y ∷ []) b h = half_sound seen (made_bad l) (spoilt seen l h)
  read_sound seen l (x ∷ y ∷ c ∷ []) b h = half_sound seen (made_bad l) (spoilt seen l h)
  read_sound seen l (x ∷ y ∷ c ∷ d ∷ s) b h =
      let low : d < 256 = b 3 in
      read_sound (number_of x y ∷ seen) (entered t old seen (number_of x y) (entry_pid c d) l) s (λ k. b (suc (suc (suc (suc k)))))
      (entered_half seen (number_of x y) (entry_pid c d) l (omega arith) h)

  pub list_sound : (s : List ℕ) → Bytes s → SoundListed (list_of t old s)
  unfolding list_of
  list_sound s b = read_sound [] none_listed (entries_of s) (all_part (λ x. x < 256) s 8 (length s - 12) (omega arith) b) begun
    where
      begun : Half [] none_listed
      begun =
          record {
            count = omega arith;
            size = refl;
            each = λ k g. absurd (not-suc-le-zero g);
            apart = λ i k u g. absurd (not-suc-le-zero g);
            known = λ k g. absurd (not-suc-le-zero g);
          }

-- A GOOD PMT SECTION moves gap starts alone
module _ (n q t : ℕ) (time : t ≤ latest_time) where
  among_touched : (x c : ℕ) (es : List Entry) → number_among x (take c (front (touched n q t) c es)) ≡ number_among x (take c es)
  unfolding number_among
  among_touched x zero es = refl
  among_touched x (suc c) [] = refl
  among_touched x (suc c) (e ∷ es) = ap (cond (eqb e.number x) true) (among_touched x c es)

  touched_sound : (e : Entry) → entry_sound e ≡ true → entry_sound (touched n q t e) ≡ true
  touched_sound e h = go (is_pair n q e)
    where
      entry : SoundEntry e
      entry = entry_parts e h

      go : (b : Bool) → entry_sound (record { number = e.number; pid = e.pid; since = cond b t e.since }) ≡ true
      go true = entry_whole (record { number = e.number; pid = e.pid; since = t }) (record { number = entry.number; low = entry.low; high = entry.high; since = time })
      go false = h

  pub front_sound : (c : ℕ) (es : List Entry) → entries_sound (take c es) ≡ true → entries_sound (take c (front (touched n q t) c es)) ≡ true
  unfolding entries_sound
  front_sound zero es e = e
  front_sound (suc c) [] e = e
  front_sound (suc c) (x ∷ es) e =
      let others = not (number_among x.number (take c es)) in
      let first = and_left (entry_sound x && others) (entries_sound (take c es)) e in
      rw (touched_sound x (and_left (entry_sound x) others first), among_touched x.number c es, and_right (entry_sound x) others first)
      (front_sound c es (and_right (entry_sound x && others) (entries_sound (take c es)) e))
