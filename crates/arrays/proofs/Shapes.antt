-- A call keeps the shape of the state: five gap starts, sixteen places, twenty-one half-built lengths, a run below 256 and a list of at most sixteen.
-- Assumes nothing.
use mathlib.Core.Path.{◌≡◌, refl, ◌∙◌}
use mathlib.Core.Bool.{Bool, true, false, cond, ◌||◌}
use mathlib.Core.List.{List, [], ◌∷◌}
use Prim.Native.Nat.{ℕ, ◌≤◌}
use native.Mathlib.Omega.{arith}
use lib.Dec.{eqb, leb}
use lib.ListN.{length, get_or, set, length-set, length-replicate}
use borrow.Author.Tests.{eqb-true, eqb-false, leb-true, leb-false}
use Rattle.lists.proofs.Places.{front_length, part_length}
use Rattle.lists.proofs.Tests.{or_false_right}
use Rattle.watches.specs.declared.Entry.{Entry}
use Rattle.watches.specs.Tables.{no_entry, fixed_count}
use Rattle.header.specs.Header.{right_sync, pid_of}
use Rattle.sections.specs.Rooms.{room_count, pat_room}
use Rattle.programmes.specs.declared.Listed.{Listed}
use Rattle.programmes.specs.Listing.{most_listed, number_of, entry_pid, entries_of, is_number, pid_unusable, entry_for, made_bad, listed_with, entered, read_on, none_listed, list_of}
use Rattle.programmes.proofs.Moves.{halves_length}
use Rattle.calls.specs.declared.Core.{Core}
use Rattle.calls.specs.declared.State.{State}
use Rattle.calls.specs.Cores.{Held, listed, with_half, opened_state}
use Rattle.calls.specs.Steps.{touched, new_list, listed_by, relisted, bytes_of, step1}
use Rattle.calls.specs.Sound.{state_sound}
use Rattle.calls.specs.Calls.{held_of, packet_refusal, clock_refusal, packet_call, clock_call}
use Rattle.calls.proofs.Moves.{Moves, packet_moves, sync_moves}
use Rattle.calls.proofs.Accepted.{sound_parts, packet_accepted, clock_accepted, packet_call_accepted, packet_call_refused, clock_call_accepted, clock_call_refused}
use Rattle.arrays.specs.Lent.{run_in, state_in, gaps_at, halves_at, run_at}
use Rattle.arrays.specs.inner.Kept.{Sized, Typed}
use Rattle.arrays.proofs.Back.{Shaped}
use Rattle.arrays.proofs.Stores.{entries_length}

record Fit (c : Core) : Type 0 where
  gaps : length c.since ≡ fixed_count
  places : length c.entries ≡ most_listed
  rooms : length c.half ≡ room_count
  run : c.run ≤ cond c.lost 4 1
  count : c.count ≤ most_listed

run_most : (lost : Bool) (run : ℕ) → run ≤ cond lost 4 1 → run ≤ 255
run_most true run h = omega arith
run_most false run h = omega arith

run_few : (lost : Bool) (run : ℕ) → run ≤ cond lost 4 1 → run ≤ 4
run_few true run h = h
run_few false run h = omega arith

fit_shaped : (s : State) → Fit s.core → Shaped s
fit_shaped s f =
    record {
      typed = record { gaps = f.gaps; places = f.places; rooms = f.rooms; run = run_most s.core.lost s.core.run f.run };
      count = omega (arith, f.count);
    }

-- THE LIST in a section
record ListFit (l : Listed) : Type 0 where
  count : l.count ≤ most_listed
  size : length l.entries ≡ most_listed

entered_fit : (t : ℕ) (old : List Entry) (seen : List ℕ) (n q : ℕ) (l : Listed) → ListFit l → ListFit (entered t old seen n q l)
entered_fit t old seen n q l f = go (eqb n 0) (pid_unusable q || (is_number n seen || leb most_listed l.count)) refl
  where
    go : (zero bad : Bool) → (pid_unusable q || (is_number n seen || leb most_listed l.count)) ≡ bad
        → ListFit (cond zero l (cond bad (made_bad l) (listed_with (entry_for t old n q) l)))
    go true bad e = f
    go false true e = record { count = f.count; size = f.size }
    go false false e =
        let free = leb-false most_listed l.count (or_false_right (is_number n seen) (leb most_listed l.count) (or_false_right (pid_unusable q) (is_number n seen || leb most_listed l.count) e)) in
        record { count = omega (arith, free); size = length-set l.entries l.count (entry_for t old n q) ∙ f.size }

read_fit : (t : ℕ) (old : List Entry) (seen : List ℕ) (l : Listed) (s : List ℕ) → ListFit l → ListFit (read_on t old seen l s)
unfolding read_on
read_fit t old seen l [] f = f
read_fit t old seen l (a ∷ []) f = record { count = f.count; size = f.size }
read_fit t old seen l (a ∷ b ∷ []) f = record { count = f.count; size = f.size }
read_fit t old seen l (a ∷ b ∷ c ∷ []) f = record { count = f.count; size = f.size }
read_fit t old seen l (a ∷ b ∷ c ∷ d ∷ s) f =
    read_fit t old (number_of a b ∷ seen) (entered t old seen (number_of a b) (entry_pid c d) l) s (entered_fit t old seen (number_of a b) (entry_pid c d) l f)

list_fit : (t : ℕ) (old : List Entry) (s : List ℕ) → ListFit (list_of t old s)
unfolding list_of
list_fit t old s = read_fit t old [] none_listed (entries_of s) (record { count = omega arith; size = length-replicate {A = Entry} most_listed no_entry })

-- A PACKET
relisted_fit : (t : ℕ) (s : List ℕ) (h : Held) → Fit h.core → Fit (relisted t s h).core
relisted_fit t s h f =
    let l = list_fit t (listed h.core) s in
    record {
      gaps = length-set h.core.since pat_room t ∙ f.gaps;
      places = l.size;
      rooms = halves_length (listed h.core) (listed_by (new_list t s h.core)) h.core.half f.rooms;
      run = f.run;
      count = l.count;
    }

unfoldable HeldFit : Held → List ℕ → Type 0
HeldFit h cs = Fit h.core

half_fit : (c : Core) (r n : ℕ) → Fit c → Fit (with_half (set c.half r n) c)
half_fit c r n f = record { gaps = f.gaps; places = f.places; rooms = length-set c.half r n ∙ f.rooms; run = f.run; count = f.count }

fit_moves : (t : ℕ) (p : List ℕ) → Moves t p HeldFit
unfolding HeldFit
fit_moves t p =
    record {
      synced = λ h cs f. sync_moves Fit h.core
          (λ lost run sound. record { gaps = f.gaps; places = f.places; rooms = f.rooms; run = sound f.run; count = f.count })
          (record { gaps = f.gaps; places = f.places; rooms = length-replicate {A = ℕ} room_count 0; run = omega arith; count = f.count }) (right_sync p);
      byte = λ h cs f. f;
      dropped = λ h cs f. half_fit h.core _ 0 f;
      built = λ h cs inside f. half_fit h.core _ _ f;
      table = λ g h cs r x from k f. record { gaps = length-set h.core.since r t ∙ f.gaps; places = f.places; rooms = f.rooms; run = f.run; count = f.count };
      page = λ g h cs r x from k f n.
          record { gaps = f.gaps; places = front_length (touched n (pid_of p) t) h.core.count h.core.entries ∙ f.places; rooms = f.rooms; run = f.run; count = f.count };
      list = λ g h cs x from k f. relisted_fit t (bytes_of x) h f;
    }

packet_fit : (t : ℕ) (p counters : List ℕ) (h : Held) → Fit h.core → Fit (step1 t p counters h).held.core
unfolding HeldFit
packet_fit t p counters h f = packet_moves t p HeldFit (fit_moves t p) counters h f

-- A STATE of right shape stays so
pub zero_or : (k : ℕ) (P : Type 0) → (k ≡ 0 → P) → ((k ≡ 0 → ⊥) → P) → P
zero_or k P yes-zero no_zero = go (eqb k 0) refl
  where
    go : (b : Bool) → eqb k 0 ≡ b → P
    go true e = yes-zero (eqb-true k 0 e)
    go false e = no_zero (eqb-false k 0 e)

module _ (s : State) (z : Typed s) where
  sound_fit : (m : List ℕ) (sound : state_sound s m ≡ true) → Fit s.core
  sound_fit m sound =
      let q = sound_parts s m sound in
      record { gaps = z.gaps; places = z.places; rooms = z.rooms; run = q.run; count = q.count }

  -- steps 1 to 5 leave a short list and a short run
  pub packet_small : (t : ℕ) (p counters m : List ℕ) → state_sound s m ≡ true
      → ((step1 t p counters (held_of s m)).held.core.count ≤ most_listed) × ((step1 t p counters (held_of s m)).held.core.run ≤ 4)
  packet_small t p counters m sound =
      let c = (step1 t p counters (held_of s m)).held.core in
      let f = packet_fit t p counters (held_of s m) (sound_fit m sound) in
      (f.count, run_few c.lost c.run f.run)

  pub accepted_shaped : (t : ℕ) (p counters m : List ℕ) (capacity : ℕ) → packet_refusal s t p counters m capacity ≡ 0 → Shaped (packet_call s t p counters m capacity).state
  accepted_shaped t p counters m capacity e =
      rw (packet_call_accepted s t p counters m capacity e)
      (fit_shaped _ (packet_fit t p counters (held_of s m) (sound_fit m (packet_accepted s t p counters m capacity e).sound)))

  pub accepted_clock_shaped : (t : ℕ) (m : List ℕ) (capacity : ℕ) → clock_refusal s t m capacity ≡ 0 → Shaped (clock_call s t m capacity).state
  accepted_clock_shaped t m capacity e =
      rw (clock_call_accepted s t m capacity e)
      (record {
        typed = record { gaps = z.gaps; places = z.places; rooms = z.rooms; run = z.run };
        count = omega (arith, (sound_parts s m (clock_accepted s t m capacity e).sound).count);
      })

module _ (s : State) (z : Shaped s) where
  pub packet_shaped : (t : ℕ) (p counters m : List ℕ) (capacity : ℕ) → Shaped (packet_call s t p counters m capacity).state
  packet_shaped t p counters m capacity =
      zero_or (packet_refusal s t p counters m capacity) _ (accepted_shaped s z.typed t p counters m capacity) (λ e. rw (packet_call_refused s t p counters m capacity e) z)

  pub clock_shaped : (t : ℕ) (m : List ℕ) (capacity : ℕ) → Shaped (clock_call s t m capacity).state
  clock_shaped t m capacity =
      zero_or (clock_refusal s t m capacity) _ (accepted_clock_shaped s z.typed t m capacity) (λ e. rw (clock_call_refused s t m capacity e) z)

pub opened_shaped : (t : ℕ) → Shaped (opened_state t)
opened_shaped t =
    record {
      typed =
          record {
            gaps = length-replicate {A = ℕ} fixed_count t;
            places = length-replicate {A = Entry} most_listed no_entry;
            rooms = length-replicate {A = ℕ} room_count 0;
            run = omega arith;
          };
      count = omega arith;
    }

-- the state that two arrays hold has its shape by their lengths
pub held_typed : (times words : List ℕ) → Sized times words → Typed (state_in times words)
unfolding state_in
held_typed times words sized =
    record {
      gaps = part_length times gaps_at fixed_count (omega (arith, sized.long));
      places = entries_length times words;
      rooms = part_length words halves_at room_count (omega (arith, sized.wide));
      run = run_held (get_or words run_at 0);
    }
  where
    run_held : (w : ℕ) → run_in w ≤ 255
    run_held w = go (leb w 255) refl
      where
        go : (b : Bool) → leb w 255 ≡ b → cond b w 255 ≤ 255
        go true e = leb-true w 255 e
        go false e = omega arith
