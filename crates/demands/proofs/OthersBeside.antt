-- The replaced log beside the log itself: call by call the two states are alike in the PIDs that are followed, and the call of the replaced log is
-- accepted where that of the log is. Assumes nothing.
use mathlib.Core.Path.{◌≡◌, refl, sym, ap, ap₂, ◌∙◌}
use mathlib.Core.Logic.{◌≢◌}
use mathlib.Core.Bool.{Bool, true, false, cond, not, ◌&&◌, ◌||◌, true≢false}
use mathlib.Core.List.{List}
use Prim.Native.Nat.{ℕ, ◌≤◌}
use native.Mathlib.Omega.{arith}
use lib.Dec.{ltb, eqb}
use lib.ListN.{length, take}
use borrow.Author.Tests.{lt-ltb, ltb-true}
use Rattle.lists.proofs.Tests.{and_left, and_right, and_intro}
use Rattle.lateness.specs.Logs.{Call, clock, packet, or_clock}
use Rattle.events.specs.Capacity.{least_capacity}
use Rattle.watches.specs.declared.Entry.{Entry}
use Rattle.watches.specs.Tables.{fixed_tables, pat_pid, latest_time}
use Rattle.header.specs.Header.{pid_of}
use Rattle.continuity.specs.Continuity.{known_byte}
use Rattle.calls.specs.Steps.{step1}
use Rattle.calls.specs.Sound.{number_among, entry_sound, entries_sound, state_sound, byte_sound}
use Rattle.calls.specs.Calls.{held_of}
use Rattle.calls.proofs.Accepted.{ClockAccepted, clock_accepted, accepted_clock_lem, PacketAccepted, packet_accepted, accepted_packet_lem, packet_number, clock_number, SoundEntry, entry_parts, entry_whole, entries_parts, entries_whole, sound_parts, sound_whole}
use Rattle.calls.specs.Cores.{listed, Held, fixed_room}
use Rattle.demands.specs.Runs.{Given, call_given}
use Rattle.demands.specs.Others.{replaced_call, RightSync}
use Rattle.demands.proofs.Accepted.{accepted_after}
use Rattle.demands.proofs.OthersLists.{Timely, Alikes, none, next}
use Rattle.demands.proofs.OthersPids.{Shaped, IsFixed}
use Rattle.demands.proofs.OthersAlike.{Closed}
use Rattle.demands.proofs.OthersSteps.{AlikeWith, with_sym, with_trans, other_1, own_1}
use Rattle.calls.proofs.Known.{KnownBytes}
use Rattle.demands.proofs.OthersUnlisted.{quiet_1}

-- A LIST that is alike to a sound one is sound, where no gap start is above 2^62
module _ (mine : ℕ → Bool) where
  alikes_among : (n : ℕ) {es ds : List Entry} → Alikes mine es ds → number_among n es ≡ number_among n ds
  unfolding number_among
  alikes_among n none = refl
  alikes_among n (next a z) = ap₂ (λ (x : ℕ) (b : Bool). cond (eqb x n) true b) a.number (alikes_among n z)

  alikes_sound : {es ds : List Entry} → Alikes mine es ds → Timely ds → entries_sound es ≡ true → entries_sound ds ≡ true
  unfolding entries_sound
  alikes_sound none h e = refl
  alikes_sound (next {e = x} {d = y} {es} {ds} a z) h e =
      let both = and_left (entry_sound x && not (number_among x.number es)) (entries_sound es) e in
      let s = entry_parts x (and_left (entry_sound x) (not (number_among x.number es)) both) in
      let sound : SoundEntry y =
      record {
        number = λ q. s.number (a.number ∙ q);
        low = omega (arith, s.low, a.pid);
        high = omega (arith, s.high, a.pid);
        since = h.0;
      } in
      let alone : not (number_among y.number ds) ≡ true =
      ap not (sym (ap (λ n. number_among n es) a.number ∙ alikes_among y.number z))
      ∙ and_right (entry_sound x) (not (number_among x.number es)) both in
      and_intro (entry_sound y && not (number_among y.number ds)) (entries_sound ds)
      (and_intro (entry_sound y) (not (number_among y.number ds)) (entry_whole y sound) alone)
      (alikes_sound z h.1 (and_right (entry_sound x && not (number_among x.number es)) (entries_sound es) e))

-- THE PIDS that are followed: those kept, and where PID 0 is not kept the fixed ones among them
abbrev is_fixed : ℕ → Bool
is_fixed q = ltb (fixed_room q fixed_tables) (length fixed_tables)

module _ (keep : ℕ → Bool) where
  unfoldable pub followed : ℕ → Bool
  followed q = keep q && (keep pat_pid || is_fixed q)

  followed_none : (q : ℕ) → keep q ≡ false → followed q ≡ false
  unfolding followed
  followed_none q e = ap (λ b. b && (keep pat_pid || is_fixed q)) e

  pub followed_fixed : (q : ℕ) → keep q ≡ true → IsFixed q → followed q ≡ true
  unfolding followed
  followed_fixed q e f = and_intro (keep q) (keep pat_pid || is_fixed q) e (go (keep pat_pid))
    where
      go : (b : Bool) → (b || is_fixed q) ≡ true
      go true = refl
      go false = lt-ltb (fixed_room q fixed_tables) 5 f

  pub followed_listed : (q : ℕ) → keep q ≡ true → keep pat_pid ≡ true → followed q ≡ true
  unfolding followed
  followed_listed q e z = rw (e, z)

  pat_followed : (b : Bool) → keep pat_pid ≡ b → followed pat_pid ≡ b
  unfolding followed fixed_room
  pat_followed true e = rw e
  pat_followed false e = rw e

  unfollowed_pat : followed pat_pid ≡ false → keep pat_pid ≡ false
  unfollowed_pat e = go (keep pat_pid) refl
    where
      go : (b : Bool) → keep pat_pid ≡ b → b ≡ false
      go true z = sym (pat_followed true z) ∙ e
      go false z = refl

  pub followed_closed : Closed followed
  unfolding followed
  followed_closed e q h =
      ltb-true (fixed_room q fixed_tables) 5
      (ap (λ b. b || is_fixed q) (sym (unfollowed_pat e)) ∙ and_right (keep q) (keep pat_pid || is_fixed q) h)

  -- a kept PID that is not followed is no PID 0, and PID 0 is not kept
  skipped : (q : ℕ) → keep q ≡ true → followed q ≡ false → followed pat_pid ≡ false
  unfolding followed
  skipped q e h = go (keep pat_pid) refl
    where
      go : (b : Bool) → keep pat_pid ≡ b → followed pat_pid ≡ false
      go true z = absurd (true≢false (sym (followed_listed q e z) ∙ h))
      go false z = pat_followed false z

  -- WHAT THE CALLS ARE GIVEN, side by side: g in the log, k in the replaced log
  pub record Beside (g k : Given) : Type 0 where
    pub latest : g.state.latest ≡ k.state.latest
    pub alike : AlikeWith followed (held_of g.state g.memory) g.counters (held_of k.state k.memory) k.counters
    pub unlisted : followed pat_pid ≡ false → (k.state.core.count ≡ 0) × KnownBytes k.counters

  module _ (g k : Given) (b : Beside g k) where
    shaped : Shaped (held_of k.state k.memory)
    shaped = b.alike.held.right

    -- the replaced log's state is sound where the log's is
    entries_beside : entries_sound (listed g.state.core) ≡ true → entries_sound (listed k.state.core) ≡ true
    unfolding entries_sound
    entries_beside e = go (followed pat_pid) refl
      where
        empty : k.state.core.count ≡ 0 → entries_sound (listed k.state.core) ≡ true
        empty z = ap (λ n. entries_sound (take n k.state.core.entries)) z

        go : (x : Bool) → followed pat_pid ≡ x → entries_sound (listed k.state.core) ≡ true
        go true z = alikes_sound followed (b.alike.held.lists z) shaped.starts e
        go false z = empty (b.unlisted z).0

    sound_beside : state_sound g.state g.memory ≡ true → state_sound k.state k.memory ≡ true
    sound_beside e =
        let s = sound_parts g.state g.memory e in
        sound_whole k.state k.memory
        (record {
          latest = omega (arith, s.latest, b.latest);
          since = shaped.times;
          count = shaped.count;
          entries = entries_parts (listed k.state.core) (entries_beside (entries_whole (listed g.state.core) s.entries));
          run = rw shaped.in_sync shaped.run;
          rooms = shaped.more;
        })

    -- so is the table byte of a kept packet
    byte_beside : (p : List ℕ) → keep (pid_of p) ≡ true → byte_sound g.counters p ≡ true → byte_sound k.counters p ≡ true
    byte_beside p kept e = go (followed (pid_of p)) refl
      where
        go : (x : Bool) → followed (pid_of p) ≡ x → byte_sound k.counters p ≡ true
        go true z = ap known_byte (sym (b.alike.byte (pid_of p) z)) ∙ e
        go false z = (b.unlisted (skipped (pid_of p) kept z)).1 (pid_of p)

    -- A CALL OF THE REPLACED LOG is accepted where the log's is
    module _ (capacity : ℕ) where
      clock_beside : (t : ℕ) → least_capacity ≤ capacity → t ≤ latest_time → state_sound g.state g.memory ≡ true → g.state.latest ≤ t
          → (call_given capacity k (clock t)).refusal ≡ 0
      clock_beside t r early sound later =
          clock_number k.state t k.memory capacity
          ∙ accepted_clock_lem k.state t k.memory capacity
          (record { capacity = r; time = early; sound = sound_beside sound; order = omega (arith, later, b.latest) })

      was_clock : (t : ℕ) → (call_given capacity g (clock t)).refusal ≡ 0 → ClockAccepted g.state t g.memory capacity
      was_clock t e = clock_accepted g.state t g.memory capacity (sym (clock_number g.state t g.memory capacity) ∙ e)

      was_packet : (t : ℕ) (p : List ℕ) → (call_given capacity g (packet t p)).refusal ≡ 0 → PacketAccepted g.state t p g.counters g.memory capacity
      was_packet t p e =
          packet_accepted g.state t p g.counters g.memory capacity (sym (packet_number g.state t p g.counters g.memory capacity) ∙ e)

      pub accepted_beside : (c : Call (List ℕ)) → (call_given capacity g c).refusal ≡ 0 → (call_given capacity k (replaced_call keep c)).refusal ≡ 0
      accepted_beside (clock t) e =
          let a = was_clock t e in
          clock_beside t a.capacity a.time a.sound a.order
      accepted_beside (packet t p) e = go (keep (pid_of p)) refl
        where
          a : PacketAccepted g.state t p g.counters g.memory capacity
          a = was_packet t p e

          go : (x : Bool) → keep (pid_of p) ≡ x → (call_given capacity k (or_clock x t p)).refusal ≡ 0
          go true z =
              packet_number k.state t p k.counters k.memory capacity
              ∙ accepted_packet_lem k.state t p k.counters k.memory capacity
              (record {
                packet = a.packet;
                table = sym b.alike.table ∙ a.table;
                capacity = a.capacity;
                time = a.time;
                sound = sound_beside a.sound;
                byte = byte_beside p z a.byte;
                order = omega (arith, a.order, b.latest);
              })
          go false z = clock_beside t a.capacity a.time a.sound a.order

      -- and the two stay side by side
      pub after_beside : (c : Call (List ℕ)) → (call_given capacity g c).refusal ≡ 0 → RightSync c → Beside (accepted_after g c) (accepted_after k (replaced_call keep c))
      after_beside (clock t) e right = record { latest = refl; alike = b.alike; unlisted = b.unlisted }
      after_beside (packet t p) e right = go (keep (pid_of p)) refl
        where
          early : t ≤ latest_time
          early = (was_packet t p e).time

          h : Held
          h = held_of g.state g.memory

          i : Held
          i = held_of k.state k.memory

          -- a PID that is not followed, in the one log and in the other
          left : followed (pid_of p) ≡ false → AlikeWith followed (step1 t p g.counters h).held (step1 t p g.counters h).counters i k.counters
          left other =
              with_trans followed (step1 t p g.counters h).held h i (step1 t p g.counters h).counters g.counters k.counters
              (other_1 followed followed_closed t early p other right h g.counters b.alike.held.left) b.alike

          both : (x : Bool) → followed (pid_of p) ≡ x
              → AlikeWith followed (step1 t p g.counters h).held (step1 t p g.counters h).counters (step1 t p k.counters i).held (step1 t p k.counters i).counters
          both true own = own_1 followed followed_closed t early p own right g.counters k.counters h i b.alike
          both false other =
              with_trans followed (step1 t p g.counters h).held i (step1 t p k.counters i).held (step1 t p g.counters h).counters k.counters
              (step1 t p k.counters i).counters (left other)
              (with_sym followed (step1 t p k.counters i).held i (step1 t p k.counters i).counters k.counters
              (other_1 followed followed_closed t early p other right i k.counters b.alike.held.right))

          still : keep (pid_of p) ≡ true → followed pat_pid ≡ false → ((step1 t p k.counters i).held.core.count ≡ 0) × KnownBytes (step1 t p k.counters i).counters
          still kept gone =
              let apart : pid_of p ≢ pat_pid = λ q. true≢false (sym kept ∙ ap keep q ∙ unfollowed_pat gone) in
              let quiet = quiet_1 t p apart right k.counters i shaped.in_sync (b.unlisted gone).1 in
              (quiet.count ∙ (b.unlisted gone).0, quiet.known)

          go : (x : Bool) → keep (pid_of p) ≡ x → Beside (accepted_after g (packet t p)) (accepted_after k (or_clock x t p))
          go true kept = record { latest = refl; alike = both (followed (pid_of p)) refl; unlisted = still kept }
          go false gone = record { latest = refl; alike = left (followed_none (pid_of p) gone); unlisted = b.unlisted }
